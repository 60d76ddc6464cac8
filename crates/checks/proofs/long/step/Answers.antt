use Rattle.std.proofs.Common.{◌≡◌, ◌*◌, ◌%◌, arith}
use Rattle.checks.specs.Crc.{stepped}
use Rattle.checks.proofs.long.step.Goals as goal

pub returns : goal.returns
unfolding stepped
returns c =
    let n : c.loop-i._i ≡ 8 = omega arith in
    let m : c.args.b * 256 % 65536 ≡ c.args.b * 256 = omega arith in
    cc
