use Rattle.std.proofs.Common.{◌≡◌, ◌-◌, arith}
use Rattle.block.proofs.Checking.{tail_bytes}
use Rattle.block.proofs.build.close.Goals as goal

pub returns : goal.returns
returns g c =
    let t = tail_bytes c.width-w.result c.value.result c.to_be_bytes-value.result (omega arith) c.to_be_bytes-value.ensures in
    let n : c.args.n - 0 ≡ c.args.n = omega arith in
    record { answer = omega arith; after = cc }
