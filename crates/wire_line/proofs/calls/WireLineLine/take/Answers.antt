use Rattle.std.proofs.Common.{arith}
use Rattle.wire_line.proofs.Kept.{take_kept}
use Rattle.wire_line.proofs.calls.WireLineLine.take.Goals as goal

pub invariant_of-self : goal.invariant_of-self
invariant_of-self c =
    let s = c.split_first-n in
    record { kept = take_kept c.args.self.now (omega (arith, c.if-self-eq0.false)) s.new.bytes s.ensures.capacity s.ensures.after }
