use Rattle.std.proofs.Common.{arith}
use Rattle.std.proofs.lemmas.Bool.Decides.{nat_tests}
use Rattle.wire_line.proofs.Kept.{put_kept}
use Rattle.wire_line.proofs.calls.WireLineLine.put.Goals as goal

pub invariant_of-self : goal.invariant_of-self
invariant_of-self c = record {
  kept = put_kept c.args.self.now c.append.new.bytes c.append.ensures.capacity c.args.block.now c.append.ensures.after c.if-self-ge-MOST.false (grind (arith, nat_tests));
}
