use Rattle.std.proofs.Common.{◌≡◌, length, Some, vec_items, ap, ◌∙◌, length-append, arith}
use Rattle.script.specs.Format.{number_at, call_of}
use Rattle.script.proofs.Reading.{again}
use Rattle.script.proofs.read.read_calls.Goals as goal

pub loop-letter-preserved : goal.loop-letter-preserved
loop-letter-preserved c =
    let i = c.loop-letter.invariant in
    let e = c.in-Some.ensures.steps in
    let told : call_of c.in-Some.letter.now (number_at c.in-Some.argument.now 0) (number_at c.in-Some.argument.now 2) ≡ Some c.in_ok-call.call = cc c.in_ok-call.ensures.ok_part in
    let more = again _ _ (vec_items c.loop-letter.calls) _ i.3 _ _ _ _ e.0 e.1.1.0 (e.1.1.1 ∙ i.0) c.in_ok-call.call told in
    (e.1.0 ∙ i.0, omega (arith, ap length e.0), omega (arith, ap length e.0, simp length-append at (ap length e.1.1.0)), rw c.push_reserved.ensures.items more)
