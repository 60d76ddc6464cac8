use Rattle.std.proofs.Common.{length, vec_items}
use Rattle.survey.proofs.Passing.{Left}
use Rattle.survey.proofs.pass.survey.Given as goal

abbrev pub invariant-loop-items : goal.invariant-loop-items
invariant-loop-items g l = Left g.K.Check.code.width g.K.Check.code.value l.capture (vec_items l.items) l.input

abbrev pub decreases-loop-items : goal.decreases-loop-items
decreases-loop-items g l = length l.input
