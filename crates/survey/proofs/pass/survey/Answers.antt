use Rattle.std.proofs.Common.{rules}
use Rattle.survey.proofs.Passing.{begins, less, again, ends}
use Rattle.survey.proofs.pass.survey.Goals as goal

pub loop-items-init : goal.loop-items-init
loop-items-init g c = begins g.K.Check.code.width g.K.Check.code.value c.args.capture.now _ _ (search rules) (search rules)

pub loop-items-smaller : goal.loop-items-smaller
loop-items-smaller g c = less _ _ c.args.capture.now _ _ c.loop-items.input.now _ c.in-Some.rest c.in-Some.is c.in_ok-rest.ensures

pub loop-items-preserved : goal.loop-items-preserved
loop-items-preserved g c = again _ _ _ _ _ c.loop-items.input.now _ c.in-Some.rest c.in-Some.is c.loop-items.invariant c.in_ok-rest.ensures

pub returns : goal.returns
returns g c = ends _ _ _ _ _ c.loop-items.input.now _ c.in_default.is c.loop-items.invariant c.in_ok-rest.ensures
