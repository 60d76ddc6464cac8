use Rattle.std.proofs.Common.{get_or, sym, ap, ◌∙◌, subst}
use Rattle.std.proofs.lemmas.List.Sums.{fold_more}
use Rattle.rules.specs.declared.seat.Side.TheVariants.{Controller}
use Rattle.rules.specs.declared.call.Call.{Call}
use Rattle.rules.specs.declared.call.Step.TheVariants.{Open}
use Rattle.journal.specs.Runs.{Ran, goes_on, shows, Level}
use Rattle.journal.proofs.Lawful.{stays_level}
use Rattle.journal.proofs.carry.Run.carry_all.Goals as goal

pub loop-call-preserved : goal.loop-call-preserved
loop-call-preserved g c =
    let k = g.K.Check.code in
    let payloads = c.args.payloads.now in
    let calls = c.args.calls.now in
    let i = c.loop-call.call-index in
    let start = shows g.A.Line g.B.Line c.args.self.now c.args.scratch.now in
    let before = shows g.A.Line g.B.Line c.loop-call.self c.loop-call.scratch in
    let done = c.in_ok-carry.ensures.ok in
    let first : Call = record { side = Controller; step = Open } in
    let more = fold_more (goes_on k payloads) start calls i first c.loop-call-test.true in
    (done ∙ (ap (λ (r : Ran). goes_on k payloads r (get_or calls i first)) c.loop-call.invariant.0 ∙ sym more), subst Level (sym done) (stays_level k payloads before _ c.loop-call.invariant.1))
