use Rattle.std.proofs.Common.{[], ◌∷◌, rules, arith}
use Rattle.rules.specs.Calls.{sends_record}
use Rattle.end.proofs.Fronts.{has_room, front_kept, front_built}
use Rattle.end.proofs.end.End.send.Goals as goal

pub returns-in_err-may_send-clause-step : goal.returns-in_err-may_send-clause-step
unfolding sends_record
returns-in_err-may_send-clause-step g c =
    let room = has_room c.args.store.now c.args.scratch.now (omega arith) c.in-Some.ensures.cases.enough in
    let m = c.in_err-may_send.ensures.answer c.args.store.now in
    front_kept _ _ _ _ _ _ c.in-Some.ensures.cases (search rules)

pub returns-clause-step : goal.returns-clause-step
unfolding sends_record
returns-clause-step g c =
    let room = has_room c.args.store.now c.args.scratch.now (omega arith) c.in-Some.ensures.cases.enough in
    let m = c.in_ok-may_send.ensures.answer c.args.store.now in
    front_built _ _ _ _ _ _ c.in-Some.ensures.cases g.K.Check.code g.met.K.Check.lawful.few
    (record { heading = c.heading_of-heading.result; payload = c.args.payload.now } ∷ []) (c.in_ok-may_send.ensures.ok.1, tt) _ c.emit-took.ensures.buffer (search rules)
