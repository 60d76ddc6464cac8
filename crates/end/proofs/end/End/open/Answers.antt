use Rattle.std.proofs.Common.{[], ◌∷◌, rules, arith}
use Rattle.rules.specs.Frames.{log_in_frame}
use Rattle.rules.specs.Calls.{opens, first_log_in}
use Rattle.end.proofs.Fronts.{has_room, front_kept, front_built}
use Rattle.end.proofs.end.End.open.Goals as goal

pub returns-then-not-is_initial-clause-step : goal.returns-then-not-is_initial-clause-step
unfolding opens
returns-then-not-is_initial-clause-step g c =
    let room = has_room c.args.store.now c.args.scratch.now (omega arith) c.in-Some.ensures.cases.enough in
    front_kept _ _ _ _ _ _ c.in-Some.ensures.cases (search rules)

pub returns-clause-step : goal.returns-clause-step
unfolding opens
returns-clause-step g c =
    let s = c.args.self.now.seat in
    let room = has_room c.args.store.now c.args.scratch.now (omega arith) c.in-Some.ensures.cases.enough in
    front_built _ _ _ _ _ _ c.in-Some.ensures.cases g.K.Check.code g.met.K.Check.lawful.few
    (log_in_frame s.side (first_log_in s) ∷ []) (omega arith, tt) _ c.emit_log_in-took.ensures.buffer (search rules)
