use Rattle.std.proofs.Common.{sym, ◌∙◌, rules}
use Rattle.rules.specs.Calls.{due, times_out}
use Rattle.end.specs.Views.{view}
use Rattle.end.proofs.Fronts.{has_room, has_no_room, view_front, due_short, front_kept, front_built}
use Rattle.end.proofs.Resending.{resends_none, resends_again, resends_last}
use Rattle.end.proofs.end.End.timeout.Goals as goal

pub returns-in_default-first_chunk_mut-clause-step : goal.returns-in_default-first_chunk_mut-clause-step
unfolding times_out
returns-in_default-first_chunk_mut-clause-step g c =
    let room = has_no_room c.args.store.now c.args.scratch.now c.in_default-first_chunk_mut.ensures.cases in
    search rules

pub returns-then-is_idle-clause-step : goal.returns-then-is_idle-clause-step
unfolding times_out
returns-then-is_idle-clause-step g c =
    let lent = c.in-Some-first_chunk_mut.ensures.cases in
    let room = has_room c.args.store.now c.args.scratch.now c.in-Some.ensures.cases.enough lent.enough in
    front_kept _ _ _ _ _ _ lent (search rules)

pub returns-then-not-waits-clause-step : goal.returns-then-not-waits-clause-step
unfolding times_out
returns-then-not-waits-clause-step g c =
    let v = view c.args.self.now c.args.store.now in
    let w = c.waits.ensures c.args.store.now in
    let e = resends_none g.K.Check.code (due v.seat.state v) v (g.B.Line.waiting c.args.outgoing.now) c.args.scratch.now (sym w ∙ c.if-not-waits.true) in
    let lent = c.in-Some-first_chunk_mut.ensures.cases in
    let room = has_room c.args.store.now c.args.scratch.now c.in-Some.ensures.cases.enough lent.enough in
    front_kept _ _ _ _ _ _ lent (search (rules, e))

pub returns-then-self-ge-RESENDS-clause-step : goal.returns-then-self-ge-RESENDS-clause-step
unfolding times_out
returns-then-self-ge-RESENDS-clause-step g c =
    let v = view c.args.self.now c.args.store.now in
    let w = c.waits.ensures c.args.store.now in
    let e = resends_last g.K.Check.code (due v.seat.state v) v (g.B.Line.waiting c.args.outgoing.now) c.args.scratch.now (sym w ∙ c.if-not-waits.false) c.if-self-ge-RESENDS.true in
    let lent = c.in-Some-first_chunk_mut.ensures.cases in
    let room = has_room c.args.store.now c.args.scratch.now c.in-Some.ensures.cases.enough lent.enough in
    front_kept _ _ _ _ _ _ lent (search (rules, e))

pub returns-clause-step : goal.returns-clause-step
unfolding times_out
returns-clause-step g c =
    let o = c.args.self.now in
    let v = view o c.args.store.now in
    let w = c.waits.ensures c.args.store.now in
    let e = resends_again g.K.Check.code (due v.seat.state v) v (g.B.Line.waiting c.args.outgoing.now) c.args.scratch.now (sym w ∙ c.if-not-waits.false) c.if-self-ge-RESENDS.false in
    let lent = c.in-Some-first_chunk_mut.ensures.cases in
    let room = has_room c.args.store.now c.args.scratch.now c.in-Some.ensures.cases.enough lent.enough in
    let seen = view_front o c.args.store.now c.in-Some.store.now c.in-Some.ensures.cases in
    let r = rw seen at c.resend-taken.ensures in
    front_built _ _ _ _ _ _ lent g.K.Check.code g.met.K.Check.lawful.few (due v.seat.state v) (due_short o c.args.store.now) _ r.buffer (search (rules, e))
