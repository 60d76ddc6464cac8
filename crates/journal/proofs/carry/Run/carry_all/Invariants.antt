use Rattle.std.proofs.Common.{◌≡◌, take}
use Rattle.journal.specs.Runs.{ran, shows, Level}
use Rattle.journal.proofs.carry.Run.carry_all.Given as goal

-- so many calls have been carried out, and no more was cleared than accepted
abbrev pub invariant-loop-call : goal.invariant-loop-call
invariant-loop-call g l =
    (shows g.A.Line g.B.Line l.self l.scratch ≡ ran g.K.Check.code l.payloads (shows g.A.Line g.B.Line l.initial.self l.initial.scratch) (take l.call-index l.calls))
    × Level (shows g.A.Line g.B.Line l.self l.scratch)
