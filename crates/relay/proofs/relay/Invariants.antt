use Rattle.std.proofs.Common.{◌≡◌, ◌++◌, length, take, drop}
use Rattle.relay.specs.Moving.{passed}
use Rattle.relay.proofs.relay.Given as goal

-- so many blocks have gone over
abbrev pub invariant-loop-moved : goal.invariant-loop-moved
invariant-loop-moved g l =
    (g.A.Line.waiting l.from ≡ drop l._moved (g.A.Line.waiting l.initial.from))
    × (g.B.Line.waiting l.to ≡ g.B.Line.waiting l.initial.to ++ take l._moved (g.A.Line.waiting l.initial.from))
    × (l.buf ≡ passed (take l._moved (g.A.Line.waiting l.initial.from)) l.initial.buf)
    × (length l.buf ≡ length l.initial.buf)
