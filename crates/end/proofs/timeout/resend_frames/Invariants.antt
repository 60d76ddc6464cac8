use Rattle.std.proofs.Common.{◌≡◌, ◌≤◌, take}
use Rattle.outstanding.specs.Frames.{frames}
use Rattle.rules.specs.Sending.{blocks, puts, took, builds}
use Rattle.end.proofs.timeout.resend_frames.Given as goal

-- what the first k frames come to
abbrev pub invariant-loop-k : goal.invariant-loop-k
invariant-loop-k g l = record {
  answer : l.taken ≡ took (g.B.Line.waiting l.initial.outgoing) (blocks g.K.Check.code (take l.k (frames l.outstanding l.store)));
  line : g.B.Line.waiting l.outgoing ≡ puts (g.B.Line.waiting l.initial.outgoing) (blocks g.K.Check.code (take l.k (frames l.outstanding l.store)));
  buffer : l.buf ≡ builds l.initial.buf (blocks g.K.Check.code (take l.k (frames l.outstanding l.store)));
  few : l.taken ≤ l.k;
}
