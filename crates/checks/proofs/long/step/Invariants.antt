use Rattle.std.proofs.Common.{◌≡◌}
use Rattle.checks.specs.Crc.{bits}
use Rattle.checks.proofs.long.step.Given as goal

abbrev pub invariant-loop-i : goal.invariant-loop-i
invariant-loop-i l = l.s ≡ bits l._i l.initial.s
