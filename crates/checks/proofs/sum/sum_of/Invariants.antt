use Rattle.std.proofs.Common.{◌≡◌, take}
use Rattle.block_check.specs.Law.{Bytes}
use Rattle.checks.specs.Sums.{sum_value}
use Rattle.checks.proofs.sum.sum_of.Given as goal

abbrev pub invariant-loop-b : goal.invariant-loop-b
invariant-loop-b l = (l.total ≡ sum_value (take l.b-index l.bytes)) × Bytes (take l.b-index l.bytes)
