-- A proof that stands here since the sum check's law cites it.
use Rattle.std.specs.Prelude.{◌≡◌, ℕ, ◌<◌, List, length, slice_index, slice_index_or, slice_set}
use Rattle.std.proofs.Common.{arith}
use Rattle.std.proofs.ByRecursion.{All-get_or}
use Rattle.std.proofs.lemmas.List.Sums.{sum_by-set}
use Rattle.block_check.specs.Law.{Bytes, Lawful}
use Rattle.checks.specs.Shared.{tells_writes}
use Rattle.checks.specs.Sums.{sum_value}

-- two bytes that move the sum by a multiple of 256 are one
sum_same : (xs : List ℕ) (i v : ℕ) → Bytes xs → v < 256 → i < length xs → sum_value (slice_set xs i v) ≡ sum_value xs → v ≡ slice_index xs i
sum_same xs i v bytes small l e =
    let old : slice_index_or xs i 0 < 256 = All-get_or (λ b. b < 256) xs i 0 l bytes in
    omega (arith, sum_by-set (λ x. x) xs i v 0 l)

pub sum_lawful : Lawful 1 sum_value
sum_lawful = record {
  some = omega arith;
  few = omega arith;
  fits = λ bs _. omega arith;
  tells = tells_writes sum_value sum_same;
}
