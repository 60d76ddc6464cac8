-- A put and a take where they are not refused.
use Rattle.std.proofs.Common.{◌≡◌, ℕ, ◌<◌, ◌≤◌, true, List, [], ◌∷◌, ◌++◌, length, get_or, Ok, refl, arith}
use Rattle.std.proofs.lemmas.Bool.Decides.{nat_tests}
use Rattle.refusal.specs.Buffers.{over}
use Rattle.line.specs.Blocks.{carried, oldest, later, put_answer, put_after, take_answer, take_after, take_buffer}

module _ (waiting : List (List ℕ)) (block : List ℕ) (fit : carried block ≡ true) (room : length waiting < 16) where
  pub put_taken : put_answer waiting block ≡ Ok tt
  put_taken = grind (arith, nat_tests)

  pub put_adds : put_after waiting block ≡ waiting ++ block ∷ []
  put_adds = grind (arith, nat_tests)

module _ (waiting : List (List ℕ)) (buf : List ℕ) (long : 520 ≤ length buf) (some : 0 < length waiting) where
  pub take_gives : take_answer waiting buf ≡ Ok (length (oldest waiting))
  take_gives = grind (arith, nat_tests)

  pub take_leaves : take_after waiting buf ≡ later waiting
  take_leaves = grind (arith, nat_tests)

  pub take_writes : take_buffer waiting buf ≡ over (oldest waiting) buf
  take_writes = grind (arith, nat_tests)

-- the oldest is the first
pub oldest_first : (waiting : List (List ℕ)) → oldest waiting ≡ get_or waiting 0 []
oldest_first [] = refl
oldest_first (b ∷ bs) = refl
