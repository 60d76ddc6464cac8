-- A list is read as a block exactly if it has the size, the length and the check that its header calls for.
use Rattle.std.proofs.Common.{◌≡◌, ℕ, ◌+◌, ◌≤◌, true, List, length, take, drop, is_ok, Ok, Decides, ap, arith}
use Rattle.std.proofs.lemmas.Slice.Eq.{bytes_eq-Decides}
use Rattle.std.proofs.lemmas.Bool.Decides.{nat_tests}
use Rattle.block.specs.Form.{check_bytes}
use Rattle.block.specs.Reading.{Content, size_of, content_of, checked, read_block}

abbrev Closed : ℕ → (List ℕ → ℕ) → List ℕ → Type 0
Closed w value bs = drop (6 + size_of bs) bs ≡ check_bytes w (value (take (6 + size_of bs) bs))

pub record Whole (w : ℕ) (value : List ℕ → ℕ) (bs : List ℕ) : Type 0 where
  pub small : size_of bs ≤ 512
  pub long : length bs ≡ 6 + size_of bs + w
  pub closed : Closed w value bs

module _ (w : ℕ) (value : List ℕ → ℕ) (bs : List ℕ) where
  decides : Decides (checked w value bs) (Closed w value bs)
  decides = bytes_eq-Decides (drop (6 + size_of bs) bs) (check_bytes w (value (take (6 + size_of bs) bs)))

  pub read_whole : Whole w value bs → read_block w value bs ≡ Ok (content_of bs)
  unfolding read_block
  read_whole a = let d = decides.1 a.closed in grind (arith, nat_tests)

  pub whole_read : is_ok (read_block w value bs) ≡ true → Whole w value bs
  unfolding read_block
  whole_read r = record { small = grind (arith, nat_tests); long = grind (arith, nat_tests); closed = decides.0 (grind (arith, nat_tests)) }

  pub content_read : (c : Content) → read_block w value bs ≡ Ok c → c ≡ content_of bs
  content_read c e = let r = read_whole (whole_read (ap is_ok e)) in cc
