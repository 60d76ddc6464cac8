-- A check's value as the bytes that the code writes and compares.
use Rattle.std.proofs.Common.{◌≡◌, ℕ, ◌-◌, ◌/◌, ◌%◌, ◌<◌, ◌≤◌, List, [], ◌∷◌, length, take, drop, ap, ◌∙◌, arith}
use Rattle.std.proofs.lemmas.List.{take_rest, length-drop}
use Rattle.block.specs.Form.{check_bytes}

-- a number of two bytes, high byte first
pub high_low : (n : ℕ) (b : List ℕ) → n < 65536 → b ≡ (n / 256 % 256) ∷ (n % 256) ∷ [] → b ≡ (n / 256) ∷ (n % 256) ∷ []
high_low n b h e = let m : n / 256 % 256 ≡ n / 256 = omega arith in cc

-- the last w bytes of a number of two bytes, high byte first
pub tail_bytes : (w v : ℕ) (b : List ℕ) → v < 65536 → b ≡ (v / 256 % 256) ∷ (v % 256) ∷ [] → take (2 - (2 - w)) (drop (2 - w) b) ≡ check_bytes w v
tail_bytes w v b h e = ap (λ x. take (2 - (2 - w)) (drop (2 - w) x)) (high_low v b h e) ∙ take_rest ((v / 256) ∷ (v % 256) ∷ []) (2 - w)

pub length-check : (w v : ℕ) → w ≤ 2 → length (check_bytes w v) ≡ w
length-check w v h = length-drop (2 - w) ((v / 256) ∷ (v % 256) ∷ []) ∙ omega arith
