-- What is read of bytes: the parts of a frame, and its check as the code compares it.
use Rattle.std.proofs.Common.{◌≡◌, ℕ, ◌+◌, ◌-◌, ◌/◌, ◌%◌, ◌<◌, Bool, not, List, [], ◌∷◌, length, take, drop, ap, ◌∙◌, arith}
use Rattle.std.proofs.lemmas.List.{take_rest, drop-drop}
use Rattle.std.specs.Str.{bytes_eq}
use Rattle.block.specs.Form.{check_bytes}
use Rattle.block.specs.Reading.{size_of, checked}
use Rattle.block.proofs.Checking.{tail_bytes}

-- `r` says that the check's bytes are others than those behind the payload
pub compared : (w : ℕ) (value : List ℕ → ℕ) (bs rest pair : List ℕ) (n k v : ℕ) (r : Bool) → n ≡ size_of bs → k ≡ w → rest ≡ drop 6 bs → v ≡ value (take (6 + n - 0) bs) → v < 65536 → pair ≡ (v / 256 % 256) ∷ (v % 256) ∷ [] → r ≡ not (bytes_eq (take (length rest - n) (drop n rest)) (take (2 - (2 - k)) (drop (2 - k) pair))) → r ≡ not (checked w value bs)
compared w value bs rest pair n k v r e1 e2 e3 e4 h e5 e6 =
    let z : 6 + n - 0 ≡ 6 + size_of bs = omega arith in
    let a : take (length rest - n) (drop n rest) ≡ drop (6 + size_of bs) bs = take_rest rest n ∙ (ap (drop n) e3 ∙ (drop-drop n 6 bs ∙ ap (λ m. drop (6 + m) bs) e1)) in
    let b : take (2 - (2 - k)) (drop (2 - k) pair) ≡ check_bytes w (value (take (6 + size_of bs) bs)) = tail_bytes k v pair h e5 ∙ (ap (λ m. check_bytes m v) e2 ∙ ap (check_bytes w) (e4 ∙ ap (λ m. value (take m bs)) z)) in
    e6 ∙ rw (a, b)
