-- The size and the check, written behind a half-made block.
use Rattle.std.proofs.Common.{◌≡◌, ℕ, ◌+◌, ◌/◌, ◌%◌, ◌≤◌, List, [], ◌∷◌, ◌++◌, length, take, drop, sym, ap, ◌∙◌, arith}
use Rattle.std.proofs.lemmas.List.{append_assoc, length-append, length-take, length-drop, take-append-drop, drop-drop}
use Rattle.refusal.specs.Buffers.{over, placed}
use Rattle.refusal.proofs.Buffers.{over_more, over_front}
use Rattle.block.specs.Form.{check_bytes}
use Rattle.block.specs.Building.{whole}

pub length_whole : (n : ℕ) (buf : List ℕ) → 6 + n ≤ length buf → length (whole n buf) ≡ 6 + n
length_whole n buf h = simp (length-append, length-take, length-drop) (omega arith)

-- the size alone
resized : (n : ℕ) (buf : List ℕ) → 6 + n ≤ length buf → placed 4 ((n / 256) ∷ (n % 256) ∷ []) buf ≡ over (whole n buf) buf
resized n buf h = rw (length_whole n buf h, append_assoc, ← drop-drop n 6 buf, take-append-drop n (drop 6 buf))

-- the size, and then the check of all that stands before it
pub sealing : (w : ℕ) (value : List ℕ → ℕ) (n : ℕ) (buf sized done : List ℕ) → 6 + n ≤ length buf → sized ≡ placed 4 ((n / 256) ∷ (n % 256) ∷ []) buf → done ≡ placed (6 + n) (check_bytes w (value (take (6 + n) sized))) sized → done ≡ over (whole n buf ++ check_bytes w (value (whole n buf))) buf
sealing w value n buf sized done h e1 e2 =
    let l = sym (length_whole n buf h) in
    let s : sized ≡ over (whole n buf) buf = e1 ∙ resized n buf h in
    let f : take (6 + n) sized ≡ whole n buf = ap (take (6 + n)) s ∙ over_front (whole n buf) buf (6 + n) l in
    let m = over_more (whole n buf) (check_bytes w (value (whole n buf))) buf (6 + n) l in
    cc
