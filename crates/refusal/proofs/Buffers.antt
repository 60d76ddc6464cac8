-- One part of a buffer written behind another.
use Rattle.std.proofs.Common.{◌≡◌, ℕ, ◌+◌, ◌-◌, ◌≤◌, List, ◌++◌, length, take, drop, sym, refl, ap, arith}
use borrow.Rule.Slice.PartMut.{put_mid}
use Rattle.std.proofs.lemmas.List.{append_assoc, length-append, drop-drop, take_at, drop_at}
use Rattle.std.proofs.lemmas.Slice.{drop-append-drop}
use Rattle.refusal.specs.Buffers.{over, placed}

-- a part that is lent on for writing
pub pasted : (at n : ℕ) (buf written part : List ℕ) → n ≡ length part → written ≡ part → put_mid at (at + n - at) buf written ≡ placed at part buf
pasted at n buf written part e h = let f : at + n - at ≡ length part = omega arith in let d = drop-drop (length part) at buf in cc

-- behind what is at the front already
pub over_more : (front more buf : List ℕ) (n : ℕ) → n ≡ length front → placed n more (over front buf) ≡ over (front ++ more) buf
over_more front more buf n e =
    let behind = drop (length front) buf in
    let t : take n (front ++ behind) ≡ front = take_at front behind n (sym e) in
    let d : drop n (front ++ behind) ≡ behind = drop_at front behind n (sym e) in
    let dd : drop (length more) (drop n (front ++ behind)) ≡ drop (n + length more) (front ++ behind) = drop-drop (length more) n (front ++ behind) in
    let de : drop (length more) behind ≡ drop (length front + length more) buf = drop-drop (length more) (length front) buf in
    let l : length (front ++ more) ≡ length front + length more = length-append front more in
    let a : (front ++ more) ++ drop (length (front ++ more)) buf ≡ front ++ (more ++ drop (length (front ++ more)) buf) = append_assoc front more (drop (length (front ++ more)) buf) in
    cc

-- a longer part over a shorter one
pub over_over : (short long buf : List ℕ) → length short ≤ length long → over long (over short buf) ≡ over long buf
over_over short long buf h = ap (λ x. long ++ x) (drop-append-drop (length short) buf short (length long) h refl)

pub over_front : (front buf : List ℕ) (n : ℕ) → n ≡ length front → take n (over front buf) ≡ front
over_front front buf n e = take_at front (drop (length front) buf) n (sym e)
