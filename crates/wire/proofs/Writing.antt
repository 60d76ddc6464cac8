-- A frame grows in the buffer by one byte's wire form at a time.
use Rattle.std.proofs.Common.{◌≡◌, ℕ, ◌+◌, ◌*◌, ◌<◌, ◌≤◌, Bool, true, false, cond, List, [], ◌∷◌, ◌++◌, length, count_by, get_or, take, drop, set, Ok, Err, sym, refl, ap, ◌∙◌, arith, lit≤}
use lib.Seq.{sets}
use Rattle.std.proofs.lemmas.List.{append-nil, append_assoc, length-append, length-drop, length-set, take_more, take_all, take_at, drop_at, drop-drop, drop-set-lt}
use Rattle.std.proofs.lemmas.List.Edits.{sets-eq}
use Rattle.std.proofs.lemmas.List.Sums.{sum_by-cons, count_by-le-length}
use Rattle.std.proofs.lemmas.Bool.{cond_both, ltb-false, or_parts}
use Rattle.refusal.specs.declared.Refusal.{Refusal}
use Rattle.wire.specs.Form.{reserved, escaped, inner, framed}
use Rattle.refusal.specs.Buffers.{over}
use Rattle.wire.specs.Calls.{unfit}

pub inner_nil : inner [] ≡ []
unfolding inner
inner_nil = refl

pub inner_push : (xs : List ℕ) (x : ℕ) → inner (xs ++ x ∷ []) ≡ inner xs ++ escaped x
unfolding inner
inner_push [] x = append-nil (escaped x)
inner_push (y ∷ xs) x = ap (λ z. escaped y ++ z) (inner_push xs x) ∙ sym (append_assoc (escaped y) (inner xs) (escaped x))

pub inner_more : (xs : List ℕ) (i : ℕ) → i < length xs → inner (take (i + 1) xs) ≡ inner (take i xs) ++ escaped (get_or xs i 0)
inner_more xs i h = ap inner (take_more xs i 0 h) ∙ inner_push (take i xs) (get_or xs i 0)

length-escaped : (b : ℕ) → length (escaped b) ≡ 1 + cond (reserved b) 1 0
length-escaped b = sizes (reserved b)
  where
    sizes : (t : Bool) → length (cond t (0x1b ∷ (b + 0x80) ∷ []) (b ∷ [])) ≡ 1 + cond t 1 0
    sizes true = refl
    sizes false = refl

-- one byte more for each that is escaped
length-inner : (bs : List ℕ) → length (inner bs) ≡ length bs + count_by reserved bs
unfolding inner
length-inner [] = refl
length-inner (b ∷ bs) = omega (arith, length-inner bs, length-append (escaped b) (inner bs), length-escaped b, sum_by-cons (λ x. cond (reserved x) 1 0) b bs)

pub inner_fits : (bs : List ℕ) → length (inner bs) ≤ 2 * length bs
inner_fits bs = omega (arith, length-inner bs, count_by-le-length reserved bs)

pub length_framed : (bs : List ℕ) → length (framed bs) ≡ length bs + count_by reserved bs + 2
length_framed bs = omega (arith, length-inner bs, length-append (inner bs) (0x03 ∷ []))

pub escaped_fits : (b : ℕ) → length (escaped b) ≤ 2
escaped_fits b = cond_both (reserved b) _ _ (λ x. length x ≤ 2) (λ _. lit≤ tt) (λ _. lit≤ tt)

-- bytes written behind the front are part of it
pub over_more : (front bytes buf : List ℕ) (n : ℕ) → n ≡ length front → n + length bytes ≤ length buf → sets (over front buf) n bytes ≡ over (front ++ bytes) buf
over_more front bytes buf n e h =
    let k : length (over front buf) ≡ length buf = simp (length-append, length-drop) (omega arith) in
    let behind : drop (n + length bytes) (over front buf) ≡ drop (length (front ++ bytes)) buf =
    sym (drop-drop (length bytes) n (over front buf))
    ∙ (ap (drop (length bytes)) (drop_at front (drop (length front) buf) n (sym e))
    ∙ (drop-drop (length bytes) (length front) buf
    ∙ ap (λ z. drop z buf) (sym (length-append front bytes)))) in
    sets-eq bytes (over front buf) n (omega arith)
    ∙ (ap (λ z. z ++ bytes ++ drop (n + length bytes) (over front buf)) (take_at front (drop (length front) buf) n (sym e))
    ∙ ap (λ z. (front ++ bytes) ++ z) behind)

-- what a block that is not refused passed
pub accepted : (block : List ℕ) (why : Refusal) (x : Unit {0}) → Ok x ≡ cond (unfit block) (Err why) (Ok tt) → (unfit block ≡ false) × (length block ≤ 520)
accepted block why x h = let e = left (unfit block) h in (e, ltb-false 520 (length block) (or_parts _ _ e).1)
  where
    left : (b : Bool) → Ok x ≡ cond b (Err why) (Ok tt) → b ≡ false
    left true h = cc
    left false h = refl

-- the buffer as the frame begins
pub begun : (buf : List ℕ) → 0 < length buf → set buf 0 0x02 ≡ over (0x02 ∷ inner []) (set buf 0 0x02)
unfolding inner
begun [] h = let z : ⊥ = omega arith in absurd z
begun (x ∷ buf) h = refl

module _ (block : List ℕ) (i n : ℕ) where
  -- and one byte of the block on
  pub grown : (buf out : List ℕ) → i < length block → n ≡ length (0x02 ∷ inner (take i block)) → n + 2 ≤ length buf → out ≡ over (0x02 ∷ inner (take i block)) buf → sets out n (escaped (get_or block i 0)) ≡ over (0x02 ∷ inner (take (i + 1) block)) buf
  grown buf out h e l o =
      let bytes = escaped (get_or block i 0) in
      ap (λ z. sets z n bytes) o
      ∙ (over_more (0x02 ∷ inner (take i block)) bytes buf n e (omega (arith, escaped_fits (get_or block i 0)))
      ∙ ap (λ z. over (0x02 ∷ z) buf) (sym (inner_more block i h)))

  -- and with its last byte
  pub ended : (buf out : List ℕ) → length block ≤ i → n ≡ length (0x02 ∷ inner (take i block)) → n < length buf → out ≡ over (0x02 ∷ inner (take i block)) (set buf 0 0x02) → set out n 0x03 ≡ over (framed block) buf
  ended buf out all e h o =
      let l : n + length {A = ℕ} (0x03 ∷ []) ≤ length (set buf 0 0x02) = simp length-set (omega arith) in
      ap (λ z. set z n 0x03) o
      ∙ (over_more (0x02 ∷ inner (take i block)) (0x03 ∷ []) (set buf 0 0x02) n e l
      ∙ (ap (λ z. over (framed z) (set buf 0 0x02)) (take_all i block all)
      ∙ ap (λ z. framed block ++ z) (drop-set-lt (length (framed block)) buf 0 0x02 (omega arith))))

pub framed_length : (block : List ℕ) (i : ℕ) → length block ≤ i → length (inner (take i block)) + 2 ≡ length (framed block)
framed_length block i all =
    let k : length (framed block) ≡ length (inner block) + 2 = simp length-append (omega arith) in
    ap (λ z. length (inner z) + 2) (take_all i block all) ∙ sym k
