-- Frames one behind the other read back as the blocks that they are made of.
use Rattle.std.specs.Prelude.{◌≡◌, ℕ, zero, suc, ◌-◌, ◌*◌, ◌<◌, ◌≤◌, true, List, [], ◌∷◌, ◌++◌, length, drop, refl}
use Rattle.std.proofs.Common.{sym, ap, ◌∙◌, sub-one, arith, lit≤}
use Rattle.std.proofs.lemmas.List.{append-nil, append_assoc, length-append, drop_at}
use Rattle.std.proofs.lemmas.Bool.{and_parts, ltb-true, leb-true}
use Rattle.line.specs.Blocks.{carried}
use Rattle.wire.specs.Form.{Found, framed, found}
use Rattle.wire.proofs.Rereading.{read_back}
use Rattle.wire.proofs.Writing.{inner_fits}
use Rattle.wire_line.specs.Frames.{blocks, flat, Begins, Carries}

pub sizes : (b : List ℕ) → carried b ≡ true → (1 ≤ length b) × (length b ≤ 520)
sizes b e = let p = and_parts _ _ e in (ltb-true 0 (length b) p.0, leb-true (length b) 520 p.1)

pub first : (b : List ℕ) (bs : List (List ℕ)) → Carries (b ∷ bs) → carried b ≡ true
first b bs each = each 0 (omega arith)

pub others : (b : List ℕ) (bs : List (List ℕ)) → Carries (b ∷ bs) → Carries bs
others b bs each k h = each (suc k) (omega arith)

pub framed_fits : (b : List ℕ) → length b ≤ 520 → length (framed b) ≤ 1042
framed_fits b h = let l = inner_fits b in simp length-append (omega arith)

pub flat_fits : (bs : List (List ℕ)) → Carries bs → length (flat bs) ≤ 1042 * length bs
unfolding flat
flat_fits [] each = lit≤ tt
flat_fits (b ∷ bs) each =
    let l = framed_fits b (sizes b (first b bs each)).1 in
    let m = flat_fits bs (others b bs each) in
    let a = length-append (framed b) (flat bs) in
    omega arith

pub flat_push : (bs : List (List ℕ)) (b : List ℕ) → flat (bs ++ b ∷ []) ≡ flat bs ++ framed b
unfolding flat
flat_push [] b = append-nil (framed b)
flat_push (c ∷ bs) b = ap (λ z. framed c ++ z) (flat_push bs b) ∙ sym (append_assoc (framed c) (flat bs) (framed b))

pub blocks_first : (n : ℕ) (bytes : List ℕ) → 0 < n → blocks n bytes ≡ (found bytes).block ∷ blocks (n - 1) (found bytes).rest
unfolding blocks
blocks_first zero bytes h = absurd (omega arith)
blocks_first (suc n) bytes h = ap (λ z. (found bytes).block ∷ blocks z (found bytes).rest) (sym (sub-one (suc n)))

pub blocks_flat : (bs : List (List ℕ)) → Carries bs → blocks (length bs) (flat bs) ≡ bs
unfolding blocks flat
blocks_flat [] each = refl
blocks_flat (b ∷ bs) each =
    let s = sizes b (first b bs each) in
    ap (λ (f : Found). f.block ∷ blocks (length bs) f.rest) (read_back b (flat bs) s.0 s.1)
    ∙ ap (λ z. b ∷ z) (blocks_flat bs (others b bs each))

pub carries_push : (bs : List (List ℕ)) (b : List ℕ) → Carries bs → carried b ≡ true → Carries (bs ++ b ∷ [])
carries_push [] b each e zero h = e
carries_push [] b each e (suc k) h = absurd (omega arith)
carries_push (c ∷ bs) b each e zero h = first c bs each
carries_push (c ∷ bs) b each e (suc k) h = carries_push bs b (others c bs each) e k (omega arith)

-- what lies behind the first frame
pub drop_first : (bytes : List ℕ) → Begins bytes → drop (length bytes - length (found bytes).rest) bytes ≡ (found bytes).rest
drop_first bytes b =
    let first = framed (found bytes).block in
    let rest = (found bytes).rest in
    let n = length bytes - length rest in
    let l : n ≡ length first = omega (arith, ap length b.whole, length-append first rest) in
    ap (drop n) b.whole ∙ drop_at first rest n (sym l)
