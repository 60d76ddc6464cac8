-- A block that is found stands in the input as its frame.
use Rattle.std.proofs.Common.{◌≡◌, ℕ, ◌-◌, ◌≤◌, true, false, ◌||◌, eqb, ltb, List, [], ◌∷◌, ◌++◌, length, take, sym, refl, ap, ◌∙◌, arith}
use Rattle.std.proofs.lemmas.List.{append_assoc, length-append, take_at}
use Rattle.std.proofs.lemmas.Bool.{cond-false, cond_both, or_from, eqb-true}
use Rattle.wire.specs.declared.scan.Place.{Place}
use Rattle.wire.specs.declared.scan.Place.TheVariants.{Outside, Inside, Escaped}
use Rattle.wire.specs.declared.scan.Act.{Act}
use Rattle.wire.specs.declared.scan.Act.TheVariants.{Begin, Finish, Escape, Keep}
use Rattle.wire.specs.Form.{Found, escaped, inner, framed, act_in, act_of, acted, scanned, found}
use Rattle.wire.specs.Theorems.{FramedIn, gap}
use Rattle.std.proofs.lemmas.Bool.Decides.{nat_tests}
use Rattle.wire.proofs.Writing.{inner_nil, inner_push}

-- the bytes of the frame that the scan has behind it
abbrev behind : Place → List ℕ → List ℕ
behind Outside sofar = []
behind Inside sofar = 0x02 ∷ inner sofar
behind Escaped sofar = 0x02 ∷ (inner sofar ++ 0x1b ∷ [])

-- the block found, if any, stands in the bytes as its frame
abbrev Stands : List ℕ → Found → Type 0
Stands xs f = 1 ≤ length f.block → (before : List ℕ) × (xs ≡ before ++ (framed f.block ++ f.rest))

later : (ys xs : List ℕ) (f : Found) → Stands xs f → Stands (ys ++ xs) f
later ys xs f s h = let k = s h in (ys ++ k.0, ap (λ z. ys ++ z) k.1 ∙ sym (append_assoc ys k.0 _))

moved : (xs ys : List ℕ) (f : Found) → xs ≡ ys → Stands ys f → Stands xs f
moved xs ys f e s h = let k = s h in (k.0, e ∙ k.1)

-- a byte behind 1Bh that stands for another is that byte's wire form
twin : (b : ℕ) → (eqb b 0x82 || (eqb b 0x83 || eqb b 0x9b)) ≡ true → 0x1b ∷ b ∷ [] ≡ escaped (b - 0x80)
twin b e = grind (arith, nat_tests)

-- one byte, where the claim holds of what follows
module _ (bs : List ℕ) (on : (q : Place) (v : List ℕ) → Stands (behind q v ++ bs) (scanned q v bs)) (sofar : List ℕ) (b : ℕ) where
  abbrev By : Place → Act → Type 0
  By p a = Stands (behind p sofar ++ b ∷ bs) (acted p sofar bs (λ q v. scanned q v bs) a)

  -- the frame is given up
  left : (p : Place) → Stands (behind p sofar ++ b ∷ bs) (scanned Outside [] bs)
  left p = later (behind p sofar) (b ∷ bs) _ (later (b ∷ []) bs _ (on Outside []))

  began : (p : Place) → eqb b 0x02 ≡ true → By p Begin
  began p e = later (behind p sofar) (b ∷ bs) _ (moved _ _ _ (ap (λ z. z ∷ bs) (eqb-true b 0x02 e) ∙ rw inner_nil) (on Inside []))

  kept : (p : Place) (x : ℕ) → behind p sofar ++ b ∷ [] ≡ 0x02 ∷ (inner sofar ++ escaped x) → By p (Keep x)
  kept p x e =
      cond_both (ltb (length sofar) 520) _ _ (Stands (behind p sofar ++ b ∷ bs))
      (λ _. moved _ _ _ (sym (append_assoc (behind p sofar) (b ∷ []) bs) ∙ ap (λ z. z ++ bs) (e ∙ ap (λ z. 0x02 ∷ z) (sym (inner_push sofar x)))) (on Inside (sofar ++ x ∷ [])))
      (λ _. left p)

  ended : eqb b 0x03 ≡ true → By Inside Finish
  ended e =
      cond_both (eqb (length sofar) 0) _ _ (Stands (behind Inside sofar ++ b ∷ bs))
      (λ _. left Inside)
      (λ _ _. ([], ap (λ z. (0x02 ∷ inner sofar) ++ z ∷ bs) (eqb-true b 0x03 e) ∙ ap (λ z. 0x02 ∷ z) (sym (append_assoc (inner sofar) (0x03 ∷ []) bs))))

  escape : eqb b 0x1b ≡ true → By Inside Escape
  escape e = moved _ _ _ (ap (λ z. (0x02 ∷ inner sofar) ++ z ∷ bs) (eqb-true b 0x1b e) ∙ ap (λ z. 0x02 ∷ z) (sym (append_assoc (inner sofar) (0x1b ∷ []) bs))) (on Escaped sofar)

  within : (p : Place) → eqb b 0x02 ≡ false → By p (act_in p b)
  within Outside _ = later (b ∷ []) bs _ (on Outside sofar)
  within Inside two =
      cond_both (eqb b 0x03) _ _ (By Inside) ended
      (λ three. cond_both (eqb b 0x1b) _ _ (By Inside) escape
      (λ esc. kept Inside b (ap (λ z. 0x02 ∷ (inner sofar ++ z)) (sym (cond-false _ _ _ (or_from _ _ two (or_from _ _ three esc)))))))
  within Escaped _ =
      cond_both (eqb b 0x82 || (eqb b 0x83 || eqb b 0x9b)) _ _ (By Escaped)
      (λ e. kept Escaped (b - 0x80) (ap (λ z. 0x02 ∷ z) (append_assoc (inner sofar) (0x1b ∷ []) (b ∷ []) ∙ ap (λ z. inner sofar ++ z) (twin b e))))
      (λ _. left Escaped)

  turn : (p : Place) → By p (act_of p b)
  turn p = cond_both (eqb b 0x02) _ _ (By p) (began p) (within p)

stands : (bs : List ℕ) (p : Place) (sofar : List ℕ) → Stands (behind p sofar ++ bs) (scanned p sofar bs)
unfolding scanned
stands [] p sofar = λ h. let z : ⊥ = omega arith in absurd z
stands (b ∷ bs) p sofar = turn bs (stands bs) sofar b p

pub framed_in : FramedIn
framed_in input h =
    let k = stands input Outside [] h in
    let frame = framed (found input).block in
    let rest = (found input).rest in
    let n : gap input ≡ length k.0 = omega (arith, ap length k.1 ∙ length-append k.0 (frame ++ rest), length-append frame rest) in
    k.1 ∙ ap (λ z. z ++ (frame ++ rest)) (sym (ap (λ z. take z input) n ∙ (ap (take (length k.0)) k.1 ∙ take_at k.0 (frame ++ rest) _ refl)))
