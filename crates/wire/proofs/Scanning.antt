-- What one turn of the scan leaves: scanning what is left gives what scanning the whole input gives.
use Rattle.std.specs.List.{position_or_len, position}
use Rattle.std.specs.Option.{unwrap_or}
use Rattle.std.proofs.lemmas.List.Sums.{prefix_len-le-length}
use Rattle.std.proofs.lemmas.Bool.Decides.{nat_tests}
use Rattle.std.proofs.Common.{◌≡◌, ℕ, suc, ◌+◌, ◌<◌, ◌≤◌, ◌-◌, Bool, true, false, not, eqb, List, [], ◌∷◌, ◌++◌, length, get_or, take, drop, sym, refl, ap, ◌∙◌, arith}
use Rattle.std.proofs.lemmas.List.{at_drop_more, at_drop_all, take_rest}
use Rattle.std.proofs.lemmas.Bool.{cond-true, cond-false, lt-ltb, le-ltb, eq-eqb, ne_eqb}
use Rattle.wire.specs.declared.scan.Place.{Place}
use Rattle.wire.specs.declared.scan.Place.TheVariants.{Outside, Inside}
use Rattle.wire.specs.declared.scan.Act.{Act}
use Rattle.wire.specs.declared.scan.Act.TheVariants.{Finish, Keep}
use Rattle.wire.specs.Form.{Found, act_of, acted, scanned, found}

-- at the end nothing is found
pub none : (p : Place) (sofar xs : List ℕ) (i : ℕ) → length xs ≤ i → scanned p sofar (drop i xs) ≡ record { block = []; rest = [] }
unfolding scanned
none p sofar xs i h = at_drop_all (scanned p sofar) xs i h

module _ (p : Place) (sofar xs : List ℕ) (i : ℕ) (f : Found) (h : i < length xs) (same : scanned p sofar (drop i xs) ≡ f) where
  -- one byte on, by what it asks for
  pub turned : (a : Act) → a ≡ act_of p (get_or xs i 0) → acted p sofar (drop (i + 1) xs) (λ q v. scanned q v (drop (i + 1) xs)) a ≡ f
  unfolding scanned
  turned a e =
      ap (acted p sofar (drop (i + 1) xs) (λ q v. scanned q v (drop (i + 1) xs))) e
      ∙ (sym (at_drop_more (scanned p sofar) xs i 0 h) ∙ same)

  pub kept : (x : ℕ) → Keep x ≡ act_of p (get_or xs i 0) → length sofar < 520 → scanned Inside (sofar ++ x ∷ []) (drop (i + 1) xs) ≡ f
  kept x e l = sym (cond-true _ _ _ (lt-ltb (length sofar) 520 l)) ∙ turned (Keep x) e

  pub full : (x : ℕ) → Keep x ≡ act_of p (get_or xs i 0) → 520 ≤ length sofar → scanned Outside [] (drop (i + 1) xs) ≡ f
  full x e l = sym (cond-false _ _ _ (le-ltb (length sofar) 520 l)) ∙ turned (Keep x) e

  pub empty : Finish ≡ act_of p (get_or xs i 0) → length sofar ≡ 0 → scanned Outside [] (drop (i + 1) xs) ≡ f
  empty e l = sym (cond-true _ _ _ (eq-eqb (length sofar) 0 l)) ∙ turned Finish e

  pub ended : Finish ≡ act_of p (get_or xs i 0) → 0 < length sofar → record { block = sofar; rest = drop (i + 1) xs } ≡ f
  ended e l = sym (cond-false _ _ _ (ne_eqb (length sofar) 0 (λ z. omega arith))) ∙ turned Finish e

-- the invariant at the new place, length and frame
pub moved : (bs : List ℕ) {f : Found} {p q : Place} {n m : ℕ} {frame frame' : List ℕ} → q ≡ p → m ≡ n → frame' ≡ frame → n ≤ 520 → length frame ≡ 520 → scanned p (take n frame) bs ≡ f → (m ≤ 520) × (length frame' ≡ 520) × (scanned q (take m frame') bs ≡ f)
moved bs a b c l k s = (omega arith, ap length c ∙ k, cc)

drop_next : (n b : ℕ) (bs : List ℕ) → drop (1 + n) (b ∷ bs) ≡ drop n bs
drop_next n b bs = let e : 1 + n ≡ suc n = omega arith in rw e refl

-- its place, or the length where there is none
first_place : (bs : List ℕ) → unwrap_or (position (λ b. eqb b 0x02) bs) (length bs) ≡ position_or_len (λ b. eqb b 0x02) bs
first_place bs = let h = prefix_len-le-length (λ b. not (eqb b 0x02)) bs in grind (arith, nat_tests)

-- what precedes the first 02h is of no account
pub skipped : (bs : List ℕ) → found (drop (position_or_len (λ b. eqb b 0x02) bs) bs) ≡ found bs
unfolding scanned
skipped [] = refl
skipped (b ∷ bs) = by_first (eqb b 0x02) refl (skipped bs)
  where
    by_first : (t : Bool) → eqb b 0x02 ≡ t → found (drop (position_or_len (λ b. eqb b 0x02) bs) bs) ≡ found bs → found (drop (position_or_len (λ b. eqb b 0x02) (b ∷ bs)) (b ∷ bs)) ≡ found (b ∷ bs)
    by_first true e s =
        let z : position_or_len (λ x. eqb x 0x02) (b ∷ bs) ≡ 0 = rw e refl in
        ap (λ n. found (drop n (b ∷ bs))) z
    by_first false e s =
        let z : position_or_len (λ x. eqb x 0x02) (b ∷ bs) ≡ 1 + position_or_len (λ x. eqb x 0x02) bs = rw e refl in
        let f : found (b ∷ bs) ≡ found bs = rw e refl in
        ap (λ n. found (drop n (b ∷ bs))) z ∙ (ap found (drop_next (position_or_len (λ x. eqb x 0x02) bs) b bs) ∙ (s ∙ sym f))

-- the same of what is left behind the first place
pub skips : (bs : List ℕ) (n : ℕ) → n ≡ unwrap_or (position (λ b. eqb b 0x02) bs) (length bs) → found (take (length bs - n) (drop n bs)) ≡ found bs
skips bs n e = ap found (take_rest bs n) ∙ (ap (λ k. found (drop k bs)) (e ∙ first_place bs) ∙ skipped bs)
