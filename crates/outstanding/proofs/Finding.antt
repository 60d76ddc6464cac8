-- How many frames an acknowledgement clears, by the place of the oldest one of its number.
use Rattle.std.proofs.Common.{◌≡◌, ℕ, zero, suc, ◌+◌, Bool, true, false, cond, not, eqb, ltb, List, [], ◌∷◌, length, refl, arith}
use Rattle.std.specs.List.{position_or_len}
use Rattle.std.proofs.lemmas.Bool.Decides.{nat_tests}
use Rattle.rules.specs.Records.{one_more, clears}
use Rattle.outstanding.specs.declared.entry.Entry.{Entry}
use Rattle.outstanding.specs.Frames.{frames_from}

-- the place of the rest, with one frame before it
one_before : (here : Bool) (place len n : ℕ) → cond (ltb place len) (place + 1) 0 ≡ n →
    cond (ltb (cond (not here) (1 + place) 0) (suc len)) (cond (not here) (1 + place) 0 + 1) 0 ≡ cond here 1 (one_more n)
one_before true place len n h = grind (arith, nat_tests)
one_before false place len zero h = grind (arith, nat_tests)
one_before false place len (suc n) h = grind (arith, nat_tests)

pub clears_place : (n at : ℕ) (es : List Entry) (store : List ℕ) →
    let place = position_or_len (λ (e : Entry). eqb e.heading.number n) es in
    cond (ltb place (length es)) (place + 1) 0 ≡ clears n (frames_from at es store)
unfolding clears
clears_place n at [] store = refl
clears_place n at (e ∷ es) store = one_before (eqb e.heading.number n) _ _ _ (clears_place n (at + 1) es store)
