-- Scanning a written frame gives its block and exactly what follows.
use Rattle.std.proofs.Common.{◌≡◌, ℕ, ◌+◌, ◌<◌, ◌≤◌, true, false, List, [], ◌∷◌, ◌++◌, length, sym, ap, ◌∙◌, arith}
use Rattle.std.proofs.lemmas.List.{append-nil, append_assoc, length_push}
use Rattle.std.proofs.lemmas.Bool.{cond-false, cond_both, ne_eqb}
use Rattle.wire.specs.declared.scan.Place.{Place}
use Rattle.wire.specs.declared.scan.Place.TheVariants.{Inside, Escaped}
use Rattle.wire.specs.declared.scan.Act.TheVariants.{Keep}
use Rattle.wire.specs.Form.{reserved, escaped, inner, act_of, scanned}
use Rattle.wire.specs.Theorems.{ReadBack}
use Rattle.std.proofs.lemmas.Bool.Decides.{nat_tests}

-- behind 1Bh the escaped byte stands for the reserved one
back : (b : ℕ) → reserved b ≡ true → act_of Escaped (b + 0x80) ≡ Keep b
back b e = grind (arith, nat_tests)

plain : (b : ℕ) → reserved b ≡ false → act_of Inside b ≡ Keep b
plain b e = grind (arith, nat_tests)

module _ (sofar rest : List ℕ) (room : length sofar < 520) where
  kept : (p : Place) (b x : ℕ) → act_of p b ≡ Keep x → scanned p sofar (b ∷ rest) ≡ scanned Inside (sofar ++ x ∷ []) rest
  unfolding scanned
  kept p b x e = rw e (grind (arith, nat_tests))

  -- a byte's wire form adds that byte to the frame
  one : (b : ℕ) → scanned Inside sofar (escaped b ++ rest) ≡ scanned Inside (sofar ++ b ∷ []) rest
  unfolding scanned
  one b =
      cond_both (reserved b) _ _ (λ z. scanned Inside sofar (z ++ rest) ≡ scanned Inside (sofar ++ b ∷ []) rest)
      (λ e. kept Escaped (b + 0x80) b (back b e))
      (λ e. kept Inside b b (plain b e))

-- and a block's adds that block
all : (bs sofar rest : List ℕ) → length sofar + length bs ≤ 520 → scanned Inside sofar (inner bs ++ rest) ≡ scanned Inside (sofar ++ bs) rest
unfolding inner
all [] sofar rest h = ap (λ z. scanned Inside z rest) (sym (append-nil sofar))
all (b ∷ bs) sofar rest h =
    let k = length_push sofar b in
    ap (scanned Inside sofar) (append_assoc (escaped b) (inner bs) rest)
    ∙ (one sofar (inner bs ++ rest) (omega arith) b
    ∙ (all bs (sofar ++ b ∷ []) rest (omega arith)
    ∙ ap (λ z. scanned Inside z rest) (append_assoc sofar (b ∷ []) bs)))

pub read_back : ReadBack
unfolding scanned
read_back block after some small =
    ap (scanned Inside []) (append_assoc (inner block) (0x03 ∷ []) after)
    ∙ (all block [] (0x03 ∷ after) (omega arith)
    ∙ cond-false _ _ _ (ne_eqb (length block) 0 (λ z. omega arith)))
