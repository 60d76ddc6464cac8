-- A timeout by whether something waits, and frames sent again one by one.
use Rattle.std.proofs.Common.{◌≡◌, ℕ, suc, ◌+◌, ◌<◌, ◌≤◌, Bool, true, false, cond, not, eqb, List, [], ◌∷◌, ◌++◌, length, take, Some, sym, refl, ap, ◌∙◌, add-zero, arith}
use Rattle.std.proofs.lemmas.Bool.{ne_eqb, le-leb, lt-leb, cond-true, cond-false}
use Rattle.std.proofs.lemmas.Grind.{common_steps}
use Rattle.std.proofs.lemmas.List.{map-append}
use Rattle.std.proofs.lemmas.Option.{gets}
use Rattle.std.specs.List.{slice_get}
use Rattle.refusal.specs.Buffers.{over}
use Rattle.line.specs.Blocks.{taken, put_after}
use Rattle.block_check.specs.Law.{Code}
use Rattle.block.specs.Reading.{Content}
use Rattle.rules.specs.declared.seat.State.TheVariants.{LoggedOut}
use Rattle.rules.specs.LogIns.{moved}
use Rattle.rules.specs.Ends.{End, with_row}
use Rattle.rules.specs.Sending.{block, blocks, puts, took, builds}
use Rattle.rules.specs.Calls.{sends, resends}
use Rattle.end.proofs.Sending.{puts_append, took_append, builds_append}

some_waits : (n : ℕ) → not (eqb (suc n) 0) ≡ true
some_waits n = rw (ne_eqb (suc n) 0 (λ z. omega arith)) refl

pub resends_none : (k : Code) (fs : List Content) (e : End) (line : List (List ℕ)) (scratch : List ℕ) → not (eqb (length fs) 0) ≡ false → resends k fs e line scratch ≡ sends (λ n. n) e [] line scratch
resends_none k [] e line scratch h = refl
resends_none k (f ∷ fs) e line scratch h = absurd (let y : ◌≡◌ {A = Bool} true false = sym (some_waits (length fs)) ∙ h in let z : ◌≡◌ {A = ℕ} 0 1 = cc in omega arith)

-- with something to resend, as one more timeout in a row and as the last
pub resends_again : (k : Code) (fs : List Content) (e : End) (line : List (List ℕ)) (scratch : List ℕ) → not (eqb (length fs) 0) ≡ true → e.seat.row < 3 → resends k fs e line scratch ≡ sends (λ n. n) (record { seat = with_row (e.seat.row + 1) e.seat; outstanding = e.outstanding }) (blocks k fs) line scratch
resends_again k [] e line scratch h few = absurd (let z : ◌≡◌ {A = ℕ} 0 1 = cc in omega arith)
resends_again k (f ∷ fs) e line scratch h few = cond-false _ _ _ (lt-leb 3 e.seat.row few)

pub resends_last : (k : Code) (fs : List Content) (e : End) (line : List (List ℕ)) (scratch : List ℕ) → not (eqb (length fs) 0) ≡ true → 3 ≤ e.seat.row → resends k fs e line scratch ≡ sends (λ n. n) (record { seat = moved LoggedOut e.seat; outstanding = e.outstanding }) [] line scratch
resends_last k [] e line scratch h many = absurd (let z : ◌≡◌ {A = ℕ} 0 1 = cc in omega arith)
resends_last k (f ∷ fs) e line scratch h many = cond-true _ _ _ (le-leb 3 e.seat.row many)

-- one frame more of those that go out
module _ (k : Code) (fs : List Content) (i : ℕ) (f : Content) (here : Some f ≡ slice_get fs i) where
  one_more : blocks k (take (i + 1) fs) ≡ blocks k (take i fs) ++ block k f ∷ []
  one_more = let t : take (i + 1) fs ≡ take i fs ++ f ∷ [] = grind (arith, common_steps, gets) in ap (blocks k) t ∙ map-append (block k) (take i fs) (f ∷ [])

  pub more_took : (line : List (List ℕ)) → took line (blocks k (take (i + 1) fs)) ≡ took line (blocks k (take i fs)) + cond (taken (puts line (blocks k (take i fs))) (block k f)) 1 0
  more_took line = ap (took line) one_more ∙ took_append line (blocks k (take i fs)) (block k f ∷ []) ∙ ap (λ n. took line (blocks k (take i fs)) + n) (add-zero _)

  pub more_put : (line : List (List ℕ)) → puts line (blocks k (take (i + 1) fs)) ≡ put_after (puts line (blocks k (take i fs))) (block k f)
  more_put line = ap (puts line) one_more ∙ puts_append line (blocks k (take i fs)) (block k f ∷ [])

  pub more_built : (scratch : List ℕ) → builds scratch (blocks k (take (i + 1) fs)) ≡ over (block k f) (builds scratch (blocks k (take i fs)))
  more_built scratch = ap (builds scratch) one_more ∙ builds_append scratch (blocks k (take i fs)) (block k f ∷ [])
