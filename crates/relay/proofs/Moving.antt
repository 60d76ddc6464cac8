-- One block more from line to line.
use Rattle.std.proofs.Common.{◌≡◌, ℕ, ◌+◌, ◌<◌, List, [], ◌∷◌, ◌++◌, length, get_or, take, drop, sym, refl, ap, ◌∙◌}
use Rattle.std.proofs.lemmas.List.{drop_more, take_more, append_assoc}
use Rattle.refusal.specs.Buffers.{over}
use Rattle.line.specs.Blocks.{oldest, later}
use Rattle.relay.specs.Moving.{passed}

passed_push : (bs : List (List ℕ)) (b buf : List ℕ) → passed (bs ++ b ∷ []) buf ≡ over b (passed bs buf)
unfolding passed
passed_push [] b buf = refl
passed_push (x ∷ bs) b buf = passed_push bs b (over x buf)

-- what waits from place i on begins with the block there
module _ (from : List (List ℕ)) (i : ℕ) (here : i < length from) where
  oldest_is : oldest (drop i from) ≡ get_or from i []
  oldest_is = ap oldest (drop_more from i [] here)

  pub later_is : later (drop i from) ≡ drop (i + 1) from
  later_is = ap later (drop_more from i [] here)

  pub added_is : (to : List (List ℕ)) → (to ++ take i from) ++ oldest (drop i from) ∷ [] ≡ to ++ take (i + 1) from
  added_is to =
      append_assoc to (take i from) (oldest (drop i from) ∷ [])
      ∙ ap (λ x. to ++ x) (ap (λ b. take i from ++ b ∷ []) oldest_is ∙ sym (take_more from i [] here))

  pub passed_is : (buf : List ℕ) → over (oldest (drop i from)) (passed (take i from) buf) ≡ passed (take (i + 1) from) buf
  passed_is buf =
      ap (λ b. over b (passed (take i from) buf)) oldest_is
      ∙ sym (ap (λ x. passed x buf) (take_more from i [] here) ∙ passed_push (take i from) (get_or from i []) buf)

-- what the loop's proof needs
pub ruleset moving = (later_is, added_is, passed_is)
