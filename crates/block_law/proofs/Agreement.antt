-- A sealed block is well-formed and holds what was put into it, and a well-formed block is what it holds, sealed.
use Rattle.std.proofs.Common.{◌≡◌, ℕ, ◌+◌, ◌<◌, ◌≤◌, true, List, ◌∷◌, ◌++◌, length, get_or, take, drop, sym, ap, ◌∙◌, arith}
use Rattle.std.proofs.lemmas.List.{length-append, length-drop, length-take-le, take-append-drop, take_at, drop_at, drop-drop, drop_more}
use Rattle.std.proofs.ByRecursion.{All-get_or}
use Rattle.std.proofs.lemmas.Bool.Decides.{nat_tests}
use Rattle.block_check.specs.Law.{Bytes}
use Rattle.block.specs.declared.heading.Heading.{Heading}
use Rattle.block.specs.Form.{header, body, check_bytes, sealed, in_range}
use Rattle.block.specs.Reading.{heading_of, size_of, content_of}
use Rattle.block.proofs.Checking.{length-check}
use Rattle.block_law.proofs.Whole.{Whole}

module _ (w : ℕ) (value : List ℕ → ℕ) (h : Heading) (payload : List ℕ) where
  pub sealed_whole : w ≤ 2 → length payload ≤ 512 → Whole w value (sealed w value h payload)
  unfolding sealed
  sealed_whole few short =
      let end = check_bytes w (value (body h payload)) in
      let n = 6 + size_of (body h payload ++ end) in
      let size : length (body h payload) ≡ n = omega arith in
      record {
        small = omega arith;
        long = omega (arith, length-append (body h payload) end, length-check w (value (body h payload)) few);
        closed = drop_at (body h payload) end n size ∙ ap (λ l. check_bytes w (value l)) (sym (take_at (body h payload) end n size));
      }

  sealed_heading : in_range h ≡ true → heading_of (sealed w value h payload) ≡ h
  unfolding sealed
  sealed_heading r = grind (arith, nat_tests)

  sealed_payload : (content_of (sealed w value h payload)).payload ≡ payload
  unfolding sealed
  sealed_payload = take_at payload (check_bytes w (value (body h payload))) (size_of (body h payload)) (omega arith)

  pub sealed_content : in_range h ≡ true → content_of (sealed w value h payload) ≡ record { heading = h; payload = payload }
  sealed_content r = let a = sealed_heading r in let b = sealed_payload in cc

-- six bytes give themselves back as a header
opened : (bs : List ℕ) → Bytes bs → 6 ≤ length bs → bs ≡ header (heading_of bs) (size_of bs) ++ drop 6 bs
opened bs p l =
    let at : (k : ℕ) → k < 6 → (drop k bs ≡ get_or bs k 0 ∷ drop (k + 1) bs) × (get_or bs k 0 < 256) = λ k s. (drop_more bs k 0 (omega arith), All-get_or (λ x. x < 256) bs k 0 (omega arith) p) in
    grind (arith, at 0 (omega arith), at 1 (omega arith), at 2 (omega arith), at 3 (omega arith), at 4 (omega arith), at 5 (omega arith))

pub sealed_of : (w : ℕ) (value : List ℕ → ℕ) (bs : List ℕ) → Bytes bs → Whole w value bs → sealed w value (heading_of bs) (content_of bs).payload ≡ bs
unfolding sealed
sealed_of w value bs p a =
    let k = size_of bs in
    let rest = drop 6 bs in
    let front = body (heading_of bs) (take k rest) in
    let size : length (take k rest) ≡ k = length-take-le k rest (simp length-drop (omega arith)) in
    let parts : bs ≡ front ++ drop (6 + k) bs = rw (size, ← drop-drop k 6 bs, take-append-drop k rest) (opened bs p (omega arith)) in
    let covered : take (6 + k) bs ≡ front = ap (take (6 + k)) parts ∙ take_at front (drop (6 + k) bs) (6 + k) (omega arith) in
    ap (λ l. front ++ check_bytes w (value l)) (sym covered) ∙ ap (λ l. front ++ l) (sym a.closed) ∙ sym parts

-- what a well-formed block of bytes holds, the builder takes
pub buildable : (w : ℕ) (value : List ℕ → ℕ) (bs : List ℕ) → Bytes bs → Whole w value bs → (in_range (heading_of bs) ≡ true) × (length (content_of bs).payload ≤ 512)
buildable w value bs p a =
    let b : get_or bs 0 0 < 256 = All-get_or (λ x. x < 256) bs 0 0 (omega arith) p in
    let l : length (take (size_of bs) (drop 6 bs)) ≡ size_of bs = length-take-le (size_of bs) (drop 6 bs) (simp length-drop (omega arith)) in
    (grind (arith, nat_tests), omega arith)
