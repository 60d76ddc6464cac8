-- A block begun, added to and sealed is a whole block.
use Rattle.std.proofs.Common.{◌≡◌, ℕ, ◌+◌, ◌≤◌, List, ◌++◌, length, drop, Ok, refl, ap, ◌∙◌, arith}
use Rattle.std.proofs.lemmas.List.{length-append, take_at}
use Rattle.std.proofs.lemmas.Bool.Decides.{nat_tests}
use Rattle.refusal.specs.Buffers.{over, placed}
use Rattle.refusal.proofs.Buffers.{over_more, over_over}
use Rattle.block.specs.declared.heading.Heading.{Heading}
use Rattle.block.specs.Form.{header, body, check_bytes, sealed}
use Rattle.block.specs.Building.{begin_answer, begin_buffer, add_answer, add_buffer, seal_answer, seal_buffer, build_answer, build_buffer, whole}
use Rattle.block.proofs.Checking.{length-check}

pub length-sealed : (w : ℕ) (value : List ℕ → ℕ) (h : Heading) (payload : List ℕ) → w ≤ 2 → length (sealed w value h payload) ≡ 6 + length payload + w
unfolding sealed
length-sealed w value h payload few = simp length-append (omega (arith, length-check w (value (body h payload)) few))

-- a begun block, with its payload, becomes the body
whole_of : (h : Heading) (p buf : List ℕ) → whole (length p) (over (header h 0 ++ p) buf) ≡ body h p
whole_of h p buf = ap (λ x. header h (length p) ++ x) (take_at p (drop (length (header h 0 ++ p)) buf) (length p) refl)

-- the buffers, one after the other
buffers : (w : ℕ) (value : List ℕ → ℕ) (h : Heading) (p buf b1 b2 b3 : List ℕ) → b1 ≡ over (header h 0) buf → b2 ≡ placed 6 p b1 → b3 ≡ over (whole (length p) b2 ++ check_bytes w (value (whole (length p) b2))) b2 → b3 ≡ over (sealed w value h p) buf
unfolding sealed
buffers w value h p buf b1 b2 b3 e1 e2 e3 =
    let front = header h 0 ++ p in
    let block = body h p ++ check_bytes w (value (body h p)) in
    let s : b2 ≡ over front buf = e2 ∙ (ap (placed 6 p) e1 ∙ over_more (header h 0) p buf 6 refl) in
    let k : whole (length p) b2 ≡ body h p = ap (whole (length p)) s ∙ whole_of h p buf in
    let l : length front ≤ length block = simp length-append (omega arith) in
    e3 ∙ rw (k, s) (over_over front block buf l)

module _ (w : ℕ) (value : List ℕ → ℕ) (few : w ≤ 2) (h : Heading) (p buf b1 b2 b3 : List ℕ) (n1 n2 n3 : ℕ) where
  pub all_built : Ok n1 ≡ begin_answer h buf → b1 ≡ begin_buffer h buf → Ok n2 ≡ add_answer n1 p b1 → b2 ≡ add_buffer n1 p b1 → Ok n3 ≡ seal_answer w n2 b2 → b3 ≡ seal_buffer w value n2 b2 → (Ok n3 ≡ build_answer w value h p buf) × (b3 ≡ build_buffer w value h p buf)
  all_built a1 e1 a2 e2 a3 e3 =
      let f = buffers w value h p buf b1 b2 b3 in
      let l = length-sealed w value h p few in
      (grind (arith, nat_tests), grind (arith, nat_tests))
