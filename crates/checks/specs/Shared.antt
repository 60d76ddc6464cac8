-- A proof that stands here since the checks' laws cite it: a byte that differs is a byte written.
use Rattle.std.specs.Prelude.{◌≡◌, ℕ, ◌<◌, List, length, slice_index, slice_index_or, slice_set}
use Rattle.std.proofs.Common.{⊎_elim, sym, ◌∙◌, ap, arith}
use Rattle.std.proofs.ByRecursion.{All-get_or}
use Rattle.std.proofs.lemmas.List.{ext_get_or, length-set, get_or-set_same, get_or-set_other}
use Rattle.std.proofs.lemmas.Bool.{cases_eq}
use Rattle.block_check.specs.Law.{Bytes, DifferAt, Tells}

-- the second string is the first with the second's byte written at the place
written : (i : ℕ) (xs ys : List ℕ) → DifferAt i xs ys → ys ≡ slice_set xs i (slice_index ys i)
written i xs ys d =
    let v = slice_index_or ys i 0 in
    sym (ext_get_or 0 (slice_set xs i v) ys (length-set xs i v ∙ d.same_length)
    (λ k _. ⊎_elim (λ q. rw q (get_or-set_same xs i v 0 d.inside)) (λ q. get_or-set_other xs i k v 0 q ∙ d.elsewhere k q)
    (cases_eq k i)))

-- a write that leaves the value leaves the byte: then the check tells
pub tells_writes : (value : List ℕ → ℕ) → ((xs : List ℕ) (i v : ℕ) → Bytes xs → v < 256 → i < length xs → value (slice_set xs i v) ≡ value xs → v ≡ slice_index xs i) → Tells value
tells_writes value same xs ys i bx by d e =
    let v = slice_index_or ys i 0 in
    let small : v < 256 = All-get_or (λ b. b < 256) ys i 0 (omega arith) by in
    d.here (sym (same xs i v bx small d.inside (sym (e ∙ ap value (written i xs ys d)))))
