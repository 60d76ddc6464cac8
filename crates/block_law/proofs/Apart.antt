-- Two lists that differ at one place, cut in two: the parts with the place differ, the others are equal. So no two
-- well-formed blocks differ in exactly one byte.
use Rattle.std.proofs.Common.{◌≡◌, ℕ, ◌+◌, ◌-◌, ◌<◌, ◌≤◌, List, get_or, take, drop, sym, ap, ◌∙◌, ⊎_elim, arith}
use Rattle.std.proofs.ByRecursion.{All-take}
use Rattle.std.proofs.lemmas.List.{length-take, length-drop, get_or-take, get_or-drop, get_or_past, ext_get_or}
use Rattle.std.proofs.lemmas.Bool.{cases_lt}
use Rattle.block_check.specs.Law.{Bytes, DifferAt, Lawful}
use Rattle.block.specs.Form.{check_bytes}
use Rattle.block.specs.Reading.{size_of}
use Rattle.block_law.proofs.Seal.{same_value}
use Rattle.block_law.proofs.Whole.{Whole}

module _ (i : ℕ) (xs ys : List ℕ) (d : DifferAt i xs ys) (n : ℕ) where
  same_take : n ≤ i → take n xs ≡ take n ys
  same_take h =
      ext_get_or 0 (take n xs) (take n ys) (simp length-take (omega arith))
      (λ k l. let s : k < n = omega (arith, length-take n xs) in get_or-take n xs k 0 s ∙ d.elsewhere k (λ e. omega arith) ∙ sym (get_or-take n ys k 0 s))

  same_drop : i < n → drop n xs ≡ drop n ys
  same_drop h =
      ext_get_or 0 (drop n xs) (drop n ys) (simp length-drop (omega arith))
      (λ k l. get_or-drop n xs k 0 ∙ d.elsewhere (n + k) (λ e. omega arith) ∙ sym (get_or-drop n ys k 0))

  differ_take : i < n → DifferAt i (take n xs) (take n ys)
  differ_take h = record {
    same_length = simp length-take (omega arith);
    inside = simp length-take (omega arith);
    here = λ e. d.here (sym (get_or-take n xs i 0 h) ∙ e ∙ get_or-take n ys i 0 h);
    elsewhere = λ k ne. ⊎_elim
        (λ (s : k < n). get_or-take n xs k 0 s ∙ d.elsewhere k ne ∙ sym (get_or-take n ys k 0 s))
        (λ (s : n ≤ k). get_or_past (take n xs) k 0 (simp length-take (omega arith)) ∙ sym (get_or_past (take n ys) k 0 (simp length-take (omega arith)))) (cases_lt k n);
  }

  differ_drop : n ≤ i → drop n xs ≡ drop n ys → ⊥
  differ_drop h e =
      let at : n + (i - n) ≡ i = omega arith in
      let read : (l : List ℕ) → get_or (drop n l) (i - n) 0 ≡ get_or l i 0 = λ l. get_or-drop n l (i - n) 0 ∙ ap (λ k. get_or l k 0) at in
      d.here (sym (read xs) ∙ ap (λ l. get_or l (i - n) 0) e ∙ read ys)

module _ (w : ℕ) (value : List ℕ → ℕ) (law : Lawful w value) (xs ys : List ℕ) (p : Bytes xs) (q : Bytes ys) where
  pub never_both : (i : ℕ) → DifferAt i xs ys → Whole w value xs → Whole w value ys → ⊥
  never_both i d a b =
      let n = 6 + size_of xs in
      let size : size_of ys ≡ size_of xs = omega arith in
      let end : drop n ys ≡ check_bytes w (value (take n ys)) = rw size at b.closed in
      ⊎_elim
      (λ (h : i < n).
      let s = All-take (λ x. x < 256) n xs p in
      let t = All-take (λ x. x < 256) n ys q in
      law.tells (take n xs) (take n ys) i s t (differ_take i xs ys d n h)
      (same_value w (value (take n xs)) (value (take n ys)) law.some law.few (law.fits (take n xs) s) (law.fits (take n ys) t)
      (sym a.closed ∙ same_drop i xs ys d n h ∙ end)))
      (λ (h : n ≤ i). differ_drop i xs ys d n h (a.closed ∙ ap (λ l. check_bytes w (value l)) (same_take i xs ys d n h) ∙ sym end))
      (cases_lt i n)
