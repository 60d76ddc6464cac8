-- Frames as blocks on a line and in a scratch: a reader gets back what was sealed, and after a change of one byte it
-- reads a status other than 00h.
use Rattle.std.proofs.Common.{◌≡◌, ℕ, ◌+◌, ◌%◌, ◌<◌, ◌≤◌, true, false, cond, ltb, ◌⊎◌, List, [], ◌∷◌, ◌++◌, length, get_or, take, drop, set, is_ok, Ok, Err, Result, sym, refl, ap, ◌∙◌, subst, inl, inr, ⊎_elim, mod-lt, arith}
use Rattle.std.specs.List.{AllByRecursion}
use Rattle.std.proofs.ByRecursion.{All-set}
use Rattle.std.proofs.lemmas.List.{append_assoc, length-append, length-map, length-set, get_or_append_left, get_or-set_same, get_or-set_other, set-get_or, set-append_left, take_at, map_push}
use Rattle.std.proofs.lemmas.Bool.{cases_eq, cond_both, cond-true, true≢false}
use Rattle.std.proofs.lemmas.Bool.Decides.{nat_tests}
use Rattle.refusal.specs.Buffers.{over}
use Rattle.line.specs.Blocks.{carried, put_after}
use Rattle.block_check.specs.Law.{Code, Bytes, Lawful}
use Rattle.block.specs.declared.status.Status.{Status}
use Rattle.block.specs.declared.status.Status.TheVariants.{BadCheck, OverLength, UnderLength}
use Rattle.block.specs.Form.{body, check_bytes, sealed}
use Rattle.block.specs.Reading.{Content, size_of, checked, read_block}
use Rattle.block.specs.Statuses.{code_of}
use Rattle.block.proofs.Checking.{length-check}
use Rattle.block_law.specs.Theorems.{Fits}
use Rattle.block_law.proofs.Laws.{read_built, change_shows}
use Rattle.block_law.proofs.Seal.{sealed_bytes}
use Rattle.rules.specs.Sending.{block, blocks, puts as puts-blocks}
use Rattle.rules.specs.Links.{spoiled}
use Rattle.law.proofs.Lines.{put, puts}

-- a frame that can be sealed
pub record Sized (f : Content) : Type 0 where
  pub fits : Fits f.heading
  pub size : length f.payload ≤ 512
  pub bytes : Bytes f.payload

-- a read that gave a status other than 00h
abbrev pub Bad : Result Content Status → Type 0
Bad r = (status : Status) × (code_of status ≡ 0 → ⊥) × (r ≡ Err status)

bad_read : (w : ℕ) (value : List ℕ → ℕ) (bs : List ℕ) → is_ok (read_block w value bs) ≡ false → Bad (read_block w value bs)
unfolding read_block
bad_read w value bs =
    let P : Result Content Status → Type 0 = λ r. is_ok r ≡ false → Bad r in
    cond_both (ltb (length bs) (6 + w)) _ _ P (λ _ _. (UnderLength, (λ z. omega arith), refl))
    (λ _. cond_both (ltb 512 (size_of bs)) _ _ P (λ _ _. (OverLength, (λ z. omega arith), refl))
    (λ _. cond_both (ltb (6 + size_of bs + w) (length bs)) _ _ P (λ _ _. (OverLength, (λ z. omega arith), refl))
    (λ _. cond_both (ltb (length bs) (6 + size_of bs + w)) _ _ P (λ _ _. (UnderLength, (λ z. omega arith), refl))
    (λ _. cond_both (checked w value bs) _ _ P (λ _ z. absurd (true≢false z)) (λ _ _. (BadCheck, (λ z. omega arith), refl))))))

module _ (k : Code) (law : Lawful k.width k.value) (f : Content) (s : Sized f) where
  block_length : length (block k f) ≡ 6 + length f.payload + k.width
  unfolding sealed
  block_length =
      let b = body f.heading f.payload in
      length-append b (check_bytes k.width (k.value b)) ∙ omega (arith, length-check k.width (k.value b) law.few)

  block_carried : carried (block k f) ≡ true
  block_carried = let l = block_length in let w = law.some in let v = law.few in let z = s.size in grind (arith, nat_tests)

  block_bytes : Bytes (block k f)
  block_bytes = sealed_bytes k.width k.value law f.heading f.payload s.fits.ranged s.fits.number s.fits.exchange s.size s.bytes

  pub read_sealed : read_block k.width k.value (block k f) ≡ Ok f
  read_sealed = read_built k.width k.value law f.heading f.payload s.fits.ranged s.size

  -- at the front of a scratch
  pub block_there : (scratch : List ℕ) → take (length (block k f)) (over (block k f) scratch) ≡ block k f
  block_there scratch = take_at (block k f) (drop (length (block k f)) scratch) (length (block k f)) refl

  pub payload_there : (scratch : List ℕ) → take (length f.payload) (drop 6 (over (block k f) scratch)) ≡ f.payload
  unfolding sealed
  payload_there scratch =
      let check = check_bytes k.width (k.value (body f.heading f.payload)) in
      let rest = drop (length (block k f)) scratch in
      ap (take (length f.payload)) (append_assoc f.payload check rest) ∙ take_at f.payload (check ++ rest) (length f.payload) refl

  -- one byte changed to another
  changed_bad : (i v : ℕ) → i < length (block k f) → v < 256 → (v ≡ get_or (block k f) i 0 → ⊥) → Bad (read_block k.width k.value (set (block k f) i v))
  changed_bad i v inside byte other =
      let b = block k f in
      bad_read k.width k.value (set b i v)
      (change_shows k.width k.value law f.heading f.payload s.fits s.size s.bytes i (set b i v)
      (All-set (λ x. x < 256) b i v byte block_bytes)
      (record {
        same_length = sym (length-set b i v);
        inside = inside;
        here = λ e. other (sym (e ∙ get_or-set_same b i v 0 inside));
        elsewhere = λ j ne. sym (get_or-set_other b i j v 0 ne);
      }))

  -- a spoil leaves the scratch as it was, or what is read then is bad
  pub spoiled_block : (p d : ℕ) (scratch : List ℕ) →
      (spoiled p d (length (block k f)) (over (block k f) scratch) ≡ over (block k f) scratch)
      ⊎ Bad (read_block k.width k.value (take (length (block k f)) (spoiled p d (length (block k f)) (over (block k f) scratch))))
  spoiled_block p d scratch =
      let b = block k f in
      let n = length b in
      let rest = drop n scratch in
      let i = p % n in
      let some : 0 < n = omega (arith, block_length) in
      let inside : i < n = mod-lt p some in
      let x = get_or (b ++ rest) i 0 in
      let v = (x + d) % 256 in
      let byte : v < 256 = omega arith in
      let at : x ≡ get_or b i 0 = get_or_append_left b rest 0 i inside in
      let read : take n (set (b ++ rest) i v) ≡ set b i v = ap (take n) (set-append_left b rest i v inside) ∙ take_at (set b i v) rest n (length-set b i v) in
      ⊎_elim (λ (e : v ≡ x). inl (ap (set (b ++ rest) i) e ∙ set-get_or (b ++ rest) i 0))
      (λ ne. inr (subst (λ l. Bad (read_block k.width k.value l)) (sym read) (changed_bad i v inside byte (λ z. ne (z ∙ sym at)))))
      (cases_eq v x)

-- blocks of frames put on a line of such blocks
module _ (k : Code) (law : Lawful k.width k.value) where
  put_sealed : (fs : List Content) (g : Content) → Sized g → put_after (blocks k fs) (block k g) ≡ blocks k (put fs g)
  unfolding put
  put_sealed fs g s =
      rw (block_carried k law g s, length-map fs (block k))
      (cond_both (ltb (length fs) 16) (fs ++ g ∷ []) fs (λ l. cond (ltb (length fs) 16) (blocks k fs ++ block k g ∷ []) (blocks k fs) ≡ blocks k l) (λ h. cond-true _ _ _ h ∙ sym (map_push (block k) fs g)) (λ h. rw h))

  pub puts_sealed : (fs gs : List Content) → AllByRecursion Sized gs → puts-blocks (blocks k fs) (blocks k gs) ≡ blocks k (puts fs gs)
  unfolding puts
  puts_sealed fs [] a = refl
  puts_sealed fs (g ∷ gs) a = ap (λ l. puts-blocks l (blocks k gs)) (put_sealed fs g a.0) ∙ puts_sealed (put fs g) gs a.1
