-- Frames over the slots of a store: by place, one more, some fewer, and over a slot that is written.
use Rattle.std.proofs.Common.{◌≡◌, ℕ, zero, suc, ◌+◌, ◌-◌, ◌*◌, ◌%◌, ◌<◌, ◌≤◌, min, ◌⊎◌, List, [], ◌∷◌, ◌++◌, length, take, drop, Some, sym, refl, ap, ◌∙◌, inl, inr, ⊎_elim, arith}
use borrow.Rule.Slice.PartMut.{put_mid}
use Rattle.std.specs.List.{slice_get, AllByRecursion}
use Rattle.std.specs.Option.{option_map}
use Rattle.std.proofs.lemmas.List.{drop-take, drop_all, length-drop, length-take, take-append-le, drop-append-le}
use Rattle.std.proofs.lemmas.Slice.{take-put_mid_below, drop-put_mid, between-put_mid}
use Rattle.std.proofs.lemmas.Bool.{cases_lt}
use Rattle.queue.specs.Contents.{contents, push_after}
use Rattle.queue.proofs.Memory.{extend_adds}
use Rattle.outstanding.specs.declared.entry.Entry.{Entry}
use Rattle.outstanding.specs.declared.outstanding.Outstanding.{Outstanding}
use Rattle.outstanding.specs.Frames.{frame_at, frames_from, frames}

pub length-frames : (at : ℕ) (es : List Entry) (store : List ℕ) → length (frames_from at es store) ≡ length es
length-frames at [] store = refl
length-frames at (e ∷ es) store = ap suc (length-frames (at + 1) es store)

-- as many as wait, whatever the store
pub length-waiting : (o : Outstanding) (store : List ℕ) → length (frames o store) ≡ length (contents o.entries)
unfolding frames
length-waiting o store = length-frames o.first (contents o.entries) store

-- only the slot of the place counts
pub frames_turn : (a b : ℕ) (es : List Entry) (store : List ℕ) → a % 8 ≡ b % 8 → frames_from a es store ≡ frames_from b es store
frames_turn a b [] store h = refl
frames_turn a b (e ∷ es) store h =
    let next : (a + 1) % 8 ≡ (b + 1) % 8 = omega arith in
    ap (λ s. record { heading = e.heading; payload = take e.size (drop (512 * s) store) } ∷ frames_from (a + 1) es store) h
    ∙ ap (λ fs. frame_at b e store ∷ fs) (frames_turn (a + 1) (b + 1) es store next)

pub frames_drop : (n at : ℕ) (es : List Entry) (store : List ℕ) → drop n (frames_from at es store) ≡ frames_from (at + n) (drop n es) store
frames_drop zero at es store = let z : at ≡ at + 0 = omega arith in ap (λ a. frames_from a es store) z
frames_drop (suc n) at [] store = refl
frames_drop (suc n) at (e ∷ es) store = let z : at + 1 + n ≡ at + suc n = omega arith in frames_drop n (at + 1) es store ∙ ap (λ a. frames_from a (drop n es) store) z

pub frames_push : (at : ℕ) (es : List Entry) (e : Entry) (store : List ℕ) → frames_from at (es ++ e ∷ []) store ≡ frames_from at es store ++ frame_at (at + length es) e store ∷ []
frames_push at [] e store = let z : at ≡ at + 0 = omega arith in ap (λ a. frame_at a e store ∷ []) z
frames_push at (x ∷ es) e store =
    let z : at + 1 + length es ≡ at + suc (length es) = omega arith in
    ap (λ fs. frame_at at x store ∷ fs) (frames_push (at + 1) es e store ∙ ap (λ a. frames_from (at + 1) es store ++ frame_at a e store ∷ []) z)

-- a frame by its place
pub nth_frames : (at k : ℕ) (es : List Entry) (store : List ℕ) → slice_get (frames_from at es store) k ≡ option_map (λ e. frame_at (at + k) e store) (slice_get es k)
nth_frames at k [] store = refl
nth_frames at zero (e ∷ es) store = let z : at ≡ at + 0 = omega arith in ap (λ a. Some (frame_at a e store)) z
nth_frames at (suc k) (e ∷ es) store =
    let z : at + 1 + k ≡ at + suc k = omega arith in
    nth_frames (at + 1) k es store ∙ ap (λ a. option_map (λ v. frame_at a v store) (slice_get es k)) z

-- a part of the store that a write elsewhere leaves
apart : (store part : List ℕ) (a k b n : ℕ) → (b + n ≤ a) ⊎ (a + k ≤ b) → a ≤ length store → length part ≡ k → take n (drop b (put_mid a k store part)) ≡ take n (drop b store)
apart store part a k b n (inl below) h l =
    sym (drop-take b n (put_mid a k store part))
    ∙ ap (drop b) (take-put_mid_below a k store part (b + n) below h)
    ∙ drop-take b n store
apart store part a k b n (inr above) h l = ap (take n) (drop-put_mid a k store part b above h l)

-- a payload in the slot of a place, with fewer than eight frames right before it
module _ (store part : List ℕ) (end : ℕ) (short : length part ≤ 512) (long : 4096 ≤ length store) where
  frames_kept : (at : ℕ) (es : List Entry) → at + length es ≤ end → end < at + 8 → frames_from at es (put_mid (512 * (end % 8)) (length part) store part) ≡ frames_from at es store
  frames_kept at [] h l = refl
  frames_kept at (e ∷ es) h l =
      let a = 512 * (end % 8) in
      let b = 512 * (at % 8) in
      let small = e.short in
      let way : (b + e.size ≤ a) ⊎ (a + length part ≤ b) = ⊎_elim (λ u. inl (omega arith)) (λ u. inr (omega arith)) (cases_lt (at % 8) (end % 8)) in
      ap (λ p. record { heading = e.heading; payload = p } ∷ frames_from (at + 1) es (put_mid a (length part) store part)) (apart store part a (length part) b e.size way (omega arith) refl)
      ∙ ap (λ fs. frame_at at e store ∷ fs) (frames_kept (at + 1) es (omega arith) (omega arith))

  frame_here : (e : Entry) → e.size ≡ length part → frame_at end e (put_mid (512 * (end % 8)) (length part) store part) ≡ record { heading = e.heading; payload = part }
  frame_here e z =
      let a = 512 * (end % 8) in
      let w : e.size ≡ a + length part - a = omega arith in
      ap (λ n. record { heading = e.heading; payload = take n (drop a (put_mid a (length part) store part)) }) w
      ∙ ap (λ p. record { heading = e.heading; payload = p }) (between-put_mid a (length part) store part (a + length part) (omega arith) (omega arith))

-- one more entry, where there is room
module _ (es later : List Entry) (e : Entry) (size : ℕ) (few : length es < 8) (room : 8 ≤ size) (l : later ≡ push_after es size e) where
  added : later ≡ es ++ e ∷ []
  added = l ∙ sym (extend_adds es (e ∷ []) size (omega arith))

  -- and its payload written into the next slot
  pub frames_add : (at start count : ℕ) (store written part : List ℕ) → length part ≤ 512 → 4096 ≤ length store → e.size ≡ length part → start ≡ 512 * ((at + count) % 8) → count ≡ length es → written ≡ part → frames_from at later (put_mid start (start + length part - start) store written) ≡ frames_from at es store ++ record { heading = e.heading; payload = part } ∷ []
  frames_add at start count store written part short long z s n w =
      let end = at + length es in
      let all = put_mid (512 * (end % 8)) (length part) store part in
      let st : start ≡ 512 * (end % 8) = s ∙ ap (λ m. 512 * ((at + m) % 8)) n in
      let k : start + length part - start ≡ length part = omega arith in
      let put : put_mid start (start + length part - start) store written ≡ all = cc in
      ap (frames_from at later) put
      ∙ ap (λ x. frames_from at x all) added
      ∙ frames_push at es e all
      ∙ ap (λ fs. fs ++ frame_at end e all ∷ []) (frames_kept store part end short long at es (omega arith) (omega arith))
      ∙ ap (λ f. frames_from at es store ++ f ∷ []) (frame_here store part end short long e z)

-- the oldest gone: `gone` is as many of n as there are
pub frames_clear : (at n gone : ℕ) (es later : List Entry) (store : List ℕ) → gone ≡ min n (length es) → later ≡ drop gone es → frames_from ((at + gone) % 8) later store ≡ drop n (frames_from at es store)
frames_clear at n gone es later store g l =
    let fs = frames_from at es store in
    let len = length-frames at es store in
    let turn : (at + gone) % 8 % 8 ≡ (at + gone) % 8 = omega arith in
    ap (λ x. frames_from ((at + gone) % 8) x store) l
    ∙ frames_turn ((at + gone) % 8) (at + gone) (drop gone es) store turn
    ∙ sym (frames_drop gone at es store)
    ∙ ⊎_elim
    (λ h. ap (λ k. drop k fs) (omega arith))
    (λ h. drop_all gone fs (omega arith) ∙ sym (drop_all n fs (omega arith)))
    (cases_lt n (length es))

-- A store's first eight slots show all.
module _ (front rest : List ℕ) (long : 4096 ≤ length front) where
  front_shows : (at : ℕ) (es : List Entry) → frames_from at es (front ++ rest) ≡ frames_from at es front
  front_shows at [] = refl
  front_shows at (e ∷ es) =
      let a = 512 * (at % 8) in
      let small = e.short in
      let left : e.size ≤ length (drop a front) = omega (arith, length-drop a front) in
      ap (λ p. record { heading = e.heading; payload = p } ∷ frames_from (at + 1) es (front ++ rest))
      (ap (take e.size) (drop-append-le a front rest (omega arith)) ∙ take-append-le e.size (drop a front) rest left)
      ∙ ap (λ fs. frame_at at e front ∷ fs) (front_shows (at + 1) es)

  pub frames_front : (o : Outstanding) → frames o (front ++ rest) ≡ frames o front
  unfolding frames
  frames_front o = front_shows o.first (contents o.entries)

short_from : (at : ℕ) (es : List Entry) (store : List ℕ) → AllByRecursion (λ f. length f.payload ≤ 512) (frames_from at es store)
short_from at [] store = tt
short_from at (e ∷ es) store =
    let small = e.short in
    (omega (arith, length-take e.size (drop (512 * (at % 8)) store)), short_from (at + 1) es store)

pub frames_short : (o : Outstanding) (store : List ℕ) → AllByRecursion (λ f. length f.payload ≤ 512) (frames o store)
unfolding frames
frames_short o store = short_from o.first (contents o.entries) store

-- for counts of what waits
pub ruleset counts = (length-waiting, length-drop)
