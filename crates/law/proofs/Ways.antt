-- One way of the link: what one side accepted and the other handed up, and what the lines hold of it. Places are counted
-- from 0, and each number is that of a place.
use Rattle.std.proofs.Common.{◌≡◌, ℕ, zero, suc, ◌+◌, ◌-◌, ◌%◌, ◌<◌, ◌≤◌, min, Bool, true, false, cond, not, ◌&&◌, eqb, ltb, ◌⊎◌, List, [], ◌∷◌, ◌++◌, length, get_or, take, drop, sym, refl, ap, ◌∙◌, inl, inr, arith, length-drop, take_all, drop-drop}
use lib.Seq.{take-append-le, take-append_seam, drop-append-le}
use Rattle.std.specs.List.{AllByRecursion}
use Rattle.std.proofs.lemmas.List.{length_push}
use Rattle.std.proofs.lemmas.Bool.{eqb-true, ltb-true, and_parts}
use Rattle.block.specs.declared.status.Status.TheVariants.{Good}
use Rattle.block.specs.Reading.{Content}
use Rattle.rules.specs.Frames.{ack_frame}
use Rattle.rules.specs.Records.{after, repeats, one_more, clears}
use Rattle.rules.specs.Ends.{End}
use Rattle.rules.specs.Calls.{numbered, tag_of}
use Rattle.law.specs.Journals.{Record}
use Rattle.law.proofs.Lines.{number, same_number, puts, Line, none, line_lower, line_map, line_rest, line_head, line_put, line_puts_skip}

-- a record as a frame of number n, and the record in a frame
abbrev pub framed : ℕ → Record → Content
framed n r = record { heading = numbered r.tag n; payload = r.payload }

abbrev pub recorded : Content → Record
recorded f = record { tag = tag_of f.heading; payload = f.payload }

-- frames that carry a record, and frames that confirm one
abbrev pub carries : Content → Bool
carries f = not (eqb f.heading.protocol 0)

abbrev pub says_good : Content → Bool
says_good f = eqb (length f.payload) 1 && eqb (get_or f.payload 0 0) 0

abbrev pub confirms : Content → Bool
confirms f = (eqb f.heading.protocol 0 && eqb f.heading.kind 0) && (says_good f && not (eqb f.heading.exchange 0))

-- the frame f stands for the place d of rs
pub record Holds (rs : List Record) (d : ℕ) (f : Content) : Type 0 where
  pub marked : f.heading.number ≡ number d
  pub there : take (suc d) rs ≡ take d rs ++ recorded f ∷ []

abbrev pub Marks : ℕ → Content → Type 0
Marks d f = f.heading.number ≡ number d

-- frames for records that begin at place k
unfoldable pub frames_from : ℕ → List Record → List Content
frames_from k [] = []
frames_from k (r ∷ rs) = framed (number k) r ∷ frames_from (suc k) rs

-- what an end knows of the records that it sends, and of those that it takes
pub record Sender : Type 0 where
  pub waiting : List Content
  pub next : ℕ

pub record Receiver : Type 0 where
  pub expected : ℕ
  pub taken : ℕ

abbrev pub sender : End → Sender
sender e = record { waiting = e.outstanding; next = e.seat.flow.next }

abbrev pub receiver : End → Receiver
receiver e = record { expected = e.seat.flow.expected; taken = e.seat.flow.taken }

pub record Way (w : ℕ) (accepted : List Record) (cleared : ℕ) (s : Sender) (handed : List Record) (r : Receiver) (forward back : List Content) : Type 0 where
  pub cleared_handed : cleared ≤ length handed
  pub handed_accepted : length handed ≤ length accepted
  pub within : length accepted ≤ cleared + w
  pub front : handed ≡ take (length handed) accepted
  pub waiting : s.waiting ≡ frames_from cleared (drop cleared accepted)
  pub next : s.next ≡ number (length accepted)
  pub expected : r.expected ≡ number (length handed)
  pub taken : r.taken ≡ min (length handed) w
  pub frames : Line carries (Holds accepted) w (length accepted) (length handed) forward
  pub acks : Line confirms Marks w (length handed) cleared back

after_number : (k : ℕ) → after (number k) ≡ number (suc k)
unfolding after number
after_number k = omega arith

holds_more : (rs : List Record) (r : Record) (d : ℕ) (f : Content) → d < length rs → Holds rs d f → Holds (rs ++ r ∷ []) d f
holds_more rs r d f h k =
    let le : d ≤ length rs = omega arith in
    record { marked = k.marked; there = rw (take-append-le (suc d) rs (r ∷ []) h, take-append-le d rs (r ∷ []) le) k.there }

length-frames : (k : ℕ) (rs : List Record) → length (frames_from k rs) ≡ length rs
unfolding frames_from
length-frames k [] = refl
length-frames k (r ∷ rs) = ap suc (length-frames (suc k) rs)

frames_push : (k : ℕ) (rs : List Record) (r : Record) → frames_from k (rs ++ r ∷ []) ≡ frames_from k rs ++ framed (number (k + length rs)) r ∷ []
unfolding frames_from
frames_push k [] r = let e : k ≡ k + 0 = omega arith in ap (λ n. framed (number n) r ∷ []) e
frames_push k (x ∷ rs) r =
    let e : suc k + length rs ≡ k + suc (length rs) = omega arith in
    ap (λ fs. framed (number k) x ∷ fs) (frames_push (suc k) rs r ∙ ap (λ n. frames_from (suc k) rs ++ framed (number n) r ∷ []) e)

drop_frames : (m k : ℕ) (rs : List Record) → drop m (frames_from k rs) ≡ frames_from (k + m) (drop m rs)
unfolding frames_from
drop_frames zero k rs = let e : k ≡ k + 0 = omega arith in ap (λ n. frames_from n rs) e
drop_frames (suc m) k [] = refl
drop_frames (suc m) k (r ∷ rs) = let e : suc k + m ≡ k + suc m = omega arith in drop_frames m (suc k) rs ∙ ap (λ n. frames_from n (drop m rs)) e

last_there : (rs : List Record) (r : Record) → take (suc (length rs)) (rs ++ r ∷ []) ≡ take (length rs) (rs ++ r ∷ []) ++ r ∷ []
last_there rs r =
    let len = length_push rs r in
    take_all (suc (length rs)) (rs ++ r ∷ []) (omega arith) ∙ rw take-append_seam

-- the expected frame is the record after those handed up
front_more : (all got : List Record) (r : Record) (d : ℕ) → d ≡ length got → got ≡ take (length got) all → take (suc d) all ≡ take d all ++ r ∷ [] → got ++ r ∷ [] ≡ take (length (got ++ r ∷ [])) all
front_more all got r d e front there = let more : length (got ++ r ∷ []) ≡ suc d = omega (arith, length_push got r) in cc

-- a number that counts as a repeat is of a place before the expected one
repeat_place : (w d h n x k : ℕ) → w ≤ 8 → n ≡ number d → x ≡ number h → k ≡ min h w → h ≤ d + w → d < h + w → repeats n x k ≡ true → d < h
unfolding repeats number
repeat_place w d h n x k small en ex ek near below t =
    let parts = and_parts (ltb 0 n) (ltb ((x + 254 - n) % 255) k) t in
    let lt = ltb-true ((x + 254 - n) % 255) k parts.1 in
    omega arith

-- m is what an acknowledgement of n clears of frames that begin at place k: none, or up to the one of that number
abbrev Found : ℕ → ℕ → ℕ → ℕ → Type 0
Found n k len m = (m ≡ 0) ⊎ ((j : ℕ) × (m ≡ suc j) × (j < len) × (n ≡ number (k + j)))

found_more : (n k len m : ℕ) → Found n (suc k) len m → Found n k (suc len) (one_more m)
found_more n k len m (inl e) = inl (ap one_more e)
found_more n k len m (inr f) =
    let e : suc k + f.0 ≡ k + suc f.0 = omega arith in
    inr (suc f.0, ap one_more f.1, omega arith, f.3 ∙ ap number e)

found_here : (n k len m : ℕ) (b : Bool) → eqb (number k) n ≡ b → Found n (suc k) len m → Found n k (suc len) (cond b 1 (one_more m))
found_here n k len m true e f =
    let z : k ≡ k + 0 = omega arith in
    inr (0, refl, omega arith, sym (eqb-true (number k) n e) ∙ ap number z)
found_here n k len m false e f = found_more n k len m f

found : (n k : ℕ) (rs : List Record) → Found n k (length rs) (clears n (frames_from k rs))
unfolding clears frames_from
found n k [] = inl refl
found n k (r ∷ rs) = found_here n k (length rs) (clears n (frames_from (suc k) rs)) (eqb (number k) n) refl (found n (suc k) rs)

cleared_to : (w n d cleared handed all m : ℕ) → w ≤ 8 → n ≡ number d → d < handed → cleared ≤ d + w → handed ≤ all → all ≤ cleared + w → Found n cleared (all - cleared) m → (m ≡ 0) ⊎ (cleared + m ≡ suc d)
cleared_to w n d cleared handed all m small is below near h k (inl e) = inl e
cleared_to w n d cleared handed all m small is below near h k (inr f) =
    let e = same_number d (cleared + f.0) (sym is ∙ f.3) (omega arith) (omega arith) in
    inr (omega arith)

-- frames that go out again, each at its place
record Next (rs : List Record) (k : ℕ) (r : Record) (later : List Record) : Type 0 where
  taken : take (suc k) rs ≡ take k rs ++ r ∷ []
  left : drop (suc k) rs ≡ later
  below : k < length rs

next_of : (k : ℕ) (rs : List Record) (r : Record) (later : List Record) → drop k rs ≡ r ∷ later → Next rs k r later
next_of zero [] r later e = let z : ◌≡◌ {A = ℕ} 0 1 = cc in absurd (omega arith)
next_of zero (x ∷ xs) r later e = record { taken = cc; left = cc; below = omega arith }
next_of (suc k) [] r later e = let z : ◌≡◌ {A = ℕ} 0 1 = cc in absurd (omega arith)
next_of (suc k) (x ∷ xs) r later e =
    let n = next_of k xs r later e in
    record { taken = ap (λ (l : List _). x ∷ l) n.taken; left = n.left; below = omega arith }

line_resend : {w low : ℕ} (all : List Record) (k : ℕ) (rs : List Record) {line : List Content} → drop k all ≡ rs → length all ≤ k + w → low ≤ length all
    → Line carries (Holds all) w (length all) low line → Line carries (Holds all) w (length all) low (puts line (frames_from k rs))
unfolding puts frames_from
line_resend all k [] e near lows l = l
line_resend all k (r ∷ rs) e near lows l =
    let n = next_of k all r rs e in
    line_resend all (suc k) rs n.left (omega arith) lows
    (line_put _ k n.below lows near (record { marked = refl; there = n.taken }) l)

pub way_start : {w : ℕ} → Way w [] 0 (record { waiting = []; next = 1 }) [] (record { expected = 1; taken = 0 }) [] []
unfolding frames_from number
way_start = record {
  cleared_handed = omega arith;
  handed_accepted = omega arith;
  within = omega arith;
  front = refl;
  waiting = refl;
  next = refl;
  expected = refl;
  taken = omega arith;
  frames = none;
  acks = none;
}

module _ {w : ℕ} {acc : List Record} {cleared : ℕ} {s : Sender} {handed : List Record} {r : Receiver} where
  pub length-waiting : {fs bs : List Content} → Way w acc cleared s handed r fs bs → length s.waiting ≡ length acc - cleared
  length-waiting y = ap length y.waiting ∙ length-frames cleared (drop cleared acc) ∙ length-drop cleared acc

  -- the lines alone change
  way_lines : {fs bs fs' bs' : List Content} → Way w acc cleared s handed r fs bs
      → Line carries (Holds acc) w (length acc) (length handed) fs' → Line confirms Marks w (length handed) cleared bs' → Way w acc cleared s handed r fs' bs'
  way_lines y f b = record {
    cleared_handed = y.cleared_handed;
    handed_accepted = y.handed_accepted;
    within = y.within;
    front = y.front;
    waiting = y.waiting;
    next = y.next;
    expected = y.expected;
    taken = y.taken;
    frames = f;
    acks = b;
  }

  -- a loss at either line, and frames that say nothing of this way
  pub way_rest_forward : {g : Content} {fs bs : List Content} → Way w acc cleared s handed r (g ∷ fs) bs → Way w acc cleared s handed r fs bs
  way_rest_forward y = way_lines y (line_rest y.frames) y.acks

  pub way_rest_back : {g : Content} {fs bs : List Content} → Way w acc cleared s handed r fs (g ∷ bs) → Way w acc cleared s handed r fs bs
  way_rest_back y = way_lines y y.frames (line_rest y.acks)

  pub way_puts_forward : {fs bs : List Content} (qs : List Content) → AllByRecursion (λ q. carries q ≡ false) qs → Way w acc cleared s handed r fs bs → Way w acc cleared s handed r (puts fs qs) bs
  way_puts_forward qs a y = way_lines y (line_puts_skip qs a y.frames) y.acks

  pub way_puts_back : {fs bs : List Content} (qs : List Content) → AllByRecursion (λ q. confirms q ≡ false) qs → Way w acc cleared s handed r fs bs → Way w acc cleared s handed r fs (puts bs qs)
  way_puts_back qs a y = way_lines y y.frames (line_puts_skip qs a y.acks)

  -- a record is accepted
  pub way_accept : {fs bs : List Content} (x : Record) → length s.waiting < w → Way w acc cleared s handed r fs bs
      → Way w (acc ++ x ∷ []) cleared (record { waiting = s.waiting ++ framed s.next x ∷ []; next = after s.next }) handed r (puts fs (framed s.next x ∷ [])) bs
  unfolding puts
  way_accept x room y =
      let out = length-waiting y in
      let len = length_push acc x in
      let le : cleared ≤ length acc = omega arith in
      let plus : cleared + length (drop cleared acc) ≡ length acc = omega (arith, length-drop cleared acc) in
      let longer : suc (length acc) ≡ length (acc ++ x ∷ []) = omega arith in
      record {
        cleared_handed = y.cleared_handed;
        handed_accepted = omega arith;
        within = omega arith;
        front = y.front ∙ sym (take-append-le (length handed) acc (x ∷ []) y.handed_accepted);
        waiting =
            ap (λ n. s.waiting ++ framed n x ∷ []) y.next ∙ ap (λ l. l ++ framed (number (length acc)) x ∷ []) y.waiting
            ∙ ap (λ n. frames_from cleared (drop cleared acc) ++ framed (number n) x ∷ []) (sym plus)
            ∙ sym (frames_push cleared (drop cleared acc) x) ∙ ap (frames_from cleared) (sym (drop-append-le cleared acc (x ∷ []) le));
        next = ap after y.next ∙ after_number (length acc) ∙ ap number longer;
        expected = y.expected;
        taken = y.taken;
        frames =
            line_put (framed s.next x) (length acc) (omega arith) (omega arith) (omega arith)
            (record { marked = y.next; there = last_there acc x })
            (line_map (holds_more acc x) (omega arith) y.frames);
        acks = y.acks;
      }

  -- all outstanding frames go out again
  pub way_resend : {fs bs : List Content} → Way w acc cleared s handed r fs bs → Way w acc cleared s handed r (puts fs s.waiting) bs
  way_resend y = way_lines y (rw y.waiting (line_resend acc cleared (drop cleared acc) refl y.within y.handed_accepted y.frames)) y.acks

  -- the expected frame is handed up
  pub way_hand : {g : Content} {fs bs : List Content} → w ≤ 8 → carries g ≡ true → g.heading.number ≡ r.expected → Way w acc cleared s handed r (g ∷ fs) bs
      → Way w acc cleared s (handed ++ recorded g ∷ []) (record { expected = after r.expected; taken = min (r.taken + 1) w }) fs (puts bs (ack_frame g.heading Good ∷ []))
  unfolding puts
  way_hand {g} small t e y =
      let h = line_head t y.frames in
      let same : h.d ≡ length handed = same_number h.d (length handed) (sym h.fits.marked ∙ e ∙ y.expected) (omega (arith, h)) (omega (arith, h)) in
      let len = length_push handed (recorded g) in
      let longer : suc (length handed) ≡ length (handed ++ recorded g ∷ []) = omega arith in
      record {
        cleared_handed = omega arith;
        handed_accepted = omega (arith, h);
        within = y.within;
        front = front_more acc handed (recorded g) h.d same y.front h.fits.there;
        waiting = y.waiting;
        next = y.next;
        expected = ap after y.expected ∙ after_number (length handed) ∙ ap number longer;
        taken = omega (arith, y.taken);
        frames = line_lower (omega (arith, h)) h.later;
        acks =
            line_put (ack_frame g.heading Good) h.d (omega (arith, h)) (omega (arith, h)) (omega (arith, h)) h.fits.marked
            (line_map (λ a n b k. k) (omega (arith, h)) y.acks);
      }

  -- a repeat is confirmed again
  pub way_repeat : {g : Content} {fs bs : List Content} → w ≤ 8 → carries g ≡ true → repeats g.heading.number r.expected r.taken ≡ true → Way w acc cleared s handed r (g ∷ fs) bs
      → Way w acc cleared s handed r fs (puts bs (ack_frame g.heading Good ∷ []))
  unfolding puts
  way_repeat {g} small t e y =
      let h = line_head t y.frames in
      let lt : h.d < length handed = repeat_place w h.d (length handed) g.heading.number r.expected r.taken small h.fits.marked y.expected y.taken h.near (omega (arith, h)) e in
      way_lines y (line_rest y.frames) (line_put (ack_frame g.heading Good) h.d lt y.cleared_handed h.near h.fits.marked y.acks)

  -- an acknowledgement clears frames
  pub way_clear : {g : Content} {fs bs : List Content} → w ≤ 8 → confirms g ≡ true → Way w acc cleared s handed r fs (g ∷ bs)
      → Way w acc (cleared + clears g.heading.number s.waiting) (record { waiting = drop (clears g.heading.number s.waiting) s.waiting; next = s.next }) handed r fs bs
  way_clear {g} small t y =
      let h = line_head t y.acks in
      let n = g.heading.number in
      let m = clears n s.waiting in
      let len = length-drop cleared acc in
      let there : Found n cleared (length acc - cleared) m = rw y.waiting (rw len at (found n cleared (drop cleared acc))) in
      let how = cleared_to w n h.d cleared (length handed) (length acc) m small h.fits h.below h.near y.handed_accepted y.within there in
      record {
        cleared_handed = omega (arith, h, how);
        handed_accepted = y.handed_accepted;
        within = omega arith;
        front = y.front;
        waiting = ap (drop m) y.waiting ∙ drop_frames m cleared (drop cleared acc) ∙ ap (frames_from (cleared + m)) (drop-drop m cleared acc);
        next = y.next;
        expected = y.expected;
        taken = y.taken;
        frames = y.frames;
        acks = line_lower (omega (arith, h, how)) h.later;
      }
