-- The invariant of a link, and that whatever an end hears keeps it.
use Rattle.std.proofs.Common.{◌≡◌, ℕ, ◌+◌, ◌≤◌, Bool, true, false, not, ◌&&◌, ◌||◌, eqb, ltb, leb, List, [], ◌∷◌, ◌++◌, length, Some, None, Option, refl, ap, ◌∙◌, add-zero, arith}
use Rattle.std.specs.List.{AllByRecursion}
use Rattle.std.proofs.lemmas.List.{append-nil}
use Rattle.std.proofs.lemmas.Bool.{eqb-true, leb-false, and_from, or_parts, not_from_false, not-false, cond_both, ne_eqb}
use Rattle.block_check.specs.Law.{Code, Lawful}
use Rattle.block.specs.declared.status.Status.{Status}
use Rattle.block.specs.declared.status.Status.TheVariants.{Good, Unsupported, LogInInProgress, IllegalPause, OutOfTurn, BadLogIn, BadRecord}
use Rattle.block.specs.Reading.{Content}
use Rattle.block.specs.Statuses.{code_of}
use Rattle.login.specs.declared.Parameters.{Parameters}
use Rattle.login.specs.declared.LogIn.{LogIn}
use Rattle.login.specs.Form.{log_in_of}
use Rattle.rules.specs.declared.seat.State.{State}
use Rattle.rules.specs.declared.seat.State.TheVariants.{Initial, Login, LoggedIn, LoggedOut}
use Rattle.rules.specs.declared.seat.Latest.{Latest}
use Rattle.rules.specs.declared.seat.Seat.{Seat}
use Rattle.rules.specs.declared.seat.Verdict.{Verdict}
use Rattle.rules.specs.declared.seat.Verdict.TheVariants.{Only, Hand}
use Rattle.rules.specs.declared.answer.Heard.{Heard}
use Rattle.rules.specs.declared.answer.Heard.TheVariants.{Quiet, Answer, Renew, Hand as HandUp}
use Rattle.rules.specs.Frames.{ack_frame, no_heading, log_in_frame, cleared_by, replies}
use Rattle.rules.specs.LogIns.{Told, smaller, same, bad, good_of, log_in_in, settled, moved, with_talk, differs, number_sent, renewed, noted, negotiated, hears_log_in}
use Rattle.rules.specs.Records.{repeats, clears, logged_in, judged}
use Rattle.rules.specs.Ends.{End, Hearing, silent, acked, is_latest, clearing, hears_ack, tells, rules_on, hears}
use Rattle.rules.specs.Sending.{blocks, puts as puts-blocks}
use Rattle.law.specs.Journals.{Record, Past}
use Rattle.law.proofs.States.{logged_in_is}
use Rattle.law.proofs.Lines.{puts, all_puts}
use Rattle.law.proofs.Ways.{recorded, carries, confirms, says_good, sender, receiver, Way, way_rest_forward, way_rest_back, way_puts_forward, way_puts_back, way_hand, way_repeat, way_clear}
use Rattle.law.proofs.Reading.{Sized, puts_sealed}
use Rattle.law.proofs.Talks.{Within, Bounds, smaller_here, smaller_agreed, Offered, SeatOk, out_ok, settled_ok, settled_flow, is_log_in, Clean, clean_ack, clean_log_in, Fit}

-- an end with the line towards it, and its past
pub record Place : Type 0 where
  pub end : End
  pub line : List (List ℕ)
  pub past : Past

-- a and b are the limits of n and f, m the smaller of them; ins and outs are the frames on the lines towards n and f
pub record Inv (k : Code) (m a b : Parameters) (n f : Place) (ins outs : List Content) : Type 0 where
  pub here : SeatOk m a n.end.seat
  pub there : SeatOk m b f.end.seat
  pub in_line : n.line ≡ blocks k ins
  pub out_line : f.line ≡ blocks k outs
  pub in_clean : AllByRecursion (Clean m b) ins
  pub out_clean : AllByRecursion (Clean m a) outs
  pub out : Way m.offset n.past.accepted n.past.cleared (sender n.end) f.past.handed (receiver f.end) outs ins
  pub back : Way m.offset f.past.accepted f.past.cleared (sender f.end) n.past.handed (receiver n.end) ins outs
  pub here_records : AllByRecursion Fit n.past.accepted
  pub there_records : AllByRecursion Fit f.past.accepted

abbrev pub Stands : Code → Parameters → Parameters → Parameters → Place → Place → Type 0
Stands k m a b n f = (ins : List Content) × (outs : List Content) × Inv k m a b n f ins outs

pub swapped : (k : Code) (m a b : Parameters) (n f : Place) → Stands k m a b n f → Stands k m b a f n
swapped k m a b n f (ins, outs, v) = (
  outs,
  ins,
  record {
    here = v.there;
    there = v.here;
    in_line = v.out_line;
    out_line = v.in_line;
    in_clean = v.out_clean;
    out_clean = v.in_clean;
    out = v.back;
    back = v.out;
    here_records = v.there_records;
    there_records = v.here_records;
  },
)

-- the far place with more frames on its line
abbrev pub far_with : Code → Place → List Content → Place
far_with k f fs = record { end = f.end; line = puts-blocks f.line (blocks k fs); past = f.past }

all_sized : (m a : Parameters) (fs : List Content) → AllByRecursion (Clean m a) fs → AllByRecursion Sized fs
all_sized m a [] h = tt
all_sized m a (f ∷ fs) h = (h.0.sized, all_sized m a fs h.1)

-- a call of n that left it at e with the past p, left the frames `left` on its line, and sent the frames fs
pub led_on : {k : Code} {m a b : Parameters} {n f : Place} {ins outs : List Content} → Lawful k.width k.value → (e : End) (line : List (List ℕ)) (p : Past) (left fs : List Content)
    → Inv k m a b n f ins outs → line ≡ blocks k left → AllByRecursion (Clean m b) left → SeatOk m a e.seat → AllByRecursion (Clean m a) fs
    → Way m.offset p.accepted p.cleared (sender e) f.past.handed (receiver f.end) (puts outs fs) left
    → Way m.offset f.past.accepted f.past.cleared (sender f.end) p.handed (receiver e) left (puts outs fs)
    → AllByRecursion Fit p.accepted → Stands k m a b (record { end = e; line = line; past = p }) (far_with k f fs)
led_on {k} {m} {a} {b} {n} {f} {ins} {outs} law e line p left fs v is clean ok fs-clean out back fit = (
  left,
  puts outs fs,
  record {
    here = ok;
    there = v.there;
    in_line = is;
    out_line = ap (λ l. puts-blocks l (blocks k fs)) v.out_line ∙ puts_sealed k law outs fs (all_sized m a fs fs-clean);
    in_clean = clean;
    out_clean = all_puts (Clean m a) outs fs v.out_clean fs-clean;
    out = out;
    back = back;
    here_records = fit;
    there_records = v.there_records;
  },
)

-- frames that say nothing of either way
abbrev Idle : Content → Type 0
Idle q = (carries q ≡ false) × (confirms q ≡ false)

idle_carries : (qs : List Content) → AllByRecursion Idle qs → AllByRecursion (λ q. carries q ≡ false) qs
idle_carries [] h = tt
idle_carries (q ∷ qs) h = (h.0.0, idle_carries qs h.1)

idle_confirms : (qs : List Content) → AllByRecursion Idle qs → AllByRecursion (λ q. confirms q ≡ false) qs
idle_confirms [] h = tt
idle_confirms (q ∷ qs) h = (h.0.1, idle_confirms qs h.1)

-- the record that a frame hands up, if it does
abbrev pub given : Heard → Content → List Record
given (Quiet n) f = []
given (Answer status) f = []
given Renew f = []
given HandUp f = recorded f ∷ []

module _ (k : Code) (law : Lawful k.width k.value) (m a b : Parameters) (n f : Place) (g : Content) (gs outs : List Content) (bd : Bounds m a b) (v : Inv k m a b n f (g ∷ gs) outs) where
  -- the link after n took g and did this
  abbrev pub Left : End → List Content → List Record → ℕ → Type 0
  Left e fs up cleared =
      Stands k m a b
      (record { end = e; line = blocks k gs; past = record { accepted = n.past.accepted; handed = n.past.handed ++ up; cleared = n.past.cleared + cleared } })
      (far_with k f fs)

  abbrev pub Kept : Hearing → Type 0
  Kept x = Left x.end (replies x.end.seat g.heading x.heard) (given x.heard g) (cleared_by x.heard)

  small : m.offset ≤ 8
  small = omega (arith, bd)

  quiet_left : (e : End) (fs : List Content) → sender e ≡ sender n.end → receiver e ≡ receiver n.end → SeatOk m a e.seat → AllByRecursion Idle fs → AllByRecursion (Clean m a) fs → Left e fs [] 0
  quiet_left e fs es er ok idle clean =
      led_on law e (blocks k gs) _ gs fs v refl v.in_clean.1 ok clean
      (rw (add-zero n.past.cleared, es) (way_puts_forward fs (idle_carries fs idle) (way_rest_back v.out)))
      (rw (append-nil n.past.handed, er) (way_puts_back fs (idle_confirms fs idle) (way_rest_forward v.back))) v.here_records

  -- an answer that confirms no record, and none
  answer_kept : (e : End) (status : Status) → sender e ≡ sender n.end → receiver e ≡ receiver n.end → SeatOk m a e.seat → confirms (ack_frame g.heading status) ≡ false → Kept (record { end = e; heard = Answer status })
  unfolding replies
  answer_kept e status es er ok nc = quiet_left e (ack_frame g.heading status ∷ []) es er ok ((refl, nc), tt) (clean_ack g.heading status v.in_clean.0.sized.fits, tt)

  silent_kept : (e : End) → sender e ≡ sender n.end → receiver e ≡ receiver n.end → SeatOk m a e.seat → Kept (silent e)
  unfolding replies
  silent_kept e es er ok = quiet_left e [] es er ok tt tt

  -- with the end as it is
  only_kept : (status : Status) → confirms (ack_frame g.heading status) ≡ false → Kept (rules_on n.end (Only status))
  only_kept status nc = answer_kept n.end status refl refl v.here nc

  stay_kept : Kept (silent n.end)
  stay_kept = silent_kept n.end refl refl v.here

  -- a record
  hand_kept : n.end.seat.state ≡ LoggedIn → carries g ≡ true → g.heading.number ≡ n.end.seat.flow.expected → Kept (rules_on n.end Hand)
  unfolding replies
  hand_kept st t e =
      let w : n.end.seat.talk.offer.offset ≡ m.offset = ap (λ (p : Parameters). p.offset) (v.here.agreed st) in
      led_on law (rules_on n.end Hand).end (blocks k gs) _ gs (ack_frame g.heading Good ∷ []) v refl v.in_clean.1 v.here (clean_ack g.heading Good v.in_clean.0.sized.fits, tt)
      (rw (add-zero n.past.cleared) (way_puts_forward (ack_frame g.heading Good ∷ []) (refl, tt) (way_rest_back v.out)))
      (rw w (way_hand small t e v.back)) v.here_records

  again_kept : carries g ≡ true → repeats g.heading.number n.end.seat.flow.expected n.end.seat.flow.taken ≡ true → Kept (rules_on n.end (Only Good))
  unfolding replies
  again_kept t e =
      led_on law n.end (blocks k gs) _ gs (ack_frame g.heading Good ∷ []) v refl v.in_clean.1 v.here (clean_ack g.heading Good v.in_clean.0.sized.fits, tt)
      (rw (add-zero n.past.cleared) (way_puts_forward (ack_frame g.heading Good ∷ []) (refl, tt) (way_rest_back v.out)))
      (rw (append-nil n.past.handed) (way_repeat small t e v.back)) v.here_records

  judged_kept : Kept (rules_on n.end (judged n.end.seat g))
  unfolding judged
  judged_kept =
      let s = n.end.seat in
      let h = g.heading in
      let V : Verdict → Type 0 = λ w. Kept (rules_on n.end w) in
      cond_both (eqb h.protocol 0) _ _ V (λ _. cond_both (eqb h.kind 2) _ _ V (λ _. only_kept IllegalPause refl) (λ _. only_kept Unsupported refl))
      (λ p. let t = not_from_false (eqb h.protocol 0) p in
      cond_both (not (logged_in s.state)) _ _ V (λ _. only_kept LogInInProgress refl)
      (λ st. cond_both (ltb 3 h.protocol) _ _ V (λ _. only_kept Unsupported refl)
      (λ _. cond_both (ltb s.talk.offer.payload (length g.payload) || eqb h.exchange 0) _ _ V (λ _. only_kept BadRecord refl)
      (λ _. cond_both (eqb h.number s.flow.expected) _ _ V (λ e. hand_kept (logged_in_is s.state (not-false (logged_in s.state) st)) t (eqb-true h.number s.flow.expected e))
      (λ _. cond_both (repeats h.number s.flow.expected s.flow.taken) _ _ V (λ e. again_kept t e) (λ _. only_kept OutOfTurn refl))))))

  -- an acknowledgement
  clear_kept : confirms g ≡ true → Kept (clearing n.end (clears g.heading.number n.end.outstanding))
  unfolding replies puts
  clear_kept t =
      let c = clears g.heading.number n.end.outstanding in
      led_on law (clearing n.end c).end (blocks k gs) _ gs [] v refl v.in_clean.1 v.here tt
      (way_clear small t v.out) (rw (append-nil n.past.handed) (way_rest_forward v.back)) v.here_records

  acked_kept : (s : Seat) → s.flow ≡ n.end.seat.flow → SeatOk m a s → Kept (silent (record { seat = s; outstanding = n.end.outstanding }))
  acked_kept s fl ok = silent_kept (record { seat = s; outstanding = n.end.outstanding }) (rw fl refl) (rw fl refl) ok

  ack_kept : (eqb g.heading.protocol 0 && eqb g.heading.kind 0) ≡ true → Kept (hears_ack n.end g)
  ack_kept t =
      let e = n.end in
      let h = g.heading in
      cond_both (says_good g) _ _ Kept
      (λ said. cond_both (eqb h.exchange 0) _ _ Kept
      (λ _. cond_both (is_latest e.seat.talk.latest h.number) _ _ (λ s. Kept (silent (record { seat = s; outstanding = e.outstanding })))
      (λ _. let s = with_talk (acked e.seat.talk) e.seat in
      acked_kept (settled s) (settled_flow s) (settled_ok s (record { offer = v.here.offer; latest = v.here.latest; far = v.here.far; agreed = v.here.agreed })))
      (λ _. stay_kept))
      (λ x. cond_both (logged_in e.seat.state) _ _ Kept
      (λ _. clear_kept (and_from (eqb h.protocol 0 && eqb h.kind 0) (says_good g && not (eqb h.exchange 0)) t (and_from (says_good g) (not (eqb h.exchange 0)) said (not_from_false (eqb h.exchange 0) x))))
      (λ _. stay_kept)))
      (λ _. stay_kept)

  -- a log-in
  seat_kept : (s : Seat) (status : Status) → s.flow ≡ n.end.seat.flow → SeatOk m a s → confirms (ack_frame g.heading status) ≡ false → Kept (tells n.end (record { seat = s; heard = Answer status }))
  seat_kept s status fl ok nc = answer_kept (record { seat = s; outstanding = n.end.outstanding }) status (rw fl refl) (rw fl refl) ok nc

  abbrev ToldKept : Told → Type 0
  ToldKept t = Kept (tells n.end t)

  renewed_kept : (o : Parameters) (accept far : Bool) → eqb g.heading.exchange 0 ≡ true → o ≡ m → Within m o a → leb 8 (number_sent n.end.seat.talk.latest) ≡ false →
      ToldKept (record { seat = moved Login (with_talk (renewed n.end.seat.talk o accept far) n.end.seat); heard = Renew })
  unfolding replies
  renewed_kept o accept far x agree in-o few =
      let s = n.end.seat in
      let l : Latest = record { number = number_sent s.talk.latest + 1; message = record { accept = accept; parameters = o } } in
      let count : l.number ≤ 8 = omega (arith, leb-false 8 (number_sent s.talk.latest) few) in
      let sent : Offered m a l = record { parameters = in-o; count = count } in
      quiet_left (record { seat = moved Login (with_talk (renewed s.talk o accept far) s); outstanding = n.end.outstanding })
      (ack_frame g.heading Good ∷ log_in_frame s.side l ∷ []) refl refl
      (record { offer = in-o; latest = sent; far = λ _. agree; agreed = λ _. agree })
      ((refl, ap not x), ((refl, refl), tt))
      (clean_ack g.heading Good v.in_clean.0.sized.fits, (clean_log_in s.side l bd.here sent, tt))

  negotiated_kept : (got : LogIn) → eqb g.heading.exchange 0 ≡ true → Within m got.parameters b → ToldKept (negotiated n.end.seat got)
  unfolding negotiated
  negotiated_kept got x in_p =
      let s = n.end.seat in
      let o = smaller s.talk.offer got.parameters in
      let accept = same o got.parameters in
      let here : Within m o a = smaller_here s.talk.offer got.parameters v.here.offer in_p in
      let agree : o ≡ m = smaller_agreed s.talk.offer got.parameters v.here.offer in_p bd in
      let noting : Seat = with_talk (noted s.talk o (got.accept && accept)) s in
      cond_both (differs s.talk.latest accept o) _ _ ToldKept
      (λ _. cond_both (leb 8 (number_sent s.talk.latest)) _ _ ToldKept
      (λ _. seat_kept (moved LoggedOut s) BadLogIn refl (out_ok s v.here) refl)
      (λ few. renewed_kept o accept (got.accept && accept) x agree here few))
      (λ _. seat_kept (settled noting) Good (settled_flow noting) (settled_ok noting (record { offer = here; latest = v.here.latest; far = λ _. agree; agreed = λ _. agree })) (ap not x))

  good_kept : (state : State) (got : LogIn) → eqb g.heading.exchange 0 ≡ true → Within m got.parameters b → ToldKept (hears_log_in state (Some got) n.end.seat)
  good_kept Initial got x in_p = negotiated_kept got x in_p
  good_kept Login got x in_p = negotiated_kept got x in_p
  good_kept LoggedIn got x in_p =
      let s = n.end.seat in
      cond_both (got.accept && same got.parameters s.talk.offer) _ _ ToldKept (λ _. seat_kept s Good refl v.here (ap not x))
      (λ _. seat_kept (moved LoggedOut s) BadLogIn refl (out_ok s v.here) refl)
  good_kept LoggedOut got x in_p = seat_kept n.end.seat BadLogIn refl v.here refl

  bad_kept : (state : State) → ToldKept (hears_log_in state None n.end.seat)
  bad_kept state = seat_kept n.end.seat BadLogIn refl v.here refl

  log_in_kept : (state : State) → is_log_in g ≡ true → ToldKept (hears_log_in state (log_in_in g) n.end.seat)
  log_in_kept state t =
      let h = g.heading in
      let l = log_in_of g.payload in
      let P : Option LogIn → Type 0 = λ o. ToldKept (hears_log_in state o n.end.seat) in
      cond_both (eqb (length g.payload) 6) (Some l) None (λ o. P (good_of h o))
      (λ _. cond_both (bad h l) _ _ P (λ _. bad_kept state)
      (λ fine.
      let d₁ = eqb h.number 0 in
      let d₂ = eqb l.parameters.baud 0 in
      let d₃ = not (eqb h.exchange 0) in
      let d₄ = ltb l.parameters.payload 270 in
      let x : eqb h.exchange 0 ≡ true = not-false (eqb h.exchange 0) (or_parts d₃ d₄ (or_parts d₂ (d₃ || d₄) (or_parts d₁ (d₂ || (d₃ || d₄)) fine).1).1).0 in
      good_kept state l x (v.in_clean.0.log_in t)))
      (λ _. bad_kept state)

  pub hears_kept : Kept (hears n.end g)
  unfolding hears
  hears_kept =
      let h = g.heading in
      cond_both (eqb h.protocol 0 && eqb h.kind 0) _ _ Kept (λ t. ack_kept t)
      (λ _. cond_both (eqb h.protocol 0 && eqb h.kind 1) _ _ Kept (λ t. log_in_kept n.end.seat.state t) (λ _. judged_kept))

  -- a block that isn't well-formed
  pub bad_block_kept : (status : Status) → (code_of status ≡ 0 → ⊥) → Left n.end (replies n.end.seat no_heading (Answer status)) [] 0
  unfolding replies
  bad_block_kept status ne =
      let nc : confirms (ack_frame no_heading status) ≡ false = rw (ne_eqb (code_of status) 0 ne) refl in
      quiet_left n.end (ack_frame no_heading status ∷ []) refl refl v.here ((refl, nc), tt) (clean_ack no_heading status (record { ranged = refl; number = omega arith; exchange = omega arith }), tt)
