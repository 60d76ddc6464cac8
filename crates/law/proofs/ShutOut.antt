-- The three things that must not happen, each by the tests that the rules make in their order.
use Rattle.std.proofs.Common.{◌≡◌, ℕ, ◌+◌, ◌-◌, ◌%◌, ◌<◌, ◌≤◌, true, false, cond, not, ◌&&◌, ◌||◌, eqb, ltb, leb, ◌⊎◌, List, [], ◌∷◌, length, get_or, take, Some, None, Ok, Err, Option, Result, sym, refl, ◌∙◌, subst, inl, inr, arith}
use Rattle.std.proofs.lemmas.Bool.{eqb-true, ltb-true, and_parts, and_left, cond_both, cond-false, ne_eqb}
use Rattle.refusal.specs.declared.Refusal.{Refusal}
use Rattle.line.specs.Blocks.{take_answer, take_after, take_buffer}
use Rattle.block_check.specs.Law.{Code}
use Rattle.block.specs.declared.status.Status.{Status}
use Rattle.block.specs.declared.status.Status.TheVariants.{Good}
use Rattle.block.specs.Reading.{Content, read_block}
use Rattle.block.specs.Statuses.{code_of}
use Rattle.login.specs.declared.LogIn.{LogIn}
use Rattle.rules.specs.declared.seat.State.{State}
use Rattle.rules.specs.declared.seat.State.TheVariants.{Initial, Login, LoggedIn, LoggedOut}
use Rattle.rules.specs.declared.seat.Seat.{Seat}
use Rattle.rules.specs.declared.seat.Verdict.{Verdict}
use Rattle.rules.specs.declared.seat.Verdict.TheVariants.{Only, Hand}
use Rattle.rules.specs.declared.answer.Tag.{Tag}
use Rattle.rules.specs.Frames.{sent_back, cleared_by}
use Rattle.rules.specs.LogIns.{Told, accepted, settles, settled, moved, negotiated, repeated, hears_log_in, log_in_in, same, differs, number_sent, smaller}
use Rattle.rules.specs.Records.{logged_in, repeats, judged}
use Rattle.rules.specs.Ends.{End, Hearing, silent, is_latest, hears_good_ack, hears_ack, tells, rules_on, hears}
use Rattle.rules.specs.Calls.{Sending, Polling, roomy, initial, idle, logged_out, may_send, due, opens, sends_record, sends_if, times_out, resends, polls, polls_open, polls_taken, receives, receives_as, unchanged}
use Rattle.rules.specs.Links.{open_link, send, poll, timeout, lose, spoil, acts, spoils, spoiled}
use Rattle.law.proofs.States.{not_login, not_out, settles_by}
use Rattle.law.specs.ShutOut.{LogInsClearNothing, AheadGetsNoGood, LoggedInAcknowledged}

pub log_ins_clear_nothing : LogInsClearNothing
unfolding hears
log_ins_clear_nothing e side l status =
    cond_both (eqb (code_of status) 0) _ _ (λ (x : Hearing). (cleared_by x.heard ≡ 0) × (x.end.outstanding ≡ e.outstanding)) (λ _. (refl, refl)) (λ _. (refl, refl))

-- a number ahead of turn is neither the expected one nor a repeat
not_expected : (n x d : ℕ) → 1 ≤ x → x ≤ 255 → 1 ≤ d → d < 255 → n ≡ 1 + (x - 1 + d) % 255 → n ≡ x → ⊥
not_expected n x d some few ahead short is e = omega arith

not_repeated : (n x d taken : ℕ) → 1 ≤ x → x ≤ 255 → 1 ≤ d → d + taken < 255 → n ≡ 1 + (x - 1 + d) % 255 → repeats n x taken ≡ true → ⊥
unfolding repeats
not_repeated n x d taken some few ahead short is t =
    let parts = and_parts (ltb 0 n) (ltb ((x + 254 - n) % 255) taken) t in
    let less = ltb-true ((x + 254 - n) % 255) taken parts.1 in
    omega arith

hears_record : (e : End) (f : Content) → eqb f.heading.protocol 0 ≡ false → hears e f ≡ rules_on e (judged e.seat f)
unfolding hears
hears_record e f carried =
    let h = f.heading in
    cond-false _ _ _ (and_left (eqb h.protocol 0) (eqb h.kind 0) carried) ∙ cond-false _ _ _ (and_left (eqb h.protocol 0) (eqb h.kind 1) carried)

abbrev NoGood : Hearing → Type 0
NoGood x = sent_back x.heard ≡ Some Good → ⊥

pub ahead_gets_no_good : AheadGetsNoGood
unfolding judged
ahead_gets_no_good e f d carried some few ahead short is =
    let s = e.seat in
    let h = f.heading in
    let other : eqb h.protocol 0 ≡ false = ne_eqb h.protocol 0 (λ z. omega arith) in
    let V : Verdict → Type 0 = λ v. NoGood (rules_on e v) in
    subst NoGood (sym (hears_record e f other))
    (cond_both (eqb h.protocol 0) _ _ V (λ t z. let q : ◌≡◌ {A = ℕ} 0 1 = cc in omega arith)
    (λ _. cond_both (not (logged_in s.state)) _ _ V (λ _ z. let q : ◌≡◌ {A = ℕ} 0 1 = cc in omega arith)
    (λ _. cond_both (ltb 3 h.protocol) _ _ V (λ _ z. let q : ◌≡◌ {A = ℕ} 0 1 = cc in omega arith)
    (λ _. cond_both (ltb s.talk.offer.payload (length f.payload) || eqb h.exchange 0) _ _ V (λ _ z. let q : ◌≡◌ {A = ℕ} 0 1 = cc in omega arith)
    (λ _. cond_both (eqb h.number s.flow.expected) _ _ V (λ t _. not_expected h.number s.flow.expected d some few ahead (omega arith) is (eqb-true h.number s.flow.expected t))
    (λ _. cond_both (repeats h.number s.flow.expected s.flow.taken) _ _ V (λ t _. not_repeated h.number s.flow.expected d s.flow.taken some few ahead short is t)
    (λ _ z. let q : ◌≡◌ {A = ℕ} 0 1 = cc in omega arith)))))))

-- the way into Logged-In
abbrev Led : State → Seat → Type 0
Led was s = s.state ≡ LoggedIn → (was ≡ LoggedIn) ⊎ ((accepted s.talk.latest ≡ true) × (s.talk.acked ≡ true) × (s.talk.far ≡ true))

led_settled : (s : Seat) → Led s.state (settled s)
led_settled s = cond_both (settles s.state s.talk) (moved LoggedIn s) s (Led s.state) (λ h _. inr (settles_by s.state s.talk h)) (λ _ z. inl z)

led_negotiated : (s : Seat) (got : LogIn) → Led s.state (negotiated s got).seat
unfolding negotiated
led_negotiated s got =
    let P : Told → Type 0 = λ (t : Told). Led s.state t.seat in
    cond_both (differs s.talk.latest (same (smaller s.talk.offer got.parameters) got.parameters) (smaller s.talk.offer got.parameters)) _ _ P
    (λ _. cond_both (leb 8 (number_sent s.talk.latest)) _ _ P (λ _ z. absurd (not_out z)) (λ _ z. absurd (not_login z)))
    (λ _. led_settled _)

led_repeated : (s : Seat) (got : LogIn) → Led s.state (repeated s got).seat
led_repeated s got =
    cond_both (got.accept && same got.parameters s.talk.offer) _ _ (λ (t : Told). Led s.state t.seat) (λ _ z. inl z) (λ _ z. absurd (not_out z))

led_log_in : (state : State) (o : Option LogIn) (s : Seat) → Led s.state (hears_log_in state o s).seat
led_log_in state None s = inl
led_log_in Initial (Some got) s = led_negotiated s got
led_log_in Login (Some got) s = led_negotiated s got
led_log_in LoggedIn (Some got) s = led_repeated s got
led_log_in LoggedOut (Some got) s = inl

led_rules : (e : End) (v : Verdict) → Led e.seat.state (rules_on e v).end.seat
led_rules e (Only status) = inl
led_rules e Hand = inl

led_ack : (e : End) (f : Content) → Led e.seat.state (hears_ack e f).end.seat
led_ack e f =
    let h = f.heading in
    let P : Hearing → Type 0 = λ (x : Hearing). Led e.seat.state x.end.seat in
    cond_both (eqb (length f.payload) 1 && eqb (get_or f.payload 0 0) 0) (hears_good_ack e h) (silent e) P
    (λ _. cond_both (eqb h.exchange 0) _ _ P
    (λ _. cond_both (is_latest e.seat.talk.latest h.number) _ _ (Led e.seat.state) (λ _. led_settled _) (λ _. inl))
    (λ _. cond_both (logged_in e.seat.state) _ _ P (λ _. inl) (λ _. inl)))
    (λ _. inl)

led_hears : (e : End) (f : Content) → Led e.seat.state (hears e f).end.seat
unfolding hears
led_hears e f =
    let h = f.heading in
    let told = tells e (hears_log_in e.seat.state (log_in_in f) e.seat) in
    let ruled = rules_on e (judged e.seat f) in
    let P : Hearing → Type 0 = λ (x : Hearing). Led e.seat.state x.end.seat in
    cond_both (eqb h.protocol 0 && eqb h.kind 0) (hears_ack e f) (cond (eqb h.protocol 0 && eqb h.kind 1) told ruled) P (λ _. led_ack e f)
    (λ _. cond_both (eqb h.protocol 0 && eqb h.kind 1) told ruled P (λ _. led_log_in e.seat.state (log_in_in f) e.seat) (λ _. led_rules e (judged e.seat f)))

-- the calls
abbrev SendsLed : {R : Type 0} → End → Sending R → Type 0
SendsLed e s = Led e.seat.state s.end.seat

led_opens : (k : Code) (e : End) (store : ℕ) (line : List (List ℕ)) (scratch : List ℕ) → SendsLed e (opens k e store line scratch)
unfolding opens
led_opens k e store line scratch =
    cond_both (roomy store scratch) _ _ (SendsLed e) (λ _. cond_both (initial e.seat.state) _ _ (SendsLed e) (λ _ z. absurd (not_login z)) (λ _. inl)) (λ _. inl)

led_sends_if : (k : Code) (r : Result (Unit {0}) Refusal) (e : End) (f : Content) (line : List (List ℕ)) (scratch : List ℕ) → SendsLed e (sends_if k r e f line scratch)
led_sends_if k (Ok u) e f line scratch = inl
led_sends_if k (Err why) e f line scratch = inl

led_sends_record : (k : Code) (e : End) (tag : Tag) (payload : List ℕ) (store : ℕ) (line : List (List ℕ)) (scratch : List ℕ) → SendsLed e (sends_record k e tag payload store line scratch)
unfolding sends_record
led_sends_record k e tag payload store line scratch =
    cond_both (roomy store scratch) _ _ (SendsLed e) (λ _. led_sends_if k (may_send e tag (length payload)) e _ line scratch) (λ _. inl)

led_resends : (k : Code) (fs : List Content) (e : End) (line : List (List ℕ)) (scratch : List ℕ) → SendsLed e (resends k fs e line scratch)
led_resends k [] e line scratch = inl
led_resends k (f ∷ fs) e line scratch = cond_both (leb 3 e.seat.row) _ _ (SendsLed e) (λ _ z. absurd (not_out z)) (λ _. inl)

led_times_out : (k : Code) (e : End) (store : ℕ) (line : List (List ℕ)) (scratch : List ℕ) → SendsLed e (times_out k e store line scratch)
unfolding times_out
led_times_out k e store line scratch =
    cond_both (roomy store scratch) _ _ (SendsLed e)
    (λ _. cond_both (idle e.seat.state) _ _ (SendsLed e) (λ _. inl) (λ _. led_resends k (due e.seat.state e) e line scratch)) (λ _. inl)

abbrev PollsLed : End → Polling → Type 0
PollsLed e p = Led e.seat.state p.end.seat

led_receives : (k : Code) (e : End) (r : Result Content Status) (line : List (List ℕ)) → Led e.seat.state (receives_as k e r line).end.seat
led_receives k e (Ok f) line = led_hears e f
led_receives k e (Err status) line = inl

led_taken : (k : Code) (change : ℕ → List ℕ → List ℕ) (e : End) (r : Result ℕ Refusal) (incoming outgoing : List (List ℕ)) (scratch : List ℕ) → PollsLed e (polls_taken k change e r incoming outgoing scratch)
unfolding receives
led_taken k change e (Ok n) incoming outgoing scratch = led_receives k e (read_block k.width k.value (take n (change n scratch))) outgoing
led_taken k change e (Err why) incoming outgoing scratch = inl

led_open : (k : Code) (change : ℕ → List ℕ → List ℕ) (e : End) (incoming outgoing : List (List ℕ)) (scratch : List ℕ) → PollsLed e (polls_open k change e incoming outgoing scratch)
led_open k change e incoming outgoing scratch =
    cond_both (logged_out e.seat.state) _ _ (PollsLed e) (λ _. inl)
    (λ _. led_taken k change e (take_answer incoming scratch) (take_after incoming scratch) outgoing (take_buffer incoming scratch))

led_polls : (k : Code) (e : End) (store : ℕ) (incoming outgoing : List (List ℕ)) (scratch : List ℕ) → PollsLed e (polls k e store incoming outgoing scratch)
unfolding polls
led_polls k e store incoming outgoing scratch = cond_both (roomy store scratch) _ _ (PollsLed e) (λ _. led_open k unchanged e incoming outgoing scratch) (λ _. inl)

led_spoils : (k : Code) (p d : ℕ) (e : End) (store : ℕ) (incoming outgoing : List (List ℕ)) (scratch : List ℕ) → PollsLed e (spoils k p d e store incoming outgoing scratch)
unfolding spoils
led_spoils k p d e store incoming outgoing scratch =
    cond_both (roomy store scratch) _ _ (PollsLed e) (λ _. cond_both (eqb d 0) _ _ (PollsLed e) (λ _. inl) (λ _. led_open k (spoiled p d) e incoming outgoing scratch)) (λ _. inl)

pub logged_in_acknowledged : LoggedInAcknowledged
unfolding acts
logged_in_acknowledged k open_link n out scratch = led_opens k n.end n.store out scratch
logged_in_acknowledged k (send tag payload) n out scratch = led_sends_record k n.end tag payload n.store out scratch
logged_in_acknowledged k poll n out scratch = led_polls k n.end n.store n.line out scratch
logged_in_acknowledged k timeout n out scratch = led_times_out k n.end n.store out scratch
logged_in_acknowledged k lose n out scratch = inl
logged_in_acknowledged k (spoil p d) n out scratch = led_spoils k p d n.end n.store n.line out scratch
