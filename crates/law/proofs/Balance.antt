-- Every record that an end accepted is cleared or outstanding after any call, whatever the check, the lines and the
-- scratch: an accepted send adds one to both, a poll or a spoil clears as many as it answers.
use Rattle.std.proofs.Common.{◌≡◌, ℕ, zero, suc, ◌+◌, ◌≤◌, ◌&&◌, eqb, leb, List, [], ◌∷◌, length, get_or, take, drop, Some, None, Ok, Err, Option, Result, refl, arith, length-drop}
use Rattle.std.proofs.lemmas.List.{length_push}
use Rattle.std.proofs.lemmas.Bool.{cond_both}
use Rattle.refusal.specs.declared.Refusal.{Refusal}
use Rattle.line.specs.Blocks.{take_answer, take_after, take_buffer}
use Rattle.block_check.specs.Law.{Code}
use Rattle.block.specs.declared.status.Status.{Status}
use Rattle.block.specs.Reading.{Content, read_block}
use Rattle.login.specs.declared.LogIn.{LogIn}
use Rattle.rules.specs.declared.seat.Side.{Side}
use Rattle.rules.specs.declared.seat.Side.TheVariants.{Controller, Sled}
use Rattle.rules.specs.declared.seat.State.{State}
use Rattle.rules.specs.declared.seat.State.TheVariants.{Initial, Login, LoggedIn, LoggedOut}
use Rattle.rules.specs.declared.seat.Seat.{Seat}
use Rattle.rules.specs.declared.seat.Verdict.{Verdict}
use Rattle.rules.specs.declared.seat.Verdict.TheVariants.{Only, Hand}
use Rattle.rules.specs.declared.answer.Tag.{Tag}
use Rattle.rules.specs.declared.answer.Sent.{Sent}
use Rattle.rules.specs.Frames.{cleared_by}
use Rattle.rules.specs.LogIns.{Told, smaller, same, differs, number_sent, negotiated, hears_log_in, log_in_in}
use Rattle.rules.specs.Records.{one_more, clears, logged_in, judged}
use Rattle.rules.specs.Ends.{End, Hearing, silent, hears_good_ack, hears_ack, tells, rules_on, hears}
use Rattle.rules.specs.Calls.{Sending, Polling, roomy, initial, idle, logged_out, may_send, due, opens, sends_record, sends_if, times_out, resends, receives, receives_as, polls, polls_open, polls_taken, unchanged}
use Rattle.rules.specs.Links.{Act, open_link, send, poll, timeout, lose, spoil, Node, acts, spoiled, spoils, World, Call, stepped, entry}
use Rattle.law.specs.Journals.{Past, with_sent, with_polled, with_answer, with_entry}

-- an acknowledgement clears no more than is outstanding
one_more_within : (m len : ℕ) → m ≤ len → one_more m ≤ suc len
one_more_within zero len h = omega arith
one_more_within (suc m) len h = omega arith

clears_within : (n : ℕ) (fs : List Content) → clears n fs ≤ length fs
unfolding clears
clears_within n [] = omega arith
clears_within n (f ∷ fs) =
    cond_both (eqb f.heading.number n) 1 (one_more (clears n fs)) (λ m. m ≤ suc (length fs)) (λ _. omega arith)
    (λ _. one_more_within (clears n fs) (length fs) (clears_within n fs))

-- what an end hears: as many frames are outstanding before as it clears and as are outstanding after
abbrev HeardBalance : End → Hearing → Type 0
HeardBalance e x = length e.outstanding ≡ cleared_by x.heard + length x.end.outstanding

-- a log-in clears nothing
abbrev ClearsNone : Told → Type 0
ClearsNone t = cleared_by t.heard ≡ 0

negotiated_balance : (s : Seat) (got : LogIn) → ClearsNone (negotiated s got)
unfolding negotiated
negotiated_balance s got =
    let offer = smaller s.talk.offer got.parameters in
    cond_both (differs s.talk.latest (same offer got.parameters) offer) _ _ ClearsNone
    (λ _. cond_both (leb 8 (number_sent s.talk.latest)) _ _ ClearsNone (λ _. refl) (λ _. refl))
    (λ _. refl)

log_in_balance : (state : State) (o : Option LogIn) (s : Seat) → ClearsNone (hears_log_in state o s)
log_in_balance state None s = refl
log_in_balance Initial (Some got) s = negotiated_balance s got
log_in_balance Login (Some got) s = negotiated_balance s got
log_in_balance LoggedIn (Some got) s = cond_both (got.accept && same got.parameters s.talk.offer) _ _ ClearsNone (λ _. refl) (λ _. refl)
log_in_balance LoggedOut (Some got) s = refl

told_balance : (e : End) (t : Told) → ClearsNone t → HeardBalance e (tells e t)
told_balance e t h = omega arith

ruled_balance : (e : End) (v : Verdict) → HeardBalance e (rules_on e v)
ruled_balance e (Only status) = omega arith
ruled_balance e Hand = omega arith

ack_balance : (e : End) (f : Content) → HeardBalance e (hears_ack e f)
ack_balance e f =
    let h = f.heading in
    let n = clears h.number e.outstanding in
    let within = clears_within h.number e.outstanding in
    let kept : length e.outstanding ≡ 0 + length e.outstanding = omega arith in
    let less : length e.outstanding ≡ n + length (drop n e.outstanding) = omega (arith, length-drop n e.outstanding) in
    cond_both (eqb (length f.payload) 1 && eqb (get_or f.payload 0 0) 0) (hears_good_ack e h) (silent e) (HeardBalance e)
    (λ _. cond_both (eqb h.exchange 0) _ _ (HeardBalance e) (λ _. kept)
    (λ _. cond_both (logged_in e.seat.state) _ _ (HeardBalance e) (λ _. less) (λ _. kept)))
    (λ _. kept)

pub hears_balance : (e : End) (f : Content) → length e.outstanding ≡ cleared_by (hears e f).heard + length (hears e f).end.outstanding
unfolding hears
hears_balance e f =
    let h = f.heading in
    let told = hears_log_in e.seat.state (log_in_in f) e.seat in
    cond_both (eqb h.protocol 0 && eqb h.kind 0) _ _ (HeardBalance e) (λ _. ack_balance e f)
    (λ _. cond_both (eqb h.protocol 0 && eqb h.kind 1) _ _ (HeardBalance e)
    (λ _. told_balance e told (log_in_balance e.seat.state (log_in_in f) e.seat)) (λ _. ruled_balance e (judged e.seat f)))

-- a block that was taken, well-formed or not
receives_as_balance : (k : Code) (e : End) (r : Result Content Status) (line : List (List ℕ)) →
    length e.outstanding ≡ (receives_as k e r line).answer.cleared + length (receives_as k e r line).end.outstanding
receives_as_balance k e (Ok f) line = hears_balance e f
receives_as_balance k e (Err status) line = omega arith

pub receives_balance : (k : Code) (e : End) (b : List ℕ) (line : List (List ℕ)) →
    length e.outstanding ≡ (receives k e b line).answer.cleared + length (receives k e b line).end.outstanding
unfolding receives
receives_balance k e b line = receives_as_balance k e (read_block k.width k.value b) line

-- each accepted record is cleared or outstanding
abbrev pub Level : Past → End → Type 0
Level p e = length p.accepted ≡ p.cleared + length e.outstanding

-- polls and spoils
abbrev PolledLevel : Past → Polling → Type 0
PolledLevel p x = Level (with_polled p x.scratch x.answer) x.end

module _ (k : Code) (p : Past) (e : End) (level : Level p e) where
  taken_balance : (change : ℕ → List ℕ → List ℕ) (r : Result ℕ Refusal) (incoming outgoing : List (List ℕ)) (scratch : List ℕ) → PolledLevel p (polls_taken k change e r incoming outgoing scratch)
  taken_balance change (Ok n) incoming outgoing scratch = omega (arith, receives_balance k e (take n (change n scratch)) outgoing)
  taken_balance change (Err why) incoming outgoing scratch = level

  polls_open_balance : (change : ℕ → List ℕ → List ℕ) (incoming outgoing : List (List ℕ)) (scratch : List ℕ) → PolledLevel p (polls_open k change e incoming outgoing scratch)
  polls_open_balance change incoming outgoing scratch =
      cond_both (logged_out e.seat.state) _ _ (PolledLevel p) (λ _. level)
      (λ _. taken_balance change (take_answer incoming scratch) (take_after incoming scratch) outgoing (take_buffer incoming scratch))

  polls_balance : (store : ℕ) (incoming outgoing : List (List ℕ)) (scratch : List ℕ) → PolledLevel p (polls k e store incoming outgoing scratch)
  unfolding polls
  polls_balance store incoming outgoing scratch =
      cond_both (roomy store scratch) _ _ (PolledLevel p) (λ _. polls_open_balance unchanged incoming outgoing scratch) (λ _. level)

  spoils_balance : (at by store : ℕ) (incoming outgoing : List (List ℕ)) (scratch : List ℕ) → PolledLevel p (spoils k at by e store incoming outgoing scratch)
  unfolding spoils
  spoils_balance at by store incoming outgoing scratch =
      cond_both (roomy store scratch) _ _ (PolledLevel p)
      (λ _. cond_both (eqb by 0) _ _ (PolledLevel p) (λ _. level) (λ _. polls_open_balance (spoiled at by) incoming outgoing scratch)) (λ _. level)

  -- open and timeout accept no record and clear none
  abbrev KeptLevel : {R : Type 0} → Sending R → Type 0
  KeptLevel x = Level p x.end

  opens_balance : (store : ℕ) (line : List (List ℕ)) (scratch : List ℕ) → KeptLevel (opens k e store line scratch)
  unfolding opens
  opens_balance store line scratch =
      cond_both (roomy store scratch) _ _ KeptLevel (λ _. cond_both (initial e.seat.state) _ _ KeptLevel (λ _. level) (λ _. level)) (λ _. level)

  resends_balance : (fs : List Content) (line : List (List ℕ)) (scratch : List ℕ) → KeptLevel (resends k fs e line scratch)
  resends_balance [] line scratch = level
  resends_balance (f ∷ fs) line scratch = cond_both (leb 3 e.seat.row) _ _ KeptLevel (λ _. level) (λ _. level)

  times_out_balance : (store : ℕ) (line : List (List ℕ)) (scratch : List ℕ) → KeptLevel (times_out k e store line scratch)
  unfolding times_out
  times_out_balance store line scratch =
      cond_both (roomy store scratch) _ _ KeptLevel
      (λ _. cond_both (idle e.seat.state) _ _ KeptLevel (λ _. level) (λ _. resends_balance (due e.seat.state e) line scratch)) (λ _. level)

  -- send
  module _ (tag : Tag) (payload : List ℕ) where
    abbrev SentLevel : Sending Sent → Type 0
    SentLevel x = Level (with_sent p (send tag payload) x.answer) x.end

    sends_if_balance : (r : Result (Unit {0}) Refusal) (f : Content) (line : List (List ℕ)) (scratch : List ℕ) → SentLevel (sends_if k r e f line scratch)
    sends_if_balance (Ok u) f line scratch =
        omega (arith, length_push p.accepted (record { tag = tag; payload = payload }), length_push e.outstanding f)
    sends_if_balance (Err why) f line scratch = level

    sends_balance : (store : ℕ) (line : List (List ℕ)) (scratch : List ℕ) → SentLevel (sends_record k e tag payload store line scratch)
    unfolding sends_record
    sends_balance store line scratch =
        cond_both (roomy store scratch) _ _ SentLevel (λ _. sends_if_balance (may_send e tag (length payload)) _ line scratch) (λ _. level)

pub acts_balance : (k : Code) (act : Act) (n : Node) (out : List (List ℕ)) (scratch : List ℕ) (p : Past) → length p.accepted ≡ p.cleared + length n.end.outstanding →
    let r = acts k act n out scratch in
    let q = with_answer p act r.scratch r.answer in
    length q.accepted ≡ q.cleared + length r.near.end.outstanding
unfolding acts with_answer
acts_balance k open_link n out scratch p level = opens_balance k p n.end level n.store out scratch
acts_balance k (send tag payload) n out scratch p level = sends_balance k p n.end level tag payload n.store out scratch
acts_balance k poll n out scratch p level = polls_balance k p n.end level n.store n.line out scratch
acts_balance k timeout n out scratch p level = times_out_balance k p n.end level n.store out scratch
acts_balance k lose n out scratch p level = level
acts_balance k (spoil at by) n out scratch p level = spoils_balance k p n.end level at by n.store n.line out scratch

-- at both ends of the link
abbrev pub Balanced : World → Past → Past → Type 0
Balanced w p q =
    (length p.accepted ≡ p.cleared + length w.controller.end.outstanding) × (length q.accepted ≡ q.cleared + length w.sled.end.outstanding)

side_balance : (k : Code) (w : World) (side : Side) (act : Act) (scratch : List ℕ) (p q : Past) → Balanced w p q →
    let c : Call = record { side = side; act = act; scratch = scratch } in
    Balanced (stepped k w c) (with_entry Controller p (entry k w c)) (with_entry Sled q (entry k w c))
unfolding stepped
side_balance k w Controller act scratch p q (here, there) = (acts_balance k act w.controller w.sled.line scratch p here, there)
side_balance k w Sled act scratch p q (here, there) = (here, acts_balance k act w.sled w.controller.line scratch q there)

pub step_balance : (k : Code) (w : World) (c : Call) (p q : Past) → Balanced w p q →
    Balanced (stepped k w c) (with_entry Controller p (entry k w c)) (with_entry Sled q (entry k w c))
step_balance k w c p q b = side_balance k w c.side c.act c.scratch p q b
