-- The calls of an end with its lines: open, send, timeout, poll.
use Rattle.std.specs.Prelude.{ℕ, ◌+◌, Bool, true, false, cond, ◌&&◌, List, [], ◌∷◌, ◌++◌, length, take, Some, None, Ok, Err, Option, Result, nat_le, nat_lt}
use Rattle.refusal.specs.declared.Layer.TheVariants.{End as OfEnd}
use Rattle.refusal.specs.declared.Reason.{Reason}
use Rattle.refusal.specs.declared.Reason.TheVariants.{TooShort, HeadingOutOfRange, PayloadTooLong, NotInitial, WrongState, AboveAgreedSize, WindowFull}
use Rattle.refusal.specs.declared.Refusal.{Refusal}
use Rattle.line.specs.Blocks.{take_answer, take_after, take_buffer}
use Rattle.block_check.specs.Law.{Code}
use Rattle.block.specs.declared.heading.Heading.{Heading}
use Rattle.block.specs.declared.status.Status.{Status}
use Rattle.block.specs.Reading.{Content, read_block}
use Rattle.rules.specs.declared.seat.State.{State}
use Rattle.rules.specs.declared.seat.State.TheVariants.{Initial, Login, LoggedIn, LoggedOut}
use Rattle.rules.specs.declared.seat.Latest.{Latest}
use Rattle.rules.specs.declared.seat.Flow.{Flow}
use Rattle.rules.specs.declared.seat.Seat.{Seat}
use Rattle.rules.specs.declared.answer.Tag.{Tag}
use Rattle.rules.specs.declared.answer.Sent.{Sent}
use Rattle.rules.specs.declared.answer.Handed.{Handed}
use Rattle.rules.specs.declared.answer.Heard.{Heard}
use Rattle.rules.specs.declared.answer.Heard.TheVariants.{Quiet, Answer, Renew, Hand}
use Rattle.rules.specs.declared.answer.Polled.{Polled}
use Rattle.rules.specs.Frames.{no_heading, log_in_frame, latest_frames, sent_back, cleared_by, replies}
use Rattle.rules.specs.LogIns.{moved, with_talk}
use Rattle.rules.specs.Records.{after, logged_in}
use Rattle.rules.specs.Ends.{End, Hearing, with_flow, with_row, hears}
use Rattle.rules.specs.Sending.{blocks, puts, took, builds}

abbrev pub refusal : Reason → Refusal
refusal why = record { reason = why; layer = OfEnd }

-- Each call takes a scratch of at least 520 bytes and a store of at least 4,096.
abbrev pub roomy : ℕ → List ℕ → Bool
roomy store scratch = nat_le 520 (length scratch) && nat_le 4096 store

abbrev pub initial : State → Bool
initial Initial = true
initial Login = false
initial LoggedIn = false
initial LoggedOut = false

abbrev pub logged_out : State → Bool
logged_out Initial = false
logged_out Login = false
logged_out LoggedIn = false
logged_out LoggedOut = true

-- neither Login nor Logged-In
abbrev pub idle : State → Bool
idle Initial = true
idle Login = false
idle LoggedIn = false
idle LoggedOut = true

-- a call that sends: its answer, and the end, the outgoing line and the scratch after it
pub record Sending (R : Type 0) : Type 0 where
  pub answer : Result R Refusal
  pub end : End
  pub line : List (List ℕ)
  pub scratch : List ℕ

-- a refused call leaves everything as it was
abbrev pub declines : {R : Type 0} → Refusal → End → List (List ℕ) → List ℕ → Sending R
declines e end line scratch = record { answer = Err e; end = end; line = line; scratch = scratch }

-- blocks go out, and the answer tells how many the line took
abbrev pub sends : {R : Type 0} → (ℕ → R) → End → List (List ℕ) → List (List ℕ) → List ℕ → Sending R
sends told end bs line scratch = record { answer = Ok (told (took line bs)); end = end; line = puts line bs; scratch = builds scratch bs }

-- Open sends log-in 1 with Accept 0 and moves to Login.
abbrev pub first_log_in : Seat → Latest
first_log_in s = record { number = 1; message = record { accept = false; parameters = s.talk.offer } }

abbrev pub opened : Seat → Seat
opened s = moved Login (with_talk (record { offer = s.talk.offer; latest = Some (first_log_in s); acked = false; far = s.talk.far }) s)

unfoldable pub opens : Code → End → ℕ → List (List ℕ) → List ℕ → Sending ℕ
opens k e store line scratch =
    cond (roomy store scratch)
    (cond (initial e.seat.state)
    (sends (λ n. n) (record { seat = opened e.seat; outstanding = e.outstanding }) (blocks k (log_in_frame e.seat.side (first_log_in e.seat) ∷ [])) line scratch)
    (declines (refusal NotInitial) e line scratch))
    (declines (refusal TooShort) e line scratch)

-- A record has Origin 0 or 1, Protocol 1 to 3, Type 0 to 15, Exchange ID 1 to 65,535 and a payload.
abbrev pub tag_in_range : Tag → Bool
tag_in_range t = nat_lt t.origin 2 && ((nat_le 1 t.protocol && nat_le t.protocol 3) && (nat_lt t.kind 16 && (nat_le 1 t.exchange && nat_le t.exchange 65535)))

-- Refused in this order: a heading field outside its range, a payload above 512; then outside Logged-In, a payload above
-- the agreed size, as many outstanding as the agreed offset.
abbrev pub may_send : End → Tag → ℕ → Result (Unit {0}) Refusal
may_send e tag size =
    cond (tag_in_range tag)
    (cond (nat_le size 512)
    (cond (logged_in e.seat.state)
    (cond (nat_le size e.seat.talk.offer.payload)
    (cond (nat_lt (length e.outstanding) e.seat.talk.offer.offset) (Ok tt) (Err (refusal WindowFull)))
    (Err (refusal AboveAgreedSize)))
    (Err (refusal WrongState)))
    (Err (refusal PayloadTooLong)))
    (Err (refusal HeadingOutOfRange))

abbrev pub numbered : Tag → ℕ → Heading
numbered t n = record { origin = t.origin; protocol = t.protocol; kind = t.kind; number = n; exchange = t.exchange }

-- the next number is used
abbrev pub counted : Flow → Flow
counted f = record { next = after f.next; expected = f.expected; taken = f.taken }

-- An accepted record gets the next number, is outstanding and goes out.
abbrev pub enters : End → Content → End
enters e f = record { seat = with_flow (counted e.seat.flow) e.seat; outstanding = e.outstanding ++ f ∷ [] }

abbrev pub sends_frame : Code → End → Content → List (List ℕ) → List ℕ → Sending Sent
sends_frame k e f line scratch = sends (λ n. record { number = f.heading.number; took = n }) (enters e f) (blocks k (f ∷ [])) line scratch

abbrev pub sends_if : Code → Result (Unit {0}) Refusal → End → Content → List (List ℕ) → List ℕ → Sending Sent
sends_if k (Ok u) e f line scratch = sends_frame k e f line scratch
sends_if k (Err why) e f line scratch = declines why e line scratch

unfoldable pub sends_record : Code → End → Tag → List ℕ → ℕ → List (List ℕ) → List ℕ → Sending Sent
sends_record k e tag payload store line scratch =
    cond (roomy store scratch)
    (sends_if k (may_send e tag (length payload)) e (record { heading = numbered tag e.seat.flow.next; payload = payload }) line scratch)
    (declines (refusal TooShort) e line scratch)

-- Timeout resends the latest log-in in Login, and all outstanding frames, oldest first, in Logged-In.
abbrev pub due : State → End → List Content
due Initial e = []
due Login e = latest_frames e.seat.side e.seat.talk.latest
due LoggedIn e = e.outstanding
due LoggedOut e = []

-- With nothing to resend it does nothing. The fourth in a row sends nothing and makes the end Logged-Out.
abbrev pub resends : Code → List Content → End → List (List ℕ) → List ℕ → Sending ℕ
resends k [] e line scratch = sends (λ n. n) e [] line scratch
resends k (f ∷ fs) e line scratch =
    cond (nat_le 3 e.seat.row)
    (sends (λ n. n) (record { seat = moved LoggedOut e.seat; outstanding = e.outstanding }) [] line scratch)
    (sends (λ n. n) (record { seat = with_row (e.seat.row + 1) e.seat; outstanding = e.outstanding }) (blocks k (f ∷ fs)) line scratch)

unfoldable pub times_out : Code → End → ℕ → List (List ℕ) → List ℕ → Sending ℕ
times_out k e store line scratch =
    cond (roomy store scratch)
    (cond (idle e.seat.state) (declines (refusal WrongState) e line scratch) (resends k (due e.seat.state e) e line scratch))
    (declines (refusal TooShort) e line scratch)

-- Poll, once a block was taken: what it answers, and the end and the outgoing line after it.
pub record Received : Type 0 where
  pub answer : Polled
  pub end : End
  pub line : List (List ℕ)

-- a record handed up: its payload stands behind the header
abbrev pub tag_of : Heading → Tag
tag_of h = record { origin = h.origin; protocol = h.protocol; kind = h.kind; exchange = h.exchange }

abbrev pub handed : Heard → Content → Option Handed
handed (Quiet n) f = None
handed (Answer status) f = None
handed Renew f = None
handed Hand f = Some (record { tag = tag_of f.heading; place = 6; size = length f.payload })

abbrev pub replies_to : Code → Heading → Hearing → Option Handed → List (List ℕ) → Received
replies_to k to x up line = record {
  answer = record { status = sent_back x.heard; up = up; cleared = cleared_by x.heard; took = took line (blocks k (replies x.end.seat to x.heard)) };
  end = x.end;
  line = puts line (blocks k (replies x.end.seat to x.heard));
}

abbrev pub receives_as : Code → End → Result Content Status → List (List ℕ) → Received
receives_as k e (Err status) line = replies_to k no_heading (record { end = e; heard = Answer status }) None line
receives_as k e (Ok f) line = replies_to k f.heading (hears e f) (handed (hears e f).heard f) line

unfoldable pub receives : Code → End → List ℕ → List (List ℕ) → Received
receives k e b line = receives_as k e (read_block k.width k.value b) line

-- a poll: its answer, and the end, both lines and the scratch after it
pub record Polling : Type 0 where
  pub answer : Result Polled Refusal
  pub end : End
  pub incoming : List (List ℕ)
  pub outgoing : List (List ℕ)
  pub scratch : List ℕ

abbrev pub stays : Refusal → End → List (List ℕ) → List (List ℕ) → List ℕ → Polling
stays why e incoming outgoing scratch = record { answer = Err why; end = e; incoming = incoming; outgoing = outgoing; scratch = scratch }

-- The block that was taken stands at the front of the scratch; `change` is what happened to it on its way.
abbrev pub polls_taken : Code → (ℕ → List ℕ → List ℕ) → End → Result ℕ Refusal → List (List ℕ) → List (List ℕ) → List ℕ → Polling
polls_taken k change e (Err why) incoming outgoing scratch = stays why e incoming outgoing scratch
polls_taken k change e (Ok n) incoming outgoing scratch =
    let r = receives k e (take n (change n scratch)) outgoing in
    record { answer = Ok r.answer; end = r.end; incoming = incoming; outgoing = r.line; scratch = change n scratch }

abbrev pub polls_open : Code → (ℕ → List ℕ → List ℕ) → End → List (List ℕ) → List (List ℕ) → List ℕ → Polling
polls_open k change e incoming outgoing scratch =
    cond (logged_out e.seat.state) (stays (refusal WrongState) e incoming outgoing scratch)
    (polls_taken k change e (take_answer incoming scratch) (take_after incoming scratch) outgoing (take_buffer incoming scratch))

abbrev pub unchanged : ℕ → List ℕ → List ℕ
unchanged n scratch = scratch

unfoldable pub polls : Code → End → ℕ → List (List ℕ) → List (List ℕ) → List ℕ → Polling
polls k e store incoming outgoing scratch =
    cond (roomy store scratch) (polls_open k unchanged e incoming outgoing scratch)
    (stays (refusal TooShort) e incoming outgoing scratch)
