-- What an end with its store stands for, and what its calls did as one value.
use Rattle.std.specs.Prelude.{ℕ, cond, List, Some, None, Err, Option, Result}
use Rattle.refusal.specs.declared.Reason.TheVariants.{WrongState}
use Rattle.refusal.specs.declared.Refusal.{Refusal}
use Rattle.line.specs.Blocks.{take_answer, take_after, take_buffer}
use Rattle.login.specs.declared.Parameters.{Parameters}
use Rattle.outstanding.specs.Frames.{frames}
use Rattle.rules.specs.declared.answer.Polled.{Polled}
use Rattle.rules.specs.declared.seat.State.{State}
use Rattle.rules.specs.Ends.{End as Meant}
use Rattle.rules.specs.Records.{logged_in}
use Rattle.rules.specs.Calls.{Sending, Received, Polling, refusal, logged_out}
use Rattle.end.specs.declared.end.End.{End}

abbrev pub view : End → List ℕ → Meant
view e store = record { seat = e.seat; outstanding = frames e.outstanding store }

abbrev pub did : {R : Type 0} → Result R Refusal → Meant → List (List ℕ) → List ℕ → Sending R
did r e line scratch = record { answer = r; end = e; line = line; scratch = scratch }

abbrev pub did_receive : Polled → Meant → List (List ℕ) → Received
did_receive r e line = record { answer = r; end = e; line = line }

abbrev pub did_poll : Result Polled Refusal → Meant → List (List ℕ) → List (List ℕ) → List ℕ → Polling
did_poll r e incoming outgoing scratch = record { answer = r; end = e; incoming = incoming; outgoing = outgoing; scratch = scratch }

-- what taking a block does, which an end that is Logged-Out refuses
abbrev pub takes_answer : State → List (List ℕ) → List ℕ → Result ℕ Refusal
takes_answer state line scratch = cond (logged_out state) (Err (refusal WrongState)) (take_answer line scratch)

abbrev pub takes_after : State → List (List ℕ) → List ℕ → List (List ℕ)
takes_after state line scratch = cond (logged_out state) line (take_after line scratch)

abbrev pub takes_buffer : State → List (List ℕ) → List ℕ → List ℕ
takes_buffer state line scratch = cond (logged_out state) scratch (take_buffer line scratch)

-- what an end has agreed on, once it is logged in
abbrev pub agreed_by : Meant → Option Parameters
agreed_by e = cond (logged_in e.seat.state) (Some e.seat.talk.offer) None
