-- Worked examples of the link, from the definitions of ends, calls and runs.
use Rattle.std.specs.Prelude.{◌≡◌, ℕ, List, [], ◌∷◌, ◌++◌, map, replicate, Some, None, Ok, Err, Result}
use Rattle.refusal.specs.Numbers.{number_of}
use Rattle.refusal.specs.declared.Layer.TheVariants.{End as OfEnd}
use Rattle.refusal.specs.declared.Reason.TheVariants.{LimitOutOfRange}
use Rattle.refusal.specs.declared.Refusal.{Refusal}
use Rattle.block.specs.declared.status.Status.{Status}
use Rattle.block.specs.declared.status.Status.TheVariants.{Good, OutOfTurn}
use Rattle.block.specs.Reading.{Content}
use Rattle.block_check.specs.Law.{Code}
use Rattle.checks.specs.Sums.{sum_value}
use Rattle.login.specs.declared.Parameters.{Parameters}
use Rattle.rules.specs.declared.seat.Side.{Side}
use Rattle.rules.specs.declared.seat.Side.TheVariants.{Controller, Sled}
use Rattle.rules.specs.declared.seat.State.TheVariants.{LoggedIn}
use Rattle.rules.specs.declared.answer.Tag.{Tag}
use Rattle.rules.specs.declared.answer.Polled.{Polled}
use Rattle.rules.specs.Frames.{ack_frame, cleared_by}
use Rattle.rules.specs.Ends.{hears}
use Rattle.rules.specs.Sending.{block}
use Rattle.rules.specs.Calls.{numbered, polls}
use Rattle.rules.specs.Links.{Act, open_link, send, poll, lose, Answer, opened, sent, polled, timed_out, lost, Call, World, journal, run, fresh_link, makes_link}
use Rattle.law.specs.Law.{Asked, ask}

abbrev pub sum : Code
sum = record { width = 1; value = sum_value }

abbrev pub wide : Parameters
wide = record { offset = 8; payload = 512; baud = 96 }

abbrev pub narrow : Parameters
narrow = record { offset = 4; payload = 300; baud = 96 }

abbrev pub with_payload : ℕ → Parameters
with_payload n = record { offset = 8; payload = n; baud = 96 }

-- a call with a scratch of 520 zeros
abbrev pub at : Side → Act → Call
at side act = record { side = side; act = act; scratch = replicate 520 0 }

abbrev pub ends : Parameters → Parameters → List Call → World
ends a b calls = run sum (fresh_link a b 4096 4096) calls

-- the controller opens, and each end polls what comes
abbrev pub log_in : List Call
log_in =
    at Controller open_link ∷ at Sled poll ∷ at Controller poll ∷ at Controller poll ∷ at Sled poll ∷ at Sled poll ∷
    at Controller poll ∷ at Controller poll ∷ at Sled poll ∷ []

abbrev pub tag : Tag
tag = record { origin = 0; protocol = 1; kind = 0; exchange = 9 }

-- a record of the controller's under a number
abbrev pub numbered_frame : ℕ → Content
numbered_frame n = record { heading = numbered tag n; payload = 65 ∷ [] }

abbrev pub takes : ℕ → World → Polled → Type 0
takes n w r = (polls sum w.sled.end 4096 (block sum (numbered_frame n) ∷ []) [] (replicate 520 0)).answer ≡ Ok r

-- the number of a call's refusal, 0 for none
abbrev pub refusal_number : {R : Type 0} → Result R Refusal → ℕ
refusal_number (Ok r) = 0
refusal_number (Err e) = number_of e.reason

abbrev pub answer_number : Answer → ℕ
answer_number (opened r) = refusal_number r
answer_number (sent r) = refusal_number r
answer_number (polled r) = refusal_number r
answer_number (timed_out r) = refusal_number r
answer_number (lost r) = refusal_number r

abbrev pub agreed_on : Parameters → Asked
agreed_on p = record { state = LoggedIn; agreed = p; outstanding = 0 }

abbrev pub said : Status → Polled
said status = record { status = Some status; up = None; cleared = 0; took = 1 }

pub record LinksHold : Type 0 where
  -- the controller's first log-in, as its open puts it on the line
  pub first : (ends wide narrow (at Controller open_link ∷ [])).sled.line
      ≡ (0x01 ∷ 0x01 ∷ 0x00 ∷ 0x00 ∷ 0x00 ∷ 0x06 ∷ 0x80 ∷ 0x08 ∷ 0x02 ∷ 0x00 ∷ 0x00 ∷ 0x60 ∷ 0xf2 ∷ []) ∷ []
  -- limits (8, 512, 96) and (4, 300, 96) agree on (4, 300, 96)
  pub controller : ask (ends wide narrow log_in).controller.end ≡ agreed_on narrow
  pub sled : ask (ends wide narrow log_in).sled.end ≡ agreed_on narrow
  -- payload limit 270 is taken, 269 gives refusal 2
  pub least : makes_link (with_payload 270) wide 4096 4096 [] [] ≡ Ok (fresh_link (with_payload 270) wide 4096 4096)
  pub less : makes_link (with_payload 269) wide 4096 4096 [] [] ≡ Err (record { reason = LimitOutOfRange; layer = OfEnd })
  -- with 254, 255, 1 and 2 outstanding, an acknowledgement of 1 clears three
  pub cleared :
      cleared_by
      (hears (record { seat = (ends wide narrow log_in).controller.end.seat; outstanding = map numbered_frame (254 ∷ 255 ∷ 1 ∷ 2 ∷ []) })
      (ack_frame (numbered tag 1) Good)).heard ≡ 3
  -- with offset 4 and numbers 1 and 2 taken, 2 is a repeat and 255 is out of turn
  pub repeat : takes 2 (ends wide narrow (log_in ++ at Controller (send tag (65 ∷ [])) ∷ at Sled poll ∷ at Controller (send tag (65 ∷ [])) ∷ at Sled poll ∷ [])) (said Good)
  pub out_of_turn : takes 255 (ends wide narrow (log_in ++ at Controller (send tag (65 ∷ [])) ∷ at Sled poll ∷ at Controller (send tag (65 ∷ [])) ∷ at Sled poll ∷ [])) (said OutOfTurn)
  -- open, a send under Exchange ID 0, a loss on the line to the sled, a poll: refusals 0, 3, 0, 15
  pub script :
      map (λ e. answer_number e.answer)
      (journal sum (fresh_link wide (record { offset = 4; payload = 512; baud = 96 }) 4096 4096)
      (at Controller open_link ∷ at Controller (send (record { origin = 0; protocol = 1; kind = 0; exchange = 0 }) []) ∷ at Sled lose ∷ at Controller poll ∷ []))
      ≡ 0 ∷ 3 ∷ 0 ∷ 15 ∷ []
