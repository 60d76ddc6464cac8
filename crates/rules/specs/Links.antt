-- A link: two ends, the line towards each, the six calls at either side, and runs of calls.
use Rattle.std.specs.Prelude.{ℕ, ◌+◌, ◌%◌, cond, ◌&&◌, List, [], ◌∷◌, length, Ok, Err, Result, ◌==◌, nat_le, slice_index, slice_set}
use Rattle.refusal.specs.declared.Layer.TheVariants.{Bench}
use Rattle.refusal.specs.declared.Reason.{Reason}
use Rattle.refusal.specs.declared.Reason.TheVariants.{TooShort, LimitOutOfRange, SpoilByZero}
use Rattle.refusal.specs.declared.Refusal.{Refusal}
use Rattle.line.specs.Blocks.{take_answer, take_after, take_buffer}
use Rattle.block_check.specs.Law.{Code}
use Rattle.login.specs.declared.Parameters.{Parameters}
use Rattle.rules.specs.declared.seat.Side.{Side}
use Rattle.rules.specs.declared.seat.Side.TheVariants.{Controller, Sled}
use Rattle.rules.specs.declared.answer.Tag.{Tag}
use Rattle.rules.specs.declared.answer.Sent.{Sent}
use Rattle.rules.specs.declared.answer.Polled.{Polled}
use Rattle.rules.specs.Ends.{End, in_limits, fresh}
use Rattle.rules.specs.Calls.{refusal, roomy, Sending, Polling, stays, opens, sends_record, times_out, polls, polls_open}

abbrev pub bench_refusal : Reason → Refusal
bench_refusal why = record { reason = why; layer = Bench }

-- Lose takes a line's oldest block and drops it.
pub record Losing : Type 0 where
  pub answer : Result ℕ Refusal
  pub line : List (List ℕ)
  pub scratch : List ℕ

abbrev pub loses : List (List ℕ) → List ℕ → Losing
loses line scratch =
    cond (nat_le 520 (length scratch))
    (record { answer = take_answer line scratch; line = take_after line scratch; scratch = take_buffer line scratch })
    (record { answer = Err (bench_refusal TooShort); line = line; scratch = scratch })

-- Spoil is a poll that first adds d, 1 to 255, to the byte at place p modulo the block's length, modulo 256.
abbrev pub spoiled : ℕ → ℕ → ℕ → List ℕ → List ℕ
spoiled p d n scratch = slice_set scratch (p % n) ((slice_index scratch (p % n) + d) % 256)

unfoldable pub spoils : Code → ℕ → ℕ → End → ℕ → List (List ℕ) → List (List ℕ) → List ℕ → Polling
spoils k p d e store incoming outgoing scratch =
    cond (roomy store scratch)
    (cond (d == 0) (stays (bench_refusal SpoilByZero) e incoming outgoing scratch) (polls_open k (spoiled p d) e incoming outgoing scratch))
    (stays (bench_refusal TooShort) e incoming outgoing scratch)

-- an end with the line towards it and the length of its store
pub record Node : Type 0 where
  pub end : End
  pub line : List (List ℕ)
  pub store : ℕ

-- the six calls
pub data Act : Type 0 where
  open_link : Act
  send : Tag → List ℕ → Act
  poll : Act
  timeout : Act
  lose : Act
  spoil : ℕ → ℕ → Act

-- what they answer
pub data Answer : Type 0 where
  opened : Result ℕ Refusal → Answer
  sent : Result Sent Refusal → Answer
  polled : Result Polled Refusal → Answer
  timed_out : Result ℕ Refusal → Answer
  lost : Result ℕ Refusal → Answer

-- a call at one end: the answer, the end with the line towards it, the line from it, and the scratch after the call
pub record Acted : Type 0 where
  pub answer : Answer
  pub near : Node
  pub outgoing : List (List ℕ)
  pub scratch : List ℕ

abbrev pub acted_sending : {R : Type 0} → (Result R Refusal → Answer) → Node → Sending R → Acted
acted_sending tell n s = record { answer = tell s.answer; near = record { end = s.end; line = n.line; store = n.store }; outgoing = s.line; scratch = s.scratch }

abbrev pub acted_polling : Node → Polling → Acted
acted_polling n p = record { answer = polled p.answer; near = record { end = p.end; line = p.incoming; store = n.store }; outgoing = p.outgoing; scratch = p.scratch }

abbrev pub acted_losing : Node → List (List ℕ) → Losing → Acted
acted_losing n outgoing l = record { answer = lost l.answer; near = record { end = n.end; line = l.line; store = n.store }; outgoing = outgoing; scratch = l.scratch }

unfoldable pub acts : Code → Act → Node → List (List ℕ) → List ℕ → Acted
acts k open_link n out scratch = acted_sending opened n (opens k n.end n.store out scratch)
acts k (send tag payload) n out scratch = acted_sending sent n (sends_record k n.end tag payload n.store out scratch)
acts k poll n out scratch = acted_polling n (polls k n.end n.store n.line out scratch)
acts k timeout n out scratch = acted_sending timed_out n (times_out k n.end n.store out scratch)
acts k lose n out scratch = acted_losing n out (loses n.line scratch)
acts k (spoil p d) n out scratch = acted_polling n (spoils k p d n.end n.store n.line out scratch)

-- The link: the line from an end is the line towards the other.
pub record World : Type 0 where
  pub controller : Node
  pub sled : Node

abbrev pub with_line : Node → List (List ℕ) → Node
with_line n line = record { end = n.end; line = line; store = n.store }

-- A call at a side, with the scratch that is lent for it.
pub record Call : Type 0 where
  pub side : Side
  pub act : Act
  pub scratch : List ℕ

abbrev pub acts_at : Code → World → Side → Act → List ℕ → Acted
acts_at k w Controller a scratch = acts k a w.controller w.sled.line scratch
acts_at k w Sled a scratch = acts k a w.sled w.controller.line scratch

abbrev pub moves : World → Side → Acted → World
moves w Controller r = record { controller = r.near; sled = with_line w.sled r.outgoing }
moves w Sled r = record { controller = with_line w.controller r.outgoing; sled = r.near }

-- What is written down of a call: its side and what it was, its answer, and the scratch as it returned.
pub record Entry : Type 0 where
  pub side : Side
  pub act : Act
  pub answer : Answer
  pub scratch : List ℕ

abbrev pub acted : Code → World → Call → Acted
acted k w c = acts_at k w c.side c.act c.scratch

unfoldable pub stepped : Code → World → Call → World
stepped k w c = moves w c.side (acted k w c)

abbrev pub entry : Code → World → Call → Entry
entry k w c = record { side = c.side; act = c.act; answer = (acted k w c).answer; scratch = (acted k w c).scratch }

-- A run: what was written down, oldest first, and the link after it.
unfoldable pub journal : Code → World → List Call → List Entry
journal k w [] = []
journal k w (c ∷ cs) = entry k w c ∷ journal k (stepped k w c) cs

unfoldable pub run : Code → World → List Call → World
run k w [] = w
run k w (c ∷ cs) = run k (stepped k w c) cs

-- A link of two ends in Initial, whose offers are their limits, with the lengths of their stores and what waits on the
-- line towards each.
abbrev pub link_of : Parameters → Parameters → ℕ → ℕ → List (List ℕ) → List (List ℕ) → World
link_of a b store_a store_b to_controller to_sled = record {
  controller = record { end = fresh Controller a; line = to_controller; store = store_a };
  sled = record { end = fresh Sled b; line = to_sled; store = store_b };
}

-- a fresh link has two empty lines
abbrev pub fresh_link : Parameters → Parameters → ℕ → ℕ → World
fresh_link a b store_a store_b = link_of a b store_a store_b [] []

-- Making an end tests its limits; making a link tests the stores, then the limits.
abbrev pub makes_end : Side → Parameters → Result End Refusal
makes_end side limits = cond (in_limits limits) (Ok (fresh side limits)) (Err (refusal LimitOutOfRange))

abbrev pub makes_link : Parameters → Parameters → ℕ → ℕ → List (List ℕ) → List (List ℕ) → Result World Refusal
makes_link a b store_a store_b to_controller to_sled =
    cond (nat_le 4096 store_a && nat_le 4096 store_b)
    (cond (in_limits a && in_limits b) (Ok (link_of a b store_a store_b to_controller to_sled)) (Err (refusal LimitOutOfRange)))
    (Err (refusal TooShort))
