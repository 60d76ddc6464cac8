-- An end, and what it makes of a block that was read.
use Rattle.std.specs.Prelude.{ℕ, Bool, true, false, cond, ◌&&◌, List, [], length, drop, Some, None, Option, ◌==◌, nat_le, slice_index}
use Rattle.block.specs.declared.heading.Heading.{Heading}
use Rattle.block.specs.Reading.{Content}
use Rattle.login.specs.declared.Parameters.{Parameters}
use Rattle.rules.specs.declared.seat.Side.{Side}
use Rattle.rules.specs.declared.seat.State.TheVariants.{Initial}
use Rattle.rules.specs.declared.seat.Latest.{Latest}
use Rattle.rules.specs.declared.seat.Talk.{Talk}
use Rattle.rules.specs.declared.seat.Flow.{Flow}
use Rattle.rules.specs.declared.seat.Seat.{Seat}
use Rattle.rules.specs.declared.seat.Verdict.{Verdict}
use Rattle.rules.specs.declared.seat.Verdict.TheVariants.{Only, Hand}
use Rattle.rules.specs.declared.answer.Heard.{Heard}
use Rattle.rules.specs.declared.answer.Heard.TheVariants.{Quiet, Answer, Hand as HandUp}
use Rattle.rules.specs.LogIns.{Told, settled, with_talk, log_in_in, hears_log_in}
use Rattle.rules.specs.Records.{clears, judged, logged_in, took_one}

pub record End : Type 0 where
  pub seat : Seat
  -- the frames not yet acknowledged, oldest first
  pub outstanding : List Content

-- offset 0 to 8, payload 270 to 512, baud in hundreds 1 to 65,535
abbrev pub in_limits : Parameters → Bool
in_limits p = nat_le p.offset 8 && (nat_le 270 p.payload && (nat_le p.payload 512 && (nat_le 1 p.baud && nat_le p.baud 65535)))

-- an end's offer starts as its limits
abbrev pub fresh : Side → Parameters → End
fresh side limits = record {
  seat = record {
    side = side;
    state = Initial;
    talk = record { offer = limits; latest = None; acked = false; far = false };
    flow = record { next = 1; expected = 1; taken = 0 };
    row = 0;
  };
  outstanding = [];
}

abbrev pub with_flow : Flow → Seat → Seat
with_flow f s = record { side = s.side; state = s.state; talk = s.talk; flow = f; row = s.row }

abbrev pub with_row : ℕ → Seat → Seat
with_row n s = record { side = s.side; state = s.state; talk = s.talk; flow = s.flow; row = n }

-- an end after a frame, and what it answers
pub record Hearing : Type 0 where
  pub end : End
  pub heard : Heard

abbrev pub silent : End → Hearing
silent e = record { end = e; heard = Quiet 0 }

-- An acknowledgement whose size isn't 1 or whose status isn't 00h does nothing. With Exchange ID 0 it acknowledges the
-- latest log-in if the number is that one's.
abbrev pub is_latest : Option Latest → ℕ → Bool
is_latest None n = false
is_latest (Some l) n = l.number == n

abbrev pub acked : Talk → Talk
acked t = record { offer = t.offer; latest = t.latest; acked = true; far = t.far }

abbrev pub acks_log_in : Seat → ℕ → Seat
acks_log_in s n = cond (is_latest s.talk.latest n) (settled (with_talk (acked s.talk) s)) s

-- With another Exchange ID it clears, in Logged-In, the outstanding frame of that number, if any, and all older ones; a
-- cleared frame ends the row of timeouts.
abbrev pub clearing : End → ℕ → Hearing
clearing e k = record {
  end = record { seat = with_row (cond (k == 0) e.seat.row 0) e.seat; outstanding = drop k e.outstanding };
  heard = Quiet k;
}

abbrev pub hears_good_ack : End → Heading → Hearing
hears_good_ack e h =
    cond (h.exchange == 0) (silent (record { seat = acks_log_in e.seat h.number; outstanding = e.outstanding }))
    (cond (logged_in e.seat.state) (clearing e (clears h.number e.outstanding)) (silent e))

abbrev pub hears_ack : End → Content → Hearing
hears_ack e f = cond (length f.payload == 1 && slice_index f.payload 0 == 0) (hears_good_ack e f.heading) (silent e)

abbrev pub tells : End → Told → Hearing
tells e t = record { end = record { seat = t.seat; outstanding = e.outstanding }; heard = t.heard }

abbrev pub rules_on : End → Verdict → Hearing
rules_on e (Only status) = record { end = e; heard = Answer status }
rules_on e Hand = record {
  end = record { seat = with_flow (took_one e.seat.talk.offer.offset e.seat.flow) e.seat; outstanding = e.outstanding };
  heard = HandUp;
}

unfoldable pub hears : End → Content → Hearing
hears e f =
    cond (f.heading.protocol == 0 && f.heading.kind == 0) (hears_ack e f)
    (cond (f.heading.protocol == 0 && f.heading.kind == 1) (tells e (hears_log_in e.seat.state (log_in_in f) e.seat))
    (rules_on e (judged e.seat f)))
