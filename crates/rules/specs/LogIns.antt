-- How two ends log in.
use Rattle.std.specs.Prelude.{ℕ, ◌+◌, min, Bool, true, false, cond, not, ◌&&◌, ◌||◌, Some, None, Option, ◌==◌, nat_le, nat_lt}
use Rattle.std.specs.Bool.{beq}
use Rattle.block.specs.declared.heading.Heading.{Heading}
use Rattle.block.specs.declared.status.Status.TheVariants.{Good, BadLogIn}
use Rattle.block.specs.Reading.{Content}
use Rattle.login.specs.declared.Parameters.{Parameters}
use Rattle.login.specs.declared.LogIn.{LogIn}
use Rattle.login.specs.Form.{decoded}
use Rattle.rules.specs.declared.seat.State.{State}
use Rattle.rules.specs.declared.seat.State.TheVariants.{Initial, Login, LoggedIn, LoggedOut}
use Rattle.rules.specs.declared.seat.Latest.{Latest}
use Rattle.rules.specs.declared.seat.Talk.{Talk}
use Rattle.rules.specs.declared.seat.Seat.{Seat}
use Rattle.rules.specs.declared.answer.Heard.{Heard}
use Rattle.rules.specs.declared.answer.Heard.TheVariants.{Answer, Renew}

-- in each parameter the smaller one
abbrev pub smaller : Parameters → Parameters → Parameters
smaller a b = record { offset = min a.offset b.offset; payload = min a.payload b.payload; baud = min a.baud b.baud }

abbrev pub same : Parameters → Parameters → Bool
same a b = a.offset == b.offset && (a.payload == b.payload && a.baud == b.baud)

-- A received log-in is bad if its size isn't 6, its number or baud is 0, its Exchange ID isn't 0, or its payload
-- parameter is under 270.
abbrev pub bad : Heading → LogIn → Bool
bad h l = h.number == 0 || (l.parameters.baud == 0 || (not (h.exchange == 0) || nat_lt l.parameters.payload 270))

abbrev pub good_of : Heading → Option LogIn → Option LogIn
good_of h None = None
good_of h (Some l) = cond (bad h l) None (Some l)

-- the log-in in a frame, none where it is bad
abbrev pub log_in_in : Content → Option LogIn
log_in_in f = good_of f.heading (decoded f.payload)

-- the end in another state, which ends the row of timeouts
abbrev pub moved : State → Seat → Seat
moved t s = record { side = s.side; state = t; talk = s.talk; flow = s.flow; row = 0 }

abbrev pub with_talk : Talk → Seat → Seat
with_talk t s = record { side = s.side; state = s.state; talk = t; flow = s.flow; row = s.row }

-- An end in Login becomes Logged-In once its latest log-in has Accept 1 and is acknowledged, and the far accept is
-- noted.
abbrev pub accepted : Option Latest → Bool
accepted None = false
accepted (Some l) = l.message.accept

abbrev pub settles : State → Talk → Bool
settles Initial t = false
settles Login t = accepted t.latest && (t.acked && t.far)
settles LoggedIn t = false
settles LoggedOut t = false

abbrev pub settled : Seat → Seat
settled s = cond (settles s.state s.talk) (moved LoggedIn s) s

-- whether offer or Accept differs from the last log-in sent, or none was sent
abbrev pub differs : Option Latest → Bool → Parameters → Bool
differs None accept offer = true
differs (Some l) accept offer = not (same l.message.parameters offer) || not (beq l.message.accept accept)

abbrev pub number_sent : Option Latest → ℕ
number_sent None = 0
number_sent (Some l) = l.number

-- what an end becomes by a log-in, and what it answers
pub record Told : Type 0 where
  pub seat : Seat
  pub heard : Heard

-- a log-in with the next number
abbrev pub renewed : Talk → Parameters → Bool → Bool → Talk
renewed t offer accept far = record {
  offer = offer;
  latest = Some (record { number = number_sent t.latest + 1; message = record { accept = accept; parameters = offer } });
  acked = false;
  far = far;
}

abbrev pub noted : Talk → Parameters → Bool → Talk
noted t offer far = record { offer = offer; latest = t.latest; acked = t.acked; far = far }

-- A ninth log-in is not sent: the end is Logged-Out, and offer and far accept stay.
abbrev pub negotiated_with : Seat → Parameters → Bool → Bool → Told
negotiated_with s offer accept far =
    cond (differs s.talk.latest accept offer)
    (cond (nat_le 8 (number_sent s.talk.latest)) (record { seat = moved LoggedOut s; heard = Answer BadLogIn })
    (record { seat = moved Login (with_talk (renewed s.talk offer accept far) s); heard = Renew }))
    (record { seat = settled (with_talk (noted s.talk offer far) s); heard = Answer Good })

-- A good log-in in Initial or Login. Each parameter of the offer becomes the smaller of itself and the received one;
-- Accept is 1 exactly when the offer now equals what was received; the far accept is noted if the received Accept is 1
-- and its parameters equal the offer. (An end in Initial has sent no log-in, so it sends one and moves to Login.)
unfoldable pub negotiated : Seat → LogIn → Told
negotiated s got =
    let offer = smaller s.talk.offer got.parameters in
    let accept = same offer got.parameters in
    negotiated_with s offer accept (got.accept && accept)

-- A Logged-In end answers 00h to a log-in with Accept 1 and the agreed parameters. Any other good one gets 41h and makes
-- it Logged-Out. A bad one gets 41h in every state and changes nothing. (A Logged-Out end hears nothing.)
abbrev pub repeated : Seat → LogIn → Told
repeated s got =
    cond (got.accept && same got.parameters s.talk.offer) (record { seat = s; heard = Answer Good })
    (record { seat = moved LoggedOut s; heard = Answer BadLogIn })

abbrev pub hears_log_in : State → Option LogIn → Seat → Told
hears_log_in state None s = record { seat = s; heard = Answer BadLogIn }
hears_log_in Initial (Some got) s = negotiated s got
hears_log_in Login (Some got) s = negotiated s got
hears_log_in LoggedIn (Some got) s = repeated s got
hears_log_in LoggedOut (Some got) s = record { seat = s; heard = Answer BadLogIn }
