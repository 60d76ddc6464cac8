-- The frames that an end sends of its own.
use Rattle.std.specs.Prelude.{ℕ, List, [], ◌∷◌, ◌++◌, Some, None, Option}
use Rattle.block.specs.declared.heading.Heading.{Heading}
use Rattle.block.specs.declared.status.Status.{Status}
use Rattle.block.specs.declared.status.Status.TheVariants.{Good}
use Rattle.block.specs.Reading.{Content}
use Rattle.block.specs.Statuses.{code_of}
use Rattle.login.specs.Form.{encoded}
use Rattle.rules.specs.declared.seat.Side.{Side}
use Rattle.rules.specs.declared.seat.Side.TheVariants.{Controller, Sled}
use Rattle.rules.specs.declared.seat.Latest.{Latest}
use Rattle.rules.specs.declared.seat.Seat.{Seat}
use Rattle.rules.specs.declared.answer.Heard.{Heard}
use Rattle.rules.specs.declared.answer.Heard.TheVariants.{Quiet, Answer, Renew, Hand}

-- Origin is 0 if the controller began the exchange, 1 if the sled did
abbrev pub origin_of : Side → ℕ
origin_of Controller = 0
origin_of Sled = 1

-- An acknowledgement copies Origin, number and Exchange ID of what it answers, and its payload is the status.
abbrev pub ack_frame : Heading → Status → Content
ack_frame to status = record {
  heading = record { origin = to.origin; protocol = 0; kind = 0; number = to.number; exchange = to.exchange };
  payload = code_of status ∷ [];
}

-- to a block that isn't well-formed every header field but the size is 0
abbrev pub no_heading : Heading
no_heading = record { origin = 0; protocol = 0; kind = 0; number = 0; exchange = 0 }

-- Log-in frames carry Exchange ID 0, the side as Origin, and their own numbers.
abbrev pub log_in_frame : Side → Latest → Content
log_in_frame side l = record {
  heading = record { origin = origin_of side; protocol = 0; kind = 1; number = l.number; exchange = 0 };
  payload = encoded l.message;
}

abbrev pub acks : Heading → Option Status → List Content
acks to None = []
acks to (Some status) = ack_frame to status ∷ []

-- the latest log-in, if one was sent
abbrev pub latest_frames : Side → Option Latest → List Content
latest_frames side None = []
latest_frames side (Some l) = log_in_frame side l ∷ []

-- the status that goes back to a frame, if any: 00h to a log-in that is answered by a new one, and to a record that is
-- handed up
abbrev pub sent_back : Heard → Option Status
sent_back (Quiet n) = None
sent_back (Answer status) = Some status
sent_back Renew = Some Good
sent_back Hand = Some Good

-- how many frames were cleared
abbrev pub cleared_by : Heard → ℕ
cleared_by (Quiet n) = n
cleared_by (Answer status) = 0
cleared_by Renew = 0
cleared_by Hand = 0

abbrev pub new_log_in : Seat → Heard → List Content
new_log_in s (Quiet n) = []
new_log_in s (Answer status) = []
new_log_in s Renew = latest_frames s.side s.talk.latest
new_log_in s Hand = []

-- what goes out in answer to a frame: the acknowledgement, and then a new log-in
unfoldable pub replies : Seat → Heading → Heard → List Content
replies s to heard = acks to (sent_back heard) ++ new_log_in s heard
