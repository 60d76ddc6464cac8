-- Three things that must not happen.
use Rattle.std.specs.Prelude.{◌≡◌, ℕ, ◌+◌, ◌-◌, ◌%◌, ◌<◌, ◌≤◌, true, ◌⊎◌, List, Some, ◌≢◌}
use Rattle.block_check.specs.Law.{Code}
use Rattle.block.specs.declared.status.Status.{Status}
use Rattle.block.specs.declared.status.Status.TheVariants.{Good}
use Rattle.block.specs.Reading.{Content}
use Rattle.rules.specs.declared.seat.Side.{Side}
use Rattle.rules.specs.declared.seat.State.TheVariants.{LoggedIn}
use Rattle.rules.specs.declared.seat.Latest.{Latest}
use Rattle.rules.specs.Frames.{ack_frame, log_in_frame, sent_back, cleared_by}
use Rattle.rules.specs.LogIns.{accepted}
use Rattle.rules.specs.Ends.{End, hears}
use Rattle.rules.specs.Links.{Act, Node, acts}

-- The acknowledgement of a log-in, however often it is repeated, never clears a record.
abbrev pub LogInsClearNothing : Type 0
LogInsClearNothing =
    (e : End) (side : Side) (l : Latest) (status : Status) →
    (cleared_by (hears e (ack_frame (log_in_frame side l).heading status)).heard ≡ 0)
    × ((hears e (ack_frame (log_in_frame side l).heading status)).end.outstanding ≡ e.outstanding)

-- A record whose number is ahead of turn, by any distance that doesn't come round to a repeat, never gets 00h.
abbrev pub AheadGetsNoGood : Type 0
AheadGetsNoGood =
    (e : End) (f : Content) (distance : ℕ) →
    1 ≤ f.heading.protocol → 1 ≤ e.seat.flow.expected → e.seat.flow.expected ≤ 255 →
    1 ≤ distance → distance + e.seat.flow.taken < 255 →
    f.heading.number ≡ 1 + (e.seat.flow.expected - 1 + distance) % 255 →
    sent_back (hears e f).heard ≢ Some Good

-- An end that any call brings into Logged-In has sent Accept 1 in its latest log-in, which is acknowledged, and has
-- noted the far accept.
abbrev pub LoggedInAcknowledged : Type 0
LoggedInAcknowledged =
    (k : Code) (a : Act) (n : Node) (out : List (List ℕ)) (scratch : List ℕ) →
    (acts k a n out scratch).near.end.seat.state ≡ LoggedIn →
    (n.end.seat.state ≡ LoggedIn)
    ⊎ ((accepted (acts k a n out scratch).near.end.seat.talk.latest ≡ true)
    × ((acts k a n out scratch).near.end.seat.talk.acked ≡ true)
    × ((acts k a n out scratch).near.end.seat.talk.far ≡ true))
