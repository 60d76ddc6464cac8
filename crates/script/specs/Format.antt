-- The format of a script: n in 2 bytes, the two payload limits in 2 bytes each, the controller's first, n letters, and n
-- arguments of 4 bytes. High bytes go first.
use Rattle.std.specs.Prelude.{ℕ, ◌+◌, ◌*◌, ◌%◌, Bool, cond, ◌&&◌, List, [], ◌∷◌, length, take, drop, Some, None, Ok, Err, Option, Result, ◌==◌, nat_le, slice_index}
use Rattle.refusal.specs.declared.Layer.TheVariants.{End as OfEnd, Bench}
use Rattle.refusal.specs.declared.Reason.TheVariants.{LimitOutOfRange, ScriptShape, UnknownLetter}
use Rattle.refusal.specs.declared.Refusal.{Refusal}
use Rattle.login.specs.declared.Parameters.{Parameters}
use Rattle.rules.specs.declared.seat.Side.{Side}
use Rattle.rules.specs.declared.seat.Side.TheVariants.{Controller, Sled}
use Rattle.rules.specs.declared.call.Step.{Step}
use Rattle.rules.specs.declared.call.Step.TheVariants.{Open, Send, Poll, Timeout, Lose, Spoil}
use Rattle.rules.specs.declared.call.Call.{Call}
use Rattle.rules.specs.Ends.{in_limits}
use Rattle.rules.specs.Frames.{origin_of}

-- the number in the two bytes at a place
abbrev pub number_at : List ℕ → ℕ → ℕ
number_at bytes at = slice_index bytes at * 256 + slice_index bytes (at + 1)

-- at least 6 bytes, n at most 10,000, and 6 + 5 × n bytes in all
abbrev pub shaped : List ℕ → Bool
shaped s = nat_le 6 (length s) && (nat_le (number_at s 0) 10000 && length s == 6 + 5 * number_at s 0)

abbrev pub letters : List ℕ → List ℕ
letters s = take (number_at s 0) (drop 6 s)

abbrev pub arguments : List ℕ → List ℕ
arguments s = drop (6 + number_at s 0) s

-- S has the exchange ID in the argument's high half and the payload size in the low one. The payload is the beginning of
-- the pattern; protocol 1, type 0, the side as origin.
abbrev pub sending : Side → ℕ → ℕ → Step
sending side high low = Send (record { origin = origin_of side; protocol = 1; kind = 0; exchange = high }) (record { place = 0; size = low })

-- X has the place in the high half and the addend in the lowest byte.
abbrev pub spoiling : ℕ → ℕ → Step
spoiling high low = Spoil (record { place = high; addend = low % 256 })

abbrev pub at : Side → Step → Option Call
at side step = Some (record { side = side; step = step })

-- One letter tells a step: O open, S send, P poll, T timeout, L lose, X spoil. A capital means the controller's end or
-- the line towards it, a small letter the sled's.
abbrev pub call_of : ℕ → ℕ → ℕ → Option Call
call_of letter high low =
    cond (letter == 79) (at Controller Open)
    (cond (letter == 111) (at Sled Open)
    (cond (letter == 83) (at Controller (sending Controller high low))
    (cond (letter == 115) (at Sled (sending Sled high low))
    (cond (letter == 80) (at Controller Poll)
    (cond (letter == 112) (at Sled Poll)
    (cond (letter == 84) (at Controller Timeout)
    (cond (letter == 116) (at Sled Timeout)
    (cond (letter == 76) (at Controller Lose)
    (cond (letter == 108) (at Sled Lose)
    (cond (letter == 88) (at Controller (spoiling high low))
    (cond (letter == 120) (at Sled (spoiling high low))
    None)))))))))))

abbrev pub joined : Option Call → Option (List Call) → Option (List Call)
joined None cs = None
joined (Some c) None = None
joined (Some c) (Some cs) = Some (c ∷ cs)

-- a letter and the four bytes of its argument at a time; none where one letter is unknown
unfoldable pub calls_of : List ℕ → List ℕ → Option (List Call)
calls_of [] bytes = Some []
calls_of (letter ∷ later) bytes = joined (call_of letter (number_at bytes 0) (number_at bytes 2)) (calls_of later (drop 4 bytes))

-- offsets are 8 and 4, baud is 96
abbrev pub limits_of : ℕ → ℕ → Parameters
limits_of offset payload = record { offset = offset; payload = payload; baud = 96 }

-- what a script asks for
pub record Asked : Type 0 where
  pub controller : Parameters
  pub sled : Parameters
  pub calls : List Call

abbrev pub asked : List ℕ → List Call → Asked
asked s calls = record { controller = limits_of 8 (number_at s 2); sled = limits_of 4 (number_at s 4); calls = calls }

abbrev pub within : Asked → Result Asked Refusal
within a = cond (in_limits a.controller && in_limits a.sled) (Ok a) (Err (record { reason = LimitOutOfRange; layer = OfEnd }))

abbrev pub known : List ℕ → Option (List Call) → Result Asked Refusal
known s None = Err (record { reason = UnknownLetter; layer = Bench })
known s (Some calls) = within (asked s calls)

-- a script is tested for its shape, then for its letters, then for its limits
unfoldable pub read_script : List ℕ → Result Asked Refusal
read_script s = cond (shaped s) (known s (calls_of (letters s) (arguments s))) (Err (record { reason = ScriptShape; layer = Bench }))
