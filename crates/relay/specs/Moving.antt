-- Blocks moved from one line to another, until the one is empty or the other full.
use Rattle.std.specs.Prelude.{ℕ, ◌-◌, min, Bool, cond, List, [], ◌∷◌, ◌++◌, length, take, drop, Ok, Err, Result, nat_lt}
use Rattle.refusal.specs.Buffers.{over}
use Rattle.refusal.specs.declared.Reason.TheVariants.{TooShort}
use Rattle.refusal.specs.declared.Refusal.{Refusal}
use Rattle.line.specs.Blocks.{refusal}

-- how many move: all that wait on the one, as far as the other has room
abbrev pub movable : List (List ℕ) → List (List ℕ) → ℕ
movable from to = min (length from) (16 - length to)

abbrev pub short : List ℕ → Bool
short buf = nat_lt (length buf) 520

abbrev pub relay_answer : List (List ℕ) → List (List ℕ) → List ℕ → Result ℕ Refusal
relay_answer from to buf = cond (short buf) (Err (refusal TooShort)) (Ok (movable from to))

abbrev pub from_after : List (List ℕ) → List (List ℕ) → List ℕ → List (List ℕ)
from_after from to buf = cond (short buf) from (drop (movable from to) from)

abbrev pub to_after : List (List ℕ) → List (List ℕ) → List ℕ → List (List ℕ)
to_after from to buf = cond (short buf) to (to ++ take (movable from to) from)

-- each block passes through the front of the buffer
unfoldable pub passed : List (List ℕ) → List ℕ → List ℕ
passed [] buf = buf
passed (b ∷ bs) buf = passed bs (over b buf)

abbrev pub buffer_after : List (List ℕ) → List (List ℕ) → List ℕ → List ℕ
buffer_after from to buf = cond (short buf) buf (passed (take (movable from to) from) buf)
