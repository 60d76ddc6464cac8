-- The outstanding frames, oldest first, as a store shows them.
use Rattle.std.specs.Prelude.{ℕ, ◌+◌, ◌*◌, ◌%◌, Bool, cond, ◌&&◌, List, [], ◌∷◌, take, drop, Some, None, Ok, Err, Option, Result, nat_le, nat_lt}
use Rattle.block.specs.declared.frame.Frame.{Frame}
use Rattle.block.specs.declared.heading.Heading.{Heading}
use Rattle.block.specs.Form.{in_range}
use Rattle.block.specs.Reading.{Content, content}
use Rattle.queue.specs.declared.queue.Full.{Full}
use Rattle.queue.specs.Contents.{contents}
use Rattle.outstanding.specs.declared.entry.Entry.{Entry}
use Rattle.outstanding.specs.declared.outstanding.Outstanding.{Outstanding}

-- places count on, and each eighth one has the same slot of 512 bytes
abbrev pub frame_at : ℕ → Entry → List ℕ → Content
frame_at at e store = record { heading = e.heading; payload = take e.size (drop (512 * (at % 8)) store) }

abbrev pub frames_from : ℕ → List Entry → List ℕ → List Content
frames_from at [] store = []
frames_from at (e ∷ es) store = frame_at at e store ∷ frames_from (at + 1) es store

unfoldable pub frames : Outstanding → List ℕ → List Content
frames o store = frames_from o.first (contents o.entries) store

-- an answer of the code by what its reference shows
abbrev pub shown : Option Frame → Option Content
shown (Some f) = Some (content f)
shown None = None

-- whether a frame can be added, by its heading, the size of its payload, the length of the store and how many frames
-- are outstanding
abbrev pub may_push : Heading → ℕ → ℕ → ℕ → Bool
may_push h size room count = in_range h && (nat_le size 512 && (nat_le 4096 room && nat_lt count 8))

abbrev pub push_answer : Heading → ℕ → ℕ → ℕ → Result (Unit {0}) Full
push_answer h size room count = cond (may_push h size room count) (Ok tt) (Err (record {}))
