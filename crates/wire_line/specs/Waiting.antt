-- What waits on a line of wire bytes, and what such a line relies on.
use Rattle.std.specs.Prelude.{ℕ, List}
use Rattle.queue.specs.Contents.{contents}
use Rattle.wire_line.specs.Frames.{blocks, Kept}
use Rattle.wire_line.specs.declared.held.WireLine.{WireLine}

abbrev pub waits : WireLine → List (List ℕ)
waits x = blocks x.count (contents x.bytes)

abbrev pub relies : WireLine → Type 0
relies x = Kept x.bytes x.count
