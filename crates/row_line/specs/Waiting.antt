-- What waits on a line of rows, and what such a line relies on.
use Rattle.std.specs.Prelude.{◌≡◌, ℕ, ◌<◌, ◌≤◌, true, List, [], map, length, take, slice_index_or}
use Rattle.line.specs.Blocks.{carried}
use Rattle.queue.specs.Contents.{contents, capacity}
use Rattle.row_line.specs.declared.row.Row.{Row}
use Rattle.row_line.specs.declared.rows.RowLine.{RowLine}

abbrev pub block_of : Row → List ℕ
block_of row = take row.len row.bytes

abbrev pub waits : RowLine → List (List ℕ)
waits x = map block_of (contents x.rows)

-- there is memory for sixteen, no more than sixteen wait, and each is a block that a line carries
abbrev pub relies : RowLine → Type 0
relies x = (16 ≤ capacity x.rows) × (length (waits x) ≤ 16) × ((k : ℕ) → k < length (waits x) → carried (slice_index_or (waits x) k []) ≡ true)
