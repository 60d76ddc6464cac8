-- A proof that stands here since the line's laws cite it: what a line relies on holds of every line of rows.
use Rattle.std.specs.Prelude.{◌≡◌, ℕ, zero, suc, ◌<◌, ◌≤◌, true, List, [], ◌∷◌, map, length, slice_index_or}
use Rattle.std.proofs.Common.{arith}
use Rattle.std.proofs.lemmas.List.{length-map, length-take-le}
use Rattle.std.proofs.lemmas.Bool.Decides.{nat_tests}
use Rattle.queue.specs.Contents.{contents, capacity}
use Rattle.queue.specs.declared.queue.Queue.{Queue}
use Rattle.line.specs.Blocks.{carried}
use Rattle.row_line.specs.declared.row.Row.{Row}
use Rattle.row_line.specs.Waiting.{block_of}

pub length-block : (row : Row) → length (block_of row) ≡ row.len
length-block row = length-take-le row.len row.bytes (omega arith)

each_carried : (rows : List Row) (k : ℕ) → k < length (map block_of rows) → carried (slice_index_or (map block_of rows) k []) ≡ true
each_carried [] k h = absurd (omega arith)
each_carried (row ∷ rows) zero h = let l = length-block row in grind (arith, nat_tests)
each_carried (row ∷ rows) (suc k) h = each_carried rows k (omega arith)

-- what a line relies on, of the queue that holds its rows
pub relied : (q : Queue Row) → 16 ≤ capacity q → length (contents q) ≤ 16 → (16 ≤ capacity q) × (length (map block_of (contents q)) ≤ 16) × ((k : ℕ) → k < length (map block_of (contents q)) → carried (slice_index_or (map block_of (contents q)) k []) ≡ true)
relied q long few = (long, omega (arith, length-map (contents q) block_of), each_carried (contents q))
