-- Frames one behind the other, and the blocks that a reader finds in them.
use Rattle.std.specs.Prelude.{◌≡◌, ℕ, zero, suc, ◌<◌, ◌≤◌, true, List, [], ◌∷◌, ◌++◌, length, slice_index_or}
use Rattle.line.specs.Blocks.{carried}
use Rattle.queue.specs.Contents.{contents, capacity}
use Rattle.queue.specs.declared.queue.Queue.{Queue}
use Rattle.wire.specs.Form.{framed, found}

-- n blocks, each found in what the reader left of the bytes
unfoldable pub blocks : ℕ → List ℕ → List (List ℕ)
blocks zero bytes = []
blocks (suc n) bytes = (found bytes).block ∷ blocks n (found bytes).rest

unfoldable pub flat : List (List ℕ) → List ℕ
flat [] = []
flat (b ∷ bs) = framed b ++ flat bs

-- nothing precedes the first frame, and its block has 1 to 520 bytes
pub record Begins (bytes : List ℕ) : Type 0 where
  pub some : 1 ≤ length (found bytes).block
  pub small : length (found bytes).block ≤ 520
  pub whole : bytes ≡ framed (found bytes).block ++ (found bytes).rest

-- every block is one that a line carries
abbrev pub Carries : List (List ℕ) → Type 0
Carries bs = (k : ℕ) → k < length bs → carried (slice_index_or bs k []) ≡ true

-- There is memory for sixteen frames, no more than sixteen blocks wait, the bytes are exactly their frames, and
-- each is a block that a line carries.
pub record Kept (bytes : Queue ℕ) (count : ℕ) : Type 0 where
  pub long : 16672 ≤ capacity bytes
  pub few : count ≤ 16
  pub whole : contents bytes ≡ flat (blocks count (contents bytes))
  pub each : Carries (blocks count (contents bytes))
