-- What holds of writing and reading together.
use Rattle.std.specs.Prelude.{◌≡◌, ℕ, ◌-◌, ◌≤◌, List, ◌++◌, length, take}
use Rattle.wire.specs.Form.{framed, found}

-- Reading what was written gives the block and exactly what follows.
abbrev pub ReadBack : Type 0
ReadBack = (block after : List ℕ) → 1 ≤ length block → length block ≤ 520 → found (framed block ++ after) ≡ record { block = block; rest = after }

-- how many bytes of the input stand before the frame that was found
abbrev pub gap : List ℕ → ℕ
gap input = length input - length (found input).rest - length (framed (found input).block)

-- Where a block is found, the input is what precedes it, its frame and the rest.
abbrev pub FramedIn : Type 0
FramedIn =
    (input : List ℕ) → 1 ≤ length (found input).block →
    input ≡ take (gap input) input ++ (framed (found input).block ++ (found input).rest)
