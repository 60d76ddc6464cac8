-- What a survey finds in a capture, in order.
use Rattle.std.specs.Prelude.{◌≡◌, ℕ, zero, suc, ◌+◌, ◌-◌, ◌≤◌, cond, List, [], ◌∷◌, ◌++◌, length, take, Some, None, count_by, Option, ◌==◌, nat_eq}
use Rattle.std.specs.Borrow.{Bor}
use Rattle.wire.specs.Form.{found}
use Rattle.wire.specs.Theorems.{gap}
use Rattle.survey.specs.declared.item.Item.{Item}
use Rattle.survey.specs.declared.item.Item.TheVariants.{Gap, Block}
use Rattle.survey.specs.Seeing.{seen}

-- Every 02h begins a frame, so one among bytes that belong to no block begins a frame that is faulty or unfinished.
abbrev pub begun : List ℕ → ℕ
begun bytes = count_by (λ b. nat_eq b 0x02) bytes

abbrev pub gap_item : ℕ → List ℕ → List Item
gap_item offset bytes =
    cond (length bytes == 0) [] (Gap (record { offset = offset; length = length bytes; begun = begun bytes }) ∷ [])

abbrev pub block_item : ℕ → (List ℕ → ℕ) → ℕ → List ℕ → Item
block_item w value offset block = Block (record { offset = offset; length = length block; seen = seen w value block })

-- The items of an input that stands at an offset of the capture: the first block with what precedes it, and then those
-- of the rest. A frame has at least three bytes, so as many turns as the capture has bytes are enough.
unfoldable pub items : ℕ → (List ℕ → ℕ) → ℕ → ℕ → List ℕ → List Item
items w value zero offset input = gap_item offset input
items w value (suc turns) offset input =
    cond (length (found input).block == 0) (gap_item offset input)
    (gap_item offset (take (gap input) input) ++ (block_item w value (offset + gap input) (found input).block ∷
    items w value turns (offset + (length input - length (found input).rest)) (found input).rest))

abbrev pub survey_of : ℕ → (List ℕ → ℕ) → List ℕ → List Item
survey_of w value capture = items w value (length capture) 0 capture

-- What one step of the pass does to the items: an input that holds no block is noted whole and ends the pass; else the
-- first block is noted behind what precedes it, and the rest of the input is left.
abbrev pub Stepped : ℕ → (List ℕ → ℕ) → ℕ → List ℕ → List Item → List Item → Option (Bor (List ℕ)) → Type 0
Stepped w value offset input before after None =
    (length (found input).block ≡ 0) × (after ≡ before ++ gap_item offset input)
Stepped w value offset input before after (Some rest) =
    (1 ≤ length (found input).block) × (rest.now ≡ (found input).rest) ×
    (after ≡ before ++ (gap_item offset (take (gap input) input) ++ block_item w value (offset + gap input) (found input).block ∷ []))
