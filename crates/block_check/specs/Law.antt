-- What a check owes: a width of one or two bytes, values of that width, and that one changed byte shows.
use Rattle.std.specs.Prelude.{◌≡◌, ℕ, ◌^◌, ◌<◌, ◌≤◌, List, length, ◌≢◌, slice_index}
use Rattle.std.specs.List.{AllByRecursion}

-- a check by its width and its values
pub record Code : Type 0 where
  pub width : ℕ
  pub value : List ℕ → ℕ

abbrev pub Bytes : List ℕ → Type 0
Bytes bs = AllByRecursion (λ b. b < 256) bs

-- Two strings of equal length that differ at the place i and nowhere else.
pub record DifferAt (i : ℕ) (xs ys : List ℕ) : Type 0 where
  pub same_length : length xs ≡ length ys
  pub inside : i < length xs
  pub here : slice_index xs i ≢ slice_index ys i
  pub elsewhere : (k : ℕ) → k ≢ i → slice_index xs k ≡ slice_index ys k

-- Two strings of equal length that differ in exactly one byte have different values.
abbrev pub Tells : (List ℕ → ℕ) → Type 0
Tells value = (xs ys : List ℕ) (i : ℕ) → Bytes xs → Bytes ys → DifferAt i xs ys → value xs ≢ value ys

pub record Lawful (width : ℕ) (value : List ℕ → ℕ) : Type 0 where
  pub some : 1 ≤ width
  pub few : width ≤ 2
  pub fits : (bs : List ℕ) → Bytes bs → value bs < 256 ^ width
  pub tells : Tells value
