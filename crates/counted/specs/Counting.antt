-- A line that counts the puts it refuses.
use Rattle.std.specs.Prelude.{ℕ, ◌+◌, ◌-◌, ◌^◌, min, cond, List}
use Rattle.line.specs.Blocks.{taken}

-- one more for each put that isn't taken; the count stays at the largest number where it would pass it
abbrev pub refused_after : ℕ → List (List ℕ) → List ℕ → ℕ
refused_after n waiting block = cond (taken waiting block) n (min (n + 1) (2 ^ 64 - 1))
