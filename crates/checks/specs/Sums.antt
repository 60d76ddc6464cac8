-- The sum check: every byte added, modulo 256.
use Rattle.std.specs.Prelude.{ℕ, ◌%◌, List, sum}

abbrev pub sum_value : List ℕ → ℕ
sum_value bs = sum bs % 256
