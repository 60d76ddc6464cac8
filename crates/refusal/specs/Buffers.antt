-- What a call leaves in a buffer that is lent to it.
use Rattle.std.specs.Prelude.{ℕ, ◌+◌, List, ◌++◌, length, take, drop}

-- bytes at the front of a buffer, and what lay behind them kept
abbrev pub over : List ℕ → List ℕ → List ℕ
over bytes buf = bytes ++ drop (length bytes) buf

-- bytes at a place of a buffer, and all else kept
abbrev pub placed : ℕ → List ℕ → List ℕ → List ℕ
placed at bytes buf = take at buf ++ (bytes ++ drop (at + length bytes) buf)
