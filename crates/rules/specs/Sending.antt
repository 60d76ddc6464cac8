-- Blocks put on a line, one after the other, and built at the front of a scratch, one over the other.
use Rattle.std.specs.Prelude.{ℕ, ◌+◌, cond, List, [], ◌∷◌, map}
use Rattle.refusal.specs.Buffers.{over}
use Rattle.line.specs.Blocks.{taken, put_after}
use Rattle.block_check.specs.Law.{Code}
use Rattle.block.specs.Form.{sealed}
use Rattle.block.specs.Reading.{Content}

-- a frame as a sealed block
abbrev pub block : Code → Content → List ℕ
block k f = sealed k.width k.value f.heading f.payload

abbrev pub blocks : Code → List Content → List (List ℕ)
blocks k fs = map (block k) fs

-- what waits on the line then: one that is refused there is lost, and the call goes on
abbrev pub puts : List (List ℕ) → List (List ℕ) → List (List ℕ)
puts line [] = line
puts line (b ∷ bs) = puts (put_after line b) bs

-- how many of them the line took
abbrev pub took : List (List ℕ) → List (List ℕ) → ℕ
took line [] = 0
took line (b ∷ bs) = cond (taken line b) 1 0 + took (put_after line b) bs

-- the scratch then
abbrev pub builds : List ℕ → List (List ℕ) → List ℕ
builds scratch [] = scratch
builds scratch (b ∷ bs) = builds (over b scratch) bs
