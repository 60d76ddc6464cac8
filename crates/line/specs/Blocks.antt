-- What a line does with the blocks that wait on it, oldest first.
use Rattle.std.specs.Prelude.{ℕ, Bool, cond, ◌&&◌, List, [], ◌∷◌, ◌++◌, length, Ok, Err, Result, nat_le, nat_lt}
use Rattle.refusal.specs.Buffers.{over}
use Rattle.refusal.specs.declared.Layer.TheVariants.{Line}
use Rattle.refusal.specs.declared.Reason.{Reason}
use Rattle.refusal.specs.declared.Reason.TheVariants.{TooShort, BlockLength, NothingWaits, LineFull}
use Rattle.refusal.specs.declared.Refusal.{Refusal}

-- every refusal of a line is the line's own
abbrev pub refusal : Reason → Refusal
refusal why = record { reason = why; layer = Line }

-- a block that a line can carry: 1 to 520 bytes
abbrev pub carried : List ℕ → Bool
carried block = nat_lt 0 (length block) && nat_le (length block) 520

-- whether a put is taken: sixteen blocks wait at most
abbrev pub taken : List (List ℕ) → List ℕ → Bool
taken waiting block = carried block && nat_lt (length waiting) 16

abbrev pub put_answer : List (List ℕ) → List ℕ → Result (Unit {0}) Refusal
put_answer waiting block =
    cond (carried block) (cond (nat_lt (length waiting) 16) (Ok tt) (Err (refusal LineFull))) (Err (refusal BlockLength))

abbrev pub put_after : List (List ℕ) → List ℕ → List (List ℕ)
put_after waiting block = cond (taken waiting block) (waiting ++ block ∷ []) waiting

-- the oldest block, the empty list where nothing waits
abbrev pub oldest : List (List ℕ) → List ℕ
oldest [] = []
oldest (block ∷ later) = block

abbrev pub later : List (List ℕ) → List (List ℕ)
later [] = []
later (block ∷ rest) = rest

-- whether a take gives a block
abbrev pub gives : List (List ℕ) → List ℕ → Bool
gives waiting buf = nat_le 520 (length buf) && nat_lt 0 (length waiting)

abbrev pub take_answer : List (List ℕ) → List ℕ → Result ℕ Refusal
take_answer waiting buf =
    cond (nat_le 520 (length buf)) (cond (nat_lt 0 (length waiting)) (Ok (length (oldest waiting))) (Err (refusal NothingWaits))) (Err (refusal TooShort))

abbrev pub take_after : List (List ℕ) → List ℕ → List (List ℕ)
take_after waiting buf = cond (gives waiting buf) (later waiting) waiting

abbrev pub take_buffer : List (List ℕ) → List ℕ → List ℕ
take_buffer waiting buf = cond (gives waiting buf) (over (oldest waiting) buf) buf
