-- What the writer and the reader answer and leave in the caller's buffer.
use Rattle.std.specs.Prelude.{ℕ, Bool, cond, ◌||◌, List, length, Ok, Err, Result, ◌==◌, nat_lt}
use Rattle.std.specs.Borrow.{Bor}
use Rattle.refusal.specs.Buffers.{over}
use Rattle.refusal.specs.declared.Layer.TheVariants.{Wire}
use Rattle.refusal.specs.declared.Reason.{Reason}
use Rattle.refusal.specs.declared.Reason.TheVariants.{TooShort, BlockLength, NoWholeFrame}
use Rattle.refusal.specs.declared.Refusal.{Refusal}
use Rattle.wire.specs.Form.{Found, framed, found}

abbrev pub refusal : Reason → Refusal
refusal why = record { reason = why; layer = Wire }

-- a block has 1 to 520 bytes
abbrev pub unfit : List ℕ → Bool
unfit block = length block == 0 || nat_lt 520 (length block)

abbrev pub measure_answer : List ℕ → Result ℕ Refusal
measure_answer block = cond (unfit block) (Err (refusal BlockLength)) (Ok (length (framed block)))

abbrev pub write_answer : List ℕ → List ℕ → Result ℕ Refusal
write_answer block out = cond (nat_lt (length out) 1042) (Err (refusal TooShort)) (measure_answer block)

abbrev pub write_buffer : List ℕ → List ℕ → List ℕ
write_buffer block out = cond (nat_lt (length out) 1042 || unfit block) out (over (framed block) out)

-- the length of the block and the rest of the input
abbrev pub Answer : Type 0
Answer = Result (ℕ × List ℕ) Refusal

abbrev pub read_of : Found → Answer
read_of f = cond (length f.block == 0) (Err (refusal NoWholeFrame)) (Ok (length f.block, f.rest))

abbrev pub read_answer : List ℕ → List ℕ → Answer
read_answer input out = cond (nat_lt (length out) 520) (Err (refusal TooShort)) (read_of (found input))

abbrev pub read_buffer : List ℕ → List ℕ → List ℕ
read_buffer input out = cond (nat_lt (length out) 520) out (over (found input).block out)

-- an answer of the code by what its reference shows
abbrev pub shown : Result (ℕ × Bor (List ℕ)) Refusal → Answer
shown (Ok x) = Ok (x.0, x.1.now)
shown (Err e) = Err e
