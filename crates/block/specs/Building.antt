-- A block that is begun, added to and sealed: what each call answers and what it leaves in the buffer.
use Rattle.std.specs.Prelude.{ℕ, ◌+◌, ◌/◌, ◌%◌, Bool, cond, List, ◌∷◌, ◌++◌, length, take, drop, Ok, Err, Result, nat_lt}
use Rattle.std.specs.Borrow.{Bor}
use Rattle.refusal.specs.Buffers.{over, placed}
use Rattle.refusal.specs.declared.Layer.TheVariants.{Block}
use Rattle.refusal.specs.declared.Reason.{Reason}
use Rattle.refusal.specs.declared.Reason.TheVariants.{TooShort, HeadingOutOfRange, PayloadTooLong}
use Rattle.refusal.specs.declared.Refusal.{Refusal}
use Rattle.refusal.specs.declared.Declined.{Declined}
use Rattle.block.specs.declared.heading.Heading.{Heading}
use Rattle.block.specs.declared.half.HalfMade.{HalfMade}
use Rattle.block.specs.declared.half.Sealed.{Sealed}
use Rattle.block.specs.Form.{header, sealed, check_bytes, in_range}

abbrev pub refusal : Reason → Refusal
refusal why = record { reason = why; layer = Block }

-- A half-made block is known by the size of its payload so far, a sealed one by its length. A refused call hands
-- the half-made block back.
pub record Back : Type 0 where
  pub refusal : Refusal
  pub size : ℕ

abbrev pub begun : Result HalfMade Refusal → Result ℕ Refusal
begun (Ok half) = Ok half.size
begun (Err e) = Err e

abbrev pub back : Declined HalfMade → Back
back d = record { refusal = d.refusal; size = d.given.size }

abbrev pub added : Result HalfMade (Declined HalfMade) → Result ℕ Back
added (Ok half) = Ok half.size
added (Err d) = Err (back d)

abbrev pub closed : Result Sealed (Declined HalfMade) → Result ℕ Back
closed (Ok block) = Ok block.len
closed (Err d) = Err (back d)

abbrev pub built : Result Sealed Refusal → Result ℕ Refusal
built (Ok block) = Ok block.len
built (Err e) = Err e

abbrev pub short : List ℕ → Bool
short buf = nat_lt (length buf) 520

-- beginning writes the header with size 0
abbrev pub begin_answer : Heading → List ℕ → Result ℕ Refusal
begin_answer h buf = cond (short buf) (Err (refusal TooShort)) (cond (in_range h) (Ok 0) (Err (refusal HeadingOutOfRange)))

abbrev pub begin_buffer : Heading → List ℕ → List ℕ
begin_buffer h buf = cond (short buf) buf (cond (in_range h) (over (header h 0) buf) buf)

-- an addition writes behind what is there
abbrev pub add_answer : ℕ → List ℕ → List ℕ → Result ℕ Back
add_answer size more buf =
    cond (short buf) (Err (record { refusal = refusal TooShort; size = size }))
    (cond (nat_lt 512 (size + length more)) (Err (record { refusal = refusal PayloadTooLong; size = size })) (Ok (size + length more)))

abbrev pub add_buffer : ℕ → List ℕ → List ℕ → List ℕ
add_buffer size more buf = cond (short buf) buf (cond (nat_lt 512 (size + length more)) buf (placed (6 + size) more buf))

-- the header with its size, and the payload
abbrev pub whole : ℕ → List ℕ → List ℕ
whole size buf = take 4 buf ++ ((size / 256) ∷ (size % 256) ∷ take size (drop 6 buf))

-- sealing writes size and check
abbrev pub seal_answer : ℕ → ℕ → List ℕ → Result ℕ Back
seal_answer w size buf = cond (short buf) (Err (record { refusal = refusal TooShort; size = size })) (Ok (6 + size + w))

abbrev pub seal_buffer : ℕ → (List ℕ → ℕ) → ℕ → List ℕ → List ℕ
seal_buffer w value size buf = cond (short buf) buf (over (whole size buf ++ check_bytes w (value (whole size buf))) buf)

-- a whole block at once: every refusal comes before the first write
abbrev pub build_answer : ℕ → (List ℕ → ℕ) → Heading → List ℕ → List ℕ → Result ℕ Refusal
build_answer w value h payload buf =
    cond (short buf) (Err (refusal TooShort))
    (cond (in_range h) (cond (nat_lt 512 (length payload)) (Err (refusal PayloadTooLong)) (Ok (length (sealed w value h payload)))) (Err (refusal HeadingOutOfRange)))

abbrev pub build_buffer : ℕ → (List ℕ → ℕ) → Heading → List ℕ → List ℕ → List ℕ
build_buffer w value h payload buf =
    cond (short buf) buf (cond (in_range h) (cond (nat_lt 512 (length payload)) buf (over (sealed w value h payload) buf)) buf)

-- a sealed block's bytes are the front of its buffer
abbrev pub bytes_answer : ℕ → List ℕ → Result (List ℕ) Refusal
bytes_answer len buf = cond (short buf) (Err (refusal TooShort)) (Ok (take len buf))

abbrev pub lent : Result (Bor (List ℕ)) Refusal → Result (List ℕ) Refusal
lent (Ok bytes) = Ok bytes.now
lent (Err e) = Err e
