-- A block as bytes: a header of six bytes, the payload and the check.
use Rattle.std.specs.Prelude.{ℕ, ◌+◌, ◌-◌, ◌*◌, ◌/◌, ◌%◌, Bool, ◌&&◌, List, [], ◌∷◌, ◌++◌, length, drop, nat_lt}
use Rattle.block.specs.declared.heading.Heading.{Heading}

-- Byte 0 holds Origin in bit 7, Protocol in bits 6 to 4 and Type in bits 3 to 0; then the frame number, the
-- Exchange ID and the payload's size, high bytes first.
abbrev pub header : Heading → ℕ → List ℕ
header h size =
    (128 * h.origin + 16 * h.protocol + h.kind) ∷ h.number ∷
    (h.exchange / 256) ∷ (h.exchange % 256) ∷ (size / 256) ∷ (size % 256) ∷ []

abbrev pub body : Heading → List ℕ → List ℕ
body h payload = header h (length payload) ++ payload

-- the last w bytes of a check's value, high byte first
abbrev pub check_bytes : ℕ → ℕ → List ℕ
check_bytes w v = drop (2 - w) ((v / 256) ∷ (v % 256) ∷ [])

-- a whole block, under a check of the width w
unfoldable pub sealed : ℕ → (List ℕ → ℕ) → Heading → List ℕ → List ℕ
sealed w value h payload = body h payload ++ check_bytes w (value (body h payload))

-- number and Exchange ID are in range by their types
abbrev pub in_range : Heading → Bool
in_range h = nat_lt h.origin 2 && (nat_lt h.protocol 8 && nat_lt h.kind 16)
