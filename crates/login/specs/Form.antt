-- The payload of a log-in as six bytes.
use Rattle.std.specs.Prelude.{◌≡◌, ℕ, ◌+◌, ◌*◌, ◌/◌, ◌%◌, cond, List, [], ◌∷◌, length, Some, None, Option, ◌==◌, slice_index}
use Rattle.login.specs.declared.LogIn.{LogIn}

-- Byte 0 has Parameters Changed in bit 7 and Accept in bit 6, and of the two exactly one is set; its other bits are
-- 0. Then the offset, the payload and the baud in hundreds, high bytes first.
abbrev pub encoded : LogIn → List ℕ
encoded l =
    cond l.accept 64 128 ∷ l.parameters.offset ∷
    (l.parameters.payload / 256) ∷ (l.parameters.payload % 256) ∷
    (l.parameters.baud / 256) ∷ (l.parameters.baud % 256) ∷ []

-- of byte 0 only Accept is looked at
abbrev pub log_in_of : List ℕ → LogIn
log_in_of bs = record {
  accept = (slice_index bs 0 / 64 % 2 == 1);
  parameters = record {
    offset = slice_index bs 1;
    payload = 256 * slice_index bs 2 + slice_index bs 3;
    baud = 256 * slice_index bs 4 + slice_index bs 5;
  };
}

abbrev pub decoded : List ℕ → Option LogIn
decoded bs = cond (length bs == 6) (Some (log_in_of bs)) None

-- What was written reads back.
abbrev pub ReadsBack : Type 0
ReadsBack = (l : LogIn) → decoded (encoded l) ≡ Some l
