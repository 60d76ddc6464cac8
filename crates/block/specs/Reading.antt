-- What a reader makes of a string of bytes: a status, or the heading and the payload.
use Rattle.std.specs.Prelude.{ℕ, ◌+◌, ◌*◌, ◌/◌, ◌%◌, Bool, cond, List, length, take, drop, Ok, Err, Result, nat_lt, slice_index}
use Rattle.std.specs.Str.{bytes_eq}
use Rattle.block.specs.declared.heading.Heading.{Heading}
use Rattle.block.specs.declared.frame.Frame.{Frame}
use Rattle.block.specs.declared.status.Status.{Status}
use Rattle.block.specs.declared.status.Status.TheVariants.{BadCheck, OverLength, UnderLength}
use Rattle.block.specs.Form.{check_bytes}

-- what a block carries
pub record Content : Type 0 where
  pub heading : Heading
  pub payload : List ℕ

abbrev pub heading_of : List ℕ → Heading
heading_of bs = record {
  origin = slice_index bs 0 / 128;
  protocol = slice_index bs 0 / 16 % 8;
  kind = slice_index bs 0 % 16;
  number = slice_index bs 1;
  exchange = 256 * slice_index bs 2 + slice_index bs 3;
}

abbrev pub size_of : List ℕ → ℕ
size_of bs = 256 * slice_index bs 4 + slice_index bs 5

abbrev pub content_of : List ℕ → Content
content_of bs = record { heading = heading_of bs; payload = take (size_of bs) (drop 6 bs) }

-- the check covers header and payload
abbrev pub checked : ℕ → (List ℕ → ℕ) → List ℕ → Bool
checked w value bs = bytes_eq (drop (6 + size_of bs) bs) (check_bytes w (value (take (6 + size_of bs) bs)))

-- Fewer bytes than header and check, a size field above 512, more bytes than it calls for, fewer, a wrong check:
-- in this order.
unfoldable pub read_block : ℕ → (List ℕ → ℕ) → List ℕ → Result Content Status
read_block w value bs =
    cond (nat_lt (length bs) (6 + w)) (Err UnderLength)
    (cond (nat_lt 512 (size_of bs)) (Err OverLength)
    (cond (nat_lt (6 + size_of bs + w) (length bs)) (Err OverLength)
    (cond (nat_lt (length bs) (6 + size_of bs + w)) (Err UnderLength)
    (cond (checked w value bs) (Ok (content_of bs)) (Err BadCheck)))))

-- an answer of the code by what its reference shows
abbrev pub content : Frame → Content
content f = record { heading = f.heading; payload = f.payload.now }

abbrev pub shown : Result Frame Status → Result Content Status
shown (Ok f) = Ok (content f)
shown (Err s) = Err s
