-- What a put and a take leave of the frames that a line holds.
use Rattle.std.specs.Prelude.{◌≡◌, ℕ, ◌+◌, ◌-◌, ◌<◌, ◌≤◌, true, List, [], ◌∷◌, ◌++◌, length}
use Rattle.std.proofs.Common.{sym, ◌∙◌, arith}
use Rattle.std.proofs.Math.Path.{ap}
use Rattle.std.proofs.lemmas.List.{length_push}
use Rattle.line.specs.Blocks.{carried}
use Rattle.queue.specs.Contents.{contents, capacity}
use Rattle.queue.specs.declared.queue.Queue.{Queue}
use Rattle.wire.specs.Form.{Found, framed, found}
use Rattle.wire.proofs.Rereading.{read_back}
use Rattle.wire_line.specs.declared.held.WireLine.{WireLine}
use Rattle.wire_line.specs.Frames.{blocks, flat, Begins, Carries, Kept}
use Rattle.wire_line.specs.Waiting.{waits}
use Rattle.wire_line.specs.Lengths.{length_waits}
use Rattle.wire_line.proofs.Flat.{sizes, first, others, flat_fits, flat_push, blocks_first, blocks_flat, carries_push}

pub room_for : (x : WireLine) → x.count < 16 → length (contents x.bytes) + 1042 ≤ capacity x.bytes
room_for x h = omega (arith, ap length x.kept.whole, flat_fits (waits x) x.kept.each, length_waits x)

-- the frame of one more block behind those of a line
module _ (x : WireLine) (q : Queue ℕ) (same : capacity q ≡ capacity x.bytes) (block : List ℕ) (is : contents q ≡ contents x.bytes ++ framed block) (few : x.count < 16) (e : carried block ≡ true) where
  more_flat : contents q ≡ flat (waits x ++ block ∷ [])
  more_flat = is ∙ ap (λ z. z ++ framed block) x.kept.whole ∙ sym (flat_push (waits x) block)

  more_each : Carries (waits x ++ block ∷ [])
  more_each = carries_push (waits x) block x.kept.each e

  pub put_blocks : blocks (x.count + 1) (contents q) ≡ waits x ++ block ∷ []
  put_blocks =
      let l : x.count + 1 ≡ length (waits x ++ block ∷ []) = omega (arith, length_push (waits x) block, length_waits x) in
      ap (λ z. blocks z (contents q)) l ∙ ap (blocks (length (waits x ++ block ∷ []))) more_flat ∙ blocks_flat (waits x ++ block ∷ []) more_each

  pub put_kept : Kept q (x.count + 1)
  put_kept = let f = x.kept.few in let l = x.kept.long in record { long = omega arith; few = omega arith; whole = more_flat ∙ ap flat (sym put_blocks); each = rw put_blocks more_each }

-- a line on which a block waits
module _ (x : WireLine) (some : 0 < x.count) where
  abbrev oldest : List ℕ
  oldest = (found (contents x.bytes)).block

  abbrev left : List (List ℕ)
  left = blocks (x.count - 1) (found (contents x.bytes)).rest

  pub waits_first : waits x ≡ oldest ∷ left
  waits_first = blocks_first x.count (contents x.bytes) some

  each_first : Carries (oldest ∷ left)
  each_first = rw waits_first at x.kept.each

  whole_first : contents x.bytes ≡ framed oldest ++ flat left
  unfolding flat
  whole_first = x.kept.whole ∙ ap flat waits_first

  pub size : (1 ≤ length oldest) × (length oldest ≤ 520)
  size = sizes oldest (first oldest left each_first)

  rest_is : (found (contents x.bytes)).rest ≡ flat left
  rest_is =
      ap (λ z. (found z).rest) whole_first ∙ ap (λ (f : Found). f.rest) (read_back oldest (flat left) size.0 size.1)

  pub begins : Begins (contents x.bytes)
  begins = record { some = size.0; small = size.1; whole = whole_first ∙ ap (λ z. framed oldest ++ z) (sym rest_is) }

  -- and what it holds once its first frame has gone
  pub take_kept : (q : Queue ℕ) → capacity q ≡ capacity x.bytes → contents q ≡ (found (contents x.bytes)).rest → Kept q (x.count - 1)
  take_kept q same is =
      let whole = is ∙ rest_is ∙ ap (λ z. flat (blocks (x.count - 1) z)) (sym is) in
      record { long = let l = x.kept.long in omega arith; few = let f = x.kept.few in omega arith; whole = whole; each = rw is (others oldest left each_first) }

-- what the calls' proofs need
pub ruleset putting = (length_waits, room_for, put_blocks, put_kept)

pub ruleset taking = (length_waits, waits_first, size, begins, take_kept)
