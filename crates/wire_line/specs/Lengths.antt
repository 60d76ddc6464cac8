-- A proof that stands here since the line's law cites it: no more than sixteen wait.
use Rattle.std.specs.Prelude.{◌≡◌, ℕ, zero, suc, ◌≤◌, List, length, refl}
use Rattle.std.proofs.Common.{ap, arith}
use Rattle.queue.specs.Contents.{contents}
use Rattle.wire.specs.Form.{found}
use Rattle.wire_line.specs.declared.held.WireLine.{WireLine}
use Rattle.wire_line.specs.Frames.{blocks}
use Rattle.wire_line.specs.Waiting.{waits}

length-blocks : (n : ℕ) (bytes : List ℕ) → length (blocks n bytes) ≡ n
unfolding blocks
length-blocks zero bytes = refl
length-blocks (suc n) bytes = ap suc (length-blocks n (found bytes).rest)

pub length_waits : (x : WireLine) → length (waits x) ≡ x.count
length_waits x = length-blocks x.count (contents x.bytes)

pub few_wait : (x : WireLine) → length (waits x) ≤ 16
few_wait x = omega (arith, length_waits x)
