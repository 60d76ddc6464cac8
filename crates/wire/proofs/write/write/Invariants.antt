use Rattle.std.proofs.Common.{◌≡◌, ◌+◌, ◌*◌, ◌≤◌, ◌∷◌, length, take}
use Rattle.wire.specs.Form.{inner}
use Rattle.refusal.specs.Buffers.{over}
use Rattle.wire.proofs.write.write.Given as goal

-- The buffer begins with the frame as far as it goes, and is as it was behind that.
abbrev pub invariant-loop-b : goal.invariant-loop-b
invariant-loop-b l =
    (l.n ≤ 2 * l.b-index + 1) × (l.n ≡ length (0x02 ∷ inner (take l.b-index l.block)))
    × (l.out ≡ over (0x02 ∷ inner (take l.b-index l.block)) l.initial.out)
