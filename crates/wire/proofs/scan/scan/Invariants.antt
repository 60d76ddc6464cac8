use Rattle.std.proofs.Common.{◌≡◌, ◌≤◌, length, take, drop}
use Rattle.wire.specs.Form.{scanned, found}
use Rattle.wire.proofs.scan.scan.Given as goal

-- Scanning what is left, from here, finds what scanning the whole input finds.
abbrev pub invariant-loop-i : goal.invariant-loop-i
invariant-loop-i l =
    (l.n ≤ 520) × (length l.frame ≡ 520)
    × (scanned l.place (take l.n l.frame) (drop l.i l.input) ≡ found l.input)
