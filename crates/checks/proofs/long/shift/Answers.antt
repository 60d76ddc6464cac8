use Rattle.std.proofs.Common.{arith}
use Rattle.std.proofs.lemmas.Nat.Bits.{and_high}
use Rattle.std.proofs.lemmas.Bool.Decides.{nat_tests}
use Rattle.checks.proofs.long.shift.Goals as goal

pub returns-then-s-ne0 : goal.returns-then-s-ne0
returns-then-s-ne0 c = let h = and_high c.args.s 1 15 in grind (arith, nat_tests)

pub returns-else-s-ne0 : goal.returns-else-s-ne0
returns-else-s-ne0 c = let h = and_high c.args.s 1 15 in grind (arith, nat_tests)
