use Rattle.std.proofs.Common.{slice_index_or, arith}
use Rattle.std.proofs.lemmas.Nat.Bits.{and_high}
use Rattle.std.proofs.lemmas.Bool.Decides.{nat_tests}
use Rattle.login.proofs.LogIn.decode.Goals as goal

pub returns : goal.returns
returns c = let h = and_high (slice_index_or c.args.payload.now 0 0) 1 6 in grind (arith, nat_tests)
