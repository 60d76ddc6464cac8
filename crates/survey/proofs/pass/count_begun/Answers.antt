use Rattle.std.proofs.Common.{◌^◌, arith, rules, tests}
use Rattle.std.proofs.lemmas.Iterator.{YieldsList-from_slice}
use Rattle.std.proofs.lemmas.Iterator.Adapters.{fits_from_length, at_most_from_yields_List}
use Rattle.survey.proofs.pass.count_begun.Goals as goal

-- at most 2 ^ 63 bytes, each of which adds 1 at most
pub sum-requires-clause-fits : goal.sum-requires-clause-fits
sum-requires-clause-fits c =
    fits_from_length _ _ (2 ^ 63) (2 ^ 64) (at_most_from_yields_List (YieldsList-from_slice c.args.bytes.now cc) (grind arith)) c.map.ensures.closure (omega arith) (λ x r q k. search (rules, tests))
