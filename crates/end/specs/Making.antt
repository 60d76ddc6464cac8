-- What an answer to the making of an end says.
use Rattle.std.specs.Prelude.{◌≡◌, ℕ, List, Ok, Err, Result}
use Rattle.refusal.specs.declared.Failure.{Failure}
use Rattle.refusal.specs.declared.Failure.TheVariants.{Refused, OutOfMemory}
use Rattle.login.specs.declared.Parameters.{Parameters}
use Rattle.rules.specs.declared.seat.Side.{Side}
use Rattle.rules.specs.Ends.{fresh}
use Rattle.rules.specs.Links.{makes_end}
use Rattle.end.specs.declared.end.End.{End}
use Rattle.end.specs.Views.{view}

-- where memory was wanting, the rules do make the end
abbrev pub Unmakes : Side → Parameters → Failure → Type 0
Unmakes side limits (Refused why) = makes_end side limits ≡ Err why
Unmakes side limits (OutOfMemory _) = makes_end side limits ≡ Ok (fresh side limits)

-- an end that is made stands for the one that the rules make, whatever its store holds
abbrev pub Makes : Side → Parameters → Result End Failure → Type 0
Makes side limits (Ok e) = (store : List ℕ) → makes_end side limits ≡ Ok (view e store)
Makes side limits (Err why) = Unmakes side limits why
