-- What an answer to a whole run says.
use Rattle.std.specs.Prelude.{◌≡◌, ℕ, List, Ok, Err, Result}
use Rattle.refusal.specs.declared.Failure.{Failure}
use Rattle.refusal.specs.declared.Failure.TheVariants as failure
use Rattle.block_check.specs.Law.{Code}
use Rattle.line.specs.declared.Line.{Ghosts}
use Rattle.rules.specs.declared.call.Call.{Call}
use Rattle.link.specs.declared.parts.Parts.{Parts}
use Rattle.link.specs.Making.{made_of, first_world, Fresh, Because}
use Rattle.journal.specs.declared.carry.Run.{Run}
use Rattle.journal.specs.declared.carry.Stopped.{Stopped}
use Rattle.journal.specs.declared.carry.Stopped.TheVariants.{Unmade, OutOfMemory}
use Rattle.journal.specs.Runs.{Ran, begun, ran, SoFar, shown, FaithfulSoFar}

-- why a run stopped, without what it hands back
abbrev pub stops_as : {A B K : Type 0} → Stopped A B K → Failure
stops_as (Unmade n) = n.why
stops_as (OutOfMemory r e) = failure.OutOfMemory e

module _ {A B K : Type 0} (k : Code) (a : Ghosts A) (b : Ghosts B) (p : Parts A B K) (calls : List Call) (payloads scratch : List ℕ) where
  -- The rules make a link of the parts; the journal, the link and the scratch show what `Done` says of the run of the
  -- calls on it; and where both lines were new and empty, the law holds of what they show.
  pub record Carried (r : Run A B K) (left : List ℕ) (Done : Ran → Ran → Type 0) : Type 0 where
    pub made : made_of a b p ≡ Ok (first_world a b p)
    pub done : Done (begun (first_world a b p) scratch) (shown a b r.link r.journal left)
    pub law : Fresh a b p → FaithfulSoFar p.controller.limits p.sled.limits (shown a b r.link r.journal left)

  abbrev pub StoppedAs : Stopped A B K → List ℕ → Type 0
  StoppedAs (Unmade n) left = (n.parts ≡ p) × (Because a b p n.why × (left ≡ scratch))
  StoppedAs (OutOfMemory r e) left = Carried r left (λ start s. SoFar k payloads start calls s)

  abbrev pub CarriedOut : Result (Run A B K) (Stopped A B K) → List ℕ → Type 0
  CarriedOut (Ok r) left = Carried r left (λ start s. s ≡ ran k payloads start calls)
  CarriedOut (Err e) left = StoppedAs e left
