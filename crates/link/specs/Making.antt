-- What an answer to the making of a link says.
use Rattle.std.specs.Prelude.{◌≡◌, ℕ, List, [], Ok, Err, vec_len, Result}
use Rattle.refusal.specs.declared.Failure.{Failure}
use Rattle.refusal.specs.declared.Failure.TheVariants.{Refused, OutOfMemory}
use Rattle.refusal.specs.declared.Refusal.{Refusal}
use Rattle.block_check.specs.Law.{Code}
use Rattle.line.specs.declared.Line.{Ghosts}
use Rattle.rules.specs.declared.seat.Side.TheVariants.{Controller, Sled}
use Rattle.rules.specs.Ends.{fresh}
use Rattle.rules.specs.Links.{World, Call, link_of, makes_link, journal, run}
use Rattle.law.specs.Law.{Faithful, CallsOfBytes, Reached}
use Rattle.end.specs.declared.end.End.{End}
use Rattle.end.specs.Views.{view}
use Rattle.link.specs.declared.link.Link.{Link}
use Rattle.link.specs.declared.parts.Parts.{Parts}
use Rattle.link.specs.declared.parts.NotMade.{NotMade}
use Rattle.link.specs.Worlds.{world}

-- the link that the rules make of the parts, or their refusal
abbrev pub made_of : {A B K : Type 0} → Ghosts A → Ghosts B → Parts A B K → Result World Refusal
made_of a b p = makes_link p.controller.limits p.sled.limits (vec_len p.controller.store) (vec_len p.sled.store) (a.waiting p.controller.line) (b.waiting p.sled.line)

-- two ends in Initial, with the lines as they are
abbrev pub first_world : {A B K : Type 0} → Ghosts A → Ghosts B → Parts A B K → World
first_world a b p = link_of p.controller.limits p.sled.limits (vec_len p.controller.store) (vec_len p.sled.store) (a.waiting p.controller.line) (b.waiting p.sled.line)

-- the two lines of the parts are empty, as new ones are
pub record Fresh {A B K : Type 0} (a : Ghosts A) (b : Ghosts B) (p : Parts A B K) : Type 0 where
  pub to_controller : a.waiting p.controller.line ≡ []
  pub to_sled : b.waiting p.sled.line ≡ []

-- The law, of every list of calls from here, where both lines are new and empty; and a run that has led here has not
-- begun.
pub record FromHere {A B K : Type 0} (k : Code) (a : Ghosts A) (b : Ghosts B) (p : Parts A B K) (w : World) : Type 0 where
  pub faithful : (calls : List Call) → CallsOfBytes calls → Faithful p.controller.limits p.sled.limits (journal k w calls) (run k w calls)
  pub reached : Reached k p.controller.limits p.sled.limits [] w

-- where memory was wanting, the rules do make the link
abbrev pub Because : {A B K : Type 0} → Ghosts A → Ghosts B → Parts A B K → Failure → Type 0
Because a b p (Refused why) = made_of a b p ≡ Err why
Because a b p (OutOfMemory e) = made_of a b p ≡ Ok (first_world a b p)

-- what is made of the ends alone, whatever their stores hold
abbrev pub EndsMade : {A B K : Type 0} → Ghosts A → Ghosts B → Parts A B K → Result (End × End) Failure → Type 0
EndsMade a b p (Ok e) = (made_of a b p ≡ Ok (first_world a b p)) × ((store : List ℕ) → (view e.0 store ≡ fresh Controller p.controller.limits) × (view e.1 store ≡ fresh Sled p.sled.limits))
EndsMade a b p (Err why) = Because a b p why

-- a link that is made is the one that the rules make; one that isn't hands the parts back
abbrev pub Makes : {A B K : Type 0} → Ghosts A → Ghosts B → Parts A B K → Result (Link A B K) (NotMade A B K) → Type 0
Makes a b p (Ok l) = made_of a b p ≡ Ok (world a b l)
Makes a b p (Err n) = (n.parts ≡ p) × Because a b p n.why
