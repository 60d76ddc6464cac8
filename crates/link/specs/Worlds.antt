-- What a link stands for, and what a call at a side did as one value.
use Rattle.std.specs.Prelude.{◌≡◌, ℕ, List, vec_items}
use Rattle.block_check.specs.Law.{Code}
use Rattle.line.specs.declared.Line.{Ghosts}
pub use Rattle.end.specs.Views.{agreed_by}
use Rattle.rules.specs.declared.seat.Side.{Side}
use Rattle.rules.specs.declared.seat.Side.TheVariants.{Controller, Sled}
use Rattle.rules.specs.Ends.{End}
use Rattle.rules.specs.Links.{Act, Answer, Acted, World, Entry, acts_at, moves}
use Rattle.link.specs.declared.link.Link.{Link}
use Rattle.link.specs.Nodes.{node}

abbrev pub world : {A B K : Type 0} → Ghosts A → Ghosts B → Link A B K → World
world a b l = record { controller = node a l.controller; sled = node b l.sled }

pub record Outcome : Type 0 where
  pub answer : Answer
  pub world : World
  pub scratch : List ℕ

abbrev pub outcome : Answer → World → List ℕ → Outcome
outcome a w scratch = record { answer = a; world = w; scratch = scratch }

abbrev pub stepping : World → Side → Acted → Outcome
stepping w side r = record { answer = r.answer; world = moves w side r; scratch = r.scratch }

abbrev pub steps : Code → World → Side → Act → List ℕ → Outcome
steps k w side act scratch = stepping w side (acts_at k w side act scratch)

-- what is written down of a call
abbrev pub wrote : Side → Act → Answer → List ℕ → Entry
wrote side act a scratch = record { side = side; act = act; answer = a; scratch = scratch }

-- After a refusal both ends and the bytes of both stores are what they were, whatever they stand for.
pub record Unmoved {A B K : Type 0} (before later : Link A B K) : Type 0 where
  pub controller : later.controller.end ≡ before.controller.end
  pub sled : later.sled.end ≡ before.sled.end
  pub controller_store : vec_items later.controller.store ≡ vec_items before.controller.store
  pub sled_store : vec_items later.sled.store ≡ vec_items before.sled.store

-- the end that an operator asks
abbrev pub end_at : World → Side → End
end_at w Controller = w.controller.end
end_at w Sled = w.sled.end
