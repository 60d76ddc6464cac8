use Rattle.std.proofs.Common.{ap, ◌∙◌}
use Rattle.rules.specs.Ends.{End}
use Rattle.link.proofs.link.Link.state.Goals as goal

pub returns : goal.returns
returns g c = let e = c.«end».ensures in c.state.ensures e.0 ∙ ap (λ (n : End). n.seat.state) e.1
