use Rattle.std.proofs.Common.{ap, ◌∙◌}
use Rattle.link.specs.Worlds.{agreed_by}
use Rattle.link.proofs.link.Link.agreed.Goals as goal

pub returns : goal.returns
returns g c = let e = c.«end».ensures in c.agreed.ensures e.0 ∙ ap agreed_by e.1
