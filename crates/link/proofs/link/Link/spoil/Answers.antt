use Rattle.std.proofs.Common.{rules}
use Rattle.rules.specs.Links.{spoil, polled}
use Rattle.link.proofs.Leading.{leads_on}
use Rattle.link.proofs.link.Link.spoil.Goals as goal

pub returns-in-Controller-clause-law : goal.returns-in-Controller-clause-law
returns-in-Controller-clause-law g c = leads_on g.K.Check.code g.met.K.Check.lawful _ _ c.args.side (spoil c.args.change.place c.args.change.addend) tt (polled c.spoil.result) c.args.scratch.now c.spoil.new.scratch (search rules)

pub returns-in-Sled-clause-law : goal.returns-in-Sled-clause-law
returns-in-Sled-clause-law g c = leads_on g.K.Check.code g.met.K.Check.lawful _ _ c.args.side (spoil c.args.change.place c.args.change.addend) tt (polled c.spoil-in-Sled.result) c.args.scratch.now c.spoil-in-Sled.new.scratch (search rules)
