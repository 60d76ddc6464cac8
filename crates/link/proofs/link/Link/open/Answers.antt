use Rattle.std.proofs.Common.{rules}
use Rattle.rules.specs.Links.{open_link, opened}
use Rattle.link.proofs.Leading.{leads_on}
use Rattle.link.proofs.link.Link.open.Goals as goal

pub returns-in-Controller-clause-law : goal.returns-in-Controller-clause-law
returns-in-Controller-clause-law g c = leads_on g.K.Check.code g.met.K.Check.lawful _ _ c.args.side open_link tt (opened c.«open».result) c.args.scratch.now c.«open».new.scratch (search rules)

pub returns-in-Sled-clause-law : goal.returns-in-Sled-clause-law
returns-in-Sled-clause-law g c = leads_on g.K.Check.code g.met.K.Check.lawful _ _ c.args.side open_link tt (opened c.open-in-Sled.result) c.args.scratch.now c.open-in-Sled.new.scratch (search rules)
