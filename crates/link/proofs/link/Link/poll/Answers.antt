use Rattle.std.proofs.Common.{rules}
use Rattle.rules.specs.Links.{poll, polled}
use Rattle.link.proofs.Leading.{leads_on}
use Rattle.link.proofs.link.Link.poll.Goals as goal

pub returns-in-Controller-clause-law : goal.returns-in-Controller-clause-law
returns-in-Controller-clause-law g c = leads_on g.K.Check.code g.met.K.Check.lawful _ _ c.args.side poll tt (polled c.poll.result) c.args.scratch.now c.poll.new.scratch (search rules)

pub returns-in-Sled-clause-law : goal.returns-in-Sled-clause-law
returns-in-Sled-clause-law g c = leads_on g.K.Check.code g.met.K.Check.lawful _ _ c.args.side poll tt (polled c.poll-in-Sled.result) c.args.scratch.now c.poll-in-Sled.new.scratch (search rules)
