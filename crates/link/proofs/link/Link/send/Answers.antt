use Rattle.std.proofs.Common.{rules}
use Rattle.rules.specs.Links.{send, sent}
use Rattle.link.proofs.Leading.{leads_on, bytes_of}
use Rattle.link.proofs.link.Link.send.Goals as goal

pub returns-in-Controller-clause-law : goal.returns-in-Controller-clause-law
returns-in-Controller-clause-law g c = leads_on g.K.Check.code g.met.K.Check.lawful _ _ c.args.side (send c.args.tag c.args.payload.now) (bytes_of c.args.payload.now c.type_inv.payload) (sent c.send.result) c.args.scratch.now c.send.new.scratch (search rules)

pub returns-in-Sled-clause-law : goal.returns-in-Sled-clause-law
returns-in-Sled-clause-law g c = leads_on g.K.Check.code g.met.K.Check.lawful _ _ c.args.side (send c.args.tag c.args.payload.now) (bytes_of c.args.payload.now c.type_inv.payload) (sent c.send-in-Sled.result) c.args.scratch.now c.send-in-Sled.new.scratch (search rules)
