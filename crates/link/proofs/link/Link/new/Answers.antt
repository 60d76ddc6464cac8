use Rattle.std.proofs.Common.{◌≡◌, Ok, rules}
use Rattle.link.specs.Worlds.{world}
use Rattle.link.specs.Making.{made_of}
use Rattle.link.proofs.Fresh.{from_here}
use Rattle.link.proofs.link.Link.new.Goals as goal

pub returns-clause-law : goal.returns-clause-law
returns-clause-law g c =
    let made : made_of g.A.Line g.B.Line c.args.parts ≡ Ok (world g.A.Line g.B.Line (record { controller = c.with.result; sled = c.with-2.result; check = c.args.parts.check })) = search rules in
    from_here g.A.Line g.B.Line c.args.parts _ made g.K.Check.code g.met.K.Check.lawful
