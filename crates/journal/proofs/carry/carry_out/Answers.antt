use Rattle.std.proofs.Common.{◌≡◌, take, Ok, sym, refl, subst, rules}
use Rattle.link.specs.Worlds.{world}
use Rattle.link.specs.Making.{made_of}
use Rattle.link.proofs.Leading.{bytes_of}
use Rattle.journal.specs.Runs.{Level}
use Rattle.journal.proofs.Starting.{shows_begun, carried}
use Rattle.journal.proofs.carry.carry_out.Goals as goal

pub carry_all-requires : goal.carry_all-requires
carry_all-requires g c =
    let made : made_of g.A.Line g.B.Line c.args.parts ≡ Ok (world g.A.Line g.B.Line c.in_ok-link.link) = search rules in
    let j = c.new-journal.ensures in
    subst Level (sym (shows_begun g.K.Check.code g.met.K.Check.lawful g.A.Line g.B.Line c.args.parts c.in_ok-link.link made c.new-journal.result c.args.scratch.now j.entries j.controller j.sled)) (refl, refl)

pub returns-in-Ok : goal.returns-in-Ok
returns-in-Ok g c =
    let made : made_of g.A.Line g.B.Line c.args.parts ≡ Ok (world g.A.Line g.B.Line c.in_ok-link.link) = search rules in
    let j = c.new-journal.ensures in
    let start = shows_begun g.K.Check.code g.met.K.Check.lawful g.A.Line g.B.Line c.args.parts c.in_ok-link.link made c.new-journal.result c.args.scratch.now j.entries j.controller j.sled in
    carried g.K.Check.code g.met.K.Check.lawful g.A.Line g.B.Line c.args.parts c.in_ok-link.link made c.args.payloads.now (bytes_of c.args.payloads.now c.type_inv.payloads) c.args.scratch.now c.new-journal.result start c.args.calls.now c.args.calls.now _ _ c.in-Ok.ensures.ok _ (λ e. e)

pub returns-in-Err : goal.returns-in-Err
returns-in-Err g c =
    let made : made_of g.A.Line g.B.Line c.args.parts ≡ Ok (world g.A.Line g.B.Line c.in_ok-link.link) = search rules in
    let j = c.new-journal.ensures in
    let start = shows_begun g.K.Check.code g.met.K.Check.lawful g.A.Line g.B.Line c.args.parts c.in_ok-link.link made c.new-journal.result c.args.scratch.now j.entries j.controller j.sled in
    let far = c.in-Err.ensures.err in
    carried g.K.Check.code g.met.K.Check.lawful g.A.Line g.B.Line c.args.parts c.in_ok-link.link made c.args.payloads.now (bytes_of c.args.payloads.now c.type_inv.payloads) c.args.scratch.now c.new-journal.result start c.args.calls.now (take far.0 c.args.calls.now) _ _ far.1.1 _ (λ e. (far.0, (far.1.0, e)))
