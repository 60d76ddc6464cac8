use Rattle.journal.specs.Runs.{shows}
use Rattle.journal.proofs.Notes.{fits}
use Rattle.journal.proofs.carry.Run.carry.Goals as goal

pub note-requires-clause-controller : goal.note-requires-clause-controller
note-requires-clause-controller g c =
    let room = c.in_ok-make_room.ensures in
    (fits g.K.Check.code c.args.payloads.now (shows g.A.Line g.B.Line c.args.self.now c.args.scratch.now) c.args.call _ c.perform-answer.ensures c.requires _ _ room.controller room.sled room.room.controller room.room.sled).0

pub note-requires-clause-sled : goal.note-requires-clause-sled
note-requires-clause-sled g c =
    let room = c.in_ok-make_room.ensures in
    (fits g.K.Check.code c.args.payloads.now (shows g.A.Line g.B.Line c.args.self.now c.args.scratch.now) c.args.call _ c.perform-answer.ensures c.requires _ _ room.controller room.sled room.room.controller room.room.sled).1
