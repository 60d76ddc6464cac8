use Rattle.std.proofs.Common.{◌≡◌, Some, arith}
use Rattle.std.proofs.lemmas.Grind.{common_steps}
use Rattle.std.proofs.lemmas.Option.{gets}
use Rattle.std.specs.List.{slice_get}
use Rattle.block.specs.Reading.{content}
use Rattle.outstanding.specs.Frames.{frames}
use Rattle.end.proofs.Resending.{more_took, more_put, more_built}
use Rattle.end.proofs.timeout.resend_frames.Goals as goal
use Rattle.end.proofs.timeout.resend_frames.Goals.{in-Some, in_default}

pub loop-k-preserved : goal.loop-k-preserved
loop-k-preserved g c =
    let fs = frames c.args.outstanding.now c.args.store.now in
    let i = c.loop-k.k in
    let n = c.len-k-end.ensures.value c.args.store.now in
    elim c.match-get.branch [
      | in-Some w ↦
          let f = content w.in-Some.frame in
          let here : Some f ≡ slice_get fs i = grind (arith, common_steps, w.in-Some.ensures.value) in
          let t = more_took g.K.Check.code fs i f here (g.B.Line.waiting c.args.outgoing.now) in
          let p = more_put g.K.Check.code fs i f here (g.B.Line.waiting c.args.outgoing.now) in
          let b = more_built g.K.Check.code fs i f here c.args.buf.now in
          record { answer = grind (arith, common_steps); line = grind (arith, common_steps); buffer = grind (arith, common_steps); few = grind (arith, common_steps) }
      | in_default w ↦ absurd (grind (arith, common_steps, gets, w.in_default.ensures.value))
    ]
