use Rattle.std.proofs.Common.{arith}
use Rattle.std.proofs.lemmas.Grind.{common_steps}
use Rattle.queue.specs.Contents.{contents}
use Rattle.outstanding.specs.Frames.{frames}
use Rattle.outstanding.proofs.Slots.{nth_frames}
use Rattle.outstanding.proofs.outstanding.Outstanding.get.Goals as goal

pub returns : goal.returns
unfolding frames
returns c =
    let o = c.args.self.now in
    let e = nth_frames o.first c.args.k (contents o.entries) c.args.store.now in
    let is = c.in_ok-entry.ensures in
    grind (arith, common_steps)
