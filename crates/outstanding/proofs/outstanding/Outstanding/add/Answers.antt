use Rattle.std.proofs.Common.{refl, ◌∙◌, arith}
use Rattle.queue.specs.Contents.{contents, capacity}
use Rattle.outstanding.specs.Frames.{frames}
use Rattle.outstanding.proofs.Slots.{length-waiting, frames_add}
use Rattle.outstanding.proofs.outstanding.Outstanding.add.Goals as goal

pub returns : goal.returns
unfolding frames
returns c =
    let o = c.args.self.now in
    let f = c.args.frame in
    let store = c.args.store.now in
    let n = length-waiting o store in
    frames_add (contents o.entries) (contents c.push.new.self) _ (capacity o.entries) (omega arith) o.room c.push.ensures.after
    o.first c.start-start.result c.len.result store c.copy_from_slice.new.self f.payload.now f.short c.requires.long refl
    c.start-start.ensures (c.len.ensures.value store ∙ n) c.copy_from_slice.ensures.after
