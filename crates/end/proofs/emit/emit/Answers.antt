use Rattle.std.proofs.Common.{◌≡◌, length, take, Ok, ap, ◌∙◌, arith}
use Rattle.std.proofs.lemmas.Bool.{le-ltb}
use Rattle.std.proofs.lemmas.Grind.{common_steps}
use Rattle.refusal.specs.Buffers.{over}
use Rattle.refusal.proofs.Buffers.{over_front}
use Rattle.block.specs.Reading.{content}
use Rattle.rules.specs.Sending.{block}
use Rattle.end.proofs.emit.emit.Goals as goal

pub returns : goal.returns
returns g c =
    let f = c.args.frame in
    let buf = c.args.buf.now in
    let b = block g.K.Check.code (content f) in
    let long = le-ltb (length buf) 520 (omega arith) in
    let short = le-ltb 512 (length f.payload.now) f.short in
    let said : Ok c.in-Ok.sealed.len ≡ Ok (length b) = c.in-Ok.ensures.answer ∙ rw (long, f.fields, short) in
    let filled : c.build.new.buf ≡ over b buf = c.in-Ok.ensures.after ∙ rw (long, f.fields, short) in
    let is : take c.in-Ok.sealed.len c.build.new.buf ≡ b = ap (take c.in-Ok.sealed.len) filled ∙ over_front b buf c.in-Ok.sealed.len (let q = said in cc) in
    grind (arith, common_steps)
