use Rattle.block.proofs.Building.{all_built}
use Rattle.block.proofs.build.build.Goals as goal

pub returns : goal.returns
returns g c =
    let one = c.in_ok-half.ensures in
    let two = c.in_ok-half-2.ensures in
    let three = c.in_ok-sealed.ensures in
    let k = all_built g.K.Check.code.width g.K.Check.code.value g.met.K.Check.lawful.few c.args.heading c.args.payload.now c.args.buf.now _ _ _ _ _ _ one.answer one.after two.answer two.after three.answer three.after in
    record { answer = k.0; after = k.1 }
