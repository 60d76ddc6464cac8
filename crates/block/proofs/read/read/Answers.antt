use Rattle.std.proofs.Common.{arith}
use Rattle.std.proofs.lemmas.Bool.Decides.{nat_tests}
use Rattle.block.specs.Reading.{read_block}
use Rattle.block.proofs.Reading.{compared}
use Rattle.block.proofs.read.read.Goals as goal

pub returns-then-ne : goal.returns-then-ne
unfolding read_block
returns-then-ne g c =
    let p = c.in-Some.ensures in
    let r = compared g.K.Check.code.width g.K.Check.code.value c.args.bytes.now _ _ _ _ _ _ p.2 c.width-w.ensures p.3 c.value.ensures.answer (omega arith) c.to_be_bytes-value.ensures c.if-ne.ensures in
    grind (arith, nat_tests)

pub returns : goal.returns
unfolding read_block
returns g c =
    let p = c.in-Some.ensures in
    let r = compared g.K.Check.code.width g.K.Check.code.value c.args.bytes.now _ _ _ _ _ _ p.2 c.width-w.ensures p.3 c.value.ensures.answer (omega arith) c.to_be_bytes-value.ensures c.if-ne.ensures in
    grind (arith, nat_tests)
