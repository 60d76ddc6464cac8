use Rattle.std.proofs.Common.{◌≡◌, ◌+◌, false, ltb, length, get_or, Ok, sym, ap, ◌∙◌, arith, lit≤}
use Rattle.std.proofs.lemmas.List.{length-append, length-set}
use Rattle.std.proofs.lemmas.Bool.{cond-false, le-ltb, or_from}
use Rattle.wire.specs.Form.{framed}
use Rattle.wire.proofs.Writing.{inner_nil, inner_more, escaped_fits, accepted, begun, grown, ended, framed_length}
use Rattle.wire.proofs.write.write.Goals as goal

pub loop-b-init : goal.loop-b-init
loop-b-init c = (lit≤ tt, rw inner_nil, begun c.args.out.now (omega arith))

pub loop-b-preserved : goal.loop-b-preserved
loop-b-preserved c =
    let xs = c.args.block.now in
    let i = c.loop-b.b-index in
    let e = inner_more xs i c.loop-b-test.true in
    let small = (accepted xs _ _ c.in_ok-check_length.ensures).1 in
    let fits = escaped_fits (get_or xs i 0) in
    (omega arith, simp (e, length-append) (omega arith), c.put-n.ensures.after ∙ grown xs i c.loop-b.n _ c.loop-b.out c.loop-b-test.true c.loop-b.invariant.1 (simp length-set (omega (arith, small))) c.loop-b.invariant.2)

pub returns : goal.returns
returns c =
    let xs = c.args.block.now in
    let fit = accepted xs _ _ c.in_ok-check_length.ensures in
    let room : ltb (length c.args.out.now) 1042 ≡ false = le-ltb _ _ c.if-out-lt-LONGEST_FRAME.false in
    let k = framed_length xs c.loop-b.b-index c.loop-b-test.false in
    let n : c.loop-b.n + 1 ≡ length (framed xs) = omega (arith, c.loop-b.invariant.1, k) in
    record {
      answer = ap Ok n ∙ (sym (cond-false _ _ _ fit.0) ∙ sym (cond-false _ _ _ room));
      after = ended xs c.loop-b.b-index c.loop-b.n c.args.out.now c.loop-b.out c.loop-b-test.false c.loop-b.invariant.1 (omega (arith, fit.1)) c.loop-b.invariant.2 ∙ sym (cond-false _ _ _ (or_from _ _ room fit.0));
    }
