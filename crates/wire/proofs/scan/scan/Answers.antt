use Rattle.std.proofs.Common.{◌≡◌, ◌+◌, length, take, drop, sym, ap, ◌∙◌, le_refl, arith, lit≤, rules}
use Rattle.std.proofs.lemmas.List.{length-take-le, take_rest, take_more_set, drop_all, length-set}
use Rattle.wire.specs.declared.scan.Place.TheVariants.{Inside}
use Rattle.wire.specs.declared.scan.Act.TheVariants.{Skip, Begin, Escape, Leave}
use Rattle.wire.specs.Form.{scanned, found}
use Rattle.wire.proofs.Scanning.{none, turned, kept, full, empty, ended, moved}
use Rattle.wire.proofs.scan.scan.Goals as goal

pub returns-in-Finish : goal.returns-in-Finish
returns-in-Finish c =
    let xs = c.args.input.now in
    let i = c.loop-i.i in
    let k : length (take c.loop-i.n c.loop-i.frame) ≡ c.loop-i.n = length-take-le c.loop-i.n c.loop-i.frame (search rules) in
    let f = ended c.loop-i.place (take c.loop-i.n c.loop-i.frame) xs i _ c.loop-i-test.true c.loop-i.invariant.2 c.in-Finish.ensures (omega arith) in
    record { within = search rules; size = sym k ∙ ap (λ x. length x.block) f; block = ap (λ x. x.block) f; rest = take_rest xs (i + 1) ∙ ap (λ x. x.rest) f }

pub loop-i-preserved : goal.loop-i-preserved
loop-i-preserved c =
    let xs = c.args.input.now in
    let frame = c.loop-i.frame in
    let n = c.loop-i.n in
    let p = c.loop-i.place in
    let i = c.loop-i.i in
    let v = take n frame in
    let rest = drop (i + 1) xs in
    let f = found xs in
    let h = c.loop-i-test.true in
    let inv = c.loop-i.invariant.2 in
    let long : length frame ≡ 520 = c.loop-i.invariant.1 in
    let k : length (take n frame) ≡ n = length-take-le n frame (search rules) in
    elim c.match-act_on.branch [
      | goal.in-Skip w ↦ moved rest w.place-is w.n-is w.frame-is (search rules) long (turned p v xs i f h inv Skip w.in-Skip.ensures)
      | goal.in-Begin w ↦ moved rest w.place-is w.n-is w.frame-is (omega arith) long (turned p v xs i f h inv Begin w.in-Begin.ensures)
      | goal.in-Escape w ↦ moved rest w.place-is w.n-is w.frame-is (search rules) long (turned p v xs i f h inv Escape w.in-Escape.ensures)
      | goal.in-Keep w ↦ moved rest w.place-is w.n-is w.frame-is (omega (arith, w.if-n-lt-LONGEST_BLOCK.true)) (simp length-set long) (ap (λ z. scanned Inside z rest) (take_more_set frame n w.in-Keep.x (omega (arith, w.if-n-lt-LONGEST_BLOCK.true))) ∙ kept p v xs i f h inv w.in-Keep.x w.in-Keep.ensures (omega (arith, w.if-n-lt-LONGEST_BLOCK.true)))
      | goal.in-Leave-2 w ↦ moved rest w.place-is w.n-is w.frame-is (omega arith) long (empty p v xs i f h inv w.in-Finish.ensures (omega (arith, w.if-n-gt0.false)))
      | goal.in-Leave-3 w ↦ moved rest w.place-is w.n-is w.frame-is (omega arith) long (full p v xs i f h inv _ w.in-Keep.ensures (omega (arith, w.if-n-lt-LONGEST_BLOCK.false)))
      | goal.in-Leave w ↦ moved rest w.place-is w.n-is w.frame-is (omega arith) long (turned p v xs i f h inv Leave w.in-Leave.ensures)
    ]

pub returns : goal.returns
returns c =
    let xs = c.args.input.now in
    let f = sym (none c.loop-i.place (take c.loop-i.n c.loop-i.frame) xs c.loop-i.i c.loop-i-test.false) ∙ c.loop-i.invariant.2 in
    record { within = lit≤ tt; size = ap (λ x. length x.block) f; block = ap (λ x. x.block) f; rest = take_rest xs (length xs) ∙ (drop_all (length xs) xs (le_refl _) ∙ ap (λ x. x.rest) f) }
