use Rattle.std.proofs.Common.{◌≡◌, ◌-◌, ◌≤◌, [], ◌∷◌, ◌++◌, length, is_ok, vec_items, ap, ◌∙◌, arith, rules}
use Rattle.std.proofs.lemmas.List.{append_assoc}
use Rattle.std.proofs.lemmas.Slice.{pushed}
use Rattle.wire.specs.Form.{framed, found}
use Rattle.wire.specs.Theorems.{gap}
use Rattle.survey.proofs.Passing.{Told, told, measured, stands, noted}
use Rattle.survey.proofs.pass.step.Given.{Over}
use Rattle.survey.proofs.pass.step.Goals as goal
use Rattle.survey.proofs.pass.step.Goals.{In-Ok}

known : (g : Over) (c : In-Ok g) → Told c.args.input.now c.read.new.out c.in-Ok.rest.now c.in-Ok.length
known g c = let t = c.in-Ok.ensures in told c.args.input.now c.args.buf.now c.read.new.out c.in-Ok.rest.now c.in-Ok.length c.told-buf c.read.auto.out t.answer t.after

pub slice_bounds-block-end : goal.slice_bounds-block-end
slice_bounds-block-end g c =
    let k = known g (goal.at.slice_bounds-block-end g c).In-Ok in
    let h : c.in-Ok.length ≤ 520 = omega arith in
    search rules

pub unwrap-framed-requires : goal.unwrap-framed-requires
unwrap-framed-requires g c = ap is_ok (c.measure.ensures ∙ measured _ _ _ _ (known g (goal.at.unwrap-framed-requires g c).In-Ok))

pub overflow_sub-before : goal.overflow_sub-before
overflow_sub-before g c =
    let k = known g (goal.at.overflow_sub-before g c).In-Ok in
    omega (arith, ap length k.3, stands c.args.input.now k.0)

pub overflow_sub-before-2 : goal.overflow_sub-before-2
overflow_sub-before-2 g c =
    let k = known g (goal.at.overflow_sub-before-2 g c).In-Ok in
    let m = measured _ _ _ _ k in
    let f : c.unwrap-framed.result ≡ length (framed (found c.args.input.now).block) = cc in
    omega (arith, ap length k.3, stands c.args.input.now k.0)

pub returns : goal.returns
returns g c =
    let k = known g (goal.at.returns g c).In-Ok in
    let m = measured _ _ _ _ k in
    let f : c.unwrap-framed.result ≡ length (framed (found c.args.input.now).block) = cc in
    let b : length c.args.input.now - length c.in-Ok.rest.now - c.unwrap-framed.result ≡ gap c.args.input.now = omega (arith, ap length k.3) in (
      k.0,
      k.3,
      pushed (_ ∷ []) c.in_ok-skip-2.ensures c.in_ok-push.was c.push.ensures.items
          ∙ (append_assoc (vec_items c.args.items.now) _ _ ∙ ap (λ x. vec_items c.args.items.now ++ x) (noted g.K.Check.code.width g.K.Check.code.value c.args.offset _ _ _ _ _ b k.4 k.2 c.see.ensures)),
    )
