use Rattle.std.proofs.Common.{refl, ◌∙◌, rules}
use Rattle.link.specs.declared.parts.Parts.{Parts}
use Rattle.script.specs.Answers.{meant}
use Rattle.rehearsal.proofs.Scripts.{has_shape, went_through, stops}
use Rattle.rehearsal.proofs.rehearse.rehearse.Goals as goal

pub returns-in_err-payloads : goal.returns-in_err-payloads
returns-in_err-payloads g c = let shape = has_shape c.args.script.now _ c.in_ok-controller.ensures in search rules

pub returns-in_err-run : goal.returns-in_err-run
returns-in_err-run g c =
    let parts : Parts g.row.A.Denot g.row.B.Denot g.row.K.Denot = record { controller = c.in_ok-end_parts.field-0; sled = c.in_ok-end_parts-2.field-0; check = c.args.check } in
    stops g.K.Check.code g.A.Line g.B.Line c.args.lines c.args.script.now (meant c.in_ok-controller.field-0) c.in_ok-controller.ensures parts c.in_ok-end_parts.ensures c.in_ok-end_parts-2.ensures
    c.in_err-run.field-0.0 _ _ _ _ c.in_err-run.ensures _ c.from_residual-in_err-run.ensures.1

pub returns : goal.returns
returns g c =
    let parts : Parts g.row.A.Denot g.row.B.Denot g.row.K.Denot = record { controller = c.in_ok-end_parts.field-0; sled = c.in_ok-end_parts-2.field-0; check = c.args.check } in
    went_through g.K.Check.code g.A.Line g.B.Line c.args.lines c.args.script.now (meant c.in_ok-controller.field-0) c.in_ok-controller.ensures parts c.in_ok-end_parts.ensures c.in_ok-end_parts-2.ensures
    c.in_ok-run.run' _ _ _ _ c.in_ok-run.ensures c.as_slice.ensures.value (c.as_slice-2.ensures.len ∙ c.in_ok-payloads.ensures.0) (λ i h. rw c.as_slice-2.ensures.value (c.in_ok-payloads.ensures.1 i h)) refl
