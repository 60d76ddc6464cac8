use Rattle.std.proofs.Common.{◌≡◌, vec_items, sym, ◌∙◌}
use Rattle.script.specs.Format.{within, read_script}
use Rattle.script.proofs.Reading.{judged}
use Rattle.script.proofs.read.read.Goals as goal
use Rattle.script.proofs.read.read.Goals.{After-limits_hold, then-not-limits_hold-via-then-not-limits_hold, then-not-limits_hold-via-else-not-limits_hold+then-not-limits_hold-2}

-- what is left to test once the letters are known
limits-left : (c : After-limits_hold) → read_script c.args.script.now ≡ within (record { controller = c.limits_of-controller.result; sled = c.limits_of-sled.result; calls = vec_items c.in_ok-calls.calls })
limits-left c = judged c.args.script.now _ c.is_shaped.ensures c.if-not-is_shaped.false c.from.result (c.from.ensures ∙ c.number_at-3.ensures) _ _ c.split_at.ensures.front c.split_at.ensures.back _ c.in_ok-calls.ensures _ _ c.number_at.ensures c.number_at-2.ensures _ _ c.limits_of-controller.ensures c.limits_of-sled.ensures

pub returns-then-not-limits_hold : goal.returns-then-not-limits_hold
returns-then-not-limits_hold c =
    let left = limits-left (goal.at.returns-then-not-limits_hold c).After-limits_hold in
    rw (c.into-then-not-limits_hold.ensures, c.refuses-then-not-limits_hold.ensures, left)
    (elim c.then-not-limits_hold.branch [
      | then-not-limits_hold-via-then-not-limits_hold w ↦ rw (sym c.limits_hold.ensures ∙ w.if-not-limits_hold.true)
      | then-not-limits_hold-via-else-not-limits_hold+then-not-limits_hold-2 w ↦
          rw (sym c.limits_hold.ensures ∙ w.if-not-limits_hold.false, sym w.limits_hold-else-not-limits_hold.ensures ∙ w.if-not-limits_hold-2.true)
    ])
