use Rattle.std.proofs.Common.{◌≡◌, ◌<◌, ◌∙◌, true, false, length, rules}
use Rattle.std.specs.Prelude.{◌&&◌, option_and_then}
use Rattle.std.specs.List.{slice_get}
use Rattle.plan_choice.specs.Choosing.{is_candidate, is_better}
use Rattle.plan_choice.proofs.Chosen.{taken_or_not}
use Rattle.plan_choice.proofs.choosing.narrowest.Goals as goal
use Rattle.plan_choice.proofs.choosing.narrowest.Goals.{then-is_taken, else-is_taken}

pub loop-i-preserved : goal.loop-i-preserved
loop-i-preserved c =
    let ps = c.args.projections.now in
    let test = is_candidate c.args.q.now c.args.item c.args.well in
    let p = c.index-projections-i.result in
    let lt : c.loop-i.i < length ps = search rules in
    elim c.if-is_taken.branch [
      | then-is_taken w ↦
          let told : true ≡ (test p && is_better (option_and_then (slice_get ps) c.loop-i.best) p) = search rules in
          let step = taken_or_not test ps c.loop-i.best c.loop-i.i p true lt c.index-projections-i.is told ∙ c.loop-i.invariant.best in
          record { best = search (rules, step); within = search (rules, lt) }
      | else-is_taken w ↦
          let told : false ≡ (test p && is_better (option_and_then (slice_get ps) c.loop-i.best) p) = search rules in
          let step = taken_or_not test ps c.loop-i.best c.loop-i.i p false lt c.index-projections-i.is told ∙ c.loop-i.invariant.best in
          record { best = search (rules, step); within = search rules }
    ]
