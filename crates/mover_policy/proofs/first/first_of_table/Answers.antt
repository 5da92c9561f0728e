use Rattle.std.proofs.Common.{◌≡◌, ◌∙◌, true, false, refl, rules}
use Rattle.std.specs.Prelude.{◌&&◌, Some, option_and_then}
use Rattle.db_model.specs.Database.{is_behind}
use Rattle.folder_model.specs.Projections.{shape_of}
use Rattle.mover_policy.specs.First.{is_first, projection_at}
use Rattle.mover_policy.proofs.Taken.{place_of, step, still_there}
use Rattle.mover_policy.proofs.first.first_of_table.Goals as goal
use Rattle.mover_policy.proofs.first.first_of_table.Goals.{then-is_taken, else-is_taken}

pub loop-place-preserved : goal.loop-place-preserved
loop-place-preserved c =
    let tables = c.args.tables.now in
    let ps = c.args.projections.now in
    let at = place_of c.args.table c.loop-place.place in
    let p = c.index-projections-place.result in
    let best = c.loop-place.best in
    elim c.if-is_taken.branch [
      | then-is_taken w ↦
          let told : true ≡ (is_behind c.args.last (shape_of p) && is_first p (option_and_then (projection_at tables) best)) = search rules in
          let first = step tables c.args.last ps at best (Some at) p true c.requires c.loop-place-test.true c.index-projections-place.is told refl ∙ c.loop-place.invariant.first in
          let there = still_there tables at ps p c.requires c.loop-place-test.true c.index-projections-place.is in
          record { first = search (rules, first); there = search (rules, there) }
      | else-is_taken w ↦
          let told : false ≡ (is_behind c.args.last (shape_of p) && is_first p (option_and_then (projection_at tables) best)) = search rules in
          let first = step tables c.args.last ps at best best p false c.requires c.loop-place-test.true c.index-projections-place.is told refl ∙ c.loop-place.invariant.first in
          record { first = search (rules, first); there = search rules }
    ]
