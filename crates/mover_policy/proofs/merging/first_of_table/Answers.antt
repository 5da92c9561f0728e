use Rattle.std.proofs.Common.{true, false, refl, rules}
use Rattle.std.specs.Prelude.{Some}
use Rattle.mover_policy.proofs.Next.{step}
use Rattle.mover_policy.proofs.Taken.{place_of}
use Rattle.mover_policy.proofs.merging.first_of_table.Goals as goal
use Rattle.mover_policy.proofs.merging.first_of_table.Goals.{then-is_taken, else-is_taken}

pub loop-place-preserved : goal.loop-place-preserved
loop-place-preserved c =
    λ seen first.
    step c.args.tables.now seen c.args.projections.now (place_of c.args.table c.loop-place.place) c.loop-place.best c.if-is_taken.best c.index-projections-place.result c.is_taken.result c.requires c.loop-place-test.true
    c.index-projections-place.is c.is_taken.ensures.yes c.is_taken.ensures.no (elim c.if-is_taken.branch [
      | then-is_taken w ↦ search rules
      | else-is_taken w ↦ search rules
    ]) (c.loop-place.invariant seen first)
