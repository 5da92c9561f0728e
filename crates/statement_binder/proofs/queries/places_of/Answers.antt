use Rattle.std.proofs.Common.{ap, ◌∙◌, ◌++◌, ℕ, [], ◌∷◌}
use Rattle.sql_tree.specs.declared.tree.ColRef.{ColRef}
use Rattle.sql_binding.specs.Sight.{place_of}
use Rattle.statement_binder.proofs.Growing.{value_more}
use Rattle.statement_binder.proofs.queries.places_of.Goals as goal

pub loop-column-preserved : goal.loop-column-preserved
loop-column-preserved c =
    let f = λ (r : ColRef). place_of c.args.seen.now c.args.last r in
    let out = c.loop-column.out.items in
    c.in_ok-push.ensures.items
    ∙ (ap (λ (v : ℕ). out ++ (v ∷ [])) (c.place_of.ensures)
    ∙ value_more ColRef (ℕ) f c.args.group.now c.loop-column.column-index c.column-item.result out c.loop-column-test.true c.column-item.is c.loop-column.invariant)
