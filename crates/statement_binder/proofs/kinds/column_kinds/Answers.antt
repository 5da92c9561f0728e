use Rattle.std.proofs.Common.{ap, ◌∙◌, ◌++◌, [], ◌∷◌}
use Rattle.sql_bound.specs.declared.expr.Kind.{Kind}
use Rattle.sql_bound.specs.Kinds.{kind_of_column}
use Rattle.sql_binding.specs.Sight.{Seen}
use Rattle.statement_binder.proofs.Growing.{value_more}
use Rattle.statement_binder.proofs.kinds.column_kinds.Goals as goal

pub loop-column-preserved : goal.loop-column-preserved
loop-column-preserved c =
    let f = λ (s : Seen). kind_of_column s.column.kind in
    let out = c.loop-column.out.items in
    c.in_ok-push.ensures.items
    ∙ (ap (λ (v : Kind). out ++ (v ∷ [])) (c.kind_of_column.ensures ∙ ap kind_of_column c.kind.ensures)
    ∙ value_more Seen (Kind) f c.args.seen.now c.loop-column.column-index c.column-item.result out c.loop-column-test.true c.column-item.is c.loop-column.invariant)
