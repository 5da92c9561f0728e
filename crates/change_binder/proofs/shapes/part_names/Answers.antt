use Rattle.std.proofs.Common.{ap, ◌∙◌, ◌++◌, ℕ, [], ◌∷◌, List}
use Rattle.sql_tree.specs.declared.statement.NewPart.{NewPart}
use Rattle.statement_binder.proofs.Growing.{value_more}
use Rattle.change_binder.proofs.shapes.part_names.Goals as goal

pub loop-part-preserved : goal.loop-part-preserved
loop-part-preserved c =
    let f = λ (p : NewPart). p.name in
    let x = c.part-item.result in
    let out = c.loop-part.out.items in
    c.in_ok-push.ensures.items
    ∙ (ap (λ (v : List ℕ). out ++ (v ∷ [])) (c.in_ok-copy.ensures)
    ∙ value_more NewPart (List ℕ) f c.args.parts.now c.loop-part.part-index x out c.loop-part-test.true c.part-item.is c.loop-part.invariant)
