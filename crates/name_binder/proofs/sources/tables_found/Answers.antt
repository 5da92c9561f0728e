use Rattle.std.proofs.Common.{ap, ◌∙◌, ℕ, ◌+◌, ◌++◌, [], ◌∷◌, List, drop}
use Rattle.std.proofs.lemmas.List.{append_assoc}
use Rattle.col_value.specs.declared.column.Column.{Column}
use Rattle.name_binder.specs.Tables.{tables_found}
use Rattle.name_binder.proofs.Sights.{found_more}
use Rattle.name_binder.proofs.sources.tables_found.Goals as goal

pub loop-item-preserved : goal.loop-item-preserved
loop-item-preserved c =
    let found = c.args.found.now in
    let i = c.loop-item.item-index in
    let f = c.item-item.result in
    let out = c.loop-item.out.items in
    let rest = tables_found (drop (i + 1) found) in
    ap (λ (ts : List (ℕ × List Column)). ts ++ rest) c.in_ok-push_found.ensures
    ∙ (append_assoc out (tables_found (f ∷ [])) rest
    ∙ (ap (λ (ts : List (ℕ × List Column)). out ++ ts) (found_more found i f c.loop-item-test.true c.item-item.is) ∙ c.loop-item.invariant))
