use Rattle.std.proofs.Common.{◌∙◌, ◌<◌, ◌++◌, ◌∷◌, [], length, take, sym, ap, arith}
use Rattle.std.proofs.lemmas.List.{take_more}
use Rattle.col_value.specs.declared.value.Value.{Value}
use Rattle.proj_store.proofs.Candidacy.{row_more}
use Rattle.proj_store.proofs.rows.are_at.Goals as goal

pub loop-j-preserved : goal.loop-j-preserved
loop-j-preserved c =
    let row = c.args.row.now in
    let j = c.loop-j.j in
    let in_columns : j < length c.args.columns.now = omega (arith, c.loop-j-test.true, c.if-row-columns.false) in
    take_more row j c.index-row-j.result c.loop-j-test.true
    ∙ ap (λ (v : Value). take j row ++ v ∷ []) (sym c.index-row-j.is)
    ∙ row_more c.args.columns.now c.args.i j c.index-columns-j.result (take j row) c.index-row-j.result c.loop-j.invariant in_columns c.index-columns-j.is (c.is_at.ensures c.if-not-is_at.false)
