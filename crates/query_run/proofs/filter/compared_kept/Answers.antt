use Rattle.std.proofs.Common.{FitsSigned, ap, ap₂, rules, sym, w64, ◌∙◌}
use Rattle.std.proofs.lemmas.Int.{to_z-of_z}
use Rattle.col_value.specs.declared.wide.Wide.TheVariants as wide
use Rattle.exec_group.specs.Columns.{row_of}
use Rattle.sql_bound.specs.Values.{compared, of_row}
use Rattle.query_run.proofs.filter.compared_kept.Goals as goal

pub lane_kept-requires : goal.lane_kept-requires
lane_kept-requires c =
    let m = c.in-Some-number_of.m in
    let fits : FitsSigned w64 m = search rules in
    λ place.
    let s = of_row (row_of c.args.columns.now place) in
    c.requires.compares s ∙ ap₂ (compared c.args.cmp) (c.in-Some.ensures place) (c.in-Some-number_of.ensures s ∙ ap wide.Int (sym (to_z-of_z w64 m fits)))
