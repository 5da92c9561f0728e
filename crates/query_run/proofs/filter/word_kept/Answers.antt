use Rattle.std.proofs.Common.{Bool, List, ap, ap₂, sym, ◌∙◌}
use Rattle.exec_group.specs.Columns.{row_of}
use Rattle.sql_bound.specs.Values.{compared, is_true, of_row}
use Rattle.query_run.specs.Outputs.{is_marked}
use Rattle.query_run.proofs.Kept.{word_told}
use Rattle.query_run.proofs.filter.word_kept.Goals as goal

pub marked_kept-requires : goal.marked_kept-requires
marked_kept-requires c = λ place.
    let s = of_row (row_of c.args.columns.now place) in
    ap is_true (c.requires.compares s ∙ ap₂ (compared c.args.cmp) (c.in-Some.ensures place) (c.in-Some-literal_of.ensures s))
    ∙ word_told c.args.cmp c.in-Some-literal_of.literal.now c.in-Some.words.now c.in-Some.codes.now place
    ∙ ap (λ (ms : List Bool). is_marked ms c.in-Some.codes.now place) (sym (c.as_slice.ensures.value ∙ c.in_ok-marks.ensures))
