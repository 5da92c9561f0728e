use Rattle.std.proofs.Common.{arith, rules, take, ◌∙◌}
use Rattle.exec_group.specs.Columns.{row_of}
use Rattle.sql_bound.specs.Outputs.{is_kept}
use Rattle.query_run.proofs.Kept.{kept_done, kept_more, kept_none, kept_rows_at}
use Rattle.query_run.proofs.filter.kept_places.Goals as goal

pub loop-e-init : goal.loop-e-init
loop-e-init c = kept_none c.args.columns.now c.args.places.now c.in_ok-kept.kept.items (search rules)

pub kept_by-requires-clause-rows : goal.kept_by-requires-clause-rows
kept_by-requires-clause-rows c =
    kept_rows_at c.args.columns.now (λ i. is_kept (take c.loop-e.e-index c.args.keep.now) (row_of c.args.columns.now i)) c.args.places.now c.as_slice.result.now (c.as_slice.ensures.value ∙ c.loop-e.invariant) c.requires.rows

pub loop-e-preserved : goal.loop-e-preserved
loop-e-preserved c =
    kept_more c.args.columns.now c.args.keep.now c.loop-e.e-index c.e-item.result c.args.places.now c.as_slice.result.now _ c.loop-e-test.true c.e-item.is (c.as_slice.ensures.value ∙ c.loop-e.invariant) c.in_ok-kept-2.ensures

pub returns : goal.returns
returns c = kept_done c.args.columns.now c.args.keep.now c.loop-e.e-index c.args.places.now c.loop-e.kept.items (omega (arith, c.loop-e-test.false)) c.loop-e.invariant
