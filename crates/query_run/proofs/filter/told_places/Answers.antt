use Rattle.std.proofs.Common.{◌≡◌, arith, false, filter, length, rules, take, true, ◌∙◌}
use Rattle.exec_group.specs.Columns.{row_of}
use Rattle.sql_bound.specs.Outputs.{is_kept}
use Rattle.query_run.specs.Ready.{is_told}
use Rattle.query_run.proofs.Kept.{kept_none, kept_rows_at, told_done, told_more, told_not}
use Rattle.query_run.proofs.filter.told_places.Goals as goal

pub loop-e-init : goal.loop-e-init
loop-e-init c = kept_none c.args.columns.now c.args.places.now c.in_ok-kept.kept.items (search rules)

pub kept_by-requires-clause-rows : goal.kept_by-requires-clause-rows
kept_by-requires-clause-rows c =
    let columns = c.args.columns.now in
    kept_rows_at columns (λ i. is_kept (filter (is_told (length columns)) (take c.loop-e.e-index c.args.keep.now)) (row_of columns i)) c.args.places.now c.as_slice.result.now (c.as_slice.ensures.value ∙ c.loop-e.invariant) c.requires.rows

pub loop-e-preserved-then-not-looks_between : goal.loop-e-preserved-then-not-looks_between
loop-e-preserved-then-not-looks_between c =
    let columns = c.args.columns.now in
    let misses : is_told (length columns) c.e-item.result ≡ false = search rules in
    told_not (is_told (length columns)) columns c.args.keep.now c.loop-e.e-index c.e-item.result c.args.places.now c.loop-e.kept.items c.loop-e-test.true c.e-item.is c.loop-e.invariant misses

pub loop-e-preserved : goal.loop-e-preserved
loop-e-preserved c =
    let columns = c.args.columns.now in
    let tells : is_told (length columns) c.e-item.result ≡ true = search rules in
    told_more (is_told (length columns)) columns c.args.keep.now c.loop-e.e-index c.e-item.result c.args.places.now c.as_slice.result.now c.loop-e-test.true c.e-item.is (c.as_slice.ensures.value ∙ c.loop-e.invariant) _ tells c.in_ok-kept-2.ensures

pub returns : goal.returns
returns c = told_done (is_told (length c.args.columns.now)) c.args.columns.now c.args.keep.now c.loop-e.e-index c.args.places.now c.loop-e.kept.items (omega (arith, c.loop-e-test.false)) c.loop-e.invariant
