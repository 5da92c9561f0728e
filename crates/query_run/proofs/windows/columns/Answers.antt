use Rattle.std.proofs.Common.{◌≡◌, ◌≤◌, ◌<◌, ◌∙◌, Err, ap, get_or, length, rules}
use Rattle.std.specs.Prelude.{zip}
use Rattle.query_run.specs.Windows.{column_of}
use Rattle.query_run.proofs.Columns.{all_fit, fit_more, mapped_all, mapped_more, one_great, pair_at, pair_inside, pairs_gone, pairs_past}
use Rattle.query_run.proofs.windows.columns.Goals as goal

pub returns-in_default-clause-columns : goal.returns-in_default-clause-columns
returns-in_default-clause-columns c =
    let q = c.args.query.now in
    let past : length q.aggs ≤ c.loop-i.i = search rules in
    mapped_all (column_of c.args.rows.now) (zip q.windows q.aggs) c.loop-i.i c.loop-i.out.items (pairs_gone q.windows q.aggs c.loop-i.i past) c.loop-i.invariant.out

pub returns-in_default-clause-in_range : goal.returns-in_default-clause-in_range
returns-in_default-clause-in_range c =
    let q = c.args.query.now in
    let past : length q.aggs ≤ c.loop-i.i = search rules in
    all_fit q c.args.rows.now c.loop-i.i (pairs_gone q.windows q.aggs c.loop-i.i past) c.loop-i.invariant.fit

pub returns-in-Err-SumOutOfRange-clause-great : goal.returns-in-Err-SumOutOfRange-clause-great
returns-in-Err-SumOutOfRange-clause-great c = λ failed.
    let q = c.args.query.now in
    let i = c.loop-i.i in
    let w = c.window-item.result in
    let a = c.in-Some.aggregate.now in
    let h : i < length q.windows = search rules in
    let is : w ≡ get_or q.windows i w = search rules in
    let g : i < length q.aggs = search rules in
    let are : a ≡ get_or q.aggs i a = search rules in
    one_great q c.args.rows.now i w a (pair_inside q.windows q.aggs i h g) (pair_at q.windows q.aggs i w a h is g are) (c.in-Err-SumOutOfRange.ensures.great (ap Err c.in-Err-SumOutOfRange.field-0-is))

pub loop-i-preserved : goal.loop-i-preserved
loop-i-preserved c =
    let q = c.args.query.now in
    let rows = c.args.rows.now in
    let i = c.loop-i.i in
    let w = c.window-item.result in
    let a = c.in-Some.aggregate.now in
    let h : i < length q.windows = search rules in
    let is : w ≡ get_or q.windows i w = search rules in
    let g : i < length q.aggs = search rules in
    let are : a ≡ get_or q.aggs i a = search rules in
    let inside = pair_inside q.windows q.aggs i h g in
    let here = pair_at q.windows q.aggs i w a h is g are in record {
      out =
          mapped_more (column_of rows) (zip q.windows q.aggs) i (w, a) c.new.result c.loop-i.out.items c.push.new.self.items inside here
          (c.new.ensures ∙ c.in-Ok.ensures.values) c.in_ok-push-in-Ok.ensures.items c.loop-i.invariant.out;
      fit = fit_more rows (zip q.windows q.aggs) i (w, a) inside here c.in-Ok.ensures.in_range c.loop-i.invariant.fit;
    }

pub returns-clause-columns : goal.returns-clause-columns
returns-clause-columns c =
    let q = c.args.query.now in
    let past : length q.windows ≤ c.loop-i.i = search rules in
    mapped_all (column_of c.args.rows.now) (zip q.windows q.aggs) c.loop-i.i c.loop-i.out.items (pairs_past q.windows q.aggs c.loop-i.i past) c.loop-i.invariant.out

pub returns-clause-in_range : goal.returns-clause-in_range
returns-clause-in_range c =
    let q = c.args.query.now in
    let past : length q.windows ≤ c.loop-i.i = search rules in
    all_fit q c.args.rows.now c.loop-i.i (pairs_past q.windows q.aggs c.loop-i.i past) c.loop-i.invariant.fit
