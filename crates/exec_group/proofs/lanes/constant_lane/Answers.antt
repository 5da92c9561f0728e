use Rattle.std.proofs.Common.{◌≡◌, ap, length, map, replicate, rules, Some, ◌∙◌}
use Rattle.sql_bound.specs.Values.{number_in, of_row, value_of}
use Rattle.exec_group.specs.Columns.{row_of}
use Rattle.exec_group.proofs.Spans.{repeated_lane}
use Rattle.exec_group.proofs.lanes.constant_lane.Goals as goal

pub returns : goal.returns
returns c =
    let all : c.in_ok-repeated.field-0.items ≡ replicate (length c.args.places.now) c.args.n = search rules in
    ap (map Some) all ∙ repeated_lane (λ i. number_in (value_of (of_row (row_of c.args.columns.now i)) c.args.e.now)) c.args.places.now c.args.n (λ p. ap number_in (c.requires p))
