use Rattle.std.proofs.Common.{◌≡◌, map, take, drop}
use Rattle.sql_bound.specs.Bounds.{measure, total, product, bounds, all_narrow}
use Rattle.expr_check.specs.Capped.{capped}
use Rattle.expr_check.specs.Terms.{term_measure_of}
use Rattle.expr_check.proofs.narrow.+measure.Given as goal

abbrev pub invariant-sum_of-loop-term : goal.invariant-sum_of-loop-term
invariant-sum_of-loop-term l = record {
  bound : l.bound ≡ capped (total (bounds (map (term_measure_of l.aggs) (take l.term-index l.terms))));
  narrow : l.narrow ≡ all_narrow (map (term_measure_of l.aggs) (take l.term-index l.terms));
}

abbrev pub invariant-product_of-loop-part : goal.invariant-product_of-loop-part
invariant-product_of-loop-part l = record {
  bound : l.bound ≡ capped (product (bounds (map (measure l.aggs) (take l.part-index l.parts))));
  narrow : l.narrow ≡ all_narrow (map (measure l.aggs) (take l.part-index l.parts));
}

abbrev pub invariant-are_narrow-loop-part : goal.invariant-are_narrow-loop-part
invariant-are_narrow-loop-part l =
    all_narrow (map (measure l.aggs) (drop l.part-index l.parts)) ≡ all_narrow (map (measure l.aggs) l.parts)
