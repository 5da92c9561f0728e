use Rattle.std.proofs.Common.{◌≡◌, true, map, take}
use Rattle.std.specs.List.{All}
use Rattle.sql_bound.specs.Bounds.{bound_of_value, is_narrow}
use Rattle.sql_bound.specs.Values.{value_of}
use Rattle.expr_value.specs.Terms.{term_value, measure_of_term, added, multiplied, wrapped, all_hold, some_hold}
use Rattle.expr_value.proofs.value.+value.Given as goal

abbrev pub invariant-sum-loop-term : goal.invariant-sum-loop-term
invariant-sum-loop-term l = record {
  narrow : All (λ t. (measure_of_term (map bound_of_value l.sight.aggs) t).1 ≡ true) l.terms;
  so_far : l.so_far ≡ added (map (term_value l.sight) (take l.term-index l.terms));
}

abbrev pub invariant-product-loop-part : goal.invariant-product-loop-part
invariant-product-loop-part l = record {
  narrow : All (λ e. is_narrow (map bound_of_value l.sight.aggs) e ≡ true) l.parts;
  so_far : l.so_far ≡ wrapped (multiplied (map (value_of l.sight) (take l.part-index l.parts)));
}

abbrev pub invariant-all_hold-loop-part : goal.invariant-all_hold-loop-part
invariant-all_hold-loop-part l = record {
  narrow : All (λ e. is_narrow (map bound_of_value l.sight.aggs) e ≡ true) l.parts;
  so_far : l.so_far ≡ all_hold (map (value_of l.sight) (take l.part-index l.parts));
}

abbrev pub invariant-some_hold-loop-part : goal.invariant-some_hold-loop-part
invariant-some_hold-loop-part l = record {
  narrow : All (λ e. is_narrow (map bound_of_value l.sight.aggs) e ≡ true) l.parts;
  so_far : l.so_far ≡ some_hold (map (value_of l.sight) (take l.part-index l.parts));
}
