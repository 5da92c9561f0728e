use Rattle.std.proofs.Common.{◌≡◌, [], map, take}
use Rattle.sql_bound.specs.Bounds.{bound_of, total, product}
use Rattle.expr_check.specs.Capped.{capped}
use Rattle.statement_binder.specs.Measures.{term_bound_of}
use Rattle.statement_binder.proofs.bounds.+bound.Given as goal

abbrev pub invariant-sum_of-loop-term : goal.invariant-sum_of-loop-term
invariant-sum_of-loop-term l = l.sum ≡ capped (total (map term_bound_of (take l.term-index l.terms)))

abbrev pub invariant-product_of-loop-part : goal.invariant-product_of-loop-part
invariant-product_of-loop-part l = l.product ≡ capped (product (map (bound_of []) (take l.part-index l.parts)))
