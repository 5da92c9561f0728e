use Rattle.std.proofs.Common.{◌≡◌, map, drop}
use Rattle.std.specs.List.{list_all}
use Rattle.sql_bound.specs.declared.expr.Kind.{Kind}
use Rattle.sql_bound.specs.Kinds.{is_of, kind_of}
use Rattle.expr_check.specs.Terms.{term_kind_of}
use Rattle.expr_check.proofs.kinds.+kind.Given as goal

abbrev pub invariant-are_numbers-loop-term : goal.invariant-are_numbers-loop-term
invariant-are_numbers-loop-term l =
    list_all (is_of Kind.Number) (map (term_kind_of l.places) (drop l.term-index l.terms)) ≡ list_all (is_of Kind.Number) (map (term_kind_of l.places) l.terms)

abbrev pub invariant-are_of-loop-part : goal.invariant-are_of-loop-part
invariant-are_of-loop-part l =
    list_all (is_of l.want) (map (kind_of l.places) (drop l.part-index l.parts)) ≡ list_all (is_of l.want) (map (kind_of l.places) l.parts)
