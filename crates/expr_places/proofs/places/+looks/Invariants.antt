use Rattle.std.proofs.Common.{◌≡◌, map, drop}
use Rattle.std.specs.List.{list_all}
use Rattle.expr_places.specs.Places.{is_between, looks_only, term_looks_only}
use Rattle.expr_places.proofs.places.+looks.Given as goal

abbrev pub invariant-parts_look_between-loop-part : goal.invariant-parts_look_between-loop-part
invariant-parts_look_between-loop-part l =
    list_all (λ b. b) (map (looks_only (is_between l.low l.high)) (drop l.part-index l.parts)) ≡ list_all (λ b. b) (map (looks_only (is_between l.low l.high)) l.parts)

abbrev pub invariant-terms_look_between-loop-term : goal.invariant-terms_look_between-loop-term
invariant-terms_look_between-loop-term l =
    list_all (λ b. b) (map (term_looks_only (is_between l.low l.high)) (drop l.term-index l.terms)) ≡ list_all (λ b. b) (map (term_looks_only (is_between l.low l.high)) l.terms)
