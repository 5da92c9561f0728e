use Rattle.std.proofs.Common.{◌≡◌, map, drop}
use Rattle.std.specs.List.{list_all}
use Rattle.expr_places.specs.Places.{is_other, looks_only, term_looks_only}
use Rattle.expr_places.proofs.used.+away.Given as goal

abbrev pub invariant-parts_look_away-loop-part : goal.invariant-parts_look_away-loop-part
invariant-parts_look_away-loop-part l =
    list_all (λ b. b) (map (looks_only (is_other l.column)) (drop l.part-index l.parts)) ≡ list_all (λ b. b) (map (looks_only (is_other l.column)) l.parts)

abbrev pub invariant-terms_look_away-loop-term : goal.invariant-terms_look_away-loop-term
invariant-terms_look_away-loop-term l =
    list_all (λ b. b) (map (term_looks_only (is_other l.column)) (drop l.term-index l.terms)) ≡ list_all (λ b. b) (map (term_looks_only (is_other l.column)) l.terms)
