use Rattle.std.proofs.Common.{◌≡◌, drop, map}
use Rattle.std.specs.List.{list_all}
use Rattle.plan_choice.specs.Covering.{covers, covers_part}
use Rattle.plan_choice.proofs.covering.+covers.Given as goal

abbrev pub invariant-covers_all-loop-part : goal.invariant-covers_all-loop-part
invariant-covers_all-loop-part l = list_all (λ b. b) (map (covers l.item l.columns) (drop l.part-index l.parts)) ≡ list_all (λ b. b) (map (covers l.item l.columns) l.parts)

abbrev pub invariant-covers_terms-loop-term : goal.invariant-covers_terms-loop-term
invariant-covers_terms-loop-term l = list_all (λ b. b) (map (covers_part l.item l.columns) (drop l.term-index l.terms)) ≡ list_all (λ b. b) (map (covers_part l.item l.columns) l.terms)
