-- The front of a row lies within bounds of its columns where the row does.
use Rattle.std.proofs.Common.{◌≡◌, ◌++◌, ◌<◌, Bool, true, List, [], ◌∷◌, length, refl, ap, ap₂, ◌∙◌, sym}
use Rattle.std.specs.Prelude.{◌&&◌}
use Rattle.std.specs.List.{All}
use Rattle.std.proofs.lemmas.List.{get_or_append_left}
use Rattle.std.proofs.lemmas.List.Elements.{All-head, All-tail}
use Rattle.col_value.specs.declared.value.Value.{Value}
use Rattle.col_value.specs.declared.value.Value.TheVariants as value
use Rattle.row_bounds.specs.declared.bound.Bound.{Bound}
use Rattle.row_bounds.specs.Bounds.{lies_in, within}

same_within : (bounds : List Bound) (front rest : List Value) → All (λ b. b.column < length front) bounds → within bounds (front ++ rest) ≡ within bounds front
same_within [] front rest own = refl
same_within (b ∷ bounds) front rest own =
    ap₂ (λ (p q : Bool). p && q) (ap (lies_in b) (get_or_append_left front rest value.Null b.column (All-head (λ x. x.column < length front) b bounds own)))
    (same_within bounds front rest (All-tail (λ x. x.column < length front) b bounds own))

pub front_within : (bounds : List Bound) (front rest : List Value) → All (λ b. b.column < length front) bounds → within bounds (front ++ rest) ≡ true → within bounds front ≡ true
front_within bounds front rest own is = sym (same_within bounds front rest own) ∙ is
