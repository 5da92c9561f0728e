-- Facts of each element and each later one, where a part of the list is another.
use Rattle.std.proofs.Common.{◌≡◌, ℕ, List, [], ◌∷◌, ◌++◌, get_or, length, subst, sym, ◌∙◌, inl, inr}
use Rattle.std.specs.Prelude.{◌⊎◌}
use Rattle.std.specs.List.{All, Contains}
use Rattle.std.proofs.lemmas.List.Elements.{All-contains}
use Rattle.catalog_types.specs.Lists.{Pairwise}
use Rattle.catalog_types.proofs.Pairs.{all_append, pairs_append}

pub swapped : {X : Type 0} (R : X → X → Type 0) → ((x y : X) → R x y → R y x) → (front old new back : List X) → Pairwise R (front ++ (old ++ back)) → Pairwise R new
    → All (λ x. Contains old x ⊎ All (R x) (front ++ back)) new → Pairwise R (front ++ (new ++ back))
swapped {X} R back_too front old new back was once each =
    (pairs_append R front (new ++ back)).1 (
      a.0,
      (pairs_append R new back).1 (once, b.1, λ j e lt. (sides (get_or new j e) (each j e lt)).1),
      λ k d lt. (all_append (R (get_or front k d)) new back).1
          (λ j e below. back_too (get_or new j e) (get_or front k d) ((sides (get_or new j e) (each j e below)).0 k d lt), ((all_append (R (get_or front k d)) old back).0 (a.2 k d lt)).1),
    )
  where
    a : Pairwise R front × Pairwise R (old ++ back) × All (λ x. All (R x) (old ++ back)) front
    a = (pairs_append R front (old ++ back)).0 was

    b : Pairwise R old × Pairwise R back × All (λ x. All (R x) back) old
    b = (pairs_append R old back).0 a.1

    sides : (x : X) → Contains old x ⊎ All (R x) (front ++ back) → All (R x) front × All (R x) back
    sides x (inl there) = (
      λ k d lt. back_too (get_or front k d) x (All-contains (R (get_or front k d)) old x ((all_append (R (get_or front k d)) old back).0 (a.2 k d lt)).0 there),
      All-contains (λ y. All (R y) back) old x b.2 there,
    )
    sides x (inr all) = (all_append (R x) front back).0 all
