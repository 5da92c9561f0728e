-- Names of parts, and what stands in the list of one.
use Rattle.std.proofs.Common.{◌≡◌, ◌≢◌, false, ℕ, zero, suc, ◌<◌, List, [], ◌∷◌, get_or, length, map, sym, subst, arith}
use Rattle.std.specs.Prelude.{Option, Some, None, IfNone, is_some}
use Rattle.std.specs.List.{All, Contains, flat_map}
use Rattle.std.proofs.lemmas.List.Elements.{All-nil, All-cons, All-map, Contains-append_left, Contains-append_right}
use Rattle.catalog_types.specs.declared.catalogue.Table.{Table}
use Rattle.catalog_types.specs.Names.{names_of}
use Rattle.catalog_types.proofs.Free.{all_free}
use Rattle.catalog_laws.specs.Going.{IsFree}

pub flat_contains : {X Y : Type 0} (f : X → List Y) (xs : List X) (k : ℕ) (x : X) (y : Y) → k < length xs → get_or xs k x ≡ x → Contains (f x) y → Contains (flat_map f xs) y
flat_contains f [] k x y lt is has = absurd (omega (arith, lt))
flat_contains f (z ∷ xs) zero x y lt is has = Contains-append_left (f z) (flat_map f xs) y (subst (λ (w : _). Contains (f w) y) (sym is) has)
flat_contains f (z ∷ xs) (suc k) x y lt is has = Contains-append_right (f z) (flat_map f xs) y (flat_contains f xs k x y (omega (arith, lt)) is has)

-- ---- names

pub free_name : (tables : List Table) (n : List ℕ) (place : Option ℕ) (at : Option (ℕ × ℕ)) → is_some place ≡ false → is_some at ≡ false → IfNone place (All (λ t. t.name ≢ n) tables)
    → IfNone at (All (λ t. All (λ p. p.name ≢ n) t.projections) tables) → IsFree tables n
free_name tables n None None absent nowhere of_tables of_projections =
    (all_free n [] tables).0 (All-nil (λ p. n ≢ p.name), λ k d lt. (λ is. of_tables k d lt (sym is), λ j e below is. of_projections k d lt j e below (sym is)))
free_name tables n (Some k) at absent nowhere of_tables of_projections = absurd (cc)
free_name tables n None (Some k) absent nowhere of_tables of_projections = absurd (cc)

pub all_names : (tables : List Table) (t : Table) → IsFree tables t.name → All (λ p. IsFree tables p.name) t.projections → All (IsFree tables) (names_of t)
all_names tables t own others = All-cons (IsFree tables) t.name (map (λ p. p.name) t.projections) own (All-map (IsFree tables) (λ p. p.name) t.projections others)
