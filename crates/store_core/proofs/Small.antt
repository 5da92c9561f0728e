-- How many projections there are, and which of them is behind.
use Rattle.std.proofs.Common.{◌≡◌, ◌≤◌, ◌*◌, ℕ, Bool, true, false, cond, List, [], ◌∷◌, length, map, filter, sym, subst, arith}
use Rattle.std.specs.Prelude.{Option, Some, None, option_and_then, IsSomeAnd}
use Rattle.std.specs.List.{All, slice_get}
use Rattle.std.proofs.lemmas.List.{length-append, length-map}
use Rattle.std.proofs.lemmas.List.Elements.{All-head, All-tail, All-weaker, filter_passes}
use Rattle.catalog_types.specs.declared.catalogue.Catalogue.{Catalogue}
use Rattle.catalog_types.specs.declared.catalogue.Projection.{Projection}
use Rattle.catalog_types.specs.declared.catalogue.Table as kept
use Rattle.catalog_types.specs.Parts.{IsTable}
use Rattle.catalog_types.specs.Valid.{IsValid}
use Rattle.db_model.specs.Database.{is_behind}
use Rattle.folder_model.specs.Projections.{shape_of}
use Rattle.mover_policy.specs.declared.first.Place.{Place}
use Rattle.mover_policy.specs.First.{all_projections, behind_in, first_in, projection_at}
use Rattle.table_store.specs.Drawing.{DrawsEntry, DrawsJob}
use Rattle.store_core.specs.Moving.{MovedBehind}
use Rattle.store_core.proofs.First.{found_in}

-- ---- how many there are

projections_most : (ts : List kept.Table) → All (λ t. length t.projections ≤ 16) ts → length (all_projections ts) ≤ 16 * length ts
projections_most [] all = omega arith
projections_most (t ∷ ts) all =
    let here = All-head (λ u. length u.projections ≤ 16) t ts all in
    let rest = projections_most ts (All-tail (λ u. length u.projections ≤ 16) t ts all) in
    omega (arith, here, rest, length-append t.projections (all_projections ts))

pub projections_fit : (c : Catalogue) → IsValid c → length (all_projections c.tables) ≤ 16384
projections_fit c valid =
    let most = projections_most c.tables (All-weaker (IsTable c) (λ t. length t.projections ≤ 16) (λ t is. is.projections_most) c.tables valid.tables) in
    let tables = valid.most in
    omega (arith, most, tables)

filtered : {X : Type 0} (p : X → Bool) (xs : List X) → length (filter p xs) ≤ length xs
filtered p [] = omega arith
filtered p (x ∷ xs) = by (p x) (filtered p xs)
  where
    by : (b : Bool) → length (filter p xs) ≤ length xs → length (cond b (x ∷ filter p xs) (filter p xs)) ≤ length (x ∷ xs)
    by true le = omega (arith, le)
    by false le = omega (arith, le)

pub behind_most : (last : ℕ) (ps : List Projection) → length (behind_in last ps) ≤ length ps
behind_most last ps = omega (arith, filtered (is_behind last) (map shape_of ps), length-map ps shape_of)

-- ---- the projection that was found is behind

pub moved_behind : (old new : Catalogue) (at : Place) (p : Projection) → projection_at old.tables at ≡ Some p → Some (shape_of p) ≡ first_in (behind_in old.last (all_projections old.tables)) → DrawsJob at.table at.place old new → MovedBehind old new
moved_behind old new at p there first draws = record { table = at.table; place = at.place; draws = in_tables (slice_get old.tables at.table) there draws }
  where
    is_late : is_behind old.last (shape_of p) ≡ true
    is_late = found_in (λ s. is_behind old.last s ≡ true) _ (behind_in old.last (all_projections old.tables)) (shape_of p) (filter_passes (is_behind old.last) (map shape_of (all_projections old.tables))) (sym first)

    in_table : (o : Option Projection) → o ≡ Some p → IsSomeAnd o (DrawsEntry at.table at.place old new) → IsSomeAnd o (λ q. (is_behind old.last (shape_of q) ≡ true) × DrawsEntry at.table at.place old new q)
    in_table None is drawn = absurd drawn
    in_table (Some q) is drawn = let same : p ≡ q = cc in (subst (λ (x : Projection). is_behind old.last (shape_of x) ≡ true) same is_late, drawn)

    in_tables : (o : Option kept.Table) → option_and_then (λ t. slice_get t.projections at.place) o ≡ Some p → IsSomeAnd o (λ t. IsSomeAnd (slice_get t.projections at.place) (DrawsEntry at.table at.place old new))
        → IsSomeAnd o (λ t. IsSomeAnd (slice_get t.projections at.place) (λ q. (is_behind old.last (shape_of q) ≡ true) × DrawsEntry at.table at.place old new q))
    in_tables None is drawn = absurd drawn
    in_tables (Some t) is drawn = in_table (slice_get t.projections at.place) is drawn
