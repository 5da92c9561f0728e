-- Which merge comes next.
use Rattle.std.specs.Prelude.{◌≡◌, ◌<◌, ◌==◌, ℕ, nat_le, Bool, true, false, List, filter, length, Option, MatchOption, Some}
use Rattle.std.specs.List.{All}
use Rattle.std.specs.Option.{option_map_or}
use Rattle.std.specs.Ordering.{is_lt, nat_cmp}
use Rattle.std.specs.Cmp.Lexicographic.{slice_cmp}
use Rattle.catalog_types.specs.declared.catalogue.Container.{Container}
use Rattle.catalog_types.specs.declared.catalogue.Projection.{Projection}
use Rattle.catalog_types.specs.declared.catalogue.Table as kept
use Rattle.mover_policy.specs.declared.first.Place.{Place}
use Rattle.mover_policy.specs.declared.merging.Merge.{Merge}
use Rattle.mover_policy.specs.First.{all_projections, projection_at}

abbrev pub is_of_level : ℕ → Container → Bool
is_of_level level k = k.level == level

-- four of these containers are of a level
abbrev pub has_four : List Container → ℕ → Bool
has_four ks level = nat_le 4 (length (filter (is_of_level level) ks))

-- The lowest level of which there are four; a container stands for four times as many moveouts as one a level below, so none is of level 32.
abbrev pub IsLowest : List Container → ℕ → Type 0
IsLowest ks level = (level < 32) × (has_four ks level ≡ true) × ((lower : ℕ) → lower < level → has_four ks lower ≡ false)

abbrev pub NoLevel : List Container → Type 0
NoLevel ks = (level : ℕ) → level < 32 → has_four ks level ≡ false

-- a projection is up to date and has four containers of some level
abbrev pub IsDue : Projection → Type 0
IsDue p = (p.fresh ≡ true) × ((level : ℕ) × (level < 32) × (has_four p.containers level ≡ true))

abbrev pub is_named_first : Projection → Projection → Bool
is_named_first p other = is_lt (slice_cmp nat_cmp p.name other.name)

-- a projection's name comes before that of another one, or there is no other
abbrev pub comes_first : Projection → Option Projection → Bool
comes_first p other = option_map_or (λ o. is_named_first p o) other true

-- the projection at a place is due, and none of these that is due has a lesser name
pub record IsFirstDue (tables : List kept.Table) (ps : List Projection) (at : Place) : Type 0 where
  pub projection : Projection
  pub there : projection_at tables at ≡ Some projection
  pub due : IsDue projection
  pub first : All (λ p. IsDue p → is_named_first p projection ≡ false) ps

-- the first of these that are due; none is where none is due
abbrev pub IsBest : List kept.Table → List Projection → Option Place → Type 0
IsBest tables ps best = MatchOption best (All (λ p. IsDue p → ⊥) ps) (IsFirstDue tables ps)

-- A merge that comes next: of the projections that are due the one of the least name, on its lowest level of which it has four containers.
pub record IsNext (tables : List kept.Table) (m : Merge) : Type 0 where
  pub first : IsFirstDue tables (all_projections tables) m.at
  pub level : IsLowest first.projection.containers m.level
