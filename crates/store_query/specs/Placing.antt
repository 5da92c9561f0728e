-- Where a FROM item's columns stand in a projection.
use Rattle.std.specs.Prelude.{◌≡◌, ℕ, ◌+◌, ◌^◌, ◌<◌, ◌==◌, true, List, length, Option, Some, None, is_some, slice_index_or}
use Rattle.std.specs.List.{All, list_any, slice_get}
use Rattle.std.specs.Option.{IfSome}
use Rattle.sql_bound.specs.declared.query.BoundQuery.{BoundQuery}
use Rattle.sql_bound.specs.Used.{is_used}

-- A place is that of the table's column `c`; the column has one where the query uses it and the projection has it, and only where the query uses
-- it, as far as a machine counts columns. The item's first column stands at `first` among those of all items.
pub record IsPlaceOf (q : BoundQuery) (first : ℕ) (ordinals : List ℕ) (c : ℕ) (place : Option ℕ) : Type 0 where
  pub own : IfSome place (λ i. slice_get ordinals i ≡ Some c)
  pub used : is_used q (first + c) ≡ true → list_any (λ o. o == c) ordinals ≡ true → is_some place ≡ true
  pub only : is_some place ≡ true → first + c < 2 ^ 64 → is_used q (first + c) ≡ true

-- the places of so many columns
pub record ArePlacesOf (q : BoundQuery) (first columns : ℕ) (ordinals : List ℕ) (places : List (Option ℕ)) : Type 0 where
  pub long : length places ≡ columns
  pub each : (c : ℕ) → c < columns → IsPlaceOf q first ordinals c (slice_index_or places c None)

-- all places are among so many
abbrev pub AreWithin : ℕ → List (Option ℕ) → Type 0
AreWithin count places = All (λ o. IfSome o (λ i. i < count)) places
