-- Rows that are, for a query, those of its FROM items.
use Rattle.std.specs.Prelude.{◌≡◌, ℕ, ◌+◌, ◌<◌, true, List, [], ◌∷◌, length, map, Option, Some, None, is_some, slice_index_or}
use Rattle.std.specs.List.{All, slice_get}
use Rattle.std.specs.Option.{IfSome, option_map_or}
use Rattle.common_laws.specs.Bags.{SameBag}
use Rattle.col_value.specs.declared.value.Value.{Value}
use Rattle.col_value.specs.declared.value.Value.TheVariants as value
use Rattle.sql_bound.specs.declared.query.FromItem.{FromItem}
use Rattle.sql_bound.specs.declared.query.BoundQuery.{BoundQuery}
use Rattle.sql_bound.specs.Used.{blanked, is_used}

-- Of a FROM item's columns, of which there are so many and the first has this place, some rows have in those that the query uses what
-- others have, whatever the order of the rows.
pub record AreSeen (q : BoundQuery) (first columns : ℕ) (seen rows : List (List Value)) : Type 0 where
  pub wide : All (λ row. length row ≡ columns) seen
  pub width : All (λ row. length row ≡ columns) rows
  pub same : SameBag (map (blanked (is_used q) first) seen) (map (blanked (is_used q) first) rows)

-- so it is of each FROM item; their columns stand one behind the other
abbrev pub AreSeenFrom : BoundQuery → ℕ → List FromItem → List (List (List Value)) → List (List (List Value)) → Type 0
AreSeenFrom q first [] [] [] = Unit {0}
AreSeenFrom q first [] [] (rows ∷ more) = ⊥
AreSeenFrom q first [] (seen ∷ others) more = ⊥
AreSeenFrom q first (f ∷ fs) [] more = ⊥
AreSeenFrom q first (f ∷ fs) (seen ∷ others) [] = ⊥
AreSeenFrom q first (f ∷ fs) (seen ∷ others) (rows ∷ more) = AreSeen q first f.columns seen rows × AreSeenFrom q (first + f.columns) fs others more

-- where a table's columns stand in a projection: a column that isn't needed has no place
abbrev pub value_at : List Value → Option ℕ → Value
value_at row place = option_map_or (λ i. slice_index_or row i value.Null) place value.Null

-- a row of the table's columns, made of a projection's row; NULL in those that aren't needed
abbrev pub placed : List (Option ℕ) → List Value → List Value
placed places row = map (value_at row) places

-- these are places in a projection of columns of its table, and each used column has one
pub record ArePlaces (q : BoundQuery) (first columns : ℕ) (ordinals : List ℕ) (places : List (Option ℕ)) : Type 0 where
  pub long : length places ≡ columns
  pub own : (c : ℕ) → c < columns → IfSome (slice_index_or places c None) (λ i. slice_get ordinals i ≡ Some c)
  pub used : (c : ℕ) → c < columns → is_used q (first + c) ≡ true → is_some (slice_index_or places c None) ≡ true
