-- What is collected of the tuples that are kept.
use Rattle.std.specs.Prelude.{◌≡◌, ℕ, ℤ, ◌≤◌, ◌<◌, ◌++◌, Bool, true, false, List, [], ◌∷◌, filter, length, map, Option, Some, None, slice_index_or}
use Rattle.std.specs.List.{All}
use Rattle.std.specs.Option.{IfSome}
use Rattle.block_codec.specs.Held.{number_value}
use Rattle.col_value.specs.Order.{IsRow, widened}
use Rattle.col_value.specs.declared.value.Value.{Value}
use Rattle.col_value.specs.declared.value.Value.TheVariants as value
use Rattle.col_value.specs.declared.wide.Wide.{Wide}
use Rattle.col_value.specs.declared.wide.Wide.TheVariants as wide
use Rattle.exec_group.specs.Columns.{row_of}
use Rattle.exec_group.specs.Groups.{HoldsGroups}
use Rattle.query_laws.specs.Scopes.{is_shown}
use Rattle.query_order.specs.Enough.{count_up_to, IsEnough, AreFew}
use Rattle.sql_bound.specs.declared.query.BoundQuery.{BoundQuery}
use Rattle.sql_bound.specs.Bounds.{column_bound}
use Rattle.sql_bound.specs.Outputs.{kept, seen_rows}
use Rattle.sql_bound.specs.Values.{Scope, of_row, value_of}
use Rattle.query_run.specs.declared.collected.Collected.{Collected}

-- the items' values
abbrev pub items_in : BoundQuery → Scope → List Wide
items_in q s = map (value_of s) q.items

-- as many of the rows as are printed stand before this one or beside it
abbrev pub IsBar : List (ℕ × Bool) → Option ℕ → List (List Wide) → List Wide → Type 0
IsBar order None rows bar = ⊥
IsBar order (Some n) rows bar = n ≤ count_up_to order bar rows

-- the query is over tuples, without windows or with some
pub record IsPlain (q : BoundQuery) : Type 0 where
  pub rows : q.grouped ≡ false
  pub alone : q.windows ≡ []

pub record IsWindowed (q : BoundQuery) : Type 0 where
  pub rows : q.grouped ≡ false
  pub windows : length q.windows ≡ 0 → ⊥

-- Output rows of some tuples, enough for what is printed of all and few where there is a limit, or else the tuples as windows see them, or
-- the groups of the tuples; and how many tuples there are.
pub record HoldsOutput (q : BoundQuery) (tuples : List (List Value)) (c : Collected) : Type 0 where
  pub taken : c.taken ≡ length tuples
  pub few : c.taken < column_bound
  pub seen : IsWindowed q → c.seen.items ≡ seen_rows q tuples
  pub rows : IsPlain q → IsEnough q.order q.limit (map (items_in q) (map of_row tuples)) c.rows.items
  pub cut : AreFew q.limit c.rows.items
  pub bar : IfSome c.bar (IsBar q.order q.limit c.rows.items)
  pub groups : q.grouped ≡ true → HoldsGroups q tuples c.groups

-- rows that were enough are enough with an output row more, and few; what was the bar is it, or another row
pub record IsAdded (q : BoundQuery) (row : List Wide) (old new : List (List Wide)) (bar next : Option (List Wide)) : Type 0 where
  pub enough : (all : List (List Wide)) → IsEnough q.order q.limit all old → IsEnough q.order q.limit (all ++ row ∷ []) new
  pub few : AreFew q.limit new
  pub barred : IfSome bar (IsBar q.order q.limit old) → IfSome next (IsBar q.order q.limit new)

-- what is collected of the tuples that the conditions keep, where the FROM items have these rows of tables
pub record HasCollected (q : BoundQuery) (inputs : List (List (List Value))) (c : Collected) : Type 0 where
  pub rows : All (All IsRow) inputs
  pub held : HoldsOutput q (kept q inputs) c

-- a group as its expressions see it
abbrev pub scope_of : List Value → List Wide → Scope
scope_of keys aggs = record { row = []; keys = keys; aggs = aggs }

-- groups as their expressions see them, of their keys and their aggregates
abbrev pub scopes_of : List (List Value) → List (List Wide) → List Scope
scopes_of [] aggs = []
scopes_of (k ∷ keys) [] = []
scopes_of (k ∷ keys) (a ∷ aggs) = scope_of k a ∷ scopes_of keys aggs

-- the items of the groups that HAVING keeps
abbrev pub shown : BoundQuery → List Scope → List (List Wide)
shown q scopes = map (items_in q) (filter (is_shown q) scopes)

-- these are the numbers of a lane with the values of an output column in the rows of columns
abbrev pub IsLaneOf : BoundQuery → List (Option (List Value)) → ℕ → List ℤ → Type 0
IsLaneOf q columns column numbers = (place : ℕ) → slice_index_or (items_in q (of_row (row_of columns place))) column wide.Null ≡ widened (slice_index_or (map number_value numbers) place value.Null)

-- whether the word of the value at a place is marked
abbrev pub is_marked : List Bool → List ℕ → ℕ → Bool
is_marked marks codes place = slice_index_or (map (λ p. slice_index_or marks p false) codes) place false
