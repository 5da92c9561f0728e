-- The columns that a query can see, and which of them a name stands for.
use Rattle.std.specs.Prelude.{ℕ, ◌&&◌, nat_le, nat_lt, Bool, true, List, map, zip, position, bytes_eq}
use Rattle.std.specs.List.{list_any, flat_map, enumerate_from, count_by}
use Rattle.std.specs.Option.{option_map_or}
use Rattle.col_value.specs.declared.column.Column.{Column}
use Rattle.sql_tree.specs.declared.tree.ColRef.{ColRef}
use Rattle.sql_tree.specs.declared.query.Source.{Source}

-- a FROM item is named by its alias, or by its table where it has none
abbrev pub item_name : Source → List ℕ
item_name s = option_map_or (λ a. a) s.alias s.table

-- a column of a FROM item, with the item's place among all and its name
pub record Seen : Type 0 where
  pub place : ℕ
  pub item : List ℕ
  pub column : Column

abbrev pub seen_as : ℕ → List ℕ → Column → Seen
seen_as place item c = record { place = place; item = item; column = c }

abbrev pub item_columns : ℕ × (Source × List Column) → List Seen
item_columns t = map (seen_as t.0 (item_name t.1.0)) t.1.1

-- all columns of the FROM items, in order
abbrev pub sight : List Source → List (List Column) → List Seen
sight sources tables = flat_map item_columns (enumerate_from 0 (zip sources tables))

-- What a clause sees: columns of the FROM items up to a place. In the items and the HAVING of a grouped query a column outside of
-- aggregates has to be one of GROUP BY.
pub record Reach : Type 0 where
  pub last : ℕ
  pub grouped : Bool

-- a name fits a column that is in reach: the names are equal, and the qualifier, where there is one, names the FROM item
abbrev pub fits : ℕ → ColRef → Seen → Bool
fits last r s = nat_le s.place last && (bytes_eq s.column.name r.name && option_map_or (λ q. bytes_eq q s.item) r.qualifier true)

-- the place of the column that a name stands for
abbrev pub place_of : List Seen → ℕ → ColRef → ℕ
place_of seen last r = option_map_or (λ i. i) (position (fits last r) seen) 0

-- a name fits two columns
abbrev pub fits_twice : List Seen → ℕ → ColRef → Bool
fits_twice seen last r = nat_lt 1 (count_by (fits last r) seen)

-- a column that a reference of GROUP BY fits
abbrev pub is_grouped_by : ℕ → List ColRef → Seen → Bool
is_grouped_by last group s = list_any (λ g. fits last g s) group
