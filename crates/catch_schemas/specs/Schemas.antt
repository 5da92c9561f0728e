-- The tables of two catalogues, by their names.
use Rattle.std.specs.Prelude.{ℕ, ◌≡◌, ◌≢◌, ◌⊎◌, ◌+◌, ◌==◌, ◌&&◌, not, if◌then◌else◌, Bool, true, false, List, [], ◌∷◌, find, Option, option_map, bytes_eq}
use Rattle.std.specs.Ordering.{nat_cmp}
use Rattle.std.specs.Cmp.Lexicographic.{slice_cmp}
use Rattle.std.specs.declared.cmp.Ordering.{Ordering}
use Rattle.std.specs.declared.cmp.Ordering.TheVariants.{Less, Equal, Greater}
use Rattle.col_value.specs.declared.column.Column.{Column}
use Rattle.col_value.specs.declared.kinds.ColType.{ColType}
use Rattle.catalog_types.specs.declared.catalogue.Table.{Table}
use Rattle.catalog_types.specs.Lists.{Pairwise}
use Rattle.catalog_types.specs.Names.{IsBelow}

-- the columns of the table of a name
abbrev pub columns_in : List ℕ → List Table → Option (List Column)
columns_in name tables = option_map (λ t. t.columns) (find (λ t. bytes_eq t.name name) tables)

-- tables in the ascending order of their names
abbrev pub AreAscending : List Table → Type 0
AreAscending tables = Pairwise (λ t u. IsBelow t.name u.name) tables

-- a number of each kind of column
abbrev pub kind_code : ColType → ℕ
kind_code ColType.Integer = 0
kind_code ColType.Boolean = 1
kind_code ColType.Date = 2
kind_code (ColType.Varchar n) = 3 + n

-- two columns have the same name, are of the same kind, and refuse NULL alike
abbrev pub is_same_column : Column → Column → Bool
is_same_column a b = bytes_eq a.name b.name && (kind_code a.kind == kind_code b.kind && (if a.not_null then b.not_null else not b.not_null))

abbrev pub are_same_columns : List Column → List Column → Bool
are_same_columns [] [] = true
are_same_columns [] (y ∷ ys) = false
are_same_columns (x ∷ xs) [] = false
are_same_columns (x ∷ xs) (y ∷ ys) = is_same_column x y && are_same_columns xs ys

-- two tables have one name and the same columns
pub record IsSameTable (t u : Table) : Type 0 where
  pub name : t.name ≡ u.name
  pub columns : t.columns ≡ u.columns

-- two tables are apart, by the order of their names: the lesser name, or that of both where their columns differ
abbrev pub IsApart : Ordering → Table → Table → List ℕ → Type 0
IsApart Less x y name = name ≡ x.name
IsApart Equal x y name = (x.columns ≢ y.columns) × (name ≡ x.name)
IsApart Greater x y name = name ≡ y.name

-- the name of the first table in which two lists differ
abbrev pub IsFirstApart : List Table → List Table → List ℕ → Type 0
IsFirstApart [] [] name = ⊥
IsFirstApart [] (y ∷ ys) name = name ≡ y.name
IsFirstApart (x ∷ xs) [] name = name ≡ x.name
IsFirstApart (x ∷ xs) (y ∷ ys) name = IsApart (slice_cmp nat_cmp x.name y.name) x y name ⊎ (IsSameTable x y × IsFirstApart xs ys name)
