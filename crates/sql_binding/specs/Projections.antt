-- The columns of a new projection, and why it is refused.
use Rattle.std.specs.Prelude.{ℕ, ◌||◌, ◌&&◌, not, nat_lt, Bool, true, false, List, [], ◌∷◌, length, map, position, find, Option, Some, None, option_map, bytes_eq, is_none}
use Rattle.std.specs.List.{list_any, enumerate_from}
use Rattle.std.specs.Option.{option_map_or}
use Rattle.sql_tree.specs.declared.statement.NewPart.{NewPart}
use Rattle.sql_tree.specs.declared.statement.NewProjection.{NewProjection}
use Rattle.sql_tree.specs.declared.refusal.Refusal.{Refusal}
use Rattle.sql_tree.specs.declared.refusal.Which.{Which}
use Rattle.col_value.specs.declared.column.Column.{Column}
use Rattle.col_value.specs.declared.kinds.ColType.{ColType}
use Rattle.col_value.specs.declared.kinds.Encoding.{Encoding}
use Rattle.sql_binding.specs.Firsts.{first_of, refused_where}

-- the place of a name, and of a column of this name
abbrev pub name_at : List (List ℕ) → List ℕ → Option ℕ
name_at names name = position (λ n. bytes_eq n name) names

abbrev pub column_at : List Column → List ℕ → Option ℕ
column_at columns name = position (λ c. bytes_eq c.name name) columns

abbrev pub place_or_0 : Option ℕ → ℕ
place_or_0 i = option_map_or (λ i. i) i 0

-- the names of its columns, and those that it is sorted by, where it says so
abbrev pub part_names : NewProjection → List (List ℕ)
part_names p = map (λ c. c.name) p.parts

abbrev pub sort_names : NewProjection → List (List ℕ)
sort_names p = option_map_or (λ ns. ns) p.sort []

-- a name that is no column of the table, the first of the three lists
abbrev pub first_lacking : List Column → List (List ℕ) → Option (List ℕ)
first_lacking columns names = find (λ n. is_none (column_at columns n)) names

abbrev pub lacking_name : List Column → NewProjection → Option (List ℕ)
lacking_name columns p = first_of (first_lacking columns (part_names p)) (first_of (first_lacking columns p.selected) (first_lacking columns (sort_names p)))

-- Why it is refused for its names, before its own name is looked for; None where there is no such table.
abbrev pub projection_name_refusal : Option (List Column) → NewProjection → Option Refusal
projection_name_refusal None p = Some (Refusal.UnknownTable p.table)
projection_name_refusal (Some columns) p = option_map Refusal.UnknownColumn (lacking_name columns p)

abbrev pub are_same_names : List (List ℕ) → List (List ℕ) → Bool
are_same_names [] [] = true
are_same_names [] (n ∷ ns) = false
are_same_names (m ∷ ms) [] = false
are_same_names (m ∷ ms) (n ∷ ns) = bytes_eq m n && are_same_names ms ns

abbrev pub has_twice : List (List ℕ) → Bool
has_twice [] = false
has_twice (n ∷ ns) = list_any (λ m. bytes_eq m n) ns || has_twice ns

-- the lists differ, a column stands twice, or a sort column isn't in it or stands twice
abbrev pub is_bad_projection : NewProjection → Bool
is_bad_projection p =
    (not (are_same_names (part_names p) p.selected) || has_twice (part_names p))
    || (list_any (λ n. is_none (name_at (part_names p) n)) (sort_names p) || has_twice (sort_names p))

-- numbers and dates have differences
abbrev pub has_differences : ColType → Bool
has_differences ColType.Integer = true
has_differences (ColType.Varchar n) = false
has_differences ColType.Boolean = false
has_differences ColType.Date = true

abbrev pub is_deltaval : Encoding → Bool
is_deltaval Encoding.Auto = false
is_deltaval Encoding.Rle = false
is_deltaval Encoding.DeltaVal = true
is_deltaval Encoding.BlockDict = false
is_deltaval Encoding.Plain = false

abbrev pub has_name : List ℕ → Column → Bool
has_name name c = bytes_eq c.name name

-- DELTAVAL stands on a column that is neither of numbers nor of dates
abbrev pub is_bad_encoding : List Column → NewPart → Bool
is_bad_encoding columns c = is_deltaval c.encoding && not (option_map_or (λ d. has_differences d.kind) (find (has_name c.name) columns) false)

abbrev pub bad_encoding : List Column → NewProjection → Option (List ℕ)
bad_encoding columns p = option_map (λ c. c.name) (find (is_bad_encoding columns) p.parts)

-- Why it is refused for what it is, behind its own name.
abbrev pub projection_form_refusal : List Column → NewProjection → Option Refusal
projection_form_refusal columns p = first_of (refused_where (is_bad_projection p) (Refusal.BadProjection p.name)) (option_map Refusal.BadEncoding (bad_encoding columns p))

-- a created name has at most 120 bytes
abbrev pub name_limit : List ℕ → Option Refusal
name_limit name = refused_where (nat_lt 120 (length name)) (Refusal.Limit Which.Name 120)

abbrev pub projection_form_over : Option (List Column) → NewProjection → Option Refusal
projection_form_over None p = None
projection_form_over (Some columns) p = first_of (projection_form_refusal columns p) (name_limit p.name)

-- Why a CREATE PROJECTION is refused, whose table has these columns and whose name is free; None where there is no such table.
abbrev pub projection_refusal : Option (List Column) → NewProjection → Option Refusal
projection_refusal found p = first_of (projection_name_refusal found p) (projection_form_over found p)

-- its columns by their places in the table, each with its encoding
abbrev pub bound_new_part : List Column → NewPart → ℕ × Encoding
bound_new_part columns c = (place_or_0 (column_at columns c.name), c.encoding)

-- the places among its columns by which it is sorted: all of them in order where it says none
abbrev pub all_places : {X : Type 0} → List X → List ℕ
all_places xs = map (λ e. e.0) (enumerate_from 0 xs)

abbrev pub sort_places : List (List ℕ) → List (List ℕ) → List ℕ
sort_places names sort = map (λ n. place_or_0 (name_at names n)) sort

abbrev pub bound_projection : List Column → NewProjection → List (ℕ × Encoding) × List ℕ
bound_projection columns p = (map (bound_new_part columns) p.parts, option_map_or (sort_places (part_names p)) p.sort (all_places p.parts))
