-- The names of output columns, by which ORDER BY finds them.
use Rattle.std.specs.Prelude.{ℕ, ℤ, pos, ◌-◌, ◌&&◌, nat_lt, nat_le, Bool, false, not, List, length, map, position, Option, Some, None, bytes_eq}
use Rattle.std.specs.List.{list_any, count_by}
use Rattle.std.specs.Option.{option_map_or}
use Rattle.std.specs.Fmt.{signed_decimal}
use Rattle.sql_tree.specs.declared.tree.Tree.{Tree}
use Rattle.sql_tree.specs.declared.query.Item.{Item}
use Rattle.sql_tree.specs.declared.query.Items.{Items}
use Rattle.sql_tree.specs.declared.query.ItemTree.{ItemTree}
use Rattle.sql_tree.specs.declared.query.KeyRef.{KeyRef}
use Rattle.sql_tree.specs.declared.query.SortKey.{SortKey}
use Rattle.sql_binding.specs.Firsts.{given_where}
use Rattle.sql_binding.specs.Sight.{Seen}

-- its alias, or the column's name where it is a plain column
abbrev pub plain_name : Tree → Option (List ℕ)
plain_name (Tree.Col r) = Some r.name
plain_name tree = None

-- a window has no name of its own
abbrev pub tree_name : ItemTree → Option (List ℕ)
tree_name (ItemTree.Plain tree) = plain_name tree
tree_name (ItemTree.Window w) = None

abbrev pub output_name : Item → Option (List ℕ)
output_name i = option_map_or (λ a. Some a) i.alias (tree_name i.tree)

-- the names of the output columns, where they have one; `*` stands for all columns in sight
abbrev pub output_names : List Seen → Items → List (Option (List ℕ))
output_names seen Items.Star = map (λ s. Some s.column.name) seen
output_names seen (Items.Listed items) = map output_name items

abbrev pub is_named : List ℕ → Option (List ℕ) → Bool
is_named name output = option_map_or (λ n. bytes_eq n name) output false

-- how many output columns have a name
abbrev pub count_named : List ℕ → List (Option (List ℕ)) → ℕ
count_named name outputs = count_by (is_named name) outputs

-- a number of ORDER BY is that of an output column, from 1
abbrev pub is_output_number : ℕ → ℤ → Bool
is_output_number count (pos n) = nat_le 1 n && nat_le n count
is_output_number count n = false

-- what a key of ORDER BY names, where that is no output column
abbrev pub unknown_key : List (Option (List ℕ)) → KeyRef → Option (List ℕ)
unknown_key outputs (KeyRef.Number n) = given_where (not (is_output_number (length outputs) n)) (signed_decimal n)
unknown_key outputs (KeyRef.Name name) = given_where (not (list_any (is_named name) outputs)) name

-- a name of ORDER BY that stands for two output columns
abbrev pub twice_named : List (Option (List ℕ)) → KeyRef → Option (List ℕ)
twice_named outputs (KeyRef.Number n) = None
twice_named outputs (KeyRef.Name name) = given_where (nat_lt 1 (count_named name outputs)) name

-- the place of the output column that a key names
abbrev pub key_place : List (Option (List ℕ)) → KeyRef → ℕ
key_place outputs (KeyRef.Number (pos n)) = n - 1
key_place outputs (KeyRef.Number n) = 0
key_place outputs (KeyRef.Name name) = option_map_or (λ i. i) (position (is_named name) outputs) 0

abbrev pub bound_order : List (Option (List ℕ)) → List SortKey → List (ℕ × Bool)
bound_order outputs order = map (λ k. (key_place outputs k.key, k.descending)) order
