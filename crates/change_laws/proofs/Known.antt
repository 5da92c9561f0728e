-- The columns that an UPDATE sets are columns of its table, and what it sets them to is of their kinds.
use Rattle.std.proofs.Common.{◌≡◌, ℕ, ◌+◌, ◌<◌, Bool, true, false, not, cond, List, [], ◌∷◌, length, get_or, map, Option, Some, None, refl, sym, ap, ◌∙◌, subst, arith}
use Rattle.std.specs.Prelude.{◌||◌, nat_lt, find, option_map, position}
use Rattle.std.specs.List.{All, flat_map, list_all, position_or_len}
use Rattle.std.specs.Option.{option_map_or}
use Rattle.std.proofs.lemmas.Bool.Decides.{nat_tests}
use Rattle.std.proofs.lemmas.List.{append-nil, length-map}
use Rattle.std.proofs.lemmas.List.Concat.{flat_map-cons}
use Rattle.std.proofs.lemmas.List.Elements.{All-cons, All-nil, All-map}
use Rattle.col_value.specs.declared.column.Column.{Column}
use Rattle.sql_tree.specs.declared.refusal.Refusal.{Refusal}
use Rattle.sql_tree.specs.declared.query.Item.{Item}
use Rattle.sql_tree.specs.declared.query.Query.{Query}
use Rattle.sql_tree.specs.declared.statement.Setting.{Setting}
use Rattle.sql_tree.specs.declared.statement.Update.{Update}
use Rattle.sql_tree.specs.declared.tree.ColRef.{ColRef}
use Rattle.sql_tree.specs.declared.tree.Tree as tree
use Rattle.sql_tree.specs.declared.tree.Tree.TheOpen.{Tree-F}
use Rattle.sql_tree.specs.declared.tree.Tree.TheViews.{rolls-Col}
use Rattle.sql_tree.specs.declared.tree.Tree.TheFolds.{fold-roll-Tree}
use Rattle.sql_bound.specs.Kinds.{Kinds, kind_of_column}
use Rattle.sql_binding.specs.Changes.{bound_setting, bound_settings, bound_update, column_named, is_narrow_update, is_typed_setting, is_typed_update, item_of, naming_query, set_twice_behind, setting_items, source_of, update_name_refusal, update_refusal, update_scope, update_sight, update_tree_refusal}
use Rattle.sql_binding.specs.Firsts.{first_given, first_of, given_where, refused_where}
use Rattle.sql_binding.specs.Queries.{ambiguous_name, column_search, is_known, is_typed_query, row_kinds, unknown_column, unknown_table}
use Rattle.sql_binding.specs.Search.{first_in_condition, first_in_group, first_in_item, first_in_items, first_in_sources, first_in_tree, shown, whole_rows}
use Rattle.sql_binding.specs.Sight.{Reach, Seen, fits, fits_twice, is_grouped_by, item_columns, place_of, seen_as}
use Rattle.sql_binding.specs.Uses.{Use, used_outside, uses, uses_step, uses_term}
use Rattle.common_laws.proofs.Truths.{and_true}
use Rattle.row_history.proofs.Histories.{map_mapped}
use Rattle.state_laws.proofs.Events.{first_none}
use Rattle.row_setting.proofs.Accepted.{mapped_none}
use Rattle.change_laws.proofs.Typed.{column_kinds, of_columns}

-- ---- what is seen

-- over one table its columns
seen_columns : (columns : List Column) (u : Update) → update_sight columns u ≡ map (seen_as 0 u.table) columns
seen_columns columns u = flat_map-cons item_columns (0, (source_of u.table, columns)) [] ∙ append-nil (map (seen_as 0 u.table) columns)

seen_many : (columns : List Column) (u : Update) → length (update_sight columns u) ≡ length columns
seen_many columns u = ap (λ (seen : List Seen). length seen) (seen_columns columns u) ∙ length-map columns (seen_as 0 u.table)

seen_kinds : (columns : List Column) (u : Update) → row_kinds (update_sight columns u) ≡ of_columns (column_kinds columns)
seen_kinds columns u = ap row_kinds (seen_columns columns u) ∙ ap of_columns (map_mapped (λ (s : Seen). kind_of_column s.column.kind) (seen_as 0 u.table) columns)

-- ---- names that are known

found_before : (p : Seen → Bool) (g : Seen → Bool) (seen : List Seen) → option_map_or g (find p seen) false ≡ true → position_or_len p seen < length seen
found_before p g [] known = absurd (cc)
found_before p g (s ∷ seen) known = by (p s) known (found_before p g seen)
  where
    by : (b : Bool) → option_map_or g (cond b (Some s) (find p seen)) false ≡ true → (option_map_or g (find p seen) false ≡ true → position_or_len p seen < length seen) → cond (not b) (1 + position_or_len p seen) 0 < length (s ∷ seen)
    by true here more = omega arith
    by false rest more = omega (arith, more rest)

place_there : (p : Seen → Bool) (seen : List Seen) → position_or_len p seen < length seen → option_map_or (λ i. i) (position p seen) 0 < length seen
place_there p seen lt =
    let there : nat_lt (position_or_len p seen) (length seen) ≡ true = grind (arith, nat_tests, lt) in
    subst (λ (b : Bool). option_map_or (λ i. i) (cond b (Some (position_or_len p seen)) None) 0 < length seen) (sym there) lt

given_not : (b : Bool) (name : List ℕ) → given_where (not b) name ≡ None → b ≡ true
given_not true name none = refl
given_not false name none = absurd (cc)

abbrev no_group : List ColRef
no_group = []

-- a name that is known stands for a column
known_place : (seen : List Seen) (reach : Reach) (u : Use) → is_known no_group seen reach u ≡ true → place_of seen reach.last u.column < length seen
known_place seen reach u known =
    place_there (fits reach.last u.column) seen (found_before (fits reach.last u.column) (λ s. (not reach.grouped || u.inside) || (fits_twice seen reach.last u.column || is_grouped_by reach.last no_group s)) seen known)

columns_known : (seen : List Seen) (q : Query) (reach : Reach) (settings : List Setting) → first_given (λ i. first_in_item (column_search seen q) reach i.tree) (flat_map setting_items settings) ≡ None
    → All (λ s. first_in_tree (column_search seen q) reach (tree.Col (column_named s.column)) ≡ None) settings
columns_known seen q reach [] none = All-nil _
columns_known seen q reach (s ∷ settings) none =
    let P : Setting → Type 0 = λ x. first_in_tree (column_search seen q) reach (tree.Col (column_named x.column)) ≡ None in
    let first : Item → Option (List ℕ) = λ i. first_in_item (column_search seen q) reach i.tree in
    let both : first_given first (item_of (tree.Col (column_named s.column)) ∷ (item_of s.tree ∷ flat_map setting_items settings)) ≡ None = ap (first_given first) (sym (flat_map-cons setting_items s settings)) ∙ none in
    let here = first_none (first (item_of (tree.Col (column_named s.column)))) (first_given first (item_of s.tree ∷ flat_map setting_items settings)) both in
    let rest = first_none (first (item_of s.tree)) (first_given first (flat_map setting_items settings)) here.1 in
    All-cons P s settings here.0 (columns_known seen q reach settings rest.1)

-- a column names itself
own_use : (r : ColRef) → uses (tree.Col r) ≡ used_outside r ∷ []
own_use r = ap uses (sym (rolls-Col r)) ∙ fold-roll-Tree (List Use) (List Use) uses_step uses_term (Tree-F.Col r)

column_place : (seen : List Seen) (q : Query) (reach : Reach) (name : List ℕ) → q.group ≡ no_group → first_in_tree (column_search seen q) reach (tree.Col (column_named name)) ≡ None → place_of seen reach.last (column_named name) < length seen
column_place seen q reach name group none =
    let named : Use = used_outside (column_named name) in
    let given : first_given ((column_search seen q).column reach) (named ∷ []) ≡ None = sym (ap (first_given ((column_search seen q).column reach)) (own_use (column_named name))) ∙ none in
    let one = first_none (given_where (not (is_known q.group seen reach named)) name) (first_given ((column_search seen q).column reach) []) given in
    known_place seen reach named (subst (λ (g : List ColRef). is_known g seen reach named ≡ true) group (given_not (is_known q.group seen reach named) name one.0))

-- ---- an UPDATE that isn't refused

abbrev names_of : List Column → Update → Option Refusal
names_of columns u = option_map Refusal.UnknownColumn (unknown_column (update_sight columns u) (naming_query u))

abbrev twice_of : List Column → Update → Option Refusal
twice_of columns u = option_map Refusal.Ambiguous (first_of (ambiguous_name (update_sight columns u) (naming_query u)) (set_twice_behind [] u.settings))

abbrev trees_of : List Column → Update → Option Refusal
trees_of columns u = update_tree_refusal (row_kinds (update_sight columns u)) (bound_update 0 columns u)

all_known : (columns : List Column) (u : Update) → update_refusal (Some columns) u ≡ None → All (λ s. first_in_tree (column_search (update_sight columns u) (naming_query u)) (shown (naming_query u)) (tree.Col (column_named s.column)) ≡ None) u.settings
all_known columns u free =
    let q = naming_query u in
    let seen = update_sight columns u in
    let search = column_search seen q in
    let halves = first_none (update_name_refusal columns u) (trees_of columns u) free in
    let tables = first_none (option_map Refusal.UnknownTable (unknown_table (Some columns ∷ []) q)) (first_of (names_of columns u) (twice_of columns u)) halves.0 in
    let known = first_none (names_of columns u) (twice_of columns u) tables.1 in
    let query : unknown_column seen q ≡ None = mapped_none Refusal.UnknownColumn (unknown_column seen q) known.0 in
    let items = first_none (first_in_items search (shown q) q.items)
    (first_of (first_in_sources search q.sources) (first_of (first_in_condition search (whole_rows q) q.keep) (first_of (first_in_group search (whole_rows q) q.group) (first_of (first_in_condition search (shown q) q.having) (first_given (λ k. search.key k.key) q.order))))) query in
    columns_known seen q (shown q) u.settings items.0

pub places_there : (columns : List Column) (u : Update) → update_refusal (Some columns) u ≡ None → All (λ s. s.0 < length columns) (bound_settings columns u)
places_there columns u free =
    All-map (λ s. s.0 < length columns) (bound_setting (update_scope columns u)) u.settings (λ k d lt.
    subst (λ (n : ℕ). place_of seen 1 (column_named (get_or u.settings k d).column) < n) (seen_many columns u)
    (column_place seen (naming_query u) (shown (naming_query u)) (get_or u.settings k d).column refl (all_known columns u free k d lt)))
  where
    seen : List Seen
    seen = update_sight columns u

not_refused : (b : Bool) (r : Refusal) → refused_where (not b) r ≡ None → b ≡ true
not_refused true r is = refl
not_refused false r is = absurd (cc)

all_such : {X : Type 0} (p : X → Bool) (xs : List X) → list_all p xs ≡ true → All (λ x. p x ≡ true) xs
all_such p [] is = All-nil (λ x. p x ≡ true)
all_such p (x ∷ xs) is = let both = and_true (p x) (list_all p xs) is in All-cons (λ y. p y ≡ true) x xs both.0 (all_such p xs both.1)

pub settings_typed : (columns : List Column) (u : Update) → update_refusal (Some columns) u ≡ None → All (λ s. is_typed_setting (of_columns (column_kinds columns)) s ≡ true) (bound_settings columns u)
settings_typed columns u free =
    let kinds = row_kinds (update_sight columns u) in
    let b = bound_update 0 columns u in
    let halves = first_none (update_name_refusal columns u) (trees_of columns u) free in
    let trees = first_none (refused_where (not (is_typed_update kinds b)) Refusal.TypeMismatch) (refused_where (not (is_narrow_update b)) Refusal.TooWide) halves.1 in
    let typed = not_refused (is_typed_update kinds b) Refusal.TypeMismatch trees.0 in
    let settings = and_true (list_all (is_typed_setting kinds) (bound_settings columns u)) (is_typed_query kinds b.0) typed in
    subst (λ (k : Kinds). All (λ s. is_typed_setting k s ≡ true) (bound_settings columns u)) (seen_kinds columns u) (all_such (is_typed_setting kinds) (bound_settings columns u) settings.0)
