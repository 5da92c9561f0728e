-- An UPDATE is bound over its one table.
use Rattle.std.proofs.Common.{◌≡◌, sym, ap, ◌∙◌, subst, ℕ, List, [], ◌∷◌, Option, None, Some, arith}
use Rattle.std.specs.Prelude.{option_map}
use Rattle.std.specs.List.{All}
use Rattle.col_value.specs.declared.column.Column.{Column}
use Rattle.name_binder.specs.Refusing.{RefusesBy}
use Rattle.name_binder.specs.declared.fault.BindFault.{BindFault}
use Rattle.name_binder.specs.declared.fault.BindFault.TheVariants as fault
use Rattle.sql_tree.specs.declared.query.Query.{Query}
use Rattle.sql_tree.specs.declared.query.SortKey.{SortKey}
use Rattle.sql_tree.specs.declared.refusal.Refusal.{Refusal}
use Rattle.sql_tree.specs.declared.statement.Update.{Update}
use Rattle.sql_binding.specs.Firsts.{first_of}
use Rattle.sql_binding.specs.Sight.{Seen, sight}
use Rattle.sql_binding.specs.Outputs.{unknown_key}
use Rattle.sql_binding.specs.Queries.{columns_of, row_kinds, unknown_table}
use Rattle.sql_binding.specs.Changes.{naming_query, update_query, update_sight, bound_update, update_name_refusal, update_tree_refusal}
use Rattle.change_binder.specs.Answers.{changes_in, settings_refusal}

-- an UPDATE is ordered by no key
pub no_key : (outputs : List (Option (List ℕ))) (q : Query) (u : Update) → q ≡ update_query u → All (λ k. unknown_key outputs k.key ≡ None) q.order
no_key outputs q u e = subst (λ (order : List SortKey). All (λ k. unknown_key outputs k.key ≡ None) order) (sym (ap (λ (r : Query). r.order) e)) (λ k d h. absurd (omega (arith, h)))

-- the columns that are seen over tables
abbrev seen_over : List (ℕ × List Column) → Query → List Seen
seen_over tables q = sight q.sources (columns_of tables)

pub changed : (table : ℕ × List Column) (u : Update) (tables : List (ℕ × List Column)) (q : Query)
    → tables ≡ table ∷ [] → q ≡ update_query u → changes_in tables (seen_over tables q) q u ≡ bound_update table.0 table.1 u
changed table u tables q t e =
    ap (λ (ts : List (ℕ × List Column)). changes_in ts (seen_over ts q) q u) t
    ∙ ap (λ (r : Query). changes_in (table ∷ []) (seen_over (table ∷ []) r) r u) e

pub refused_alike : (table : ℕ × List Column) (u : Update) (tables : List (ℕ × List Column)) (q : Query)
    → tables ≡ table ∷ [] → q ≡ update_query u
    → update_tree_refusal (row_kinds (seen_over tables q)) (changes_in tables (seen_over tables q) q u) ≡ update_tree_refusal (row_kinds (update_sight table.1 u)) (bound_update 0 table.1 u)
refused_alike table u tables q t e =
    ap (λ (ts : List (ℕ × List Column)). update_tree_refusal (row_kinds (seen_over ts q)) (changes_in ts (seen_over ts q) q u)) t
    ∙ ap (λ (r : Query). update_tree_refusal (row_kinds (seen_over (table ∷ []) r)) (changes_in (table ∷ []) (seen_over (table ∷ []) r) r u)) e

-- the names of an UPDATE over its one table
named_alike : (table : ℕ × List Column) (u : Update) (tables : List (ℕ × List Column)) (q : Query)
    → tables ≡ table ∷ [] → q ≡ naming_query u → settings_refusal (seen_over tables q) q u ≡ settings_refusal (update_sight table.1 u) (naming_query u) u
named_alike table u tables q t e =
    ap (λ (ts : List (ℕ × List Column)). settings_refusal (seen_over ts q) q u) t
    ∙ ap (λ (r : Query). settings_refusal (seen_over (table ∷ []) r) r u) e

pub names_alike : (table : ℕ × List Column) (u : Update) (tables : List (ℕ × List Column)) (q : Query)
    → tables ≡ table ∷ [] → q ≡ naming_query u → unknown_table (Some table.1 ∷ []) q ≡ None → settings_refusal (seen_over tables q) q u ≡ update_name_refusal table.1 u
names_alike table u tables q t e none =
    named_alike table u tables q t e
    ∙ sym (ap (λ (o : Option (List ℕ)). first_of (option_map Refusal.UnknownTable o) (settings_refusal (update_sight table.1 u) (naming_query u) u))
    (ap (λ (r : Query). unknown_table (Some table.1 ∷ []) r) (sym e) ∙ none))

-- a table that isn't there comes first
pub table_first : (columns : List Column) (u : Update) (q : Query) (f : BindFault)
    → q ≡ naming_query u → RefusesBy (option_map Refusal.UnknownTable (unknown_table (Some columns ∷ []) q)) f → RefusesBy (update_name_refusal columns u) f
table_first columns u q (fault.Refused r) e h =
    ap (λ (o : Option Refusal). first_of o (settings_refusal (update_sight columns u) (naming_query u) u))
    (ap (λ (n : Query). option_map Refusal.UnknownTable (unknown_table (Some columns ∷ []) n)) (sym e) ∙ h)
table_first columns u q fault.Memory e h = tt
