-- The first place of a query: what stands before its ORDER BY, and then the keys.
use Rattle.std.proofs.Common.{◌≡◌, refl, sym, ap, ◌∙◌, subst, ℕ, List, [], ◌∷◌, Option, None, Some, arith}
use Rattle.std.specs.List.{All}
use Rattle.std.proofs.lemmas.List.Elements.{All-cons}
use Rattle.col_value.specs.declared.column.Column.{Column}
use Rattle.sql_tree.specs.declared.query.Query.{Query}
use Rattle.sql_tree.specs.declared.query.SortKey.{SortKey}
use Rattle.sql_tree.specs.declared.refusal.Refusal.{Refusal}
use Rattle.std.specs.Prelude.{option_map}
use Rattle.sql_binding.specs.Firsts.{first_of, first_given}
use Rattle.sql_binding.specs.Sight.{Seen}
use Rattle.sql_binding.specs.Search.{Search, shown, whole_rows, first_in_query, first_in_items, first_in_sources, first_in_condition, first_in_group}
use Rattle.sql_binding.specs.Outputs.{output_names, unknown_key, twice_named}
use Rattle.sql_binding.specs.Queries.{table_search, column_search, twice_search, unknown_table, unknown_column, ambiguous_name}
use Rattle.name_binder.specs.Looks.{first_before_order}
use Rattle.name_binder.specs.Refusing.{RefusesBy}
use Rattle.name_binder.specs.declared.fault.BindFault.{BindFault}

pub first_of_both : {X : Type 0} (a b c : Option X) → first_of (first_of a b) c ≡ first_of a (first_of b c)
first_of_both None b c = refl
first_of_both (Some x) b c = refl

pub first_of_none : {X : Type 0} (a : Option X) → first_of a None ≡ a
first_of_none None = refl
first_of_none (Some x) = refl

abbrev nothing : SortKey → Option (List ℕ)
nothing k = None

no_key : (order : List SortKey) → first_given nothing order ≡ None
no_key [] = refl
no_key (k ∷ ks) = no_key ks

pub before_order : (s : Search) (q : Query) → first_in_query s q ≡ first_of (first_before_order s q) (first_given (λ (k : SortKey). s.key k.key) q.order)
before_order s q =
    let keys = first_given (λ (k : SortKey). s.key k.key) q.order in
    let items = first_in_items s (shown q) q.items in
    let sources = first_in_sources s q.sources in
    let keep = first_in_condition s (whole_rows q) q.keep in
    let group = first_in_group s (whole_rows q) q.group in
    let having = first_in_condition s (shown q) q.having in
    sym (first_of_both items (first_of sources (first_of keep (first_of group having))) keys
    ∙ ap (first_of items) (first_of_both sources (first_of keep (first_of group having)) keys
    ∙ ap (first_of sources) (first_of_both keep (first_of group having) keys
    ∙ ap (first_of keep) (first_of_both group having keys))))

pub tables_before_order : (found : List (Option (List Column))) (q : Query) → unknown_table found q ≡ first_before_order (table_search found q.sources) q
tables_before_order found q =
    let s = table_search found q.sources in
    before_order s q ∙ (ap (first_of (first_before_order s q)) (no_key q.order) ∙ first_of_none (first_before_order s q))

pub columns_before_order : (seen : List Seen) (q : Query)
    → unknown_column seen q ≡ first_of (first_before_order (column_search seen q) q) (first_given (λ (k : SortKey). unknown_key (output_names seen q.items) k.key) q.order)
columns_before_order seen q = before_order (column_search seen q) q

pub twice_before_order : (seen : List Seen) (q : Query)
    → ambiguous_name seen q ≡ first_of (first_before_order (twice_search seen q) q) (first_given (λ (k : SortKey). twice_named (output_names seen q.items) k.key) q.order)
twice_before_order seen q = before_order (twice_search seen q) q

pub neither : {X : Type 0} (a b : Option X) → first_of a b ≡ None → (a ≡ None) × (b ≡ None)
neither None b e = (refl, e)
neither (Some x) b e = cc

pub given_nowhere : {X Y : Type 0} (f : X → Option Y) (xs : List X) → first_given f xs ≡ None → All (λ x. f x ≡ None) xs
given_nowhere f [] e = λ k d h. absurd (omega (arith, h))
given_nowhere f (x ∷ xs) e =
    let both = neither (f x) (first_given f xs) e in
    All-cons (λ y. f y ≡ None) x xs both.0 (given_nowhere f xs both.1)

-- where no name is unknown each key of ORDER BY names an output column
pub known_keys : (seen : List Seen) (q : Query) → unknown_column seen q ≡ None → All (λ k. unknown_key (output_names seen q.items) k.key ≡ None) q.order
known_keys seen q e =
    let f = λ (k : SortKey). unknown_key (output_names seen q.items) k.key in
    given_nowhere f q.order (neither (first_before_order (column_search seen q) q) (first_given f q.order) (sym (columns_before_order seen q) ∙ e)).1

first_refused : (why : List ℕ → Refusal) (a b : Option (List ℕ)) (f : BindFault) → RefusesBy (option_map why a) f → RefusesBy (option_map why (first_of a b)) f
first_refused why a b BindFault.Memory h = tt
first_refused why None b (BindFault.Refused r) h = cc
first_refused why (Some n) b (BindFault.Refused r) h = h

-- what is refused before ORDER BY is refused
pub refused_before : (why : List ℕ → Refusal) (a b name : Option (List ℕ)) (f : BindFault) → name ≡ first_of a b → RefusesBy (option_map why a) f → RefusesBy (option_map why name) f
refused_before why a b name f e h = subst (λ (n : Option (List ℕ)). RefusesBy (option_map why n) f) (sym e) (first_refused why a b f h)

-- where nothing is refused before ORDER BY, it is the key that is
pub behind_order : (a b name key : Option (List ℕ)) → name ≡ first_of a b → a ≡ None → key ≡ b → name ≡ key
behind_order a b name key e n k = e ∙ (ap (λ (x : Option (List ℕ)). first_of x b) n ∙ sym k)
