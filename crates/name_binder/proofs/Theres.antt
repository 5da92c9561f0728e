-- Where no table is unknown each FROM item has one.
use Rattle.std.proofs.Common.{◌≡◌, refl, sym, ap, ◌∙◌, subst, ℕ, zero, suc, ◌+◌, ◌<◌, List, [], ◌∷◌, length, Bool, true, false, Option, None, Some, arith}
use Rattle.std.proofs.lemmas.Bool.{false≢true}
use Rattle.std.specs.Prelude.{not}
use Rattle.std.specs.List.{enumerate_from}
use Rattle.col_value.specs.declared.column.Column.{Column}
use Rattle.sql_tree.specs.declared.query.Query.{Query}
use Rattle.sql_tree.specs.declared.query.Source.{Source}
use Rattle.sql_binding.specs.Firsts.{first_of, first_given, given_where, all_there, with_first}
use Rattle.sql_binding.specs.Search.{shown, whole_rows, rows_to, first_in_items, first_in_source, first_in_sources, first_in_condition, first_in_group}
use Rattle.sql_binding.specs.Queries.{table_search, unknown_table, is_there, columns_of}
use Rattle.name_binder.specs.Tables.{columns_found, tables_found}
use Rattle.name_binder.proofs.Parts.{neither, tables_before_order}

given_not : {X : Type 0} (so : Bool) (x : X) → given_where (not so) x ≡ None → so ≡ true
given_not true x e = refl
given_not false x e = cc

-- each item of FROM has a table
abbrev AreThere : List (Option (List Column)) → ℕ → ℕ → Type 0
AreThere found i n = (k : ℕ) → k < n → is_there found (i + k) ≡ true

one_there : (found : List (Option (List Column))) (i : ℕ) (n : ℕ) → is_there found i ≡ true → AreThere found (i + 1) n → AreThere found i (n + 1)
one_there found i n here rest zero h = subst (λ (m : ℕ). is_there found m ≡ true) (let e : i ≡ i + 0 = omega arith in e) here
one_there found i n here rest (suc k) h = subst (λ (m : ℕ). is_there found m ≡ true) (let e : i + 1 + k ≡ i + suc k = omega arith in e) (rest k (omega (arith, h)))

there_from : (found : List (Option (List Column))) (all : List Source) (i : ℕ) (sources : List Source)
    → first_given (first_in_source (table_search found all)) (enumerate_from i sources) ≡ None → AreThere found i (length sources)
there_from found all i [] e = λ k h. absurd (omega (arith, h))
there_from found all i (s ∷ rest) e =
    let search = table_search found all in
    let both = neither (first_in_source search (i, s)) (first_given (first_in_source search) (enumerate_from (i + 1) rest)) e in
    let here = neither (given_where (not (is_there found i)) s.table) (first_in_condition search (rows_to i) s.on) both.0 in
    let more = one_there found i (length rest) (given_not (is_there found i) s.table here.0) (there_from found all (i + 1) rest both.1) in
    λ k h. more k (omega (arith, h))

sources_there : (found : List (Option (List Column))) (q : Query) → unknown_table found q ≡ None → AreThere found 0 (length q.sources)
sources_there found q e =
    let s = table_search found q.sources in
    let items = first_in_items s (shown q) q.items in
    let sources = first_in_sources s q.sources in
    let keep = first_in_condition s (whole_rows q) q.keep in
    let group = first_in_group s (whole_rows q) q.group in
    let having = first_in_condition s (shown q) q.having in
    let behind = neither items (first_of sources (first_of keep (first_of group having))) (sym (tables_before_order found q) ∙ e) in
    there_from found q.sources 0 q.sources (neither sources (first_of keep (first_of group having)) behind.1).0

-- all tables that were found are all tables
pub record AllFound (found : List (Option (ℕ × List Column))) : Type 0 where
  pub all : all_there found ≡ Some (tables_found found)
  pub columns : all_there (columns_found found) ≡ Some (columns_of (tables_found found))

rest_there : (f : Option (ℕ × List Column)) (rest : List (Option (ℕ × List Column))) → AreThere (columns_found (f ∷ rest)) 0 (length (f ∷ rest)) → AreThere (columns_found rest) 0 (length rest)
rest_there f rest h k l =
    subst (λ (so : Bool). so ≡ true) (same k) (h (suc k) (omega (arith, l)))
  where
    same : (k : ℕ) → is_there (columns_found (f ∷ rest)) (0 + suc k) ≡ is_there (columns_found rest) (0 + k)
    same k = grind (arith)

all_found : (found : List (Option (ℕ × List Column))) → AreThere (columns_found found) 0 (length found) → AllFound found
all_found [] h = record { all = refl; columns = refl }
all_found (None ∷ rest) h = absurd (false≢true (h 0 (omega arith)))
all_found (Some t ∷ rest) h =
    let more = all_found rest (rest_there (Some t) rest h) in
    record { all = ap (with_first t) more.all; columns = ap (with_first t.1) more.columns }

pub found_all : (found : List (Option (ℕ × List Column))) (q : Query) → length found ≡ length q.sources → unknown_table (columns_found found) q ≡ None → AllFound found
found_all found q same e = all_found found (subst (λ (n : ℕ). AreThere (columns_found found) 0 n) (sym same) (sources_there (columns_found found) q e))
