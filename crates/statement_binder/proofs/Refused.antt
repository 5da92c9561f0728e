-- Where the tables stand changes no refusal.
use Rattle.std.proofs.Common.{◌≡◌, refl, sym, ap, ap₂, ◌∙◌, subst, ℕ, List, Bool, true, false, Option, None, Some}
use Rattle.std.specs.Prelude.{if◌then◌else◌, option_map, option_and_then, Result, Ok, Err, IfOk, IfErr, OnOk}
use Rattle.col_value.specs.declared.column.Column.{Column}
use Rattle.sql_tree.specs.declared.query.Query.{Query}
use Rattle.sql_tree.specs.declared.refusal.Refusal.{Refusal}
use Rattle.sql_binding.specs.Sight.{Seen}
use Rattle.sql_binding.specs.Uses.{is_grouped}
use Rattle.sql_bound.specs.declared.query.BoundQuery.{BoundQuery}
use Rattle.sql_binding.specs.Firsts.{first_of, all_there}
use Rattle.sql_binding.specs.Queries.{bound_in, bound_query, over_rows, over_groups, tree_refusal, refusal_over, query_refusal, unknown_table, columns_of}
use Rattle.name_binder.specs.declared.fault.BindFault.{BindFault}
use Rattle.name_binder.specs.Refusing.{RefusesBy}
use Rattle.name_binder.specs.Tables.{columns_found}
use Rattle.statement_binder.specs.Answers.{IsBoundQuery}

pub same_trees : (here there : List (ℕ × List Column)) (seen : List Seen) (q : Query) → tree_refusal seen (bound_in here seen q) ≡ tree_refusal seen (bound_in there seen q)
same_trees here there seen q = by (is_grouped q)
  where
    by : (so : Bool) → tree_refusal seen (if so then over_groups here seen q else over_rows here seen q) ≡ tree_refusal seen (if so then over_groups there seen q else over_rows there seen q)
    by true = refl
    by false = refl

refusal_is : (found : List (Option (ℕ × List Column))) (tables : List (ℕ × List Column)) (q : Query)
    → unknown_table (columns_found found) q ≡ None → all_there (columns_found found) ≡ Some (columns_of tables)
    → query_refusal (columns_found found) q ≡ refusal_over (columns_of tables) q
refusal_is found tables q e f =
    ap₂ (λ (n : Option (List ℕ)) (o : Option (List (List Column))). first_of (option_map Refusal.UnknownTable n) (option_and_then (λ ts. refusal_over ts q) o)) e f

-- a query over its tables, all of which were found
pub whole : (found : List (Option (ℕ × List Column))) (tables : List (ℕ × List Column)) (q : Query) (r : Result BoundQuery BindFault)
    → unknown_table (columns_found found) q ≡ None → all_there found ≡ Some tables → all_there (columns_found found) ≡ Some (columns_of tables)
    → OnOk r (refusal_over (columns_of tables) q ≡ None) → IfOk r (λ b. b ≡ bound_query tables q) → IfOk r (IsBoundQuery found q)
whole found tables q (Ok b) e t f a h = record {
  accepted = refusal_is found tables q e f ∙ a;
  bound = ap (λ (o : Option (List (ℕ × List Column))). option_map (λ ts. bound_query ts q) o) t ∙ ap (λ (c : BoundQuery). Some c) (sym h);
}
whole found tables q (Err fault) e t f a h = tt

pub refused_whole : (found : List (Option (ℕ × List Column))) (tables : List (ℕ × List Column)) (q : Query) (r : Result BoundQuery BindFault)
    → unknown_table (columns_found found) q ≡ None → all_there (columns_found found) ≡ Some (columns_of tables)
    → IfErr r (RefusesBy (refusal_over (columns_of tables) q)) → IfErr r (RefusesBy (query_refusal (columns_found found) q))
refused_whole found tables q r e f h = subst (λ (why : Option Refusal). IfErr r (RefusesBy why)) (sym (refusal_is found tables q e f)) h
