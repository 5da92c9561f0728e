-- A DELETE is bound as a query over its one table.
use Rattle.std.proofs.Common.{◌≡◌, sym, ap, ◌∙◌, ℕ, List, [], ◌∷◌, Option, None, Some}
use Rattle.std.specs.Prelude.{option_map}
use Rattle.col_value.specs.declared.column.Column.{Column}
use Rattle.name_binder.specs.Tables.{columns_found}
use Rattle.sql_tree.specs.declared.query.Query.{Query}
use Rattle.sql_tree.specs.declared.statement.Delete.{Delete}
use Rattle.sql_bound.specs.declared.query.BoundQuery.{BoundQuery}
use Rattle.sql_binding.specs.Firsts.{all_there}
use Rattle.sql_binding.specs.Queries.{bound_query, query_refusal}
use Rattle.sql_binding.specs.Changes.{delete_query, delete_refusal, bound_delete}
use Rattle.statement_binder.specs.Answers.{IsBoundQuery}
use Rattle.change_binder.specs.Answers.{IsBoundDelete, columns_in}

bound_one : (found : Option (ℕ × List Column)) (d : Delete) (b : BoundQuery)
    → option_map (λ tables. bound_query tables (delete_query d)) (all_there (found ∷ [])) ≡ Some b
    → option_map (λ t. bound_delete t.0 t.1 d) found ≡ Some b
bound_one None d b e = cc
bound_one (Some t) d b e = e

-- why it is refused, which the query over its one table is refused for
pub delete_refused : (found : Option (ℕ × List Column)) (d : Delete) (all : List (Option (ℕ × List Column))) (q : Query)
    → all ≡ found ∷ [] → q ≡ delete_query d → query_refusal (columns_found all) q ≡ delete_refusal (columns_in found) d
delete_refused found d all q a e =
    ap (λ (fs : List (Option (ℕ × List Column))). query_refusal (columns_found fs) q) a
    ∙ ap (λ (r : Query). query_refusal (columns_found (found ∷ [])) r) e

pub delete_bound : (found : Option (ℕ × List Column)) (d : Delete) (all : List (Option (ℕ × List Column))) (q : Query) (b : BoundQuery)
    → all ≡ found ∷ [] → q ≡ delete_query d → IsBoundQuery all q b → IsBoundDelete found d b
delete_bound found d all q b a e h = record {
  accepted = sym (delete_refused found d all q a e) ∙ h.accepted;
  bound = bound_one found d b
      (sym (ap (λ (fs : List (Option (ℕ × List Column))). option_map (λ tables. bound_query tables q) (all_there fs)) a
      ∙ ap (λ (r : Query). option_map (λ tables. bound_query tables r) (all_there (found ∷ []))) e) ∙ h.bound);
}
