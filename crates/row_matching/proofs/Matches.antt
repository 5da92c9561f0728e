-- The rows that match, against the matched rows of a statement.
use Rattle.std.proofs.Common.{◌≡◌, ◌+◌, ◌++◌, ℕ, Bool, true, false, cond, List, [], ◌∷◌, length, map, filter, refl, sym, ◌∙◌, ap, subst}
use Rattle.std.proofs.lemmas.List.{length-append, length-map}
use Rattle.common_laws.specs.Bags.{SameBag}
use Rattle.common_laws.proofs.BagLaws.{bag_append, bag_length, bag_map}
use Rattle.col_value.specs.declared.row.Asked.{Asked}
use Rattle.col_value.specs.declared.value.Value.{Value}
use Rattle.sql_bound.specs.declared.expr.Expr.{Expr}
use Rattle.sql_bound.specs.Outputs.{is_kept}
use Rattle.db_model.specs.Database.{Table}
use Rattle.db_model.specs.State.{Changes, pending_rows}
use Rattle.db_model.specs.Events.{matched_rows}
use Rattle.db_model.specs.Views.{committed_view}
use Rattle.row_matching.specs.Matching.{AreMatchesIn, committed_matches}

kept_rows : (keep : List Expr) (asked : List Asked) → map (λ a. a.row) (filter (λ a. is_kept keep a.row) asked) ≡ filter (is_kept keep) (map (λ a. a.row) asked)
kept_rows keep [] = refl
kept_rows keep (a ∷ asked) = by (is_kept keep a.row) (kept_rows keep asked)
  where
    by : (b : Bool) → map (λ x. x.row) (filter (λ x. is_kept keep x.row) asked) ≡ filter (is_kept keep) (map (λ x. x.row) asked)
        → map (λ x. x.row) (cond b (a ∷ filter (λ x. is_kept keep x.row) asked) (filter (λ x. is_kept keep x.row) asked)) ≡ cond b (a.row ∷ filter (is_kept keep) (map (λ x. x.row) asked)) (filter (is_kept keep) (map (λ x. x.row) asked))
    by true rest = ap (λ (xs : List (List Value)). a.row ∷ xs) rest
    by false rest = rest

pub matched_so : (keep : List Expr) (last : ℕ) (changes : List Changes) (t : Table) (committed : List Asked) (pending : List (List Value)) → AreMatchesIn keep last changes t committed pending
    → SameBag (map (λ a. a.row) committed ++ pending) (matched_rows keep changes last t)
matched_so keep last changes t committed pending are =
    bag_append (map (λ a. a.row) committed) pending (filter (is_kept keep) (map (λ a. a.row) (committed_view last changes t))) (filter (is_kept keep) (pending_rows t.name changes))
    (subst (SameBag (map (λ a. a.row) committed)) (kept_rows keep (committed_view last changes t)) (bag_map (λ (a : Asked). a.row) committed (committed_matches keep last changes t) are.committed_are))
    are.pending_are

pub matched_many : (keep : List Expr) (last : ℕ) (changes : List Changes) (t : Table) (committed : List Asked) (pending : List (List Value)) → AreMatchesIn keep last changes t committed pending
    → length committed + length pending ≡ length (matched_rows keep changes last t)
matched_many keep last changes t committed pending are =
    ap (λ (n : ℕ). n + length pending) (sym (length-map committed (λ a. a.row))) ∙ sym (length-append (map (λ a. a.row) committed) pending)
    ∙ bag_length (map (λ a. a.row) committed ++ pending) (matched_rows keep changes last t) (matched_so keep last changes t committed pending are)
