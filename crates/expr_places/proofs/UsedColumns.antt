-- A query uses a column exactly where not all of its parts look only at others.
use Rattle.std.proofs.Common.{◌≡◌, ℕ, ◌++◌, ◌||◌, Bool, true, false, cond, List, [], ◌∷◌, map, refl, sym, ap, ap₂, ◌∙◌}
use Rattle.std.specs.Prelude.{◌==◌, ◌&&◌, not}
use Rattle.std.specs.List.{list_all, list_any, flat_map}
use Rattle.std.proofs.lemmas.List.Folds.{list_all-append}
use Rattle.std.proofs.lemmas.List.Concat.{flat_map-cons}
use Rattle.sql_bound.specs.declared.expr.Expr.{Expr}
use Rattle.sql_bound.specs.declared.query.BoundQuery.{BoundQuery}
use Rattle.sql_bound.specs.declared.query.BoundWindow.{BoundWindow}
use Rattle.sql_bound.specs.Used.{columns_of, columns_of_window, is_used, used_columns}
use Rattle.expr_places.specs.Places.{is_other, looks_only, query_looks_only, window_looks_only}
use Rattle.expr_places.proofs.Looks.{aggregate_columns, arguments_look, exprs_look}

any_or_all : (column : ℕ) (xs : List ℕ) → list_any (λ u. u == column) xs ≡ not (list_all (is_other column) xs)
any_or_all column [] = refl
any_or_all column (x ∷ xs) = by (x == column) (any_or_all column xs)
  where
    by : (b : Bool) → list_any (λ u. u == column) xs ≡ not (list_all (is_other column) xs) → (b || list_any (λ u. u == column) xs) ≡ not (not b && list_all (is_other column) xs)
    by true e = refl
    by false e = e

keys_pass : (test : ℕ → Bool) (keys : List (ℕ × Bool)) → list_all (λ k. test k.0) keys ≡ list_all test (map (λ k. k.0) keys)
keys_pass test [] = refl
keys_pass test (k ∷ keys) = ap (λ (b : Bool). test k.0 && b) (keys_pass test keys)

windows_pass : (test : ℕ → Bool) (windows : List BoundWindow) → list_all (window_looks_only test) windows ≡ list_all test (flat_map columns_of_window windows)
windows_pass test [] = refl
windows_pass test (w ∷ windows) =
    ap₂ (λ (a b : Bool). a && b)
    (ap (λ (b : Bool). list_all test w.partition && b) (keys_pass test w.order) ∙ sym (list_all-append test w.partition (map (λ (k : ℕ × Bool). k.0) w.order)))
    (windows_pass test windows)
    ∙ sym (list_all-append test (columns_of_window w) (flat_map columns_of_window windows))
    ∙ ap (list_all test) (sym (flat_map-cons columns_of_window w windows))

items_pass : (test : ℕ → Bool) (grouped : Bool) (items : List Expr) → (grouped || list_all (looks_only test) items) ≡ list_all test (cond grouped [] (flat_map columns_of items))
items_pass test true items = refl
items_pass test false items = exprs_look test items

query_passes : (test : ℕ → Bool) (q : BoundQuery) → query_looks_only test q ≡ list_all test (used_columns q)
query_passes test q =
    let items = cond q.grouped [] (flat_map columns_of q.items) in
    let windows = flat_map columns_of_window q.windows in
    let aggs = flat_map aggregate_columns q.aggs in
    let keep = flat_map columns_of q.keep in
    ap₂ (λ (a b : Bool). a && b) (exprs_look test q.keep)
    (ap (λ (b : Bool). list_all test q.keys && b)
    (ap₂ (λ (a b : Bool). a && b) (arguments_look test q.aggs)
    (ap₂ (λ (a b : Bool). a && b) (windows_pass test q.windows) (items_pass test q.grouped q.items) ∙ sym (list_all-append test windows items))
    ∙ sym (list_all-append test aggs (windows ++ items)))
    ∙ sym (list_all-append test q.keys (aggs ++ (windows ++ items))))
    ∙ sym (list_all-append test keep (q.keys ++ (aggs ++ (windows ++ items))))

pub used_or_away : (q : BoundQuery) (column : ℕ) → is_used q column ≡ not (query_looks_only (is_other column) q)
used_or_away q column = any_or_all column (used_columns q) ∙ ap not (sym (query_passes (is_other column) q))
