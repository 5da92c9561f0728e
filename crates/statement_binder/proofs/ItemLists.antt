-- One more item, before which windows stand.
use Rattle.std.proofs.Common.{◌≡◌, sym, ap, ◌∙◌, ℕ, ◌+◌, ◌<◌, List, [], ◌∷◌, ◌++◌, length, get_or, drop}
use Rattle.std.proofs.lemmas.List.{at_drop_more, append_assoc, length-append}
use Rattle.sql_tree.specs.declared.query.Item.{Item}
use Rattle.sql_bound.specs.declared.expr.Expr.{Expr}
use Rattle.sql_bound.specs.declared.query.Aggregate.{Aggregate}
use Rattle.sql_binding.specs.Trees.{Scope, Bound, bound_item, windows_in, items_behind, rows_of, groups_of, all_aggs}

module _ (s : Scope) (xs : List Item) (i : ℕ) (x : Item) where
  abbrev rest : ℕ → List (Bound Expr)
  rest n = items_behind s (n + length (windows_in x.tree)) (drop (i + 1) xs)

  pub row_behind : (out : List Expr) (n : ℕ) → i < length xs → x ≡ get_or xs i x
      → (out ++ ((bound_item s n x.tree).row ∷ [])) ++ rows_of (rest n) ≡ out ++ rows_of (items_behind s n (drop i xs))
  row_behind out n h e =
      append_assoc out ((bound_item s n x.tree).row ∷ []) (rows_of (rest n))
      ∙ ap (λ (ys : List Expr). out ++ ys)
      (ap (λ (y : Item). rows_of (items_behind s n (y ∷ drop (i + 1) xs))) e ∙ sym (at_drop_more (λ (ys : List Item). rows_of (items_behind s n ys)) xs i x h))

  pub group_behind : (out : List Expr) (aggs : List Aggregate) (n : ℕ) → i < length xs → x ≡ get_or xs i x
      → (out ++ ((bound_item s n x.tree).group (length aggs) ∷ [])) ++ groups_of (rest n) (length (aggs ++ (bound_item s n x.tree).aggs)) ≡ out ++ groups_of (items_behind s n (drop i xs)) (length aggs)
  group_behind out aggs n h e =
      let b = bound_item s n x.tree in
      append_assoc out (b.group (length aggs) ∷ []) (groups_of (rest n) (length (aggs ++ b.aggs)))
      ∙ ap (λ (ys : List Expr). out ++ ys)
      (ap (λ (m : ℕ). b.group (length aggs) ∷ groups_of (rest n) m) (length-append aggs b.aggs)
      ∙ (ap (λ (y : Item). groups_of (items_behind s n (y ∷ drop (i + 1) xs)) (length aggs)) e
      ∙ sym (at_drop_more (λ (ys : List Item). groups_of (items_behind s n ys) (length aggs)) xs i x h)))

  pub aggs_behind : (aggs : List Aggregate) (n : ℕ) → i < length xs → x ≡ get_or xs i x
      → (aggs ++ (bound_item s n x.tree).aggs) ++ all_aggs (rest n) ≡ aggs ++ all_aggs (items_behind s n (drop i xs))
  aggs_behind aggs n h e =
      let b = bound_item s n x.tree in
      append_assoc aggs b.aggs (all_aggs (rest n))
      ∙ ap (λ (gs : List Aggregate). aggs ++ gs)
      (ap (λ (y : Item). all_aggs (items_behind s n (y ∷ drop (i + 1) xs))) e
      ∙ sym (at_drop_more (λ (ys : List Item). all_aggs (items_behind s n ys)) xs i x h))
