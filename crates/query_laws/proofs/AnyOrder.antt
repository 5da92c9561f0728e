-- The output rows of a query are the same for every order of the rows of its FROM items.
use Rattle.std.proofs.Common.{◌≡◌, ℕ, ◌+◌, ◌++◌, if◌then◌else◌, Bool, true, false, List, [], ◌∷◌, map, sym, ap, subst}
use Rattle.std.proofs.lemmas.Cmp.{tied_itself}
use Rattle.std.specs.List.Sorted.{IsPermutation}
use Rattle.std.specs.Option.{option_map_or}
use Rattle.std.specs.Ordering.{is_eq}
use Rattle.col_value.specs.Laws.{tie_told, wide_row_exact, wide_row_total}
use Rattle.col_value.specs.Order.{wide_row_cmp}
use Rattle.col_value.specs.declared.value.Value.{Value}
use Rattle.col_value.specs.declared.wide.Wide.{Wide}
use Rattle.col_value.specs.declared.wide.Wide.TheVariants as wide
use Rattle.sql_bound.specs.declared.query.BoundQuery.{BoundQuery}
use Rattle.sql_bound.specs.declared.query.BoundWindow.{BoundWindow}
use Rattle.sql_bound.specs.Outputs.{aggregate_over, group_keys, group_scope, group_scopes, is_kept, kept, keys_of, members, output, scopes, seen_rows, tuple_scopes, tuples}
use Rattle.sql_bound.specs.Used.{blanked, is_used}
use Rattle.sql_bound.specs.Values.{Scope, is_true, of_row, value_of}
use Rattle.query_laws.specs.Laws.{ArePermuted}
use Rattle.query_laws.proofs.Alike.{Alike, alike_filter, alike_flat, alike_map, alike_permuted, alike_permutes}
use Rattle.query_laws.proofs.Once.{alike_distinct}
use Rattle.query_laws.proofs.Sames.{alike_refl, map_same, members_alike, same_aggregate}
use Rattle.query_laws.proofs.Windowed.{windows_alike}

same_scope : (q : BoundQuery) (rows others : List (List Value)) → Alike rows others → (group : List Value) → group_scope q rows group ≡ group_scope q others group
same_scope q rows others a group =
    ap (λ (ws : List Wide). let s : Scope = record { row = []; keys = group; aggs = ws } in s)
    (map_same (aggregate_over (members q.keys group rows)) (aggregate_over (members q.keys group others))
    (same_aggregate (members q.keys group rows) (members q.keys group others) (members_alike q.keys group rows others a)) q.aggs)

pub keys_alike : (keys : List ℕ) (rows others : List (List Value)) → Alike rows others → Alike (group_keys keys rows) (group_keys keys others)
keys_alike [] rows others a = alike_refl _
keys_alike (key ∷ keys) rows others a =
    alike_distinct (map (keys_of (key ∷ keys)) rows) (map (keys_of (key ∷ keys)) others) (alike_map (keys_of (key ∷ keys)) rows others a)

groups_alike : (q : BoundQuery) (rows others : List (List Value)) → Alike rows others → Alike (group_scopes q rows) (group_scopes q others)
groups_alike q rows others a =
    let shown = λ (s : Scope). option_map_or (λ e. is_true (value_of s e)) q.having true in
    let moved = alike_map (group_scope q others) (group_keys q.keys rows) (group_keys q.keys others) (keys_alike q.keys rows others a) in
    alike_filter shown (map (group_scope q rows) (group_keys q.keys rows)) (map (group_scope q others) (group_keys q.keys others))
    (subst (λ (ss : List Scope). Alike ss (map (group_scope q others) (group_keys q.keys others)))
    (sym (map_same (group_scope q rows) (group_scope q others) (same_scope q rows others a) (group_keys q.keys rows))) moved)

tuples_seen_alike : (windows : List BoundWindow) (q : BoundQuery) (rows others : List (List Value)) → Alike rows others → Alike (tuple_scopes windows q rows) (tuple_scopes windows q others)
tuples_seen_alike [] q rows others a = alike_map of_row rows others a
tuples_seen_alike (w ∷ windows) q rows others a = windows_alike q (seen_rows q rows) (seen_rows q others) (alike_map (blanked (is_used q) 0) rows others a)

scopes_alike : (q : BoundQuery) (rows others : List (List Value)) → Alike rows others → Alike (scopes q rows) (scopes q others)
scopes_alike q rows others a =
    elim q.grouped as (λ b. Alike (if b then group_scopes q rows else tuple_scopes q.windows q rows) (if b then group_scopes q others else tuple_scopes q.windows q others)) [
      | true ↦ groups_alike q rows others a
      | false ↦ tuples_seen_alike q.windows q rows others a
    ]

tuples_alike : (inputs others : List (List (List Value))) → ArePermuted inputs others → Alike (tuples inputs) (tuples others)
tuples_alike [] [] p = alike_refl _
tuples_alike [] (ys ∷ others) p = absurd p
tuples_alike (xs ∷ inputs) [] p = absurd p
tuples_alike (xs ∷ inputs) (ys ∷ others) p =
    alike_flat (λ row. map (λ rest. row ++ rest) (tuples inputs)) (λ row. map (λ rest. row ++ rest) (tuples others)) xs ys
    (λ row. alike_map (λ rest. row ++ rest) (tuples inputs) (tuples others) (tuples_alike inputs others p.1)) (alike_permuted xs ys p.0)

pub kept_alike : (q : BoundQuery) (inputs others : List (List (List Value))) → ArePermuted inputs others → Alike (kept q inputs) (kept q others)
kept_alike q inputs others p = alike_filter (is_kept q.keep) (tuples inputs) (tuples others) (tuples_alike inputs others p)

same_row : List Wide → List Wide → Bool
same_row a b = is_eq (wide_row_cmp a b)

pub output_permuted : (q : BoundQuery) (inputs others : List (List (List Value))) → ArePermuted inputs others → IsPermutation (output q inputs) (output q others)
unfolding same_row
output_permuted q inputs others p =
    alike_permutes same_row (λ a b e. wide_row_exact a b (tie_told (wide_row_cmp a b) e)) (λ a. ap is_eq (tied_itself wide_row_total a)) (output q inputs) (output q others)
    (alike_map (λ (s : Scope). map (value_of s) q.items) (scopes q (kept q inputs)) (scopes q (kept q others)) (scopes_alike q (kept q inputs) (kept q others) (kept_alike q inputs others p)))
