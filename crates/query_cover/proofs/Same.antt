-- What a query makes of tuples is what it makes of them with NULL in the columns that it doesn't use.
use Rattle.std.proofs.Common.{◌≡◌, ℕ, suc, ◌<◌, not, Bool, true, false, cond, List, [], ◌∷◌, length, map, filter, Option, Some, None, refl, sym, ap, ap₂, ◌∙◌, inl, inr, subst}
use Rattle.std.specs.Prelude.{◌&&◌}
use Rattle.std.specs.Option.{option_map_or}
use Rattle.std.specs.List.{list_all, Contains}
use Rattle.std.proofs.lemmas.List.Folds.{list_all_at}
use Rattle.col_value.specs.declared.value.Value.{Value}
use Rattle.col_value.specs.declared.wide.Wide.{Wide}
use Rattle.expr_places.specs.Places.{looks_only}
use Rattle.expr_places.proofs.Same.{columns_decide}
use Rattle.row_history.proofs.Histories.{filter_mapped, filter_same, map_mapped}
use Rattle.sql_bound.specs.declared.expr.Expr.{Expr}
use Rattle.sql_bound.specs.declared.query.Aggregate.{Aggregate}
use Rattle.sql_bound.specs.declared.query.BoundQuery.{BoundQuery}
use Rattle.sql_bound.specs.declared.query.BoundWindow.{BoundWindow}
use Rattle.sql_bound.specs.Bounds.{result_bound}
use Rattle.sql_bound.specs.Outputs.{aggregate_over, aggregated, distinct, group_keys, group_scope, group_scopes, in_partition, is_kept, keys_of, members, same_keys, scopes, seen_rows, size_of, tuple_scopes, values_over, window_scopes, HasGreatSum, IsGreatSum}
use Rattle.sql_bound.specs.Values.{Scope, is_null, is_true, of_row, value_of}
use Rattle.sql_bound.specs.Used.{blanked, is_used}
use Rattle.expr_places.proofs.Looks.{aggs_look, argument_looks, items_look, keep_looks, keys_look, left, right}
use Rattle.query_cover.proofs.Blanked.{blank_agrees, blank_twice, map_same}

-- the items over some tuples, in groups or alone
abbrev pub outputs : BoundQuery → List (List Value) → List (List Wide)
outputs q rows = map (λ s. map (value_of s) q.items) (scopes q rows)

module _ (test : ℕ → Bool) where
  abbrev blank : List Value → List Value
  blank row = blanked test 0 row

  value_same : (e : Expr) (row : List Value) → looks_only test e ≡ true → value_of (of_row (blank row)) e ≡ value_of (of_row row) e
  value_same e row looks = columns_decide test (blank row) row e (blank_agrees test row) looks

  values_same : (es : List Expr) (row : List Value) → list_all (looks_only test) es ≡ true → map (value_of (of_row (blank row))) es ≡ map (value_of (of_row row)) es
  values_same [] row look = refl
  values_same (e ∷ es) row look =
      ap₂ (λ (w : Wide) (ws : List Wide). w ∷ ws) (value_same e row (left (looks_only test e) (list_all (looks_only test) es) look))
      (values_same es row (right (looks_only test e) (list_all (looks_only test) es) look))

  kept_same : (keep : List Expr) (row : List Value) → list_all (looks_only test) keep ≡ true → is_kept keep (blank row) ≡ is_kept keep row
  kept_same [] row look = refl
  kept_same (e ∷ es) row look =
      ap₂ (λ (w : Wide) (b : Bool). is_true w && b) (value_same e row (left (looks_only test e) (list_all (looks_only test) es) look))
      (kept_same es row (right (looks_only test e) (list_all (looks_only test) es) look))

  pub all_kept_same : (keep : List Expr) (rows : List (List Value)) → list_all (looks_only test) keep ≡ true → filter (is_kept keep) (map blank rows) ≡ map blank (filter (is_kept keep) rows)
  all_kept_same keep rows look =
      filter_mapped (is_kept keep) blank rows ∙ ap (map blank) (filter_same (λ row. is_kept keep (blank row)) (is_kept keep) (λ row. kept_same keep row look) rows)

  keys_same : (keys : List ℕ) (row : List Value) → list_all test keys ≡ true → keys_of keys (blank row) ≡ keys_of keys row
  keys_same [] row look = refl
  keys_same (k ∷ keys) row look =
      ap₂ (λ (v : Value) (vs : List Value). v ∷ vs) (blank_agrees test row k (left (test k) (list_all test keys) look))
      (keys_same keys row (right (test k) (list_all test keys) look))

  groups_same : (keys : List ℕ) (rows : List (List Value)) → list_all test keys ≡ true → group_keys keys (map blank rows) ≡ group_keys keys rows
  groups_same [] rows look = refl
  groups_same (k ∷ keys) rows look =
      ap distinct
      (map_mapped (keys_of (k ∷ keys)) blank rows ∙ map_same (λ row. keys_of (k ∷ keys) (blank row)) (keys_of (k ∷ keys)) (λ row. keys_same (k ∷ keys) row look) rows)

  members_same : (keys : List ℕ) (group : List Value) (rows : List (List Value)) → list_all test keys ≡ true → members keys group (map blank rows) ≡ map blank (members keys group rows)
  members_same keys group rows look =
      filter_mapped (λ row. same_keys group (keys_of keys row)) blank rows
      ∙ ap (map blank)
      (filter_same (λ row. same_keys group (keys_of keys (blank row))) (λ row. same_keys group (keys_of keys row)) (λ row. ap (same_keys group) (keys_same keys row look)) rows)

  over_same : (arg : Option Expr) (rows : List (List Value)) → option_map_or (looks_only test) arg true ≡ true → values_over arg (map blank rows) ≡ values_over arg rows
  over_same None rows look = refl
  over_same (Some e) rows look =
      ap (filter (λ (w : Wide). not (is_null w)))
      (map_mapped (λ (row : List Value). value_of (of_row row) e) blank rows
      ∙ map_same (λ (row : List Value). value_of (of_row (blank row)) e) (λ (row : List Value). value_of (of_row row) e) (λ row. value_same e row look) rows)

  length_same : (rows : List (List Value)) → length (map blank rows) ≡ length rows
  length_same [] = refl
  length_same (row ∷ rows) = ap suc (length_same rows)

  aggregate_same : (a : Aggregate) (rows : List (List Value)) → argument_looks test a ≡ true → aggregate_over (map blank rows) a ≡ aggregate_over rows a
  aggregate_same a rows look = ap₂ (aggregated a.kind) (length_same rows) (over_same a.arg rows look)

  aggregates_same : (aggs : List Aggregate) (rows : List (List Value)) → list_all (argument_looks test) aggs ≡ true → map (aggregate_over (map blank rows)) aggs ≡ map (aggregate_over rows) aggs
  aggregates_same [] rows look = refl
  aggregates_same (a ∷ aggs) rows look =
      ap₂ (λ (w : Wide) (ws : List Wide). w ∷ ws) (aggregate_same a rows (left (argument_looks test a) (list_all (argument_looks test) aggs) look))
      (aggregates_same aggs rows (right (argument_looks test a) (list_all (argument_looks test) aggs) look))

  scope_same : (q : BoundQuery) (rows : List (List Value)) (group : List Value) → list_all test q.keys ≡ true → list_all (argument_looks test) q.aggs ≡ true
      → group_scope q (map blank rows) group ≡ group_scope q rows group
  scope_same q rows group keys aggs =
      ap (λ (ws : List Wide). let s : Scope = record { row = []; keys = group; aggs = ws } in s)
      (ap (λ (ms : List (List Value)). map (aggregate_over ms) q.aggs) (members_same q.keys group rows keys) ∙ aggregates_same q.aggs (members q.keys group rows) aggs)

  group_scopes_same : (q : BoundQuery) (rows : List (List Value)) → list_all test q.keys ≡ true → list_all (argument_looks test) q.aggs ≡ true → group_scopes q (map blank rows) ≡ group_scopes q rows
  group_scopes_same q rows keys aggs =
      ap (filter (λ (s : Scope). option_map_or (λ e. is_true (value_of s e)) q.having true))
      (map_same (group_scope q (map blank rows)) (group_scope q rows) (λ group. scope_same q rows group keys aggs) (group_keys q.keys (map blank rows))
      ∙ ap (map (group_scope q rows)) (groups_same q.keys rows keys))

  -- the items over tuples that stand alone
  alone_same : (items : List Expr) (rows : List (List Value)) → list_all (looks_only test) items ≡ true
      → map (λ s. map (value_of s) items) (map of_row (map blank rows)) ≡ map (λ s. map (value_of s) items) (map of_row rows)
  alone_same items [] look = refl
  alone_same items (row ∷ rows) look = ap₂ (λ (ws : List Wide) (wss : List (List Wide)). ws ∷ wss) (values_same items row look) (alone_same items rows look)

  great_sum_same : (q : BoundQuery) (rows : List (List Value)) (group : List Value) (a : Aggregate) → list_all test q.keys ≡ true → argument_looks test a ≡ true
      → size_of (values_over a.arg (members q.keys group (map blank rows))) ≡ size_of (values_over a.arg (members q.keys group rows))
  great_sum_same q rows group a keys look =
      ap (λ (ms : List (List Value)). size_of (values_over a.arg ms)) (members_same q.keys group rows keys) ∙ ap size_of (over_same a.arg (members q.keys group rows) look)

one_looks : (test : ℕ → Bool) (aggs : List Aggregate) (a : Aggregate) → list_all (argument_looks test) aggs ≡ true → Contains aggs a → argument_looks test a ≡ true
one_looks test aggs a look (k, lt, is) = by (argument_looks test a) refl
  where
    by : (b : Bool) → argument_looks test a ≡ b → argument_looks test a ≡ true
    by true told = told
    by false told =
        let none : list_all (argument_looks test) aggs ≡ false = list_all_at (argument_looks test) aggs k a lt (ap (argument_looks test) is ∙ told) in
        absurd (cc)

-- ---- windows

seen_again : (q : BoundQuery) (rows : List (List Value)) → seen_rows q (map (blanked (is_used q) 0) rows) ≡ seen_rows q rows
seen_again q rows =
    map_mapped (blanked (is_used q) 0) (blanked (is_used q) 0) rows
    ∙ map_same (λ (row : List Value). blanked (is_used q) 0 (blanked (is_used q) 0 row)) (blanked (is_used q) 0) (λ row. blank_twice (is_used q) 0 row) rows

abbrev items_of : BoundQuery → List Scope → List (List Wide)
items_of q ss = map (λ s. map (value_of s) q.items) ss

tuples_same : (windows : List BoundWindow) (q : BoundQuery) (rows : List (List Value)) → q.grouped ≡ false
    → items_of q (tuple_scopes windows q (map (blanked (is_used q) 0) rows)) ≡ items_of q (tuple_scopes windows q rows)
tuples_same [] q rows plain = alone_same (is_used q) q.items rows (items_look q plain)
tuples_same (w ∷ windows) q rows plain = ap (λ (seen : List (List Value)). items_of q (window_scopes q seen)) (seen_again q rows)

pub great_from : (q : BoundQuery) (rows : List (List Value)) → HasGreatSum q (map (blanked (is_used q) 0) rows) → HasGreatSum q rows
great_from q rows (inl (grouped, group, a, here, there, big)) = inl (
  grouped,
  group,
  a,
  subst (λ (gs : List (List Value)). Contains gs group) (groups_same (is_used q) q.keys rows (keys_look q)) here,
  there,
  (big.0, subst (λ (n : ℕ). result_bound < n) (great_sum_same (is_used q) q rows group a (keys_look q) (one_looks (is_used q) q.aggs a (aggs_look q) there)) big.1),
)
great_from q rows (inr (plain, p, row, window, here, big)) = inr (
  plain,
  p,
  row,
  window,
  subst (λ (seen : List (List Value)). Contains seen row) (seen_again q rows) here,
  subst (λ (seen : List (List Value)). IsGreatSum (filter (in_partition p.0 row) seen) p.1) (seen_again q rows) big,
)

pub great_to : (q : BoundQuery) (rows : List (List Value)) → HasGreatSum q rows → HasGreatSum q (map (blanked (is_used q) 0) rows)
great_to q rows (inl (grouped, group, a, here, there, big)) = inl (
  grouped,
  group,
  a,
  subst (λ (gs : List (List Value)). Contains gs group) (sym (groups_same (is_used q) q.keys rows (keys_look q))) here,
  there,
  (big.0, subst (λ (n : ℕ). result_bound < n) (sym (great_sum_same (is_used q) q rows group a (keys_look q) (one_looks (is_used q) q.aggs a (aggs_look q) there))) big.1),
)
great_to q rows (inr (plain, p, row, window, here, big)) = inr (
  plain,
  p,
  row,
  window,
  subst (λ (seen : List (List Value)). Contains seen row) (sym (seen_again q rows)) here,
  subst (λ (seen : List (List Value)). IsGreatSum (filter (in_partition p.0 row) seen) p.1) (sym (seen_again q rows)) big,
)

pub query_same : (q : BoundQuery) (rows : List (List Value)) → outputs q (map (blanked (is_used q) 0) rows) ≡ outputs q rows
query_same q rows = by q.grouped refl
  where
    blank : List (List Value)
    blank = map (blanked (is_used q) 0) rows

    by : (b : Bool) → q.grouped ≡ b → outputs q blank ≡ outputs q rows
    by true is =
        ap (λ (b : Bool). items_of q (cond b (group_scopes q blank) (tuple_scopes q.windows q blank))) is
        ∙ ap (items_of q) (group_scopes_same (is_used q) q rows (keys_look q) (aggs_look q))
        ∙ sym (ap (λ (b : Bool). items_of q (cond b (group_scopes q rows) (tuple_scopes q.windows q rows))) is)
    by false is =
        ap (λ (b : Bool). items_of q (cond b (group_scopes q blank) (tuple_scopes q.windows q blank))) is
        ∙ tuples_same q.windows q rows is
        ∙ sym (ap (λ (b : Bool). items_of q (cond b (group_scopes q rows) (tuple_scopes q.windows q rows))) is)

pub query_kept_same : (q : BoundQuery) (rows : List (List Value)) → filter (is_kept q.keep) (map (blanked (is_used q) 0) rows) ≡ map (blanked (is_used q) 0) (filter (is_kept q.keep) rows)
query_kept_same q rows = all_kept_same (is_used q) q.keep rows (keep_looks q)
