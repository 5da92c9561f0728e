-- What the tuples of a sort are, and what a walk over them leaves.
use Rattle.std.proofs.Common.{◌≡◌, ℕ, ◌+◌, Bool, false, List, [], ◌∷◌, map, None, sym, arith, subst}
use Rattle.std.specs.List.{All, AllPairs, enumerate_from}
use Rattle.std.specs.List.Sorted.{IsPermutation, IsSorted}
use Rattle.std.specs.Ordering.{is_lt}
use Rattle.std.proofs.lemmas.List.Elements.{All-cons, All-head, All-map, All-nil, All-tail}
use Rattle.std.proofs.lemmas.Map.Views.{All-map-IsPermutation}
use Rattle.std.proofs.lemmas.List.Sorted.{ranks_by, sorted_far}
use Rattle.col_value.specs.declared.value.Value.{Value}
use Rattle.col_value.specs.declared.wide.Wide.TheVariants as wide
use Rattle.sql_bound.specs.declared.query.Aggregate.{Aggregate}
use Rattle.sql_bound.specs.declared.query.BoundWindow.{BoundWindow}
use Rattle.sql_bound.specs.Outputs.{window_value}
use Rattle.query_laws.proofs.Alike.{Alike, alike_map, alike_permuted}
use Rattle.exec_window.specs.declared.tuples.Tuple.{Tuple}
use Rattle.exec_window.specs.Partitions.{HasGreatPartition}
use Rattle.col_value.specs.Order.{IsRow}
use Rattle.exec_window.specs.Walks.{AllFit, IsRowOf, SomeGreat, pair_of, steps, walk_cmp, written}
use Rattle.exec_window.proofs.Orders.{Rises, pairs_rise}
use Rattle.exec_window.proofs.Walking.{walk_total}
use Rattle.exec_window.proofs.Whole.{all_filled}
use Rattle.exec_window.proofs.Placing.{all_written, none_too_great, places_apart, some_too_great}

rises_mapped : {X Y : Type 0} (f : X → Y) (lt : Y → Y → Bool) (xs : List X) → Rises (λ y x. lt (f y) (f x)) xs → Rises lt (map f xs)
rises_mapped f lt [] h = tt
rises_mapped f lt (x ∷ xs) h = (All-map (λ y. lt y (f x) ≡ false) f xs h.0, rises_mapped f lt xs h.1)

module _ (w : BoundWindow) (a : Aggregate) (rows : List (List Value)) (ts vs : List Tuple) (placed : map pair_of ts ≡ enumerate_from 0 rows) (same : IsPermutation ts vs) (up : IsSorted (λ x y. walk_cmp w (pair_of x) (pair_of y)) vs) where
  abbrev sorted : List (ℕ × List Value)
  sorted = map pair_of vs

  alike : Alike sorted (enumerate_from 0 rows)
  alike =
      let back : Alike (map pair_of vs) (map pair_of ts) = turned (alike_map pair_of ts vs (alike_permuted ts vs same)) in
      subst (Alike (map pair_of vs)) placed back
    where
      turned : {X : Type 0} {xs ys : List X} → Alike xs ys → Alike ys xs
      turned e = record { sums = λ f. sym (e.sums f) }

  rising : Rises (λ y x. is_lt (walk_cmp w y x)) sorted
  rising =
      let less : Tuple → Tuple → Bool = λ x y. is_lt (walk_cmp w (pair_of x) (pair_of y)) in
      let far : AllPairs (λ x y. less y x ≡ false) vs = λ i j d below inside. sorted_far less (ranks_by (walk_total w) pair_of) vs up i j d (omega arith) inside in
      rises_mapped pair_of (λ y x. is_lt (walk_cmp w y x)) vs (pairs_rise less vs far)

  pub ends : AllFit w a None sorted → written w.kind (steps w a None sorted) (map (λ r. wide.Null) rows) ≡ map (λ t. window_value rows t (w, a)) (enumerate_from 0 rows)
  ends fit = all_written w a rows sorted alike (steps w a None sorted) (all_filled w a sorted (places_apart w a rows sorted alike) rising fit)

  pub fits : AllFit w a None sorted → HasGreatPartition w a rows → ⊥
  fits fit = none_too_great w a rows sorted alike rising fit

  pub fails : SomeGreat w a None sorted → HasGreatPartition w a rows
  fails great = some_too_great w a rows sorted alike rising great

-- they are rows
unmapped : {X Y : Type 0} (f : X → Y) (P : Y → Type 0) (xs : List X) → All P (map f xs) → All (λ x. P (f x)) xs
unmapped f P [] h = All-nil (λ x. P (f x))
unmapped f P (x ∷ xs) h = All-cons (λ z. P (f z)) x xs (All-head P (f x) (map f xs) h) (unmapped f P xs (All-tail P (f x) (map f xs) h))

rows_in_place : (n : ℕ) (rows : List (List Value)) → All IsRow rows → All (λ (t : ℕ × List Value). IsRow t.1) (enumerate_from n rows)
rows_in_place n [] h = All-nil (λ (t : ℕ × List Value). IsRow t.1)
rows_in_place n (r ∷ rows) h = All-cons (λ (t : ℕ × List Value). IsRow t.1) (n, r) (enumerate_from (n + 1) rows) (All-head IsRow r rows h) (rows_in_place (n + 1) rows (All-tail IsRow r rows h))

pub tuples_are_rows : (rows : List (List Value)) (ts vs : List Tuple) → map pair_of ts ≡ enumerate_from 0 rows → IsPermutation ts vs → All IsRow rows → All IsRowOf vs
tuples_are_rows rows ts vs placed same all =
    let P : ℕ × List Value → Type 0 = λ t. IsRow t.1 in
    let here : All P (map pair_of ts) = subst (All P) (sym placed) (rows_in_place 0 rows all) in
    unmapped pair_of P vs (All-map-IsPermutation pair_of P ts vs same here)
