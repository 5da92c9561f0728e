-- What is collected, and the groups as their expressions see them.
use Rattle.std.proofs.Common.{◌≡◌, ℕ, zero, suc, ◌+◌, ◌<◌, ◌≤◌, ◌++◌, Bool, true, false, cond, if◌then◌else◌, List, [], ◌∷◌, length, get_or, drop, map, filter, refl, sym, ap, ap₂, ◌∙◌, arith, inl, inr, append_assoc, subst, add-one, drop-cons}
use Rattle.std.proofs.lemmas.List.{append-nil, drop_all, length-map, map-append}
use Rattle.std.proofs.lemmas.List.Elements.{All-cons, All-get_or, All-contains_itself, All-head, All-nil, All-tail, filter-append}
use Rattle.std.specs.Prelude.{Option, zip}
use Rattle.std.specs.List.{All, Contains}
use Rattle.col_value.specs.Order.{IsRow, IsValue}
use Rattle.col_value.specs.declared.value.Value.{Value}
use Rattle.col_value.specs.declared.value.Value.TheVariants.{Null}
use Rattle.col_value.specs.declared.wide.Wide.{Wide}
use Rattle.exec_group.specs.Groups.{AreGroups, DoneGroups, HasGreatSum}
use Rattle.query_laws.proofs.AtMost.{group_fits, group_is_row, members_are_rows}
use Rattle.query_laws.specs.Scopes.{IsGroupOf, is_shown}
use Rattle.sql_bound.specs.declared.query.BoundQuery.{BoundQuery}
use Rattle.query_laws.specs.Bounded.{bound_beside, IsBoundedQuery}
use Rattle.sql_bound.specs.declared.query.BoundWindow.{BoundWindow}
use Rattle.sql_bound.specs.Bounds.{bound_of_aggregate, column_bound, is_narrow}
use Rattle.sql_bound.specs.Outputs.{aggregate_over, group_keys, group_scope, group_scopes, keys_of, kept, members, output, same_keys, seen_rows, tuple_scopes, window_scopes, IsSumTooGreat}
use Rattle.sql_bound.specs.Used.{blanked, is_used}
use Rattle.sql_bound.specs.Values.{Scope}
use Rattle.query_order.proofs.Enough.{enough_itself}
use Rattle.query_order.specs.Enough.{IsEnough}
use Rattle.query_run.specs.Outputs.{HoldsOutput, IsAdded, items_in, scope_of, scopes_of, shown, IsPlain, IsWindowed}
use Rattle.query_run.specs.Windows.{HasGreatWindow}
use Rattle.query_run.specs.declared.collected.Collected.{Collected}

pub next_scope : (keys : List (List Value)) (aggs : List (List Wide)) (i : ℕ) (k : List Value) (a : List Wide) → i < length keys → k ≡ get_or keys i k → i < length aggs → a ≡ get_or aggs i a
    → scopes_of (drop i keys) (drop i aggs) ≡ scope_of k a ∷ scopes_of (drop (i + 1) keys) (drop (i + 1) aggs)
next_scope keys aggs i k a h is g are =
    ap₂ scopes_of (drop-cons keys i k h ∙ ap (λ (x : List Value). x ∷ drop (suc i) keys) (sym is)) (drop-cons aggs i a g ∙ ap (λ (x : List Wide). x ∷ drop (suc i) aggs) (sym are))
    ∙ ap (λ (j : ℕ). scope_of k a ∷ scopes_of (drop j keys) (drop j aggs)) (sym (add-one i))

pub keys_end : (keys : List (List Value)) (aggs : List (List Wide)) (i : ℕ) → length keys ≤ i → scopes_of (drop i keys) (drop i aggs) ≡ []
keys_end keys aggs i past = ap (λ (ks : List (List Value)). scopes_of ks (drop i aggs)) (drop_all i keys past)

shown_parts : (q : BoundQuery) (xs ys : List Scope) → shown q (xs ++ ys) ≡ shown q xs ++ shown q ys
shown_parts q xs ys = ap (map (items_in q)) (filter-append (is_shown q) xs ys) ∙ map-append (items_in q) (filter (is_shown q) xs) (filter (is_shown q) ys)

-- a group more
pub group_more : (q : BoundQuery) (keys : List (List Value)) (aggs : List (List Wide)) (i : ℕ) (k : List Value) (a : List Wide) (out next all : List (List Wide)) → i < length keys → k ≡ get_or keys i k → i < length aggs → a ≡ get_or aggs i a
    → next ≡ out ++ shown q (scope_of k a ∷ []) → out ++ shown q (scopes_of (drop i keys) (drop i aggs)) ≡ all → next ++ shown q (scopes_of (drop (i + 1) keys) (drop (i + 1) aggs)) ≡ all
group_more q keys aggs i k a out next all h is g are more before =
    let rest = scopes_of (drop (i + 1) keys) (drop (i + 1) aggs) in
    ap (λ (l : List (List Wide)). l ++ shown q rest) more ∙ append_assoc out (shown q (scope_of k a ∷ [])) (shown q rest)
    ∙ ap (λ (l : List (List Wide)). out ++ l) (sym (shown_parts q (scope_of k a ∷ []) rest))
    ∙ ap (λ (ss : List Scope). out ++ shown q ss) (sym (next_scope keys aggs i k a h is g are)) ∙ before

-- a group that HAVING doesn't keep, and one that it keeps
pub shown_none : (q : BoundQuery) (s : Scope) (out : List (List Wide)) → is_shown q s ≡ false → (all : List (List Wide)) → IsEnough q.order q.limit all out → IsEnough q.order q.limit (all ++ shown q (s ∷ [])) out
shown_none q s out hidden all enough =
    subst (λ (rows : List (List Wide)). IsEnough q.order q.limit rows out) (sym (ap (λ (b : Bool). all ++ map (items_in q) (cond b (s ∷ []) [])) hidden ∙ append-nil all)) enough

pub shown_one : (q : BoundQuery) (s : Scope) (row : List Wide) (old new : List (List Wide)) (bar next : Option (List Wide)) → is_shown q s ≡ true → row ≡ items_in q s → IsAdded q row old new bar next
    → (all : List (List Wide)) → IsEnough q.order q.limit all old → IsEnough q.order q.limit (all ++ shown q (s ∷ [])) new
shown_one q s row old new bar next shows is added all enough =
    subst (λ (rows : List (List Wide)). IsEnough q.order q.limit (all ++ rows) new) (ap (λ (r : List Wide). r ∷ []) is ∙ sym (ap (λ (b : Bool). map (items_in q) (cond b (s ∷ []) [])) shows)) (added.enough all enough)

-- rows that are enough of the first groups' ones, where these are still to come
pub record SoFar (q : BoundQuery) (out rest all : List (List Wide)) : Type 0 where
  pub done : List (List Wide)
  pub enough : IsEnough q.order q.limit done out
  pub whole : done ++ rest ≡ all

pub so_far_none : (q : BoundQuery) (out all : List (List Wide)) → out ≡ [] → SoFar q out all all
so_far_none q out all none = record {
  done = [];
  enough = subst (λ (rows : List (List Wide)). IsEnough q.order q.limit [] rows) (sym none) (enough_itself q.order q.limit []);
  whole = refl;
}

pub so_far_more : (q : BoundQuery) (keys : List (List Value)) (aggs : List (List Wide)) (i : ℕ) (k : List Value) (a : List Wide) (out next all : List (List Wide)) → i < length keys → k ≡ get_or keys i k → i < length aggs → a ≡ get_or aggs i a
    → ((done : List (List Wide)) → IsEnough q.order q.limit done out → IsEnough q.order q.limit (done ++ shown q (scope_of k a ∷ [])) next)
    → SoFar q out (shown q (scopes_of (drop i keys) (drop i aggs))) all → SoFar q next (shown q (scopes_of (drop (i + 1) keys) (drop (i + 1) aggs))) all
so_far_more q keys aggs i k a out next all h is g are goes before = record {
  done = before.done ++ shown q (scope_of k a ∷ []);
  enough = goes before.done before.enough;
  whole = group_more q keys aggs i k a before.done (before.done ++ shown q (scope_of k a ∷ [])) all h is g are refl before.whole;
}

pub so_far_all : (q : BoundQuery) (out rest all : List (List Wide)) → rest ≡ [] → SoFar q out rest all → IsEnough q.order q.limit all out
so_far_all q out rest all ends before =
    subst (λ (rows : List (List Wide)). IsEnough q.order q.limit rows out) (sym (append-nil before.done) ∙ ap (λ (rows : List (List Wide)). before.done ++ rows) (sym ends) ∙ before.whole) before.enough

pub group_here : (q : BoundQuery) (keys : List (List Value)) (aggs : List (List Wide)) (i : ℕ) (k : List Value) (a : List Wide) → i < length keys → k ≡ get_or keys i k → i < length aggs → a ≡ get_or aggs i a
    → All (IsGroupOf q) (scopes_of (drop i keys) (drop i aggs)) → IsGroupOf q (scope_of k a)
group_here q keys aggs i k a h is g are fit =
    let here : All (IsGroupOf q) (scope_of k a ∷ scopes_of (drop (i + 1) keys) (drop (i + 1) aggs)) = subst (All (IsGroupOf q)) (next_scope keys aggs i k a h is g are) fit in
    here 0 (scope_of k a) (omega arith)

pub groups_behind : (q : BoundQuery) (keys : List (List Value)) (aggs : List (List Wide)) (i : ℕ) (k : List Value) (a : List Wide) → i < length keys → k ≡ get_or keys i k → i < length aggs → a ≡ get_or aggs i a
    → All (IsGroupOf q) (scopes_of (drop i keys) (drop i aggs)) → All (IsGroupOf q) (scopes_of (drop (i + 1) keys) (drop (i + 1) aggs))
groups_behind q keys aggs i k a h is g are fit =
    let here : All (IsGroupOf q) (scope_of k a ∷ scopes_of (drop (i + 1) keys) (drop (i + 1) aggs)) = subst (All (IsGroupOf q)) (next_scope keys aggs i k a h is g are) fit in
    λ j d l. here (suc j) d (omega arith)

pub held_few : (q : BoundQuery) (rows : List (List Value)) (c : Collected) → HoldsOutput q rows c → length rows < column_bound
held_few q rows c held = subst (λ (n : ℕ). n < column_bound) held.taken held.few

made_scopes : {X : Type 0} (keys : X → List Value) (aggs : X → List Wide) (xs : List X) → scopes_of (map keys xs) (map aggs xs) ≡ map (λ x. scope_of (keys x) (aggs x)) xs
made_scopes keys aggs [] = refl
made_scopes keys aggs (x ∷ xs) = ap (λ (l : List Scope). scope_of (keys x) (aggs x) ∷ l) (made_scopes keys aggs xs)

same_list : {X : Type 0} (xs : List X) → map (λ x. x) xs ≡ xs
same_list [] = refl
same_list {X} (x ∷ xs) = ap (λ (l : List X). x ∷ l) (same_list xs)

module _ (q : BoundQuery) (rows : List (List Value)) (g : DoneGroups) (are : AreGroups q rows g) where
  abbrev aggs_of : List Value → List Wide
  aggs_of group = map (aggregate_over (members q.keys group rows)) q.aggs

  pub scopes_are : scopes_of g.keys g.aggs ≡ map (group_scope q rows) (group_keys q.keys rows)
  scopes_are = ap₂ scopes_of (are.keys ∙ sym (same_list (group_keys q.keys rows))) are.aggs ∙ made_scopes (λ k. k) aggs_of (group_keys q.keys rows)

  all_mapped : {X Y : Type 0} (f : X → Y) (P : Y → Type 0) (xs : List X) → All (λ x. P (f x)) xs → All P (map f xs)
  all_mapped f P [] p = λ k d h. absurd (omega arith)
  all_mapped f P (x ∷ xs) p = cons (p 0 x (omega arith)) (all_mapped f P xs (λ k d h. p (suc k) d (omega arith)))
    where
      cons : P (f x) → All P (map f xs) → All P (f x ∷ map f xs)
      cons a b zero d h = a
      cons a b (suc k) d h = b k d (omega arith)

  pub scopes_fit : All IsRow rows → length rows ≤ column_bound → (HasGreatSum q rows → ⊥) → All (IsGroupOf q) (scopes_of g.keys g.aggs)
  scopes_fit values few fits =
      subst (All (IsGroupOf q)) (sym scopes_are)
      (all_mapped (group_scope q rows) (IsGroupOf q) (group_keys q.keys rows) (λ k d h.
      let group = get_or (group_keys q.keys rows) k d in
      let there = All-get_or (Contains (group_keys q.keys rows)) (group_keys q.keys rows) k d h (All-contains_itself (group_keys q.keys rows)) in
      group_fits q group (members q.keys group rows) (aggs_of group)
      (group_is_row q.keys rows (group_keys q.keys rows) k group group refl values h (default (group_keys q.keys rows) k d h) refl)
      (members_are_rows q.keys group rows (members q.keys group rows) refl values)
      (shorter q.keys group rows few) (λ great. fits (group, great.0, there, great.1, great.2)) refl))
    where
      default : (xs : List (List Value)) (i : ℕ) (d : List Value) → i < length xs → get_or xs i d ≡ get_or xs i (get_or xs i d)
      default [] i d h = absurd (omega arith)
      default (x ∷ xs) zero d h = refl
      default (x ∷ xs) (suc i) d h = default xs i d (omega arith)

      shorter : (keys : List ℕ) (group : List Value) (rs : List (List Value)) → length rs ≤ column_bound → length (members keys group rs) ≤ column_bound
      shorter keys group rs l = omega (arith, at_most (λ r. same_keys group (keys_of keys r)) rs)
        where
          at_most : (p : List Value → Bool) (xs : List (List Value)) → length (filter p xs) ≤ length xs
          at_most p [] = omega arith
          at_most p (x ∷ xs) =
              elim (p x) as (λ b. length (cond b (x ∷ filter p xs) (filter p xs)) ≤ length (x ∷ xs)) [
                | true ↦ omega (arith, at_most p xs)
                | false ↦ omega (arith, at_most p xs)
              ]

pub groups_put_out : (q : BoundQuery) (inputs : List (List (List Value))) (g : DoneGroups) → q.grouped ≡ true → AreGroups q (kept q inputs) g → shown q (scopes_of g.keys g.aggs) ≡ output q inputs
groups_put_out q inputs g grouped are =
    ap (shown q) (scopes_are q (kept q inputs) g are)
    ∙ ap (λ (t : Bool). map (items_in q) (if t then group_scopes q (kept q inputs) else tuple_scopes q.windows q (kept q inputs))) (sym grouped)

not_grouped : (q : BoundQuery) (inputs : List (List (List Value))) → q.grouped ≡ false → map (items_in q) (tuple_scopes q.windows q (kept q inputs)) ≡ output q inputs
not_grouped q inputs rows = ap (λ (t : Bool). map (items_in q) (if t then group_scopes q (kept q inputs) else tuple_scopes q.windows q (kept q inputs))) (sym rows)

pub rows_put_out : (q : BoundQuery) (inputs : List (List (List Value))) (c : Collected) → IsPlain q → HoldsOutput q (kept q inputs) c → IsEnough q.order q.limit (output q inputs) c.rows.items
rows_put_out q inputs c plain held =
    subst (λ (l : List (List Wide)). IsEnough q.order q.limit l c.rows.items)
    (ap (λ (ws : List BoundWindow). map (items_in q) (tuple_scopes ws q (kept q inputs))) (sym plain.alone) ∙ not_grouped q inputs plain.rows) (held.rows plain)

-- ---- windows

with_windows : (ws : List BoundWindow) (q : BoundQuery) (rows : List (List Value)) → (length ws ≡ 0 → ⊥) → tuple_scopes ws q rows ≡ window_scopes q (seen_rows q rows)
with_windows [] q rows some = absurd (some refl)
with_windows (w ∷ ws) q rows some = refl

-- the tuples as windows see them are put out
pub windows_put_out : (q : BoundQuery) (inputs : List (List (List Value))) (c : Collected) → IsWindowed q → HoldsOutput q (kept q inputs) c → map (items_in q) (window_scopes q c.seen.items) ≡ output q inputs
windows_put_out q inputs c is held =
    ap (λ (seen : List (List Value)). map (items_in q) (window_scopes q seen)) (held.seen is)
    ∙ ap (map (items_in q)) (sym (with_windows q.windows q (kept q inputs) is.windows)) ∙ not_grouped q inputs is.rows

blanked_row : (test : ℕ → Bool) (first : ℕ) (row : List Value) → IsRow row → IsRow (blanked test first row)
blanked_row test first [] is = All-nil IsValue
blanked_row test first (v ∷ row) is =
    All-cons IsValue (if test first then v else Null) (blanked test (first + 1) row)
    (elim (test first) as (λ b. IsValue (if b then v else Null)) [ true ↦ All-head IsValue v row is | false ↦ tt ])
    (blanked_row test (first + 1) row (All-tail IsValue v row is))

-- they are rows, and few
pub seen_are_rows : (q : BoundQuery) (inputs : List (List (List Value))) (c : Collected) → IsWindowed q → All IsRow (kept q inputs) → HoldsOutput q (kept q inputs) c → All IsRow c.seen.items
seen_are_rows q inputs c is rows held =
    subst (All IsRow) (sym (held.seen is)) (all_blanked (kept q inputs) rows)
  where
    all_blanked : (rs : List (List Value)) → All IsRow rs → All IsRow (map (blanked (is_used q) 0) rs)
    all_blanked [] all = All-nil IsRow
    all_blanked (r ∷ rs) all = All-cons IsRow (blanked (is_used q) 0 r) (map (blanked (is_used q) 0) rs) (blanked_row (is_used q) 0 r (All-head IsRow r rs all)) (all_blanked rs (All-tail IsRow r rs all))

pub seen_few : (q : BoundQuery) (inputs : List (List (List Value))) (c : Collected) → IsWindowed q → HoldsOutput q (kept q inputs) c → length c.seen.items < column_bound
seen_few q inputs c is held =
    let long : length c.seen.items ≡ length (kept q inputs) = ap length (held.seen is) ∙ length-map (kept q inputs) (blanked (is_used q) 0) in
    omega (arith, held_few q (kept q inputs) c held)

-- ---- sums that are too great

group_or_not : {P : Type 0} (q : BoundQuery) → q.grouped ≡ false → q.grouped ≡ true → P
group_or_not q plain grouped = cc

pub groups_great : (q : BoundQuery) (inputs : List (List (List Value))) → q.grouped ≡ true → HasGreatSum q (kept q inputs) → IsSumTooGreat q inputs
groups_great q inputs grouped (group, a, there, asked, sum) = inl (grouped, group, a, there, asked, sum)

pub groups_fit : (q : BoundQuery) (inputs : List (List (List Value))) → q.grouped ≡ true → IsSumTooGreat q inputs → HasGreatSum q (kept q inputs)
groups_fit q inputs grouped (inl (is, group, a, there, asked, sum)) = (group, a, there, asked, sum)
groups_fit q inputs grouped (inr great) = group_or_not q great.0 grouped

pub windows_great : (q : BoundQuery) (inputs : List (List (List Value))) (c : Collected) → IsWindowed q → HoldsOutput q (kept q inputs) c → HasGreatWindow q c.seen.items → IsSumTooGreat q inputs
windows_great q inputs c is held great = here (subst (HasGreatWindow q) (held.seen is) great)
  where
    here : HasGreatWindow q (seen_rows q (kept q inputs)) → IsSumTooGreat q inputs
    here (p, there, (row, inside, sum)) = inr (is.rows, p, row, there, inside, sum)

pub windows_fit : (q : BoundQuery) (inputs : List (List (List Value))) (c : Collected) → IsWindowed q → HoldsOutput q (kept q inputs) c → IsSumTooGreat q inputs → HasGreatWindow q c.seen.items
windows_fit q inputs c is held (inl great) = group_or_not q is.rows great.0
windows_fit q inputs c is held (inr (plain, p, row, there, inside, sum)) = subst (HasGreatWindow q) (sym (held.seen is)) (p, there, (row, inside, sum))

-- without groups and windows no sum is
pub plain_fits : (q : BoundQuery) (inputs : List (List (List Value))) → IsPlain q → IsSumTooGreat q inputs → ⊥
plain_fits q inputs is (inl great) = group_or_not q is.rows great.0
plain_fits q inputs is (inr (plain, p, row, there, inside, sum)) = none (subst (λ (ws : List BoundWindow). Contains (zip ws q.aggs) p) is.alone there)
  where
    none : Contains [] p → ⊥
    none (k, lt, same) = absurd (omega arith)

-- ---- static bounds

pub plain_narrow : (q : BoundQuery) → IsBoundedQuery q → IsPlain q → All (λ e. is_narrow [] e ≡ true) q.items
plain_narrow q bounded is =
    subst (λ (bounds : List ℕ). All (λ e. is_narrow bounds e ≡ true) q.items)
    (ap (λ (t : Bool). if t then map bound_of_aggregate q.aggs else map bound_beside (zip q.windows q.aggs)) is.rows ∙ ap (λ (ws : List BoundWindow). map bound_beside (zip ws q.aggs)) is.alone) bounded.items

pub beside_narrow : (q : BoundQuery) → IsBoundedQuery q → q.grouped ≡ false → All (λ e. is_narrow (map bound_beside (zip q.windows q.aggs)) e ≡ true) q.items
beside_narrow q bounded plain =
    subst (λ (bounds : List ℕ). All (λ e. is_narrow bounds e ≡ true) q.items) (ap (λ (t : Bool). if t then map bound_of_aggregate q.aggs else map bound_beside (zip q.windows q.aggs)) plain) bounded.items
