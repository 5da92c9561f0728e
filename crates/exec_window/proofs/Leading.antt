-- The leads of rows stand as the rows do by their keys, so that tuples that are sorted by leads first are in the order of a walk.
use Rattle.std.proofs.Common.{◌≡◌, ℕ, ◌+◌, ◌<◌, ◌++◌, map, get_or, drop, length, Bool, true, false, ℤ, pos, ◌<ℤ◌, List, [], ◌∷◌, refl, sym, ap, ap₂, ◌∙◌, arith, subst}
use Rattle.std.specs.Prelude.{if◌then◌else◌, slice_index_or}
use Rattle.std.specs.Ordering.{int_cmp, is_lt, nat_cmp, ordering_reverse, ordering_then, MatchOrdering}
use Rattle.std.specs.Cmp.{IsTotalOrder, int_cmp_total, int_ranks, on_total, then_total, tied_itself}
use Rattle.std.specs.List.{All, enumerate_from}
use Rattle.std.proofs.lemmas.List.{append_assoc, drop_more, map-append}
use Rattle.std.specs.List.Sorted.{IsPermutation, IsSorted}
use Rattle.std.proofs.lemmas.List.Elements.{All-push}
use Rattle.std.proofs.lemmas.List.Sorted.{All-permutation}
use Rattle.std.specs.declared.cmp.Ordering.{Ordering}
use Rattle.std.specs.declared.cmp.Ordering.TheVariants.{Less, Equal, Greater}
use Rattle.std.proofs.lemmas.Int.{ints}
use Rattle.col_value.specs.Laws.{value_total}
use Rattle.col_value.specs.Order.{row_cmp, value_cmp}
use Rattle.col_value.specs.declared.value.Value.{Value}
use Rattle.col_value.specs.declared.value.Value.TheVariants as value
use Rattle.sql_bound.specs.declared.query.BoundWindow.{BoundWindow}
use Rattle.sql_bound.specs.Outputs.{keys_of, window_cmp}
use Rattle.exec_window.specs.declared.leads.Lead.{Lead}
use Rattle.exec_window.specs.declared.tuples.Tuple.{Tuple}
use Rattle.exec_window.specs.Leads.{first_lead, is_exact, led_cmp, rank_of, second_lead, turned, walk_keys, IsLed}
use Rattle.exec_window.specs.Walks.{pair_of, walk_cmp}
use Rattle.exec_window.proofs.Ranks.{exact_same, rank_less}
use Rattle.exec_window.proofs.Walking.{walk_total}

abbrev value_at : List Value → ℕ × Bool → Value
value_at row k = slice_index_or row k.0 value.Null

-- by one key
by_key : Bool → Value → Value → Ordering
by_key down a b = if down then ordering_reverse (value_cmp a b) else value_cmp a b

key_less : (down : Bool) (a b : Value) → turned (rank_of a) down <ℤ turned (rank_of b) down → by_key down a b ≡ Less
unfolding by_key
key_less true a b h =
    let lt : rank_of b <ℤ rank_of a = omega (arith, ints, h) in
    ap ordering_reverse (value_total.antisymm a b ∙ ap ordering_reverse (rank_less b a lt))
key_less false a b h = rank_less a b h

key_turned : (down : Bool) (a b : Value) → by_key down a b ≡ ordering_reverse (by_key down b a)
unfolding by_key
key_turned true a b = ap ordering_reverse (value_total.antisymm a b)
key_turned false a b = value_total.antisymm a b

key_greater : (down : Bool) (a b : Value) → turned (rank_of b) down <ℤ turned (rank_of a) down → by_key down a b ≡ Greater
key_greater down a b h = key_turned down a b ∙ ap ordering_reverse (key_less down b a h)

same_rank : (down : Bool) (r s : ℤ) → turned r down ≡ turned s down → r ≡ s
same_rank true r s e = omega (arith, ints, e)
same_rank false r s e = e

key_equal : (down : Bool) (a b : Value) → rank_of a ≡ rank_of b → is_exact (rank_of a) ≡ true → by_key down a b ≡ Equal
unfolding by_key
key_equal true a b e h = ap ordering_reverse (ap (value_cmp a) (sym (exact_same a b e h)) ∙ tied_itself value_total a)
key_equal false a b e h = ap (value_cmp a) (sym (exact_same a b e h)) ∙ tied_itself value_total a

-- what leads tell of the first key is so
first_told : (k : ℕ × Bool) (ks : List (ℕ × Bool)) (a b : List Value) (later : Ordering) → (first_lead (k ∷ ks) a ≡ first_lead (k ∷ ks) b → later ≡ window_cmp (k ∷ ks) a b)
    → ordering_then (int_cmp (first_lead (k ∷ ks) a) (first_lead (k ∷ ks) b)) later ≡ window_cmp (k ∷ ks) a b
unfolding by_key
first_told k ks a b later tie = by (int_cmp (first_lead (k ∷ ks) a) (first_lead (k ∷ ks) b)) (int_ranks (first_lead (k ∷ ks) a) (first_lead (k ∷ ks) b))
  where
    by : (o : Ordering) → MatchOrdering o (first_lead (k ∷ ks) a <ℤ first_lead (k ∷ ks) b) (first_lead (k ∷ ks) a ≡ first_lead (k ∷ ks) b) (first_lead (k ∷ ks) b <ℤ first_lead (k ∷ ks) a)
        → ordering_then o later ≡ window_cmp (k ∷ ks) a b
    by Less h = sym (ap (λ (o : Ordering). ordering_then o (window_cmp ks a b)) (key_less k.1 (value_at a k) (value_at b k) h))
    by Equal h = tie h
    by Greater h = sym (ap (λ (o : Ordering). ordering_then o (window_cmp ks a b)) (key_greater k.1 (value_at a k) (value_at b k) h))

first_law : (ks : List (ℕ × Bool)) (a b : List Value) → ordering_then (int_cmp (first_lead ks a) (first_lead ks b)) (window_cmp ks a b) ≡ window_cmp ks a b
first_law [] a b = refl
first_law (k ∷ ks) a b = first_told k ks a b (window_cmp (k ∷ ks) a b) (λ e. refl)

second_law : (k : ℕ × Bool) (ks : List (ℕ × Bool)) (a b : List Value) → rank_of (value_at a k) ≡ rank_of (value_at b k)
    → ordering_then (int_cmp (second_lead (k ∷ ks) a) (second_lead (k ∷ ks) b)) (window_cmp (k ∷ ks) a b) ≡ window_cmp (k ∷ ks) a b
unfolding by_key
second_law k ks a b e = by (is_exact (rank_of (value_at a k))) (is_exact (rank_of (value_at b k))) refl (ap is_exact (sym e))
  where
    by : (s t : Bool) → is_exact (rank_of (value_at a k)) ≡ s → t ≡ s
        → ordering_then (int_cmp (if s then first_lead ks a else pos 0) (if t then first_lead ks b else pos 0)) (window_cmp (k ∷ ks) a b) ≡ window_cmp (k ∷ ks) a b
    by true true h g =
        let here : window_cmp (k ∷ ks) a b ≡ window_cmp ks a b = ap (λ (o : Ordering). ordering_then o (window_cmp ks a b)) (key_equal k.1 (value_at a k) (value_at b k) e h) in
        ap (ordering_then (int_cmp (first_lead ks a) (first_lead ks b))) here ∙ first_law ks a b ∙ sym here
    by true false h g = absurd cc
    by false true h g = absurd cc
    by false false h g = refl

pub leads_tell : (ks : List (ℕ × Bool)) (a b : List Value)
    → ordering_then (int_cmp (first_lead ks a) (first_lead ks b)) (ordering_then (int_cmp (second_lead ks a) (second_lead ks b)) (window_cmp ks a b)) ≡ window_cmp ks a b
leads_tell [] a b = refl
leads_tell (k ∷ ks) a b =
    first_told k ks a b (ordering_then (int_cmp (second_lead (k ∷ ks) a) (second_lead (k ∷ ks) b)) (window_cmp (k ∷ ks) a b))
    (λ e. second_law k ks a b (same_rank k.1 (rank_of (value_at a k)) (rank_of (value_at b k)) e))

-- ---- tuples

then_assoc : (a b c : Ordering) → ordering_then (ordering_then a b) c ≡ ordering_then a (ordering_then b c)
then_assoc Less b c = refl
then_assoc Equal b c = refl
then_assoc Greater b c = refl

-- the keys of a walk are those of its partition and those of its order
keys_split : (cs : List ℕ) (order : List (ℕ × Bool)) (a b : List Value)
    → ordering_then (row_cmp (keys_of cs a) (keys_of cs b)) (window_cmp order a b) ≡ window_cmp (map (λ c. (c, false)) cs ++ order) a b
keys_split [] order a b = refl
keys_split (c ∷ cs) order a b =
    let here = value_cmp (value_at a (c, false)) (value_at b (c, false)) in
    then_assoc here (row_cmp (keys_of cs a) (keys_of cs b)) (window_cmp order a b) ∙ ap (ordering_then here) (keys_split cs order a b)

-- a walk is by its keys, and then by all columns and the place
walk_split : (w : BoundWindow) (p q : ℕ × List Value)
    → walk_cmp w p q ≡ ordering_then (window_cmp (walk_keys w) p.1 q.1) (ordering_then (row_cmp p.1 q.1) (nat_cmp p.0 q.0))
walk_split w p q =
    let tail = ordering_then (row_cmp p.1 q.1) (nat_cmp p.0 q.0) in
    sym (then_assoc (row_cmp (keys_of w.partition p.1) (keys_of w.partition q.1)) (window_cmp w.order p.1 q.1) tail)
    ∙ ap (λ (o : Ordering). ordering_then o tail) (keys_split w.partition w.order p.1 q.1)

led_walk : (f s k tail : Ordering) → ordering_then f (ordering_then s k) ≡ k → ordering_then f (ordering_then s (ordering_then k tail)) ≡ ordering_then k tail
led_walk f s k tail e =
    ap (ordering_then f) (sym (then_assoc s k tail)) ∙ sym (then_assoc f (ordering_then s k) tail) ∙ ap (λ (o : Ordering). ordering_then o tail) e

led_alike : (w : BoundWindow) (a b : Tuple) → IsLed w a → IsLed w b → led_cmp w a b ≡ walk_cmp w (pair_of a) (pair_of b)
led_alike w a b la lb =
    let ks = walk_keys w in
    let x = a.row.now in
    let y = b.row.now in
    let f = int_cmp (first_lead ks x) (first_lead ks y) in
    let s = int_cmp (second_lead ks x) (second_lead ks y) in
    let split = walk_split w (pair_of a) (pair_of b) in
    ap₂ (λ (l m : Lead). ordering_then (int_cmp l.first m.first) (ordering_then (int_cmp l.second m.second) (walk_cmp w (pair_of a) (pair_of b)))) la lb
    ∙ ap (λ (o : Ordering). ordering_then f (ordering_then s o)) split
    ∙ led_walk f s (window_cmp ks x y) (ordering_then (row_cmp x y) (nat_cmp a.place b.place)) (leads_tell ks x y)
    ∙ sym split

pub led_total : (w : BoundWindow) → IsTotalOrder (led_cmp w)
led_total w =
    then_total (on_total (λ (t : Tuple). t.lead.first) int_cmp_total) (then_total (on_total (λ (t : Tuple). t.lead.second) int_cmp_total) (on_total pair_of (walk_total w)))

pub walk_sorted : (w : BoundWindow) (vs : List Tuple) → All (IsLed w) vs → IsSorted (led_cmp w) vs → IsSorted (λ a b. walk_cmp w (pair_of a) (pair_of b)) vs
walk_sorted w vs led up =
    λ k d low inside.
    ap is_lt (sym (led_alike w (get_or vs (k + 1) d) (get_or vs k d) (led (k + 1) d inside) (led k d (omega arith)))) ∙ up k d low inside

pub led_more : (w : BoundWindow) (ts next : List Tuple) (t : Tuple) → next ≡ ts ++ t ∷ [] → IsLed w t → All (IsLed w) ts → All (IsLed w) next
led_more w ts next t is led before = subst (All (IsLed w)) (sym is) (All-push (IsLed w) ts t before led)

-- a permutation of tuples with their leads, sorted by these first
pub sorted_walk : (w : BoundWindow) (ts vs : List Tuple) → All (IsLed w) ts → IsPermutation ts vs → IsSorted (led_cmp w) vs → IsSorted (λ a b. walk_cmp w (pair_of a) (pair_of b)) vs
sorted_walk w ts vs led same = walk_sorted w vs (All-permutation (IsLed w) ts vs same led)

-- the tuples of the rows up to a place, with one more
pub placed_more : (rows : List (List Value)) (i : ℕ) (row : List Value) (t : Tuple) (ts next : List Tuple) (all : List (ℕ × List Value)) → i < length rows → row ≡ get_or rows i row → pair_of t ≡ (i, row) → next ≡ ts ++ t ∷ []
    → map pair_of ts ++ enumerate_from i (drop i rows) ≡ all → map pair_of next ++ enumerate_from (i + 1) (drop (i + 1) rows) ≡ all
placed_more rows i row t ts next all lt is own more before =
    let rest = enumerate_from (i + 1) (drop (i + 1) rows) in
    let ahead : enumerate_from i (drop i rows) ≡ (i, row) ∷ rest = ap (enumerate_from i) (drop_more rows i row lt) ∙ ap (λ (r : List Value). (i, r) ∷ rest) (sym is) in
    ap (λ (l : List Tuple). map pair_of l ++ rest) more
    ∙ ap (λ (l : List (ℕ × List Value)). l ++ rest) (map-append pair_of ts (t ∷ []))
    ∙ append_assoc (map pair_of ts) (pair_of t ∷ []) rest
    ∙ ap (λ (p : ℕ × List Value). map pair_of ts ++ p ∷ rest) own
    ∙ ap (λ (l : List (ℕ × List Value)). map pair_of ts ++ l) (sym ahead)
    ∙ before
