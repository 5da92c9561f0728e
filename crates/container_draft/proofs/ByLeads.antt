-- The leads of rows stand as the rows do, so that places that are sorted by leads first are in the order of a container.
use Rattle.std.proofs.Common.{◌≡◌, ℕ, zero, suc, ◌+◌, ◌^◌, ◌<◌, ◌≤◌, ◌&&◌, ◌||◌, Bool, true, false, cond, List, [], ◌∷◌, ◌++◌, length, map, take, get_or, ℤ, pos, ◌<ℤ◌, ◌≤ℤ◌, refl, sym, ap, ap₂, ◌∙◌, arith, subst}
use Rattle.std.specs.Prelude.{◌==◌}
use Rattle.std.specs.Ordering.{int_cmp, is_lt, nat_cmp, ordering_reverse, ordering_then, MatchOrdering}
use Rattle.std.specs.Cmp.{ranks, IsTotalOrder, int_cmp_total, int_ranks, on_total, then_total, tied_itself}
use Rattle.std.specs.List.{All}
use Rattle.std.specs.List.Sorted.{IsPermutation, IsSorted}
use Rattle.std.proofs.lemmas.List.{get_or_default, get_or-map, length-map, map-append, take_more}
use Rattle.std.proofs.lemmas.List.Elements.{All-push, All-weaker}
use Rattle.std.proofs.lemmas.List.Sorted.{All-permutation}
use Rattle.std.proofs.lemmas.Map.Views.{All-map-IsPermutation}
use Rattle.common_laws.specs.Bags.{SameBag}
use Rattle.common_laws.proofs.BagLaws.{bag_map, bag_of_permutation}
use Rattle.std.specs.declared.cmp.Ordering.{Ordering}
use Rattle.std.specs.declared.cmp.Ordering.TheVariants.{Less, Equal, Greater}
use Rattle.std.proofs.lemmas.Bool.Decides.{nat_tests}
use Rattle.std.proofs.lemmas.Int.{ints}
use Rattle.col_value.specs.Laws.{value_total}
use Rattle.col_value.specs.Order.{projected, row_cmp, value_cmp}
use Rattle.col_value.specs.declared.value.Value.{Value}
use Rattle.col_value.specs.declared.value.Value.TheVariants as value
use Rattle.col_value.specs.declared.row.Asked.{Asked}
use Rattle.catalog_types.specs.declared.catalogue.Projection.{Projection}
use Rattle.container_writer.specs.Ordered.{container_cmp}
use Rattle.container_writer.proofs.Orders.{container_total}
use Rattle.container_draft.specs.declared.leading.Led.{Led}
use Rattle.container_draft.specs.declared.leads.Keys.{Keys}
use Rattle.container_draft.specs.declared.leads.Lead.{Lead}
use Rattle.container_draft.specs.Led.{place_of}
use Rattle.container_draft.specs.Placed.{asked_at}
use Rattle.container_draft.specs.Ranks.{far_rank, is_exact, is_far, is_near, near_rank, rank_of}
use Rattle.container_draft.specs.Leads.{first_but, first_key, first_lead, is_either, key_but, keys_of, second_key, second_lead, third_key, third_lead, led_cmp, value_at, IsLed}
use Rattle.block_codec.specs.Held.{number_value}
use Rattle.ros_container.specs.Rows.{column_values}
use Rattle.container_draft.proofs.Gathering.{at_row}
use Rattle.container_draft.proofs.Ranking.{exact_same, rank_less}

-- ---- the first column in which two rows differ tells how they stand

not_below_null : (v : Value) → value_cmp v value.Null ≡ Less → ⊥
not_below_null value.Null e = cc
not_below_null (value.Bool b) e = cc
not_below_null (value.Int n) e = cc
not_below_null (value.Date d) e = cc
not_below_null (value.Text t) e = cc

row_told : (us vs : List Value) (c : ℕ) → ((j : ℕ) → j < c → value_at us j ≡ value_at vs j) → value_cmp (value_at us c) (value_at vs c) ≡ Less → row_cmp us vs ≡ Less
row_told [] [] c before less = absurd (not_below_null value.Null less)
row_told [] (v ∷ vs) c before less = refl
row_told (u ∷ us) [] c before less = absurd (not_below_null (value_at (u ∷ us) c) less)
row_told (u ∷ us) (v ∷ vs) zero before less = ap (λ (o : Ordering). ordering_then o (row_cmp us vs)) less
row_told (u ∷ us) (v ∷ vs) (suc c) before less =
    let same : u ≡ v = before 0 (omega arith) in
    let tie : value_cmp u v ≡ Equal = ap (value_cmp u) (sym same) ∙ tied_itself value_total u in
    ap (λ (o : Ordering). ordering_then o (row_cmp us vs)) tie ∙ row_told us vs c (λ j lt. before (suc j) (omega (arith, lt))) less

either_same : (p q k : ℕ) (a b : List Value) → value_at a p ≡ value_at b p → value_at a q ≡ value_at b q → is_either p q k ≡ true → value_at a k ≡ value_at b k
either_same p q k a b one other e = by (k == p) (k == q) refl refl e
  where
    by : (x y : Bool) → (k == p) ≡ x → (k == q) ≡ y → (x || y) ≡ true → value_at a k ≡ value_at b k
    by true y m n e = let is : k ≡ p = grind (arith, nat_tests) in ap (value_at a) is ∙ one ∙ ap (value_at b) (sym is)
    by false true m n e = let is : k ≡ q = grind (arith, nat_tests) in ap (value_at a) is ∙ other ∙ ap (value_at b) (sym is)
    by false false m n e = absurd cc

columns_told : (p q : ℕ) (a b : List Value) → value_at a p ≡ value_at b p → value_at a q ≡ value_at b q → value_cmp (value_at a (first_but p q)) (value_at b (first_but p q)) ≡ Less → row_cmp a b ≡ Less
columns_told p q a b one other less = by (is_either p q 0) (is_either p q 1) refl refl less
  where
    by : (x y : Bool) → is_either p q 0 ≡ x → is_either p q 1 ≡ y → value_cmp (value_at a (cond x (cond y 2 1) 0)) (value_at b (cond x (cond y 2 1) 0)) ≡ Less → row_cmp a b ≡ Less
    by false y m n less = row_told a b 0 (λ j lt. absurd (omega (arith, lt))) less
    by true false m n less =
        let zeroth = either_same p q 0 a b one other m in
        row_told a b 1 (λ j lt. let is : j ≡ 0 = omega (arith, lt) in subst (λ k. value_at a k ≡ value_at b k) (sym is) zeroth) less
    by true true m n less =
        let zeroth = either_same p q 0 a b one other m in
        let next = either_same p q 1 a b one other n in
        row_told a b 2 (λ j lt. at j lt zeroth next) less
      where
        at : (j : ℕ) → j < 2 → value_at a 0 ≡ value_at b 0 → value_at a 1 ≡ value_at b 1 → value_at a j ≡ value_at b j
        at zero lt zeroth next = zeroth
        at (suc zero) lt zeroth next = next
        at (suc (suc j)) lt zeroth next = absurd (omega (arith, lt))

-- the order by the sort columns, and then by all
abbrev pub row_order : List ℕ → List Value → List Value → Ordering
row_order sort a b = ordering_then (row_cmp (projected a sort) (projected b sort)) (row_cmp a b)

then_assoc : (a b c : Ordering) → ordering_then (ordering_then a b) c ≡ ordering_then a (ordering_then b c)
then_assoc Less b c = refl
then_assoc Equal b c = refl
then_assoc Greater b c = refl

key_told : (p q : ℕ) (sort : List ℕ) (a b : List Value) → value_at a p ≡ value_at b p → value_at a q ≡ value_at b q → value_cmp (value_at a (key_but p q sort)) (value_at b (key_but p q sort)) ≡ Less → row_order sort a b ≡ Less
key_told p q [] a b one other less = columns_told p q a b one other less
key_told p q (k ∷ ks) a b one other less = by (key_told p q ks a b one other) (is_either p q k) refl less
  where
    by : (value_cmp (value_at a (key_but p q ks)) (value_at b (key_but p q ks)) ≡ Less → row_order ks a b ≡ Less)
        → (x : Bool) → is_either p q k ≡ x → value_cmp (value_at a (cond x (key_but p q ks) k)) (value_at b (cond x (key_but p q ks) k)) ≡ Less → row_order (k ∷ ks) a b ≡ Less
    by further true m less =
        let same = either_same p q k a b one other m in
        let tie : value_cmp (value_at a k) (value_at b k) ≡ Equal = ap (value_cmp (value_at a k)) (sym same) ∙ tied_itself value_total (value_at a k) in
        ap (λ (o : Ordering). ordering_then (ordering_then o (row_cmp (projected a ks) (projected b ks))) (row_cmp a b)) tie ∙ further less
    by further false m less = ap (λ (o : Ordering). ordering_then (ordering_then o (row_cmp (projected a ks) (projected b ks))) (row_cmp a b)) less

first_told : (sort : List ℕ) (a b : List Value) → value_cmp (value_at a (first_key sort)) (value_at b (first_key sort)) ≡ Less → row_order sort a b ≡ Less
first_told [] a b less = row_told a b 0 (λ j lt. absurd (omega (arith, lt))) less
first_told (k ∷ ks) a b less = ap (λ (o : Ordering). ordering_then (ordering_then o (row_cmp (projected a ks) (projected b ks))) (row_cmp a b)) less

-- ---- leads

exact_alike : (high : ℤ) (texts : Bool) (x y : Value) → pos 0 ≤ℤ high → rank_of high texts x ≡ rank_of high texts y → is_exact high texts x ≡ is_exact high texts y
exact_alike high texts x y far e = by (is_exact high texts x) (is_exact high texts y) refl refl
  where
    by : (s t : Bool) → is_exact high texts x ≡ s → is_exact high texts y ≡ t → is_exact high texts x ≡ is_exact high texts y
    by true t m n = ap (is_exact high texts) (exact_same high texts x y far e m)
    by false true m n = sym (ap (is_exact high texts) (exact_same high texts y x far (sym e) n))
    by false false m n = m ∙ sym n

far_up : pos 0 ≤ℤ pos (2 ^ 61)
far_up = omega (arith, ints)

near_up : pos 0 ≤ℤ pos (2 ^ 30)
near_up = omega (arith, ints)

first_less : (sort : List ℕ) (a b : List Value) → first_lead (keys_of sort) a <ℤ first_lead (keys_of sort) b → row_order sort a b ≡ Less
first_less sort a b h = first_told sort a b (rank_less (pos (2 ^ 61)) true (value_at a (first_key sort)) (value_at b (first_key sort)) far_up h)

second_less : (sort : List ℕ) (a b : List Value) → first_lead (keys_of sort) a ≡ first_lead (keys_of sort) b → second_lead (keys_of sort) a <ℤ second_lead (keys_of sort) b → row_order sort a b ≡ Less
second_less sort a b e h = by (is_far x) (is_far y) refl (exact_alike (pos (2 ^ 61)) true x y far_up e) h
  where
    x : Value
    x = value_at a (first_key sort)

    y : Value
    y = value_at b (first_key sort)

    by : (s t : Bool) → is_far x ≡ s → s ≡ t → cond s (near_rank (value_at a (second_key sort))) (pos 0) <ℤ cond t (near_rank (value_at b (second_key sort))) (pos 0) → row_order sort a b ≡ Less
    by true true m n h =
        let same : x ≡ y = exact_same (pos (2 ^ 61)) true x y far_up e m in
        key_told (first_key sort) (first_key sort) sort a b same same (rank_less (pos (2 ^ 30)) false (value_at a (second_key sort)) (value_at b (second_key sort)) near_up h)
    by true false m n h = absurd cc
    by false true m n h = absurd cc
    by false false m n h = absurd (omega (arith, ints, h))

third_less : (sort : List ℕ) (a b : List Value) → first_lead (keys_of sort) a ≡ first_lead (keys_of sort) b → second_lead (keys_of sort) a ≡ second_lead (keys_of sort) b → third_lead (keys_of sort) a <ℤ third_lead (keys_of sort) b → row_order sort a b ≡ Less
third_less sort a b e f h = by (is_far x) (is_far y) refl (exact_alike (pos (2 ^ 61)) true x y far_up e) f h
  where
    x : Value
    x = value_at a (first_key sort)

    y : Value
    y = value_at b (first_key sort)

    v : Value
    v = value_at a (second_key sort)

    w : Value
    w = value_at b (second_key sort)

    further : x ≡ y → near_rank v ≡ near_rank w → (s t : Bool) → is_near v ≡ s → s ≡ t → cond s (near_rank (value_at a (third_key sort))) (pos 0) <ℤ cond t (near_rank (value_at b (third_key sort))) (pos 0) → row_order sort a b ≡ Less
    further same f true true m n h =
        key_told (first_key sort) (second_key sort) sort a b same (exact_same (pos (2 ^ 30)) false v w near_up f m) (rank_less (pos (2 ^ 30)) false (value_at a (third_key sort)) (value_at b (third_key sort)) near_up h)
    further same f true false m n h = absurd cc
    further same f false true m n h = absurd cc
    further same f false false m n h = absurd (omega (arith, ints, h))

    by : (s t : Bool) → is_far x ≡ s → s ≡ t → cond s (near_rank v) (pos 0) ≡ cond t (near_rank w) (pos 0)
        → cond (s && is_near v) (near_rank (value_at a (third_key sort))) (pos 0) <ℤ cond (t && is_near w) (near_rank (value_at b (third_key sort))) (pos 0) → row_order sort a b ≡ Less
    by true true m n f h = further (exact_same (pos (2 ^ 61)) true x y far_up e m) f (is_near v) (is_near w) refl (exact_alike (pos (2 ^ 30)) false v w near_up f) h
    by true false m n f h = absurd cc
    by false true m n f h = absurd cc
    by false false m n f h = absurd (omega (arith, ints, h))

-- ---- an order that the leads tell is the one by leads first

told : (x y : ℤ) (whole later : Ordering) → (x <ℤ y → whole ≡ Less) → (y <ℤ x → whole ≡ Greater) → (x ≡ y → later ≡ whole) → ordering_then (int_cmp x y) later ≡ whole
told x y whole later less more tie = by (int_cmp x y) (int_ranks x y)
  where
    by : (o : Ordering) → MatchOrdering o (x <ℤ y) (x ≡ y) (y <ℤ x) → ordering_then o later ≡ whole
    by Less h = sym (less h)
    by Equal h = tie h
    by Greater h = sym (more h)

then_less : (s r t : Ordering) → ordering_then s r ≡ Less → ordering_then s (ordering_then r t) ≡ Less
then_less s r t e = sym (then_assoc s r t) ∙ ap (λ (o : Ordering). ordering_then o t) e

pub leads_tell : (sort : List ℕ) (a b : List Value) (whole back : Ordering) → (row_order sort a b ≡ Less → whole ≡ Less) → (row_order sort b a ≡ Less → back ≡ Less) → whole ≡ ordering_reverse back
    → ordering_then (int_cmp (first_lead (keys_of sort) a) (first_lead (keys_of sort) b))
    (ordering_then (int_cmp (second_lead (keys_of sort) a) (second_lead (keys_of sort) b)) (ordering_then (int_cmp (third_lead (keys_of sort) a) (third_lead (keys_of sort) b)) whole)) ≡ whole
leads_tell sort a b whole back one other turned =
    told (first_lead (keys_of sort) a) (first_lead (keys_of sort) b) whole _ (λ h. one (first_less sort a b h)) (λ h. turn (other (first_less sort b a h))) (λ e.
    told (second_lead (keys_of sort) a) (second_lead (keys_of sort) b) whole _ (λ h. one (second_less sort a b e h)) (λ h. turn (other (second_less sort b a (sym e) h))) (λ f.
    told (third_lead (keys_of sort) a) (third_lead (keys_of sort) b) whole whole (λ h. one (third_less sort a b e f h)) (λ h. turn (other (third_less sort b a (sym e) (sym f) h))) (λ g. refl)))
  where
    turn : back ≡ Less → whole ≡ Greater
    turn e = turned ∙ ap ordering_reverse e

-- ---- places

container_less : (shape : Projection) (a b : Asked) → row_order shape.sort a.row b.row ≡ Less → container_cmp shape a b ≡ Less
container_less shape a b e = then_less (row_cmp (projected a.row shape.sort) (projected b.row shape.sort)) (row_cmp a.row b.row) (nat_cmp a.ins b.ins) e

led_alike : (shape : Projection) (rows : List Asked) (a b : Led) → IsLed (keys_of shape.sort) rows a → IsLed (keys_of shape.sort) rows b
    → led_cmp shape rows a b ≡ container_cmp shape (asked_at rows a.place) (asked_at rows b.place)
led_alike shape rows a b la lb =
    let x = asked_at rows a.place in
    let y = asked_at rows b.place in
    ap₂ (λ (l m : Lead). ordering_then (int_cmp l.first m.first) (ordering_then (int_cmp l.second m.second) (ordering_then (int_cmp l.third m.third) (container_cmp shape x y)))) la lb
    ∙ leads_tell shape.sort x.row y.row (container_cmp shape x y) (container_cmp shape y x) (container_less shape x y) (container_less shape y x) ((container_total shape).antisymm x y)

pub led_total : (shape : Projection) (rows : List Asked) → IsTotalOrder (led_cmp shape rows)
led_total shape rows =
    then_total (on_total (λ (l : Led). l.lead.first) int_cmp_total)
    (then_total (on_total (λ (l : Led). l.lead.second) int_cmp_total) (then_total (on_total (λ (l : Led). l.lead.third) int_cmp_total) (on_total (λ (l : Led). asked_at rows l.place) (container_total shape))))

at : ℕ → Led
at i = record { lead = record { first = pos 0; second = pos 0; third = pos 0 }; place = i }

-- places that are sorted by their leads first are in the order of a container
pub places_sorted : (shape : Projection) (rows : List Asked) (leds : List Led) → All (IsLed (keys_of shape.sort) rows) leds → IsSorted (led_cmp shape rows) leds
    → IsSorted (λ i j. container_cmp shape (asked_at rows i) (asked_at rows j)) (map place_of leds)
places_sorted shape rows leds led up =
    λ k d low inside.
    let long = length-map leds place_of in
    let in_leds : k + 1 < length leds = omega (arith, inside, long) in
    let next = get_or-map place_of leds (k + 1) (at d) d in_leds in
    let this = get_or-map place_of leds k (at d) d (omega (arith, in_leds)) in
    ap₂ (λ (i j : ℕ). is_lt (container_cmp shape (asked_at rows i) (asked_at rows j))) next this
    ∙ ap is_lt (sym (led_alike shape rows (get_or leds (k + 1) (at d)) (get_or leds k (at d)) (led (k + 1) (at d) in_leds) (led k (at d) (omega (arith, in_leds)))))
    ∙ up k (at d) low in_leds

pub led_places : (shape : Projection) (rows : List Asked) (leds vs : List Led) → All (IsLed (keys_of shape.sort) rows) leds → IsPermutation leds vs → IsSorted (led_cmp shape rows) vs
    → IsSorted (λ i j. container_cmp shape (asked_at rows i) (asked_at rows j)) (map place_of vs)
led_places shape rows leds vs led same = places_sorted shape rows vs (All-permutation (IsLed (keys_of shape.sort) rows) leds vs same led)

pub led_same : (places : List ℕ) (found sorted shown : List Led) (v : List ℕ) → map place_of found ≡ places → IsPermutation found sorted → shown ≡ sorted → v ≡ map place_of shown → SameBag places v
led_same places found sorted shown v are same slice is =
    subst (λ (xs : List ℕ). SameBag places xs) (sym (is ∙ ap (map place_of) slice))
    (subst (λ (xs : List ℕ). SameBag xs (map place_of sorted)) are (bag_map place_of found sorted (bag_of_permutation found sorted same)))

pub led_within : (count few : ℕ) (places below : List ℕ) (found sorted shown : List Led) (v : List ℕ) → few ≤ count → below ≡ places → All (λ i. i < few) below → map place_of found ≡ places → IsPermutation found sorted
    → shown ≡ sorted → v ≡ map place_of shown → All (λ i. i < count) v
led_within count few places below found sorted shown v le alike within are same slice is =
    subst (All (λ (i : ℕ). i < count)) (sym (is ∙ ap (map place_of) slice))
    (All-weaker (λ (i : ℕ). i < few) (λ (i : ℕ). i < count) (λ i lt. omega (arith, lt, le)) (map place_of sorted)
    (All-map-IsPermutation place_of (λ (i : ℕ). i < few) found sorted same (subst (All (λ (i : ℕ). i < few)) (alike ∙ sym are) within)))

pub led_sorted : (shape : Projection) (rows : List Asked) (found sorted shown : List Led) (v : List ℕ) → All (IsLed (keys_of shape.sort) rows) found → IsPermutation found sorted → IsSorted (led_cmp shape rows) sorted
    → shown ≡ sorted → v ≡ map place_of shown → IsSorted (λ i j. container_cmp shape (asked_at rows i) (asked_at rows j)) v
led_sorted shape rows found sorted shown v led same up slice is =
    subst (IsSorted (λ (i j : ℕ). container_cmp shape (asked_at rows i) (asked_at rows j))) (sym (is ∙ ap (map place_of) slice)) (led_places shape rows found sorted led same up)

pub led_more : (k : Keys) (rows : List Asked) (leds next : List Led) (l : Led) → next ≡ leds ++ l ∷ [] → IsLed k rows l → All (IsLed k rows) leds → All (IsLed k rows) next
led_more k rows leds next l is led before = subst (All (IsLed k rows)) (sym is) (All-push (IsLed k rows) leds l before led)

pub places_more : (i : ℕ) (places : List ℕ) (leds next : List Led) (l : Led) → next ≡ leds ++ l ∷ [] → l.place ≡ get_or places i 0 → i < length places → map place_of leds ≡ take i places → map place_of next ≡ take (i + 1) places
places_more i places leds next l is here lt before =
    ap (map place_of) is ∙ map-append place_of leds (l ∷ []) ∙ ap₂ (λ (xs : List ℕ) (x : ℕ). xs ++ x ∷ []) before here ∙ sym (take_more places i 0 lt)

-- ---- places whose first keys rise

-- the first key of the row at a place has this rank
abbrev pub HasFar : Projection → List Asked → ℕ → ℤ → Type 0
HasFar shape rows i rank = rank ≡ far_rank (value_at (asked_at rows i).row (first_key shape.sort))

-- places up to a number of them stand in order, and the last of these has this rank
pub record RiseTo (shape : Projection) (rows : List Asked) (places : List ℕ) (i : ℕ) (before : ℤ) : Type 0 where
  pub last : (k : ℕ) → k + 1 ≡ i → HasFar shape rows (get_or places k 0) before
  pub sorted : (k : ℕ) → k + 1 < i → is_lt (container_cmp shape (asked_at rows (get_or places (k + 1) 0)) (asked_at rows (get_or places k 0))) ≡ false

rise_less : (shape : Projection) (rows : List Asked) (i j : ℕ) (x y : ℤ) → HasFar shape rows i x → HasFar shape rows j y → x <ℤ y → is_lt (container_cmp shape (asked_at rows j) (asked_at rows i)) ≡ false
rise_less shape rows i j x y here there lt =
    let a = asked_at rows i in
    let b = asked_at rows j in
    let less : container_cmp shape a b ≡ Less = container_less shape a b (first_less shape.sort a.row b.row (subst (λ (z : ℤ). z <ℤ first_lead (keys_of shape.sort) b.row) here (subst (λ (z : ℤ). x <ℤ z) there lt))) in
    ap is_lt ((container_total shape).antisymm b a ∙ ap ordering_reverse less)

pub rise_none : (shape : Projection) (rows : List Asked) (places : List ℕ) (before : ℤ) → RiseTo shape rows places 0 before
rise_none shape rows places before = record { last = λ k e. absurd (omega (arith, e)); sorted = λ k lt. absurd (omega (arith, lt)) }

pub rise_more : (shape : Projection) (rows : List Asked) (places : List ℕ) (i : ℕ) (before at : ℤ) → HasFar shape rows (get_or places i 0) at → before <ℤ at → RiseTo shape rows places i before → RiseTo shape rows places (i + 1) at
rise_more shape rows places i before at here lt rise = record {
  last = λ k e. let is : k ≡ i = omega (arith, e) in subst (λ n. HasFar shape rows (get_or places n 0) at) (sym is) here;
  sorted = λ k inside. by k (nat_cmp (k + 1) i) (ranks (k + 1) i) inside;
}
  where
    by : (k : ℕ) (o : Ordering) → MatchOrdering o (k + 1 < i) (k + 1 ≡ i) (i < k + 1) → k + 1 < i + 1 → is_lt (container_cmp shape (asked_at rows (get_or places (k + 1) 0)) (asked_at rows (get_or places k 0))) ≡ false
    by k Less h inside = rise.sorted k h
    by k Equal h inside = rise_less shape rows (get_or places k 0) (get_or places (k + 1) 0) before at (rise.last k h) (subst (λ n. HasFar shape rows (get_or places n 0) at) (sym h) here) lt
    by k Greater h inside = absurd (omega (arith, h, inside))

pub rise_all : (shape : Projection) (rows : List Asked) (places : List ℕ) (i : ℕ) (before : ℤ) → length places ≤ i → RiseTo shape rows places i before → IsSorted (λ i j. container_cmp shape (asked_at rows i) (asked_at rows j)) places
rise_all shape rows places i before le rise =
    λ k d low inside.
    let this = get_or_default places k d 0 (omega (arith, inside)) in
    let next = get_or_default places (k + 1) d 0 inside in
    ap₂ (λ (x y : ℕ). is_lt (container_cmp shape (asked_at rows x) (asked_at rows y))) next this ∙ rise.sorted k (omega (arith, inside, le))

pub lane_rank : (shape : Projection) (rows : List Asked) (lane : List ℤ) (i : ℕ) (rank : ℤ) → map number_value lane ≡ column_values (first_key shape.sort) rows → rank ≡ far_rank (value_at (map number_value lane) i) → HasFar shape rows i rank
lane_rank shape rows lane i rank is here = here ∙ ap (λ (vs : List Value). far_rank (value_at vs i)) is ∙ ap far_rank (at_row (first_key shape.sort) rows i)

pub rise_on : (shape : Projection) (rows : List Asked) (places : List ℕ) (i : ℕ) (before at next : ℤ) → HasFar shape rows (get_or places i 0) at → before <ℤ next → next ≡ at → RiseTo shape rows places i before → RiseTo shape rows places (i + 1) next
rise_on shape rows places i before at next here lt same rise = rise_more shape rows places i before next (same ∙ here) lt rise
