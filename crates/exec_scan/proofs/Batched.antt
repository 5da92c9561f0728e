-- Rows that stand behind each other in one list of values.
use Rattle.std.proofs.Common.{◌≡◌, ℕ, suc, ◌+◌, ◌-◌, ◌≤◌, ◌<◌, ◌++◌, Bool, true, false, cond, List, [], ◌∷◌, length, map, filter, take, drop, get_or, refl, sym, ap, ap₂, ◌∙◌, arith}
use Rattle.std.specs.Prelude.{slice_range, Option}
use Rattle.std.specs.List.{All}
use Rattle.std.proofs.Math.Seq.{drop-append_seam}
use Rattle.std.proofs.lemmas.List.{drop-append-le, length-append, length-drop, map-append, take-append-le, take_all, take_more}
use Rattle.std.proofs.lemmas.List.Elements.{All-head, All-push, All-tail, All-weaker, filter-append}
use Rattle.col_value.specs.declared.value.Value.{Value}
use Rattle.col_value.specs.declared.row.Stamped.{Stamped}
use Rattle.col_value.specs.Order.{IsValue}
use Rattle.row_history.specs.History.{is_visible, visible}
use Rattle.write_store.specs.declared.held.Held.{Held}
use Rattle.write_store.specs.Memory.{stamp}
use Rattle.query_cover.specs.Seen.{placed}
use Rattle.exec_scan.specs.Batches.{IsBatch, rows_at}

-- a row within the values stays where others come behind them
slice_front : (values new : List Value) (at width : ℕ) → at + width ≤ length values → slice_range (values ++ new) at (at + width) ≡ slice_range values at (at + width)
slice_front values new at width within =
    let n = (at + width) - at in
    let room : n ≤ length (drop at values) = omega (arith, within, length-drop at values) in
    ap (take n) (drop-append-le at values new (omega (arith, within))) ∙ take-append-le n (drop at values) new room

-- and the last one is what came
slice_last : (values new : List Value) (width : ℕ) → length new ≡ width → slice_range (values ++ new) (length values) (length values + width) ≡ new
slice_last values new width long =
    let n = (length values + width) - length values in
    ap (take n) (drop-append_seam values new) ∙ take_all n new (omega (arith, long))

rows_stay : (width : ℕ) (values new : List Value) (starts : List ℕ) → All (λ at. at + width ≤ length values) starts → rows_at width (values ++ new) starts ≡ rows_at width values starts
rows_stay width values new [] within = refl
rows_stay width values new (at ∷ starts) within =
    ap₂ (λ (r : List Value) (rs : List (List Value)). r ∷ rs) (slice_front values new at width (All-head (λ a. a + width ≤ length values) at starts within))
    (rows_stay width values new starts (All-tail (λ a. a + width ≤ length values) at starts within))

pub row_joined : (width : ℕ) (values new : List Value) (starts : List ℕ) → IsBatch width values starts → length new ≡ width
    → rows_at width (values ++ new) (starts ++ length values ∷ []) ≡ rows_at width values starts ++ new ∷ []
row_joined width values new starts is long =
    map-append (λ at. slice_range (values ++ new) at (at + width)) starts (length values ∷ [])
    ∙ ap₂ (λ (rs : List (List Value)) (r : List Value). rs ++ r ∷ []) (rows_stay width values new starts is.within) (slice_last values new width long)

pub batch_joined : (width : ℕ) (values new : List Value) (starts : List ℕ) → IsBatch width values starts → length new ≡ width → All IsValue (values ++ new)
    → IsBatch width (values ++ new) (starts ++ length values ∷ [])
batch_joined width values new starts is long valid =
    let all : length (values ++ new) ≡ length values + length new = length-append values new in
    record {
      within = All-push (λ at. at + width ≤ length (values ++ new)) starts (length values)
          (All-weaker (λ at. at + width ≤ length values) (λ at. at + width ≤ length (values ++ new)) (λ at le. omega (arith, le, all)) starts is.within)
          (omega (arith, all, long));
      valid = valid;
    }

pub length_placed : (places : List (Option ℕ)) (row : List Value) → length (placed places row) ≡ length places
length_placed [] row = refl
length_placed (p ∷ places) row = ap suc (length_placed places row)

-- ---- rows in memory

one_stamp : (epoch : ℕ) (xs : List Held) (i : ℕ) (h : Held) → i < length xs → h ≡ get_or xs i h
    → filter (is_visible epoch) (map stamp (take (i + 1) xs)) ≡ filter (is_visible epoch) (map stamp (take i xs)) ++ filter (is_visible epoch) (stamp h ∷ [])
one_stamp epoch xs i h lt is =
    let next : take (i + 1) xs ≡ take i xs ++ h ∷ [] = take_more xs i h lt ∙ ap (λ (x : Held). take i xs ++ x ∷ []) (sym is) in
    ap (λ (hs : List Held). filter (is_visible epoch) (map stamp hs)) next
    ∙ ap (filter (is_visible epoch)) (map-append stamp (take i xs) (h ∷ []))
    ∙ filter-append (is_visible epoch) (map stamp (take i xs)) (stamp h ∷ [])

one_more : (epoch : ℕ) (xs : List Held) (i : ℕ) (h : Held) → i < length xs → h ≡ get_or xs i h
    → visible epoch (map stamp (take (i + 1) xs)) ≡ visible epoch (map stamp (take i xs)) ++ visible epoch (stamp h ∷ [])
one_more epoch xs i h lt is =
    ap (map (λ (s : Stamped). s.row)) (one_stamp epoch xs i h lt is)
    ∙ map-append (λ (s : Stamped). s.row) (filter (is_visible epoch) (map stamp (take i xs))) (filter (is_visible epoch) (stamp h ∷ []))

-- one epoch more, if its row is visible
pub epochs_next : (epoch : ℕ) (xs : List Held) (i : ℕ) (h : Held) (shown : Bool) (now next : List ℕ) → i < length xs → h ≡ get_or xs i h → shown ≡ is_visible epoch (stamp h)
    → next ≡ now ++ cond shown (h.inserted.ins ∷ []) [] → now ≡ map (λ a. a.ins) (filter (is_visible epoch) (map stamp (take i xs))) → next ≡ map (λ a. a.ins) (filter (is_visible epoch) (map stamp (take (i + 1) xs)))
epochs_next epoch xs i h shown now next lt is told more was =
    more ∙ ap (λ (es : List ℕ). es ++ cond shown (h.inserted.ins ∷ []) []) was
    ∙ ap (λ (es : List ℕ). front ++ es) (by shown told)
    ∙ sym (map-append (λ (s : Stamped). s.ins) (filter (is_visible epoch) (map stamp (take i xs))) (filter (is_visible epoch) (stamp h ∷ [])))
    ∙ sym (ap (map (λ (s : Stamped). s.ins)) (one_stamp epoch xs i h lt is))
  where
    front : List ℕ
    front = map (λ (s : Stamped). s.ins) (filter (is_visible epoch) (map stamp (take i xs)))

    by : (b : Bool) → b ≡ is_visible epoch (stamp h) → cond b (h.inserted.ins ∷ []) [] ≡ map (λ (s : Stamped). s.ins) (filter (is_visible epoch) (stamp h ∷ []))
    by true same = ap (λ (x : Bool). map (λ (s : Stamped). s.ins) (cond x (stamp h ∷ []) [])) same
    by false same = ap (λ (x : Bool). map (λ (s : Stamped). s.ins) (cond x (stamp h ∷ []) [])) same

-- one row more, if it is visible
pub seen_next : (epoch : ℕ) (places : List (Option ℕ)) (xs : List Held) (i : ℕ) (h : Held) (shown : Bool) (now next : List (List Value)) → i < length xs → h ≡ get_or xs i h → shown ≡ is_visible epoch (stamp h)
    → next ≡ now ++ cond shown (placed places h.inserted.row ∷ []) [] → now ≡ map (placed places) (visible epoch (map stamp (take i xs))) → next ≡ map (placed places) (visible epoch (map stamp (take (i + 1) xs)))
seen_next epoch places xs i h shown now next lt is told more was =
    more ∙ ap (λ (rows : List (List Value)). rows ++ cond shown (placed places h.inserted.row ∷ []) []) was
    ∙ ap (λ (rows : List (List Value)). front ++ rows) (by shown told)
    ∙ sym (map-append (placed places) (visible epoch (map stamp (take i xs))) (visible epoch (stamp h ∷ [])))
    ∙ sym (ap (map (placed places)) (one_more epoch xs i h lt is))
  where
    front : List (List Value)
    front = map (placed places) (visible epoch (map stamp (take i xs)))

    by : (b : Bool) → b ≡ is_visible epoch (stamp h) → cond b (placed places h.inserted.row ∷ []) [] ≡ map (placed places) (visible epoch (stamp h ∷ []))
    by true same = ap (λ (x : Bool). map (placed places) (map (λ (s : Stamped). s.row) (cond x (stamp h ∷ []) []))) same
    by false same = ap (λ (x : Bool). map (placed places) (map (λ (s : Stamped). s.row) (cond x (stamp h ∷ []) []))) same
