-- The rows of a block that are alive.
use Rattle.std.proofs.Common.{◌≡◌, ℕ, suc, ◌+◌, ◌<◌, ◌++◌, nat_le, not, Bool, true, false, cond, List, [], ◌∷◌, length, map, filter, take, get_or, refl, sym, ap, ap₂, ◌∙◌, arith, subst}
use Rattle.std.specs.Prelude.{Option, Some, None, option_map, ◌&&◌}
use Rattle.std.specs.List.{All, range_with_len, slice_get}
use Rattle.std.specs.Option.{IfSome, IsSomeAnd, option_map_or}
use Rattle.std.proofs.lemmas.Option.{slice_get-get_or, slice_get-map}
use Rattle.std.proofs.lemmas.List.{length-take-le, take_more}
use Rattle.std.proofs.lemmas.List.Elements.{All-cons, All-get_or, All-head, All-nil, All-tail, All-weaker}
use Rattle.std.proofs.lemmas.List.FromFn.{get_or-range_with_len, length-range_with_len, map-range_with_len_more}
use Rattle.common_laws.specs.Bags.{SameBag}
use Rattle.common_laws.proofs.BagLaws.{count_append, count_cons}
use Rattle.col_value.specs.Order.{IsValue}
use Rattle.col_value.specs.declared.row.Asked.{Asked}
use Rattle.col_value.specs.declared.row.Stamped.{Stamped}
use Rattle.col_value.specs.declared.value.Value.{Value}
use Rattle.col_value.specs.declared.value.Value.TheVariants as value
use Rattle.row_history.specs.History.{is_visible, stamped}
use Rattle.stored_rows.specs.Held.{stamped_from}
use Rattle.row_bounds.specs.Bounds.{within}
use Rattle.row_bounds.specs.declared.bound.Bound.{Bound}
use Rattle.query_cover.specs.Seen.{placed}
use Rattle.exec_scan.specs.Batches.{AreLong, cell, chosen, HaveAll, IsLong, is_shown, row_of, Shown}
use Rattle.exec_scan.specs.Reading.{AreInserted, HaveRows, Narrows, rows_of, ShowsRows}

-- ---- element by element

pub chosen_none : {X : Type 0} (bs : List Bool) → chosen {X = X} bs [] ≡ []
chosen_none [] = refl
chosen_none (b ∷ bs) = refl

-- one element more
pub chosen_more : {X : Type 0} (bs : List Bool) (xs : List X) (x : X) → chosen bs (xs ++ x ∷ []) ≡ chosen bs xs ++ cond (get_or bs (length xs) false) (x ∷ []) []
chosen_more [] xs x = refl
chosen_more {X} (true ∷ bs) [] x = ap (λ (ys : List X). x ∷ ys) (chosen_none bs)
chosen_more (false ∷ bs) [] x = chosen_none bs
chosen_more {X} (true ∷ bs) (y ∷ xs) x = ap (λ (ys : List X). y ∷ ys) (chosen_more bs xs x)
chosen_more (false ∷ bs) (y ∷ xs) x = chosen_more bs xs x

-- one epoch more
pub epochs_next : (alive : List Bool) (inserted epochs next : List ℕ) (i : ℕ) (b : Bool) → i < length inserted → b ≡ get_or alive i false → next ≡ epochs ++ cond b (get_or inserted i 0 ∷ []) []
    → epochs ≡ chosen alive (take i inserted) → next ≡ chosen alive (take (i + 1) inserted)
epochs_next alive inserted epochs next i b lt told is was =
    let ins = get_or inserted i 0 in
    let long : length (take i inserted) ≡ i = length-take-le i inserted (omega (arith, lt)) in
    is ∙ ap₂ (λ (ns : List ℕ) (x : Bool). ns ++ cond x (ins ∷ []) []) was (told ∙ ap (λ (n : ℕ). get_or alive n false) (sym long))
    ∙ sym (ap (chosen alive) (take_more inserted i 0 lt) ∙ chosen_more alive (take i inserted) ins)

-- one place more
same_all : {X : Type 0} (xs : List X) → map (λ (x : X). x) xs ≡ xs
same_all [] = refl
same_all {X} (x ∷ xs) = ap (λ (ys : List X). x ∷ ys) (same_all xs)

range_more : (i : ℕ) → range_with_len 0 (i + 1) ≡ range_with_len 0 i ++ i ∷ []
range_more i =
    let same : 0 + i ≡ i = omega arith in
    sym (same_all (range_with_len 0 (i + 1))) ∙ map-range_with_len_more (λ (n : ℕ). n) 0 i i same ∙ ap (λ (ns : List ℕ). ns ++ i ∷ []) (same_all (range_with_len 0 i))

pub places_next : (alive : List Bool) (places next : List ℕ) (i : ℕ) (b : Bool) → b ≡ get_or alive i false → next ≡ places ++ cond b (i ∷ []) [] → places ≡ chosen alive (range_with_len 0 i) → next ≡ chosen alive (range_with_len 0 (i + 1))
places_next alive places next i b told is was =
    is ∙ ap₂ (λ (ns : List ℕ) (x : Bool). ns ++ cond x (i ∷ []) []) was (told ∙ ap (λ (n : ℕ). get_or alive n false) (sym (length-range_with_len 0 i)))
    ∙ sym (ap (chosen alive) (range_more i) ∙ chosen_more alive (range_with_len 0 i) i)

-- ---- the rows at the places of those that are alive

chosen_map : {X Y : Type 0} (f : X → Y) (bs : List Bool) (xs : List X) → map f (chosen bs xs) ≡ chosen bs (map f xs)
chosen_map f [] xs = refl
chosen_map f (b ∷ bs) [] = refl
chosen_map {X} {Y} f (true ∷ bs) (x ∷ xs) = ap (λ (ys : List Y). f x ∷ ys) (chosen_map f bs xs)
chosen_map f (false ∷ bs) (x ∷ xs) = chosen_map f bs xs

chosen_all : {X : Type 0} (P : X → Type 0) (bs : List Bool) (xs : List X) → All P xs → All P (chosen bs xs)
chosen_all P [] xs all = All-nil P
chosen_all P (b ∷ bs) [] all = All-nil P
chosen_all P (true ∷ bs) (x ∷ xs) all = All-cons P x (chosen bs xs) (All-head P x xs all) (chosen_all P bs xs (All-tail P x xs all))
chosen_all P (false ∷ bs) (x ∷ xs) all = chosen_all P bs xs (All-tail P x xs all)

range_inside : (n : ℕ) → All (λ i. i < n) (range_with_len 0 n)
range_inside n = λ i d lt.
    let long : i < n = omega (arith, lt, length-range_with_len 0 n) in
    let is : get_or (range_with_len 0 n) i d ≡ 0 + i = get_or-range_with_len 0 n i d long in
    subst (λ (k : ℕ). k < n) (sym is) (omega (arith, long))

pub places_have : (alive : List Bool) (columns : List (Option (List Value))) (places : List ℕ) → AreLong (length alive) columns → places ≡ chosen alive (range_with_len 0 (length alive)) → HaveAll columns places
places_have alive columns places long is = record {
  count = length alive;
  long = long;
  within = subst (λ (ns : List ℕ). All (λ i. i < length alive) ns) (sym is) (chosen_all (λ (i : ℕ). i < length alive) alive (range_with_len 0 (length alive)) (range_inside (length alive)));
}

pub places_rows : (alive : List Bool) (columns : List (Option (List Value))) (places : List ℕ) (rows : List (List Value)) → rows ≡ map (row_of columns) places → places ≡ chosen alive (range_with_len 0 (length alive)) → rows ≡ chosen alive (rows_of columns (length alive))
places_rows alive columns places rows are is = are ∙ ap (map (row_of columns)) is ∙ chosen_map (row_of columns) alive (range_with_len 0 (length alive))

-- ---- which rows are shown

abbrev DeletesFrom : List (Option ℕ) → (ℕ → Option ℕ) → ℕ → ℕ → List Asked → Type 0
DeletesFrom deletes mark first j rows = (i : ℕ) → i < length rows → get_or deletes (first + (j + i)) None ≡ mark (first + (j + i))

shown_from : (epoch : ℕ) (inserted : List ℕ) (deletes : List (Option ℕ)) (mark : ℕ → Option ℕ) (first j at : ℕ) (rows : List Asked)
    → at ≡ first + j → ((i : ℕ) → nat_le (get_or inserted (j + i) 0) epoch ≡ nat_le (get_or (map (λ a. a.ins) rows) i 0) epoch) → DeletesFrom deletes mark first j rows
    → map (is_shown epoch inserted deletes first) (range_with_len j (length rows)) ≡ map (is_visible epoch) (stamped_from at mark rows)
shown_from epoch inserted deletes mark first j at [] is early gone = refl
shown_from epoch inserted deletes mark first j at (a ∷ rows) is early gone =
    let here : j + 0 ≡ j = omega arith in
    let same_ins : nat_le (get_or inserted j 0) epoch ≡ nat_le a.ins epoch = ap (λ (n : ℕ). nat_le (get_or inserted n 0) epoch) (sym here) ∙ early 0 in
    let at_j : first + (j + 0) ≡ first + j = omega arith in
    let same_del : get_or deletes (first + j) None ≡ mark at =
    ap (λ (n : ℕ). get_or deletes n None) (sym at_j) ∙ gone 0 (omega arith) ∙ ap mark (at_j ∙ sym is) in
    let next : (i : ℕ) → (j + 1) + i ≡ j + suc i = λ i. omega arith in
    ap₂ (λ (x : Bool) (xs : List Bool). x ∷ xs)
    (ap₂ (λ (x : Bool) (o : Option ℕ). x && not (option_map_or (λ e. nat_le e epoch) o false)) same_ins same_del)
    (shown_from epoch inserted deletes mark first (j + 1) (at + 1) rows (omega (arith, is))
    (λ i. ap (λ (n : ℕ). nat_le (get_or inserted n 0) epoch) (next i) ∙ early (suc i))
    (λ i lt. subst (λ (n : ℕ). get_or deletes (first + n) None ≡ mark (first + n)) (sym (next i)) (gone (suc i) (omega (arith, lt)))))

-- those of a block that are visible
block_shown : (epoch count : ℕ) (inserted : List ℕ) (deletes : List (Option ℕ)) (mark : ℕ → Option ℕ) (first : ℕ) (rows : List Asked)
    → count ≡ length rows → AreInserted epoch inserted rows → ((i : ℕ) → i < length rows → get_or deletes (first + i) None ≡ mark (first + i))
    → map (is_shown epoch inserted deletes first) (range_with_len 0 count) ≡ map (is_visible epoch) (stamped_from first mark rows)
block_shown epoch count inserted deletes mark first rows many early gone =
    let same : (i : ℕ) → 0 + i ≡ i = λ i. omega arith in
    let at : first ≡ first + 0 = omega arith in
    ap (λ (n : ℕ). map (is_shown epoch inserted deletes first) (range_with_len 0 n)) many
    ∙ shown_from epoch inserted deletes mark first 0 first rows at (λ i. ap (λ (n : ℕ). nat_le (get_or inserted n 0) epoch) (same i) ∙ early i)
    (λ i lt. subst (λ (n : ℕ). get_or deletes (first + n) None ≡ mark (first + n)) (sym (same i)) (gone i lt))

-- ---- the rows and epochs of those that are alive

chosen_rows : (columns : List (Option (List Value))) (places : List (Option ℕ)) (mark : ℕ → Option ℕ) (alive : List Bool) (j at : ℕ) (rows : List Asked)
    → ((i : ℕ) → get_or alive i false ≡ true → IfSome (slice_get rows i) (λ a. row_of columns (j + i) ≡ placed places a.row))
    → chosen alive (map (row_of columns) (range_with_len j (length rows))) ≡ map (placed places) (map (λ s. s.row) (chosen alive (stamped_from at mark rows)))
chosen_rows columns places mark [] j at rows have = refl
chosen_rows columns places mark (b ∷ alive) j at [] have = refl
chosen_rows columns places mark (false ∷ alive) j at (a ∷ rows) have = chosen_rows columns places mark alive (j + 1) (at + 1) rows (λ i on. later i (have (suc i) on))
  where
    later : (i : ℕ) → IfSome (slice_get rows i) (λ x. row_of columns (j + suc i) ≡ placed places x.row) → IfSome (slice_get rows i) (λ x. row_of columns ((j + 1) + i) ≡ placed places x.row)
    later i h = let next : j + suc i ≡ (j + 1) + i = omega arith in subst (λ (n : ℕ). IfSome (slice_get rows i) (λ x. row_of columns n ≡ placed places x.row)) next h
chosen_rows columns places mark (true ∷ alive) j at (a ∷ rows) have =
    let here : j + 0 ≡ j = omega arith in
    ap₂ (λ (r : List Value) (rs : List (List Value)). r ∷ rs) (ap (row_of columns) (sym here) ∙ have 0 refl)
    (chosen_rows columns places mark alive (j + 1) (at + 1) rows (λ i on. later i (have (suc i) on)))
  where
    later : (i : ℕ) → IfSome (slice_get rows i) (λ x. row_of columns (j + suc i) ≡ placed places x.row) → IfSome (slice_get rows i) (λ x. row_of columns ((j + 1) + i) ≡ placed places x.row)
    later i h = let next : j + suc i ≡ (j + 1) + i = omega arith in subst (λ (n : ℕ). IfSome (slice_get rows i) (λ x. row_of columns n ≡ placed places x.row)) next h

chosen_epochs : (mark : ℕ → Option ℕ) (alive : List Bool) (at : ℕ) (rows : List Asked) → chosen alive (map (λ a. a.ins) rows) ≡ map (λ s. s.ins) (chosen alive (stamped_from at mark rows))
chosen_epochs mark [] at rows = refl
chosen_epochs mark (b ∷ alive) at [] = refl
chosen_epochs mark (false ∷ alive) at (a ∷ rows) = chosen_epochs mark alive (at + 1) rows
chosen_epochs mark (true ∷ alive) at (a ∷ rows) = ap (λ (ns : List ℕ). a.ins ∷ ns) (chosen_epochs mark alive (at + 1) rows)

-- ---- rows that are passed over

-- of some rows those that are alive are the visible ones that aren't passed over
record Sifted (epoch : ℕ) (places : List (Option ℕ)) (bounds : List Bound) (alive : List Bool) (next : List Stamped) : Type 0 where
  came : List Stamped
  passed : List Stamped
  parts : SameBag next (came ++ passed)
  out : All (λ s. within bounds (placed places s.row) ≡ false) passed
  seen : chosen alive next ≡ filter (is_visible epoch) came
  whole : bounds ≡ [] → came ≡ next

-- a row comes
comes : (epoch : ℕ) (places : List (Option ℕ)) (bounds : List Bound) (b : Bool) (alive : List Bool) (s : Stamped) (next : List Stamped) → b ≡ is_visible epoch s → Sifted epoch places bounds alive next → Sifted epoch places bounds (b ∷ alive) (s ∷ next)
comes epoch places bounds b alive s next is rest = record {
  came = s ∷ rest.came;
  passed = rest.passed;
  parts = record { counts = λ p. omega (arith, count_cons p s next, count_cons p s (rest.came ++ rest.passed), rest.parts.counts p) };
  out = rest.out;
  seen = ap₂ (λ (x : Bool) (ss : List Stamped). cond x (s ∷ ss) ss) is rest.seen;
  whole = λ none. ap (λ (ss : List Stamped). s ∷ ss) (rest.whole none);
}

-- a row is passed over
passes : (epoch : ℕ) (places : List (Option ℕ)) (bounds : List Bound) (alive : List Bool) (s : Stamped) (next : List Stamped) → within bounds (placed places s.row) ≡ false → Sifted epoch places bounds alive next
    → Sifted epoch places bounds (false ∷ alive) (s ∷ next)
passes epoch places bounds alive s next out rest = record {
  came = rest.came;
  passed = s ∷ rest.passed;
  parts = record { counts = λ p. omega (arith, count_cons p s next, count_append p rest.came (s ∷ rest.passed), count_cons p s rest.passed, count_append p rest.came rest.passed, rest.parts.counts p) };
  out = All-cons (λ (x : Stamped). within bounds (placed places x.row) ≡ false) s rest.passed out rest.out;
  seen = rest.seen;
  whole = λ none. let all : within bounds (placed places s.row) ≡ true = ap (λ (bs : List Bound). within bs (placed places s.row)) none in absurd (cc);
}

sift : (epoch : ℕ) (places : List (Option ℕ)) (bounds : List Bound) (mark : ℕ → Option ℕ) (at : ℕ) (rows : List Asked) (alive : List Bool) → length alive ≡ length rows
    → Narrows bounds places (map (is_visible epoch) (stamped_from at mark rows)) alive rows → Sifted epoch places bounds alive (stamped_from at mark rows)
sift epoch places bounds mark at [] alive long narrows = record {
  came = [];
  passed = [];
  parts = record { counts = λ p. refl };
  out = All-nil (λ (s : Stamped). within bounds (placed places s.row) ≡ false);
  seen = chosen_none alive;
  whole = λ none. refl;
}
sift epoch places bounds mark at (a ∷ rows) [] long narrows = absurd (omega (arith, long))
sift epoch places bounds mark at (a ∷ rows) (b ∷ alive) long narrows =
    by b (is_visible epoch s) refl refl (sift epoch places bounds mark (at + 1) rows alive (omega (arith, long)) (record { only = λ i. narrows.only (suc i); gone = λ i. narrows.gone (suc i) }))
  where
    s : Stamped
    s = stamped (mark at) a

    later : List Stamped
    later = stamped_from (at + 1) mark rows

    by : (x seen : Bool) → b ≡ x → is_visible epoch s ≡ seen → Sifted epoch places bounds alive later → Sifted epoch places bounds (b ∷ alive) (s ∷ later)
    by true seen is see rest = comes epoch places bounds b alive s later (is ∙ sym (narrows.only 0 is)) rest
    by false false is see rest = comes epoch places bounds b alive s later (is ∙ sym see) rest
    by false true is see rest =
        subst (λ (x : Bool). Sifted epoch places bounds (x ∷ alive) (s ∷ later)) (sym is) (passes epoch places bounds alive s later (narrows.gone 0 see is) rest)

-- a batch of the rows that are alive shows those of the block
pub block_shows : (epoch count : ℕ) (places : List (Option ℕ)) (bounds : List Bound) (stamps : Bool) (inserted : List ℕ) (deletes : List (Option ℕ)) (mark : ℕ → Option ℕ) (first : ℕ) (rows : List Asked) (alive : List Bool) (columns : List (Option (List Value))) (b : Shown)
    → count ≡ length rows → AreInserted epoch inserted rows → ((i : ℕ) → i < length rows → get_or deletes (first + i) None ≡ mark (first + i))
    → length alive ≡ count → Narrows bounds places (map (is_shown epoch inserted deletes first) (range_with_len 0 count)) alive rows → HaveRows places alive columns rows
    → b.rows ≡ chosen alive (rows_of columns (length alive)) → (stamps ≡ true → b.inserted ≡ chosen alive (map (λ a. a.ins) rows)) → ShowsRows epoch places bounds stamps mark first b rows
block_shows epoch count places bounds stamps inserted deletes mark first rows alive columns b many early gone long narrows have made told =
    let here = stamped_from first mark rows in
    let shown = block_shown epoch count inserted deletes mark first rows many early gone in
    let sifted = sift epoch places bounds mark first rows alive (long ∙ many) (subst (λ (bs : List Bool). Narrows bounds places bs alive rows) shown narrows) in
    let same : (i : ℕ) → i ≡ 0 + i = λ i. omega arith in
    record {
      came = sifted.came;
      passed = sifted.passed;
      parts = sifted.parts;
      out = sifted.out;
      rows =
          made ∙ ap (λ (n : ℕ). chosen alive (rows_of columns n)) (long ∙ many)
          ∙ chosen_rows columns places mark alive 0 first rows (λ i on. subst (λ (n : ℕ). IfSome (slice_get rows i) (λ a. row_of columns n ≡ placed places a.row)) (same i) (have i on))
          ∙ ap (λ (ss : List Stamped). map (placed places) (map (λ (s : Stamped). s.row) ss)) sifted.seen;
      inserted = λ on. told on ∙ chosen_epochs mark alive first rows ∙ ap (map (λ (s : Stamped). s.ins)) sifted.seen;
      whole = sifted.whole;
    }

-- ---- the values of the rows

cell_valid : (count i : ℕ) (column : Option (List Value)) → i < count → IsLong count column → IsValue (cell i column)
cell_valid count i None lt long = tt
cell_valid count i (Some vs) lt long = All-get_or IsValue vs i value.Null (omega (arith, lt, long.0)) long.1

cells_valid : (count i : ℕ) (columns : List (Option (List Value))) → i < count → AreLong count columns → All IsValue (row_of columns i)
cells_valid count i [] lt long = All-nil IsValue
cells_valid count i (v ∷ columns) lt long =
    All-cons IsValue (cell i v) (row_of columns i) (cell_valid count i v lt (All-head (IsLong count) v columns long)) (cells_valid count i columns lt (All-tail (IsLong count) v columns long))

-- a row of columns that have one at its place
column_there : (count i : ℕ) (column : Option (List Value)) → i < count → IsLong count column → IfSome column (λ vs. i < length vs)
column_there count i None lt long = tt
column_there count i (Some vs) lt long = omega (arith, lt, long.0)

pub columns_there : (columns : List (Option (List Value))) (places : List ℕ) (at i : ℕ) → HaveAll columns places → at < length places → i ≡ get_or places at 0 → All (λ o. IfSome o (λ vs. i < length vs)) columns
columns_there columns places at i have lt is =
    let inside : i < have.count = subst (λ (n : ℕ). n < have.count) (sym is) (have.within at 0 lt) in
    All-weaker (IsLong have.count) (λ o. IfSome o (λ vs. i < length vs)) (λ o long. column_there have.count i o inside long) columns have.long

pub row_valid : (columns : List (Option (List Value))) (places : List ℕ) (at i : ℕ) (row : List Value) → HaveAll columns places → at < length places → i ≡ get_or places at 0 → row ≡ row_of columns i → All IsValue row
row_valid columns places at i row have lt is made =
    let inside : i < have.count = subst (λ (n : ℕ). n < have.count) (sym is) (have.within at 0 lt) in
    subst (λ (vs : List Value). All IsValue vs) (sym made) (cells_valid have.count i columns inside have.long)

-- the rows at the places are rows of values
pub rows_valid : (columns : List (Option (List Value))) (places : List ℕ) → HaveAll columns places → All (λ i. All IsValue (row_of columns i)) places
rows_valid columns places have = All-weaker (λ i. i < have.count) (λ i. All IsValue (row_of columns i)) (λ i inside. cells_valid have.count i columns inside have.long) places have.within

pub row_found : (columns : List (Option (List Value))) (places : List ℕ) (at i : ℕ) (row : List Value) → at < length places → i ≡ get_or places at 0 → row ≡ row_of columns i → IsSomeAnd (slice_get (map (row_of columns) places) at) (λ r. row ≡ r)
row_found columns places at i row lt is made =
    subst (λ (o : Option (List Value)). IsSomeAnd o (λ r. row ≡ r))
    (sym (slice_get-map (row_of columns) places at ∙ ap (option_map (row_of columns)) (slice_get-get_or places at 0 lt)))
    (made ∙ ap (row_of columns) is)
