-- Rows that are passed over lie out of the bounds.
use Rattle.std.proofs.Common.{◌≡◌, ℕ, zero, suc, ◌+◌, ◌≤◌, ◌<◌, ◌⊎◌, inl, inr, ltb, ◌++◌, Bool, true, false, List, [], ◌∷◌, length, map, filter, get_or, refl, sym, ap, ◌∙◌, arith, subst}
use Rattle.std.specs.Prelude.{Option, Some, None, ◌&&◌, IsSomeAnd, IfSome as WhereSome}
use Rattle.std.specs.List.{All, AllZip, list_all, slice_get}
use Rattle.std.specs.Option.{IfSome, option_map_or}
use Rattle.std.specs.Ordering.{is_le}
use Rattle.std.proofs.lemmas.Option.{slice_get-get_or}
use borrow.Author.Tests.{ltb-true}
use Rattle.std.proofs.lemmas.List.{length-map}
use Rattle.std.proofs.lemmas.List.Elements.{All-append, All-cons, All-head, All-nil, All-tail}
use Rattle.common_laws.specs.Bags.{SameBag}
use Rattle.common_laws.specs.Maps.{Contents}
use Rattle.common_laws.proofs.BagLaws.{count_append}
use Rattle.common_laws.proofs.Truths.{and_true}
use Rattle.catalog_types.specs.declared.catalogue.Container.{Container}
use Rattle.catalog_types.specs.declared.catalogue.Projection.{Projection}
use Rattle.col_file.specs.Read.{is_between}
use Rattle.col_value.specs.Order.{value_cmp}
use Rattle.col_value.specs.declared.row.Asked.{Asked}
use Rattle.col_value.specs.declared.row.Stamped.{Stamped}
use Rattle.col_value.specs.declared.value.Value.{Value}
use Rattle.col_value.specs.declared.value.Value.TheVariants as value
use Rattle.pos_index.specs.Index.{blocks}
use Rattle.pos_index.specs.declared.index.Entry.{Entry}
use Rattle.pos_index.specs.declared.index.PosIndex.{PosIndex}
use Rattle.row_history.specs.History.{is_visible, visible}
use Rattle.ros_container.specs.Encodings.{written_as, Written, written_of}
use Rattle.ros_container.specs.Held.{HoldsContainer}
use Rattle.ros_container.specs.Rows.{stored_values}
use Rattle.stored_rows.specs.Stored.{Beside}
use Rattle.container_blocks.specs.Blocks.{HasIndex, IsIndexOf, rows_in}
use Rattle.row_bounds.specs.Bounds.{lies_in, misses, within}
use Rattle.row_bounds.specs.declared.bound.Bound.{Bound}
use Rattle.query_cover.specs.Seen.{placed, value_at}
use Rattle.exec_scan.specs.Batches.{Shown}
use Rattle.exec_scan.specs.Opened.{HasOpened, HoldsNeeded, IsNeeded, IsOpening, Opening}
use Rattle.exec_scan.specs.Passing.{AreOut, IsPassed, Misses, MissesEntry, is_missed}
use Rattle.exec_scan.specs.Reading.{values_at}
use Rattle.exec_scan.specs.Scanning.{AreOwn, Place, Shows, start}
use Rattle.exec_scan.proofs.Blocks.{column_is}

-- the values of a block lie between the two of its entry
abbrev pub Between : Type 0
Between = (m : Contents) (written : List Written) (k : Container) (i b : ℕ) (at : PosIndex) (rows : List Asked) → i ≤ length written → IsIndexOf k.rows at → HasIndex written k i at (Some m) → HoldsContainer m written k rows → b < blocks k.rows
    → WhereSome (slice_get at.entries b) (λ e. list_all (is_between e) (stored_values (length written) i (rows_in b rows)) ≡ true)

abbrev AreOwnOf : ℕ → List (Option ℕ) → Type 0
AreOwnOf columns ps = All (λ o. IfSome o (λ i. i < columns)) ps

pub own_encodings : (p : Projection) (ps : List (Option ℕ)) → AreOwn p ps → AreOwnOf (length (written_of p)) ps
own_encodings p ps own = subst (λ (n : ℕ). AreOwnOf n ps) (sym (length-map p.columns written_as)) own

-- ---- a column that has an index

record IsColumn (es : List Written) (columns : ℕ) (k : Container) (holds : Option Contents) (ps : List (Option ℕ)) (c : ℕ) (at : PosIndex) : Type 0 where
  place : ℕ
  here : get_or ps c None ≡ Some place
  own : place < columns
  index : IsIndexOf k.rows at
  held : HasIndex es k place at holds

one_column : (es : List Written) (columns : ℕ) (k : Container) (holds : Option Contents) (o : Option ℕ) (x : Option PosIndex) (at : PosIndex) → x ≡ Some at → IsNeeded k.rows o x → HoldsNeeded es k holds o x → IfSome o (λ i. i < columns)
    → (place : ℕ) × (o ≡ Some place) × (place < columns) × IsIndexOf k.rows at × HasIndex es k place at holds
one_column es columns k holds None None at is needed held own = absurd (cc)
one_column es columns k holds None (Some y) at is needed held own = absurd needed
one_column es columns k holds (Some place) None at is needed held own = absurd needed
one_column es columns k holds (Some place) (Some y) at is needed held own =
    let same : y ≡ at = cc in
    (place, refl, own, subst (λ (z : PosIndex). IsIndexOf k.rows z) same needed, subst (λ (z : PosIndex). HasIndex es k place z holds) same held)

column_here : (es : List Written) (columns : ℕ) (k : Container) (holds : Option Contents) (ps : List (Option ℕ)) (xs : List (Option PosIndex)) (c : ℕ) (at : PosIndex) → get_or xs c None ≡ Some at
    → AllZip (IsNeeded k.rows) ps xs → AllZip (HoldsNeeded es k holds) ps xs → AreOwnOf columns ps → IsColumn es columns k holds ps c at
column_here es columns k holds [] [] c at is needed held own = absurd (cc)
column_here es columns k holds [] (x ∷ xs) c at is needed held own = absurd needed
column_here es columns k holds (o ∷ ps) [] c at is needed held own = absurd needed
column_here es columns k holds (o ∷ ps) (x ∷ xs) zero at is needed held own =
    let one = one_column es columns k holds o x at is needed.0 held.0 (All-head (λ (q : Option ℕ). IfSome q (λ i. i < columns)) o ps own) in
    record { place = one.0; here = one.1; own = one.2; index = one.3; held = one.4 }
column_here es columns k holds (o ∷ ps) (x ∷ xs) (suc c) at is needed held own =
    let more = column_here es columns k holds ps xs c at is needed.1 held.1 (All-tail (λ (q : Option ℕ). IfSome q (λ i. i < columns)) o ps own) in
    record { place = more.place; here = more.here; own = more.own; index = more.index; held = more.held }

-- ---- rows whose values in a column lie out of a bound

pub placed_at : (row : List Value) (ps : List (Option ℕ)) (c : ℕ) → get_or (placed ps row) c value.Null ≡ value_at row (get_or ps c None)
placed_at row [] c = refl
placed_at row (p ∷ ps) zero = refl
placed_at row (p ∷ ps) (suc c) = placed_at row ps c

pub out_of_one : (bounds : List Bound) (i : ℕ) (b : Bound) (row : List Value) → slice_get bounds i ≡ Some b → lies_in b (get_or row b.column value.Null) ≡ false → within bounds row ≡ false
out_of_one [] i b row at out = absurd (cc)
out_of_one (x ∷ bounds) zero b row at out =
    let same : x ≡ b = cc in
    let here : lies_in x (get_or row x.column value.Null) ≡ false = subst (λ (y : Bound). lies_in y (get_or row y.column value.Null) ≡ false) (sym same) out in
    by (lies_in x (get_or row x.column value.Null)) (within bounds row) here
  where
    by : (p q : Bool) → p ≡ false → (p && q) ≡ false
    by true q is = absurd (cc)
    by false q is = refl
out_of_one (x ∷ bounds) (suc i) b row at out = by (lies_in x (get_or row x.column value.Null)) (within bounds row) (out_of_one bounds i b row at out)
  where
    by : (p q : Bool) → q ≡ false → (p && q) ≡ false
    by true q is = is
    by false q is = refl

rows_out : (bounds : List Bound) (i : ℕ) (b : Bound) (e : Entry) (ps : List (Option ℕ)) (place : ℕ) (rows : List Asked) → slice_get bounds i ≡ Some b → get_or ps b.column None ≡ Some place → MissesEntry b e
    → list_all (is_between e) (values_at place rows) ≡ true → AreOut bounds ps rows
rows_out bounds i b e ps place [] at here misses all = All-nil (λ (a : Asked). within bounds (placed ps a.row) ≡ false)
rows_out bounds i b e ps place (a ∷ rows) at here misses all =
    let two = and_true (is_between e (value_at a.row (Some place))) (list_all (is_between e) (values_at place rows)) all in
    let value : get_or (placed ps a.row) b.column value.Null ≡ value_at a.row (Some place) = placed_at a.row ps b.column ∙ ap (value_at a.row) here in
    All-cons (λ (x : Asked). within bounds (placed ps x.row) ≡ false) a rows (out_of_one bounds i b (placed ps a.row) at (ap (lies_in b) value ∙ misses (value_at a.row (Some place)) two.0))
    (rows_out bounds i b e ps place rows at here misses two.1)

-- the rows of a block that is passed over
pub passed_out : Between → (m : Contents) (es : List Written) (k : Container) (holds : Option Contents) (ps : List (Option ℕ)) {columns : ℕ} {kept : Beside} (o : Opening) (asked : List Asked) (bounds : List Bound) (j : ℕ) → holds ≡ Some m
    → HoldsContainer m es k asked → AreOwnOf (length es) ps → HasOpened es k columns kept ps holds o → IsOpening k.rows ps o → j < blocks k.rows → IsPassed bounds o.indexes j → AreOut bounds ps (rows_in j asked)
passed_out between m es k holds ps o asked bounds j told held own has opening below (i, some) = by (slice_get bounds i) refl some
  where
    entry : (b : Bound) (at : PosIndex) (q : Option Entry) → slice_get bounds i ≡ Some b → IsColumn es (length es) k holds ps b.column at
        → ((place : ℕ) → place < length es → HasIndex es k place at (Some m) → WhereSome q (λ e. list_all (is_between e) (stored_values (length es) place (rows_in j asked)) ≡ true)) → IsSomeAnd q (MissesEntry b) → AreOut bounds ps (rows_in j asked)
    entry b at None is column all misses = absurd misses
    entry b at (Some e) is column all misses =
        rows_out bounds i b e ps column.place (rows_in j asked) is column.here misses
        (subst (λ (vs : List Value). list_all (is_between e) vs ≡ true) (column_is (length es) column.place (rows_in j asked) column.own)
        (all column.place column.own (subst (λ (h : Option Contents). HasIndex es k column.place at h) told column.held)))

    index : (b : Bound) (x : Option PosIndex) → slice_get bounds i ≡ Some b → get_or o.indexes b.column None ≡ x → IsSomeAnd x (λ at. IsSomeAnd (slice_get at.entries j) (MissesEntry b)) → AreOut bounds ps (rows_in j asked)
    index b None is at misses = absurd misses
    index b (Some x) is at misses =
        let column = column_here es (length es) k holds ps o.indexes b.column x at opening.needed has.held own in
        entry b x (slice_get x.entries j) is column
        (λ place lt index. between m es k place j x asked (omega (arith, lt)) column.index index held below) misses

    by : (q : Option Bound) → slice_get bounds i ≡ q → IsSomeAnd q (Misses o.indexes j) → AreOut bounds ps (rows_in j asked)
    by None is none = absurd none
    by (Some b) is misses = index b (get_or o.indexes b.column None) is refl misses

-- ---- the blocks that are found

same_default : {X : Type 0} (xs : List X) (i : ℕ) (d e : X) → i < length xs → get_or xs i d ≡ get_or xs i e
same_default [] i d e lt = absurd (omega (arith, lt))
same_default (x ∷ xs) zero d e lt = refl
same_default (x ∷ xs) (suc i) d e lt = same_default xs i d e (omega (arith, lt))

found_at : {X : Type 0} (xs : List X) (i : ℕ) (x : X) → true ≡ ltb i (length xs) → x ≡ get_or xs i x → slice_get xs i ≡ Some x
found_at {X} xs i x lt is = slice_get-get_or xs i x (ltb-true i (length xs) (sym lt)) ∙ ap (λ (y : X). Some y) (sym is)

-- a bound that an entry misses
pub misses_here : (b : Bound) (indexes : List (Option PosIndex)) (block : ℕ) (x : Option PosIndex) (at : PosIndex) (entries : List Entry) (e : Entry) → true ≡ ltb b.column (length indexes) → x ≡ get_or indexes b.column x → x ≡ Some at
    → entries ≡ at.entries → true ≡ ltb block (length entries) → e ≡ get_or entries block e → ((v : Value) → is_le (value_cmp e.least v) ≡ true → is_le (value_cmp v e.greatest) ≡ true → lies_in b v ≡ false) → Misses indexes block b
misses_here b indexes block x at entries e lt here is are below entry out =
    let index : get_or indexes b.column None ≡ Some at = same_default indexes b.column None x (ltb-true b.column (length indexes) (sym lt)) ∙ sym here ∙ is in
    let one : slice_get at.entries block ≡ Some e = ap (λ (es : List Entry). slice_get es block) (sym are) ∙ found_at entries block e below entry in
    subst (λ (q : Option PosIndex). IsSomeAnd q (λ y. IsSomeAnd (slice_get y.entries block) (MissesEntry b))) (sym index)
    (subst (λ (q : Option Entry). IsSomeAnd q (MissesEntry b)) (sym one)
    (λ v between. let two = and_true (is_le (value_cmp e.least v)) (is_le (value_cmp v e.greatest)) between in out v two.0 two.1))

pub missed_here : (b : Bound) (indexes : List (Option PosIndex)) (block : ℕ) (x : Option PosIndex) (at : PosIndex) (entries : List Entry) (e : Entry) → true ≡ ltb b.column (length indexes) → x ≡ get_or indexes b.column x → x ≡ Some at
    → entries ≡ at.entries → true ≡ ltb block (length entries) → e ≡ get_or entries block e → is_missed indexes block b ≡ misses b e.least e.greatest
missed_here b indexes block x at entries e lt here is are below entry =
    let index : get_or indexes b.column None ≡ Some at = same_default indexes b.column None x (ltb-true b.column (length indexes) (sym lt)) ∙ sym here ∙ is in
    let one : slice_get at.entries block ≡ Some e = ap (λ (es : List Entry). slice_get es block) (sym are) ∙ found_at entries block e below entry in
    ap (λ (q : Option PosIndex). option_map_or (λ y. option_map_or (λ f. misses b f.least f.greatest) (slice_get y.entries block) false) q false) index ∙ ap (λ (q : Option Entry). option_map_or (λ f. misses b f.least f.greatest) q false) one

-- a block that one of the bounds passes over
pub passed_here : (bounds : List Bound) (indexes : List (Option PosIndex)) (block i : ℕ) (b : Bound) → i < length bounds → b ≡ get_or bounds i b → Misses indexes block b → IsPassed bounds indexes block
passed_here bounds indexes block i b lt at misses =
    let one : slice_get bounds i ≡ Some b = slice_get-get_or bounds i b lt ∙ ap (λ (y : Bound). Some y) (sym at) in
    (i, subst (λ (q : Option Bound). IsSomeAnd q (Misses indexes block)) (sym one) misses)

-- one block more
pub passed_next : (bounds : List Bound) (indexes : List (Option PosIndex)) (first i : ℕ) → ((j : ℕ) → first ≤ j → j < i → IsPassed bounds indexes j) → IsPassed bounds indexes i → (j : ℕ) → first ≤ j → j < i + 1 → IsPassed bounds indexes j
passed_next bounds indexes first i before here j from lt = by (grind arith)
  where
    by : (j ≡ i) ⊎ (j < i) → IsPassed bounds indexes j
    by (inl same) = subst (λ (n : ℕ). IsPassed bounds indexes n) (sym same) here
    by (inr less) = before j from less

-- ---- what a batch shows

none_out : (bounds : List Bound) (ps : List (Option ℕ)) (passed : List Stamped) → bounds ≡ [] → All (λ a. within bounds (placed ps a.row) ≡ false) passed → passed ≡ []
none_out bounds ps [] none out = refl
none_out bounds ps (a ∷ passed) none out =
    let here : within bounds (placed ps a.row) ≡ false = All-head (λ (x : Stamped). within bounds (placed ps x.row) ≡ false) a passed out in
    let all : within bounds (placed ps a.row) ≡ true = ap (λ (bs : List Bound). within bs (placed ps a.row)) none in
    absurd (cc)

bag_swap : {X : Type 0} (xs ys : List X) → SameBag (xs ++ ys) (ys ++ xs)
bag_swap xs ys = record { counts = λ p. omega (arith, count_append p xs ys, count_append p ys xs) }

-- the visible ones of some rows, made for the table's columns, and their insert epochs where they are told
pub record ShowsAll (epoch : ℕ) (places : List (Option ℕ)) (stamps : Bool) (b : Shown) (came : List Stamped) : Type 0 where
  pub rows : b.rows ≡ map (placed places) (visible epoch came)
  pub inserted : stamps ≡ true → b.inserted ≡ map (λ a. a.ins) (filter (is_visible epoch) came)

pub shows : (s : Place) (came passed next : List Stamped) (b : Shown) → next ≡ passed ++ came → All (λ a. within s.bounds (placed s.places a.row) ≡ false) passed → ShowsAll s.epoch s.places s.stamps b came → Shows s next b
shows s came passed next b are out all = record {
  came = came;
  passed = passed;
  parts = subst (λ (xs : List Stamped). SameBag xs (came ++ passed)) (sym are) (bag_swap passed came);
  out = out;
  rows = all.rows;
  inserted = all.inserted;
  whole = λ none. sym (are ∙ ap (λ (xs : List Stamped). xs ++ came) (none_out s.bounds s.places passed none out));
}

-- rows that are passed over, before others
pub shows_later : (s : Place) (passed next : List Stamped) (b : Shown) → All (λ a. within s.bounds (placed s.places a.row) ≡ false) passed → Shows (start s.epoch s.places s.bounds s.stamps) next b → Shows s (passed ++ next) b
shows_later s passed next b out later = record {
  came = later.came;
  passed = passed ++ later.passed;
  parts = record { counts = λ p. omega (arith, count_append p passed next, later.parts.counts p, count_append p later.came later.passed, count_append p later.came (passed ++ later.passed), count_append p passed later.passed) };
  out = All-append (λ (a : Stamped). within s.bounds (placed s.places a.row) ≡ false) passed later.passed out later.out;
  rows = later.rows;
  inserted = later.inserted;
  whole = λ none. later.whole none ∙ sym (ap (λ (xs : List Stamped). xs ++ next) (none_out s.bounds s.places passed none out));
}
