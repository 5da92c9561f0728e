-- Rows that have a container's columns at some places alone.
use Rattle.std.proofs.Common.{◌≡◌, ℕ, Bool, true, false, ltb, ◌+◌, ◌<◌, ◌≤◌, ◌++◌, List, [], ◌∷◌, length, map, get_or, refl, sym, ap, ap₂, ◌∙◌, arith, subst}
use Rattle.std.specs.Prelude.{slice_index_or}
use Rattle.std.specs.List.{All, range_with_len}
use Rattle.std.proofs.lemmas.Bool.{ltb-true, ltb-false}
use Rattle.std.proofs.lemmas.List.{length-map, get_or-map, map-append}
use Rattle.std.proofs.lemmas.List.Elements.{All-nil, All-append, All-cons, All-head, All-tail}
use Rattle.std.proofs.lemmas.List.FromFn.{length-range_with_len, get_or-range_with_len}
use Rattle.common_laws.specs.Maps.{Contents}
use Rattle.catalog_types.specs.declared.catalogue.Container.{Container}
use Rattle.catalog_types.specs.declared.catalogue.Projection.{Projection}
use Rattle.col_file.specs.Held.{HoldsColumn}
use Rattle.col_value.specs.declared.kinds.Encoding.{Encoding}
use Rattle.col_value.specs.declared.kinds.Encoding.TheVariants.{Auto}
use Rattle.col_value.specs.declared.row.Asked.{Asked}
use Rattle.col_value.specs.declared.value.Value.{Value}
use Rattle.col_value.specs.declared.value.Value.TheVariants as value
use Rattle.row_history.specs.History.{asked_on}
use Rattle.ros_container.specs.Encodings.{Written, written_as, written_of, encoding_at}
use Rattle.ros_container.specs.Files.{body_of, index_of}
use Rattle.ros_container.specs.Held.{HoldsContainer}
use Rattle.ros_container.specs.Parts.{HasValues}
use Rattle.ros_container.specs.Readable.{IsReadable}
use Rattle.ros_container.specs.Rows.{column_values, epoch_values, AreWide}
use Rattle.ros_container.proofs.Reading.{all_read}
use Rattle.ros_container.proofs.SameRows.{same_rows}
use Rattle.merge_rows.specs.Inputs.{chosen}
use Rattle.container_draft.specs.Lanes.{HoldsOn}
use Rattle.container_draft.specs.Reading.{HoldEach, HoldEachOn}
use Rattle.container_draft.proofs.Flags.{all_chosen}

-- the two files of a column hold one list of values
abbrev pub OneColumn : Type 0
OneColumn = (encoding : Encoding) (body index rows : ℕ) (m : Contents) (vs ws : List Value) → HoldsColumn encoding body index rows m vs → HoldsColumn encoding body index rows m ws → vs ≡ ws

-- ---- of all columns

at_range : (n i : ℕ) → i < n → get_or (range_with_len 0 n) i 0 ≡ i
at_range n i lt = get_or-range_with_len 0 n i 0 lt ∙ (omega arith)

all_on : (m : Contents) (es : List Written) (k : Container) (rows : List Asked) → k.stored ≤ length es → HoldsOn m es k (range_with_len 0 (length es)) rows → HoldsContainer m es k rows
all_on m es k rows most held =
    let long = length-range_with_len 0 (length es) in
    all_read m es k (length es) rows refl most
    (λ i lt. subst (λ (c : ℕ). HasValues m es k c (column_values i rows)) (at_range (length es) i lt) (held.each i (omega (arith, lt, long)))) held.epochs
    (subst (λ (n : ℕ). AreWide n rows) long held.wide) held.within

each_all : (m : Contents) (es : List Written) (ks : List Container) (rows : List Asked) → All (λ k. k.stored ≤ length es) ks → HoldEachOn m es (range_with_len 0 (length es)) ks rows → HoldEach m es ks rows
each_all m es [] rows most held = held
each_all m es (k ∷ ks) rows most (here, more, own, rest, is) =
    (here, more, all_on m es k here (All-head (λ j. j.stored ≤ length es) k ks most) own, each_all m es ks more (All-tail (λ j. j.stored ≤ length es) k ks most) rest, is)

stored_most : (p : Projection) (ks : List Container) → All (IsReadable p.columns) ks → All (λ k. k.stored ≤ length (written_of p)) ks
stored_most p [] all = All-nil (λ k. k.stored ≤ length (written_of p))
stored_most p (k ∷ ks) all =
    let most = (All-head (IsReadable p.columns) k ks all).of_columns.most in
    let long = length-map p.columns written_as in
    All-cons (λ j. j.stored ≤ length (written_of p)) k ks (omega (arith, most, long)) (stored_most p ks (All-tail (IsReadable p.columns) k ks all))

-- rows that were read with all columns
pub all_read_on : (m : Contents) (p : Projection) (flags : List Bool) (count : ℕ) (via shown : List ℕ) (rows : List Asked) → All (IsReadable p.columns) p.containers → count ≡ length p.columns → via ≡ range_with_len 0 count → shown ≡ via
    → HoldEachOn m (written_of p) shown (chosen flags p.containers) rows → HoldEach m (written_of p) (chosen flags p.containers) rows
all_read_on m p flags count via shown rows files many are same held =
    let long : count ≡ length (written_of p) = many ∙ sym (length-map p.columns written_as) in
    each_all m (written_of p) (chosen flags p.containers) rows (stored_most p (chosen flags p.containers) (all_chosen (IsReadable p.columns) flags p.containers files))
    (subst (λ (vs : List ℕ). HoldEachOn m (written_of p) vs (chosen flags p.containers) rows) (same ∙ are ∙ ap (range_with_len 0) long) held)

pub places_within : (n count : ℕ) (via shown : List ℕ) → count ≡ n → via ≡ range_with_len 0 count → shown ≡ via → All (λ i. i < n) shown
places_within n count via shown many are same =
    subst (All (λ i. i < n)) (sym (same ∙ are ∙ ap (range_with_len 0) many)) (λ i d lt.
    let long = length-range_with_len 0 n in
    let there : i < n = omega (arith, lt, long) in
    let at : get_or (range_with_len 0 n) i d ≡ i = get_or-range_with_len 0 n i d there ∙ (omega arith) in
    omega (arith, at, there))

-- ---- how wide they are

pub none_wide : (n : ℕ) (rows : List Asked) → rows ≡ [] → AreWide n rows
none_wide n rows none = subst (AreWide n) (sym none) (All-nil (λ a. length a.row ≡ n))

pub wide_more : (n : ℕ) (rows here more : List Asked) → AreWide n rows → AreWide n here → more ≡ rows ++ here → AreWide n more
wide_more n rows here more wide one is = subst (AreWide n) (sym is) (All-append (λ (a : Asked). length a.row ≡ n) rows here wide one)

-- ---- of some columns

column_on : (via : List ℕ) (i : ℕ) (rows : List Asked) → i < length via → column_values i (map (asked_on via) rows) ≡ column_values (get_or via i 0) rows
column_on via i [] lt = refl
column_on via i (a ∷ rows) lt = ap₂ (λ (v : Value) (vs : List Value). v ∷ vs) (get_or-map (λ c. slice_index_or a.row c value.Null) via i 0 value.Null lt) (column_on via i rows lt)

epochs_on : (via : List ℕ) (rows : List Asked) → epoch_values (map (asked_on via) rows) ≡ epoch_values rows
epochs_on via [] = refl
epochs_on via (a ∷ rows) = ap (λ (vs : List Value). epoch_values (a ∷ []) ++ vs) (epochs_on via rows)

wide_on : (via : List ℕ) (rows : List Asked) → AreWide (length via) (map (asked_on via) rows)
wide_on via [] = All-nil (λ a. length a.row ≡ length via)
wide_on via (a ∷ rows) = All-cons (λ b. length b.row ≡ length via) (asked_on via a) (map (asked_on via) rows) (length-map via (λ c. slice_index_or a.row c value.Null)) (wide_on via rows)

-- a column of a container has the values that its rows have there
one_values : OneColumn → (m : Contents) (es : List Written) (k : Container) (c : ℕ) (vs : List Value) (rows : List Asked) → c < length es → HasValues m es k c vs → HoldsContainer m es k rows → vs ≡ column_values c rows
one_values one m es k c vs rows inside has held = by (ltb c k.stored) refl
  where
    by : (b : Bool) → ltb c k.stored ≡ b → vs ≡ column_values c rows
    by true is =
        let lt = ltb-true c k.stored is in
        one (encoding_at es c) (body_of k.base c) (index_of k.base c) k.rows m vs (column_values c rows) (has.stored lt) (held.each c lt)
    by false is =
        let le = ltb-false c k.stored is in
        has.default le ∙ sym (held.defaults c le inside)

-- whatever rows a container holds, rows that were read of some columns are theirs
rows_are : OneColumn → (m : Contents) (es : List Written) (k : Container) (via : List ℕ) (rows all : List Asked) → All (λ c. c < length es) via → HoldsOn m es k via rows → HoldsContainer m es k all → rows ≡ map (asked_on via) all
rows_are one m es k via rows all inside on held =
    same_rows (length via) rows (map (asked_on via) all) on.wide (wide_on via all)
    (λ i lt. one_values one m es k (get_or via i 0) (column_values i rows) all (inside i 0 lt) (on.each i lt) held ∙ sym (column_on via i all lt))
    (one Auto (body_of k.base k.stored) (index_of k.base k.stored) k.rows m (epoch_values rows) (epoch_values all) on.epochs held.epochs ∙ sym (epochs_on via all))

each_are : OneColumn → (m : Contents) (es : List Written) (ks : List Container) (via : List ℕ) (rows all : List Asked) → All (λ c. c < length es) via → HoldEachOn m es via ks rows → HoldEach m es ks all → rows ≡ map (asked_on via) all
each_are one m es [] via rows all inside on held = on ∙ sym (ap (map (asked_on via)) held)
each_are one m es (k ∷ ks) via rows all inside (here, more, own, rest, is) (front, behind, holds, others, are) =
    is ∙ ap₂ (λ (xs ys : List Asked). xs ++ ys) (rows_are one m es k via here front inside own holds) (each_are one m es ks via more behind inside rest others) ∙ sym (map-append (asked_on via) front behind) ∙ sym (ap (map (asked_on via)) are)

-- the same of all containers of a projection
pub all_are : OneColumn → (m : Contents) (p : Projection) (chosen_too : List Container) (via : List ℕ) (rows all : List Asked) → All (λ c. c < length p.columns) via → chosen_too ≡ p.containers → HoldEachOn m (written_of p) via chosen_too rows
    → HoldEach m (written_of p) p.containers all → rows ≡ map (asked_on via) all
all_are one m p chosen_too via rows all inside same on held =
    each_are one m (written_of p) p.containers via rows all (subst (λ (n : ℕ). All (λ c. c < n) via) (sym (length-map p.columns written_as)) inside) (subst (λ (ks : List Container). HoldEachOn m (written_of p) via ks rows) same on) held
