-- Rows by their columns.
use Rattle.std.proofs.Common.{◌≡◌, ℕ, Bool, true, false, ltb, ◌+◌, ◌-◌, ◌<◌, ◌≤◌, List, [], ◌∷◌, ◌++◌, length, map, get_or, refl, sym, ap, subst, ◌∙◌, arith}
use Rattle.std.specs.List.{All, range_with_len}
use Rattle.std.specs.Prelude.{pos}
use Rattle.std.proofs.lemmas.List.{length-map, get_or-map, get_or_past, ext_get_or}
use Rattle.std.proofs.lemmas.List.Elements.{All-map}
use Rattle.std.proofs.lemmas.Bool.{ltb-true, ltb-false}
use Rattle.std.proofs.lemmas.List.FromFn.{length-range_with_len, get_or-range_with_len}
use Rattle.col_value.specs.declared.row.Asked.{Asked}
use Rattle.col_value.specs.declared.value.Value.{Value}
use Rattle.col_value.specs.declared.value.Value.TheVariants as value
use Rattle.catalog_types.specs.declared.catalogue.Container.{Container}
use Rattle.ros_container.specs.Rows.{column_values, epoch_values, AreWide, AreWithin, IsWithin}
use Rattle.container_draft.specs.Lanes.{row_by, rows_by}
use Rattle.container_draft.specs.Placed.{no_row, asked_at}

abbrev row_of : List (List Value) → List ℕ → ℕ → Asked
row_of columns epochs i = record { row = row_by columns i; ins = get_or epochs i 0 }

pub rows_long : (columns : List (List Value)) (epochs : List ℕ) → length (rows_by columns epochs) ≡ length epochs
rows_long columns epochs = length-map (range_with_len 0 (length epochs)) (row_of columns epochs) ∙ length-range_with_len 0 (length epochs)

-- the row at a place
pub row_there : (columns : List (List Value)) (epochs : List ℕ) (i : ℕ) → i < length epochs → asked_at (rows_by columns epochs) i ≡ record { row = row_by columns i; ins = get_or epochs i 0 }
row_there columns epochs i lt =
    let long = length-range_with_len 0 (length epochs) in
    let at : get_or (range_with_len 0 (length epochs)) i 0 ≡ i = get_or-range_with_len 0 (length epochs) i 0 lt ∙ (omega arith) in
    get_or-map (row_of columns epochs) (range_with_len 0 (length epochs)) i 0 no_row (omega (arith, long, lt)) ∙ ap (row_of columns epochs) at

pub no_row_there : (columns : List (List Value)) (epochs : List ℕ) (i : ℕ) → length epochs ≤ i → asked_at (rows_by columns epochs) i ≡ no_row
no_row_there columns epochs i le = let long = rows_long columns epochs in get_or_past (rows_by columns epochs) i no_row (omega (arith, long, le))

-- ---- the same of rows as they are seen

there : (columns : List (List Value)) (epochs : List ℕ) (rows : List Asked) (i : ℕ) → rows_by columns epochs ≡ rows → i < length rows → record { row = row_by columns i; ins = get_or epochs i 0 } ≡ asked_at rows i
there columns epochs rows i is lt =
    let long = rows_long columns epochs in
    let same = ap length is in
    sym (row_there columns epochs i (omega (arith, long, same, lt))) ∙ ap (λ (xs : List Asked). asked_at xs i) is

pub cell_there : (columns shown : List (List Value)) (epochs : List ℕ) (rows : List Asked) (i column : ℕ) → shown ≡ columns → rows_by columns epochs ≡ rows → i < length rows
    → get_or (row_by shown i) column value.Null ≡ get_or (asked_at rows i).row column value.Null
cell_there columns shown epochs rows i column same is lt =
    ap (λ (xss : List (List Value)). get_or (row_by xss i) column value.Null) same ∙ ap (λ (a : Asked). get_or a.row column value.Null) (there columns epochs rows i is lt)

pub width_there : (columns shown : List (List Value)) (epochs : List ℕ) (rows : List Asked) (i : ℕ) → shown ≡ columns → rows_by columns epochs ≡ rows → i < length rows → length shown ≡ length (asked_at rows i).row
width_there columns shown epochs rows i same is lt =
    ap length same ∙ sym (length-map columns (λ vs. get_or vs i value.Null)) ∙ ap (λ (a : Asked). length a.row) (there columns epochs rows i is lt)

pub past_is : (rows : List Asked) (i : ℕ) → length rows ≤ i → no_row ≡ asked_at rows i
past_is rows i le = sym (get_or_past rows i no_row le)

epoch_by : (columns : List (List Value)) (epochs : List ℕ) (i : ℕ) → get_or epochs i 0 ≡ (asked_at (rows_by columns epochs) i).ins
epoch_by columns epochs i = by (ltb i (length epochs)) refl
  where
    by : (b : Bool) → ltb i (length epochs) ≡ b → get_or epochs i 0 ≡ (asked_at (rows_by columns epochs) i).ins
    by true is = sym (ap (λ (a : Asked). a.ins) (row_there columns epochs i (ltb-true i (length epochs) is)))
    by false is =
        let le : length epochs ≤ i = ltb-false i (length epochs) is in
        let long = rows_long columns epochs in
        get_or_past epochs i 0 le ∙ sym (ap (λ (a : Asked). a.ins) (get_or_past (rows_by columns epochs) i no_row (omega (arith, le, long))))

pub epoch_there : (columns : List (List Value)) (epochs shown : List ℕ) (rows : List Asked) (i : ℕ) → shown ≡ epochs → rows_by columns epochs ≡ rows → get_or shown i 0 ≡ (asked_at rows i).ins
epoch_there columns epochs shown rows i same is =
    ap (λ (xs : List ℕ). get_or xs i 0) same ∙ epoch_by columns epochs i ∙ ap (λ (xs : List Asked). (asked_at xs i).ins) is

-- ---- columns, epochs, widths

over_range : (P : ℕ → Type 0) (n : ℕ) → ((i : ℕ) → i < n → P i) → All P (range_with_len 0 n)
over_range P n each j d lt =
    let long = length-range_with_len 0 n in
    let within : j < n = omega (arith, lt, long) in
    let at : get_or (range_with_len 0 n) j d ≡ j = get_or-range_with_len 0 n j d within ∙ (omega arith) in
    subst P (sym at) (each j within)

pub column_by : (columns : List (List Value)) (epochs : List ℕ) (c : ℕ) → c < length columns → length (get_or columns c []) ≡ length epochs → column_values c (rows_by columns epochs) ≡ get_or columns c []
column_by columns epochs c there long =
    let rows = rows_by columns epochs in
    let many : length (column_values c rows) ≡ length epochs = length-map rows (λ a. get_or a.row c value.Null) ∙ rows_long columns epochs in
    ext_get_or value.Null (column_values c rows) (get_or columns c []) (many ∙ sym long) (λ i lt.
    let within : i < length epochs = omega (arith, lt, many) in
    let is_long = rows_long columns epochs in
    get_or-map (λ (a : Asked). get_or a.row c value.Null) rows i no_row value.Null (omega (arith, within, is_long))
    ∙ ap (λ (a : Asked). get_or a.row c value.Null) (row_there columns epochs i within)
    ∙ get_or-map (λ (vs : List Value). get_or vs i value.Null) columns c [] value.Null there)

pub epochs_by : (columns : List (List Value)) (epochs : List ℕ) → epoch_values (rows_by columns epochs) ≡ map (λ e. value.Int (pos e)) epochs
epochs_by columns epochs =
    let rows = rows_by columns epochs in
    let many : length (epoch_values rows) ≡ length epochs = length-map rows (λ a. value.Int (pos a.ins)) ∙ rows_long columns epochs in
    ext_get_or value.Null (epoch_values rows) (map (λ e. value.Int (pos e)) epochs) (many ∙ sym (length-map epochs (λ e. value.Int (pos e)))) (λ i lt.
    let within : i < length epochs = omega (arith, lt, many) in
    let is_long = rows_long columns epochs in
    get_or-map (λ (a : Asked). value.Int (pos a.ins)) rows i no_row value.Null (omega (arith, within, is_long))
    ∙ ap (λ (a : Asked). value.Int (pos a.ins)) (row_there columns epochs i within)
    ∙ sym (get_or-map (λ (e : ℕ). value.Int (pos e)) epochs i 0 value.Null within))

pub wide_by : (columns : List (List Value)) (epochs : List ℕ) → AreWide (length columns) (rows_by columns epochs)
wide_by columns epochs =
    All-map (λ (a : Asked). length a.row ≡ length columns) (row_of columns epochs) (range_with_len 0 (length epochs))
    (over_range (λ i. length (row_by columns i) ≡ length columns) (length epochs) (λ i lt. length-map columns (λ vs. get_or vs i value.Null)))

pub within_by : (k : Container) (columns : List (List Value)) (epochs : List ℕ) → All (IsWithin k) epochs → AreWithin k (rows_by columns epochs)
within_by k columns epochs all =
    All-map (λ (a : Asked). IsWithin k a.ins) (row_of columns epochs) (range_with_len 0 (length epochs)) (over_range (λ i. IsWithin k (get_or epochs i 0)) (length epochs) (λ i lt. all i 0 lt))
