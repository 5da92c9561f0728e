-- Values gathered from lanes.
use Rattle.std.proofs.Common.{◌≡◌, ℕ, zero, suc, ◌+◌, ◌<◌, List, [], ◌∷◌, ◌++◌, length, map, get_or, take, ℤ, refl, sym, ap, ap₂, ◌∙◌, arith, subst}
use Rattle.std.specs.Prelude.{slice_index_or, Option, Some, None, Result, Ok, Err, IfOk, IfSome}
use Rattle.std.specs.List.{flat_map}
use Rattle.std.proofs.lemmas.List.{append-nil, append_assoc, length-append, length-map, map-append, take_more}
use Rattle.block_codec.specs.Held.{number_value}
use Rattle.col_value.specs.declared.row.Asked.{Asked}
use Rattle.col_value.specs.declared.value.Value.{Value}
use Rattle.col_value.specs.declared.value.Value.TheVariants as value
use Rattle.ros_container.specs.Rows.{column_values}
use Rattle.container_draft.specs.Lanes.{joined, rows_by}
use Rattle.container_draft.specs.Placed.{all_at, asked_at, no_row}
use Rattle.container_draft.proofs.ByLanes.{column_by, rows_long}

pub joined_append : {X : Type 0} (xss yss : List (List X)) → joined (xss ++ yss) ≡ joined xss ++ joined yss
joined_append [] yss = refl
joined_append (xs ∷ xss) yss = ap (λ (l : List _). xs ++ l) (joined_append xss yss) ∙ sym (append_assoc xs (joined xss) (joined yss))

-- the lists up to a place and one more
pub joined_more : {X : Type 0} (xss : List (List X)) (i : ℕ) → i < length xss → joined (take (i + 1) xss) ≡ joined (take i xss) ++ get_or xss i []
joined_more xss i lt =
    ap joined (take_more xss i [] lt) ∙ joined_append (take i xss) (get_or xss i [] ∷ []) ∙ ap (λ (l : List _). joined (take i xss) ++ l) (append-nil (get_or xss i []))

pub at_row : (column : ℕ) (rows : List Asked) (i : ℕ) → slice_index_or (column_values column rows) i value.Null ≡ slice_index_or (asked_at rows i).row column value.Null
at_row column [] i = refl
at_row column (a ∷ rows) zero = refl
at_row column (a ∷ rows) (suc i) = at_row column rows i

pub gathered_at : (column : ℕ) (rows : List Asked) (places : List ℕ) → map (λ i. slice_index_or (column_values column rows) i value.Null) places ≡ column_values column (all_at rows places)
gathered_at column rows [] = refl
gathered_at column rows (i ∷ places) = ap₂ (λ (v : Value) (vs : List Value). v ∷ vs) (at_row column rows i) (gathered_at column rows places)

pub gathered_same : (column : ℕ) (rows : List Asked) (lane shown : List ℤ) (places : List ℕ) (v : List Value) → map number_value lane ≡ column_values column rows → shown ≡ lane
    → v ≡ map (λ i. slice_index_or (map number_value shown) i value.Null) places → v ≡ column_values column (all_at rows places)
gathered_same column rows lane shown places v is slice made =
    made ∙ ap (λ (vs : List Value). map (λ i. slice_index_or vs i value.Null) places) (ap (map number_value) slice ∙ is) ∙ gathered_at column rows places

pub lane_of : (columns shown : List (List Value)) (epochs : List ℕ) (rows : List Asked) (c count : ℕ) (before v : List ℤ) → shown ≡ columns → rows_by columns epochs ≡ rows → count ≡ length rows
    → map number_value v ≡ map number_value before ++ get_or shown c [] → c < length shown → length v ≡ length before + count
    → map number_value v ≡ map number_value before ++ column_values c rows
lane_of columns shown epochs rows c count before v same is all numbers there long =
    let whole : length (map number_value v) ≡ length (map number_value before) + length (get_or shown c []) = ap length numbers ∙ length-append (map number_value before) (get_or shown c []) in
    let one = length-map v number_value in
    let other = length-map before number_value in
    let many = ap length is in
    let epochs_long = rows_long columns epochs in
    let fills : length (get_or shown c []) ≡ length epochs = omega (arith, whole, one, other, many, epochs_long, all, long) in
    let here : column_values c (rows_by columns epochs) ≡ get_or columns c [] =
    column_by columns epochs c (subst (λ (xs : List (List Value)). c < length xs) same there) (ap (λ (xs : List (List Value)). length (get_or xs c [])) (sym same) ∙ fills) in
    numbers ∙ ap (λ (l : List Value). map number_value before ++ l) (ap (λ (xs : List (List Value)). get_or xs c []) same ∙ sym here ∙ ap (column_values c) is)

pub column_more : (column i : ℕ) (parts : List (List Asked)) (rows : List Asked) (out more : List ℤ) → i < length parts → rows ≡ get_or parts i [] → map number_value more ≡ map number_value out ++ column_values column rows
    → map number_value out ≡ column_values column (joined (take i parts)) → map number_value more ≡ column_values column (joined (take (i + 1) parts))
column_more column i parts rows out more lt here is before =
    is ∙ ap₂ (λ (xs ys : List Value). xs ++ ys) before (ap (column_values column) here)
    ∙ sym (map-append (λ (a : Asked). slice_index_or a.row column value.Null) (joined (take i parts)) (get_or parts i [])) ∙ ap (column_values column) (sym (joined_more parts i lt))

pub blocks_more : (i : ℕ) (blocks : List (List Value)) (block : List Value) (before out next numbers shown : List ℤ) → i < length blocks → block ≡ get_or blocks i [] → map number_value numbers ≡ block → next ≡ out ++ numbers
    → map number_value out ≡ map number_value before ++ joined (take i blocks) → map number_value next ≡ map number_value before ++ joined (take (i + 1) blocks)
blocks_more i blocks block before out next numbers shown lt here held more so =
    ap (map number_value) more ∙ map-append number_value out numbers ∙ ap₂ (λ (xs ys : List Value). xs ++ ys) so (held ∙ here)
    ∙ append_assoc (map number_value before) (joined (take i blocks)) (get_or blocks i []) ∙ ap (λ (l : List Value). map number_value before ++ l) (sym (joined_more blocks i lt))

pub lane_there : {V E : Type 0} (items : V → List ℤ) (columns shown : List (List Value)) (epochs : List ℕ) (rows : List Asked) (c count : ℕ) (before : List ℤ) (r : Result (Option V) E) → shown ≡ columns → rows_by columns epochs ≡ rows
    → count ≡ length rows → IfOk r (λ o. IfSome o (λ v. map number_value (items v) ≡ map number_value before ++ get_or shown c [])) → IfOk r (λ o. IfSome o (λ v. c < length shown))
    → IfOk r (λ o. IfSome o (λ v. length (items v) ≡ length before + count)) → IfOk r (λ o. IfSome o (λ v. map number_value (items v) ≡ map number_value before ++ column_values c rows))
lane_there items columns shown epochs rows c count before (Ok (Some v)) same is all numbers there long = lane_of columns shown epochs rows c count before (items v) same is all numbers there long
lane_there items columns shown epochs rows c count before (Ok None) same is all numbers there long = tt
lane_there items columns shown epochs rows c count before (Err e) same is all numbers there long = tt
