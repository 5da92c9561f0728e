-- A value replaced where it stands.
use Rattle.std.proofs.Common.{◌≡◌, ℕ, ◌+◌, ◌<◌, ◌≤◌, ◌++◌, List, [], ◌∷◌, length, get_or, set, take, sym, ap, ap₂, ◌∙◌, arith}
use Rattle.std.specs.Prelude.{Option, None}
use Rattle.std.proofs.lemmas.List.{map-append, take_all, take_more, take_more_set}
use Rattle.col_value.specs.declared.value.Value.{Value}
use Rattle.exec_scan.specs.Batches.{cell, row_of}

pub value_next : (row next values : List Value) (c : ℕ) (v : Value) → c < length row → c < length values → next ≡ set row c v → v ≡ get_or values c v → take c row ≡ take c values → take (c + 1) next ≡ take (c + 1) values
value_next row next values c v lt within is here was =
    ap (take (c + 1)) is ∙ take_more_set row c v lt ∙ ap₂ (λ (vs : List Value) (w : Value). vs ++ w ∷ []) was here ∙ sym (take_more values c v within)

pub cell_next : (row next : List Value) (columns : List (Option (List Value))) (i c : ℕ) (v : Value) → c < length row → c < length columns → next ≡ set row c v → v ≡ cell i (get_or columns c None) → take c row ≡ row_of (take c columns) i
    → take (c + 1) next ≡ row_of (take (c + 1) columns) i
cell_next row next columns i c v lt within is here was =
    ap (take (c + 1)) is ∙ take_more_set row c v lt ∙ ap₂ (λ (vs : List Value) (w : Value). vs ++ w ∷ []) was here
    ∙ sym (ap (λ (cs : List (Option (List Value))). row_of cs i) (take_more columns c None within) ∙ map-append (cell i) (take c columns) (get_or columns c None ∷ []))

pub all_values : (row values : List Value) (c : ℕ) → length row ≡ length values → length values ≤ c → take c row ≡ take c values → row ≡ values
all_values row values c long past was = sym (take_all c row (omega (arith, long, past))) ∙ was ∙ take_all c values past

pub all_cells : (row : List Value) (columns : List (Option (List Value))) (i c : ℕ) → length row ≡ length columns → length columns ≤ c → take c row ≡ row_of (take c columns) i → row ≡ row_of columns i
all_cells row columns i c long past was = sym (take_all c row (omega (arith, long, past))) ∙ was ∙ ap (λ (cs : List (Option (List Value))). row_of cs i) (take_all c columns past)
