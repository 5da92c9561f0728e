-- Rows and their columns: one value more each, and columns that fix the rows.
use Rattle.std.proofs.Common.{◌≡◌, ℕ, ◌+◌, ◌<◌, List, [], ◌∷◌, ◌++◌, length, get_or, refl, ap, ap₂, arith, length-append}
use Rattle.std.proofs.Math.ListN.{get_or-append}
use Rattle.std.proofs.Math.Seq.{get_or-append_seam}
use Rattle.std.proofs.lemmas.List.Elements.{All-nil, All-cons, All-head, All-tail, All-push}
use Rattle.std.specs.Prelude.{pos}
use Rattle.std.specs.List.{All}
use Rattle.col_value.specs.Order.{IsValue, IsRow}
use Rattle.catalog_types.specs.declared.catalogue.Container.{Container}
use Rattle.col_value.specs.declared.row.Asked.{Asked}
use Rattle.col_value.specs.declared.value.Value.{Value}
use Rattle.col_value.specs.declared.value.Value.TheVariants as value
use Rattle.ros_container.specs.Parts.{with_value, with_values}
use Rattle.ros_container.specs.Rows.{column_values, epoch_values, AreRows, AreWide, AreWithin, IsWithin}

pub with_length : (rows : List Asked) (vs : List Value) → length rows ≡ length vs → length (with_values rows vs) ≡ length rows
with_length [] [] long = refl
with_length [] (v ∷ vs) long = refl
with_length (a ∷ rows) [] long = absurd (cc)
with_length (a ∷ rows) (v ∷ vs) long = let rest : length (with_values rows vs) ≡ length rows = with_length rows vs (omega arith) in omega arith

-- the epochs stay
pub with_epochs : (rows : List Asked) (vs : List Value) → length rows ≡ length vs → epoch_values (with_values rows vs) ≡ epoch_values rows
with_epochs [] [] long = refl
with_epochs [] (v ∷ vs) long = refl
with_epochs (a ∷ rows) [] long = absurd (cc)
with_epochs (a ∷ rows) (v ∷ vs) long = ap (λ (ws : List Value). value.Int (pos a.ins) ∷ ws) (with_epochs rows vs (omega arith))

pub with_within : (k : Container) (rows : List Asked) (vs : List Value) → length rows ≡ length vs → AreWithin k rows → AreWithin k (with_values rows vs)
with_within k [] [] long all = All-nil (λ (a : Asked). IsWithin k a.ins)
with_within k [] (v ∷ vs) long all = All-nil (λ (a : Asked). IsWithin k a.ins)
with_within k (a ∷ rows) [] long all = absurd (cc)
with_within k (a ∷ rows) (v ∷ vs) long all =
    All-cons (λ (b : Asked). IsWithin k b.ins) (with_value a v) (with_values rows vs) (All-head (λ (b : Asked). IsWithin k b.ins) a rows all)
    (with_within k rows vs (omega arith) (All-tail (λ (b : Asked). IsWithin k b.ins) a rows all))

-- the rows stay rows of values of a table
pub with_rows : (rows : List Asked) (vs : List Value) → length rows ≡ length vs → AreRows rows → All IsValue vs → AreRows (with_values rows vs)
with_rows [] [] long all values = All-nil (λ (a : Asked). IsRow a.row)
with_rows [] (v ∷ vs) long all values = All-nil (λ (a : Asked). IsRow a.row)
with_rows (a ∷ rows) [] long all values = absurd (cc)
with_rows (a ∷ rows) (v ∷ vs) long all values =
    All-cons (λ (b : Asked). IsRow b.row) (with_value a v) (with_values rows vs) (All-push IsValue a.row v (All-head (λ (b : Asked). IsRow b.row) a rows all) (All-head IsValue v vs values))
    (with_rows rows vs (omega arith) (All-tail (λ (b : Asked). IsRow b.row) a rows all) (All-tail IsValue v vs values))

-- each row is wider by one value
pub with_wide : (i : ℕ) (rows : List Asked) (vs : List Value) → length rows ≡ length vs → AreWide i rows → AreWide (i + 1) (with_values rows vs)
with_wide i [] [] long all = All-nil (λ (a : Asked). length a.row ≡ i + 1)
with_wide i [] (v ∷ vs) long all = All-nil (λ (a : Asked). length a.row ≡ i + 1)
with_wide i (a ∷ rows) [] long all = absurd (cc)
with_wide i (a ∷ rows) (v ∷ vs) long all =
    let first : length a.row ≡ i = All-head (λ (b : Asked). length b.row ≡ i) a rows all in
    All-cons (λ (b : Asked). length b.row ≡ i + 1) (with_value a v) (with_values rows vs) (omega (arith, length-append a.row (v ∷ [])))
    (with_wide i rows vs (omega arith) (All-tail (λ (b : Asked). length b.row ≡ i) a rows all))

-- the columns before stay
pub with_before : (i j : ℕ) (rows : List Asked) (vs : List Value) → j < i → length rows ≡ length vs → AreWide i rows → column_values j (with_values rows vs) ≡ column_values j rows
with_before i j [] [] lt long all = refl
with_before i j [] (v ∷ vs) lt long all = refl
with_before i j (a ∷ rows) [] lt long all = absurd (cc)
with_before i j (a ∷ rows) (v ∷ vs) lt long all =
    let first : length a.row ≡ i = All-head (λ (b : Asked). length b.row ≡ i) a rows all in
    ap₂ (λ (w : Value) (ws : List Value). w ∷ ws) (get_or-append a.row (v ∷ []) value.Null j (omega arith))
    (with_before i j rows vs lt (omega arith) (All-tail (λ (b : Asked). length b.row ≡ i) a rows all))

-- and the new one is these values
last_of : (i : ℕ) (row : List Value) (v : Value) → length row ≡ i → get_or (row ++ v ∷ []) i value.Null ≡ v
last_of i row v is = rw (← is) (get_or-append_seam row v [] value.Null)

pub with_here : (i : ℕ) (rows : List Asked) (vs : List Value) → length rows ≡ length vs → AreWide i rows → column_values i (with_values rows vs) ≡ vs
with_here i [] [] long all = refl
with_here i [] (v ∷ vs) long all = absurd (cc)
with_here i (a ∷ rows) [] long all = absurd (cc)
with_here i (a ∷ rows) (v ∷ vs) long all =
    ap₂ (λ (w : Value) (ws : List Value). w ∷ ws) (last_of i a.row v (All-head (λ (b : Asked). length b.row ≡ i) a rows all))
    (with_here i rows vs (omega arith) (All-tail (λ (b : Asked). length b.row ≡ i) a rows all))
