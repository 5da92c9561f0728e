-- What a block of a container gives.
use Rattle.std.proofs.Common.{◌≡◌, ℕ, zero, suc, ◌+◌, ◌*◌, ◌≤◌, ◌<◌, ◌++◌, Bool, true, false, cond, List, [], ◌∷◌, length, map, take, drop, get_or, nat_le, sym, ap, ◌∙◌, arith, subst}
use Rattle.std.specs.Prelude.{Option, None, ◌==◌}
use Rattle.std.specs.List.{All}
use Rattle.std.proofs.lemmas.Bool.Decides.{nat_tests}
use Rattle.std.proofs.lemmas.List.{append_assoc, map-append, take_more}
use Rattle.std.proofs.lemmas.List.Elements.{All-drop, All-head, All-push, All-tail, All-take}
use Rattle.col_value.specs.Order.{IsValue}
use Rattle.col_value.specs.declared.row.Asked.{Asked}
use Rattle.col_value.specs.declared.value.Value.{Value}
use Rattle.ros_container.specs.Rows.{column_values, epoch_values, stored_values}
use Rattle.container_blocks.specs.Blocks.{rows_in}
use Rattle.query_cover.specs.Seen.{placed, value_at}
use Rattle.exec_scan.specs.Reading.{AreInserted, values_at}

-- ---- a row made value by value

pub put_more : (old now next : List Value) (places : List (Option ℕ)) (row : List Value) (i : ℕ) (v : Value) → i < length places → next ≡ now ++ v ∷ [] → v ≡ value_at row (get_or places i None)
    → now ≡ old ++ placed (take i places) row → next ≡ old ++ placed (take (i + 1) places) row
put_more old now next places row i v lt is value was =
    let more : placed (take (i + 1) places) row ≡ placed (take i places) row ++ value_at row (get_or places i None) ∷ [] =
    ap (map (value_at row)) (take_more places i None lt) ∙ map-append (value_at row) (take i places) (get_or places i None ∷ []) in
    is ∙ ap (λ (xs : List Value). xs ++ v ∷ []) was ∙ append_assoc old (placed (take i places) row) (v ∷ [])
    ∙ ap (λ (x : Value). old ++ (placed (take i places) row ++ x ∷ [])) value ∙ ap (λ (xs : List Value). old ++ xs) (sym more)

pub push_valid : (now next : List Value) (v : Value) → next ≡ now ++ v ∷ [] → All IsValue now → IsValue v → All IsValue next
push_valid now next v is all one = subst (λ (xs : List Value). All IsValue xs) (sym is) (All-push IsValue now v all one)

-- ---- the epochs

all_early : (epoch : ℕ) (rows : List Asked) → All (λ a. a.ins ≤ epoch) rows → (i : ℕ) → nat_le (get_or (map (λ a. a.ins) rows) i 0) epoch ≡ true
all_early epoch [] early i = grind (arith, nat_tests)
all_early epoch (a ∷ rows) early zero = let here : a.ins ≤ epoch = All-head (λ x. x.ins ≤ epoch) a rows early in grind (arith, nat_tests)
all_early epoch (a ∷ rows) early (suc i) = all_early epoch rows (All-tail (λ x. x.ins ≤ epoch) a rows early) i

-- where all are up to an epoch, none needs to be looked at
pub none_later : (epoch b : ℕ) (rows : List Asked) (none : List ℕ) → none ≡ [] → All (λ a. a.ins ≤ epoch) rows → AreInserted epoch none (rows_in b rows)
none_later epoch b rows none is early i =
    let first : nat_le 0 epoch ≡ true = grind (arith, nat_tests) in
    ap (λ (xs : List ℕ). nat_le (get_or xs i 0) epoch) is ∙ first
    ∙ sym (all_early epoch (rows_in b rows) (All-take (λ a. a.ins ≤ epoch) 1024 (drop (1024 * b) rows) (All-drop (λ a. a.ins ≤ epoch) (1024 * b) rows early)) i)

-- epochs that were read are those of the rows
pub as_read : (epoch : ℕ) (epochs : List ℕ) (rows : List Asked) → epochs ≡ map (λ a. a.ins) rows → AreInserted epoch epochs rows
as_read epoch epochs rows is i = ap (λ (xs : List ℕ). nat_le (get_or xs i 0) epoch) is

-- ---- the values of a column

pub column_is : (columns place : ℕ) (rows : List Asked) → place < columns → stored_values columns place rows ≡ values_at place rows
column_is columns place rows lt =
    let other : (place == columns) ≡ false = grind (arith, nat_tests) in
    ap (λ (b : Bool). cond b (epoch_values rows) (column_values place rows)) other
