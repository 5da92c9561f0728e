-- The columns and the epochs fix the rows.
use Rattle.std.proofs.Common.{◌≡◌, ℕ, ◌<◌, List, [], ◌∷◌, length, get_or, refl, sym, ap₂, ◌∙◌, arith}
use Rattle.std.proofs.lemmas.List.{ext_get_or}
use Rattle.std.proofs.lemmas.List.Elements.{All-head, All-tail}
use Rattle.std.specs.Prelude.{pos}
use Rattle.col_value.specs.declared.row.Asked.{Asked}
use Rattle.col_value.specs.declared.value.Value.{Value}
use Rattle.col_value.specs.declared.value.Value.TheVariants as value
use Rattle.ros_container.specs.Rows.{column_values, epoch_values, AreWide}

-- equal lists have equal first elements, and equal elements behind them
first_same : {X : Type 0} (x y : X) (xs ys : List X) → x ∷ xs ≡ y ∷ ys → x ≡ y
first_same x y xs ys same = cc

others_same : {X : Type 0} (x y : X) (xs ys : List X) → x ∷ xs ≡ y ∷ ys → xs ≡ ys
others_same x y xs ys same = cc

one_epoch : (m n : ℕ) → value.Int (pos m) ≡ value.Int (pos n) → m ≡ n
one_epoch m n same = cc

one_row : (columns : ℕ) (a b : Asked) → length a.row ≡ columns → length b.row ≡ columns → ((i : ℕ) → i < columns → get_or a.row i value.Null ≡ get_or b.row i value.Null) → a.ins ≡ b.ins → a ≡ b
one_row columns a b long_a long_b same ins =
    let make : List Value → ℕ → Asked = λ row epoch. record { row = row; ins = epoch } in
    ap₂ make (ext_get_or value.Null a.row b.row (long_a ∙ sym long_b) (λ i lt. same i (omega arith))) ins

pub same_rows : (columns : ℕ) (xs ys : List Asked) → AreWide columns xs → AreWide columns ys → ((i : ℕ) → i < columns → column_values i xs ≡ column_values i ys) → epoch_values xs ≡ epoch_values ys → xs ≡ ys
same_rows columns [] [] wide_x wide_y each epochs = refl
same_rows columns [] (b ∷ ys) wide_x wide_y each epochs = absurd (cc)
same_rows columns (a ∷ xs) [] wide_x wide_y each epochs = absurd (cc)
same_rows columns (a ∷ xs) (b ∷ ys) wide_x wide_y each epochs =
    ap₂ (λ (c : Asked) (cs : List Asked). c ∷ cs)
    (one_row columns a b (All-head (λ (c : Asked). length c.row ≡ columns) a xs wide_x) (All-head (λ (c : Asked). length c.row ≡ columns) b ys wide_y)
    (λ i lt. first_same _ _ (column_values i xs) (column_values i ys) (each i lt)) (one_epoch a.ins b.ins (first_same _ _ (epoch_values xs) (epoch_values ys) epochs)))
    (same_rows columns xs ys (All-tail (λ (c : Asked). length c.row ≡ columns) a xs wide_x) (All-tail (λ (c : Asked). length c.row ≡ columns) b ys wide_y)
    (λ i lt. others_same _ _ (column_values i xs) (column_values i ys) (each i lt)) (others_same _ _ (epoch_values xs) (epoch_values ys) epochs))
