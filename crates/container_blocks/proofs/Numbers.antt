-- Epochs as numbers and as values.
use Rattle.std.proofs.Common.{◌≡◌, ℕ, List, [], ◌∷◌, map, refl, sym, ◌∙◌, ap₂, arith}
use Rattle.std.specs.List.{All}
use Rattle.std.proofs.lemmas.List.Elements.{All-cons, All-head, All-tail}
use Rattle.std.specs.Prelude.{Option, pos}
use Rattle.common_laws.specs.Maps.{Contents}
use Rattle.catalog_types.specs.declared.catalogue.Container.{Container}
use Rattle.col_value.specs.declared.kinds.Encoding.TheVariants.{Auto}
use Rattle.col_value.specs.declared.row.Asked.{Asked}
use Rattle.col_value.specs.declared.value.Value.{Value}
use Rattle.col_value.specs.declared.value.Value.TheVariants as value
use Rattle.ros_container.specs.Encodings.{Written}
use Rattle.ros_container.specs.Rows.{epoch_values, IsEpochOf, IsWithin}
use Rattle.container_blocks.specs.Blocks.{rows_in, AreEpochs}
use Rattle.container_blocks.specs.Parts.{ArePart}
use Rattle.container_blocks.proofs.Columns.{mapped}

one_number : (a b : ℕ) (vs ws : List Value) → value.Int (pos a) ∷ vs ≡ value.Int (pos b) ∷ ws → a ≡ b
one_number a b vs ws same = cc

the_rest : (a b : Value) (vs ws : List Value) → a ∷ vs ≡ b ∷ ws → vs ≡ ws
the_rest a b vs ws same = cc

same_numbers : (epochs : List ℕ) (rows : List Asked) → map (λ (n : ℕ). value.Int (pos n)) epochs ≡ epoch_values rows → epochs ≡ map (λ (a : Asked). a.ins) rows
same_numbers [] [] same = refl
same_numbers [] (a ∷ rows) same = absurd cc
same_numbers (n ∷ epochs) [] same = absurd cc
same_numbers (n ∷ epochs) (a ∷ rows) same =
    ap₂ (λ (x : ℕ) (xs : List ℕ). x ∷ xs) (one_number n a.ins _ _ same) (same_numbers epochs rows (the_rest (value.Int (pos n)) (value.Int (pos a.ins)) _ _ same))

pub epochs_found : (holds : Option Contents) (es : List Written) (k : Container) (b : ℕ) (part : List Value) (epochs : List ℕ) → ArePart holds Auto k k.stored b part
    → map (λ (n : ℕ). value.Int (pos n)) epochs ≡ part → AreEpochs holds es k b epochs
epochs_found holds es k b part epochs are made m told rows held =
    same_numbers epochs (rows_in b rows) (made ∙ are m told (epoch_values rows) held.epochs ∙ mapped (λ (a : Asked). value.Int (pos a.ins)) b rows)

-- values that are epochs of a container are the numbers of such epochs
pub epochs_of_all : (k : Container) (vs : List Value) → All (IsEpochOf k) vs → (v : List ℕ) × (map (λ (n : ℕ). value.Int (pos n)) v ≡ vs) × All (IsWithin k) v
epochs_of_all k [] all = ([], refl, λ i d lt. absurd (omega (arith, lt)))
epochs_of_all k (w ∷ vs) all = by (All-head (IsEpochOf k) w vs all) (epochs_of_all k vs (All-tail (IsEpochOf k) w vs all))
  where
    by : IsEpochOf k w → (v : List ℕ) × (map (λ (n : ℕ). value.Int (pos n)) v ≡ vs) × All (IsWithin k) v → (v : List ℕ) × (map (λ (n : ℕ). value.Int (pos n)) v ≡ w ∷ vs) × All (IsWithin k) v
    by (n, is, within) (v, same, each) = (n ∷ v, ap₂ (λ (x : Value) (xs : List Value). x ∷ xs) (sym is) same, All-cons (IsWithin k) n v within each)
