-- Reading one column after the other.
use borrow.Author.Count.{below_more}
use Rattle.std.proofs.Common.{◌≡◌, ℕ, ◌+◌, ◌<◌, ◌≤◌, List, length, sym, subst, ap, ◌∙◌, arith}
use Rattle.std.specs.Prelude.{Option, Some}
use Rattle.common_laws.specs.Maps.{Contents}
use Rattle.catalog_types.specs.declared.catalogue.Container.{Container}
use Rattle.col_value.specs.declared.row.Asked.{Asked}
use Rattle.col_value.specs.declared.value.Value.{Value}
use Rattle.ros_container.specs.Encodings.{Written}
use Rattle.ros_container.specs.Held.{HoldsContainer}
use Rattle.ros_container.specs.Parts.{with_values, HasValues}
use Rattle.ros_container.specs.Rows.{column_values, epoch_values, AreWide, AreWithin}
use Rattle.ros_container.proofs.Columns.{with_epochs, with_before, with_here}
use Rattle.col_file.specs.Held.{HoldsColumn}
use Rattle.col_value.specs.declared.kinds.Encoding.TheVariants.{Auto}
use Rattle.ros_container.specs.Files.{body_of, index_of}

-- the first columns of the rows are held, and with the next one's values one more
pub each_more : (P : ℕ → Contents → List Value → Type 0) (i : ℕ) (holds mid : Option Contents) (rows next : List Asked) (vs : List Value) → mid ≡ holds → next ≡ with_values rows vs → length rows ≡ length vs → AreWide i rows
    → ((j : ℕ) → j < i → (m : Contents) → holds ≡ Some m → P j m (column_values j rows))
    → ((m : Contents) → mid ≡ Some m → P i m vs)
    → (j : ℕ) → j < i + 1 → (m : Contents) → holds ≡ Some m → P j m (column_values j next)
each_more P i holds mid rows next vs same is long wide before here =
    below_more (λ (j : ℕ). (m : Contents) → holds ≡ Some m → P j m (column_values j next)) i
    (λ j lt m told. subst (P j m) (sym (ap (column_values j) is ∙ with_before i j rows vs lt long wide)) (before j lt m told))
    (λ m told. subst (P i m) (sym (ap (column_values i) is ∙ with_here i rows vs long wide)) (here m (same ∙ told)))

-- the epochs are held on
pub epochs_more : (k : Container) (holds : Option Contents) (rows next : List Asked) (vs : List Value) → next ≡ with_values rows vs → length rows ≡ length vs
    → ((m : Contents) → holds ≡ Some m → HoldsColumn Auto (body_of k.base k.stored) (index_of k.base k.stored) k.rows m (epoch_values rows))
    → (m : Contents) → holds ≡ Some m → HoldsColumn Auto (body_of k.base k.stored) (index_of k.base k.stored) k.rows m (epoch_values next)
epochs_more k holds rows next vs is long before m told =
    subst (HoldsColumn Auto (body_of k.base k.stored) (index_of k.base k.stored) k.rows m) (sym (ap epoch_values is ∙ with_epochs rows vs long)) (before m told)

-- all columns and the epochs are the container
pub all_read : (m : Contents) (written : List Written) (k : Container) (columns : ℕ) (rows : List Asked) → length written ≡ columns → k.stored ≤ columns → ((i : ℕ) → i < columns → HasValues m written k i (column_values i rows))
    → HoldsColumn Auto (body_of k.base k.stored) (index_of k.base k.stored) k.rows m (epoch_values rows) → AreWide columns rows → AreWithin k rows → HoldsContainer m written k rows
all_read m written k columns rows long most each epochs wide within = record {
  each = λ i lt. (each i (omega arith)).stored lt;
  defaults = λ i le lt. (each i (omega arith)).default le;
  epochs = epochs;
  wide = subst (λ (n : ℕ). AreWide n rows) (sym long) wide;
  within = within;
}
