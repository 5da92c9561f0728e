-- The columns of a container, and behind them its epochs.
use Rattle.std.proofs.Common.{◌≡◌, ℕ, ◌<◌, ◌≤◌, false, true, List, length, refl, ap, arith}
use Rattle.std.specs.Prelude.{◌==◌}
use Rattle.std.proofs.Math.ListN.{get_or-eq_default}
use Rattle.std.proofs.lemmas.Bool.Decides.{nat_tests}
use Rattle.col_value.specs.declared.kinds.Encoding.TheVariants.{Auto}
use Rattle.col_value.specs.declared.row.Asked.{Asked}
use Rattle.ros_container.specs.Encodings.{Written, as_epochs, encoding_at}
use Rattle.ros_container.specs.Rows.{column_values, epoch_values, stored_values}

pub stored_column : (columns i : ℕ) (rows : List Asked) → i < columns → stored_values columns i rows ≡ column_values i rows
stored_column columns i rows lt = let differs : (i == columns) ≡ false = grind (arith, nat_tests) in rw differs refl

pub stored_epochs : (columns : ℕ) (rows : List Asked) → stored_values columns columns rows ≡ epoch_values rows
stored_epochs columns rows = let same : (columns == columns) ≡ true = grind (arith, nat_tests) in rw same refl

-- the epochs are AUTO
pub epochs_auto : (written : List Written) → encoding_at written (length written) ≡ Auto
epochs_auto written = ap (λ (w : Written). w.encoding) (get_or-eq_default written as_epochs (omega arith))
