use Rattle.row_history.proofs.Histories.{visible_columns, retained_columns, cut_columns}
use Rattle.row_history.proofs.laws.rows_of_a_projection.Goals as goal

pub returns : goal.returns
returns c = record { seen = visible_columns; kept = retained_columns; cut = cut_columns }
