use Rattle.col_file.proofs.Readable.{written_held}
use Rattle.col_file.proofs.laws.a_written_column_is_held.Goals as goal

pub returns : goal.returns
returns c = written_held
