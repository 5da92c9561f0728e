use Rattle.col_file.proofs.OneColumn.{one_list}
use Rattle.col_file.proofs.laws.one_column.Goals as goal

pub returns : goal.returns
returns c = one_list
