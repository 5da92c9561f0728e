use Rattle.col_disk.proofs.Moving.{moved_join}
use Rattle.catch_files.proofs.files.have_same_files.Goals as goal

pub returns-clause-behind_moved : goal.returns-clause-behind_moved
returns-clause-behind_moved g c = moved_join g.A.Disk c.have_same_vector.ensures.behind_moved c.have_same_columns.ensures.behind_moved

pub returns-clause-ahead_moved : goal.returns-clause-ahead_moved
returns-clause-ahead_moved g c = moved_join g.B.Disk c.have_same_vector.ensures.ahead_moved c.have_same_columns.ensures.ahead_moved
