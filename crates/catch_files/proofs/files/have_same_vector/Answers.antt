use Rattle.col_disk.proofs.Moving.{moved_none}
use Rattle.catch_files.proofs.files.have_same_vector.Goals as goal

pub returns-in-None-clause-behind_moved : goal.returns-in-None-clause-behind_moved
returns-in-None-clause-behind_moved g c = moved_none g.A.Disk c.args.at.now

pub returns-in-None-clause-ahead_moved : goal.returns-in-None-clause-ahead_moved
returns-in-None-clause-ahead_moved g c = moved_none g.B.Disk c.args.from.now
