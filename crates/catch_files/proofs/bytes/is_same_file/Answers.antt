use Rattle.col_disk.proofs.Moving.{moved_join, moved_none}
use Rattle.catch_files.proofs.bytes.is_same_file.Goals as goal

pub returns-in_err-first-clause-ahead_moved : goal.returns-in_err-first-clause-ahead_moved
returns-in_err-first-clause-ahead_moved g c = moved_none g.B.Disk c.args.from.now

pub returns-in-Some-Some-clause-behind_moved : goal.returns-in-Some-Some-clause-behind_moved
returns-in-Some-Some-clause-behind_moved g c = moved_join g.A.Disk c.size_behind.ensures.moved c.have_same_bytes.ensures.behind_moved

pub returns-in-Some-Some-clause-ahead_moved : goal.returns-in-Some-Some-clause-ahead_moved
returns-in-Some-Some-clause-ahead_moved g c = moved_join g.B.Disk c.size_ahead.ensures.moved c.have_same_bytes.ensures.ahead_moved
