use Rattle.col_disk.proofs.Moving.{moved_none}
use Rattle.catch_files.proofs.bytes.is_same_piece.Goals as goal

pub returns-in_err-first-clause-ahead_moved : goal.returns-in_err-first-clause-ahead_moved
returns-in_err-first-clause-ahead_moved g c = moved_none g.B.Disk c.args.from.now
