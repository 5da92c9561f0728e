use Rattle.std.proofs.Common.{sym, subst}
use Rattle.catch_files.specs.Parting.{IsShort}
use Rattle.catch_rows.proofs.Blames.{ahead_short}
use Rattle.catch_rows.proofs.histories.history_ahead.Goals as goal

pub returns-in-Err-clause-short : goal.returns-in-Err-clause-short
returns-in-Err-clause-short g c = λ b stands. subst IsShort (sym c.ahead_fault.ensures) (ahead_short c.in-Err.fault (c.in-Err.ensures.unblamed b stands))
