use Rattle.std.proofs.Common.{sym, subst}
use Rattle.catch_files.specs.Parting.{IsShort}
use Rattle.catch_rows.proofs.Blames.{behind_short}
use Rattle.catch_rows.proofs.histories.history_behind.Goals as goal

pub returns-in-Err-clause-short : goal.returns-in-Err-clause-short
returns-in-Err-clause-short g c = λ a stands. subst IsShort (sym c.behind_fault.ensures) (behind_short c.in-Err.fault (c.in-Err.ensures.unblamed a stands))
