use Rattle.std.proofs.Common.{◌≡◌, ◌+◌, drop}
use Rattle.std.specs.Prelude.{find, is_some}
use Rattle.std.specs.List.{enumerate_from}
use Rattle.db_model.specs.Locks.{changes_on}
use Rattle.txn_core.proofs.txns.Txns.holder.Given as goal

abbrev pub invariant-loop-place : goal.invariant-loop-place
invariant-loop-place l =
    find (λ e. is_some (changes_on l.table e.1)) (enumerate_from (l.place + 1) (drop l.place l.self))
    ≡ find (λ e. is_some (changes_on l.table e.1)) (enumerate_from 1 l.self)
