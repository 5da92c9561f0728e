use Rattle.std.proofs.Common.{◌≡◌, ◌+◌, not, drop}
use Rattle.std.specs.Prelude.{◌&&◌, ◌==◌, find}
use Rattle.std.specs.List.{enumerate_from}
use Rattle.db_model.specs.Locks.{excludes}
use Rattle.txn_core.proofs.txns.Txns.conflict.Given as goal

abbrev pub invariant-loop-place : goal.invariant-loop-place
invariant-loop-place l =
    find (λ e. not (e.0 == l.session) && excludes l.table l.want e.1) (enumerate_from (l.place + 1) (drop l.place l.self))
    ≡ find (λ e. not (e.0 == l.session) && excludes l.table l.want e.1) (enumerate_from 1 l.self)
