use Rattle.std.proofs.Common.{◌≡◌, ◌++◌, take, drop}
use Rattle.db_model.specs.State.{Changes}
use Rattle.db_model.specs.Locks.{changes_on}
use Rattle.db_model.specs.Events.{change_of}
use Rattle.txn_core.proofs.session.Session.place_of.Given as goal

abbrev pub invariant-loop-place : goal.invariant-loop-place
invariant-loop-place l = record {
  on : changes_on l.table (drop l.place l.self) ≡ changes_on l.table l.self;
  split : (change : Changes → Changes) → take l.place l.self ++ change_of l.table change (drop l.place l.self) ≡ change_of l.table change l.self;
}
