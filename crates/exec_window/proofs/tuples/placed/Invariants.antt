use Rattle.std.proofs.Common.{◌≡◌, ◌++◌, map, drop}
use Rattle.std.specs.List.{All, enumerate_from}
use Rattle.exec_window.specs.Leads.{IsLed}
use Rattle.exec_window.specs.Walks.{pair_of}
use Rattle.exec_window.proofs.tuples.placed.Given as goal

abbrev pub invariant-loop-place : goal.invariant-loop-place
invariant-loop-place l = record {
  placed : map pair_of l.out.items ++ enumerate_from l.place (drop l.place l.rows) ≡ enumerate_from 0 l.rows;
  led : All (IsLed l.window) l.out.items;
}
