use Rattle.std.proofs.Common.{◌≡◌, take}
use Rattle.sql_bound.specs.Outputs.{keys_of}
use Rattle.exec_group.specs.Columns.{row_of}
use Rattle.exec_group.proofs.runs.has_key_twice.Given as goal

abbrev pub invariant-loop-key : goal.invariant-loop-key
invariant-loop-key l = keys_of (take l.key-index l.keys) (row_of l.columns l.a) ≡ keys_of (take l.key-index l.keys) (row_of l.columns l.b)
