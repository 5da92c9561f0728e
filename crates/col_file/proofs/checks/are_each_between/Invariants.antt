use Rattle.std.proofs.Common.{◌≡◌, drop}
use Rattle.std.specs.List.{list_all}
use Rattle.col_file.specs.Read.{is_between}
use Rattle.col_file.proofs.checks.are_each_between.Given as goal

abbrev pub invariant-loop-i : goal.invariant-loop-i
invariant-loop-i l = list_all (is_between l.entry) (drop l.i l.values) ≡ list_all (is_between l.entry) l.values
