use Rattle.std.proofs.Common.{◌≡◌, map, take}
use Rattle.catch_tables.specs.Keyed.{row_of}
use Rattle.catch_tables.proofs.ordered.copied_rows.Given as goal

abbrev pub invariant-loop-each : goal.invariant-loop-each
invariant-loop-each l = l.out.items ≡ map row_of (take l.each-index l.keyed)
