use Rattle.std.proofs.Common.{◌≡◌, ◌++◌, map, zip, take}
use Rattle.std.specs.List.{flat_map}
use Rattle.statement_text.specs.Explained.{scan_over, shapes_of}
use Rattle.statement_text.proofs.explaining.print_scans.Given as goal

abbrev pub invariant-loop-i : goal.invariant-loop-i
invariant-loop-i l = l.out.items ≡ l.fn.out.items ++ flat_map (scan_over l.query (map shapes_of l.tables)) (take l.i (zip l.sources l.query.sources))
