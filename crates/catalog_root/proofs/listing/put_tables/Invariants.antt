use Rattle.std.proofs.Common.{◌≡◌, ◌++◌, take}
use Rattle.std.specs.List.{flat_map}
use Rattle.catalog_root.specs.Listed.{table_numbers}
use Rattle.catalog_root.proofs.listing.put_tables.Given as goal

abbrev pub invariant-loop-t : goal.invariant-loop-t
invariant-loop-t l = l.out.items ≡ l.fn.out.items ++ flat_map table_numbers (take l.t-index l.tables)
