use Rattle.std.proofs.Common.{◌≡◌, ◌++◌, take}
use Rattle.std.specs.List.{flat_map}
use Rattle.catalog_root.specs.Listed.{projection_numbers}
use Rattle.catalog_root.proofs.listing.put_table.Given as goal

abbrev pub invariant-loop-p : goal.invariant-loop-p
invariant-loop-p l = l.out.items ≡ l.fn.out.items ++ flat_map projection_numbers (take l.p-index l.t.projections)
