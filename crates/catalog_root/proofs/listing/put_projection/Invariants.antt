use Rattle.std.proofs.Common.{◌≡◌, ◌++◌, take}
use Rattle.std.specs.List.{flat_map}
use Rattle.catalog_root.specs.Listed.{container_numbers}
use Rattle.catalog_root.proofs.listing.put_projection.Given as goal

abbrev pub invariant-loop-k : goal.invariant-loop-k
invariant-loop-k l = l.out.items ≡ l.fn.out.items ++ flat_map container_numbers (take l.k-index l.p.containers)
