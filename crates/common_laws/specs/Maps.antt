-- Names and bytes as one finite map.
use Rattle.std.specs.Prelude.{ℕ, List}
use Rattle.std.specs.Ordering.{nat_cmp}
use Rattle.std.specs.FinMap.{FinMap}

-- what a disk holds: the bytes of each name that is there
abbrev pub Contents : Type 0
Contents = FinMap nat_cmp (List ℕ)
