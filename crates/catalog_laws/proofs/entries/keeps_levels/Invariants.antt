use Rattle.std.proofs.Common.{◌≡◌, ◌+◌, ◌^◌, take}
use Rattle.std.specs.Prelude.{sum_by}
use Rattle.catalog_laws.proofs.entries.keeps_levels.Given as goal

abbrev pub invariant-loop-k : goal.invariant-loop-k
invariant-loop-k l = sum_by (λ k. 4 ^ k.level) (take l.k-index l.containers) + l.left ≡ l.born
