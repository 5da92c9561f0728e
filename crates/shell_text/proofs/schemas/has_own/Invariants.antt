use Rattle.std.proofs.Common.{◌≡◌, ◌++◌, map, take, drop}
use Rattle.std.specs.List.{flat_map, list_any}
use Rattle.shell_text.specs.Schemas.{is_own}
use Rattle.shell_text.proofs.schemas.has_own.Given as goal

abbrev pub invariant-loop-projection : goal.invariant-loop-projection
invariant-loop-projection l = list_any (is_own l.table) (drop l.projection-index l.projections) ≡ list_any (is_own l.table) l.projections
