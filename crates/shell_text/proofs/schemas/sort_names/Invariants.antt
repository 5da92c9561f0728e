use Rattle.std.proofs.Common.{◌≡◌, ◌++◌, map, take, drop}
use Rattle.std.specs.List.{flat_map, list_any}
use Rattle.shell_text.specs.Schemas.{sort_name}
use Rattle.shell_text.proofs.schemas.sort_names.Given as goal

abbrev pub invariant-loop-index : goal.invariant-loop-index
invariant-loop-index l = l.names.items ≡ map (sort_name l.columns l.parts) (take l.index-index l.sort)
