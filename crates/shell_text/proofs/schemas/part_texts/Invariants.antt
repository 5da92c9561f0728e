use Rattle.std.proofs.Common.{◌≡◌, ◌++◌, map, take, drop}
use Rattle.std.specs.List.{flat_map, list_any}
use Rattle.shell_text.specs.Schemas.{part_text}
use Rattle.shell_text.proofs.schemas.part_texts.Given as goal

abbrev pub invariant-loop-part : goal.invariant-loop-part
invariant-loop-part l = l.texts.items ≡ map (part_text l.columns) (take l.part-index l.parts)
