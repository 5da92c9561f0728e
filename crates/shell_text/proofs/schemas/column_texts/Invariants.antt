use Rattle.std.proofs.Common.{◌≡◌, ◌++◌, map, take, drop}
use Rattle.std.specs.List.{flat_map, list_any}
use Rattle.shell_text.specs.Schemas.{column_text}
use Rattle.shell_text.proofs.schemas.column_texts.Given as goal

abbrev pub invariant-loop-column : goal.invariant-loop-column
invariant-loop-column l = l.texts.items ≡ map column_text (take l.column-index l.columns)
