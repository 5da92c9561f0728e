-- Counts, group by group.
use Rattle.std.specs.Prelude.{ℕ, ◌+◌, List, fold, get_or, map, set}
use Rattle.exec_group.specs.declared.accumulator.Accumulator.{Accumulator}
use Rattle.exec_group.specs.declared.accumulator.Accumulator.TheVariants as accumulator
use Rattle.exec_group.specs.declared.kept.Form.{Form}
use Rattle.exec_group.specs.declared.kept.Form.TheVariants as form

-- the accumulators of counts of rows
abbrev pub counts_as : List ℕ → List Accumulator
counts_as counts = map accumulator.Rows counts

abbrev pub kept_held : Form → List Accumulator
kept_held (form.Counts counts) = counts_as counts.items
kept_held (form.Each list) = list.items

-- the counts after a row more in a group, and after one in each of these
abbrev pub counted_at : List ℕ → ℕ → List ℕ
counted_at counts g = set counts g (get_or counts g 0 + 1)

abbrev pub counted_each : List ℕ → List ℕ → List ℕ
counted_each groups counts = fold counted_at counts groups
