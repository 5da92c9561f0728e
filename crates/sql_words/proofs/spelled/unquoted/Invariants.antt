use Rattle.std.proofs.Common.{◌≡◌, ◌++◌, drop}
use Rattle.sql_words.specs.Bytes.{unquoted, unquoted_behind}
use Rattle.sql_words.proofs.spelled.unquoted.Given as goal

abbrev pub invariant-loop-b : goal.invariant-loop-b
invariant-loop-b l = l.said.items ++ unquoted_behind l.is_twin (drop l.b-index l.inner) ≡ unquoted l.inner
