use Rattle.std.proofs.Common.{◌≡◌, ◌+◌, drop}
use Rattle.sql_words.specs.Bytes.{line_size}
use Rattle.sql_words.proofs.bytes.line_size.Given as goal

abbrev pub invariant-loop-i : goal.invariant-loop-i
invariant-loop-i l = line_size l.text ≡ l.i + line_size (drop l.i l.text)
