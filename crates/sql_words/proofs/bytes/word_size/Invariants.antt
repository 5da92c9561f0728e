use Rattle.std.proofs.Common.{◌≡◌, ◌+◌, drop}
use Rattle.std.specs.List.{prefix_len}
use Rattle.sql_words.specs.Bytes.{is_of_word}
use Rattle.sql_words.proofs.bytes.word_size.Given as goal

abbrev pub invariant-loop-i : goal.invariant-loop-i
invariant-loop-i l = prefix_len is_of_word l.text ≡ l.i + prefix_len is_of_word (drop l.i l.text)
