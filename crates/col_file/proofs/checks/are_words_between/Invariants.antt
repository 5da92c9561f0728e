use Rattle.std.proofs.Common.{◌≡◌, drop}
use Rattle.std.specs.List.{list_all}
use Rattle.col_file.specs.Read.{is_between}
use Rattle.col_file.proofs.checks.are_words_between.Given as goal

abbrev pub invariant-loop-word : goal.invariant-loop-word
invariant-loop-word l = list_all (is_between l.entry) (drop l.word-index l.words) ≡ list_all (is_between l.entry) l.words
