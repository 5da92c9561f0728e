use Rattle.std.proofs.Common.{◌≡◌, map, drop}
use Rattle.sql_words.specs.Words.{key_in}
use Rattle.sql_words.proofs.reserved.key_in.Given as goal

abbrev pub invariant-loop-entry : goal.invariant-loop-entry
invariant-loop-entry l = key_in (map (λ e. (e.0.now, e.1)) (drop l.entry-index l.table)) l.word ≡ key_in (map (λ e. (e.0.now, e.1)) l.table) l.word
