use Rattle.std.proofs.Common.{◌≡◌, map, drop}
use Rattle.std.specs.Prelude.{string_bytes}
use Rattle.run_words.specs.Words.{dir_behind, dir_of_words}
use Rattle.run_words.proofs.dir.dir_of.Given as goal

abbrev pub invariant-loop-i : goal.invariant-loop-i
invariant-loop-i l = dir_behind l.skip (map string_bytes (drop l.i l.words)) ≡ dir_of_words (map string_bytes l.words)
