use Rattle.std.proofs.Common.{◌≡◌, ◌-◌, ◌≤◌, drop, length}
use Rattle.sql_words.specs.Words.{tokens_of, tokens_behind}
use Rattle.sql_words.specs.Texts.{is_nonempty}
use Rattle.sql_words.proofs.script.has_token.Given as goal

abbrev pub invariant-loop-at : goal.invariant-loop-at
invariant-loop-at l = record {
  tokens : is_nonempty (tokens_behind 0 l.at (drop l.at l.text)) ≡ is_nonempty (tokens_of l.text);
  place : l.at ≤ length l.text;
}

abbrev pub decreases-loop-at : goal.decreases-loop-at
decreases-loop-at l = length l.text - l.at
