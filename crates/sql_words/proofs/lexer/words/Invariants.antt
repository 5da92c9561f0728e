use Rattle.std.proofs.Common.{◌≡◌, ◌-◌, ◌≤◌, ◌++◌, drop, length, All}
use Rattle.sql_words.specs.Symbols.{SaysUtf8, SaysSomething}
use Rattle.sql_words.specs.Words.{tokens_of, tokens_behind, AreInOrder}
use Rattle.sql_words.proofs.lexer.words.Given as goal

abbrev pub invariant-loop-at : goal.invariant-loop-at
invariant-loop-at l = record {
  tokens : l.found.items ++ tokens_behind 0 l.at (drop l.at l.text) ≡ tokens_of l.text;
  place : l.at ≤ length l.text;
  order : AreInOrder 0 l.at l.found.items;
  says : All (SaysUtf8 l.text) l.found.items;
  counts : All (SaysSomething l.text) l.found.items;
}

abbrev pub decreases-loop-at : goal.decreases-loop-at
decreases-loop-at l = length l.text - l.at
