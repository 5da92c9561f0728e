use Rattle.std.proofs.Common.{◌≡◌, ◌++◌, ◌-◌, ◌≤◌, drop, length, filter, All}
use Rattle.sql_words.specs.Texts.{has_token, spans_to, ends_behind, statement_spans, LiesWithin}
use Rattle.sql_words.proofs.script.split.Given as goal

abbrev pub invariant-loop-at : goal.invariant-loop-at
invariant-loop-at l = record {
  spans : l.found.items ++ filter (has_token l.script) (spans_to l.start (ends_behind 0 l.at (drop l.at l.script))) ≡ statement_spans l.script;
  order : l.start ≤ l.at;
  place : l.at ≤ length l.script;
  within : All (LiesWithin (length l.script)) l.found.items;
}

abbrev pub decreases-loop-at : goal.decreases-loop-at
decreases-loop-at l = length l.script - l.at
