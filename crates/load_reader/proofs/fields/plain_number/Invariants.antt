use Rattle.std.proofs.Common.{◌≡◌, ◌≤◌, drop}
use Rattle.std.specs.Str.Parse.{AllDigits, digits_value, digits_value_after}
use Rattle.load_reader.proofs.fields.plain_number.Given as goal

abbrev pub invariant-loop-c : goal.invariant-loop-c
invariant-loop-c l = record {
  value : digits_value_after 10 l.n (drop l.c-index l.field) ≡ digits_value 10 l.field;
  digits : AllDigits 10 (drop l.c-index l.field) → AllDigits 10 l.field;
  small : l.n ≤ 1000000000000000009;
}
