use Rattle.std.proofs.Common.{◌≡◌, Some, map, position, take}
use Rattle.std.specs.Option.{IfSome}
use Rattle.sql_bound.specs.Outputs.{keys_of, same_keys}
use Rattle.exec_group.specs.Columns.{row_of}
use Rattle.exec_group.specs.Groups.{AreEntered}
use Rattle.exec_group.specs.NumberKeys.{number_key}
use Rattle.exec_group.proofs.number_keys.enter_numbers.Given as goal

abbrev pub invariant-loop-place : goal.invariant-loop-place
invariant-loop-place l = record {
  entered : AreEntered (λ p. keys_of l.keys (row_of l.columns p)) (take l.place-index l.places) (map number_key l.fn.numbers) (map number_key l.numbers) l.out.items;
  known : IfSome l.known (λ k. position (λ x. same_keys x (number_key k.0)) (map number_key l.numbers) ≡ Some k.1);
}
