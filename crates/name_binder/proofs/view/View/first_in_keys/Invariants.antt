use Rattle.std.proofs.Common.{◌≡◌, drop, false}
use Rattle.sql_binding.specs.Firsts.{first_given}
use Rattle.sql_binding.specs.Uses.{used_outside}
use Rattle.name_binder.specs.Looks.{named_in}
use Rattle.name_binder.proofs.view.View.first_in_keys.Given as goal

abbrev pub invariant-loop-key : goal.invariant-loop-key
invariant-loop-key l = first_given (λ k. named_in l.self false (used_outside k.column)) (drop l.key-index l.keys) ≡ first_given (λ k. named_in l.self false (used_outside k.column)) l.keys
