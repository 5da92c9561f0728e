use Rattle.std.proofs.Common.{◌≡◌, drop}
use Rattle.sql_binding.specs.Firsts.{first_given}
use Rattle.sql_binding.specs.Outputs.{unknown_key}
use Rattle.name_binder.proofs.keys.first_unknown.Given as goal

abbrev pub invariant-loop-key : goal.invariant-loop-key
invariant-loop-key l = first_given (λ k. unknown_key l.outputs k.key) (drop l.key-index l.order) ≡ first_given (λ k. unknown_key l.outputs k.key) l.order
