use Rattle.std.proofs.Common.{◌≡◌, map, take}
use Rattle.sql_binding.specs.Outputs.{key_place}
use Rattle.name_binder.proofs.keys.bind_order.Given as goal

abbrev pub invariant-loop-key : goal.invariant-loop-key
invariant-loop-key l = l.out.items ≡ map (λ k. (key_place l.outputs k.key, k.descending)) (take l.key-index l.order)
