use Rattle.std.proofs.Common.{◌≡◌, drop}
use Rattle.std.specs.List.{list_any}
use Rattle.std.specs.Ordering.{int_eq}
use Rattle.enc_delta.proofs.base.has_number.Given as goal

abbrev pub invariant-loop-m : goal.invariant-loop-m
invariant-loop-m l = list_any (λ m. int_eq m l.n) (drop l.m-index l.numbers) ≡ list_any (λ m. int_eq m l.n) l.numbers
