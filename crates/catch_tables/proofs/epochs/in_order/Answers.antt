use Rattle.std.proofs.Common.{rules}
use Rattle.std.proofs.lemmas.List.Sorted.{IsNonDecreasingBy-from_sort_by_key}
use Rattle.catch_tables.specs.declared.epochs.Keyed.{Keyed}
use Rattle.catch_tables.proofs.epochs.in_order.Goals as goal

pub returns-clause-ascending : goal.returns-clause-ascending
returns-clause-ascending c = IsNonDecreasingBy-from_sort_by_key (λ (k : Keyed). k.epoch) _ c.in_ok-sort_by_key.ensures.sorted (λ a r g h. search rules)
