use Rattle.std.proofs.Common.{◌∙◌, ltb, rules, subst, sym, List}
use Rattle.std.proofs.lemmas.List.Sorted.{IsPartitionPoint-from_clause, IsPartitionedBy-ltb}
use Rattle.catch_tables.specs.Keyed.{AreInOrder}
use Rattle.catch_tables.specs.declared.epochs.Keyed.{Keyed}
use Rattle.catch_tables.proofs.Keys.{order_behind, parted}
use Rattle.catch_tables.proofs.epochs.at_least.Goals as goal

pub returns-clause-rest : goal.returns-clause-rest
returns-clause-rest c =
    let ordered = IsPartitionedBy-ltb (λ (k : Keyed). k.epoch) _ c.args.epoch c.requires in
    let point = IsPartitionPoint-from_clause (λ (k : Keyed). ltb k.epoch c.args.epoch) _ _ c.partition_point.ensures.partitioned ordered (λ a r q k. search rules) in
    c.split_at.ensures.back ∙ (parted (λ (k : Keyed). ltb k.epoch c.args.epoch) c.args.rows.now c.partition_point.result point.0 point.1 c.partition_point.ensures.bound).1

pub returns-clause-ascending : goal.returns-clause-ascending
returns-clause-ascending c = subst (λ (ks : List Keyed). AreInOrder ks) (sym c.split_at.ensures.back) (order_behind c.partition_point.result c.args.rows.now c.requires)
