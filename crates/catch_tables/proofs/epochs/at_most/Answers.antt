use Rattle.std.proofs.Common.{◌∙◌, leb, rules}
use Rattle.std.proofs.lemmas.List.Sorted.{IsPartitionPoint-from_clause, IsPartitionedBy-leb}
use Rattle.catch_tables.specs.declared.epochs.Keyed.{Keyed}
use Rattle.catch_tables.proofs.Keys.{parted}
use Rattle.catch_tables.proofs.epochs.at_most.Goals as goal

pub returns : goal.returns
returns c =
    let ordered = IsPartitionedBy-leb (λ (k : Keyed). k.epoch) _ c.args.epoch c.requires in
    let point = IsPartitionPoint-from_clause (λ (k : Keyed). leb k.epoch c.args.epoch) _ _ c.partition_point.ensures.partitioned ordered (λ a r q k. search rules) in
    c.split_at.ensures.front ∙ (parted (λ (k : Keyed). leb k.epoch c.args.epoch) c.args.rows.now c.partition_point.result point.0 point.1 c.partition_point.ensures.bound).0
