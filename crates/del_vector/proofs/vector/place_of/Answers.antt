use Rattle.std.proofs.Common.{ltb, arith, rules}
use Rattle.std.proofs.lemmas.List.Sorted.{IsPartitionPoint-from_clause, IsPartitionedBy-ltb}
use Rattle.del_vector.proofs.Places.{rising, place_is}
use Rattle.del_vector.proofs.vector.place_of.Goals as goal

pub returns-clause-place : goal.returns-clause-place
returns-clause-place c =
    let parted = IsPartitionedBy-ltb (λ m. m.position) _ c.args.position (rising 0 c.args.marks.now c.requires) in
    let point = IsPartitionPoint-from_clause (λ m. ltb m.position c.args.position) _ _ c.partition_point.ensures.partitioned parted (λ a r q k. search rules) in
    place_is c.args.position c.args.marks.now c.partition_point.result c.partition_point.ensures.bound (λ k d lt. point.0 k d (omega arith) lt) point.1
