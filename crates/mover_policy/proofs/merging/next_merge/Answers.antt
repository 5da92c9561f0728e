use Rattle.std.proofs.Common.{rules}
use Rattle.mover_policy.proofs.Next.{next_is}
use Rattle.mover_policy.proofs.merging.next_merge.Goals as goal

pub returns-in-Some-lowest_level : goal.returns-in-Some-lowest_level
returns-in-Some-lowest_level c =
    next_is c.args.tables.now _ c.in-Some-projection_at.p.now c.in-Some.ensures (c.in-Some-projection_at.ensures) (search (rules, c.in-Some-lowest_level.ensures))
