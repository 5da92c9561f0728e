use Rattle.std.proofs.Common.{◌≡◌, ◌++◌, length, get_or}
use Rattle.std.specs.Prelude.{None}
use Rattle.stored_rows.specs.Held.{stamped_from}
use Rattle.purge_job.proofs.rows.with_deletes.Given as goal

abbrev pub invariant-loop-asked : goal.invariant-loop-asked
invariant-loop-asked l =
    l.out.items ++ stamped_from (length l.out.items) (λ i. get_or l.dels i None) l.asked-iterator.rest.items ≡ stamped_from 0 (λ i. get_or l.dels i None) l.fn.rows.items
