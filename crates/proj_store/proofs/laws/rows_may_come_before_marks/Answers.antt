use Rattle.proj_store.proofs.Prepared.{can_mark_after}
use Rattle.proj_store.proofs.laws.rows_may_come_before_marks.Goals as goal

pub returns : goal.returns
returns c = can_mark_after
