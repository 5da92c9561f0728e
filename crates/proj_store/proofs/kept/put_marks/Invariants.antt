use Rattle.std.proofs.Common.{◌≡◌, ℕ, take, length}
use Rattle.std.specs.Option.{option_or}
use Rattle.del_vector.specs.Marks.{epoch_at}
use Rattle.wanted_rows.specs.Picked.{asked_of, del_at}
use Rattle.proj_store.proofs.kept.put_marks.Given as goal

abbrev pub invariant-loop-mark : goal.invariant-loop-mark
invariant-loop-mark l = record {
  rows : asked_of l.rows ≡ asked_of l.fn.rows;
  long : length l.rows ≡ length l.fn.rows;
  deleted : (i : ℕ) → del_at l.rows i ≡ option_or (del_at l.fn.rows i) (epoch_at (take l.mark-index l.marks) i);
}
