use Rattle.std.proofs.Common.{◌≡◌, ℕ, take, length, get_or}
use Rattle.std.specs.Prelude.{None}
use Rattle.std.specs.Option.{option_or}
use Rattle.del_vector.specs.Marks.{epoch_at}
use Rattle.proj_store.proofs.deletes.put_marks.Given as goal

abbrev pub invariant-loop-mark : goal.invariant-loop-mark
invariant-loop-mark l = record {
  long : length l.deletes ≡ length l.fn.deletes;
  deleted : (i : ℕ) → get_or l.deletes i None ≡ option_or (get_or l.fn.deletes i None) (epoch_at (take l.mark-index l.marks) i);
}
