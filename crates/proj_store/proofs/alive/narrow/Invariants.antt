use Rattle.wanted_rows.specs.Wanted.{need_in}
use Rattle.proj_store.proofs.Narrowing.{NarrowsUpto}
use Rattle.proj_store.proofs.alive.narrow.Given as goal

abbrev pub invariant-loop-i : goal.invariant-loop-i
invariant-loop-i l = NarrowsUpto l.column l.values (need_in l.wants) l.i l.fn.alive l.alive
