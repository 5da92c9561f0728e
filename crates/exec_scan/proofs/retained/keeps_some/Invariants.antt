use Rattle.std.proofs.Common.{◌≡◌, ◌-◌}
use Rattle.std.specs.Prelude.{None, slice_index_or}
use Rattle.exec_scan.specs.Retaining.{keeps_from}
use Rattle.exec_scan.proofs.retained.keeps_some.Given as goal

abbrev pub invariant-loop-i : goal.invariant-loop-i
invariant-loop-i l = keeps_from l.mark (λ i. slice_index_or l.deletes i None) l.i (l.count - l.i) ≡ keeps_from l.mark (λ i. slice_index_or l.deletes i None) 0 l.count
