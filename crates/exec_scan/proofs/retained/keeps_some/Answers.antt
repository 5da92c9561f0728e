use Rattle.std.proofs.Common.{◌≡◌, ◌∙◌, false, sym, ap}
use Rattle.std.specs.Prelude.{None, slice_index_or}
use Rattle.exec_scan.specs.Retaining.{is_kept}
use Rattle.exec_scan.proofs.Keeping.{keeps_next}
use Rattle.exec_scan.proofs.retained.keeps_some.Goals as goal

pub loop-i-preserved : goal.loop-i-preserved
loop-i-preserved c =
    let off : is_kept c.args.mark (slice_index_or c.args.deletes.now c.loop-i.i None) ≡ false = ap (is_kept c.args.mark) (sym c.epoch_at.ensures) ∙ sym c.is_kept.ensures ∙ c.if-is_kept.false in
    keeps_next c.args.mark (λ i. slice_index_or c.args.deletes.now i None) c.loop-i.i c.args.count _ c.loop-i-test.true off c.loop-i.invariant
