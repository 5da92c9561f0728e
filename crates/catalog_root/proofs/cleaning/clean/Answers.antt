use Rattle.std.proofs.Common.{sym, ◌∙◌, subst}
use Rattle.std.proofs.lemmas.Result.{on_ok_weaker}
use Rattle.std.specs.List.Sorted.{IsPermutation}
use Rattle.col_disk.specs.Calls.{ListsNames}
use Rattle.col_disk.proofs.Moving.{moved_join, moved_read, moved_wider, moved_none}
use Rattle.catalog_root.specs.Listed.{listed_numbers}
use Rattle.catalog_root.proofs.Sweeps.{all_gone, swept_unlisted}
use Rattle.catalog_root.proofs.cleaning.clean.Goals as goal

pub returns-clause-gone : goal.returns-clause-gone
returns-clause-gone g c = on_ok_weaker c.sweep.result (λ gone.
    all_gone c.args.version c.args.c.now c.as_slice-2.result.now c.as_slice.result.now (g.D.Disk.holds c.names.new.self) (g.D.Disk.holds c.sweep.new.disk)
    (subst (IsPermutation (listed_numbers c.args.c.now)) (sym c.as_slice-2.ensures.value) c.in-Ok.ensures.all) c.sweep.ensures.fits
    (λ m told. subst (ListsNames m) (sym c.as_slice.ensures.value) (c.in_ok-names.ensures.answer m (sym c.in_ok-names.ensures.keeps.contents ∙ told))) c.sweep.ensures.moved.contents gone) c.sweep.ensures.gone

pub returns-clause-moved : goal.returns-clause-moved
returns-clause-moved g c = moved_join g.D.Disk (moved_read g.D.Disk c.in_ok-names.ensures.keeps) (moved_wider g.D.Disk (λ q is. is)
    (swept_unlisted c.args.version c.args.c.now c.as_slice-2.result.now (subst (IsPermutation (listed_numbers c.args.c.now)) (sym c.as_slice-2.ensures.value) c.in-Ok.ensures.all)) c.sweep.ensures.moved)

pub returns-in-Err-clause-moved : goal.returns-in-Err-clause-moved
returns-in-Err-clause-moved g c = moved_none g.D.Disk c.args.disk.now

pub returns-in_err-names-clause-moved : goal.returns-in_err-names-clause-moved
returns-in_err-names-clause-moved g c = moved_read g.D.Disk c.names.ensures.keeps
