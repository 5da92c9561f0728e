use Rattle.std.proofs.Common.{inr, sym, subst}
use Rattle.std.specs.List.Sorted.{IsPermutation}
use Rattle.col_disk.proofs.Moving.{moved_join, moved_wider}
use Rattle.catalog_root.specs.Listed.{listed_numbers}
use Rattle.catalog_root.proofs.Sweeps.{swept_unlisted}
use Rattle.catalog_root.proofs.cleaning.clean_after.Goals as goal

pub returns-in-Err-clause-moved : goal.returns-in-Err-clause-moved
returns-in-Err-clause-moved g c = moved_wider g.D.Disk (λ q is. is) (λ q is. inr is) c.remove_version.ensures.moved

pub returns-then-is_empty-clause-moved : goal.returns-then-is_empty-clause-moved
returns-then-is_empty-clause-moved g c = moved_wider g.D.Disk (λ q is. is) (λ q is. inr is) c.remove_version.ensures.moved

pub returns-in-Err-numbers_in-clause-moved : goal.returns-in-Err-numbers_in-clause-moved
returns-in-Err-numbers_in-clause-moved g c = moved_wider g.D.Disk (λ q is. is) (λ q is. inr is) c.remove_version.ensures.moved

pub returns-in-Ok-numbers_in-clause-moved : goal.returns-in-Ok-numbers_in-clause-moved
returns-in-Ok-numbers_in-clause-moved g c =
    moved_join g.D.Disk (moved_wider g.D.Disk (λ q is. is) (λ q is. inr is) c.remove_version.ensures.moved)
    (moved_wider g.D.Disk (λ q is. is)
    (swept_unlisted c.args.version c.args.c.now c.as_slice.result.now (subst (IsPermutation (listed_numbers c.args.c.now)) (sym c.as_slice.ensures.value) c.in-Ok-numbers_in.ensures.all)) c.sweep_numbers.ensures.moved)
