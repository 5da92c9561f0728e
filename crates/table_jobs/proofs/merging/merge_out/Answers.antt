use Rattle.std.proofs.Common.{ℕ, sym, ◌∙◌, ap, subst, arith}
use Rattle.catalog_types.specs.declared.catalogue.Projection.{Projection}
use Rattle.col_disk.specs.Moved.{Moved, NoName}
use Rattle.col_disk.proofs.Moving.{moved_join, moved_none, moved_still, moved_told}
use Rattle.container_writer.specs.Writing.{DataFrom}
use Rattle.merge_rows.specs.Inputs.{IsMerging, KeepsFrom, Merging}
use Rattle.mergeout_job.specs.Merged.{merged}
use Rattle.table_jobs.proofs.Holding.{keeps_before, merging_kept, reached_later}
use Rattle.purge_job.proofs.Vectors.{loads_blamed}
use Rattle.table_jobs.proofs.Writing.{later_moved, listed_below}
use Rattle.table_jobs.proofs.merging.merge_out.Goals as goal

pub returns-then-next-ge-MOST_NUMBERS-clause-moved : goal.returns-then-next-ge-MOST_NUMBERS-clause-moved
returns-then-next-ge-MOST_NUMBERS-clause-moved g c = moved_none g.D.Disk c.args.disk.now

pub returns-in-Err-clause-moved : goal.returns-in-Err-clause-moved
returns-in-Err-clause-moved g c = moved_still g.D.Disk c.begin.ensures.moved

pub returns-in-Err-write_columns-clause-moved : goal.returns-in-Err-write_columns-clause-moved
returns-in-Err-write_columns-clause-moved g c =
    let begun : Moved g.D.Disk (DataFrom c.args.next) NoName c.args.disk.now c.begin.new.disk = moved_still g.D.Disk c.begin.ensures.moved in
    moved_join g.D.Disk begun (subst (λ (n : ℕ). Moved g.D.Disk (DataFrom n) NoName c.begin.new.disk c.write_columns.new.disk) c.in-Ok.ensures.base c.write_columns.ensures.moved)

pub returns-in-Ok-install-clause-moved : goal.returns-in-Ok-install-clause-moved
returns-in-Ok-install-clause-moved g c =
    let begun : Moved g.D.Disk (DataFrom c.args.next) NoName c.args.disk.now c.begin.new.disk = moved_still g.D.Disk c.begin.ensures.moved in
    let wrote : Moved g.D.Disk (DataFrom c.args.next) NoName c.args.disk.now c.write_columns.new.disk =
    moved_join g.D.Disk begun (subst (λ (n : ℕ). Moved g.D.Disk (DataFrom n) NoName c.begin.new.disk c.write_columns.new.disk) c.in-Ok.ensures.base c.write_columns.ensures.moved) in
    moved_join g.D.Disk wrote (later_moved g.D.Disk c.args.next (omega arith) c.install.ensures.moved)

pub returns-clause-moved : goal.returns-clause-moved
returns-clause-moved g c =
    let begun : Moved g.D.Disk (DataFrom c.args.next) NoName c.args.disk.now c.begin.new.disk = moved_still g.D.Disk c.begin.ensures.moved in
    let wrote : Moved g.D.Disk (DataFrom c.args.next) NoName c.args.disk.now c.write_columns.new.disk =
    moved_join g.D.Disk begun (subst (λ (n : ℕ). Moved g.D.Disk (DataFrom n) NoName c.begin.new.disk c.write_columns.new.disk) c.in-Ok.ensures.base c.write_columns.ensures.moved) in
    moved_join g.D.Disk wrote (later_moved g.D.Disk c.args.next (omega arith) c.install.ensures.moved)

pub returns-in-Ok-install-clause-later : goal.returns-in-Ok-install-clause-later
returns-in-Ok-install-clause-later g c =
    let is = c.in-Ok-install.ensures.entry in
    let epoch = ap (λ (p : Projection). p.lge) is.is in
    let rises = reached_later c.args.p.now.stored.entry.lge (merged c.write_columns.new.job is.made is.others is.memory) in
    omega (arith, epoch, rises)

pub returns-in-Ok-install-clause-keeps : goal.returns-in-Ok-install-clause-keeps
returns-in-Ok-install-clause-keeps g c = λ m n told_m told_n below vectors.
    let p = c.args.p.now.stored in
    let wrote : Moved g.D.Disk (DataFrom c.args.next) NoName c.begin.new.disk c.write_columns.new.disk =
    subst (λ (n : ℕ). Moved g.D.Disk (DataFrom n) NoName c.begin.new.disk c.write_columns.new.disk) c.in-Ok.ensures.base c.write_columns.ensures.moved in
    let told_b = c.begin.ensures.kept ∙ told_m in
    let (l, told_l, changed) = moved_told g.D.Disk m told_b wrote in
    let merging : IsMerging l p c.write_columns.new.job.merge =
    subst (IsMerging l p) (sym c.in-Ok-write_columns.ensures.merge) (merging_kept m l p c.in-Ok.job.merge c.args.next below changed (c.in-Ok.ensures.begun m told_m vectors)) in
    let draft = c.in-Ok-write_columns.ensures.draft m l told_b told_l (c.in-Ok.ensures.draft m told_m vectors) in
    let kept = c.in-Ok-install.ensures.keeps l n told_l told_n (listed_below c.args.next p.entry (omega arith) below) merging draft c.in-Ok-write_columns.ensures.done in
    let mark = ap (λ (j : Merging). j.mark) c.in-Ok-write_columns.ensures.merge ∙ c.in-Ok.ensures.mark in
    keeps_before c.args.mark m l n p c.in-Ok-install.merged.entry c.args.next below changed (subst (λ (k : ℕ). KeepsFrom k l n p c.in-Ok-install.merged.entry) mark kept)

pub returns-in-Ok-install-clause-loads : goal.returns-in-Ok-install-clause-loads
returns-in-Ok-install-clause-loads g c = λ below fault blames.
    let begun : Moved g.D.Disk (DataFrom c.args.next) NoName c.args.disk.now c.begin.new.disk = moved_still g.D.Disk c.begin.ensures.moved in
    let wrote : Moved g.D.Disk (DataFrom c.args.next) NoName c.args.disk.now c.write_columns.new.disk =
    moved_join g.D.Disk begun (subst (λ (n : ℕ). Moved g.D.Disk (DataFrom n) NoName c.begin.new.disk c.write_columns.new.disk) c.in-Ok.ensures.base c.write_columns.ensures.moved) in
    loads_blamed g.D.Disk c.args.p.now.stored.entry c.in-Ok-install.merged.entry c.args.next c.in-Ok-install.merged.next fault c.entry.ensures.sound.loadable below (moved_join g.D.Disk wrote (later_moved g.D.Disk c.args.next (omega arith) c.install.ensures.moved))
    c.in-Ok-install.ensures.vectors blames
