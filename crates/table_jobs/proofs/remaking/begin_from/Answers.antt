use Rattle.std.proofs.Common.{◌≡◌, sym, subst}
use Rattle.catalog_types.specs.declared.catalogue.Projection.{Projection}
use Rattle.col_disk.proofs.Moving.{moved_none}
use Rattle.container_draft.specs.Draft.{IsDraft}
use Rattle.ros_container.specs.Encodings.{written_of}
use Rattle.table_jobs.proofs.remaking.begin_from.Goals as goal

pub returns-in-Err-clause-moved : goal.returns-in-Err-clause-moved
returns-in-Err-clause-moved g c = moved_none g.D.Disk c.args.disk.now

pub returns-in-Err-entry_copy-clause-moved : goal.returns-in-Err-entry_copy-clause-moved
returns-in-Err-entry_copy-clause-moved g c = moved_none g.D.Disk c.args.disk.now

pub returns-in-Err-entry_copy-2-clause-moved : goal.returns-in-Err-entry_copy-2-clause-moved
returns-in-Err-entry_copy-2-clause-moved g c = moved_none g.D.Disk c.args.disk.now

pub returns-in-Ok-begin-clause-draft : goal.returns-in-Ok-begin-clause-draft
returns-in-Ok-begin-clause-draft g c = λ m.
    subst (λ (e : Projection). IsDraft m (written_of e) c.in-Ok-begin.job.draft) (sym c.in-Ok-entry_copy.ensures) (c.in-Ok-begin.ensures.draft m)
