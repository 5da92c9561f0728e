use Rattle.std.proofs.Common.{◌≡◌, sym, ◌∙◌, ap, subst, arith}
use Rattle.col_disk.proofs.Moving.{moved_none}
use Rattle.catalog_types.specs.declared.catalogue.Projection.{Projection}
use Rattle.folder_model.specs.Projections.{ordinals}
use Rattle.table_jobs.specs.Remaking.{remaking, IsBeingMade, IsWritten, Remaking}
use Rattle.table_jobs.specs.Sources.{IsMadeOf}
use Rattle.table_jobs.proofs.BeingMade.{end_made}
use Rattle.table_jobs.proofs.Writing.{later_moved}
use Rattle.table_jobs.proofs.remaking.RefreshWork.end.Goals as goal

pub returns-then-self-ge-MOST_NUMBERS-clause-moved : goal.returns-then-self-ge-MOST_NUMBERS-clause-moved
returns-then-self-ge-MOST_NUMBERS-clause-moved g c = moved_none g.D.Disk c.args.disk.now

pub returns-in-Ok-clause-made : goal.returns-in-Ok-clause-made
returns-in-Ok-clause-made g c = λ m n told left vectors.
    let w = remaking c.self.inside.table c.self.inside.place c.self.inside.shape c.self.inside.from c.self.inside.source c.self.inside.job in
    let p = c.args.source.now.stored in
    let entry = c.in-Ok.refreshed.entry in
    let written : IsWritten w = subst IsWritten (sym c.self.view_is) c.requires in
    subst (λ (x : Remaking). p.entry ≡ x.source → IsBeingMade m x → IsMadeOf x.job.mark m n p entry) c.self.view_is
    (λ same made. end_made c.one_vector.ensures m n w p entry same made (ap ordinals c.in-Ok.ensures.entry.is) (λ refreshing draft. c.in-Ok.ensures.refreshes m n told left vectors refreshing draft written))

pub returns-in-Ok-clause-moved : goal.returns-in-Ok-clause-moved
returns-in-Ok-clause-moved g c =
    let base : c.self.inside.job.draft.base ≡ c.args.self.now.job.draft.base = ap (λ (x : Remaking). x.job.draft.base) c.self.view_is in
    later_moved g.D.Disk c.args.self.now.job.draft.base (omega (arith, base)) c.install.ensures.moved

pub returns-in-Err-clause-moved : goal.returns-in-Err-clause-moved
returns-in-Err-clause-moved g c =
    let base : c.self.inside.job.draft.base ≡ c.args.self.now.job.draft.base = ap (λ (x : Remaking). x.job.draft.base) c.self.view_is in
    later_moved g.D.Disk c.args.self.now.job.draft.base (omega (arith, base)) c.install.ensures.moved
