use Rattle.std.proofs.Common.{◌≡◌, length, map, subst, sym, arith}
use Rattle.std.specs.List.{All}
use Rattle.catalog_types.specs.declared.catalogue.Projection.{Projection}
use Rattle.col_disk.proofs.Moving.{moved_none, moved_join}
use Rattle.container_draft.specs.Finished.{AreFinished}
use Rattle.moveout_job.proofs.Renewed.{later_data, vector_data}
use Rattle.mergeout_job.proofs.Installed.{finished_rises}
use Rattle.refresh_job.specs.Job.{Refreshing, seen}
use Rattle.refresh_job.proofs.Ended.{rest_at, all_level, refreshed_below, refreshed_count, refreshed_levels, refreshed_loads, refreshed_rises}
use Rattle.refresh_job.proofs.Vectors.{refreshed_vectors}
use Rattle.refresh_job.specs.Rows.{wanted}
use Rattle.write_store.specs.Memory.{stamp}
use Rattle.ros_container.specs.Encodings.{written_of}
use Rattle.refresh_job.proofs.job.RefreshJob.install.Goals as goal

pub returns-then-next-ge-MOST_NUMBERS-clause-moved : goal.returns-then-next-ge-MOST_NUMBERS-clause-moved
returns-then-next-ge-MOST_NUMBERS-clause-moved g c = moved_none g.D.Disk c.args.disk.now

pub returns-in-Err-clause-moved : goal.returns-in-Err-clause-moved
returns-in-Err-clause-moved g c = moved_none g.D.Disk c.args.disk.now

pub returns-in-Err-finish-clause-moved : goal.returns-in-Err-finish-clause-moved
returns-in-Err-finish-clause-moved g c = vector_data g.D.Disk c.args.next c.finish.ensures.moved

pub returns-in-Err-write_later-clause-moved : goal.returns-in-Err-write_later-clause-moved
returns-in-Err-write_later-clause-moved g c =
    let rise = finished_rises (length c.args.old.now.columns) 0 c.args.next c.in-Ok-finish.first.next c.self.inside.draft c.in-Ok-finish.first.container c.in-Ok-finish.ensures.numbers in
    moved_join g.D.Disk (vector_data g.D.Disk c.args.next c.finish.ensures.moved) (later_data g.D.Disk c.args.next c.in-Ok-finish.first.next rise.0 c.write_later.ensures.moved)

pub returns-in-Ok-refreshed_entry-clause-moved : goal.returns-in-Ok-refreshed_entry-clause-moved
returns-in-Ok-refreshed_entry-clause-moved g c =
    let rise = finished_rises (length c.args.old.now.columns) 0 c.args.next c.in-Ok-finish.first.next c.self.inside.draft c.in-Ok-finish.first.container c.in-Ok-finish.ensures.numbers in
    moved_join g.D.Disk (vector_data g.D.Disk c.args.next c.finish.ensures.moved) (later_data g.D.Disk c.args.next c.in-Ok-finish.first.next rise.0 c.write_later.ensures.moved)

pub returns-clause-moved : goal.returns-clause-moved
returns-clause-moved g c =
    let rise = finished_rises (length c.args.old.now.columns) 0 c.args.next c.in-Ok-finish.first.next c.self.inside.draft c.in-Ok-finish.first.container c.in-Ok-finish.ensures.numbers in
    moved_join g.D.Disk (vector_data g.D.Disk c.args.next c.finish.ensures.moved) (later_data g.D.Disk c.args.next c.in-Ok-finish.first.next rise.0 c.write_later.ensures.moved)

pub returns-in-Ok-refreshed_entry-clause-entry : goal.returns-in-Ok-refreshed_entry-clause-entry
returns-in-Ok-refreshed_entry-clause-entry g c = record {
  first = c.in-Ok-finish.first.container;
  later = c.in-Ok-write_later.later.container;
  mid = c.in-Ok-finish.first.next;
  output = subst (λ (r : Refreshing). AreFinished (length c.args.old.now.columns) 0 c.args.next c.in-Ok-finish.first.next r.draft c.in-Ok-finish.first.container) c.self.view_is c.in-Ok-finish.ensures.numbers;
  numbers = c.in-Ok-write_later.ensures.numbers;
  is = c.in-Ok-refreshed_entry.ensures;
}

pub returns-in-Ok-refreshed_entry-clause-upto : goal.returns-in-Ok-refreshed_entry-clause-upto
returns-in-Ok-refreshed_entry-clause-upto g c =
    let rise = finished_rises (length c.args.old.now.columns) 0 c.args.next c.in-Ok-finish.first.next c.self.inside.draft c.in-Ok-finish.first.container c.in-Ok-finish.ensures.numbers in
    let one = rise.1 in
    let most = c.in-Ok-write_later.ensures.upto in
    omega (arith, one, most)

pub returns-in-Ok-refreshed_entry-clause-refreshes : goal.returns-in-Ok-refreshed_entry-clause-refreshes
returns-in-Ok-refreshed_entry-clause-refreshes g c = λ m n told left vectors.
    let inside : Refreshing = seen c.self.inside.mark c.self.inside.via.items c.self.inside.draft in
    rest_at g.D.Disk c.args.old.now c.in-Ok-refreshed_entry.entry c.args.source.now.stored inside c.args.self.now c.in-Ok-finish.first.container c.in-Ok-write_later.later.container (map stamp c.unsaved-rows.result.now) c.as_slice-via.result.now c.places.result.now
    c.in-Ok.dels.items c.as_slice-dels.result.now c.args.last _ c.args.next c.in-Ok-finish.first.next c.self.view_is c.as_slice-via.ensures.value c.places.ensures.places c.unsaved-rows.ensures.rows c.as_slice-dels.ensures.value c.requires.numbers c.in-Ok.ensures
    c.in-Ok-finish.ensures.held c.in-Ok-finish.ensures.numbers c.finish.ensures.moved c.in-Ok-write_later.ensures.held c.write_later.ensures.moved c.in-Ok-refreshed_entry.ensures m n told left

pub returns-in-Ok-refreshed_entry-clause-vectors : goal.returns-in-Ok-refreshed_entry-clause-vectors
returns-in-Ok-refreshed_entry-clause-vectors g c =
    refreshed_vectors g.D.Disk (length c.args.old.now.columns) c.args.next c.in-Ok-finish.first.next c.in-Ok-write_later.later.next c.args.last _ (written_of c.args.old.now) c.self.inside.draft c.args.old.now c.in-Ok-refreshed_entry.entry
    c.in-Ok-finish.first.container c.in-Ok-write_later.later.container (wanted c.self.inside.mark c.as_slice-via.result.now (map stamp c.unsaved-rows.result.now)) c.in-Ok-finish.ensures.numbers c.in-Ok-finish.ensures.vector
    c.in-Ok-write_later.ensures.numbers c.write_later.ensures.moved c.in-Ok-write_later.ensures.held c.in-Ok-refreshed_entry.ensures

pub returns-in-Ok-refreshed_entry-clause-count : goal.returns-in-Ok-refreshed_entry-clause-count
returns-in-Ok-refreshed_entry-clause-count g c = refreshed_count c.args.last c.args.next c.in-Ok-write_later.later.next c.args.self.now c.args.old.now c.in-Ok-refreshed_entry.entry (returns-in-Ok-refreshed_entry-clause-entry g c)

pub returns-in-Ok-refreshed_entry-clause-levels : goal.returns-in-Ok-refreshed_entry-clause-levels
returns-in-Ok-refreshed_entry-clause-levels g c =
    refreshed_levels c.args.last c.args.next c.in-Ok-write_later.later.next c.args.self.now c.args.old.now c.in-Ok-refreshed_entry.entry (returns-in-Ok-refreshed_entry-clause-entry g c)
    (subst (λ (e : Projection). All (λ k. k.level ≡ 0) e.containers) (sym c.in-Ok-refreshed_entry.ensures)
    (all_level c.in-Ok-finish.first.container c.in-Ok-write_later.later.container (length c.args.old.now.columns) c.args.next c.in-Ok-finish.first.next c.self.inside.draft c.in-Ok-finish.ensures.numbers c.in-Ok-write_later.ensures.level))

pub returns-in-Ok-refreshed_entry-clause-below : goal.returns-in-Ok-refreshed_entry-clause-below
returns-in-Ok-refreshed_entry-clause-below g c = refreshed_below c.args.last c.args.next c.in-Ok-write_later.later.next c.args.self.now c.args.old.now c.in-Ok-refreshed_entry.entry c.requires.numbers (returns-in-Ok-refreshed_entry-clause-entry g c)

pub returns-in-Ok-refreshed_entry-clause-next : goal.returns-in-Ok-refreshed_entry-clause-next
returns-in-Ok-refreshed_entry-clause-next g c = refreshed_rises c.args.last c.args.next c.in-Ok-write_later.later.next c.args.self.now c.args.old.now c.in-Ok-refreshed_entry.entry (returns-in-Ok-refreshed_entry-clause-entry g c)

pub returns-in-Ok-refreshed_entry-clause-loadable : goal.returns-in-Ok-refreshed_entry-clause-loadable
returns-in-Ok-refreshed_entry-clause-loadable g c = λ sort. refreshed_loads c.args.last c.args.next c.in-Ok-write_later.later.next c.args.self.now c.args.old.now c.in-Ok-refreshed_entry.entry (omega (arith, c.if-next-ge-MOST_NUMBERS.false)) c.requires.numbers (returns-in-Ok-refreshed_entry-clause-entry g c) sort
