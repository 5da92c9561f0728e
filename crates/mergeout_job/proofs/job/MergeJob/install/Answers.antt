use Rattle.std.proofs.Common.{◌≡◌, ◌<◌, ◌^◌, length, refl, rules, arith}
use Rattle.col_disk.proofs.Moving.{moved_none, moved_join}
use Rattle.moveout_job.proofs.Renewed.{later_data, vector_data}
use Rattle.mergeout_job.specs.Job.{Mergeout, seen}
use Rattle.mergeout_job.specs.Merged.{IsMerged}
use Rattle.mergeout_job.proofs.Installed.{finished_rises, keeps_at, merged_is, merged_below, merged_count, merged_levels, merged_loads, merged_rises}
use Rattle.mergeout_job.proofs.Vectors.{merged_vectors}
use Rattle.mergeout_job.proofs.job.MergeJob.install.Goals as goal

pub returns-then-next-ge-MOST_NUMBERS-clause-moved : goal.returns-then-next-ge-MOST_NUMBERS-clause-moved
returns-then-next-ge-MOST_NUMBERS-clause-moved g c = moved_none g.D.Disk c.args.disk.now

pub returns-in-Err-clause-moved : goal.returns-in-Err-clause-moved
returns-in-Err-clause-moved g c = moved_none g.D.Disk c.args.disk.now

pub returns-in-Err-deletes_now-clause-moved : goal.returns-in-Err-deletes_now-clause-moved
returns-in-Err-deletes_now-clause-moved g c = moved_none g.D.Disk c.args.disk.now

pub returns-in-Err-finish-clause-moved : goal.returns-in-Err-finish-clause-moved
returns-in-Err-finish-clause-moved g c = vector_data g.D.Disk c.args.next c.finish.ensures.moved

pub returns-in-Err-save_memory-clause-moved : goal.returns-in-Err-save_memory-clause-moved
returns-in-Err-save_memory-clause-moved g c =
    let rise = finished_rises (length c.entry.result.now.columns) c.in-Ok.level c.args.next c.in-Ok-finish.made.next c.self.inside.draft c.in-Ok-finish.made.container c.in-Ok-finish.ensures.numbers in
    moved_join g.D.Disk (vector_data g.D.Disk c.args.next c.finish.ensures.moved) (later_data g.D.Disk c.args.next c.in-Ok-finish.made.next rise.0 c.save_memory.ensures.moved)

pub returns-in-Ok-merged_entry-clause-moved : goal.returns-in-Ok-merged_entry-clause-moved
returns-in-Ok-merged_entry-clause-moved g c =
    let rise = finished_rises (length c.entry.result.now.columns) c.in-Ok.level c.args.next c.in-Ok-finish.made.next c.self.inside.draft c.in-Ok-finish.made.container c.in-Ok-finish.ensures.numbers in
    moved_join g.D.Disk (vector_data g.D.Disk c.args.next c.finish.ensures.moved) (later_data g.D.Disk c.args.next c.in-Ok-finish.made.next rise.0 c.save_memory.ensures.moved)

pub returns-clause-moved : goal.returns-clause-moved
returns-clause-moved g c =
    let rise = finished_rises (length c.entry.result.now.columns) c.in-Ok.level c.args.next c.in-Ok-finish.made.next c.self.inside.draft c.in-Ok-finish.made.container c.in-Ok-finish.ensures.numbers in
    moved_join g.D.Disk (vector_data g.D.Disk c.args.next c.finish.ensures.moved) (later_data g.D.Disk c.args.next c.in-Ok-finish.made.next rise.0 c.save_memory.ensures.moved)

pub returns-in-Ok-merged_entry-clause-entry : goal.returns-in-Ok-merged_entry-clause-entry
returns-in-Ok-merged_entry-clause-entry g c =
    let p = c.args.p.now.stored in
    let made = c.in-Ok-finish.made in
    let saved = c.in-Ok-save_memory.saved in
    let inside : Mergeout = seen c.self.inside.level c.self.inside.inputs.items c.self.inside.mark c.self.inside.draft in
    let is : IsMerged c.args.next saved.next c.args.self.now p.entry c.in-Ok-merged_entry.entry =
    merged_is c.args.next made.next saved.next c.in-Ok.level inside c.args.self.now c.entry.result.now c.entry-2.result.now p.entry c.in-Ok-merged_entry.entry made.container saved.memory saved.containers.items c.as_slice-others.result.now
    c.as_slice-inputs.result.now c.self.view_is c.entry.ensures.entry c.entry-2.ensures.entry c.in-Ok.ensures c.in-Ok-finish.ensures.numbers c.in-Ok-save_memory.ensures.saved c.as_slice-inputs.ensures.value c.as_slice-others.ensures.value
    c.in-Ok-merged_entry.ensures in
    is

pub returns-in-Ok-merged_entry-clause-count : goal.returns-in-Ok-merged_entry-clause-count
returns-in-Ok-merged_entry-clause-count g c =
    let p = c.args.p.now.stored in
    let made = c.in-Ok-finish.made in
    let saved = c.in-Ok-save_memory.saved in
    let inside : Mergeout = seen c.self.inside.level c.self.inside.inputs.items c.self.inside.mark c.self.inside.draft in
    let is : IsMerged c.args.next saved.next c.args.self.now p.entry c.in-Ok-merged_entry.entry =
    merged_is c.args.next made.next saved.next c.in-Ok.level inside c.args.self.now c.entry.result.now c.entry-2.result.now p.entry c.in-Ok-merged_entry.entry made.container saved.memory saved.containers.items c.as_slice-others.result.now
    c.as_slice-inputs.result.now c.self.view_is c.entry.ensures.entry c.entry-2.ensures.entry c.in-Ok.ensures c.in-Ok-finish.ensures.numbers c.in-Ok-save_memory.ensures.saved c.as_slice-inputs.ensures.value c.as_slice-others.ensures.value
    c.in-Ok-merged_entry.ensures in
    merged_count c.args.next saved.next c.args.self.now p.entry c.in-Ok-merged_entry.entry c.requires.four is

pub returns-in-Ok-merged_entry-clause-levels : goal.returns-in-Ok-merged_entry-clause-levels
returns-in-Ok-merged_entry-clause-levels g c =
    let p = c.args.p.now.stored in
    let made = c.in-Ok-finish.made in
    let saved = c.in-Ok-save_memory.saved in
    let inside : Mergeout = seen c.self.inside.level c.self.inside.inputs.items c.self.inside.mark c.self.inside.draft in
    let is : IsMerged c.args.next saved.next c.args.self.now p.entry c.in-Ok-merged_entry.entry =
    merged_is c.args.next made.next saved.next c.in-Ok.level inside c.args.self.now c.entry.result.now c.entry-2.result.now p.entry c.in-Ok-merged_entry.entry made.container saved.memory saved.containers.items c.as_slice-others.result.now
    c.as_slice-inputs.result.now c.self.view_is c.entry.ensures.entry c.entry-2.ensures.entry c.in-Ok.ensures c.in-Ok-finish.ensures.numbers c.in-Ok-save_memory.ensures.saved c.as_slice-inputs.ensures.value c.as_slice-others.ensures.value
    c.in-Ok-merged_entry.ensures in
    merged_levels c.args.next saved.next c.args.self.now p.entry c.in-Ok-merged_entry.entry c.requires.four is

pub returns-in-Ok-merged_entry-clause-below : goal.returns-in-Ok-merged_entry-clause-below
returns-in-Ok-merged_entry-clause-below g c =
    let p = c.args.p.now.stored in
    let made = c.in-Ok-finish.made in
    let saved = c.in-Ok-save_memory.saved in
    let inside : Mergeout = seen c.self.inside.level c.self.inside.inputs.items c.self.inside.mark c.self.inside.draft in
    let is : IsMerged c.args.next saved.next c.args.self.now p.entry c.in-Ok-merged_entry.entry =
    merged_is c.args.next made.next saved.next c.in-Ok.level inside c.args.self.now c.entry.result.now c.entry-2.result.now p.entry c.in-Ok-merged_entry.entry made.container saved.memory saved.containers.items c.as_slice-others.result.now
    c.as_slice-inputs.result.now c.self.view_is c.entry.ensures.entry c.entry-2.ensures.entry c.in-Ok.ensures c.in-Ok-finish.ensures.numbers c.in-Ok-save_memory.ensures.saved c.as_slice-inputs.ensures.value c.as_slice-others.ensures.value
    c.in-Ok-merged_entry.ensures in
    merged_below c.args.next saved.next c.args.self.now p.entry c.in-Ok-merged_entry.entry c.requires.numbers is

pub returns-in-Ok-merged_entry-clause-loadable : goal.returns-in-Ok-merged_entry-clause-loadable
returns-in-Ok-merged_entry-clause-loadable g c =
    let p = c.args.p.now.stored in
    let made = c.in-Ok-finish.made in
    let saved = c.in-Ok-save_memory.saved in
    let inside : Mergeout = seen c.self.inside.level c.self.inside.inputs.items c.self.inside.mark c.self.inside.draft in
    let is : IsMerged c.args.next saved.next c.args.self.now p.entry c.in-Ok-merged_entry.entry =
    merged_is c.args.next made.next saved.next c.in-Ok.level inside c.args.self.now c.entry.result.now c.entry-2.result.now p.entry c.in-Ok-merged_entry.entry made.container saved.memory saved.containers.items c.as_slice-others.result.now
    c.as_slice-inputs.result.now c.self.view_is c.entry.ensures.entry c.entry-2.ensures.entry c.in-Ok.ensures c.in-Ok-finish.ensures.numbers c.in-Ok-save_memory.ensures.saved c.as_slice-inputs.ensures.value c.as_slice-others.ensures.value
    c.in-Ok-merged_entry.ensures in
    merged_loads c.args.next saved.next c.args.self.now p.entry c.in-Ok-merged_entry.entry (omega (arith, c.if-next-ge-MOST_NUMBERS.false)) c.requires.numbers is c.entry.ensures.sound.loadable

pub returns-in-Ok-merged_entry-clause-next : goal.returns-in-Ok-merged_entry-clause-next
returns-in-Ok-merged_entry-clause-next g c =
    let p = c.args.p.now.stored in
    let made = c.in-Ok-finish.made in
    let saved = c.in-Ok-save_memory.saved in
    let inside : Mergeout = seen c.self.inside.level c.self.inside.inputs.items c.self.inside.mark c.self.inside.draft in
    let is : IsMerged c.args.next saved.next c.args.self.now p.entry c.in-Ok-merged_entry.entry =
    merged_is c.args.next made.next saved.next c.in-Ok.level inside c.args.self.now c.entry.result.now c.entry-2.result.now p.entry c.in-Ok-merged_entry.entry made.container saved.memory saved.containers.items c.as_slice-others.result.now
    c.as_slice-inputs.result.now c.self.view_is c.entry.ensures.entry c.entry-2.ensures.entry c.in-Ok.ensures c.in-Ok-finish.ensures.numbers c.in-Ok-save_memory.ensures.saved c.as_slice-inputs.ensures.value c.as_slice-others.ensures.value
    c.in-Ok-merged_entry.ensures in
    merged_rises c.args.next saved.next c.args.self.now p.entry c.in-Ok-merged_entry.entry is

pub returns-in-Ok-merged_entry-clause-upto : goal.returns-in-Ok-merged_entry-clause-upto
returns-in-Ok-merged_entry-clause-upto g c =
    let p = c.args.p.now.stored in
    let made = c.in-Ok-finish.made in
    let saved = c.in-Ok-save_memory.saved in
    let inside : Mergeout = seen c.self.inside.level c.self.inside.inputs.items c.self.inside.mark c.self.inside.draft in
    let is : IsMerged c.args.next saved.next c.args.self.now p.entry c.in-Ok-merged_entry.entry =
    merged_is c.args.next made.next saved.next c.in-Ok.level inside c.args.self.now c.entry.result.now c.entry-2.result.now p.entry c.in-Ok-merged_entry.entry made.container saved.memory saved.containers.items c.as_slice-others.result.now
    c.as_slice-inputs.result.now c.self.view_is c.entry.ensures.entry c.entry-2.ensures.entry c.in-Ok.ensures c.in-Ok-finish.ensures.numbers c.in-Ok-save_memory.ensures.saved c.as_slice-inputs.ensures.value c.as_slice-others.ensures.value
    c.in-Ok-merged_entry.ensures in
    let rise = finished_rises (length c.entry.result.now.columns) c.in-Ok.level c.args.next made.next c.self.inside.draft made.container c.in-Ok-finish.ensures.numbers in
    let one = rise.1 in
    let most = c.in-Ok-save_memory.ensures.upto in
    omega (arith, one, most)

pub returns-in-Ok-merged_entry-clause-keeps : goal.returns-in-Ok-merged_entry-clause-keeps
returns-in-Ok-merged_entry-clause-keeps g c =
    let p = c.args.p.now.stored in
    let made = c.in-Ok-finish.made in
    let saved = c.in-Ok-save_memory.saved in
    let inside : Mergeout = seen c.self.inside.level c.self.inside.inputs.items c.self.inside.mark c.self.inside.draft in
    keeps_at g.D.Disk c.one_container.ensures p c.entry.result.now c.entry-2.result.now c.in-Ok-merged_entry.entry inside c.args.self.now made.container saved.memory saved.containers.items c.as_slice-others.result.now c.args.next made.next saved.next
    c.in-Ok.level c.in-Ok-deletes_now.dels.items c.as_slice-dels.result.now c.as_slice-inputs.result.now c.places-places.result.now c.self.view_is c.entry.ensures.entry c.entry-2.ensures.entry c.in-Ok.ensures c.requires.four c.requires.numbers refl
    c.as_slice-inputs.ensures.value c.places-places.ensures.places c.as_slice-dels.ensures.value c.as_slice-others.ensures.value c.in-Ok-deletes_now.ensures c.in-Ok-finish.ensures.held c.in-Ok-finish.ensures.numbers c.finish.ensures.moved
    c.in-Ok-save_memory.ensures.others c.in-Ok-save_memory.ensures.memory c.in-Ok-save_memory.ensures.saved c.save_memory.ensures.moved c.in-Ok-merged_entry.ensures

pub returns-in-Ok-merged_entry-clause-vectors : goal.returns-in-Ok-merged_entry-clause-vectors
returns-in-Ok-merged_entry-clause-vectors g c =
    let made = c.in-Ok-finish.made in
    let saved = c.in-Ok-save_memory.saved in
    merged_vectors g.D.Disk (length c.entry.result.now.columns) c.in-Ok.level c.args.next made.next saved.next c.self.inside.draft c.args.p.now.stored.entry c.entry-2.result.now c.in-Ok-merged_entry.entry c.as_slice-inputs.result.now made.container saved.memory
    saved.containers.items c.as_slice-others.result.now c.in-Ok-finish.ensures.numbers c.in-Ok-finish.ensures.vector c.in-Ok-save_memory.ensures.saved c.save_memory.ensures.moved c.in-Ok-save_memory.ensures.vectors c.as_slice-others.ensures.value
    c.in-Ok-merged_entry.ensures
