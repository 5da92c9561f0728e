use Rattle.std.proofs.Common.{◌≡◌, ◌∙◌, ap, false, List, ℕ, subst, sym}
use Rattle.std.specs.Prelude.{Some, Result}
use Rattle.col_io.specs.Files.{Finds}
use Rattle.col_io.specs.declared.reading.Got.TheVariants.{Absent, Whole, TooLong}
use Rattle.sql_tree.specs.declared.refusal.Refusal.{Refusal}
use Rattle.sql_tree.specs.declared.statement.Statement.{Statement}
use Rattle.db_model.specs.Refusals.{is_large_file}
use Rattle.store_core.specs.Running.{frame_of}
use Rattle.store_step.specs.declared.answer.Answer.{Answer}
use Rattle.store_step.specs.declared.answer.StepFault.{StepFault}
use Rattle.store_step.specs.Steps.{Steps}
use Rattle.store_step.proofs.Copied.{all_there, decided_absent, decided_large, failed_steps, found_by, is_found, is_large, is_small, more_there, nothing_there, refused_steps}
use Rattle.store_step.proofs.Stepped.{steps_of, unread_steps}
use Rattle.store_step.proofs.Named.{memory_text_named, text_named}
use Rattle.store_step.proofs.loading.load_file.Goals as goal

pub returns-in-Ok-Whole-clause-steps : goal.returns-in-Ok-Whole-clause-steps
returns-in-Ok-Whole-clause-steps g c = λ text there state spelled told here.
    let file = c.args.file.now in
    let s = Statement.Copy c.args.table.now file in
    let bytes = c.in-Ok-Whole.bytes.items in
    let free = sym (c.frames_are_of_the_state.ensures.lock c.args.disk.now c.args.store.now state c.args.table.now false here) ∙ c.requires.free in
    let found : Finds (there file) 67108864 (Whole c.in-Ok-Whole.bytes) =
    rw c.in-Ok-Whole.field-0-is at (found_by (g.F.Files.content c.args.files.now) there c.as_str.result.now file 67108864 c.in-Ok-Whole.field-0 told c.as_str.ensures c.in-Ok-Whole.ensures.found) in
    let all = all_there (there file) 67108864 c.in-Ok-Whole.bytes found in
    let held = all.0 ∙ ap (λ (bs : List ℕ). Some bs) (sym c.as_slice.ensures.value) in
    let small = subst (λ (bs : List ℕ). is_large_file bs ≡ false) (sym c.as_slice.ensures.value) (is_small bytes all.1) in
    subst (λ (o : Result Answer StepFault). Steps g.D.Disk there text c.load_bytes.new.store c.args.disk.now c.load_bytes.new.disk o state) (sym c.of_text.ensures)
    (steps_of g.D.Disk there text s c.load_bytes.new.store c.load_bytes.result state spelled (c.load_bytes.ensures.answers there file state here free held small))

pub returns-in-Ok-Absent-clause-steps : goal.returns-in-Ok-Absent-clause-steps
returns-in-Ok-Absent-clause-steps g c = λ text there state spelled told here.
    let r = c.args.store.now in
    let table = c.args.table.now in
    let file = c.args.file.now in
    let free = sym (c.frames_are_of_the_state.ensures.lock c.args.disk.now r state table false here) ∙ c.requires.free in
    let found : Finds (there file) 67108864 Absent =
    rw c.in-Ok-Absent.field-0-is at (found_by (g.F.Files.content c.args.files.now) there c.as_str.result.now file 67108864 c.in-Ok-Absent.field-0 told c.as_str.ensures c.in-Ok-Absent.ensures.found) in
    let (e, named) = is_found r state table c.args.place c.requires.place (c.rows_decide_nothing_here.ensures.columns (frame_of r) state table (c.frames_are_of_the_state.ensures.bare c.args.disk.now r state here)) in
    refused_steps g.D.Disk there text (Statement.Copy table file) r c.args.disk.now Refusal.NoFile c.refused.result c.in_memory.result c.of_text-in-Ok-Absent.result state spelled c.of_text-in-Ok-Absent.ensures c.in_memory.ensures c.refused.ensures
    (decided_absent state there table file e named free (nothing_there (there file) 67108864 found)) here (c.every_image_reopens.ensures r.seen.catalogue r.seen.stores c.args.disk.now state.database here.database)

pub returns-in-Ok-TooLong-clause-steps : goal.returns-in-Ok-TooLong-clause-steps
returns-in-Ok-TooLong-clause-steps g c = λ text there state spelled told here.
    let r = c.args.store.now in
    let table = c.args.table.now in
    let file = c.args.file.now in
    let free = sym (c.frames_are_of_the_state.ensures.lock c.args.disk.now r state table false here) ∙ c.requires.free in
    let found : Finds (there file) 67108864 TooLong =
    rw c.in-Ok-TooLong.field-0-is at (found_by (g.F.Files.content c.args.files.now) there c.as_str.result.now file 67108864 c.in-Ok-TooLong.field-0 told c.as_str.ensures c.in-Ok-TooLong.ensures.found) in
    let (e, named) = is_found r state table c.args.place c.requires.place (c.rows_decide_nothing_here.ensures.columns (frame_of r) state table (c.frames_are_of_the_state.ensures.bare c.args.disk.now r state here)) in
    let (bytes, held, long) = more_there (there file) 67108864 found in
    refused_steps g.D.Disk there text (Statement.Copy table file) r c.args.disk.now Refusal.FileTooLarge c.refused-in-Ok-TooLong.result c.in_memory-in-Ok-TooLong.result c.of_text-in-Ok-TooLong.result state spelled c.of_text-in-Ok-TooLong.ensures c.in_memory-in-Ok-TooLong.ensures c.refused-in-Ok-TooLong.ensures
    (decided_large state there table file bytes e named free held (is_large bytes long)) here (c.every_image_reopens.ensures r.seen.catalogue r.seen.stores c.args.disk.now state.database here.database)

pub returns-in-Err-Failed-clause-steps : goal.returns-in-Err-Failed-clause-steps
returns-in-Err-Failed-clause-steps g c = λ text there state spelled told here.
    failed_steps g.D.Disk there text c.args.table.now c.args.file.now c.args.store.now c.args.disk.now state spelled here (c.every_image_reopens.ensures c.args.store.now.seen.catalogue c.args.store.now.seen.stores c.args.disk.now state.database here.database)

pub returns-in-Err-Memory-clause-steps : goal.returns-in-Err-Memory-clause-steps
returns-in-Err-Memory-clause-steps g c = λ text there state spelled told here.
    unread_steps g.D.Disk there text c.args.store.now c.args.disk.now state here (c.every_image_reopens.ensures c.args.store.now.seen.catalogue c.args.store.now.seen.stores c.args.disk.now state.database here.database)

pub returns-in-Ok-Whole-clause-named : goal.returns-in-Ok-Whole-clause-named
returns-in-Ok-Whole-clause-named g c = text_named g.D.Disk c.load_bytes.new.store c.load_bytes.new.disk c.load_bytes.result c.of_text.result c.of_text.ensures c.load_bytes.ensures.named

pub returns-in-Ok-Absent-clause-named : goal.returns-in-Ok-Absent-clause-named
returns-in-Ok-Absent-clause-named g c = memory_text_named g.D.Disk c.args.store.now c.args.disk.now c.refused.result c.in_memory.result c.of_text-in-Ok-Absent.result c.of_text-in-Ok-Absent.ensures c.in_memory.ensures

pub returns-in-Ok-TooLong-clause-named : goal.returns-in-Ok-TooLong-clause-named
returns-in-Ok-TooLong-clause-named g c = memory_text_named g.D.Disk c.args.store.now c.args.disk.now c.refused-in-Ok-TooLong.result c.in_memory-in-Ok-TooLong.result c.of_text-in-Ok-TooLong.result c.of_text-in-Ok-TooLong.ensures c.in_memory-in-Ok-TooLong.ensures
