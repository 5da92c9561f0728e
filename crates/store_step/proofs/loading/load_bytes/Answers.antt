use Rattle.std.proofs.Common.{◌∙◌, ◌<◌, List, length, refl, subst, sym}
use Rattle.std.specs.Prelude.{Some}
use Rattle.catalog_types.specs.declared.catalogue.Table as kept
use Rattle.load_reader.specs.declared.fields.LoadColumn.{LoadColumn}
use Rattle.load_reader.specs.Load.{FileLoad, LoadsFile}
use Rattle.sql_tree.specs.declared.refusal.Refusal.{Refusal}
use Rattle.sql_tree.specs.declared.statement.Statement.{Statement}
use Rattle.db_model.specs.Loading.{Load}
use Rattle.store_core.specs.Running.{frame_of}
use Rattle.store_step.proofs.Answered.{memory_answers, refused_holds, unmade}
use Rattle.store_step.proofs.Copied.{columns_in, decided_load, is_within, rows_in}
use Rattle.store_step.proofs.Named.{memory_named}
use Rattle.store_step.proofs.loading.load_bytes.Goals as goal

pub columns_of-requires : goal.columns_of-requires
columns_of-requires g c = subst (λ (ts : List kept.Table). c.args.place < length ts) (sym c.tables.ensures) (is_within c.args.table.now c.args.store.now.seen.catalogue.tables c.args.place c.requires)

pub returns-in-Err-clause-answers : goal.returns-in-Err-clause-answers
returns-in-Err-clause-answers g c = λ files file state here free held small.
    unmade g.D.Disk files _ c.args.store.now c.args.disk.now state here (c.every_image_reopens.ensures c.args.store.now.seen.catalogue c.args.store.now.seen.stores c.args.disk.now state.database here.database)

pub load_rows-requires : goal.load_rows-requires
load_rows-requires g c =
    let columns = c.in-Ok.columns.items in
    let rows = c.in-Ok-read.rows.items in
    rows_in c.tables.result.now c.args.place columns c.args.bytes.now rows c.in-Ok.ensures
    (subst (λ (cs : List LoadColumn). LoadsFile cs c.args.bytes.now (FileLoad.Rows rows)) c.as_slice.ensures.value c.in-Ok-read.ensures.rows) c.loaded_rows_fit.ensures.rows

pub returns-in-Ok-read-clause-answers : goal.returns-in-Ok-read-clause-answers
returns-in-Ok-read-clause-answers g c = λ files file state here free held small.
    let r = c.args.store.now in
    let table = c.args.table.now in
    let bytes = c.args.bytes.now in
    let rows = c.in-Ok-read.rows.items in
    let same = c.rows_decide_nothing_here.ensures.columns (frame_of r) state table (c.frames_are_of_the_state.ensures.bare c.args.disk.now r state here) in
    let (e, found, columns) = columns_in r state table c.args.place c.tables.result.now c.in-Ok.columns.items c.tables.ensures c.requires c.in-Ok.ensures same in
    c.load_rows.ensures.answers files file bytes e state here (record { found = found; free = free; held = held; small = small })
    (subst (λ (cs : List LoadColumn). LoadsFile cs bytes (FileLoad.Rows rows)) (c.as_slice.ensures.value ∙ columns) c.in-Ok-read.ensures.rows)

pub returns-in-Err-Bad-clause-answers : goal.returns-in-Err-Bad-clause-answers
returns-in-Err-Bad-clause-answers g c = λ files file state here free held small.
    let r = c.args.store.now in
    let table = c.args.table.now in
    let bytes = c.args.bytes.now in
    let line = c.in-Err-Bad.line in
    let field = c.in-Err-Bad.field in
    let s = Statement.Copy table file in
    let same = c.rows_decide_nothing_here.ensures.columns (frame_of r) state table (c.frames_are_of_the_state.ensures.bare c.args.disk.now r state here) in
    let (e, found, columns) = columns_in r state table c.args.place c.tables.result.now c.in-Ok.columns.items c.tables.ensures c.requires c.in-Ok.ensures same in
    let bad : LoadsFile c.as_slice.result.now bytes (FileLoad.BadRecord line field) = rw c.in-Err-Bad.field-0-is at c.in-Err-Bad.ensures.fault in
    let wrong = subst (λ (cs : List LoadColumn). LoadsFile cs bytes (FileLoad.BadRecord line field)) (c.as_slice.ensures.value ∙ columns) bad in
    memory_answers g.D.Disk files s s r c.args.disk.now c.refused.result c.in_memory.result state refl c.in_memory.ensures here.sound.database (c.every_image_reopens.ensures r.seen.catalogue r.seen.stores c.args.disk.now state.database here.database)
    (refused_holds g.D.Disk files s r c.args.disk.now (Refusal.BadLoadLine line field) c.refused.result state c.refused.ensures
    (decided_load state files table file bytes e (Load.Wrong line field) (Some (Refusal.BadLoadLine line field)) (record { found = found; free = free; held = held; small = small }) wrong refl) here)

pub returns-clause-answers : goal.returns-clause-answers
returns-clause-answers g c = λ files file state here free held small.
    unmade g.D.Disk files _ c.args.store.now c.args.disk.now state here (c.every_image_reopens.ensures c.args.store.now.seen.catalogue c.args.store.now.seen.stores c.args.disk.now state.database here.database)

pub returns-in-Err-Bad-clause-named : goal.returns-in-Err-Bad-clause-named
returns-in-Err-Bad-clause-named g c = memory_named g.D.Disk c.args.store.now c.args.disk.now c.refused.result c.in_memory.result c.in_memory.ensures
