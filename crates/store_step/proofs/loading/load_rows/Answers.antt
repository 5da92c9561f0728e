use Rattle.std.proofs.Common.{◌∙◌, refl, sym}
use Rattle.std.specs.Prelude.{Some}
use Rattle.sql_tree.specs.declared.statement.Statement.{Statement}
use Rattle.db_model.specs.Loading.{Load}
use Rattle.store_step.proofs.Answered.{memory_answers, refused_holds}
use Rattle.store_step.proofs.Copied.{decided_load, load_told}
use Rattle.store_step.proofs.Named.{memory_named}
use Rattle.store_step.proofs.loading.load_rows.Goals as goal

pub returns-in-Some-clause-answers : goal.returns-in-Some-clause-answers
returns-in-Some-clause-answers g c = λ files file bytes e state here loadable loads.
    let r = c.args.store.now in
    let table = c.args.table.now in
    let rows = c.args.rows.items in
    let s = Statement.Copy table file in
    let told = load_told g.D.Disk r c.args.disk.now state table rows c.as_slice.result.now c.frame.result c.load_refusal.result c.frame.ensures c.as_slice.ensures.value here c.load_refusal.ensures (c.frames_are_of_the_state.ensures.load c.args.disk.now r state table (Load.Rows rows) here) in
    memory_answers g.D.Disk files s s r c.args.disk.now c.refused.result c.in_memory.result state refl c.in_memory.ensures here.sound.database (c.every_image_reopens.ensures r.seen.catalogue r.seen.stores c.args.disk.now state.database here.database)
    (refused_holds g.D.Disk files s r c.args.disk.now c.in-Some.refusal c.refused.result state c.refused.ensures (decided_load state files table file bytes e (Load.Rows rows) (Some c.in-Some.refusal) loadable loads (sym c.in-Some.is ∙ told)) here)

pub returns-in-None-clause-answers : goal.returns-in-None-clause-answers
returns-in-None-clause-answers g c = λ files file bytes e state here loadable loads.
    let r = c.args.store.now in
    let table = c.args.table.now in
    let rows = c.args.rows.items in
    let told = load_told g.D.Disk r c.args.disk.now state table rows c.as_slice.result.now c.frame.result c.load_refusal.result c.frame.ensures c.as_slice.ensures.value here c.load_refusal.ensures (c.frames_are_of_the_state.ensures.load c.args.disk.now r state table (Load.Rows rows) here) in
    c.commit_rows.ensures.answers files file bytes e state here loadable loads (sym told ∙ c.in-None.is)

pub returns-in-Some-clause-named : goal.returns-in-Some-clause-named
returns-in-Some-clause-named g c = memory_named g.D.Disk c.args.store.now c.args.disk.now c.refused.result c.in_memory.result c.in_memory.ensures
