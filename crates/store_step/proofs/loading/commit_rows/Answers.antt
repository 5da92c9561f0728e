use Rattle.std.proofs.Common.{◌≡◌, ◌||◌, ◌∙◌, not, ℕ, List, length, ap, ap₂, subst, sym}
use Rattle.std.specs.Prelude.{Result, IfErr}
use Rattle.std.specs.List.{All}
use Rattle.std.proofs.lemmas.Result.{IfErr-weaker}
use Rattle.col_disk.specs.declared.disk.StoreFault.{StoreFault}
use Rattle.col_disk.specs.declared.disk.StoreFault.TheVariants.{Memory}
use Rattle.col_value.specs.declared.value.Value.{Value}
use Rattle.sql_tree.specs.declared.statement.Statement.{Statement}
use Rattle.db_model.specs.Events.{rows_loaded, rows_pending}
use Rattle.db_model.specs.Printing.{copy_text}
use Rattle.db_model.specs.Sound.{IsSound, RowFits}
use Rattle.db_model.specs.State.{has_changes, is_empty}
use Rattle.col_disk.specs.Faults.{IsUnblamed}
use Rattle.store_core.specs.Sessions.{own_of}
use Rattle.store_step.specs.declared.answer.Answer.{Answer}
use Rattle.store_step.specs.Arms.{Answers}
use Rattle.store_step.specs.Texts.{Says}
use Rattle.store_step.proofs.Answered.{event_answers, unmade}
use Rattle.store_step.proofs.Copied.{copy_says, loaded_event, made_text, named}
use Rattle.store_step.proofs.Doing.{store_short, store_unblamed}
use Rattle.store_step.proofs.Named.{store_named}
use Rattle.store_step.proofs.loading.commit_rows.Goals as goal

pub returns-in-Err-clause-answers : goal.returns-in-Err-clause-answers
returns-in-Err-clause-answers g c = λ files file bytes e state here loadable loads accepted.
    unmade g.D.Disk files _ c.args.store.now c.args.disk.now state here (c.every_image_reopens.ensures c.args.store.now.seen.catalogue c.args.store.now.seen.stores c.args.disk.now state.database here.database)

pub returns-clause-answers : goal.returns-clause-answers
returns-clause-answers g c = λ files file bytes e state here loadable loads accepted.
    let r = c.args.store.now in
    let table = c.args.table.now in
    let rows = c.args.rows.items in
    let s = Statement.Copy table file in
    let there = named table state.database.tables e loadable.found in
    let fit : All (RowFits e.1.columns) rows = c.loaded_rows_fit.ensures.fit e.1.columns bytes rows loads in
    let pending : IsSound (rows_pending table rows state) = c.pending_rows_are_sound.ensures state table rows e.1 there fit loadable.free here.sound in
    let loaded : IsSound (rows_loaded table rows state) = c.commits_of_a_session_are_sound.ensures (rows_pending table rows state) pending in
    let told : Says (made_text (length rows) r.seen.catalogue.last c.closes-commits.result) c.printed.result = record {
      text = c.printed.ensures.text ∙ c.in-Ok.ensures ∙ ap₂ (λ (n last : ℕ). made_text n last c.closes-commits.result) (ap (λ (rs : List (List Value)). length rs) c.as_slice-loaded.ensures.value) c.last.ensures;
      accepted = c.printed.ensures.accepted;
    } in
    let commits = c.closes-commits.ensures ∙ ap (λ (rs : List (List Value)). not (is_empty rs) || has_changes (own_of r)) c.as_slice-loaded.ensures.value in
    let unblamed : IfErr c.load.result IsUnblamed = IfErr-weaker c.load.result _ _ (λ fault none. none state here) c.load.ensures.unblamed in
    subst (λ (o : Result Answer StoreFault). Answers g.D.Disk files s c.load.new.self c.args.disk.now c.load.new.disk o state) (sym c.in_store.ensures)
    (event_answers g.D.Disk Memory (λ fault. fault) r c.load.new.self c.load.result c.printed.result state files s (copy_text (rows_pending table rows state) (length rows)) (λ new. new ≡ rows_loaded table rows state) here
    (copy_says g.D.Disk r c.args.disk.now state c.printed.result table rows c.closes-commits.result here commits told) (loaded_event state files table file bytes e rows loadable loads accepted here.sound loaded)
    store_short (store_unblamed c.load.result unblamed) c.load.ensures.same (c.load.ensures.does state e.1 here there fit loadable.free))

pub returns-clause-named : goal.returns-clause-named
returns-clause-named g c = store_named g.D.Disk c.load.new.self c.load.new.disk c.printed.result c.load.result c.in_store.result c.in_store.ensures c.load.ensures.named
