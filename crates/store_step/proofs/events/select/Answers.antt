use Rattle.std.proofs.lemmas.Result.{IfErr-weaker, IfOk-weaker, on_ok_weaker}
use Rattle.col_disk.proofs.Moving.{moved_still}
use Rattle.store_step.proofs.Doing.{asked_in, select_answers, stays_state}
use Rattle.db_model.specs.Answers.{listing_text}
use Rattle.store_step.specs.Texts.{Says}
use Rattle.store_step.proofs.Named.{selected_named}
use Rattle.store_step.proofs.events.select.Goals as goal

pub returns-clause-answers : goal.returns-clause-answers
returns-clause-answers g c = λ files state here bound accepted.
    let r = c.args.store.now in
    let q = c.args.query.now in
    let asked = asked_in state c.args.at q c.args.bound.now bound accepted in
    let moved = moved_still g.D.Disk c.select.ensures.moved in
    let stands = c.other_files_move.ensures c.args.disk.now c.select.new.disk r.seen.catalogue r.seen.stores state.database here.database moved in
    let leaves = c.moving_files_reopen.ensures c.args.disk.now c.select.new.disk r.seen.catalogue r.seen.stores state.database here.database moved in
    select_answers g.D.Disk r (λ v. v.items) c.select.result c.selected.result state files c.args.at q accepted here.sound.database (stays_state g.D.Disk r c.args.disk.now c.select.new.disk state here stands c.select.ensures.kept) leaves
    (IfOk-weaker c.select.result _ _ (λ v listed. listed state q here asked) c.select.ensures.listed) (on_ok_weaker c.select.result (λ small. small state q here asked) c.select.ensures.in_range) (λ is. c.select.ensures.great is state q here asked)
    (IfErr-weaker c.select.result _ _ (λ fault none. none state q here asked) c.select.ensures.unblamed) c.selected.ensures.rows c.selected.ensures.fault

pub returns-clause-named : goal.returns-clause-named
returns-clause-named g c = selected_named g.D.Disk c.args.store.now c.select.new.disk (λ v a. Says (listing_text v.items) a) c.select.result c.selected.result c.selected.ensures.rows c.selected.ensures.fault c.select.ensures.named
