use Rattle.std.proofs.Common.{◌≡◌, None, refl, sym, rules, arith}
use Rattle.db_model.specs.Epochs.{last_good}
use Rattle.sql_tree.specs.declared.statement.Function.{Function}
use Rattle.sql_tree.specs.declared.statement.Statement.{Statement}
use Rattle.statement_plan.specs.Planned.{early_call_refusal}
use Rattle.store_step.proofs.Answered.{memory_answers, same_answers}
use Rattle.store_step.proofs.Named.{memory_named}
use Rattle.store_step.proofs.Works.{no_work, same_works}
use Rattle.store_step.proofs.stepping.call.Goals as goal

pub returns-in-Lge-clause-answers : goal.returns-in-Lge-clause-answers
returns-in-Lge-clause-answers g c = λ files state here free.
    let is : Statement.Call c.args.function.now ≡ Statement.Call Function.Lge = search rules in
    memory_answers g.D.Disk files _ (Statement.Call Function.Lge) c.args.store.now c.args.disk.now c.last_good_epoch.result c.in_memory.result state is c.in_memory.ensures here.sound.database (c.every_image_reopens.ensures c.args.store.now.seen.catalogue c.args.store.now.seen.stores c.args.disk.now state.database here.database) (c.last_good_epoch.ensures files c.args.disk.now state here)

pub returns-in-Ahm-clause-answers : goal.returns-in-Ahm-clause-answers
returns-in-Ahm-clause-answers g c = λ files state here free.
    let is : Statement.Call c.args.function.now ≡ Statement.Call Function.Ahm = search rules in
    memory_answers g.D.Disk files _ (Statement.Call Function.Ahm) c.args.store.now c.args.disk.now c.ahm_epoch.result c.in_memory-in-Ahm.result state is c.in_memory-in-Ahm.ensures here.sound.database (c.every_image_reopens.ensures c.args.store.now.seen.catalogue c.args.store.now.seen.stores c.args.disk.now state.database here.database) (c.ahm_epoch.ensures files c.args.disk.now state here)

pub returns-in-Current-clause-answers : goal.returns-in-Current-clause-answers
returns-in-Current-clause-answers g c = λ files state here free.
    let is : Statement.Call c.args.function.now ≡ Statement.Call Function.Current = search rules in
    memory_answers g.D.Disk files _ (Statement.Call Function.Current) c.args.store.now c.args.disk.now c.current_epoch.result c.in_memory-in-Current.result state is c.in_memory-in-Current.ensures here.sound.database (c.every_image_reopens.ensures c.args.store.now.seen.catalogue c.args.store.now.seen.stores c.args.disk.now state.database here.database) (c.current_epoch.ensures files c.args.disk.now state here)

pub returns-in-Moveout-clause-answers : goal.returns-in-Moveout-clause-answers
returns-in-Moveout-clause-answers g c = λ files state here free.
    let is : Statement.Call c.args.function.now ≡ Statement.Call Function.Moveout = search rules in
    same_answers g.D.Disk files _ (Statement.Call Function.Moveout) c.moveout.new.store c.moveout.result state is (c.moveout.ensures.answers files state here)

pub returns-in-Mergeout-clause-answers : goal.returns-in-Mergeout-clause-answers
returns-in-Mergeout-clause-answers g c = λ files state here free.
    let is : Statement.Call c.args.function.now ≡ Statement.Call Function.Mergeout = search rules in
    same_answers g.D.Disk files _ (Statement.Call Function.Mergeout) c.mergeout.new.store c.mergeout.result state is (c.mergeout.ensures.answers files state here)

pub returns-in-MakeAhmNow-clause-answers : goal.returns-in-MakeAhmNow-clause-answers
returns-in-MakeAhmNow-clause-answers g c = λ files state here free.
    let is : Statement.Call c.args.function.now ≡ Statement.Call Function.MakeAhmNow = search rules in
    let refuses : early_call_refusal state Function.MakeAhmNow ≡ None = search (rules, free) in
    let good = c.last_good_is_reached.ensures here.database.files c.args.store.now.seen.catalogue c.args.store.now.seen.stores state.database here.database.are in
    let is_good : c.from-mark.result ≡ last_good state.database = omega (arith, c.from-mark.ensures, c.last_good.ensures, good) in
    same_answers g.D.Disk files _ (Statement.Call Function.MakeAhmNow) c.set_mark.new.store c.set_mark.result state is
    (c.set_mark.ensures.answers files state Function.MakeAhmNow here is_good (sym refuses))

pub returns-in-SetAhm-clause-answers : goal.returns-in-SetAhm-clause-answers
returns-in-SetAhm-clause-answers g c = λ files state here free.
    let n = c.in-SetAhm.mark in
    let is : Statement.Call c.args.function.now ≡ Statement.Call (Function.SetAhm n) = search rules in
    let refuses : early_call_refusal state (Function.SetAhm n) ≡ None = search (rules, free) in
    same_answers g.D.Disk files _ (Statement.Call (Function.SetAhm n)) c.set_mark-in-SetAhm.new.store c.set_mark-in-SetAhm.result state is
    (c.set_mark-in-SetAhm.ensures.answers files state (Function.SetAhm n) here refl (sym refuses))

pub returns-in-StartRefresh-clause-answers : goal.returns-in-StartRefresh-clause-answers
returns-in-StartRefresh-clause-answers g c = λ files state here free.
    let is : Statement.Call c.args.function.now ≡ Statement.Call Function.StartRefresh = search rules in
    memory_answers g.D.Disk files _ (Statement.Call Function.StartRefresh) c.start_refresh.new.store c.args.disk.now c.start_refresh.result c.in_memory-in-StartRefresh.result state is c.in_memory-in-StartRefresh.ensures here.sound.database (c.every_image_reopens.ensures c.args.store.now.seen.catalogue c.args.store.now.seen.stores c.args.disk.now state.database here.database) (c.start_refresh.ensures files c.args.disk.now state here)

pub returns-in-Lge-clause-named : goal.returns-in-Lge-clause-named
returns-in-Lge-clause-named g c = memory_named g.D.Disk c.args.store.now c.args.disk.now c.last_good_epoch.result c.in_memory.result c.in_memory.ensures

pub returns-in-Ahm-clause-named : goal.returns-in-Ahm-clause-named
returns-in-Ahm-clause-named g c = memory_named g.D.Disk c.args.store.now c.args.disk.now c.ahm_epoch.result c.in_memory-in-Ahm.result c.in_memory-in-Ahm.ensures

pub returns-in-Current-clause-named : goal.returns-in-Current-clause-named
returns-in-Current-clause-named g c = memory_named g.D.Disk c.args.store.now c.args.disk.now c.current_epoch.result c.in_memory-in-Current.result c.in_memory-in-Current.ensures

pub returns-in-StartRefresh-clause-named : goal.returns-in-StartRefresh-clause-named
returns-in-StartRefresh-clause-named g c = memory_named g.D.Disk c.start_refresh.new.store c.args.disk.now c.start_refresh.result c.in_memory-in-StartRefresh.result c.in_memory-in-StartRefresh.ensures

pub returns-in-Lge-clause-works : goal.returns-in-Lge-clause-works
returns-in-Lge-clause-works g c =
    let is : Statement.Call c.args.function.now ≡ Statement.Call Function.Lge = search rules in
    no_work g.D.Disk c.args.store.now c.args.store.now c.args.disk.now _ (Statement.Call Function.Lge) c.in_memory.result is tt

pub returns-in-Ahm-clause-works : goal.returns-in-Ahm-clause-works
returns-in-Ahm-clause-works g c =
    let is : Statement.Call c.args.function.now ≡ Statement.Call Function.Ahm = search rules in
    no_work g.D.Disk c.args.store.now c.args.store.now c.args.disk.now _ (Statement.Call Function.Ahm) c.in_memory-in-Ahm.result is tt

pub returns-in-Current-clause-works : goal.returns-in-Current-clause-works
returns-in-Current-clause-works g c =
    let is : Statement.Call c.args.function.now ≡ Statement.Call Function.Current = search rules in
    no_work g.D.Disk c.args.store.now c.args.store.now c.args.disk.now _ (Statement.Call Function.Current) c.in_memory-in-Current.result is tt

pub returns-in-MakeAhmNow-clause-works : goal.returns-in-MakeAhmNow-clause-works
returns-in-MakeAhmNow-clause-works g c =
    let is : Statement.Call c.args.function.now ≡ Statement.Call Function.MakeAhmNow = search rules in
    no_work g.D.Disk c.args.store.now c.set_mark.new.store c.args.disk.now _ (Statement.Call Function.MakeAhmNow) c.set_mark.result is tt

pub returns-in-SetAhm-clause-works : goal.returns-in-SetAhm-clause-works
returns-in-SetAhm-clause-works g c =
    let is : Statement.Call c.args.function.now ≡ Statement.Call (Function.SetAhm c.in-SetAhm.mark) = search rules in
    no_work g.D.Disk c.args.store.now c.set_mark-in-SetAhm.new.store c.args.disk.now _ (Statement.Call (Function.SetAhm c.in-SetAhm.mark)) c.set_mark-in-SetAhm.result is tt

pub returns-in-Moveout-clause-works : goal.returns-in-Moveout-clause-works
returns-in-Moveout-clause-works g c =
    let is : Statement.Call c.args.function.now ≡ Statement.Call Function.Moveout = search rules in
    no_work g.D.Disk c.args.store.now c.moveout.new.store c.args.disk.now _ (Statement.Call Function.Moveout) c.moveout.result is tt

pub returns-in-StartRefresh-clause-works : goal.returns-in-StartRefresh-clause-works
returns-in-StartRefresh-clause-works g c =
    let is : Statement.Call c.args.function.now ≡ Statement.Call Function.StartRefresh = search rules in
    no_work g.D.Disk c.args.store.now c.start_refresh.new.store c.args.disk.now _ (Statement.Call Function.StartRefresh) c.in_memory-in-StartRefresh.result is tt

pub returns-in-Mergeout-clause-works : goal.returns-in-Mergeout-clause-works
returns-in-Mergeout-clause-works g c =
    let is : Statement.Call c.args.function.now ≡ Statement.Call Function.Mergeout = search rules in
    same_works g.D.Disk c.args.store.now c.mergeout.new.store c.args.disk.now _ (Statement.Call Function.Mergeout) c.mergeout.result is c.mergeout.ensures.works
