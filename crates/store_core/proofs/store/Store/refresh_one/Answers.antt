use Rattle.std.proofs.Common.{◌≡◌, ℕ, List, ◌∙◌, filter, sym, ap, subst}
use Rattle.std.specs.Prelude.{Ok, Err}
use Rattle.col_disk.specs.declared.disk.StoreFault.TheVariants.{Memory}
use Rattle.db_model.specs.Events.{is_not_named}
use Rattle.store_commit.specs.Seen.{Stands}
use Rattle.table_jobs.specs.Jobs.{DrawsAnew, OfProjection}
use Rattle.store_core.specs.Jobs.{RefreshesAt}
use Rattle.store_core.specs.Running.{mover_of, running, Mover, Running}
use Rattle.store_core.proofs.Doing.{does_failed}
use Rattle.store_core.proofs.Found.{of_weaker}
use Rattle.store_core.proofs.Refreshing.{asked_but, refresh_does}
use Rattle.store_core.proofs.Stepping.{short_job}
use Rattle.store_core.proofs.Named.{still_held}
use Rattle.store_core.proofs.store.Store.refresh_one.Goals as goal

pub returns-in-Err-clause-does : goal.returns-in-Err-clause-does
returns-in-Err-clause-does g c = λ state here. short_job g.D.Disk c.args.self.now c.args.disk.now state (RefreshesAt c.args.table c.args.place state) here

pub returns-in-Err-refresh-clause-does : goal.returns-in-Err-refresh-clause-does
returns-in-Err-refresh-clause-does g c = λ state here.
    let i = c.args.table in
    let j = c.args.place in
    let mover = c.self.inside.mover in
    let after = mover_of c.in-Ok.asked.items mover.busy mover.refreshing in
    let left =
    of_weaker i j c.self.inside.tables.catalogue (λ p. c.in-Ok.asked.items ≡ filter (is_not_named p.name) c.drop_work.new.self.asked) (λ p. after ≡ asked_but p.name mover)
    (λ p is. ap (λ (xs : List (List ℕ)). mover_of xs mover.busy mover.refreshing) (is ∙ ap (λ (m : Mover). filter (is_not_named p.name) m.asked) c.drop_work.ensures)) c.in-Ok.ensures in
    let there = subst (λ (r : Running). OfProjection i j r.seen.catalogue (λ p. after ≡ asked_but p.name mover)) c.self.view_is left in
    does_failed g.D.Disk Memory c.args.self.now (running c.refresh.new.store c.self.inside.txns c.self.inside.current after) _ c.in-Err-refresh.fault state (RefreshesAt i j state)
    (refresh_does g.D.Disk Memory c.self.inside.tables c.refresh.new.store c.self.inside.txns c.self.inside.current mover after c.args.self.now i j (Err c.in-Err-refresh.fault) state c.self.view_is here c.requires there
    c.in-Err-refresh.ensures.made c.in-Err-refresh.ensures.drawn)

pub returns-clause-does : goal.returns-clause-does
returns-clause-does g c = λ state here.
    let i = c.args.table in
    let j = c.args.place in
    let mover = c.self.inside.mover in
    let left =
    of_weaker i j c.self.inside.tables.catalogue (λ p. c.in-Ok.asked.items ≡ filter (is_not_named p.name) c.drop_work.new.self.asked) (λ p. c.ask.new.self ≡ asked_but p.name mover)
    (λ p is. c.ask.ensures ∙ ap (λ (m : Mover). mover_of c.in-Ok.asked.items m.busy m.refreshing) c.drop_work.ensures
    ∙ ap (λ (xs : List (List ℕ)). mover_of xs mover.busy mover.refreshing) (is ∙ ap (λ (m : Mover). filter (is_not_named p.name) m.asked) c.drop_work.ensures)) c.in-Ok.ensures in
    let there = subst (λ (r : Running). OfProjection i j r.seen.catalogue (λ p. c.ask.new.self ≡ asked_but p.name mover)) c.self.view_is left in
    refresh_does g.D.Disk Memory c.self.inside.tables c.refresh.new.store c.self.inside.txns c.self.inside.current mover c.ask.new.self c.args.self.now i j (Ok tt) state c.self.view_is here c.requires there
    c.in-Ok-refresh.ensures.made c.in-Ok-refresh.ensures.drawn

pub returns-clause-drawn : goal.returns-clause-drawn
returns-clause-drawn g c =
    let i = c.args.table in
    let j = c.args.place in
    subst (λ (r : Running). OfProjection i j r.seen.catalogue (DrawsAnew i j 2 r.seen.catalogue c.refresh.new.store.catalogue)) c.self.view_is c.in-Ok-refresh.ensures.drawn

pub returns-clause-asked : goal.returns-clause-asked
returns-clause-asked g c =
    subst (λ (r : Running). OfProjection c.args.table c.args.place r.seen.catalogue (λ p. c.ask.new.self.asked ≡ filter (is_not_named p.name) r.mover.asked)) c.self.view_is
    (of_weaker c.args.table c.args.place c.self.inside.tables.catalogue (λ p. c.in-Ok.asked.items ≡ filter (is_not_named p.name) c.drop_work.new.self.asked) (λ p. c.ask.new.self.asked ≡ filter (is_not_named p.name) c.self.inside.mover.asked)
    (λ p is. ap (λ (m : Mover). m.asked) c.ask.ensures ∙ is ∙ ap (λ (m : Mover). filter (is_not_named p.name) m.asked) c.drop_work.ensures) c.in-Ok.ensures)

pub returns-in-Err-refresh-clause-unblamed : goal.returns-in-Err-refresh-clause-unblamed
returns-in-Err-refresh-clause-unblamed g c = λ state here.
    c.in-Err-refresh.ensures.unblamed state.database (subst (λ (r : Running). Stands g.D.Disk r.seen c.args.disk.now state.database) (sym c.self.view_is) here.database)

pub returns-in-Err-refresh-clause-named : goal.returns-in-Err-refresh-clause-named
returns-in-Err-refresh-clause-named g c =
    still_held g.D.Disk c.self.inside.tables (running c.refresh.new.store c.self.inside.txns c.self.inside.current c.self.inside.mover) c.refresh.new.disk c.in-Err-refresh.fault c.in-Err-refresh.ensures.named c.in-Err-refresh.ensures.same
