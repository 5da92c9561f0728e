use Rattle.std.proofs.Common.{◌≡◌, ℕ, List, ◌∙◌, filter, sym, ap, subst}
use Rattle.std.specs.Prelude.{Result, Ok, Err}
use Rattle.col_disk.specs.declared.disk.StoreFault.{StoreFault}
use Rattle.col_disk.specs.declared.disk.StoreFault.TheVariants.{Memory}
use Rattle.db_model.specs.Database.{Database}
use Rattle.db_model.specs.Events.{is_not_named}
use Rattle.sound_laws.specs.Moves.{reached_at}
use Rattle.store_commit.specs.Making.{Makes}
use Rattle.store_commit.specs.Seen.{Stands}
use Rattle.table_jobs.specs.Jobs.{DrawsAnew, HasReached, OfProjection}
use Rattle.store_core.specs.Jobs.{RefreshesAt}
use Rattle.store_core.specs.Running.{mover_of, running, Mover, Running}
use Rattle.store_core.proofs.Doing.{does_failed}
use Rattle.store_core.proofs.Found.{of_weaker}
use Rattle.store_core.proofs.Refreshing.{asked_but, refresh_does}
use Rattle.store_core.proofs.Stepping.{at_place, short_job}
use Rattle.store_core.proofs.Named.{still_held}
use Rattle.store_core.proofs.store.Store.refresh_written.Goals as goal

pub returns-in-Err-clause-does : goal.returns-in-Err-clause-does
returns-in-Err-clause-does g c = λ state here has. short_job g.D.Disk c.args.self.now c.args.disk.now state (RefreshesAt c.args.at.table c.args.at.place state) here

pub returns-in-Err-finish_refresh-clause-does : goal.returns-in-Err-finish_refresh-clause-does
returns-in-Err-finish_refresh-clause-does g c = λ state here has.
    let i = c.args.at.table in
    let j = c.args.at.place in
    let mover = c.self.inside.mover in
    let after = mover_of c.in-Ok.asked.items mover.busy mover.refreshing in
    let left =
    of_weaker i j c.self.inside.tables.catalogue (λ p. c.in-Ok.asked.items ≡ filter (is_not_named p.name) c.drop_work.new.self.asked) (λ p. after ≡ asked_but p.name mover)
    (λ p is. ap (λ (xs : List (List ℕ)). mover_of xs mover.busy mover.refreshing) (is ∙ ap (λ (m : Mover). filter (is_not_named p.name) m.asked) c.drop_work.ensures)) c.in-Ok.ensures in
    let there = subst (λ (r : Running). OfProjection i j r.seen.catalogue (λ p. after ≡ asked_but p.name mover)) c.self.view_is left in
    let failed : Result (Unit {0}) StoreFault = Err c.in-Err-finish_refresh.fault in
    let made =
    at_place (λ k l. (d : Database) → Stands g.D.Disk c.self.inside.tables c.args.disk.now d → Makes g.D.Disk Memory c.self.inside.tables c.finish_refresh.new.store c.args.disk.now c.finish_refresh.new.disk failed d (reached_at d.last k l d)) c.args.work.now.table
    c.args.work.now.place i j c.requires.place (λ d stands. c.in-Err-finish_refresh.ensures.made d stands has) in
    does_failed g.D.Disk Memory c.args.self.now (running c.finish_refresh.new.store c.self.inside.txns c.self.inside.current after) _ c.in-Err-finish_refresh.fault state (RefreshesAt i j state)
    (refresh_does g.D.Disk Memory c.self.inside.tables c.finish_refresh.new.store c.self.inside.txns c.self.inside.current mover after c.args.self.now i j failed state c.self.view_is here c.requires.stale there made tt)

pub returns-clause-does : goal.returns-clause-does
returns-clause-does g c = λ state here has.
    let i = c.args.at.table in
    let j = c.args.at.place in
    let mover = c.self.inside.mover in
    let left =
    of_weaker i j c.self.inside.tables.catalogue (λ p. c.in-Ok.asked.items ≡ filter (is_not_named p.name) c.drop_work.new.self.asked) (λ p. c.ask.new.self ≡ asked_but p.name mover)
    (λ p is. c.ask.ensures ∙ ap (λ (m : Mover). mover_of c.in-Ok.asked.items m.busy m.refreshing) c.drop_work.ensures
    ∙ ap (λ (xs : List (List ℕ)). mover_of xs mover.busy mover.refreshing) (is ∙ ap (λ (m : Mover). filter (is_not_named p.name) m.asked) c.drop_work.ensures)) c.in-Ok.ensures in
    let there = subst (λ (r : Running). OfProjection i j r.seen.catalogue (λ p. c.ask.new.self ≡ asked_but p.name mover)) c.self.view_is left in
    let done : Result (Unit {0}) StoreFault = Ok tt in
    let made =
    at_place (λ k l. (d : Database) → Stands g.D.Disk c.self.inside.tables c.args.disk.now d → Makes g.D.Disk Memory c.self.inside.tables c.finish_refresh.new.store c.args.disk.now c.finish_refresh.new.disk done d (reached_at d.last k l d)) c.args.work.now.table
    c.args.work.now.place i j c.requires.place (λ d stands. c.in-Ok-finish_refresh.ensures.made d stands has) in
    let drawn =
    at_place (λ k l. OfProjection k l c.self.inside.tables.catalogue (DrawsAnew k l 2 c.self.inside.tables.catalogue c.finish_refresh.new.store.catalogue)) c.args.work.now.table c.args.work.now.place i j c.requires.place
    c.in-Ok-finish_refresh.ensures.drawn in
    refresh_does g.D.Disk Memory c.self.inside.tables c.finish_refresh.new.store c.self.inside.txns c.self.inside.current mover c.ask.new.self c.args.self.now i j done state c.self.view_is here c.requires.stale there made drawn

pub returns-clause-drawn : goal.returns-clause-drawn
returns-clause-drawn g c =
    let i = c.args.at.table in
    let j = c.args.at.place in
    subst (λ (r : Running). OfProjection i j r.seen.catalogue (DrawsAnew i j 2 r.seen.catalogue c.finish_refresh.new.store.catalogue)) c.self.view_is
    (at_place (λ k l. OfProjection k l c.self.inside.tables.catalogue (DrawsAnew k l 2 c.self.inside.tables.catalogue c.finish_refresh.new.store.catalogue)) c.args.work.now.table c.args.work.now.place i j c.requires.place
    c.in-Ok-finish_refresh.ensures.drawn)

pub returns-clause-reached : goal.returns-clause-reached
returns-clause-reached g c =
    at_place (λ k l. OfProjection k l c.finish_refresh.new.store.catalogue (HasReached c.finish_refresh.new.store.catalogue.last)) c.args.work.now.table c.args.work.now.place c.args.at.table c.args.at.place c.requires.place
    c.in-Ok-finish_refresh.ensures.reached

pub returns-clause-asked : goal.returns-clause-asked
returns-clause-asked g c =
    subst (λ (r : Running). OfProjection c.args.at.table c.args.at.place r.seen.catalogue (λ p. c.ask.new.self.asked ≡ filter (is_not_named p.name) r.mover.asked)) c.self.view_is
    (of_weaker c.args.at.table c.args.at.place c.self.inside.tables.catalogue (λ p. c.in-Ok.asked.items ≡ filter (is_not_named p.name) c.drop_work.new.self.asked) (λ p. c.ask.new.self.asked ≡ filter (is_not_named p.name) c.self.inside.mover.asked)
    (λ p is. ap (λ (m : Mover). m.asked) c.ask.ensures ∙ is ∙ ap (λ (m : Mover). filter (is_not_named p.name) m.asked) c.drop_work.ensures) c.in-Ok.ensures)

pub returns-in-Err-finish_refresh-clause-unblamed : goal.returns-in-Err-finish_refresh-clause-unblamed
returns-in-Err-finish_refresh-clause-unblamed g c = λ state here has.
    c.in-Err-finish_refresh.ensures.unblamed state.database (subst (λ (r : Running). Stands g.D.Disk r.seen c.args.disk.now state.database) (sym c.self.view_is) here.database) has

pub returns-in-Err-finish_refresh-clause-named : goal.returns-in-Err-finish_refresh-clause-named
returns-in-Err-finish_refresh-clause-named g c =
    still_held g.D.Disk c.self.inside.tables (running c.finish_refresh.new.store c.self.inside.txns c.self.inside.current c.self.inside.mover) c.finish_refresh.new.disk c.in-Err-finish_refresh.fault c.in-Err-finish_refresh.ensures.named c.in-Err-finish_refresh.ensures.same
