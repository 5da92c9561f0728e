use Rattle.std.proofs.Common.{List, subst, sym}
use Rattle.col_disk.specs.Moved.{Leaves}
use Rattle.db_model.specs.Database.{Database}
use Rattle.db_model.specs.State.{State}
use Rattle.store_core.specs.Running.{IsState}
use Rattle.catch_tables.specs.Told.{History}
use Rattle.buddy_link.specs.Linked.{Linked}
use Rattle.buddy_link.specs.Linking.{MayReplay, Replays, ReopensBehindOrCaught}
use Rattle.buddy_link.proofs.link.Link.historical.Goals as goal

pub returns-clause-replays : goal.returns-clause-replays
returns-clause-replays g c =
    subst
    (λ (link : Linked). (a : State) (b : Database) → IsState g.A.Disk c.args.behind.now c.args.at.now a → MayReplay link.mark link.e link.f link.tables a b → Replays g.A.Disk link.mark link.f c.replay.new.behind c.replay.new.at c.replay.result a b)
    c.self.view_is
    (λ a b here may. c.replay.ensures.replays c.self.inside.mark a b here (subst (λ (hs : List History). MayReplay c.self.inside.mark c.self.inside.e c.self.inside.f hs a b) (sym c.as_slice.ensures.value) may))

pub returns-clause-any_moment : goal.returns-clause-any_moment
returns-clause-any_moment g c =
    subst
    (λ (link : Linked). (a : State) (b : Database) → IsState g.A.Disk c.args.behind.now c.args.at.now a → MayReplay link.mark link.e link.f link.tables a b → Leaves g.A.Disk (ReopensBehindOrCaught link.mark a b) c.args.at.now c.replay.new.at)
    c.self.view_is
    (λ a b here may. c.replay.ensures.any_moment c.self.inside.mark a b here (subst (λ (hs : List History). MayReplay c.self.inside.mark c.self.inside.e c.self.inside.f hs a b) (sym c.as_slice.ensures.value) may))
