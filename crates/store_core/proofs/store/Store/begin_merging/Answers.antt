use Rattle.std.proofs.Common.{◌∙◌, sym, subst}
use Rattle.col_disk.proofs.Moving.{moved_none}
use Rattle.store_commit.specs.Seen.{Stands}
use Rattle.store_core.specs.Running.{Running}
use Rattle.store_core.proofs.store.Store.begin_merging.Goals as goal

pub returns-in-None-clause-moved : goal.returns-in-None-clause-moved
returns-in-None-clause-moved g c = moved_none g.D.Disk c.args.disk.now

pub returns-then-not-has_all_steps-clause-moved : goal.returns-then-not-has_all_steps-clause-moved
returns-then-not-has_all_steps-clause-moved g c = moved_none g.D.Disk c.args.disk.now

pub returns-in-Ok-clause-begun : goal.returns-in-Ok-clause-begun
returns-in-Ok-clause-begun g c = λ state here m told.
    c.in-Ok.ensures.begun state.database m (subst (λ (r : Running). Stands g.D.Disk r.seen c.args.disk.now state.database) (sym c.self.view_is) here.database) (sym c.begin_merge.ensures.kept ∙ told)
