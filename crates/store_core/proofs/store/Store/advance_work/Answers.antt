use Rattle.std.proofs.Common.{ap, sym, subst}
use Rattle.store_commit.specs.Seen.{Stands}
use Rattle.store_core.specs.Running.{Running}
use Rattle.table_jobs.specs.Working.{StaysWhile}
use Rattle.store_core.proofs.WorkSteps.{column_written, stays_still, still_column, work_advanced}
use Rattle.store_core.proofs.store.Store.advance_work.Goals as goal

pub returns-then-not-is_of-clause-stays : goal.returns-then-not-is_of-clause-stays
returns-then-not-is_of-clause-stays g c = λ d stands. stays_still g.D.Disk c.args.self.now.seen c.args.disk.now d stands

pub returns-then-not-is_of-clause-column : goal.returns-then-not-is_of-clause-column
returns-then-not-is_of-clause-column g c = still_column g.D.Disk c.args.self.now c.args.disk.now

pub returns-in-Ok-clause-goes_on : goal.returns-in-Ok-clause-goes_on
returns-in-Ok-clause-goes_on g c = λ was m told. work_advanced g.D.Disk c.args.work c.advance_work.new.work c.args.disk.now c.advance_work.new.disk c.advance_work.ensures.moved.1 c.in-Ok.ensures.goes_on was m told

pub returns-in-Ok-clause-stays : goal.returns-in-Ok-clause-stays
returns-in-Ok-clause-stays g c = λ d stands. subst (λ (r : Running). StaysWhile g.D.Disk r.seen c.args.disk.now c.advance_work.new.disk d) c.self.view_is (c.advance_work.ensures.stays d (subst (λ (r : Running). Stands g.D.Disk r.seen c.args.disk.now d) (sym c.self.view_is) stands))

pub returns-in-Ok-clause-column : goal.returns-in-Ok-clause-column
returns-in-Ok-clause-column g c = column_written g.D.Disk c.args.self.now c.self.inside.tables c.args.disk.now c.advance_work.new.disk (ap (λ (r : Running). r.seen) c.self.view_is) c.advance_work.ensures.moved

pub returns-in-Err-Memory-clause-stays : goal.returns-in-Err-Memory-clause-stays
returns-in-Err-Memory-clause-stays g c = λ d stands. subst (λ (r : Running). StaysWhile g.D.Disk r.seen c.args.disk.now c.advance_work.new.disk d) c.self.view_is (c.advance_work.ensures.stays d (subst (λ (r : Running). Stands g.D.Disk r.seen c.args.disk.now d) (sym c.self.view_is) stands))

pub returns-in-Err-Memory-clause-column : goal.returns-in-Err-Memory-clause-column
returns-in-Err-Memory-clause-column g c = column_written g.D.Disk c.args.self.now c.self.inside.tables c.args.disk.now c.advance_work.new.disk (ap (λ (r : Running). r.seen) c.self.view_is) c.advance_work.ensures.moved

pub returns-clause-stays : goal.returns-clause-stays
returns-clause-stays g c = λ d stands. subst (λ (r : Running). StaysWhile g.D.Disk r.seen c.args.disk.now c.advance_work.new.disk d) c.self.view_is (c.advance_work.ensures.stays d (subst (λ (r : Running). Stands g.D.Disk r.seen c.args.disk.now d) (sym c.self.view_is) stands))

pub returns-clause-column : goal.returns-clause-column
returns-clause-column g c = column_written g.D.Disk c.args.self.now c.self.inside.tables c.args.disk.now c.advance_work.new.disk (ap (λ (r : Running). r.seen) c.self.view_is) c.advance_work.ensures.moved
