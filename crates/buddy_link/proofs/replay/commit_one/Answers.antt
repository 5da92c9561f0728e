use Rattle.std.proofs.Common.{◌≡◌, ◌∙◌, ℕ, [], true, arith, ap, subst, sym}
use Rattle.catch_model.specs.Added.{has_change}
use Rattle.catch_model.specs.declared.fault.LinkFault.{LinkFault}
use Rattle.store_core.specs.Running.{Running}
use Rattle.store_core.specs.Sessions.{with_own}
use Rattle.catch_rows.specs.Sharing.{behind_fault}
use Rattle.buddy_link.specs.Replaying.{all_pended, Comes}
use Rattle.buddy_link.proofs.Coming.{comes_committed, comes_failed, comes_unpended, memory, replay_failed, replayed_ok}
use Rattle.buddy_link.proofs.Pended.{whole_pended, IsPended}
use Rattle.buddy_link.proofs.replay.commit_one.Goals as goal

pub returns-in-Err-clause-comes : goal.returns-in-Err-clause-comes
returns-in-Err-clause-comes g c = λ mark after n start b s epoch le setting some at here.
    subst (λ (k : ℕ). Comes g.A.Disk mark start b n k c.roll_back.new.self c.args.at.now c.args.at.now memory) (sym epoch)
    (comes_unpended g.A.Disk c.args.at.now c.rollbacks_stand.ensures mark n start b c.args.behind.now c.roll_back.new.self s setting.good here at (c.roll_back.ensures ∙ c.pend_all.ensures.dropped))

pub returns-in-Ok-commit-clause-comes : goal.returns-in-Ok-commit-clause-comes
returns-in-Ok-commit-clause-comes g c = λ mark after n start b s epoch le setting some at here.
    let pended : IsPended g.A.Disk mark start b n b.tables c.pend_all.new.behind c.args.at.now =
    subst (λ (r : Running). IsPended g.A.Disk mark start b n b.tables r c.args.at.now) (sym (c.in-Ok.ensures.pends ∙ ap (λ (k : ℕ). all_pended k c.args.tables.now c.args.behind.now) epoch))
    (whole_pended g.A.Disk c.args.at.now (c.given_changes_stand.ensures c.args.at.now) mark after n start b c.args.tables.now c.args.behind.now s le setting.sound setting.ordered here at) in
    let below = setting.mark_below in
    subst (λ (k : ℕ). Comes g.A.Disk mark start b n k c.commit.new.self c.args.at.now c.commit.new.disk replayed_ok) (sym epoch)
    (comes_committed g.A.Disk c.args.at.now c.commit.new.disk mark n start b c.pend_all.new.behind c.commit.new.self setting.good setting.sound (omega (arith, le, below)) (subst (λ (k : ℕ). has_change b k ≡ true) epoch some) pended c.in-Ok-commit.ensures.does)

pub returns-in-Err-commit-clause-comes : goal.returns-in-Err-commit-clause-comes
returns-in-Err-commit-clause-comes g c = λ mark after n start b s epoch le setting some at here.
    let pended : IsPended g.A.Disk mark start b n b.tables c.pend_all.new.behind c.args.at.now =
    subst (λ (r : Running). IsPended g.A.Disk mark start b n b.tables r c.args.at.now) (sym (c.in-Ok.ensures.pends ∙ ap (λ (k : ℕ). all_pended k c.args.tables.now c.args.behind.now) epoch))
    (whole_pended g.A.Disk c.args.at.now (c.given_changes_stand.ensures c.args.at.now) mark after n start b c.args.tables.now c.args.behind.now s le setting.sound setting.ordered here at) in
    let below = setting.mark_below in
    subst (λ (f : LinkFault). Comes g.A.Disk mark start b n c.args.epoch c.roll_back-in-Err-commit.new.self c.args.at.now c.commit.new.disk (replay_failed f)) (sym c.behind_fault.ensures)
    (subst (λ (k : ℕ). Comes g.A.Disk mark start b n k c.roll_back-in-Err-commit.new.self c.args.at.now c.commit.new.disk (replay_failed (behind_fault c.in-Err-commit.fault))) (sym epoch)
    (comes_failed g.A.Disk c.args.at.now c.commit.new.disk c.rollbacks_stand.ensures mark n start b c.pend_all.new.behind c.commit.new.self c.roll_back-in-Err-commit.new.self c.in-Err-commit.fault setting.good setting.sound (omega (arith, le, below)) (subst (λ (k : ℕ). has_change b k ≡ true) epoch some) pended
    c.in-Err-commit.ensures.does c.in-Err-commit.ensures.unblamed (c.roll_back-in-Err-commit.ensures ∙ ap (with_own []) c.in-Err-commit.ensures.same)))
