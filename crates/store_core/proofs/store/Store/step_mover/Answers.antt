use Rattle.std.proofs.Common.{◌≡◌, ◌<◌, ℕ, false, sym, ◌∙◌, ap, subst, arith}
use Rattle.std.specs.Prelude.{IfErr}
use Rattle.std.proofs.lemmas.Bool.Decides.{nat_tests}
use Rattle.std.proofs.lemmas.Result.{IfErr-weaker}
use Rattle.col_disk.specs.Faults.{IsUnblamed}
use Rattle.db_model.specs.Numbers.{are_spent}
use Rattle.store_core.specs.Running.{Running}
use Rattle.store_core.proofs.Stepping.{last_step, spent_step}
use Rattle.store_core.proofs.WorkSteps.{still_column}
use Rattle.store_core.proofs.Worked.{spent_same}
use Rattle.store_core.proofs.store.Store.step_mover.Goals as goal

pub returns-then-are_spent-clause-steps : goal.returns-then-are_spent-clause-steps
returns-then-are_spent-clause-steps g c = λ state here.
    spent_step g.D.Disk c.args.self.now c.args.disk.now state here (spent_same g.D.Disk c.args.self.now c.args.disk.now state c.are_spent.result here c.are_spent.ensures ∙ c.if-are_spent.true)

pub returns-then-busy-eq1-clause-steps : goal.returns-then-busy-eq1-clause-steps
returns-then-busy-eq1-clause-steps g c = λ state here.
    let free : are_spent state ≡ false = spent_same g.D.Disk c.args.self.now c.args.disk.now state c.are_spent.result here c.are_spent.ensures ∙ c.if-are_spent.false in
    let one : c.busy-busy.result ≡ 1 = grind (arith, nat_tests, c.if-busy-eq1.true) in
    let last = here.busy ∙ ap (λ (r : Running). r.mover.busy) (sym c.self.view_is) ∙ sym c.busy-busy.ensures ∙ one in
    let unblamed : IfErr c.finish.result IsUnblamed = IfErr-weaker c.finish.result _ _ (λ fault none. none state here) c.finish.ensures.unblamed in
    last_step g.D.Disk c.args.self.now c.finish.new.self c.finish.result state free last unblamed (c.finish.ensures.does state here) c.finish.ensures.same

pub returns-then-are_spent-clause-works : goal.returns-then-are_spent-clause-works
returns-then-are_spent-clause-works g c = λ busy. still_column g.D.Disk c.args.self.now c.args.disk.now

pub returns-clause-steps : goal.returns-clause-steps
returns-clause-steps g c = λ state here.
    let free : are_spent state ≡ false = spent_same g.D.Disk c.args.self.now c.args.disk.now state c.are_spent.result here c.are_spent.ensures ∙ c.if-are_spent.false in
    let some : 1 < c.busy-busy.result = grind (arith, nat_tests, c.if-busy-eq0.false, c.if-busy-eq1.false) in
    let more : 1 < c.args.self.now.mover.busy = subst (λ (n : ℕ). 1 < n) (c.busy-busy.ensures ∙ ap (λ (r : Running). r.mover.busy) c.self.view_is) some in
    c.work_step.ensures.steps state here free more
