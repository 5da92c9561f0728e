use Rattle.std.proofs.Common.{◌≡◌, ◌∙◌, List, [], ap, sym}
use Rattle.std.proofs.lemmas.List.{nil_from_length}
use Rattle.exec_window.specs.declared.walk.Step.{Step}
use Rattle.exec_window.specs.Walks.{written}
use Rattle.exec_window.proofs.Settling.{written_none, written_with}
use Rattle.exec_window.proofs.settle.settled.Goals as goal

pub returns : goal.returns
returns c =
    let none : c.loop-step.left.now ≡ [] = nil_from_length c.loop-step.left.now c.in_default.ensures.cases in
    sym (ap (λ (ss : List Step). written_with c.args.kind ss c.loop-step.shared c.loop-step.out.items) none) ∙ c.loop-step.invariant
    ∙ written_none c.args.kind c.args.steps.now c.in_ok-out.out.items ∙ ap (written c.args.kind c.args.steps.now) c.in_ok-out.ensures
