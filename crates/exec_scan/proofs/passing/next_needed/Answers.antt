use Rattle.std.proofs.Common.{◌≡◌, ◌≤◌, ◌<◌, ◌∙◌, ℕ, List, false, ap, subst}
use Rattle.std.specs.Prelude.{Option}
use Rattle.pos_index.specs.declared.index.PosIndex.{PosIndex}
use Rattle.exec_scan.specs.Opened.{Opening}
use Rattle.exec_scan.specs.Passing.{IsPassed, is_passed}
use Rattle.exec_scan.proofs.passing.next_needed.Goals as goal

pub returns-clause-passed : goal.returns-clause-passed
returns-clause-passed c =
    let indexes : c.as_slice.result.now ≡ c.args.opened.now.indexes = c.as_slice.ensures.value ∙ ap (λ (o : Opening). o.indexes) c.opened.view_is in
    subst (λ (xs : List (Option PosIndex)). (block : ℕ) → c.args.first ≤ block → block < c.first_needed.result → IsPassed c.args.bounds.now xs block) indexes c.first_needed.ensures.passed

pub returns-clause-needed : goal.returns-clause-needed
returns-clause-needed c =
    let indexes : c.as_slice.result.now ≡ c.args.opened.now.indexes = c.as_slice.ensures.value ∙ ap (λ (o : Opening). o.indexes) c.opened.view_is in
    subst (λ (xs : List (Option PosIndex)). c.first_needed.result < c.args.count → is_passed c.args.bounds.now xs c.first_needed.result ≡ false) indexes c.first_needed.ensures.needed
