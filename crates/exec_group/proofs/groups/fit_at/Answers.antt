use Rattle.std.proofs.Common.{◌≡◌, ◌≤◌, List, [], get_or, length, rules, subst, take_all, ◌∙◌}
use Rattle.std.proofs.lemmas.List.{get_or_default}
use Rattle.exec_group.specs.Groups.{kept_at, FitsAt}
use Rattle.exec_group.specs.declared.accumulator.Accumulator.{Accumulator}
use Rattle.exec_group.specs.declared.accumulator.Accumulator.TheVariants.{TooGreat}
use Rattle.exec_group.proofs.Growing.{fits_next}
use Rattle.exec_group.proofs.groups.fit_at.Goals as goal

pub loop-column-preserved : goal.loop-column-preserved
loop-column-preserved c =
    let i = c.loop-column.column-index in
    let columns = c.args.columns.now in
    let g = c.args.group in
    let column : List Accumulator = c.column-item.result in
    let here : column ≡ get_or columns i [] = c.column-item.is ∙ get_or_default columns i column [] c.loop-column-test.true in
    let fits : kept_at column g ≡ TooGreat → ⊥ = search rules in
    fits_next columns i g c.loop-column-test.true (subst (λ (x : List Accumulator). kept_at x g ≡ TooGreat → ⊥) here fits) c.loop-column.invariant

pub returns-clause-fit : goal.returns-clause-fit
returns-clause-fit c = λ is.
    let past : length c.args.columns.now ≤ c.loop-column.column-index = search rules in
    subst (λ (cs : List (List Accumulator)). FitsAt cs c.args.group) (take_all c.loop-column.column-index c.args.columns.now past) c.loop-column.invariant
