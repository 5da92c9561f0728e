use Rattle.std.proofs.Common.{◌≡◌, ℕ, ◌<◌, List, ap₂, length, refl, subst, rules}
use Rattle.col_value.specs.declared.value.Value.{Value}
use Rattle.exec_group.proofs.Growing.{groups_done, none_great, some_great}
use Rattle.exec_group.specs.Groups.{FitsAt, IsGreatAt, worths_upto}
use Rattle.exec_group.specs.declared.accumulator.Accumulator.{Accumulator}
use Rattle.exec_group.proofs.groups.Groups.finish.Goals as goal

pub returns-clause-groups : goal.returns-clause-groups
returns-clause-groups c =
    let h = c.args.self in
    let keys : c.self.inside.keys ≡ h.keys = search rules in
    let columns : c.self.inside.columns.items ≡ h.columns = search rules in
    let fits : (g : ℕ) → g < length h.keys → FitsAt h.columns g = search rules in
    λ q rows held. groups_done q rows h held (record { keys = c.self.inside.keys; aggs = worths_upto c.self.inside.columns.items (length c.self.inside.keys) }) keys
    (ap₂ (λ (cs : List (List Accumulator)) (ks : List (List Value)). worths_upto cs (length ks)) columns keys) fits

pub returns-clause-in_range : goal.returns-clause-in_range
returns-clause-in_range c =
    let fits : (g : ℕ) → g < length c.args.self.keys → FitsAt c.args.self.columns g = search rules in
    λ q rows held. none_great q rows c.args.self held fits

pub returns-then-not-all_fit-clause-great : goal.returns-then-not-all_fit-clause-great
returns-then-not-all_fit-clause-great c = λ e q rows held.
    let columns : c.as_slice.result.now ≡ c.args.self.columns = search rules in
    let many : c.len.result ≡ length c.args.self.keys = search rules in
    let (g, below, great) = c.if-not-all_fit.ensures.great refl in
    some_great q rows c.args.self held g (subst (λ (n : ℕ). g < n) many below) (subst (λ (cs : List (List Accumulator)). IsGreatAt cs g) columns great)
