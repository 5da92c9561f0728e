use Rattle.std.proofs.Common.{◌≡◌, ℕ, List, length, get_or, take, refl, sym, ◌∙◌, arith, subst, rules}
use Rattle.std.specs.List.{All}
use Rattle.std.proofs.lemmas.List.{take_all}
use Rattle.exec_group.proofs.Together.{all_next}
use Rattle.exec_group.proofs.kept.same_length.Goals as goal

pub loop-n-preserved : goal.loop-n-preserved
loop-n-preserved c =
    let groups = c.args.groups.now in
    let here : get_or groups c.loop-n.n 0 ≡ get_or groups 0 0 = search rules in
    all_next (λ h. h ≡ get_or groups 0 0) groups c.loop-n.n (get_or groups c.loop-n.n 0) c.loop-n-test.true refl c.loop-n.invariant here

pub returns-clause-same : goal.returns-clause-same
returns-clause-same c =
    let groups = c.args.groups.now in
    let whole : take c.loop-n.n groups ≡ take (length groups) groups = take_all c.loop-n.n groups (omega (arith, c.loop-n-test.false)) ∙ sym (take_all (length groups) groups (omega arith)) in
    subst (λ (l : List ℕ). All (λ h. h ≡ get_or groups 0 0) l) whole c.loop-n.invariant
