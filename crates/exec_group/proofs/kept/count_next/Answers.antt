use Rattle.std.proofs.Common.{◌≡◌, ◌+◌, ℕ, get_or, length, min, set, take, ap, sym, ◌∙◌, arith, rules}
use Rattle.std.proofs.lemmas.List.{length-take}
use Rattle.exec_group.proofs.Counting.{many_counted}
use Rattle.exec_group.proofs.kept.count_next.Goals as goal

pub returns-then-n-ge-MANY-clause-counted : goal.returns-then-n-ge-MANY-clause-counted
returns-then-n-ge-MANY-clause-counted c =
    let n = c.same_length-n.result in
    let g = get_or c.args.groups.now 0 0 in
    let groups = take n c.args.groups.now in
    let counts = c.args.counts.now.items in
    let long : n ≡ length groups = omega (arith, c.same_length-n.ensures.within, length-take n c.args.groups.now) in
    let after : c.count_many.new.counts.items ≡ set counts g (get_or counts g 0 + n) = search rules in
    after ∙ ap (λ (m : ℕ). set counts g (get_or counts g 0 + m)) long ∙ many_counted g groups counts c.same_length-n.ensures.same
