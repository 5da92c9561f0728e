use Rattle.std.proofs.Common.{◌≡◌, FitsSigned, List, ℕ, ℤ, arith, get_or, length, of_z, refl, rules, subst, sym, take, to_z, w64, ◌∙◌}
use Rattle.std.specs.List.{All}
use Rattle.std.proofs.lemmas.Int.{to_z-of_z}
use Rattle.std.proofs.lemmas.List.{take_all}
use Rattle.exec_group.proofs.Together.{all_next}
use Rattle.query_run.proofs.Behind.{IsPast}
use Rattle.query_run.proofs.past.past_run.Goals as goal

pub loop-n-preserved : goal.loop-n-preserved
loop-n-preserved c =
    let bar = to_z w64 (of_z w64 c.args.bar) in
    all_next (IsPast c.args.numbers.now bar c.args.descending) c.args.places.now c.loop-n.n (get_or c.args.places.now c.loop-n.n 0) c.loop-n-test.true refl c.loop-n.invariant
    (c.is_past_at.ensures c.if-not-is_past_at.false)

pub returns-clause-past : goal.returns-clause-past
returns-clause-past c =
    let places = c.args.places.now in
    let bar = to_z w64 (of_z w64 c.args.bar) in
    let fits : FitsSigned w64 c.args.bar = search rules in
    let whole : take c.loop-n.n places ≡ take (length places) places = take_all c.loop-n.n places (omega (arith, c.loop-n-test.false)) ∙ sym (take_all (length places) places (omega arith)) in
    subst (λ (n : ℤ). All (IsPast c.args.numbers.now n c.args.descending) (take (length places) places)) (to_z-of_z w64 c.args.bar fits)
    (subst (λ (l : List ℕ). All (IsPast c.args.numbers.now bar c.args.descending) l) whole c.loop-n.invariant)
