use Rattle.std.proofs.Common.{◌≡◌, ◌∙◌, true, false, take_all, subst}
use Rattle.std.specs.List.{All}
use Rattle.std.proofs.lemmas.List.Elements.{All-more}
use Rattle.std.proofs.lemmas.Slice.Eq.{bytes_eq-Decides}
use Rattle.store_core.proofs.store.stepping.is_among.Goals as goal

pub loop-place-preserved : goal.loop-place-preserved
loop-place-preserved c =
    let other = c.index-names-place.result in
    All-more (λ n. n ≡ c.args.name.now → ⊥) c.args.names.now c.loop-place.place other c.loop-place-test.true c.loop-place.invariant
    (λ is. let both : false ≡ true = c.if-eq.ensures ∙ (bytes_eq-Decides other c.args.name.now).1 (c.index-names-place.is ∙ is) in absurd (cc))

pub returns-clause-no : goal.returns-clause-no
returns-clause-no c = subst (All (λ n. n ≡ c.args.name.now → ⊥)) (take_all c.loop-place.place c.args.names.now c.loop-place-test.false) c.loop-place.invariant
