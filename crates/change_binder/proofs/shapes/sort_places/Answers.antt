use Rattle.std.proofs.Common.{◌≡◌, ap, ◌∙◌, ◌++◌, ℕ, [], ◌∷◌, List, rules}
use Rattle.sql_binding.specs.Projections.{place_or_0, name_at}
use Rattle.statement_binder.proofs.Growing.{value_more}
use Rattle.change_binder.proofs.shapes.sort_places.Goals as goal

pub loop-name-preserved : goal.loop-name-preserved
loop-name-preserved c =
    let f = λ (n : List ℕ). place_or_0 (name_at c.args.names.now n) in
    let x = c.name-item.result in
    let out = c.loop-name.out.items in
    let v : c.unwrap_or.result ≡ f x = search rules in
    c.in_ok-push.ensures.items
    ∙ (ap (λ (v : ℕ). out ++ (v ∷ [])) (v)
    ∙ value_more (List ℕ) (ℕ) f c.args.sort.now c.loop-name.name-index x out c.loop-name-test.true c.name-item.is c.loop-name.invariant)
