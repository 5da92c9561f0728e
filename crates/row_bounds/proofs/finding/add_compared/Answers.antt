use Rattle.std.proofs.Common.{◌≡◌, ◌<◌, ◌++◌, ◌∷◌, [], rules, subst, sym}
use Rattle.std.specs.List.{All}
use Rattle.std.proofs.lemmas.List.Elements.{All-push}
use Rattle.row_bounds.specs.declared.bound.Bound.{Bound}
use Rattle.row_bounds.proofs.finding.add_compared.Goals as goal

pub returns-in_ok-push-clause-own : goal.returns-in_ok-push-clause-own
returns-in_ok-push-clause-own c =
    let out = c.args.out.now.items in
    let next_is : c.push.new.self.items ≡ out ++ c.in-Some.bound ∷ [] = search rules in
    let here : c.in-Some.bound.column < c.args.columns = search rules in
    subst (All (λ (b : Bound). b.column < c.args.columns)) (sym next_is) (All-push (λ (b : Bound). b.column < c.args.columns) out c.in-Some.bound c.requires.own here)
