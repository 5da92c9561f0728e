use Rattle.std.proofs.Common.{FitsSigned, ℤ, rules, subst, take, w64}
use Rattle.std.specs.List.{All}
use Rattle.std.proofs.lemmas.Int.{to_z-of_z}
use Rattle.query_run.proofs.Behind.{IsPast, lane_behind}
use Rattle.query_run.proofs.past.behind_run.Goals as goal

pub returns-in-Some-Some-clause-behind : goal.returns-in-Some-Some-clause-behind
returns-in-Some-Some-clause-behind c =
    let bar = c.in-Some-Some.bar in
    let numbers = c.in-Some-Some.numbers.now in
    let few = take c.past_run.result c.args.places.now in
    let fits : FitsSigned w64 bar = search rules in
    lane_behind c.args.query.now c.args.row.now c.args.columns.now c.args.column c.args.descending numbers bar few c.in-Some-Some.ensures c.in-Some-Some.ensures'
    (subst (λ (n : ℤ). All (IsPast numbers n c.args.descending) few) (to_z-of_z w64 bar fits) c.past_run.ensures.past)
