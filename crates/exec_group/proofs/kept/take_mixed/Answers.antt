use Rattle.std.proofs.Common.{◌≡◌, Some, map, ◌∙◌, rules}
use Rattle.std.proofs.lemmas.Result.{on_ok_weaker}
use Rattle.sql_bound.specs.Values.{number_in}
use Rattle.exec_group.specs.Accumulators.{argument_in}
use Rattle.exec_group.specs.Columns.{row_of}
use Rattle.exec_group.proofs.Together.{numbers_put}
use Rattle.exec_group.proofs.kept.take_mixed.Goals as goal

pub returns-in-Some : goal.returns-in-Some
returns-in-Some c =
    let lane : map Some c.as_slice.result.now ≡ map (λ i. number_in (argument_in c.args.a.now.arg (row_of c.args.columns.now i))) c.args.places.now = search rules in
    on_ok_weaker c.take_numbers.result (λ e. e ∙ numbers_put c.args.columns.now c.args.a.now c.args.groups.now c.args.places.now c.as_slice.result.now c.args.list.now.items lane) c.take_numbers.ensures
