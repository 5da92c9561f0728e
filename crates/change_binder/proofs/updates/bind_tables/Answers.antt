use Rattle.std.proofs.Common.{◌≡◌, IfErr, List, rules, subst}
use Rattle.name_binder.specs.Refusing.{RefusesBy}
use Rattle.sql_binding.specs.Queries.{columns_of, row_kinds}
use Rattle.sql_binding.specs.Sight.{Seen, sight}
use Rattle.sql_binding.specs.Changes.{update_tree_refusal}
use Rattle.change_binder.specs.Answers.{changes_in}
use Rattle.change_binder.proofs.updates.bind_tables.Goals as goal

pub returns-clause-refused : goal.returns-clause-refused
returns-clause-refused c =
    let q = c.args.query.now in
    let tables = c.args.tables.now in
    let seen : c.as_slice-2.result.now ≡ sight q.sources (columns_of tables) = search rules in
    subst (λ (n : List Seen). IfErr c.bind_seen.result (RefusesBy (update_tree_refusal (row_kinds n) (changes_in tables n q c.args.update.now)))) seen c.bind_seen.ensures.refused
