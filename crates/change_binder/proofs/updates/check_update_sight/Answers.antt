use Rattle.std.proofs.Common.{◌≡◌, OnOk, IfErr, List, None, rules, subst}
use Rattle.name_binder.specs.Refusing.{RefusesBy}
use Rattle.sql_binding.specs.Queries.{columns_of}
use Rattle.sql_binding.specs.Sight.{Seen, sight}
use Rattle.change_binder.specs.Answers.{settings_refusal}
use Rattle.change_binder.proofs.updates.check_update_sight.Goals as goal

pub returns-clause-ok : goal.returns-clause-ok
returns-clause-ok c =
    let q = c.args.query.now in
    let seen : c.as_slice-2.result.now ≡ sight q.sources (columns_of c.args.tables.now) = search rules in
    subst (λ (n : List Seen). OnOk c.check_update_columns.result (settings_refusal n q c.args.update.now ≡ None)) seen c.check_update_columns.ensures.ok

pub returns-clause-refused : goal.returns-clause-refused
returns-clause-refused c =
    let q = c.args.query.now in
    let seen : c.as_slice-2.result.now ≡ sight q.sources (columns_of c.args.tables.now) = search rules in
    subst (λ (n : List Seen). IfErr c.check_update_columns.result (RefusesBy (settings_refusal n q c.args.update.now))) seen c.check_update_columns.ensures.refused
