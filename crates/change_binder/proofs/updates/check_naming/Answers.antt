use Rattle.std.proofs.Common.{◌≡◌, IfErr, OnOk, [], ◌∷◌, Option, None, Some, rules, subst}
use Rattle.name_binder.specs.Refusing.{RefusesBy}
use Rattle.sql_tree.specs.declared.refusal.Refusal.{Refusal}
use Rattle.sql_binding.specs.Changes.{naming_query, update_name_refusal}
use Rattle.sql_binding.specs.Queries.{unknown_table}
use Rattle.change_binder.proofs.Changing.{names_alike, table_first}
use Rattle.change_binder.proofs.updates.check_naming.Goals as goal

pub returns-in_err-check_update_tables-clause-refused :
    goal.returns-in_err-check_update_tables-clause-refused
returns-in_err-check_update_tables-clause-refused c =
    let table = c.args.table.now in
    let u = c.args.update.now in
    let query : c.args.query.now ≡ naming_query u = c.requires in
    let why : RefusesBy (update_name_refusal table.1 u) c.in_err-check_update_tables.field-0.0 =
    table_first table.1 u c.args.query.now c.in_err-check_update_tables.field-0.0 query c.in_err-check_update_tables.ensures.refused in
    search rules

pub returns-clause-ok : goal.returns-clause-ok
returns-clause-ok c =
    let table = c.args.table.now in
    let u = c.args.update.now in
    let one : c.as_slice.result.now ≡ table ∷ [] = search rules in
    let query : c.args.query.now ≡ naming_query u = c.requires in
    let known : unknown_table (Some table.1 ∷ []) c.args.query.now ≡ None = search rules in
    subst (λ (r : Option Refusal). OnOk c.check_update_sight.result (r ≡ None)) (names_alike table u c.as_slice.result.now c.args.query.now one query known)
    c.check_update_sight.ensures.ok

pub returns-clause-refused : goal.returns-clause-refused
returns-clause-refused c =
    let table = c.args.table.now in
    let u = c.args.update.now in
    let one : c.as_slice.result.now ≡ table ∷ [] = search rules in
    let query : c.args.query.now ≡ naming_query u = c.requires in
    let known : unknown_table (Some table.1 ∷ []) c.args.query.now ≡ None = search rules in
    subst (λ (r : Option Refusal). IfErr c.check_update_sight.result (RefusesBy r)) (names_alike table u c.as_slice.result.now c.args.query.now one query known)
    c.check_update_sight.ensures.refused
