use Rattle.std.proofs.Common.{◌≡◌, IfErr, [], ◌∷◌, Option, ◌∙◌, rules, subst}
use Rattle.std.proofs.lemmas.Result.{IfOk-weaker}
use Rattle.name_binder.specs.Refusing.{RefusesBy}
use Rattle.sql_tree.specs.declared.refusal.Refusal.{Refusal}
use Rattle.sql_binding.specs.Changes.{update_query}
use Rattle.change_binder.proofs.Changing.{changed, refused_alike}
use Rattle.change_binder.proofs.updates.bind_changes.Goals as goal

pub returns-clause-bound : goal.returns-clause-bound
returns-clause-bound c =
    let table = c.args.table.now in
    let u = c.args.update.now in
    let one : c.as_slice.result.now ≡ table ∷ [] = search rules in
    let query : c.args.query.now ≡ update_query u = c.requires in
    IfOk-weaker c.bind_tables.result _ _ (λ b e. e ∙ changed table u c.as_slice.result.now c.args.query.now one query) c.bind_tables.ensures.bound

pub returns-clause-refused : goal.returns-clause-refused
returns-clause-refused c =
    let table = c.args.table.now in
    let u = c.args.update.now in
    let one : c.as_slice.result.now ≡ table ∷ [] = search rules in
    let query : c.args.query.now ≡ update_query u = c.requires in
    subst (λ (r : Option Refusal). IfErr c.bind_tables.result (RefusesBy r)) (refused_alike table u c.as_slice.result.now c.args.query.now one query)
    c.bind_tables.ensures.refused
