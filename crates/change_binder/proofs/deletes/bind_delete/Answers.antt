use Rattle.std.proofs.Common.{◌≡◌, [], ◌∷◌, rules}
use Rattle.std.proofs.lemmas.Result.{IfOk-weaker}
use Rattle.sql_binding.specs.Changes.{delete_query}
use Rattle.change_binder.proofs.Deleting.{delete_bound}
use Rattle.change_binder.proofs.deletes.bind_delete.Goals as goal

pub returns-clause-bound : goal.returns-clause-bound
returns-clause-bound c =
    let found = c.args.found.now in
    let d = c.args.delete.now in
    let one : c.as_slice.result.now ≡ found ∷ [] = search rules in
    let query : c.in_ok-query.query ≡ delete_query d = search rules in
    IfOk-weaker c.bind_query.result _ _ (λ b h. delete_bound found d c.as_slice.result.now c.in_ok-query.query b one query h) c.bind_query.ensures.bound
