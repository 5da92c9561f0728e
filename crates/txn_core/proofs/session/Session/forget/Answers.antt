use Rattle.std.proofs.Common.{◌∙◌, ap, filter, rules}
use Rattle.std.proofs.lemmas.Fn.{filter_same}
use Rattle.db_model.specs.Events.{is_not_named}
use Rattle.txn_core.proofs.session.Session.forget.Goals as goal

pub returns : goal.returns
returns c =
    filter_same _ (λ x. is_not_named c.args.table.now x.table) _ (λ x b f' k. search rules) _ _ c.retain.ensures.filtered
    ∙ ap (filter (λ x. is_not_named c.args.table.now x.table)) c.self.view_is
