use Rattle.std.proofs.Common.{rules, ◌∙◌, ap, map}
use Rattle.std.specs.Prelude.{nat_lt}
use Rattle.std.proofs.lemmas.Fn.{filter_same}
use Rattle.write_store.specs.Memory.{stamp}
use Rattle.write_store.proofs.Keeping.{kept_after}
use Rattle.write_store.proofs.rows.keep_after.Goals as goal

pub returns-clause-rows : goal.returns-clause-rows
returns-clause-rows c =
    ap (map stamp) (filter_same _ (λ h. nat_lt c.args.epoch h.inserted.ins) _ (λ x b f' k. search rules) _ _ c.retain.ensures.filtered)
    ∙ kept_after c.args.epoch c.args.rows.now.items
