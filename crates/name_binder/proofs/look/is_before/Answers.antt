use Rattle.std.proofs.Common.{sym, ap, ◌∙◌, ℕ, List, take}
use Rattle.std.specs.Prelude.{bytes_eq}
use Rattle.std.specs.List.{list_any}
use Rattle.sql_tree.specs.declared.query.Source.{Source}
use Rattle.sql_binding.specs.Sight.{item_name}
use Rattle.name_binder.proofs.Named.{any_name_before}
use Rattle.name_binder.proofs.look.is_before.Goals as goal

pub returns : goal.returns
returns c =
    c.is_name_before.ensures
    ∙ (ap (λ (n : List ℕ). list_any (λ (s : Source). bytes_eq (item_name s) n) (take c.args.i c.args.sources.now)) c.item_name.ensures
    ∙ sym (any_name_before c.args.sources.now c.args.i (item_name c.args.source.now)))
