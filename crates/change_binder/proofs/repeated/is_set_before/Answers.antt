use Rattle.std.proofs.Common.{ap, ◌∙◌, ℕ, List, take}
use Rattle.std.specs.Prelude.{bytes_eq}
use Rattle.std.specs.List.{list_any}
use Rattle.sql_tree.specs.declared.statement.Setting.{Setting}
use Rattle.change_binder.proofs.repeated.is_set_before.Goals as goal

pub returns : goal.returns
returns c =
    c.is_column_before.ensures
    ∙ ap (λ (n : List ℕ). list_any (λ (s : Setting). bytes_eq s.column n) (take c.args.i c.args.settings.now)) c.as_slice.ensures
