use Rattle.std.proofs.Common.{ap, ◌∙◌, ℕ, List, drop}
use Rattle.std.specs.Prelude.{bytes_eq}
use Rattle.std.specs.List.{list_any}
use Rattle.change_binder.proofs.repeated.is_behind.Goals as goal

pub returns : goal.returns
returns c =
    c.is_name_behind.ensures
    ∙ ap (λ (n : List ℕ). list_any (λ (m : List ℕ). bytes_eq m n) (drop c.args.from c.args.names.now)) c.as_slice.ensures
