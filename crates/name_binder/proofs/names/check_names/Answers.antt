use Rattle.std.proofs.Common.{◌≡◌, sym, subst, ℕ, List, Option, None}
use Rattle.std.specs.List.{All}
use Rattle.sql_binding.specs.Outputs.{unknown_key}
use Rattle.name_binder.proofs.Parts.{known_keys}
use Rattle.name_binder.proofs.names.check_names.Goals as goal

pub returns-clause-keys : goal.returns-clause-keys
returns-clause-keys c =
    subst (λ (outputs : List (Option (List ℕ))). All (λ k. unknown_key outputs k.key ≡ None) c.args.query.now.order) (sym c.requires)
    (known_keys c.args.seen.now c.args.query.now c.in_ok-check_columns.ensures.ok)
