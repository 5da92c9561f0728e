use Rattle.std.proofs.Common.{◌≡◌, sym, ap, ◌∙◌, subst, ℕ, List, Bool, Option}
use Rattle.std.specs.Prelude.{nat_lt}
use Rattle.std.specs.Result.{IfOk}
use Rattle.sql_binding.specs.Firsts.{given_where}
use Rattle.sql_binding.specs.Outputs.{twice_named, count_named}
use Rattle.name_binder.proofs.keys.twice_named.Goals as goal

pub returns-in-Name : goal.returns-in-Name
returns-in-Name c =
    let outputs = c.args.outputs.now in
    let name : List ℕ = c.in-Name.name in
    let so = c.is_twice.ensures ∙ ap (λ (n : List ℕ). nat_lt 1 (count_named n outputs)) c.as_slice.ensures in
    subst (λ (v : Option (List ℕ)). IfOk c.name_where.result (λ n. n ≡ v))
    (ap (λ (b : Bool). given_where b name) so ∙ ap (twice_named outputs) (sym c.in-Name.is))
    c.name_where.ensures
