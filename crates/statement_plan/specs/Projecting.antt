-- The order of the reasons for which a new projection is refused.
use Rattle.std.specs.Prelude.{Bool, true, false, if◌then◌else◌, Option, Some, option_map}
use Rattle.std.specs.Option.{option_map_or}
use Rattle.sql_tree.specs.declared.refusal.Refusal.{Refusal}
use Rattle.sql_tree.specs.declared.statement.NewProjection.{NewProjection}
use Rattle.sql_binding.specs.Firsts.{first_of}
use Rattle.sql_binding.specs.Projections.{projection_name_refusal}
use Rattle.db_model.specs.Database.{Table}
use Rattle.db_model.specs.State.{State}
use Rattle.db_model.specs.Numbers.{spent_refusal}
use Rattle.db_model.specs.Refusing.{if_taken}
use Rattle.db_model.specs.Refusals.{projection_refusal_over}

-- a refusal for a limit
abbrev pub is_limit : Refusal → Bool
is_limit (Refusal.Limit which most) = true
is_limit r = false

-- the limit on projections stands before that on a name, and behind what the projection is
abbrev pub before_limits : Refusal → Option Refusal → Refusal
before_limits r other = if is_limit r then option_map_or (λ o. o) other r else r

-- why a new projection of this table is refused, whose columns are there
abbrev pub refusal_behind_names : State → NewProjection → Table → Option Refusal
refusal_behind_names state p t =
    first_of (option_map Refusal.Exists (if_taken state.database.tables p.name)) (first_of (projection_refusal_over p t) (spent_refusal state))

-- why a new projection of this table is refused
abbrev pub refusal_on : State → NewProjection → Table → Option Refusal
refusal_on state p t = first_of (projection_name_refusal (Some t.columns) p) (refusal_behind_names state p t)
