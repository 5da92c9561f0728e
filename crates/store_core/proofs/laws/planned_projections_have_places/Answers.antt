use Rattle.store_core.proofs.Planned.{create_has_place, drop_has_place}
use Rattle.store_core.proofs.laws.planned_projections_have_places.Goals as goal

pub returns-clause-create : goal.returns-clause-create
returns-clause-create c = create_has_place

pub returns-clause-drop : goal.returns-clause-drop
returns-clause-drop c = drop_has_place
