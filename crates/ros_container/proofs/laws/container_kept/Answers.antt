use Rattle.ros_container.proofs.Kept.{rows_kept}
use Rattle.ros_container.proofs.laws.container_kept.Goals as goal

pub returns : goal.returns
returns c = rows_kept
