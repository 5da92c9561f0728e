use Rattle.statement_plan.proofs.Standing.{frame_of}
use Rattle.statement_plan.proofs.laws.catalogues_give_frames.Goals as goal

pub returns : goal.returns
returns c = frame_of
