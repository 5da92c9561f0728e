use Rattle.proj_store.proofs.Above.{marks_above}
use Rattle.proj_store.proofs.laws.later_marks_stay_above.Goals as goal

pub returns : goal.returns
returns c = marks_above
