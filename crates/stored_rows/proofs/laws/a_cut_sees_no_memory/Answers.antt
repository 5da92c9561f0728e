use Rattle.stored_rows.proofs.Memories.{cut_memory}
use Rattle.stored_rows.proofs.laws.a_cut_sees_no_memory.Goals as goal

pub returns : goal.returns
returns c = cut_memory
