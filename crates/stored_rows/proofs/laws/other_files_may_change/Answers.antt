use Rattle.stored_rows.proofs.KeptRows.{vector_kept, entry_kept, stored_kept}
use Rattle.stored_rows.proofs.laws.other_files_may_change.Goals as goal

pub returns : goal.returns
returns c = record { vector = vector_kept; held = entry_kept; stored = stored_kept }
