use Rattle.stored_rows.proofs.ReadRows.{held_stored, stored_held}
use Rattle.stored_rows.proofs.laws.what_is_read_is_stored.Goals as goal

pub returns : goal.returns
returns c = record { stored = held_stored c.one_vector.ensures; held = stored_held }
