-- Rows where they are held.
use Rattle.std.specs.Prelude.{ℕ}
use Rattle.col_value.specs.declared.row.Asked.{Asked}
use Rattle.container_draft.specs.declared.rows.Spot.{Spot}
use Rattle.container_draft.specs.declared.rows.Spot.TheVariants as spot
use Rattle.container_draft.specs.Placed.{no_row, asked_at}

-- the row that is held there
abbrev pub asked_on : Spot → Asked
asked_on (spot.Own a) = a.now
asked_on (spot.In lanes i) = asked_at lanes.now i
asked_on spot.Nowhere = no_row
