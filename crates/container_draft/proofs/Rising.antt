-- Rows at places.
use Rattle.std.proofs.Common.{◌≡◌, ℕ, ◌<◌, List, length, get_or}
use Rattle.std.specs.List.{All}
use Rattle.std.proofs.lemmas.List.Elements.{All-map}
use Rattle.col_value.specs.declared.row.Asked.{Asked}
use Rattle.ros_container.specs.Rows.{AreWide}
use Rattle.container_draft.specs.Placed.{no_row, asked_at, all_at}

-- rows at places that are there are as wide as the others
pub wide_at : (columns : ℕ) (rows : List Asked) (places : List ℕ) → AreWide columns rows → All (λ i. i < length rows) places → AreWide columns (all_at rows places)
wide_at columns rows places wide within = All-map (λ (a : Asked). length a.row ≡ columns) (asked_at rows) places (λ i d lt. wide (get_or places i d) no_row (within i d lt))
