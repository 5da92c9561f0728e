-- Rows that are read of chosen containers, and their deletes.
use Rattle.std.specs.Prelude.{ℕ, ◌≡◌, ◌++◌, if◌then◌else◌, Bool, true, false, List, [], ◌∷◌, map, Option}
use Rattle.std.specs.List.{range_with_len}
use Rattle.common_laws.specs.Maps.{Contents}
use Rattle.ros_container.specs.Encodings.{Written}
use Rattle.ros_container.specs.Held.{HoldsContainer}
use Rattle.col_value.specs.declared.row.Asked.{Asked}
use Rattle.col_value.specs.declared.row.Stamped.{Stamped}
use Rattle.catalog_types.specs.declared.catalogue.Container.{Container}
use Rattle.stored_rows.specs.Stored.{Beside, mark_in}
use Rattle.container_draft.specs.Lanes.{HoldsOn}

abbrev pub del_of : Stamped → Option ℕ
del_of s = s.del

-- the deletes of so many positions of a container, by its delete vector and by the marks that came since
abbrev pub deletes : Beside → ℕ → List (Option ℕ)
deletes b count = map (mark_in b) (range_with_len 0 count)

-- the deletes of some containers' rows, one container after the other
abbrev pub deletes_in : List Container → List Beside → List (Option ℕ)
deletes_in [] bs = []
deletes_in (k ∷ ks) [] = []
deletes_in (k ∷ ks) (b ∷ bs) = deletes b k.rows ++ deletes_in ks bs

-- the files of some containers hold these rows, one container after the other
abbrev pub HoldEach : Contents → List Written → List Container → List Asked → Type 0
HoldEach m written [] rows = rows ≡ []
HoldEach m written (k ∷ ks) rows = (here : List Asked) × (more : List Asked) × HoldsContainer m written k here × HoldEach m written ks more × (rows ≡ here ++ more)

-- the same of rows that have the containers' columns at some places alone
abbrev pub HoldEachOn : Contents → List Written → List ℕ → List Container → List Asked → Type 0
HoldEachOn m written via [] rows = rows ≡ []
HoldEachOn m written via (k ∷ ks) rows = (here : List Asked) × (more : List Asked) × HoldsOn m written k via here × HoldEachOn m written via ks more × (rows ≡ here ++ more)

-- such rows of a container joined others where they were wanted
abbrev pub JoinsIf : Bool → Contents → List Written → List ℕ → Container → List Asked → List Asked → Type 0
JoinsIf true m written via k rows more = (here : List Asked) × HoldsOn m written k via here × (more ≡ rows ++ here)
JoinsIf false m written via k rows more = more ≡ rows

-- the deletes of a container, where they are wanted
abbrev pub deletes_if : Bool → Beside → ℕ → List (Option ℕ)
deletes_if wanted b count = if wanted then deletes b count else []
