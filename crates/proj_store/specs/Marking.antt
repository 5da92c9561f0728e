-- Places of a projection's rows that a commit deletes.
use Rattle.std.specs.Prelude.{ℕ, ◌≡◌, ◌<◌, ◌≤◌, ◌++◌, List, [], ◌∷◌, length, map, get_or, Option, None, Some}
use Rattle.std.specs.List.{All, AllZip}
use Rattle.common_laws.specs.Maps.{Contents}
use Rattle.col_value.specs.declared.row.Asked.{Asked}
use Rattle.col_value.specs.declared.row.Stamped.{Stamped}
use Rattle.catalog_types.specs.declared.catalogue.Container.{Container}
use Rattle.catalog_types.specs.declared.catalogue.Projection.{Projection}
use Rattle.ros_container.specs.Encodings.{Written, written_of}
use Rattle.ros_container.specs.Held.{HoldsContainer}
use Rattle.del_vector.specs.declared.mark.Mark.{Mark}
use Rattle.stored_rows.specs.Stored.{Beside, Projected, mark_in}
use Rattle.write_store.specs.Memory.{deleted_at, IsLive}
use Rattle.wanted_rows.specs.Wanted.{tally}
use Rattle.write_store.specs.declared.held.Held.{Held}
use Rattle.wanted_rows.specs.Picked.{Picks, asked_of as asked_in, del_at}
use Rattle.wanted_rows.specs.Taking.{asked_of}
use Rattle.proj_store.specs.Loaded.{Loaded}

-- marks with an epoch at some places
abbrev pub marks_at : ℕ → List ℕ → List Mark
marks_at epoch places = map (λ p. record { position = p; epoch = epoch }) places

abbrev pub marked_beside : ℕ → Beside → List ℕ → Beside
marked_beside epoch b places = record b { fresh = b.fresh ++ marks_at epoch places }

-- each list of places beside the container that it belongs to
abbrev pub all_marked : ℕ → List Beside → List (List ℕ) → List Beside
all_marked epoch [] each = []
all_marked epoch (b ∷ bs) [] = b ∷ bs
all_marked epoch (b ∷ bs) (places ∷ each) = marked_beside epoch b places ∷ all_marked epoch bs each

-- places of each container, and of the rows in memory
pub record Places : Type 0 where
  pub each : List (List ℕ)
  pub unsaved : List ℕ

abbrev pub places : List (List ℕ) → List ℕ → Places
places each unsaved = record { each = each; unsaved = unsaved }

-- a projection whose rows at these places are deleted at an epoch
abbrev pub with_marks : ℕ → Places → Projected → Projected
with_marks epoch ready p = record p { beside = all_marked epoch p.beside ready.each; unsaved = deleted_at epoch ready.unsaved p.unsaved }

-- of the rows that a container holds these places are picked
abbrev pub PicksIn : Contents → List Written → Container → Beside → List ℕ → (Asked → ℕ) → (Asked → ℕ) → Type 0
PicksIn m written k b places need left = (rows : List Asked) → HoldsContainer m written k rows → Picks (mark_in b) rows places need left

-- places are picked of one container after the other
abbrev pub PicksEach : Contents → List Written → List Container → List Beside → List (List ℕ) → (Asked → ℕ) → (Asked → ℕ) → Type 0
PicksEach m written [] [] [] need left = (q : Asked) → left q ≡ need q
PicksEach m written [] [] (places ∷ each) need left = ⊥
PicksEach m written [] (b ∷ bs) each need left = ⊥
PicksEach m written (k ∷ ks) [] each need left = ⊥
PicksEach m written (k ∷ ks) (b ∷ bs) [] need left = ⊥
PicksEach m written (k ∷ ks) (b ∷ bs) (places ∷ each) need left = (mid : Asked → ℕ) × PicksIn m written k b places need mid × PicksEach m written ks bs each mid left

-- the delete epoch at a place of rows in memory
abbrev pub del_of : List Stamped → ℕ → Option ℕ
del_of rows i = get_or (map (λ s. s.del) rows) i None

-- places are picked for these rows: of the containers, and then of the rows in memory
pub record IsPrepared (m : Contents) (p : Projected) (wanted : List Asked) (ready : Places) : Type 0 where
  pub need : Asked → ℕ
  pub mid : Asked → ℕ
  pub left : Asked → ℕ
  pub starts : (q : Asked) → need q ≡ tally q wanted
  pub containers : PicksEach m (written_of p.entry) p.entry.containers p.beside ready.each need mid
  pub unsaved : Picks (del_of p.unsaved) (map asked_of p.unsaved) ready.unsaved mid left

-- places of what is needed are picked: of the containers, if the disk tells their rows, and then of the rows in memory
pub record PicksAll (holds : Option Contents) (p : Projection) (bs : List Beside) (held : List Held) (ready : Places) (need left : Asked → ℕ) : Type 0 where
  pub mid : Asked → ℕ
  pub containers : (m : Contents) → holds ≡ Some m → PicksEach m (written_of p) p.containers bs ready.each need mid
  pub unsaved : Picks (del_at held) (asked_in held) ready.unsaved mid left

-- the same of these rows
pub record Finds (holds : Option Contents) (p : Projection) (bs : List Beside) (held : List Held) (wanted : List Asked) (ready : Places) : Type 0 where
  pub need : Asked → ℕ
  pub left : Asked → ℕ
  pub starts : (q : Asked) → need q ≡ tally q wanted
  pub picks : PicksAll holds p bs held ready need left

-- positions of a container's rows
abbrev pub ArePlaces : Container → List ℕ → Type 0
ArePlaces k places = All (λ p. p < k.rows) places

-- there is room for marks at these places
abbrev pub HasRoom : List ℕ → ℕ → Type 0
HasRoom places room = length places ≤ room

-- there are such places, and there is room for marks at them
pub record CanMark (ready : Places) (p : Loaded) : Type 0 where
  pub inside : AllZip ArePlaces p.stored.entry.containers ready.each
  pub room : AllZip HasRoom ready.each p.rooms
  pub unsaved : All (IsLive p.stored.unsaved) ready.unsaved
