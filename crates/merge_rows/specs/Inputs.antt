-- The containers of a projection that a job replaces.
use Rattle.std.specs.Prelude.{ℕ, ◌≡◌, ◌≤◌, ◌<◌, Bool, true, false, List, [], ◌∷◌, ◌++◌, length, map}
use Rattle.common_laws.specs.Bags.{SameBag}
use Rattle.common_laws.specs.Maps.{Contents}
use Rattle.col_value.specs.declared.row.Asked.{Asked}
use Rattle.col_value.specs.declared.row.Stamped.{Stamped}
use Rattle.catalog_types.specs.declared.catalogue.Container.{Container}
use Rattle.catalog_types.specs.declared.catalogue.Projection.{Projection}
use Rattle.ros_container.specs.Encodings.{Written, written_of}
use Rattle.stored_rows.specs.Held.{HoldsVector, HoldsMarked, HoldsRows, Holds}
use Rattle.stored_rows.specs.Stored.{Beside, Projected, mark_in, StoresRows, Stores}
use Rattle.merge_rows.specs.Places.{rows_at, asked_of, TakesPlaces, AreGrown, RetainsSame}

-- the elements that flags choose
abbrev pub chosen : {X : Type 0} → List Bool → List X → List X
chosen [] xs = []
chosen (b ∷ flags) [] = []
chosen (true ∷ flags) (x ∷ xs) = x ∷ chosen flags xs
chosen (false ∷ flags) (x ∷ xs) = chosen flags xs

-- the others, with those behind the flags
abbrev pub others : {X : Type 0} → List Bool → List X → List X
others [] xs = xs
others (b ∷ flags) [] = []
others (true ∷ flags) (x ∷ xs) = others flags xs
others (false ∷ flags) (x ∷ xs) = x ∷ others flags xs

-- new ones in the place of the first that is chosen, and the other chosen ones are left out
abbrev pub replaced : {X : Type 0} → List Bool → List X → List X → List X
replaced [] made xs = xs
replaced (b ∷ flags) made [] = []
replaced (true ∷ flags) made (x ∷ xs) = made ++ others flags xs
replaced (false ∷ flags) made (x ∷ xs) = x ∷ replaced flags made xs

-- The rows of a container later on, place by place: no row comes or goes, and what was deleted is so still.
pub record Grows (m n : Contents) (written : List Written) (k j : Container) (b c : Beside) : Type 0 where
  pub vector : HoldsVector m k b.held → HoldsVector n j c.held
  pub rows : HoldsVector m k b.held → (old : List Stamped) → HoldsMarked m written k (mark_in b) old → (new : List Stamped) × HoldsMarked n written j (mark_in c) new × AreGrown old new

-- the same of the containers of a projection; more of them may have come behind
abbrev pub GrowsEach : Contents → Contents → List Written → List Container → List Beside → List Container → List Beside → Type 0
GrowsEach m n es [] [] js cs = Unit {0}
GrowsEach m n es [] (b ∷ bs) js cs = ⊥
GrowsEach m n es (k ∷ ks) [] js cs = ⊥
GrowsEach m n es (k ∷ ks) (b ∷ bs) [] cs = ⊥
GrowsEach m n es (k ∷ ks) (b ∷ bs) (j ∷ js) [] = ⊥
GrowsEach m n es (k ∷ ks) (b ∷ bs) (j ∷ js) (c ∷ cs) = Grows m n es k j b c × GrowsEach m n es ks bs js cs

-- a projection later on
pub record GrowsInto (m n : Contents) (old new : Projected) : Type 0 where
  pub columns : new.entry.columns ≡ old.entry.columns
  pub each : GrowsEach m n (written_of old.entry) old.entry.containers old.beside new.entry.containers new.beside

-- The rows that a merge takes: those of its inputs, but for rows deleted at or before its mark, in the order in which they are written.
pub record Merging : Type 0 where
  pub inputs : List Bool
  pub mark : ℕ
  pub places : List ℕ
  pub rows : List Asked

-- The inputs stand still, and the rows are theirs.
pub record IsMerging (m : Contents) (p : Projected) (j : Merging) : Type 0 where
  pub within : length j.inputs ≤ length p.entry.containers
  pub some : 0 < length (chosen j.inputs p.entry.containers)
  pub stored : List Stamped
  pub are : StoresRows m (written_of p.entry) (chosen j.inputs p.entry.containers) (chosen j.inputs p.beside) stored
  pub taken : TakesPlaces j.mark stored j.places
  pub rows : j.rows ≡ map asked_of (rows_at stored j.places)

-- the entry holds, from a mark on, what the projection stores
abbrev pub KeepsFrom : ℕ → Contents → Contents → Projected → Projection → Type 0
KeepsFrom mark m n p entry = (stored : List Stamped) → Stores m p stored → (held : List Stamped) × Holds n entry held × RetainsSame mark held stored

-- listed containers hold these rows, in some order
abbrev pub HoldsSome : Contents → List Written → List Container → List Stamped → Type 0
HoldsSome m written ks rows = (held : List Stamped) × HoldsRows m written ks held × SameBag rows held
