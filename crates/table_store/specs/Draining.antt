-- All projections that are behind, moved out before one commit.
use Rattle.std.specs.Prelude.{ℕ, ◌≡◌, ◌⊎◌, ◌≤◌, ◌<◌, ◌+◌, ◌*◌, if◌then◌else◌, false, List, [], ◌∷◌, map, length, Option, Some, IfSome, IsSomeAnd}
use Rattle.std.specs.List.{All, slice_get}
use Rattle.common_laws.specs.Maps.{Contents}
use Rattle.catalog_types.specs.declared.catalogue.Catalogue.{Catalogue}
use Rattle.catalog_types.specs.declared.catalogue.Table as kept
use Rattle.catalog_types.specs.Valid.{IsValid}
use Rattle.db_model.specs.Database.{Database, Shape, Table, is_behind}
use Rattle.db_model.specs.Mover.{behind, reached_to}
use Rattle.db_model.specs.Sound.{IsSoundDatabase}
use Rattle.folder_model.specs.Projections.{shape_of}
use Rattle.folder_model.specs.Tables.{AreDatabase}
use Rattle.sound_laws.specs.Moves.{change_at}
use Rattle.store_commit.specs.Seen.{Seen}
use Rattle.stored_rows.specs.Stored.{Projected}
use Rattle.table_store.specs.Drawing.{FewContainers}
use Rattle.table_store.specs.Held.{at_epoch}
use Rattle.table_store.specs.declared.draining.Moved.{Moved}
use Rattle.table_store.specs.declared.draining.Draft.{Draft}

-- ---- what it makes of a database

-- a projection that is behind has all its data up to an epoch on disk
abbrev pub caught_up : ℕ → Shape → Shape
caught_up last s = if is_behind last s then reached_to last s else s

abbrev pub caught_up_in : ℕ → Table → Table
caught_up_in last t = record t { shapes = map (caught_up last) t.shapes }

-- each projection that is behind has all its data on disk
abbrev pub all_caught_up : Database → Database
all_caught_up d = record d { tables = map (caught_up_in d.last) d.tables }

-- So many projections got other entries: for each one container more at most, and numbers for its files, for a delete vector of each container
-- that it had and for a version, were drawn.
pub record DrawsMany (count : ℕ) (old new : Catalogue) : Type 0 where
  pub from : old.next ≤ new.next
  pub upto : (most : ℕ) → FewContainers most old → new.next ≤ old.next + count * (most + 132)
  pub few : (most : ℕ) → FewContainers most old → FewContainers (most + 1) new
  pub none : count ≡ 0 → new.tables ≡ old.tables

-- ---- on the way

-- a projection that was moved out stands in the place of the one before it
abbrev pub put_one : Moved → List (List Projected) → List (List Projected)
put_one f stores = change_at f.table (change_at f.place (λ p. f.store.stored)) stores

-- all that were moved out do, one after the other
abbrev pub put_all : List Moved → List (List Projected) → List (List Projected)
put_all [] stores = stores
put_all (f ∷ fs) stores = put_all fs (put_one f stores)

-- a place comes before another one: in an earlier table, or earlier in the same
abbrev pub IsBefore : ℕ → ℕ → ℕ → ℕ → Type 0
IsBefore i j a b = (a < i) ⊎ ((a ≡ i) × (b < j))

abbrev pub IsMovedBefore : ℕ → ℕ → Moved → Type 0
IsMovedBefore i j f = IsBefore i j f.table f.place

-- there is a projection at its place
abbrev pub IsPlaced : List (List Projected) → Moved → Type 0
IsPlaced stores f = IsSomeAnd (slice_get stores f.table) (λ ps. f.place < length ps)

-- the projection at a place isn't behind, if there is one
abbrev pub IsNotBehindAt : ℕ → List kept.Table → ℕ → ℕ → Type 0
IsNotBehindAt last ts a b = IfSome (slice_get ts a) (λ t. IfSome (slice_get t.projections b) (λ p. is_behind last (shape_of p) ≡ false))

-- The projections of a store before a place were moved out, as far as they were behind. The draft has the catalogue with their new entries,
-- which isn't committed yet.
pub record IsDraft (s : Seen) (i j : ℕ) (draft : Draft) : Type 0 where
  pub valid : IsValid draft.root
  pub entries : map (λ ps. map (λ p. p.entry) ps) (put_all draft.moved.items s.stores) ≡ map (λ t. t.projections) draft.root.tables
  pub before : All (IsMovedBefore i j) draft.moved.items
  pub placed : All (IsPlaced s.stores) draft.moved.items
  pub last : (draft.moved.items ≡ [] → ⊥) → draft.root.last ≡ s.catalogue.last
  pub room : s.catalogue.next + length draft.moved.items ≤ draft.root.next
  pub draws : DrawsMany (length draft.moved.items) s.catalogue draft.root
  pub done : (a b : ℕ) → IsBefore i j a b → IsNotBehindAt s.catalogue.last draft.root.tables a b

-- so many projections that were behind have all their data on disk
pub record AreMoved (count : ℕ) (d e : Database) : Type 0 where
  pub rest : all_caught_up e ≡ all_caught_up d
  pub left : length (behind e) + count ≡ length (behind d)
  pub last : e.last ≡ d.last

-- over these files a draft is a database with its projections moved out
pub record IsDraftOf (s : Seen) (draft : Draft) (m : Contents) (d : Database) : Type 0 where
  pub made : Database
  pub are : AreDatabase m (at_epoch s.catalogue.last draft.root) (put_all draft.moved.items s.stores) made
  pub sound : IsSoundDatabase made
  pub moved : AreMoved (length draft.moved.items) d made

-- The work goes on from one draft to the next, while the disk goes on from some files to others.
abbrev pub GoesOn : Seen → Draft → Draft → Option Contents → Option Contents → Type 0
GoesOn s old new found left =
    (m : Contents) (d : Database) → found ≡ Some m → IsDraftOf s old m d → (n : Contents) × (left ≡ Some n) × IsDraftOf s new n d
