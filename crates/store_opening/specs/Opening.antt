-- What an opening makes of a folder, and which file it blames.
use Rattle.std.specs.Prelude.{ℕ, ◌≡◌, ◌≤◌, ◌+◌, ◌⊎◌, true, List, [], Option, Some, None, IsSome}
use Rattle.std.specs.FinMap.{get}
use Rattle.std.specs.List.{All, Any}
use Rattle.common_laws.specs.Maps.{Contents}
use Rattle.col_disk.specs.Moved.{ImageOf, Looks, Moved, NoName}
use Rattle.col_disk.specs.declared.disk.Disk.{Ghosts}
use Rattle.col_disk.specs.declared.disk.StoreFault.{StoreFault}
use Rattle.col_disk.specs.declared.disk.StoreFault.TheVariants.{Disk, Damaged, Memory}
use Rattle.catalog_types.specs.declared.catalogue.Catalogue.{Catalogue}
use Rattle.catalog_types.specs.declared.catalogue.Container.{Container}
use Rattle.catalog_root.specs.declared.found.Found.TheVariants.{Root}
use Rattle.catalog_types.specs.Numbers.{store_count}
use Rattle.catalog_types.specs.Reached.{is_past, least_lge}
use Rattle.catalog_root.specs.Root.{IsFresh, IsRoot, BlamesRoot}
use Rattle.catalog_root.specs.Quiet.{Quiet}
use Rattle.container_writer.specs.Writing.{DataFrom}
use Rattle.cut_job.specs.Blamed as cut
use Rattle.db_model.specs.Database.{Database}
use Rattle.db_model.specs.Sound.{IsSoundDatabase}
use Rattle.folder_model.specs.Reopening.{IsCutOf, Reopens}
use Rattle.del_vector.specs.declared.mark.Mark.{Mark}
use Rattle.stored_rows.specs.Held.{HoldsVector}
use Rattle.stored_rows.specs.Listed.{IsListedOf}
use Rattle.store_opening.specs.Loading.{BlamesTables}
use Rattle.table_store.specs.Drawing.{FewContainers}

-- ---- which file is blamed, and what is left then

-- a property of each container of a catalogue, and of some
abbrev pub OfEach : (Container → Type 0) → Catalogue → Type 0
OfEach P c = All (λ t. All (λ p. All P p.containers) t.projections) c.tables

abbrev pub OfSome : (Container → Type 0) → Catalogue → Type 0
OfSome P c = Any (λ t. Any (λ p. Any P p.containers) t.projections) c.tables

-- what holds of a file where it is blamed
abbrev pub WhereBlamedAt : (ℕ → Type 0) → StoreFault → Type 0
WhereBlamedAt Fact (Damaged q) = Fact q
WhereBlamedAt Fact Disk = Unit {0}
WhereBlamedAt Fact Memory = Unit {0}

-- a file of a container, or its delete vector, that is absent
abbrev pub BlamesAbsent : Catalogue → Option Contents → ℕ → Type 0
BlamesAbsent c holds q = OfSome (λ k. IsListedOf k q) c × ((m : Contents) → holds ≡ Some m → get m q ≡ None)

-- a file of a container that isn't what it has to be, where the catalogue is cut
abbrev pub BlamesCut : Catalogue → Option Contents → ℕ → Type 0
BlamesCut c holds q = (is_past c (least_lge c) ≡ true) × cut.BlamesInTables c.tables holds (Damaged q)

-- a Damaged names one of these, or a delete vector that is none; no other fault says anything
abbrev pub BlamesListed : Catalogue → Option Contents → StoreFault → Type 0
BlamesListed c holds fault = WhereBlamedAt (λ q. BlamesAbsent c holds q ⊎ (BlamesTables c.tables holds (Damaged q) ⊎ BlamesCut c holds q)) fault

-- or a file that keeps the disk from opening to a catalogue
abbrev pub BlamesOpening : Option Contents → StoreFault → Type 0
BlamesOpening holds fault = BlamesRoot holds fault ⊎ ((v : ℕ) × (c : Catalogue) × ((m : Contents) → holds ≡ Some m → IsRoot m v c) × BlamesListed c holds fault)

-- what holds where a file is blamed
abbrev pub WhereBlamed : Type 0 → StoreFault → Type 0
WhereBlamed Fact fault = WhereBlamedAt (λ q. Fact) fault

-- files were written for the cut of a catalogue, of numbers that it has never drawn, and none was removed
pub record HasBegunCut {D : Type 0} (disk : Ghosts D) (c : Catalogue) (old new : D) : Type 0 where
  pub past : is_past c (least_lge c) ≡ true
  pub moved : Moved disk (DataFrom c.next) NoName old new

-- The folder is what it was: it was looked at and no more, or the cut of its root had begun.
abbrev pub IsLeftAlone : {D : Type 0} → Ghosts D → D → D → Type 0
IsLeftAlone disk old new = Looks disk old new ⊎ ((v : ℕ) × (c : Catalogue) × ((m : Contents) → disk.holds old ≡ Some m → IsRoot m v c) × HasBegunCut disk c old new)

-- ---- a folder that opens

-- each file of a container is there, and its delete vector
abbrev pub HasFiles : Contents → Container → Type 0
HasFiles m k = (q : ℕ) → IsListedOf k q → IsSome (get m q)

-- its delete vector is one
abbrev pub HasVector : Contents → Container → Type 0
HasVector m k = (marks : List Mark) × HoldsVector m k marks

-- so it is with each container that a catalogue lists
pub record IsThere (m : Contents) (c : Catalogue) : Type 0 where
  pub files : OfEach (HasFiles m) c
  pub vectors : OfEach (HasVector m) c

-- a folder in which nothing was ever stored, or all that its root lists is there
abbrev pub IsOpening : Contents → Type 0
IsOpening m = IsFresh m ⊎ ((v : ℕ) × (c : Catalogue) × IsRoot m v c × IsThere m c)

-- The numbers of the storage behind an opening of these contents. Where nothing was ever stored the next free number is 1, and there is no
-- container. Else a cut draws at most one number for each file that is listed, and one for its version, and no projection gets more containers.
pub record IsStartOf (m : Contents) (next parts : ℕ) : Type 0 where
  pub fresh : IsFresh m → (next ≡ 1) × (parts ≡ 0)
  pub least : (v : ℕ) (c : Catalogue) → IsRoot m v c → c.next ≤ next
  pub most : (v : ℕ) (c : Catalogue) → IsRoot m v c → next ≤ c.next + store_count c + 1
  pub few : (v : ℕ) (c : Catalogue) → IsRoot m v c → (n : ℕ) → FewContainers n c → parts ≤ n

-- the numbers of a catalogue that was opened from a root's
pub record IsOpenedFrom (c opened : Catalogue) : Type 0 where
  pub least : c.next ≤ opened.next
  pub most : opened.next ≤ c.next + store_count c + 1
  pub few : (n : ℕ) → FewContainers n c → FewContainers n opened

-- and from these contents
pub record IsOpenedOf (m : Contents) (opened : Catalogue) : Type 0 where
  pub fresh : IsFresh m → (opened.next ≡ 1) × (opened.tables ≡ [])
  pub root : (v : ℕ) (c : Catalogue) → IsRoot m v c → IsOpenedFrom c opened

-- the disk is quiet on a root, which is cut to a sound database
pub record IsQuietFor {D : Type 0} (disk : Ghosts D) (now : D) (v : ℕ) (c : Catalogue) (d : Database) (m : Contents) : Type 0 where
  pub quiet : Quiet (disk.holds now) (ImageOf disk now) (Root v c) m
  pub is_cut : IsCutOf m c d
  pub sound : IsSoundDatabase d

-- a crash would have left this at that moment, or it reopens to the database
abbrev pub IsStill : {D : Type 0} → Ghosts D → D → Database → Contents → Type 0
IsStill disk old d x = ImageOf disk old x ⊎ Reopens x d
