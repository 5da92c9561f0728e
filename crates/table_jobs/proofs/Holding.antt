-- What an entry holds that was written for a projection of a table.
use Rattle.std.proofs.Common.{◌≡◌, ℕ, zero, suc, ◌≤◌, Bool, true, false, List, [], ◌∷◌, map, refl, sym, ◌∙◌, ap, subst, arith}
use Rattle.std.specs.Prelude.{max, Option, Some, None, IsSomeAnd}
use Rattle.std.specs.Bool.{OnTrue}
use Rattle.std.specs.List.{All, AllZip, slice_get}
use Rattle.common_laws.specs.Bags.{SameBag}
use Rattle.common_laws.specs.Maps.{Contents}
use Rattle.common_laws.proofs.BagLaws.{bag_trans}
use Rattle.col_disk.specs.Faults.{store_fault}
use Rattle.col_disk.specs.Moved.{Changed, NoName}
use Rattle.col_disk.specs.declared.disk.DiskFault.{DiskFault}
use Rattle.col_disk.specs.declared.disk.DiskFault.TheVariants as disk_fault
use Rattle.col_value.specs.declared.row.Stamped.{Stamped}
use Rattle.row_history.specs.History.{retained, on_columns}
use Rattle.catalog_types.specs.declared.catalogue.Catalogue.{Catalogue}
use Rattle.catalog_types.specs.declared.catalogue.Container.{Container}
use Rattle.catalog_types.specs.declared.catalogue.Projection.{Projection}
use Rattle.catalog_types.specs.declared.catalogue.Table as kept
use Rattle.ros_container.specs.Encodings.{Written, written_of}
use Rattle.container_writer.specs.Writing.{DataFrom}
use Rattle.stored_rows.specs.Held.{Holds, HoldsVector}
use Rattle.stored_rows.specs.Stored.{Beside, Projected, Stores, StoresRows}
use Rattle.merge_rows.specs.Inputs.{IsMerging, KeepsFrom, Merging, chosen}
use Rattle.merge_rows.specs.Rewritten.{reached_by, rewritten_to}
use Rattle.container_draft.proofs.Flags.{all_chosen}
use Rattle.proj_store.specs.Reading.{BlamesRows, HasVectors}
use Rattle.moveout_job.specs.OnDisk.{IsBelow, IsListedBelow}
use Rattle.mergeout_job.proofs.Installed.{stores_below}
use Rattle.db_model.specs.Database.{Database, Shape, Table}
use Rattle.folder_model.specs.Projections.{ordinals, shape_of, HasHistory, HasRows, IsHistoryOf}
use Rattle.folder_model.specs.Tables.{AreDatabase, StandForTables, StandsForTable}
use Rattle.table_store.specs.Installing.{HoldsTable, IsRenewal}

-- ---- while files of later numbers are written

stores_kept : (m l : Contents) (p : Projected) (stored : List Stamped) (next : ℕ) → IsListedBelow next p.entry → Changed (DataFrom next) NoName m l → Stores m p stored → Stores l p stored
stores_kept m l p stored next below changed (saved, are, is) = (saved, stores_below m l (written_of p.entry) p.entry.containers p.beside saved next below changed are, is)

pub merging_kept : (m l : Contents) (p : Projected) (j : Merging) (next : ℕ) → IsListedBelow next p.entry → Changed (DataFrom next) NoName m l → IsMerging m p j → IsMerging l p j
merging_kept m l p j next below changed is = record {
  within = is.within;
  some = is.some;
  stored = is.stored;
  are = stores_below m l (written_of p.entry) (chosen j.inputs p.entry.containers) (chosen j.inputs p.beside) is.stored next (all_chosen (IsBelow next) j.inputs p.entry.containers below) changed is.are;
  taken = is.taken;
  rows = is.rows;
}

pub keeps_before : (mark : ℕ) (m l n : Contents) (p : Projected) (entry : Projection) (next : ℕ) → IsListedBelow next p.entry → Changed (DataFrom next) NoName m l → KeepsFrom mark l n p entry → KeepsFrom mark m n p entry
keeps_before mark m l n p entry next below changed keeps = λ stored are. keeps stored (stores_kept m l p stored next below changed are)

-- ---- entries

pub renewal_of : (old new : Projection) (epoch born : ℕ) (ks : List Container) → new ≡ rewritten_to epoch born ks old → IsRenewal old new
renewal_of old new epoch born ks is = subst (IsRenewal old) (sym is) refl

pub reached_later : (epoch : ℕ) (ks : List Container) → epoch ≤ reached_by epoch ks
reached_later epoch [] = omega arith
reached_later epoch (k ∷ ks) =
    let rest = reached_later (max (max epoch k.greatest_epoch) k.greatest_mark) ks in
    omega (arith, rest)

pub of_disk_blames : (p : Projection) (holds : Option Contents) (f : DiskFault) → BlamesRows p holds (store_fault f)
of_disk_blames p holds disk_fault.Failed = tt
of_disk_blames p holds disk_fault.Memory = tt

-- ---- the table of a projection

vectors_of : (m : Contents) (es : List Written) (ks : List Container) (bs : List Beside) (rows : List Stamped) → StoresRows m es ks bs rows → AllZip (λ k b. HoldsVector m k b.held) ks bs
vectors_of m es [] [] rows is = tt
vectors_of m es [] (b ∷ bs) rows is = absurd is
vectors_of m es (k ∷ ks) [] rows is = absurd is
vectors_of m es (k ∷ ks) (b ∷ bs) rows (here, more, vector, marked, rest, is) = (vector, vectors_of m es ks bs more rest)

has_vectors : (m : Contents) (mark : ℕ) (rows : List Stamped) (p : Projected) → HasHistory m mark rows p → HasVectors m p
has_vectors m mark rows p has = of has.stored has.are
  where
    of : (stored : List Stamped) → Stores m p stored → HasVectors m p
    of stored (saved, are, is) = vectors_of m (written_of p.entry) p.entry.containers p.beside saved are

told : (b : Bool) (P : Type 0) → OnTrue b P → b ≡ true → P
told true P p is = p
told false P p is = absurd (cc)

-- a projection of a table that is up to date has its rows
pub record HasOwn (m : Contents) (mark : ℕ) (p : Projected) (u : Table) : Type 0 where
  pub history : HasHistory m mark u.rows p
  pub vectors : HasVectors m p

-- the entry that keeps from the mark on what the projection stores holds the rows of its table
pub kept_table : (m n : Contents) (mark : ℕ) (u : Table) (p : Projected) (entry : Projection) → IsRenewal p.entry entry → KeepsFrom mark m n p entry → HasHistory m mark u.rows p
    → (held : List Stamped) × Holds n entry held × IsHistoryOf mark entry held u.rows
kept_table m n mark u p entry renewal keeps has =
    let (held, holds, same) = keeps has.stored has.are in
    let columns : ordinals entry ≡ ordinals p.entry = ap ordinals renewal in (
      held,
      holds,
      subst (λ (cs : List ℕ). SameBag (retained mark held) (map (on_columns cs) (retained mark u.rows))) (sym columns)
          (bag_trans (retained mark held) (retained mark has.stored) (map (on_columns (ordinals p.entry)) (retained mark u.rows)) same has.history),
    )

-- what holds of the table at a place, since it does of each table with such projections
at_table : (m : Contents) (mark : ℕ) (ts : List kept.Table) (pss : List (List Projected)) (us : List Table) (i : ℕ) (P : List Projected → Type 0) (Q : Table → Type 0) → StandForTables m mark ts pss us → IsSomeAnd (slice_get pss i) P
    → ((t : kept.Table) (ps : List Projected) (u : Table) → P ps → StandsForTable m mark t ps u → Q u) → IsSomeAnd (slice_get us i) Q
at_table m mark [] [] [] i P Q stand there each = absurd there
at_table m mark [] [] (u ∷ us) i P Q stand there each = absurd stand
at_table m mark [] (ps ∷ pss) us i P Q stand there each = absurd stand
at_table m mark (t ∷ ts) [] us i P Q stand there each = absurd stand
at_table m mark (t ∷ ts) (ps ∷ pss) [] i P Q stand there each = absurd stand
at_table m mark (t ∷ ts) (ps ∷ pss) (u ∷ us) zero P Q (here, more) there each = each t ps u there here
at_table m mark (t ∷ ts) (ps ∷ pss) (u ∷ us) (suc i) P Q (here, more) there each = at_table m mark ts pss us i P Q more there each

-- this projection stands at a place of the table at a place
abbrev pub IsOwnAt : List (List Projected) → ℕ → ℕ → Projected → Type 0
IsOwnAt stores i j p = IsSomeAnd (slice_get stores i) (λ ps. IsSomeAnd (slice_get ps j) (λ q. q ≡ p))

rows_in : (m : Contents) (mark : ℕ) (rows : List Stamped) (ps : List Projected) (j : ℕ) (p : Projected) → IsSomeAnd (slice_get ps j) (λ q. q ≡ p) → All (HasRows m mark rows) ps → HasRows m mark rows p
rows_in m mark rows [] j p there all = absurd there
rows_in m mark rows (q ∷ ps) zero p there all = subst (HasRows m mark rows) there (all 0 q (omega arith))
rows_in m mark rows (q ∷ ps) (suc j) p there all = rows_in m mark rows ps j p there (λ k d lt. all (suc k) d (omega (arith, lt)))

pub own_history : (m : Contents) (c : Catalogue) (stores : List (List Projected)) (d : Database) (i j : ℕ) (p : Projected) → p.entry.fresh ≡ true → IsOwnAt stores i j p → AreDatabase m c stores d → IsSomeAnd (slice_get d.tables i) (HasOwn m c.ahm p)
own_history m c stores d i j p fresh there are =
    at_table m c.ahm c.tables stores d.tables i (λ ps. IsSomeAnd (slice_get ps j) (λ q. q ≡ p)) (HasOwn m c.ahm p) are.tables there
    (λ t ps u own stands.
    let has : HasHistory m c.ahm u.rows p = told p.entry.fresh (HasHistory m c.ahm u.rows p) (rows_in m c.ahm u.rows ps j p own stands.rows).fresh fresh in
    record { history = has; vectors = has_vectors m c.ahm u.rows p has })

some_weaker : {X : Type 0} (o : Option X) (P Q : X → Type 0) → ((x : X) → P x → Q x) → IsSomeAnd o P → IsSomeAnd o Q
some_weaker None P Q wider there = absurd there
some_weaker (Some x) P Q wider there = wider x there

some_tells : {X : Type 0} (o : Option X) (P : X → Type 0) (Q : Type 0) → ((x : X) → P x → Q) → IsSomeAnd o P → Q
some_tells None P Q tells there = absurd there
some_tells (Some x) P Q tells there = tells x there

pub own_vectors : (m : Contents) (mark : ℕ) (p : Projected) (d : Database) (i : ℕ) → IsSomeAnd (slice_get d.tables i) (HasOwn m mark p) → HasVectors m p
own_vectors m mark p d i own = some_tells (slice_get d.tables i) (HasOwn m mark p) (HasVectors m p) (λ u has. has.vectors) own

pub kept_holds : (m n : Contents) (mark : ℕ) (p : Projected) (entry : Projection) (d : Database) (i : ℕ) → d.ahm ≡ mark → IsRenewal p.entry entry → KeepsFrom mark m n p entry → IsSomeAnd (slice_get d.tables i) (HasOwn m mark p) → HoldsTable n i entry d
kept_holds m n mark p entry d i ahm renewal keeps own =
    some_weaker (slice_get d.tables i) (HasOwn m mark p) (λ u. (held : List Stamped) × Holds n entry held × IsHistoryOf d.ahm entry held u.rows)
    (λ u has. subst (λ (k : ℕ). (held : List Stamped) × Holds n entry held × IsHistoryOf k entry held u.rows) (sym ahm) (kept_table m n mark u p entry renewal keeps has.history)) own

-- ---- the shape of a projection

shape_at : (ps : List Projected) (ss : List Shape) (j : ℕ) (p : Projected) (P : Shape → Type 0) → ss ≡ map (λ (q : Projected). shape_of q.entry) ps → IsSomeAnd (slice_get ps j) (λ q. q ≡ p) → P (shape_of p.entry) → IsSomeAnd (slice_get ss j) P
shape_at [] ss j p P are there is = absurd there
shape_at (q ∷ ps) [] j p P are there is = absurd (cc)
shape_at (q ∷ ps) (s ∷ ss) zero p P are there is =
    let same : s ≡ shape_of q.entry = cc in
    subst P (sym (same ∙ ap (λ (r : Projected). shape_of r.entry) there)) is
shape_at (q ∷ ps) (s ∷ ss) (suc j) p P are there is =
    let rest : ss ≡ map (λ (r : Projected). shape_of r.entry) ps = cc in
    shape_at ps ss j p P rest there is

map_twice : {X Y Z : Type 0} (g : Y → Z) (f : X → Y) (xs : List X) → map g (map f xs) ≡ map (λ x. g (f x)) xs
map_twice g f [] = refl
map_twice {X} {Y} {Z} g f (x ∷ xs) = ap (λ (zs : List Z). g (f x) ∷ zs) (map_twice g f xs)

pub own_shape : (m : Contents) (c : Catalogue) (stores : List (List Projected)) (d : Database) (i j : ℕ) (p : Projected) (P : Shape → Type 0) → IsOwnAt stores i j p → AreDatabase m c stores d → P (shape_of p.entry)
    → IsSomeAnd (slice_get d.tables i) (λ t. IsSomeAnd (slice_get t.shapes j) P)
own_shape m c stores d i j p P there are is =
    at_table m c.ahm c.tables stores d.tables i (λ ps. IsSomeAnd (slice_get ps j) (λ q. q ≡ p)) (λ u. IsSomeAnd (slice_get u.shapes j) P) are.tables there
    (λ t ps u own stands. shape_at ps u.shapes j p P (stands.shapes ∙ ap (map shape_of) (sym stands.entries) ∙ map_twice shape_of (λ (q : Projected). q.entry) ps) own is)

pub own_stores : (m : Contents) (mark : ℕ) (p : Projected) (d : Database) (i : ℕ) → IsSomeAnd (slice_get d.tables i) (HasOwn m mark p) → (rows : List Stamped) × Stores m p rows
own_stores m mark p d i own = some_tells (slice_get d.tables i) (HasOwn m mark p) ((rows : List Stamped) × Stores m p rows) (λ u has. (has.history.stored, has.history.are)) own
