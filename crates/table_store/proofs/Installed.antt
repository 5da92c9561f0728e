-- What the store stands for after a projection got another entry.
use Rattle.std.proofs.Common.{◌≡◌, ℕ, zero, suc, ◌<◌, ◌≤◌, Bool, true, false, List, [], ◌∷◌, length, map, get_or, refl, sym, ◌∙◌, ap, subst, arith}
use Rattle.std.specs.Prelude.{Some, Result, Err, IsSomeAnd}
use Rattle.std.specs.Bool.{OnTrue, OnFalse}
use Rattle.std.specs.List.{All, slice_get}
use Rattle.std.proofs.lemmas.Option.{same_Some}
use Rattle.std.proofs.lemmas.List.{get_or_default, length-map}
use Rattle.std.proofs.lemmas.List.Elements.{All-nil}
use Rattle.common_laws.specs.Maps.{Contents}
use Rattle.col_disk.specs.Moved.{Looks, Moved, NoName}
use Rattle.col_disk.specs.declared.disk.Disk.{Ghosts}
use Rattle.col_disk.specs.declared.disk.DiskFault.{DiskFault}
use Rattle.col_disk.specs.declared.disk.DiskFault.TheVariants as disk_fault
use Rattle.col_disk.proofs.Moving.{moved_none, moved_read}
use Rattle.col_value.specs.declared.row.Stamped.{Stamped}
use Rattle.catalog_types.specs.declared.catalogue.Catalogue.{Catalogue}
use Rattle.catalog_types.specs.declared.catalogue.Projection.{Projection}
use Rattle.catalog_types.specs.declared.catalogue.Table as kept
use Rattle.catalog_root.specs.declared.found.Found.{Found}
use Rattle.catalog_root.specs.Quiet.{IsSpare}
use Rattle.db_model.specs.Database.{Database, Table}
use Rattle.db_model.specs.Mover.{reached_to}
use Rattle.db_model.specs.Sound.{IsSoundDatabase}
use Rattle.stored_rows.specs.Held.{Holds}
use Rattle.stored_rows.specs.Stored.{Projected, IsLoaded}
use Rattle.folder_model.specs.Projections.{shape_of, HasHistory, HasRows, IsBare, IsHistoryOf}
use Rattle.folder_model.specs.Tables.{StandsForTable, StandForTables, AreDatabase}
use Rattle.folder_model.proofs.Committing.{stands_moved}
use Rattle.proj_store.specs.Loaded.{Loaded}
use Rattle.sound_laws.specs.Moves.{change_at, reached_in, reached_at}
use Rattle.sound_laws.proofs.Moved.{reached_sound}
use Rattle.store_commit.specs.Seen.{Seen, Stands, seen}
use Rattle.store_commit.specs.Making.{Makes}
use Rattle.table_store.specs.Held.{at_epoch, projections_of}
use Rattle.table_store.specs.Installing.{HoldsTable, IsRenewal, IsRenewalAt}
use Rattle.table_store.specs.Moving.{with_entry, with_entry_at}
use Rattle.table_store.proofs.Moved.{all_changed, at_place, entry_at, map_changed, nothing_later, ReadIsStored, stored_at}
use Rattle.table_store.proofs.Makes.{move_makes, wrote_only}

-- ---- the projection

on_fresh : (b : Bool) (P : Type 0) → b ≡ true → P → OnTrue b P
on_fresh true P is p = p
on_fresh false P is p = tt

off_fresh : (b : Bool) (P : Type 0) → b ≡ true → OnFalse b P
off_fresh true P is = tt
off_fresh false P is = absurd (cc)

renewed_has : ReadIsStored → (m : Contents) (mark : ℕ) (rows held : List Stamped) (new : Projected) → IsLoaded m new → Holds m new.entry held → IsHistoryOf mark new.entry held rows → HasHistory m mark rows new
renewed_has read m mark rows held new loaded holds history = record {
  stored = held;
  are = read m new held loaded holds;
  history = history;
  above = record {
    rows = subst (All (λ s. new.entry.lge < s.ins)) (sym loaded.unsaved) (All-nil (λ s. new.entry.lge < s.ins));
    marks = nothing_later new.entry.lge m new.entry.containers new.beside loaded.beside;
  };
}

renewed_rows : ReadIsStored → (m : Contents) (mark : ℕ) (rows held : List Stamped) (old : Projection) (new : Projected) → IsRenewal old new.entry → IsLoaded m new → Holds m new.entry held → IsHistoryOf mark new.entry held rows
    → HasRows m mark rows new
renewed_rows read m mark rows held old new renewal loaded holds history =
    let now : new.entry.fresh ≡ true = ap (λ (e : Projection). e.fresh) renewal in
    record {
      fresh = on_fresh new.entry.fresh (HasHistory m mark rows new) now (renewed_has read m mark rows held new loaded holds history);
      stale = off_fresh new.entry.fresh (IsBare new) now;
    }

-- ---- the table

-- the files of an entry hold the rows of a table
abbrev HoldsRowsOf : Contents → ℕ → Projection → Table → Type 0
HoldsRowsOf m mark entry u = (held : List Stamped) × Holds m entry held × IsHistoryOf mark entry held u.rows

-- the projection at a place of a table is the one that got another entry
abbrev IsOwnAt : ℕ → Projection → List Projected → Type 0
IsOwnAt j entry ps = IsSomeAnd (slice_get ps j) (λ p. IsRenewal p.entry entry)

table_renewed : ReadIsStored → (m : Contents) (mark j : ℕ) (t : kept.Table) (ps : List Projected) (u : Table) (new : Projected) → IsLoaded m new → IsOwnAt j new.entry ps → HoldsRowsOf m mark new.entry u → StandsForTable m mark t ps u
    → StandsForTable m mark (with_entry j new.entry t) (change_at j (λ p. new) ps) (reached_in new.entry.lge j u)
table_renewed read m mark j t ps u new loaded own (held, holds, history) stands =
    let (old, lt, is, renewal) = at_place ps j (λ (p : Projected). IsRenewal p.entry new.entry) own in
    let within : j < length t.projections = omega (arith, lt, sym (length-map ps (λ (p : Projected). p.entry)) ∙ ap length stands.entries) in
    record {
      name = stands.name;
      columns = stands.columns;
      shapes =
          ap (change_at j (reached_to new.entry.lge)) stands.shapes
          ∙ sym (map_changed shape_of j (λ p. new.entry) (reached_to new.entry.lge) t.projections old.entry within (entry_at ps t.projections j old stands.entries lt is) (ap shape_of renewal));
      entries = map_changed (λ (p : Projected). p.entry) j (λ p. new) (λ e. new.entry) ps old lt is refl ∙ ap (change_at j (λ e. new.entry)) stands.entries;
      rows = all_changed (HasRows m mark u.rows) j new ps (renewed_rows read m mark u.rows held old.entry new renewal loaded holds history) stands.rows;
    }

-- ---- the catalogue

stand_at : (m : Contents) (mark : ℕ) (ts : List kept.Table) (pss : List (List Projected)) (us : List Table) (i : ℕ) (f : kept.Table → kept.Table) (g : List Projected → List Projected) (h : Table → Table) (P : List Projected → Type 0) (Q : Table → Type 0)
    → IsSomeAnd (slice_get pss i) P → IsSomeAnd (slice_get us i) Q → ((t : kept.Table) (ps : List Projected) (u : Table) → P ps → Q u → StandsForTable m mark t ps u → StandsForTable m mark (f t) (g ps) (h u))
    → StandForTables m mark ts pss us → StandForTables m mark (change_at i f ts) (change_at i g pss) (change_at i h us)
stand_at m mark [] [] [] i f g h P Q p q change stand = tt
stand_at m mark [] [] (u ∷ us) i f g h P Q p q change stand = absurd stand
stand_at m mark [] (ps ∷ pss) us i f g h P Q p q change stand = absurd stand
stand_at m mark (t ∷ ts) [] us i f g h P Q p q change stand = absurd stand
stand_at m mark (t ∷ ts) (ps ∷ pss) [] i f g h P Q p q change stand = absurd stand
stand_at m mark (t ∷ ts) (ps ∷ pss) (u ∷ us) zero f g h P Q p q change (here, more) = (change t ps u p q here, more)
stand_at m mark (t ∷ ts) (ps ∷ pss) (u ∷ us) (suc i) f g h P Q p q change (here, more) = (here, stand_at m mark ts pss us i f g h P Q p q change more)

installed_are : ReadIsStored → (m : Contents) (c : Catalogue) (stores : List (List Projected)) (d : Database) (version i j : ℕ) (new : Projected) → IsLoaded m new → IsRenewalAt stores i j new.entry → HoldsTable m i new.entry d → AreDatabase m c stores d
    → AreDatabase m (with_entry_at c.last version i j new.entry c) (change_at i (change_at j (λ p. new)) stores) (reached_at new.entry.lge i j d)
installed_are read m c stores d version i j new loaded own holds are = record {
  last = are.last;
  ahm = are.ahm;
  tables =
      stand_at m c.ahm c.tables stores d.tables i (with_entry j new.entry) (change_at j (λ p. new)) (reached_in new.entry.lge j) (IsOwnAt j new.entry) (HoldsRowsOf m c.ahm new.entry) own
      (subst (λ (mark : ℕ). IsSomeAnd (slice_get d.tables i) (HoldsRowsOf m mark new.entry)) are.ahm holds)
      (λ t ps u mine rows stands. table_renewed read m c.ahm j t ps u new loaded mine rows stands) are.tables;
}

-- ---- the commit

no_file : (f : Found) (q : ℕ) → NoName q → IsSpare f q
no_file f q none = absurd none

-- the projection was read again, and then the catalogue with its entry was committed, or that failed
pub install_made : ReadIsStored → {D : Type 0} (disk : Ghosts D) {old mid new : D} (root c : Catalogue) (last : ℕ) (stores : List (List Projected)) (now : Seen) (i j version : ℕ) (one : Projected) (entry : Projection) (result : Result (Unit {0}) DiskFault) (d : Database)
    → ((was : Seen) (stores : List (List Projected)) (d e : Database) → (stands : Stands disk was mid d) → was.catalogue.next ≤ version → AreDatabase stands.files c stores e → IsSoundDatabase e → Makes disk disk_fault.Memory was (seen c stores) mid new result d e)
    → seen (at_epoch last root) stores ≡ now → IsRenewalAt stores i j entry → one.entry ≡ entry → ((m : Contents) → disk.holds old ≡ Some m → IsLoaded m one) → Looks disk old mid → c ≡ with_entry_at last version i j entry root
    → root.next ≤ version → root.ahm ≤ entry.lge → entry.lge ≤ last → (stands : Stands disk now old d) → HoldsTable stands.files i entry d
    → Makes disk disk_fault.Memory now (seen c (change_at i (change_at j (λ x. one)) stores)) old new result d (reached_at entry.lge i j d)
install_made read {D} disk {old} {mid} {new} root c last stores now i j version one entry result d made view own is loaded looks catalogue drawn mark closed stands holds =
    let moved : Moved disk NoName NoName old mid = moved_read disk {W = NoName} {R = NoName} looks in
    let then : Stands disk now mid d = stands_moved disk {W = NoName} {R = NoName} now.catalogue now.stores d stands (no_file stands.root) (λ q no. absurd no) moved in
    let same : then.files ≡ stands.files = same_Some then.files stands.files (sym then.quiet.told_is ∙ looks.contents ∙ stands.quiet.told_is) in
    let read_in : IsLoaded then.files one = subst (λ (m : Contents). IsLoaded m one) (sym same) (loaded stands.files stands.quiet.told_is) in
    let rows : HoldsTable then.files i one.entry d = subst (λ (e : Projection). HoldsTable then.files i e d) (sym is) (subst (λ (m : Contents). HoldsTable m i entry d) (sym same) holds) in
    let here : AreDatabase then.files (at_epoch last root) stores d = subst (λ (s : Seen). AreDatabase then.files s.catalogue s.stores d) (sym view) then.are in
    let renewal : IsRenewalAt stores i j one.entry = subst (IsRenewalAt stores i j) (sym is) own in
    let at : c ≡ with_entry_at last version i j one.entry root = catalogue ∙ ap (λ (e : Projection). with_entry_at last version i j e root) (sym is) in
    let epoch : one.entry.lge ≡ entry.lge = ap (λ (e : Projection). e.lge) is in
    let are : AreDatabase then.files c (change_at i (change_at j (λ x. one)) stores) (reached_at entry.lge i j d) =
    subst (λ (k : Catalogue). AreDatabase then.files k (change_at i (change_at j (λ x. one)) stores) (reached_at entry.lge i j d)) (sym at)
    (subst (λ (n : ℕ). AreDatabase then.files (with_entry_at last version i j one.entry root) (change_at i (change_at j (λ x. one)) stores) (reached_at n i j d)) epoch
    (installed_are read then.files (at_epoch last root) stores d version i j one read_in renewal rows here)) in
    let next : now.catalogue.next ≤ version = subst (λ (s : Seen). s.catalogue.next ≤ version) view drawn in
    move_makes disk disk_fault.Memory now (seen c (change_at i (change_at j (λ x. one)) stores)) result d (reached_at entry.lge i j d) stands {W = NoName} (no_file stands.root) moved
    (made now (change_at i (change_at j (λ x. one)) stores) d (reached_at entry.lge i j d) then next are
    (reached_sound d entry.lge i j (omega (arith, mark, here.ahm)) (omega (arith, closed, here.last)) stands.sound))

-- nothing was done
pub nothing_done : {D F : Type 0} (disk : Ghosts D) (short : F) (now : D) (was : Seen) (f : F) (d e : Database) → Stands disk was now d → Makes disk short was was now now (Err f) d e
nothing_done disk short now was f d e stands = wrote_only disk short {W = NoName} was was f d e stands (no_file stands.root) (moved_none disk now)

-- nothing but reading was done
pub read_only : {D F : Type 0} (disk : Ghosts D) (short : F) {old new : D} (was is : Seen) (f : F) (d e : Database) → Stands disk was old d → Looks disk old new → Makes disk short was is old new (Err f) d e
read_only disk short {old} {new} was is f d e stands looks =
    wrote_only disk short {W = NoName} was is f d e stands (no_file stands.root) (moved_read disk {W = NoName} {R = NoName} looks)

-- where the projection stands
pub renewed_table : (tables : List (List Loaded)) (i j : ℕ) (entry : Projection) → IsRenewalAt (map projections_of tables) i j entry → i < length tables
renewed_table tables i j entry own =
    let (ps, lt, ps_are, inner) = at_place (map projections_of tables) i (λ qs. IsSomeAnd (slice_get qs j) (λ p. IsRenewal p.entry entry)) own in
    omega (arith, lt, length-map tables projections_of)

pub renewed_place : (tables : List (List Loaded)) (i j : ℕ) (entry : Projection) (ps : List Loaded) → ps ≡ get_or tables i ps → IsRenewalAt (map projections_of tables) i j entry → j < length ps
renewed_place tables i j entry ps is own =
    let (qs, lt, qs_are, inner) = at_place (map projections_of tables) i (λ rs. IsSomeAnd (slice_get rs j) (λ p. IsRenewal p.entry entry)) own in
    let (q, below, q_is, now) = at_place qs j (λ p. IsRenewal p.entry entry) inner in
    let same : qs ≡ projections_of ps = qs_are ∙ get_or_default (map projections_of tables) i qs (projections_of ps) lt ∙ sym (stored_at tables i ps (renewed_table tables i j entry own) is) in
    omega (arith, below, ap length same, length-map ps (λ p. p.stored))
