-- What a store stands for while other files change, and after a commit of its catalogue.
use Rattle.std.proofs.Common.{◌≡◌, ℕ, ◌<◌, Bool, true, false, List, [], ◌∷◌, Option, refl, sym, ◌∙◌, arith, subst, inl, inr}
use Rattle.std.specs.Prelude.{◌⊎◌}
use Rattle.std.specs.Bool.{OnTrue}
use Rattle.std.specs.List.{All}
use Rattle.std.proofs.lemmas.List.Elements.{All-head, All-tail, All-cons, All-nil}
use Rattle.common_laws.specs.Maps.{Contents}
use Rattle.col_disk.specs.Moved.{Changed, Moved, NoName, ImageOf, Leaves}
use Rattle.col_disk.specs.declared.disk.Disk.{Ghosts}
use Rattle.col_disk.proofs.Moving.{changed_kept, moved_told, leaves_wider}
use Rattle.col_value.specs.declared.row.Stamped.{Stamped}
use Rattle.catalog_types.specs.declared.catalogue.Table as kept
use Rattle.catalog_types.specs.declared.catalogue.Catalogue.{Catalogue}
use Rattle.catalog_root.specs.declared.found.Found.{Found}
use Rattle.catalog_root.specs.declared.found.Found.TheVariants.{Fresh, Root}
use Rattle.catalog_root.specs.Root.{data_file, Opens}
use Rattle.catalog_root.specs.Crash.{RootNames, IsOld, IsReplaced, OldOrNew}
use Rattle.catalog_root.specs.Quiet.{KeepsRoot, IsSpare, IsUseless}
use Rattle.catalog_root.proofs.Quieting.{quiet_moved, quiet_leaves, quiet_replaced, listed_stay}
use Rattle.db_model.specs.Database.{Database, Table}
use Rattle.db_model.specs.Epochs.{last_good, cut}
use Rattle.db_model.specs.Sound.{IsSoundDatabase}
use Rattle.db_laws.proofs.Sounds.{cut_sound}
use Rattle.stored_rows.specs.Listed.{SameEntry}
use Rattle.stored_rows.specs.Stored.{Projected}
use Rattle.stored_rows.proofs.KeptRows.{stored_kept}
use Rattle.folder_model.specs.Projections.{HasRows}
use Rattle.folder_model.specs.Tables.{StandsForTable, StandForTables, AreDatabase}
use Rattle.folder_model.specs.Reopening.{Reopens}
use Rattle.folder_model.specs.Standing.{IsRootOf, StandsFor}
use Rattle.folder_model.proofs.ListedFiles.{SameTables, tables_same}
use Rattle.folder_model.proofs.LastGoods.{mark_below_good}
use Rattle.folder_model.proofs.CutTables.{of_entries, image_reopens}

on_true : (b : Bool) {P Q : Type 0} → (P → Q) → OnTrue b P → OnTrue b Q
on_true true h p = h p
on_true false h p = tt

rows_moved : (m n : Contents) (mark : ℕ) (rows : List Stamped) (p : Projected) → SameEntry m n p.entry → HasRows m mark rows p → HasRows n mark rows p
rows_moved m n mark rows p same has = record {
  fresh = on_true p.entry.fresh (λ h. record { stored = h.stored; are = stored_kept m n p h.stored same h.are; history = h.history; above = h.above }) has.fresh;
  stale = has.stale;
}

table_moved : (m n : Contents) (mark : ℕ) (t : kept.Table) (ps : List Projected) (u : Table) → All (SameEntry m n) t.projections → StandsForTable m mark t ps u → StandsForTable n mark t ps u
table_moved m n mark t ps u same stands = record {
  name = stands.name;
  columns = stands.columns;
  shapes = stands.shapes;
  entries = stands.entries;
  rows = each ps (of_entries (SameEntry m n) ps t.projections stands.entries same) stands.rows;
}
  where
    each : (qs : List Projected) → All (λ p. SameEntry m n p.entry) qs → All (HasRows m mark u.rows) qs → All (HasRows n mark u.rows) qs
    each [] files all = All-nil (HasRows n mark u.rows)
    each (p ∷ qs) files all =
        All-cons (HasRows n mark u.rows) p qs (rows_moved m n mark u.rows p (All-head (λ x. SameEntry m n x.entry) p qs files) (All-head (HasRows m mark u.rows) p qs all))
        (each qs (All-tail (λ x. SameEntry m n x.entry) p qs files) (All-tail (HasRows m mark u.rows) p qs all))

all_moved : (m n : Contents) (mark : ℕ) (ts : List kept.Table) (pss : List (List Projected)) (us : List Table) → SameTables m n ts → StandForTables m mark ts pss us → StandForTables n mark ts pss us
all_moved m n mark [] [] [] same stand = tt
all_moved m n mark [] [] (u ∷ us) same stand = absurd stand
all_moved m n mark [] (ps ∷ pss) us same stand = absurd stand
all_moved m n mark (t ∷ ts) [] us same stand = absurd stand
all_moved m n mark (t ∷ ts) (ps ∷ pss) [] same stand = absurd stand
all_moved m n mark (t ∷ ts) (ps ∷ pss) (u ∷ us) same (here, more) = (
  table_moved m n mark t ps u (All-head (λ x. All (SameEntry m n) x.projections) t ts same) here,
  all_moved m n mark ts pss us (All-tail (λ x. All (SameEntry m n) x.projections) t ts same) more,
)

pub database_moved : (m n : Contents) (c : Catalogue) (stores : List (List Projected)) (d : Database) → SameTables m n c.tables → AreDatabase m c stores d → AreDatabase n c stores d
database_moved m n c stores d same are = record { last = are.last; ahm = are.ahm; tables = all_moved m n c.ahm c.tables stores d.tables same are.tables }

-- the files that a root lists, where only others moved
listed_kept : (W R : ℕ → Type 0) (m n : Contents) (c : Catalogue) (root : Found) → IsRootOf c root → ((q : ℕ) → W q → IsSpare root q) → ((q : ℕ) → R q → IsUseless root q)
    → Changed W R m n → SameTables m n c.tables
listed_kept W R m n c Fresh (tables, last, ahm) written removed changed = subst (λ (ts : List kept.Table). SameTables m n ts) (sym tables) (All-nil (λ t. All (SameEntry m n) t.projections))
listed_kept W R m n c (Root v r) (tables, ahm, drawn, last) written removed changed =
    subst (SameTables m n) tables (tables_same m n r (λ k listed. listed_stay W R m n v r written removed changed k listed))

-- other files are written and removed
pub stands_moved : {D : Type 0} (disk : Ghosts D) {W R : ℕ → Type 0} {old new : D} (c : Catalogue) (stores : List (List Projected)) (d : Database)
    → (stands : StandsFor c stores (disk.holds old) (ImageOf disk old) d) → ((q : ℕ) → W q → IsSpare stands.root q) → ((q : ℕ) → R q → IsUseless stands.root q)
    → Moved disk W R old new → StandsFor c stores (disk.holds new) (ImageOf disk new) d
stands_moved disk {W} {R} {old} {new} c stores d stands written removed moved =
    let (n, quiet, changed) = quiet_moved disk {W = W} {R = R} {old = old} {new = new} stands.root stands.files written removed moved stands.quiet in
    record {
      files = n;
      are = database_moved stands.files n c stores d (listed_kept W R stands.files n c stands.root stands.is_root written removed changed) stands.are;
      sound = stands.sound;
      root = stands.root;
      is_root = stands.is_root;
      quiet = quiet;
    }

-- no data file is a body or a gate
not_root : (version i : ℕ) → RootNames version (data_file i) → ⊥
not_root version i (inl is) = omega (arith, is)
not_root version i (inr is) = omega (arith, is)

-- a catalogue was committed
pub stands_new : (told : Option Contents) (image : Contents → Type 0) (version : ℕ) (c : Catalogue) (stores : List (List Projected)) (m : Contents) (d : Database)
    → AreDatabase m c stores d → IsSoundDatabase d → version < c.next → IsReplaced told image version c m → (s : StandsFor c stores told image d) × (s.root ≡ Root version c)
stands_new told image version c stores m d are sound drawn replaced =
    let (n, quiet, new) = quiet_replaced told image version c m replaced in (
      record {
        files = n;
        are = database_moved m n c stores d (tables_same m n c (λ k listed. changed_kept (RootNames version) NoName m n (data_file k) (not_root version k) (λ r. r) new.like)) are;
        sound = sound;
        root = Root version c;
        is_root = (refl, refl, drawn, λ none. refl);
        quiet = quiet;
      },
      refl,
    )

pub stands_committed : (told : Option Contents) (image : Contents → Type 0) (version : ℕ) (c : Catalogue) (stores : List (List Projected)) (m : Contents) (d : Database)
    → AreDatabase m c stores d → IsSoundDatabase d → version < c.next → IsReplaced told image version c m → StandsFor c stores told image d
stands_committed told image version c stores m d are sound drawn replaced = (stands_new told image version c stores m d are sound drawn replaced).0

-- ---- at any moment of a commit

old_quiet : (m x y : Contents) (root : Found) (version : ℕ) → KeepsRoot m root y → Opens x root → Changed (RootNames version) NoName y x → KeepsRoot m root x
old_quiet m x y Fresh version quiet opens like = record { opens = opens; same = tt }
old_quiet m x y (Root v r) version quiet opens like = record {
  opens = opens;
  same = λ k listed. changed_kept (RootNames version) NoName y x (data_file k) (not_root version k) (λ q. q) like ∙ quiet.same k listed;
}

reopens : (m x : Contents) (c : Catalogue) (stores : List (List Projected)) (d : Database) (root : Found) → AreDatabase m c stores d → IsSoundDatabase d → IsRootOf c root → KeepsRoot m root x
    → Reopens x (cut (last_good d) d)
reopens m x c stores d root are sound is_root quiet =
    let marked = mark_below_good d sound in
    image_reopens m x c stores d root are marked (cut_sound (last_good d) d marked sound) is_root quiet

pub stands_reopens : (c : Catalogue) (stores : List (List Projected)) (told : Option Contents) (image : Contents → Type 0) (d : Database) → StandsFor c stores told image d
    → (x : Contents) → image x → Reopens x (cut (last_good d) d)
stands_reopens c stores told image d stands x is = reopens stands.files x c stores d stands.root stands.are stands.sound stands.is_root (stands.quiet.every x is)

pub commit_reopens : (c k : Catalogue) (stores others : List (List Projected)) (told : Option Contents) (image : Contents → Type 0) (version : ℕ) (d e : Database) (stands : StandsFor c stores told image d)
    → AreDatabase stands.files k others e → IsSoundDatabase e → version < k.next → (x : Contents) → OldOrNew stands.root version k image stands.files x
    → Reopens x (cut (last_good d) d) ⊎ Reopens x (cut (last_good e) e)
commit_reopens c k stores others told image version d e stands are sound drawn x (inl old) =
    let (y, is, like) = old.like in
    inl (reopens stands.files x c stores d stands.root stands.are stands.sound stands.is_root (old_quiet stands.files x y stands.root version (stands.quiet.every y is) old.opens like))
commit_reopens c k stores others told image version d e stands are sound drawn x (inr new) =
    inr (reopens stands.files x k others e (Root version k) are sound (refl, refl, drawn, λ none. refl) (record {
      opens = new.written.root;
      same = λ n listed. changed_kept (RootNames version) NoName stands.files x (data_file n) (not_root version n) (λ q. q) new.like;
    }))

-- ---- a commit that was given up

undone_quiet : (m n x y : Contents) (root : Found) (version : ℕ) → Changed (RootNames version) NoName m n → KeepsRoot m root y → Opens x root → Changed (RootNames version) NoName y x → KeepsRoot n root x
undone_quiet m n x y Fresh version told quiet opens like = record { opens = opens; same = tt }
undone_quiet m n x y (Root v r) version told quiet opens like = record {
  opens = opens;
  same = λ k listed.
      changed_kept (RootNames version) NoName y x (data_file k) (not_root version k) (λ q. q) like ∙ quiet.same k listed
      ∙ sym (changed_kept (RootNames version) NoName m n (data_file k) (not_root version k) (λ q. q) told);
}

pub stands_undone : {D : Type 0} (disk : Ghosts D) {old new : D} (version : ℕ) (c : Catalogue) (stores : List (List Projected)) (d : Database) → (stands : StandsFor c stores (disk.holds old) (ImageOf disk old) d)
    → Moved disk (RootNames version) NoName old new → ((x : Contents) → ImageOf disk new x → IsOld stands.root version (ImageOf disk old) x) → StandsFor c stores (disk.holds new) (ImageOf disk new) d
stands_undone disk {old} {new} version c stores d stands moved each =
    let (n, told, changed) = moved_told disk stands.files stands.quiet.told_is moved in
    record {
      files = n;
      are = database_moved stands.files n c stores d (tables_same stands.files n c (λ k listed. changed_kept (RootNames version) NoName stands.files n (data_file k) (not_root version k) (λ r. r) changed)) stands.are;
      sound = stands.sound;
      root = stands.root;
      is_root = stands.is_root;
      quiet = record { told_is = told; every = λ x is. by n changed x (each x is) };
    }
  where
    by : (n : Contents) → Changed (RootNames version) NoName stands.files n → (x : Contents) → IsOld stands.root version (ImageOf disk old) x → KeepsRoot n stands.root x
    by n changed x before = let (y, is, like) = before.like in undone_quiet stands.files n x y stands.root version changed (stands.quiet.every y is) before.opens like

-- whatever a crash leaves while other files are written and removed
pub moved_reopens : {D : Type 0} (disk : Ghosts D) {W R : ℕ → Type 0} {old new : D} (c : Catalogue) (stores : List (List Projected)) (d : Database)
    → (stands : StandsFor c stores (disk.holds old) (ImageOf disk old) d) → ((q : ℕ) → W q → IsSpare stands.root q) → ((q : ℕ) → R q → IsUseless stands.root q)
    → Moved disk W R old new → Leaves disk (λ x. Reopens x (cut (last_good d) d)) old new
moved_reopens disk {W} {R} {old} {new} c stores d stands written removed moved =
    leaves_wider disk (λ x quiet. reopens stands.files x c stores d stands.root stands.are stands.sound stands.is_root quiet)
    (quiet_leaves disk {W = W} {R = R} {old = old} {new = new} stands.root stands.files written removed moved stands.quiet)
