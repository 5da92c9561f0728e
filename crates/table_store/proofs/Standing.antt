-- What the store stands for after a commit of a session's changes.
use Rattle.std.proofs.Common.{◌≡◌, ℕ, ◌+◌, ◌<◌, Bool, true, false, List, [], ◌∷◌, map, refl, sym, ◌∙◌, ap, ap₂, subst, inl, arith}
use Rattle.std.specs.Prelude.{◌||◌, ◌&&◌, Option, Some, None, Ok, Err, unwrap_or, fold}
use Rattle.std.specs.Bool.{OnTrue}
use Rattle.std.specs.List.{All, list_any, slice_index_or}
use Rattle.std.proofs.lemmas.List.Elements.{All-head, All-tail, All-cons, All-nil}
use Rattle.common_laws.specs.Maps.{Contents}
use Rattle.col_disk.specs.Moved.{Moved, NoName, ImageOf}
use Rattle.col_disk.specs.declared.disk.Disk.{Ghosts}
use Rattle.col_disk.specs.declared.disk.StoreFault.{StoreFault}
use Rattle.col_disk.specs.declared.disk.StoreFault.TheVariants as fault
use Rattle.col_disk.proofs.Moving.{leaves_wider}
use Rattle.catalog_types.specs.declared.catalogue.Projection.{Projection}
use Rattle.catalog_types.specs.declared.catalogue.Table as kept
use Rattle.catalog_types.specs.declared.catalogue.Catalogue.{Catalogue}
use Rattle.catalog_types.specs.Reached.{earlier, table_reached, all_reached, least_lge}
use Rattle.catalog_root.specs.declared.found.Found.{Found}
use Rattle.catalog_root.specs.declared.found.Found.TheVariants.{Fresh, Root}
use Rattle.db_model.specs.Database.{Database, Table, table_named, ordinals, has_columns, is_super}
use Rattle.db_model.specs.State.{Changes, has_changes, committed}
use Rattle.db_model.specs.Sound.{ReachesMark, IsSoundShape, IsSoundTable, IsSoundDatabase, ChangesFit, IsSoundSession}
use Rattle.stored_rows.specs.Stored.{Projected}
use Rattle.proj_store.specs.Loaded.{Loaded}
use Rattle.proj_store.specs.Marking.{Places}
use Rattle.folder_model.specs.Projections.{shape_of}
use Rattle.folder_model.specs.Tables.{StandForTables, AreDatabase}
use Rattle.folder_model.specs.Standing.{IsRootOf, StandsFor}
use Rattle.folder_model.proofs.LastGoods.{good_below}
use Rattle.folder_model.proofs.CutTables.{of_entries}
use Rattle.folder_model.proofs.Committing.{stands_moved, moved_reopens}
use Rattle.store_commit.specs.Seen.{Seen, Stands, seen}
use Rattle.store_commit.specs.Making.{Makes}
use Rattle.table_store.specs.Held.{at_epoch, projections_of, seen_of, IsHeld}
use Rattle.table_store.specs.Changing.{Ready, applied, all_applied, deleted_from, tables_applied}
use Rattle.table_store.specs.Committing.{AreReady}
use Rattle.sound_laws.specs.Commits.{commit_table}
use Rattle.sound_laws.proofs.Changes.{changes_committed, names_differ, found_all, all_within}
use Rattle.table_store.proofs.Changes.{tables_committed}

-- ---- a catalogue whose tables have an up-to-date projection has reached an epoch

none_fresh : (c : Catalogue) → all_reached c ≡ None → All (λ t. All (λ p. p.fresh ≡ true → ⊥) t.projections) c.tables
none_fresh c none = λ k t lt i p below fresh.
    let n : ℕ = (slice_index_or (slice_index_or c.tables k t).projections i p).lge in
    let le = good_below (record c { last = n + 1 }) k t lt i p below fresh in
    let is : least_lge (record c { last = n + 1 }) ≡ n + 1 = ap (λ (o : Option ℕ). unwrap_or o (n + 1)) none in
    omega (arith, le, is)

no_super : (u : Table) (ps : List Projection) → All (λ p. p.fresh ≡ true → ⊥) ps → list_any (is_super u) (map shape_of ps) ≡ true → ⊥
no_super u [] stale there = absurd (cc)
no_super u (p ∷ ps) stale there = by p.fresh refl (no_super u ps (All-tail (λ q. q.fresh ≡ true → ⊥) p ps stale))
  where
    by : (b : Bool) → p.fresh ≡ b → (list_any (is_super u) (map shape_of ps) ≡ true → ⊥) → ⊥
    by true is rest = All-head (λ q. q.fresh ≡ true → ⊥) p ps stale is
    by false is rest = rest (sym (ap (λ (b : Bool). (b && has_columns (shape_of p) (ordinals u)) || list_any (is_super u) (map shape_of ps)) is) ∙ there)

no_reached : (m : Contents) (mark : ℕ) (d : Database) (ts : List kept.Table) (pss : List (List Projected)) (us : List Table) → StandForTables m mark ts pss us → All (IsSoundTable d) us → (us ≡ [] → ⊥)
    → All (λ t. All (λ p. p.fresh ≡ true → ⊥) t.projections) ts → ⊥
no_reached m mark d [] [] [] stand sound some stale = some refl
no_reached m mark d [] [] (u ∷ us) stand sound some stale = absurd stand
no_reached m mark d [] (ps ∷ pss) us stand sound some stale = absurd stand
no_reached m mark d (t ∷ ts) [] us stand sound some stale = absurd stand
no_reached m mark d (t ∷ ts) (ps ∷ pss) [] stand sound some stale = absurd stand
no_reached m mark d (t ∷ ts) (ps ∷ pss) (u ∷ us) (here, more) sound some stale =
    no_super u t.projections (All-head (λ x. All (λ p. p.fresh ≡ true → ⊥) x.projections) t ts stale)
    (sym (ap (list_any (is_super u)) here.shapes) ∙ (All-head (IsSoundTable d) u us sound).super)

pub reached_some : (m : Contents) (c : Catalogue) (stores : List (List Projected)) (d : Database) → AreDatabase m c stores d → IsSoundDatabase d → (d.tables ≡ [] → ⊥) → all_reached c ≡ None → ⊥
reached_some m c stores d are sound some none = no_reached m c.ahm d c.tables stores d.tables are.tables sound.tables some (none_fresh c none)

-- ---- what a session's changes are to the tables

some_tables : (d : Database) (changes : List Changes) → has_changes changes ≡ true → All (ChangesFit d) changes → d.tables ≡ [] → ⊥
some_tables d [] has fit none = absurd (cc)
some_tables d (c ∷ changes) has fit none =
    let first = All-head (ChangesFit d) c changes fit in
    let nothing : table_named c.table [] ≡ Some first.table = sym (ap (table_named c.table) none) ∙ first.there in
    absurd (cc)

-- ---- what projections have reached is closed

told : (b : Bool) {P : Type 0} → OnTrue b P → b ≡ true → P
told true p is = p
told false p is = absurd (cc)

shapes_closed : (d : Database) (ps : List Projection) → All (IsSoundShape d) (map shape_of ps) → All (λ p. p.fresh ≡ true → p.lge < d.last + 1) ps
shapes_closed d [] sound = All-nil _
shapes_closed d (p ∷ ps) sound =
    All-cons (λ q. q.fresh ≡ true → q.lge < d.last + 1) p ps
    (λ fresh. let closed = (told p.fresh {P = ReachesMark d (shape_of p)} (All-head (IsSoundShape d) (shape_of p) (map shape_of ps) sound) fresh).closed in omega (arith, closed))
    (shapes_closed d ps (All-tail (IsSoundShape d) (shape_of p) (map shape_of ps) sound))

pub all_closed : (m : Contents) (mark : ℕ) (d : Database) (ts : List kept.Table) (pss : List (List Projected)) (us : List Table) → StandForTables m mark ts pss us → All (IsSoundTable d) us
    → All (λ ps. All (λ p. p.entry.fresh ≡ true → p.entry.lge < d.last + 1) ps) pss
all_closed m mark d [] [] [] stand sound = All-nil _
all_closed m mark d [] [] (u ∷ us) stand sound = absurd stand
all_closed m mark d [] (ps ∷ pss) us stand sound = absurd stand
all_closed m mark d (t ∷ ts) [] us stand sound = absurd stand
all_closed m mark d (t ∷ ts) (ps ∷ pss) [] stand sound = absurd stand
all_closed m mark d (t ∷ ts) (ps ∷ pss) (u ∷ us) (here, more) sound =
    All-cons (λ qs. All (λ p. p.entry.fresh ≡ true → p.entry.lge < d.last + 1) qs) ps pss
    (of_entries (λ p. p.fresh ≡ true → p.lge < d.last + 1) ps t.projections here.entries
    (shapes_closed d t.projections (subst (All (IsSoundShape d)) here.shapes (All-head (IsSoundTable d) u us sound).shapes)))
    (all_closed m mark d ts pss us more (All-tail (IsSoundTable d) u us sound))

-- ---- the commit

root_still : (c : Catalogue) (root : Found) (n : ℕ) → (all_reached c ≡ None → ⊥) → IsRootOf c root → IsRootOf (at_epoch n c) root
root_still c Fresh n some (tables, last, ahm) = absurd (some (ap (λ (ts : List kept.Table). fold (λ e t. earlier e (table_reached t)) None ts) tables))
root_still c (Root v r) n some (tables, ahm, below, last) = (tables, ahm, below, λ none. absurd (some none))

pub committed_are : (m : Contents) (c : Catalogue) (stores : List (List Projected)) (d : Database) (changes : List Changes) (ready : List (List (Option Ready)))
    → AreDatabase m c stores d → IsSoundDatabase d → IsSoundSession d changes → AreReady m changes c.tables stores ready
    → AreDatabase m (at_epoch (c.last + 1) c) (tables_applied (c.last + 1) ready stores) (committed changes d)
committed_are m c stores d changes ready are sound session prepared = record {
  last = ap (λ (n : ℕ). n + 1) are.last;
  ahm = are.ahm;
  tables =
      subst (StandForTables m c.ahm c.tables (tables_applied (c.last + 1) ready stores)) (sym (changes_committed (d.last + 1) d changes sound session))
      (subst (λ (n : ℕ). StandForTables m c.ahm c.tables (tables_applied (c.last + 1) ready stores) (map (commit_table (n + 1) changes) d.tables)) (sym are.last)
      (tables_committed m c.ahm (c.last + 1) changes c.tables stores d.tables ready (omega (arith, sound.mark, are.ahm, are.last))
      (subst (λ (n : ℕ). All (λ ps. All (λ p. p.entry.fresh ≡ true → p.entry.lge < n + 1) ps) stores) are.last (all_closed m c.ahm d c.tables stores d.tables are.tables sound.tables))
      (all_within d changes d.tables (found_all d.tables (names_differ d sound)) session.each) prepared are.tables));
}

pub commit_makes : {D : Type 0} (disk : Ghosts D) {old new : D} (c : Catalogue) (stores : List (List Projected)) (d : Database) (changes : List Changes) (ready : List (List (Option Ready)))
    → StandsFor c stores (disk.holds old) (ImageOf disk old) d → IsSoundSession d changes → has_changes changes ≡ true → IsSoundDatabase (committed changes d)
    → disk.holds new ≡ disk.holds old → Moved disk NoName NoName old new → ((m : Contents) → disk.holds old ≡ Some m → AreReady m changes c.tables stores ready)
    → Makes disk fault.Memory (seen c stores) (seen (at_epoch (c.last + 1) c) (tables_applied (c.last + 1) ready stores)) old new (Ok tt) d (committed changes d)
commit_makes disk {old} {new} c stores d changes ready stands session has sound kept moved prepared =
    let still : StandsFor c stores (disk.holds new) (ImageOf disk new) d = stands_moved disk {W = NoName} {R = NoName} c stores d stands (λ q no. absurd no) (λ q no. absurd no) moved in
    let some = reached_some still.files c stores d still.are still.sound (some_tables d changes has session.each) in
    record {
      done = record {
        files = still.files;
        are = committed_are still.files c stores d changes ready still.are still.sound session (prepared still.files (sym kept ∙ still.quiet.told_is));
        sound = sound;
        root = still.root;
        is_root = root_still c still.root (c.last + 1) some still.is_root;
        quiet = still.quiet;
      };
      undone = λ short. absurd (cc);
      any_moment = leaves_wider disk (λ x reopens. inl reopens) (moved_reopens disk {W = NoName} {R = NoName} c stores d stands (λ q no. absurd no) (λ q no. absurd no) moved);
    }

-- nothing was done but reading
pub reads_only : {D : Type 0} (disk : Ghosts D) {old new : D} (was is : Seen) (f : StoreFault) (d e : Database) → Stands disk was old d → Moved disk NoName NoName old new → Makes disk fault.Memory was is old new (Err f) d e
reads_only disk {old} {new} was is f d e stands moved = record {
  done = tt;
  undone = λ short. stands_moved disk {W = NoName} {R = NoName} was.catalogue was.stores d stands (λ q no. absurd no) (λ q no. absurd no) moved;
  any_moment = leaves_wider disk (λ x reopens. inl reopens) (moved_reopens disk {W = NoName} {R = NoName} was.catalogue was.stores d stands (λ q no. absurd no) (λ q no. absurd no) moved);
}

-- ---- a store as it is seen

entry_kept : (epoch : ℕ) (o : Option Ready) (p : Projected) → (applied epoch o p).entry ≡ p.entry
entry_kept epoch None p = refl
entry_kept epoch (Some r) p = by r.marks
  where
    by : (o : Option Places) → (deleted_from epoch o p).entry ≡ p.entry
    by None = refl
    by (Some places) = refl

parts_kept : (epoch : ℕ) (os : List (Option Ready)) (ps : List Projected) → map (λ p. p.entry) (all_applied epoch os ps) ≡ map (λ p. p.entry) ps
parts_kept epoch [] ps = refl
parts_kept epoch (o ∷ os) [] = refl
parts_kept epoch (o ∷ os) (p ∷ ps) = ap₂ (λ (e : Projection) (es : List Projection). e ∷ es) (entry_kept epoch o p) (parts_kept epoch os ps)

pub entries_kept : (epoch : ℕ) (ready : List (List (Option Ready))) (pss : List (List Projected)) → map (λ ps. map (λ p. p.entry) ps) (tables_applied epoch ready pss) ≡ map (λ ps. map (λ p. p.entry) ps) pss
entries_kept epoch [] pss = refl
entries_kept epoch (os ∷ ready) [] = refl
entries_kept epoch (os ∷ ready) (ps ∷ pss) = ap₂ (λ (es : List Projection) (ess : List (List Projection)). es ∷ ess) (parts_kept epoch os ps) (entries_kept epoch ready pss)

abbrev pub all_entries : List (List Projected) → List (List Projection)
all_entries pss = map (λ ps. map (λ p. p.entry) ps) pss

pub held_still : (root : Catalogue) (before after : List (List Loaded)) → map projections_of after ≡ map projections_of before → IsHeld root before → IsHeld root after
held_still root before after same held = record { valid = held.valid; entries = ap all_entries same ∙ held.entries }

pub held_applied : (root : Catalogue) (epoch : ℕ) (ready : List (List (Option Ready))) (before mid after : List (List Loaded)) → map projections_of mid ≡ map projections_of before
    → map projections_of after ≡ tables_applied epoch ready (map projections_of mid) → IsHeld root before → IsHeld root after
held_applied root epoch ready before mid after same is held = record {
  valid = held.valid;
  entries = ap all_entries is ∙ entries_kept epoch ready (map projections_of mid) ∙ ap all_entries same ∙ held.entries;
}

pub commit_done : {D : Type 0} (disk : Ghosts D) {old new : D} (root : Catalogue) (last : ℕ) (before mid after : List (List Loaded)) (entries : List kept.Table) (ready : List (List (Option Ready))) (now : Seen) (d : Database) (changes : List Changes)
    → seen_of root last before ≡ now → entries ≡ root.tables → map projections_of mid ≡ map projections_of before → map projections_of after ≡ tables_applied (last + 1) ready (map projections_of mid)
    → Stands disk now old d → IsSoundSession d changes → has_changes changes ≡ true → IsSoundDatabase (committed changes d) → disk.holds new ≡ disk.holds old → Moved disk NoName NoName old new
    → ((m : Contents) → disk.holds old ≡ Some m → AreReady m changes entries (map projections_of before) ready)
    → Makes disk fault.Memory now (seen_of root (last + 1) after) old new (Ok tt) d (committed changes d)
commit_done disk {old} {new} root last before mid after entries ready now d changes view entries_are same is stands session has sound same_held moved prepared =
    let made = commit_makes disk {old = old} {new = new} (at_epoch last root) (map projections_of before) d changes ready (subst (λ (s : Seen). Stands disk s old d) (sym view) stands) session has sound same_held moved
    (λ m told. subst (λ (ts : List kept.Table). AreReady m changes ts (map projections_of before) ready) entries_are (prepared m told)) in
    let after_is : map projections_of after ≡ tables_applied (last + 1) ready (map projections_of before) = is ∙ ap (tables_applied (last + 1) ready) same in
    subst (λ (s : Seen). Makes disk fault.Memory s (seen_of root (last + 1) after) old new (Ok tt) d (committed changes d)) view
    (subst (λ (pss : List (List Projected)). Makes disk fault.Memory (seen_of root last before) (seen (at_epoch (last + 1) root) pss) old new (Ok tt) d (committed changes d)) (sym after_is) made)
