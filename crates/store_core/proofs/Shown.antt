-- What the folder of a running store shows of the work of MERGEOUT and PURGE_TABLE.
use Rattle.std.proofs.Common.{◌≡◌, ◌==◌, ◌+◌, ◌<◌, ◌++◌, ℕ, zero, suc, Bool, true, false, cond, List, [], ◌∷◌, map, find, nat_lt, refl, sym, ◌∙◌, ap, subst, inl, inr, arith}
use Rattle.std.proofs.lemmas.Bool.Decides.{nat_tests}
use Rattle.std.specs.Prelude.{Option, Some, None, IfSome, IsSomeAnd}
use Rattle.std.specs.Bool.{OnTrue}
use Rattle.std.specs.List.{All, Any, slice_get}
use Rattle.std.specs.Option.{option_map, option_map_or}
use Rattle.std.proofs.lemmas.List.Elements.{All-append, All-cons, All-head, All-map, All-nil, All-tail}
use Rattle.common_laws.specs.Maps.{Contents}
use Rattle.col_disk.specs.Moved.{ImageOf}
use Rattle.col_disk.specs.declared.disk.Disk.{Ghosts}
use Rattle.col_value.specs.declared.row.Asked.{Asked}
use Rattle.col_value.specs.declared.row.Stamped.{Stamped}
use Rattle.row_history.specs.History.{is_retained, stamped}
use Rattle.catalog_types.specs.declared.catalogue.Catalogue.{Catalogue}
use Rattle.catalog_types.specs.declared.catalogue.Container.{Container}
use Rattle.catalog_types.specs.declared.catalogue.Projection.{Projection}
use Rattle.catalog_types.specs.declared.catalogue.Table as kept
use Rattle.catalog_root.specs.declared.found.Found.{Found}
use Rattle.catalog_root.specs.declared.found.Found.TheVariants.{Fresh, Root}
use Rattle.catalog_root.specs.Quiet.{KeepsRoot}
use Rattle.db_model.specs.Database.{Database, Shape, Table}
use Rattle.db_model.specs.Mover.{change_shape_of, given_up, reached_to, Jobs, RaisesAll, RaisesOne}
use Rattle.db_model.specs.State.{State}
use Rattle.del_vector.specs.declared.mark.Mark.{Mark}
use Rattle.del_vector.specs.Marks.{epoch_at}
use Rattle.folder_model.specs.Projections.{HasRows}
use Rattle.folder_model.specs.Standing.{IsRootOf}
use Rattle.folder_model.specs.Tables.{AreDatabase, StandsForTable, StandForTables}
use Rattle.folder_model.proofs.CutTables.{of_entries}
use Rattle.folder_model.proofs.ListedFiles.{SameTables, tables_same}
use Rattle.mover_policy.specs.Merging.{IsDue}
use Rattle.ros_container.specs.Encodings.{Written, written_of}
use Rattle.stored_rows.specs.Held.{stamped_from, HoldsRows}
use Rattle.stored_rows.specs.Listed.{SameEntry}
use Rattle.stored_rows.specs.Stored.{Beside, Projected, Stores, StoresRows}
use Rattle.stored_rows.proofs.KeptRows.{entry_kept}
use Rattle.table_jobs.specs.Purged.{IsKeptWholeAt, IsKeptWholeIn}
use Rattle.table_jobs.specs.Purging.{AreLate, IsKeptWhole}
use Rattle.table_store.specs.Moving.{IsFreshAt}
use Rattle.store_core.specs.Jobs.{ArePurged}
use Rattle.store_core.specs.Running.{IsState, Running}
use Rattle.store_core.specs.Shown.{HoldsRetained, IsPurgedIn, ShowsMerged, ShowsPurged}
use Rattle.store_core.specs.Stepping.{NoneIsDue}
use Rattle.store_core.proofs.Purging.{named_there}

-- ---- the rows of files, by their delete vectors alone

abbrev IsKept : ℕ → Stamped → Type 0
IsKept mark s = is_retained mark s ≡ true

later_at : (mark i : ℕ) (marks : List Mark) → All (λ e. mark < e.epoch) marks → IfSome (epoch_at marks i) (λ e. mark < e)
later_at mark i [] all = tt
later_at mark i (m ∷ ms) all = by (m.position == i) (All-head (λ e. mark < e.epoch) m ms all) (later_at mark i ms (All-tail (λ e. mark < e.epoch) m ms all))
  where
    by : (b : Bool) → mark < m.epoch → IfSome (epoch_at ms i) (λ e. mark < e) → IfSome (option_map (λ (x : Mark). x.epoch) (cond b (Some m) (find (λ (x : Mark). x.position == i) ms))) (λ e. mark < e)
    by true here rest = here
    by false here rest = rest

kept_one : (mark : ℕ) (o : Option ℕ) → IfSome o (λ e. mark < e) → option_map_or (λ e. nat_lt mark e) o true ≡ true
kept_one mark None later = refl
kept_one mark (Some e) later = grind (arith, nat_tests)

all_kept : (mark i : ℕ) (del : ℕ → Option ℕ) (rows : List Asked) → ((j : ℕ) → IfSome (del j) (λ e. mark < e)) → All (IsKept mark) (stamped_from i del rows)
all_kept mark i del [] later = All-nil (IsKept mark)
all_kept mark i del (a ∷ rows) later =
    All-cons (IsKept mark) (stamped (del i) a) (stamped_from (i + 1) del rows) (kept_one mark (del i) (later i)) (all_kept mark (i + 1) del rows later)

saved_kept : (m : Contents) (es : List Written) (mark : ℕ) (ks : List Container) (bs : List Beside) (saved : List Stamped) → All (AreLate mark) bs → StoresRows m es ks bs saved
    → (rows : List Stamped) × HoldsRows m es ks rows × All (IsKept mark) rows
saved_kept m es mark [] [] saved late stores = ([], refl, All-nil (IsKept mark))
saved_kept m es mark [] (b ∷ bs) saved late stores = absurd stores
saved_kept m es mark (k ∷ ks) [] saved late stores = absurd stores
saved_kept m es mark (k ∷ ks) (b ∷ bs) saved late (here, more, vector, (asked, held, is), rest, are) =
    let own = stamped_from 0 (epoch_at b.held) asked in
    let first = all_kept mark 0 (epoch_at b.held) asked (λ j. later_at mark j b.held (All-head (AreLate mark) b bs late).0) in
    let (others, hold, later) = saved_kept m es mark ks bs more (All-tail (AreLate mark) b bs late) rest in
    (own ++ others, (b.held, own, others, vector, (asked, held, refl), hold, refl), All-append (IsKept mark) own others first later)

entry_shown : (m x : Contents) (mark : ℕ) (p : Projected) (stored : List Stamped) → SameEntry m x p.entry → IsKeptWhole mark p → Stores m p stored → HoldsRetained x mark p.entry
entry_shown m x mark p stored same whole (saved, stores, is) =
    let (rows, held, kept) = saved_kept m (written_of p.entry) mark p.entry.containers p.beside saved whole.marks stores in
    record { rows = rows; held = entry_kept m x p.entry rows same held; retained = kept }

-- ---- a table

on_true : (b : Bool) {P Q : Type 0} → (b ≡ true → P → Q) → OnTrue b P → OnTrue b Q
on_true true h p = h refl p
on_true false h p = tt

abbrev IsShownIn : Contents → ℕ → Projection → Type 0
IsShownIn x mark p = OnTrue p.fresh (HoldsRetained x mark p)

-- each up-to-date one of these is whole
abbrev AreWhole : ℕ → List Projected → Type 0
AreWhole mark ps = (j : ℕ) → IsSomeAnd (slice_get ps j) (λ p. p.entry.fresh ≡ true) → IsKeptWholeIn mark j ps

each_shown : (m x : Contents) (mark : ℕ) (rows : List Stamped) (ps : List Projected) → All (λ p. SameEntry m x p.entry) ps → All (HasRows m mark rows) ps → AreWhole mark ps → All (λ p. IsShownIn x mark p.entry) ps
each_shown m x mark rows [] same has whole = All-nil (λ p. IsShownIn x mark p.entry)
each_shown m x mark rows (p ∷ ps) same has whole =
    All-cons (λ q. IsShownIn x mark q.entry) p ps
    (on_true p.entry.fresh (λ fresh h. entry_shown m x mark p h.stored (All-head (λ q. SameEntry m x q.entry) p ps same) (whole zero fresh) h.are) ((All-head (HasRows m mark rows) p ps has).fresh))
    (each_shown m x mark rows ps (All-tail (λ q. SameEntry m x q.entry) p ps same) (All-tail (HasRows m mark rows) p ps has) (λ j fresh. whole (suc j) fresh))

table_shown : (m x : Contents) (mark : ℕ) (t : kept.Table) (ps : List Projected) (u : Table) → All (SameEntry m x) t.projections → StandsForTable m mark t ps u → AreWhole mark ps → All (IsShownIn x mark) t.projections
table_shown m x mark t ps u same stands whole =
    subst (All (IsShownIn x mark)) stands.entries
    (All-map (IsShownIn x mark) (λ (p : Projected). p.entry) ps (each_shown m x mark u.rows ps (of_entries (SameEntry m x) ps t.projections stands.entries same) stands.rows whole))

any_here : {X : Type 0} (P : X → Type 0) (x : X) (xs : List X) → P x → Any P (x ∷ xs)
any_here P x xs holds = (0, x, omega arith, refl, holds)

any_there : {X : Type 0} (P : X → Type 0) (x : X) (xs : List X) → Any P xs → Any P (x ∷ xs)
any_there P x xs (k, y, lt, is, holds) = (suc k, y, omega (arith, lt), is, holds)

tables_shown : (m x : Contents) (mark : ℕ) (ts : List kept.Table) (pss : List (List Projected)) (us : List Table) (i : ℕ) (name : List ℕ) → StandForTables m mark ts pss us → SameTables m x ts
    → IsSomeAnd (slice_get us i) (λ u. u.name ≡ name) → ((j : ℕ) → IsFreshAt pss i j → IsKeptWholeAt mark i j pss) → Any (IsPurgedIn x mark name) ts
tables_shown m x mark [] [] [] i name stand same there whole = absurd there
tables_shown m x mark [] [] (u ∷ us) i name stand same there whole = absurd stand
tables_shown m x mark [] (ps ∷ pss) us i name stand same there whole = absurd stand
tables_shown m x mark (t ∷ ts) [] us i name stand same there whole = absurd stand
tables_shown m x mark (t ∷ ts) (ps ∷ pss) [] i name stand same there whole = absurd stand
tables_shown m x mark (t ∷ ts) (ps ∷ pss) (u ∷ us) zero name (here, more) same there whole =
    any_here (IsPurgedIn x mark name) t ts (sym here.name ∙ there, table_shown m x mark t ps u (All-head (λ y. All (SameEntry m x) y.projections) t ts same) here whole)
tables_shown m x mark (t ∷ ts) (ps ∷ pss) (u ∷ us) (suc i) name (here, more) same there whole =
    any_there (IsPurgedIn x mark name) t ts (tables_shown m x mark ts pss us i name more (All-tail (λ y. All (SameEntry m x) y.projections) t ts same) there whole)

-- ---- the folder

image_purged : (m x : Contents) (c : Catalogue) (stores : List (List Projected)) (d : Database) (root : Found) (place : ℕ) (name : List ℕ) → AreDatabase m c stores d → IsRootOf c root → KeepsRoot m root x
    → IsSomeAnd (slice_get d.tables place) (λ u. u.name ≡ name) → ((j : ℕ) → IsFreshAt stores place j → IsKeptWholeAt c.ahm place j stores) → ShowsPurged name x
image_purged m x c stores d Fresh place name are (tables, last, ahm) quiet there whole =
    absurd (none place (subst (λ (ts : List kept.Table). StandForTables m c.ahm ts stores d.tables) tables are.tables) there)
  where
    nothing : (pss : List (List Projected)) (us : List Table) (i : ℕ) → StandForTables m c.ahm [] pss us → IsSomeAnd (slice_get us i) (λ u. u.name ≡ name) → ⊥
    nothing [] [] i stand named = named
    nothing [] (u ∷ us) i stand named = stand
    nothing (ps ∷ pss) us i stand named = stand

    none : (i : ℕ) → StandForTables m c.ahm [] stores d.tables → IsSomeAnd (slice_get d.tables i) (λ u. u.name ≡ name) → ⊥
    none i stand named = nothing stores d.tables i stand named
image_purged m x c stores d (Root v r) place name are (tables, ahm, drawn, last) quiet there whole =
    let same : SameTables m x c.tables = subst (SameTables m x) tables (tables_same m x r quiet.same) in
    let shown : Any (IsPurgedIn x c.ahm name) c.tables = tables_shown m x c.ahm c.tables stores d.tables place name are.tables same there whole in
    record {
      version = v;
      catalogue = r;
      opens = quiet.opens;
      purged = subst (λ (a : ℕ). Any (IsPurgedIn x a name) r.tables) (sym ahm) (subst (Any (IsPurgedIn x c.ahm name)) (sym tables) shown);
    }

-- whatever a crash leaves shows that the table of a name was purged
pub purged_shown : {D : Type 0} (disk : Ghosts D) (r : Running) (now : D) (state : State) (place : ℕ) (name : List ℕ) → IsState disk r now state → IsSomeAnd (slice_get state.database.tables place) (λ u. u.name ≡ name)
    → ArePurged place r → (x : Contents) → ImageOf disk now x → ShowsPurged name x
purged_shown disk r now state place name here there purged x is =
    let stands = here.database in
    image_purged stands.files x r.seen.catalogue r.seen.stores state.database stands.root place name stands.are stands.is_root (stands.quiet.every x is) there purged

image_merged : (m x : Contents) (c : Catalogue) (root : Found) → IsRootOf c root → KeepsRoot m root x → NoneIsDue c.tables → ShowsMerged x
image_merged m x c Fresh is_root quiet merged = record { root = Fresh; opens = quiet.opens; merged = All-nil (λ p. IsDue p → ⊥) }
image_merged m x c (Root v r) (tables, ahm, drawn, last) quiet merged = record { root = Root v r; opens = quiet.opens; merged = subst NoneIsDue (sym tables) merged }

-- and that nothing is to be merged
pub merged_shown : {D : Type 0} (disk : Ghosts D) (r : Running) (now : D) (state : State) → IsState disk r now state → NoneIsDue r.seen.catalogue.tables → (x : Contents) → ImageOf disk now x → ShowsMerged x
merged_shown disk r now state here merged x is =
    let stands = here.database in image_merged stands.files x r.seen.catalogue stands.root stands.is_root (stands.quiet.every x is) merged

-- ---- the names of tables, which no raised epoch changes

abbrev names_of : Database → List (List ℕ)
names_of d = map (λ (t : Table). t.name) d.tables

changed_names : (name : List ℕ) (change : Shape → Shape) (ts : List Table) → map (λ (t : Table). t.name) (map (change_shape_of name change) ts) ≡ map (λ (t : Table). t.name) ts
changed_names name change [] = refl
changed_names name change (t ∷ ts) = ap (λ (ns : List (List ℕ)). t.name ∷ ns) (changed_names name change ts)

raised_names : (meant : Shape → Bool) (old new : State) → RaisesOne meant old new → names_of new.database ≡ names_of old.database
raised_names meant old new (d, rises, is, drawn) =
    ap (λ (s : State). names_of s.database) drawn.same ∙ ap names_of rises.same ∙ changed_names rises.shape.name (reached_to rises.epoch) old.database.tables

jobs_names : (meant : Shape → Bool) (n : ℕ) (old : State) (stopped : Bool) (new : State) → Jobs (RaisesOne meant) n old stopped new → names_of new.database ≡ names_of old.database
jobs_names meant zero old stopped new (free, same) = ap (λ (s : State). names_of s.database) same
jobs_names meant (suc n) old stopped new (inl (spent, all, same)) = ap (λ (s : State). names_of s.database) same
jobs_names meant (suc n) old stopped new (inr (free, mid, job, jobs)) = jobs_names meant n mid stopped new jobs ∙ raised_names meant old mid job

same_names : (us vs : List Table) (i : ℕ) (name : List ℕ) → map (λ (t : Table). t.name) vs ≡ map (λ (t : Table). t.name) us → IsSomeAnd (slice_get us i) (λ u. u.name ≡ name) → IsSomeAnd (slice_get vs i) (λ u. u.name ≡ name)
same_names [] vs i name same there = absurd there
same_names (u ∷ us) [] i name same there = absurd (cc)
same_names (u ∷ us) (v ∷ vs) zero name same there = let one : v.name ≡ u.name = cc in one ∙ there
same_names (u ∷ us) (v ∷ vs) (suc i) name same there = same_names us vs i name (cc) there

-- the table of a name stands where it stood
pub still_named : {D : Type 0} (disk : Ghosts D) (was : Running) (now : D) (old new : State) (meant : Shape → Bool) (place : ℕ) (name : List ℕ) → IsState disk was now old
    → IsSomeAnd (slice_get was.seen.catalogue.tables place) (λ t. t.name ≡ name) → RaisesAll meant old false new → IsSomeAnd (slice_get new.database.tables place) (λ u. u.name ≡ name)
still_named disk was now old new meant place name here named raised =
    let c = was.seen.catalogue in
    let there = named_there here.database.files c.ahm c.tables was.seen.stores old.database.tables place name here.database.are.tables named in
    same_names old.database.tables new.database.tables place name (jobs_names meant raised.count (given_up old) false new raised.jobs) there
