-- A job over a projection that is up to date, from the files that it writes to the catalogue with its entry.
use Rattle.std.proofs.Common.{◌≡◌, ℕ, zero, suc, ◌+◌, ◌≤◌, ◌<◌, Bool, true, false, List, [], ◌∷◌, length, map, refl, sym, ◌∙◌, ap, subst, arith}
use Rattle.std.specs.Prelude.{Some, Result, Ok, Err, IfErr, IsSomeAnd}
use Rattle.std.specs.Bool.{OnTrue}
use Rattle.std.specs.List.{All, slice_get}
use Rattle.std.proofs.lemmas.List.{length-map}
use Rattle.std.proofs.lemmas.List.Elements.{All-head, All-tail}
use Rattle.common_laws.specs.Maps.{Contents}
use Rattle.col_disk.specs.Faults.{IsUnblamed}
use Rattle.col_disk.specs.Moved.{Moved, NoName}
use Rattle.col_disk.specs.declared.disk.Disk.{Ghosts}
use Rattle.col_disk.specs.declared.disk.StoreFault.{StoreFault}
use Rattle.col_disk.specs.declared.disk.StoreFault.TheVariants as fault
use Rattle.catalog_types.specs.declared.catalogue.Catalogue.{Catalogue}
use Rattle.catalog_types.specs.declared.catalogue.Projection.{Projection}
use Rattle.catalog_types.specs.declared.catalogue.Table as kept
use Rattle.catalog_types.specs.Valid.{IsValid}
use Rattle.catalog_root.specs.Quiet.{IsSpare}
use Rattle.container_writer.specs.Writing.{DataFrom}
use Rattle.col_value.specs.declared.row.Stamped.{Stamped}
use Rattle.stored_rows.specs.Held.{Holds}
use Rattle.stored_rows.specs.Stored.{Projected}
use Rattle.merge_rows.specs.Inputs.{KeepsFrom}
use Rattle.proj_store.specs.Reading.{BlamesRows, HasVectors}
use Rattle.moveout_job.specs.OnDisk.{IsListedBelow}
use Rattle.db_model.specs.Database.{Database, Shape, Table}
use Rattle.db_model.specs.Sound.{IsSoundShape, IsSoundTable, ReachesMark}
use Rattle.folder_model.specs.Standing.{IsRootOf}
use Rattle.folder_model.proofs.Committing.{stands_moved}
use Rattle.sound_laws.specs.Moves.{reached_at}
use Rattle.store_commit.specs.Seen.{Seen, Stands}
use Rattle.store_commit.specs.Making.{Makes}
use Rattle.table_store.specs.Held.{at_epoch}
use Rattle.table_store.specs.Installing.{HoldsTable, IsRenewal}
use Rattle.table_store.specs.Moving.{with_entry_at}
use Rattle.table_store.proofs.Makes.{move_makes, undrawn, wrote_only}
use Rattle.table_store.proofs.Unblamed.{part_unblamed}
use Rattle.table_jobs.specs.Jobs.{DrawsAnew, DrawsMerged, MakesRise, OfProjection}
use Rattle.table_jobs.proofs.Holding.{HasOwn, IsOwnAt, kept_holds, own_history, own_shape, own_stores, own_vectors}

-- a store over its root: the catalogue is the root at the newest epoch, and each projection has its entry there
pub record IsRooted (was : Seen) (root : Catalogue) : Type 0 where
  pub catalogue : was.catalogue ≡ at_epoch was.catalogue.last root
  pub entries : map (λ ps. map (λ p. p.entry) ps) was.stores ≡ map (λ t. t.projections) root.tables
  pub valid : IsValid root

own_below : {X : Type 0} (xs : List X) (i : ℕ) (P : X → Type 0) → IsSomeAnd (slice_get xs i) P → i < length xs
own_below [] i P there = absurd there
own_below (x ∷ xs) zero P there = omega arith
own_below (x ∷ xs) (suc i) P there = let rest = own_below xs i P there in omega (arith, rest)

-- numbers that weren't drawn are those of spare files
pub job_spares : {D : Type 0} (disk : Ghosts D) (now : D) (was : Seen) (root : Catalogue) (i j : ℕ) (p : Projected) (d : Database) → IsRooted was root → IsOwnAt was.stores i j p → (stands : Stands disk was now d)
    → (q : ℕ) → DataFrom root.next q → IsSpare stands.root q
job_spares disk now was root i j p d rooted there stands =
    undrawn root was.catalogue.last stands.root (subst (λ (c : Catalogue). IsRootOf c stands.root) rooted.catalogue stands.is_root) some rooted.valid
  where
    some : root.tables ≡ [] → ⊥
    some none =
        let lt : i < length was.stores = own_below was.stores i (λ ps. IsSomeAnd (slice_get ps j) (λ q. q ≡ p)) there in
        let long : length was.stores ≡ length root.tables = sym (length-map was.stores (λ ps. map (λ q. q.entry) ps)) ∙ ap length rooted.entries ∙ length-map root.tables (λ t. t.projections) in
        let zero_long : length root.tables ≡ 0 = ap length none in
        absurd (omega (arith, lt, long, zero_long))

-- ---- the epoch

closed_shape : (d : Database) (ss : List Shape) (j epoch : ℕ) → All (IsSoundShape d) ss → IsSomeAnd (slice_get ss j) (λ s. (s.fresh ≡ true) × (s.lge ≡ epoch)) → IsSomeAnd (slice_get ss j) (λ s. (s.fresh ≡ true) × (s.lge ≤ epoch) × (epoch ≤ d.last))
closed_shape d [] j epoch sound there = absurd there
closed_shape d (s ∷ ss) zero epoch sound (fresh, is) = (fresh, omega (arith, is), by s.fresh fresh (All-head (IsSoundShape d) s ss sound))
  where
    by : (b : Bool) → b ≡ true → OnTrue b (ReachesMark d s) → epoch ≤ d.last
    by true on reaches = let closed = reaches.closed in omega (arith, closed, is)
    by false on reaches = absurd (cc)
closed_shape d (s ∷ ss) (suc j) epoch sound there = closed_shape d ss j epoch (All-tail (IsSoundShape d) s ss sound) there

closed_table : (d : Database) (ts : List Table) (i j epoch : ℕ) → All (IsSoundTable d) ts → IsSomeAnd (slice_get ts i) (λ t. IsSomeAnd (slice_get t.shapes j) (λ s. (s.fresh ≡ true) × (s.lge ≡ epoch)))
    → IsSomeAnd (slice_get ts i) (λ t. IsSomeAnd (slice_get t.shapes j) (λ s. (s.fresh ≡ true) × (s.lge ≤ epoch) × (epoch ≤ d.last)))
closed_table d [] i j epoch sound there = absurd there
closed_table d (t ∷ ts) zero j epoch sound there = closed_shape d t.shapes j epoch (All-head (IsSoundTable d) t ts sound).shapes there
closed_table d (t ∷ ts) (suc i) j epoch sound there = closed_table d ts i j epoch (All-tail (IsSoundTable d) t ts sound) there

-- ---- the job

-- the files of an entry were written, and then it was installed, or that failed
pub raises : {D : Type 0} (disk : Ghosts D) {old mid new : D} (was is : Seen) (root : Catalogue) (i j : ℕ) (p : Projected) (entry : Projection) (result : Result (Unit {0}) StoreFault) (d : Database) → IsRooted was root → IsOwnAt was.stores i j p → p.entry.fresh ≡ true
    → IsListedBelow root.next p.entry → IsRenewal p.entry entry → p.entry.lge ≤ entry.lge → entry.lge ≤ was.catalogue.last → Moved disk (DataFrom root.next) NoName old mid
    → ((m n : Contents) → disk.holds old ≡ Some m → disk.holds mid ≡ Some n → IsListedBelow root.next p.entry → HasVectors m p → KeepsFrom root.ahm m n p entry)
    → ((e : Database) → (stands : Stands disk was mid e) → HoldsTable stands.files i entry e → Makes disk fault.Memory was is mid new result e (reached_at entry.lge i j e))
    → Stands disk was old d → MakesRise disk fault.Memory was is old new result d i j
raises disk {old} {mid} {new} was is root i j p entry result d rooted there fresh below renewal later closed moved keeps installs stands =
    let spare = job_spares disk old was root i j p d rooted there stands in
    let then : Stands disk was mid d = stands_moved disk {W = DataFrom root.next} {R = NoName} was.catalogue was.stores d stands spare (λ q none. absurd none) moved in
    let mark : was.catalogue.ahm ≡ root.ahm = ap (λ (c : Catalogue). c.ahm) rooted.catalogue in
    let own : IsSomeAnd (slice_get d.tables i) (HasOwn stands.files was.catalogue.ahm p) = own_history stands.files was.catalogue was.stores d i j p fresh there stands.are in
    let from : KeepsFrom was.catalogue.ahm stands.files then.files p entry =
    subst (λ (n : ℕ). KeepsFrom n stands.files then.files p entry) (sym mark)
    (keeps stands.files then.files stands.quiet.told_is then.quiet.told_is below (own_vectors stands.files was.catalogue.ahm p d i own)) in
    let holds : HoldsTable then.files i entry d = kept_holds stands.files then.files was.catalogue.ahm p entry d i stands.are.ahm renewal from own in
    let last : d.last ≡ was.catalogue.last = stands.are.last in
    record {
      epoch = entry.lge;
      rises = own_shape stands.files was.catalogue was.stores d i j p (λ s. (s.fresh ≡ true) × (s.lge ≤ entry.lge) × (entry.lge ≤ d.last)) there stands.are (fresh, later, omega (arith, closed, last));
      makes = move_makes disk fault.Memory was is result d (reached_at entry.lge i j d) stands {W = DataFrom root.next} spare moved (installs d then holds);
    }

-- files were written that nothing lists
pub raise_fails : {D : Type 0} (disk : Ghosts D) {old new : D} (was : Seen) (root : Catalogue) (i j : ℕ) (p : Projected) (f : StoreFault) (d : Database) → IsRooted was root → IsOwnAt was.stores i j p → p.entry.fresh ≡ true → Moved disk (DataFrom root.next) NoName old new
    → Stands disk was old d → MakesRise disk fault.Memory was was old new (Err f) d i j
raise_fails disk {old} {new} was root i j p f d rooted there fresh moved stands = record {
  epoch = p.entry.lge;
  rises = closed_table d d.tables i j p.entry.lge stands.sound.tables
      (own_shape stands.files was.catalogue was.stores d i j p (λ s. (s.fresh ≡ true) × (s.lge ≡ p.entry.lge)) there stands.are (fresh, refl));
  makes = wrote_only disk fault.Memory {W = DataFrom root.next} was was f d (reached_at p.entry.lge i j d) stands (job_spares disk old was root i j p d rooted there stands) moved;
}

-- ---- the numbers

pub entry_in : (pss : List (List Projected)) (ts : List kept.Table) (i j : ℕ) (p : Projected) (P : Projection → Type 0) → map (λ ps. map (λ q. q.entry) ps) pss ≡ map (λ t. t.projections) ts → IsOwnAt pss i j p → P p.entry
    → IsSomeAnd (slice_get ts i) (λ t. IsSomeAnd (slice_get t.projections j) P)
entry_in [] ts i j p P are there is = absurd there
entry_in (ps ∷ pss) [] i j p P are there is = absurd (cc)
entry_in (ps ∷ pss) (t ∷ ts) zero j p P are there is = let same : map (λ (r : Projected). r.entry) ps ≡ t.projections = cc in of_entries ps t.projections j same there
  where
    of_entries : (qs : List Projected) (es : List Projection) (k : ℕ) → map (λ (q : Projected). q.entry) qs ≡ es → IsSomeAnd (slice_get qs k) (λ q. q ≡ p) → IsSomeAnd (slice_get es k) P
    of_entries [] es k same here = absurd here
    of_entries (q ∷ qs) [] k same here = absurd (cc)
    of_entries (q ∷ qs) (e ∷ es) zero same here = let first : q.entry ≡ e = cc in subst P (sym (ap (λ (r : Projected). r.entry) here) ∙ first) is
    of_entries (q ∷ qs) (e ∷ es) (suc k) same here = let rest : map (λ (r : Projected). r.entry) qs ≡ es = cc in of_entries qs es k rest here
entry_in (ps ∷ pss) (t ∷ ts) (suc i) j p P are there is =
    let rest : map (λ (qs : List Projected). map (λ (r : Projected). r.entry) qs) pss ≡ map (λ (u : kept.Table). u.projections) ts = cc in
    entry_in pss ts i j p P rest there is

pub own_entry : (was : Seen) (root : Catalogue) (i j : ℕ) (p : Projected) (P : Projection → Type 0) → IsRooted was root → IsOwnAt was.stores i j p → P p.entry → OfProjection i j was.catalogue P
own_entry was root i j p P rooted there is = subst (λ (c : Catalogue). OfProjection i j c P) (sym rooted.catalogue) (entry_in was.stores root.tables i j p P rooted.entries there is)

pub draws_anew : (was is : Seen) (i j more next : ℕ) (old entry : Projection) → is.catalogue ≡ with_entry_at was.catalogue.last next i j entry was.catalogue → was.catalogue.next ≤ next → next ≤ was.catalogue.next + length old.containers + 262
    → length entry.containers ≤ length old.containers + more → DrawsAnew i j more was.catalogue is.catalogue old
draws_anew was is i j more next old entry same from upto count =
    let rises : is.catalogue.next ≡ next + 1 = ap (λ (c : Catalogue). c.next) same in
    record {
      entry = entry;
      tables = ap (λ (c : Catalogue). c.tables) same;
      last = ap (λ (c : Catalogue). c.last) same;
      from = omega (arith, rises, from);
      upto = omega (arith, rises, upto);
      count = count;
    }

-- the same with two containers less
pub draws_merged : (was is : Seen) (i j next : ℕ) (old entry : Projection) → is.catalogue ≡ with_entry_at was.catalogue.last next i j entry was.catalogue → was.catalogue.next ≤ next → next ≤ was.catalogue.next + length old.containers + 262
    → length entry.containers + 2 ≤ length old.containers → DrawsMerged i j was.catalogue is.catalogue old
draws_merged was is i j next old entry same from upto less =
    let rises : is.catalogue.next ≡ next + 1 = ap (λ (c : Catalogue). c.next) same in
    record {
      draws = record {
        entry = entry;
        tables = ap (λ (c : Catalogue). c.tables) same;
        last = ap (λ (c : Catalogue). c.last) same;
        from = omega (arith, rises, from);
        upto = omega (arith, rises, upto);
        count = omega (arith, less);
      };
      less = less;
    }

-- ---- what is read

pub err_weaker : {T E : Type 0} {P Q : E → Type 0} (r : Result T E) → ((e : E) → P e → Q e) → IfErr r P → IfErr r Q
err_weaker (Ok x) f is = tt
err_weaker (Err e) f is = f e is

-- the entry that was written can be read
pub raised_holds : {D : Type 0} (disk : Ghosts D) {old mid : D} (was : Seen) (root : Catalogue) (i j : ℕ) (p : Projected) (entry : Projection) (d : Database) → IsRooted was root → IsOwnAt was.stores i j p → p.entry.fresh ≡ true
    → IsListedBelow root.next p.entry → Moved disk (DataFrom root.next) NoName old mid
    → ((m n : Contents) → disk.holds old ≡ Some m → disk.holds mid ≡ Some n → IsListedBelow root.next p.entry → HasVectors m p → KeepsFrom root.ahm m n p entry)
    → Stands disk was old d → (n : Contents) × (held : List Stamped) × (disk.holds mid ≡ Some n) × Holds n entry held
raised_holds disk {old} {mid} was root i j p entry d rooted there fresh below moved keeps stands =
    let spare = job_spares disk old was root i j p d rooted there stands in
    let then : Stands disk was mid d = stands_moved disk {W = DataFrom root.next} {R = NoName} was.catalogue was.stores d stands spare (λ q none. absurd none) moved in
    let own : IsSomeAnd (slice_get d.tables i) (HasOwn stands.files was.catalogue.ahm p) = own_history stands.files was.catalogue was.stores d i j p fresh there stands.are in
    let from : KeepsFrom root.ahm stands.files then.files p entry =
    keeps stands.files then.files stands.quiet.told_is then.quiet.told_is below (own_vectors stands.files was.catalogue.ahm p d i own) in
    let (stored, are) = own_stores stands.files was.catalogue.ahm p d i own in
    let (held, holds, same) = from stored are in
    (then.files, held, then.quiet.told_is, holds)

-- a fault of reading the projection blames no file
pub own_unblamed : {D : Type 0} (disk : Ghosts D) (now : D) (was : Seen) (i j : ℕ) (p : Projected) (f : StoreFault) (d : Database) → IsOwnAt was.stores i j p → p.entry.fresh ≡ true → BlamesRows p.entry (disk.holds now) f → Stands disk was now d → IsUnblamed f
own_unblamed disk now was i j p f d there fresh blames stands =
    let own = own_history stands.files was.catalogue was.stores d i j p fresh there stands.are in
    let readable = own_stores stands.files was.catalogue.ahm p d i own in
    part_unblamed stands.files (disk.holds now) p f stands.quiet.told_is fresh (on_fresh p.entry.fresh readable) blames
  where
    on_fresh : (b : Bool) {P : Type 0} → P → OnTrue b P
    on_fresh true x = x
    on_fresh false x = tt
