-- What is read of a store.
use Rattle.std.proofs.Common.{◌≡◌, ℕ, ◌+◌, ◌-◌, ◌<◌, ◌≤◌, ◌++◌, Bool, true, false, List, [], ◌∷◌, drop, length, map, Option, Some, None, refl, sym, ap, ◌∙◌, arith, subst}
use Rattle.std.specs.Prelude.{IsSomeAnd}
use Rattle.std.specs.List.{All, AllZip, slice_get}
use Rattle.std.specs.Option.{option_map_or}
use Rattle.std.proofs.Math.Seq.{drop-append_seam}
use Rattle.std.proofs.lemmas.List.{append-nil, nil_from_length}
use Rattle.std.proofs.lemmas.List.Elements.{All-cons, All-head, All-nil, All-weaker}
use Rattle.common_laws.specs.Bags.{SameBag}
use Rattle.common_laws.proofs.BagLaws.{bag_append, bag_refl, bag_sym, bag_trans, count_append}
use Rattle.common_laws.specs.Maps.{Contents}
use Rattle.col_disk.specs.declared.disk.Disk.{Ghosts}
use Rattle.col_disk.specs.declared.disk.StoreFault.{StoreFault}
use Rattle.col_disk.specs.declared.disk.StoreFault.TheVariants as store
use Rattle.col_value.specs.declared.row.Asked.{Asked}
use Rattle.col_value.specs.declared.row.Stamped.{Stamped}
use Rattle.col_value.specs.declared.value.Value.{Value}
use Rattle.col_value.specs.Order.{projected}
use Rattle.row_history.specs.History.{visible}
use Rattle.sql_tree.specs.declared.query.At.{At}
use Rattle.sql_bound.specs.declared.query.FromItem.{FromItem}
use Rattle.sql_bound.specs.declared.query.BoundQuery.{BoundQuery}
use Rattle.sql_bound.specs.Outputs.{is_kept}
use Rattle.row_bounds.specs.Bounds.{within}
use Rattle.row_bounds.specs.declared.bound.Bound.{Bound}
use Rattle.row_bounds.proofs.Fronts.{front_within}
use Rattle.db_model.specs.Database.{Database, Table}
use Rattle.db_model.specs.State.{Changes, without}
use Rattle.stored_rows.specs.Stored.{Projected, Stores}
use Rattle.folder_model.specs.Projections.{ordinals}
use Rattle.store_commit.specs.Seen.{Seen}
use Rattle.col_disk.specs.Faults as disk_faults
use Rattle.query_cover.specs.Enough.{AreEnough, AreEnoughFrom, IsOut}
use Rattle.query_cover.specs.Seen.{AreSeen, AreSeenFrom, placed}
use Rattle.query_cover.proofs.Placed.{shows_same}
use Rattle.query_run.specs.Runs.{HasTaken}
use Rattle.query_run.specs.declared.run.Run.{Run}
use Rattle.wanted_rows.specs.Wanted.{tally}
use Rattle.store_query.specs.Feeding.{HasRead, IsBeyond, Passes, TakesItem, TakesLess, TakesRows}
use Rattle.store_query.specs.Lessening.{asked, cleared, deletes_of, times, HasChanges, IsLess}
use Rattle.store_query.specs.Placing.{ArePlacesOf}
use Rattle.store_query.specs.Faults.{of_store, IsUnblamed}
use Rattle.store_query.specs.Reading.{epoch_of, item_rows, pending_of, rows_of, source_rows, AreOver, CanRead, IsOver, IsRead, Suffice}
use Rattle.store_query.specs.Taking.{IsTaken}
use Rattle.store_query.proofs.Fed.{gone_counted}
use Rattle.store_query.proofs.Lessens.{all_by_times, bag_of_times, times_both, times_of_bag, times_without}
use Rattle.store_query.proofs.Putting.{places_cover}
use Rattle.store_query.proofs.Seeing.{changed_seen, fitting, gone_in, gone_is, mark_before, pending_in, pending_is, rows_asked, rows_split, wide_front}
use Rattle.store_query.proofs.Served.{taken_serves, Serves}

abbrev no_rows : List (List Value)
no_rows = []

-- ---- a FROM item

-- rows that a projection shows, with the changes of a session, are for the query those of the table
over_seen : (m : Contents) (s : Seen) (changes : List Changes) (at : At) (q : BoundQuery) (f : FromItem) (d : Database) (p : Projected) (epoch : ℕ) (places : List (Option ℕ)) (out : List (List Value)) (t : Table) (taken : IsTaken s q f p)
    → IsRead m s changes at d → ArePlacesOf q f.first f.columns (ordinals p.entry) places → epoch ≡ epoch_of at s.catalogue.last → slice_get d.tables f.table ≡ Some t → f.columns ≡ length t.columns
    → (serves : Serves m q f d taken.table t p)
    → HasChanges (map (λ a. cleared places a.row) (deletes_of at s.catalogue.tables changes f)) (pending_of at s.catalogue.tables changes f) (map (placed places) (visible epoch serves.history.stored)) out
    → AreSeen q f.first f.columns out (rows_of at d changes t)
over_seen m s changes at q f d p epoch places out t taken read are epoch_is is wide serves (less, lessens, out_is) =
    let e = epoch_of at d.last in
    let fits = fitting d at changes t f.table f.columns read.sound read.session is wide in
    let stored = serves.history.stored in
    let shown = visible e stored in
    let deletes = gone_in at changes t in
    let more = pending_in at changes t in
    let at_epoch : epoch ≡ e = epoch_is ∙ ap (λ (n : ℕ). epoch_of at n) (sym read.are.last) in
    let bag : SameBag shown (map (λ row. projected row (ordinals p.entry)) (visible e t.rows)) =
    shows_same (ordinals p.entry) d.ahm e stored t.rows (mark_before at d read.sound read.epoch) serves.history.history in
    let gone : deletes_of at s.catalogue.tables changes f ≡ deletes = gone_is at s.catalogue.tables changes f taken.table t taken.there serves.name in
    let behind : pending_of at s.catalogue.tables changes f ≡ more = pending_is at s.catalogue.tables changes f taken.table t taken.there serves.name in
    let lessened : IsLess (map (λ a. cleared places a.row) deletes) (map (placed places) shown) less =
    subst (λ (n : ℕ). IsLess (map (λ a. cleared places a.row) deletes) (map (placed places) (visible n stored)) less) at_epoch
    (subst (λ (ds : List Asked). IsLess (map (λ a. cleared places a.row) ds) (map (placed places) (visible epoch stored)) less) gone lessens) in
    let seen : AreSeen q f.first f.columns (less ++ more) (without (rows_asked deletes) (visible e t.rows) ++ more) =
    changed_seen q f.first f.columns (ordinals p.entry) places deletes shown (visible e t.rows) fits.live.0 less more (places_cover q f p.entry places serves.covers are) fits.wide fits.pending bag fits.live.1 lessened in
    let all : out ≡ less ++ more = out_is ∙ ap (λ (xs : List (List Value)). less ++ xs) behind in
    subst (λ (xs : List (List Value)). AreSeen q f.first f.columns xs (rows_of at d changes t)) (sym all)
    (subst (AreSeen q f.first f.columns (less ++ more)) (sym (rows_split at d changes t read.epoch)) seen)

table_at : (d : Database) (f : FromItem) → IsOver d.tables f → (t : Table) × (slice_get d.tables f.table ≡ Some t) × (f.columns ≡ length t.columns)
table_at d f over = by (slice_get d.tables f.table) refl over
  where
    by : (o : Option Table) → slice_get d.tables f.table ≡ o → IsSomeAnd o (λ t. f.columns ≡ length t.columns) → (t : Table) × (slice_get d.tables f.table ≡ Some t) × (f.columns ≡ length t.columns)
    by None is none = absurd none
    by (Some t) is wide = (t, is, wide)

-- ---- rows that were passed over

-- Some rows are those that came and those that were passed over. Without the gone ones, as far as these came, they are what is left of those that
-- came, and some of those that were passed over.
pub record ArePassed (gone rows less passed : List (List Value)) : Type 0 where
  pub behind : List (List Value)
  pub parts : SameBag (without gone rows) (less ++ behind)
  pub among : (a : Asked) → times a behind ≤ times a passed

less_passed : (gone rows came less passed : List (List Value)) → SameBag rows (came ++ passed) → IsLess gone came less → ArePassed gone rows less passed
less_passed gone rows came less passed parts lessens =
    let whole = without gone rows in
    let all : (a : Asked) → times a whole ≡ times a rows - times a gone = times_without gone rows in
    let behind : (a : Asked) → times a (without less whole) ≡ times a whole - times a less = times_without less whole in
    let split : (a : Asked) → times a rows ≡ times a came + times a passed = λ a. times_of_bag a rows (came ++ passed) parts ∙ times_both a came passed in
    record {
      behind = without less whole;
      parts = bag_of_times whole (less ++ without less whole) (λ a. omega (arith, all a, behind a, split a, lessens a, times_both a less (without less whole)));
      among = λ a. omega (arith, all a, behind a, split a, lessens a);
    }

behind_passed : (whole less passed more : List (List Value)) → SameBag whole (less ++ passed) → SameBag (whole ++ more) ((less ++ more) ++ passed)
behind_passed whole less passed more bag = record {
  counts = λ p. omega (arith, bag.counts p, count_append p whole more, count_append p less passed, count_append p (less ++ more) passed, count_append p less more);
}

-- on a row that lies out of the bounds of the conditions no tuple is kept
beyond_out : (q : BoundQuery) (first : ℕ) (bounds : List Bound) (columns : ℕ) (row : List Value) → All (λ b. b.column < columns) bounds → ((row : List Value) → is_kept q.keep row ≡ true → within bounds (drop first row) ≡ true)
    → IsBeyond bounds columns row → IsOut q first row
beyond_out q first bounds columns row own kept (long, beyond) = λ before rest at. by before rest at (is_kept q.keep (before ++ (row ++ rest))) refl
  where
    by : (before rest : List Value) → length before ≡ first → (b : Bool) → is_kept q.keep (before ++ (row ++ rest)) ≡ b → is_kept q.keep (before ++ (row ++ rest)) ≡ false
    by before rest at false is = is
    by before rest at true is =
        let behind : drop first (before ++ (row ++ rest)) ≡ row ++ rest = subst (λ (n : ℕ). drop n (before ++ (row ++ rest)) ≡ row ++ rest) at (drop-append_seam before (row ++ rest)) in
        let front : within bounds row ≡ true =
        front_within bounds row rest (subst (λ (n : ℕ). All (λ b. b.column < n) bounds) (sym long) own) (sym (ap (within bounds) behind) ∙ kept (before ++ (row ++ rest)) is) in
        absurd (cc)

-- the bounds of the rows of a FROM item, whose first column has this place
pub record AreBounds (q : BoundQuery) (first columns : ℕ) (bounds : List Bound) : Type 0 where
  pub own : All (λ b. b.column < columns) bounds
  pub kept : (row : List Value) → is_kept q.keep row ≡ true → within bounds (drop first row) ≡ true

-- ---- rows that suffice

-- of the rows that a projection shows these came, within the bounds; without the gone ones, and with the pending ones, they suffice for the item
less_suffice : (m : Contents) (s : Seen) (changes : List Changes) (at : At) (q : BoundQuery) (f : FromItem) (d : Database) (p : Projected) (epoch : ℕ) (places : List (Option ℕ)) (bounds : List Bound) (came less : List (List Value)) (t : Table)
    (taken : IsTaken s q f p) → IsRead m s changes at d → ArePlacesOf q f.first f.columns (ordinals p.entry) places → epoch ≡ epoch_of at s.catalogue.last → slice_get d.tables f.table ≡ Some t → f.columns ≡ length t.columns
    → (serves : Serves m q f d taken.table t p) → AreBounds q f.first f.columns bounds
    → Passes bounds (length places) (map (placed places) (visible epoch serves.history.stored)) came → IsLess (map (λ a. cleared places a.row) (deletes_of at s.catalogue.tables changes f)) came less
    → (rows : List (List Value)) × AreSeen q f.first f.columns rows (rows_of at d changes t) × AreEnough q f.first f.columns (less ++ pending_of at s.catalogue.tables changes f) rows
less_suffice m s changes at q f d p epoch places bounds came less t taken read are epoch_is is wide serves bounds_are passes lessens =
    let deletes = deletes_of at s.catalogue.tables changes f in
    let gone = map (λ (a : Asked). cleared places a.row) deletes in
    let behind = pending_of at s.catalogue.tables changes f in
    let shown = map (placed places) (visible epoch serves.history.stored) in
    let whole = without gone shown in
    let passed = less_passed gone shown came less passes.passed passes.parts lessens in
    let seen : AreSeen q f.first f.columns (whole ++ behind) (rows_of at d changes t) =
    over_seen m s changes at q f d p epoch places (whole ++ behind) t taken read are epoch_is is wide serves (whole, times_without gone shown, refl) in
    let own : All (λ b. b.column < length places) bounds = subst (λ (n : ℕ). All (λ b. b.column < n) bounds) (sym are.long) bounds_are.own in
    let parts : SameBag (whole ++ behind) ((less ++ behind) ++ passed.behind) = behind_passed whole less passed.behind behind passed.parts in (
      whole ++ behind,
      seen,
      record {
        wide = wide_front f.columns (less ++ behind) passed.behind (whole ++ behind) parts seen.wide;
        passed = passed.behind;
        parts = parts;
        out = All-weaker (IsBeyond bounds (length places)) (IsOut q f.first) (λ row beyond. beyond_out q f.first bounds (length places) row own bounds_are.kept beyond) passed.behind
            (all_by_times (IsBeyond bounds (length places)) passed.behind passes.passed passed.among passes.beyond);
      },
    )

-- rows that a scan of the projection at these places makes within bounds, with the changes of a session, are these
pub record AreRows (s : Seen) (changes : List Changes) (at : At) (f : FromItem) (m : Contents) (p : Projected) (epoch : ℕ) (places : List (Option ℕ)) (bounds : List Bound) (out : List (List Value)) : Type 0 where
  pub scanned : List (List Value)
  pub found : (rows : List Stamped) → Stores m p rows → Passes bounds (length places) (map (placed places) (visible epoch rows)) scanned
  pub changed : HasChanges (map (λ a. cleared places a.row) (deletes_of at s.catalogue.tables changes f)) (pending_of at s.catalogue.tables changes f) scanned out

pub item_suffices : (m : Contents) (s : Seen) (changes : List Changes) (at : At) (q : BoundQuery) (f : FromItem) (d : Database) (p : Projected) (epoch : ℕ) (places : List (Option ℕ)) (bounds : List Bound) (out : List (List Value))
    → IsTaken s q f p → IsRead m s changes at d → ArePlacesOf q f.first f.columns (ordinals p.entry) places → epoch ≡ epoch_of at s.catalogue.last → AreBounds q f.first f.columns bounds
    → AreRows s changes at f m p epoch places bounds out → Suffice at changes q d f out
item_suffices m s changes at q f d p epoch places bounds out taken read are epoch_is bounds_are rows = λ over. by (table_at d f over) rows.changed
  where
    by : (t : Table) × (slice_get d.tables f.table ≡ Some t) × (f.columns ≡ length t.columns)
        → HasChanges (map (λ a. cleared places a.row) (deletes_of at s.catalogue.tables changes f)) (pending_of at s.catalogue.tables changes f) rows.scanned out
        → (all : List (List Value)) × AreSeen q f.first f.columns all (item_rows at d changes f) × AreEnough q f.first f.columns out all
    by (t, is, wide) (less, lessens, out_is) =
        let serves = taken_serves m s q f d t p taken read.are is in
        let found =
        less_suffice m s changes at q f d p epoch places bounds rows.scanned less t taken read are epoch_is is wide serves bounds_are (rows.found serves.history.stored serves.history.are) lessens in
        let at_table : rows_of at d changes t ≡ item_rows at d changes f = sym (ap (λ (o : Option Table). option_map_or (rows_of at d changes) o no_rows) is) in (
          found.0,
          subst (AreSeen q f.first f.columns found.0) at_table found.1,
          subst (λ (xs : List (List Value)). AreEnough q f.first f.columns xs found.0) (sym out_is) found.2,
        )

-- so it is where the rows go to a run of the query
pub item_taken : (m : Contents) (s : Seen) (changes : List Changes) (at : At) (q : BoundQuery) (f : FromItem) (d : Database) (p : Projected) (epoch : ℕ) (places : List (Option ℕ)) (bounds : List Bound) (first : Asked → ℕ) (old mid new : Run) → IsTaken s q f p
    → ArePlacesOf q f.first f.columns (ordinals p.entry) places → epoch ≡ epoch_of at s.catalogue.last → ((a : Asked) → first a ≡ tally a (map (λ x. asked (cleared places x.row)) (deletes_of at s.catalogue.tables changes f)))
    → AreBounds q f.first f.columns bounds
    → ((rows : List Stamped) → Stores m p rows → TakesLess q bounds (length places) first (map (placed places) (visible epoch rows)) old mid) → TakesRows q (pending_of at s.catalogue.tables changes f) mid new
    → IsRead m s changes at d → IsOver d.tables f → TakesItem at changes q d f old new
item_taken m s changes at q f d p epoch places bounds first old mid new taken are epoch_is first_is bounds_are takes pending read over = λ more has. by more (table_at d f over) has
  where
    gone : List (List Value)
    gone = map (λ (a : Asked). cleared places a.row) (deletes_of at s.catalogue.tables changes f)

    behind : List (List Value)
    behind = pending_of at s.catalogue.tables changes f

    counted : (a : Asked) → first a ≡ tally a (map asked gone)
    counted a = first_is a ∙ ap (tally a) (sym (gone_counted places (deletes_of at s.catalogue.tables changes f)))

    by : (more : List (List (List Value))) → (t : Table) × (slice_get d.tables f.table ≡ Some t) × (f.columns ≡ length t.columns) → HasTaken q more [] old
        → (rows : List (List Value)) × Suffice at changes q d f rows × HasTaken q more rows new
    by more (t, is, wide) has =
        let serves = taken_serves m s q f d t p taken read.are is in
        let took = takes serves.history.stored serves.history.are more has in
        let less = took.1 in
        let found = less_suffice m s changes at q f d p epoch places bounds took.0 less t taken read are epoch_is is wide serves bounds_are took.2 (λ a. took.3 a ∙ ap (λ (n : ℕ). times a took.0 - n) (counted a)) in
        let at_table : rows_of at d changes t ≡ item_rows at d changes f = sym (ap (λ (o : Option Table). option_map_or (rows_of at d changes) o no_rows) is) in (
          less ++ behind,
          λ there. (found.0, subst (AreSeen q f.first f.columns found.0) at_table found.1, found.2),
          pending more less took.4,
        )

-- no file of the projection is to blame
pub item_unblamed : (m : Contents) (s : Seen) (changes : List Changes) (at : At) (q : BoundQuery) (f : FromItem) (d : Database) (p : Projected) (fault : StoreFault) → IsTaken s q f p → IsRead m s changes at d → IsOver d.tables f
    → ((rows : List Stamped) → Stores m p rows → disk_faults.IsUnblamed fault) → disk_faults.IsUnblamed fault
item_unblamed m s changes at q f d p fault taken read over blames = by (slice_get d.tables f.table) refl over
  where
    by : (o : Option Table) → slice_get d.tables f.table ≡ o → IsSomeAnd o (λ t. f.columns ≡ length t.columns) → disk_faults.IsUnblamed fault
    by None is none = absurd none
    by (Some t) is wide = let serves = taken_serves m s q f d t p taken read.are is in blames serves.history.stored serves.history.are

-- ---- all FROM items

-- rows that suffice for each FROM item
pub record AllSuffice (at : At) (changes : List Changes) (q : BoundQuery) (d : Database) (first : ℕ) (fs : List FromItem) (some : List (List (List Value))) : Type 0 where
  pub rows : List (List (List Value))
  pub seen : AreSeenFrom q first fs rows (map (item_rows at d changes) fs)
  pub enough : AreEnoughFrom q first fs some rows

all_suffice : (at : At) (changes : List Changes) (q : BoundQuery) (d : Database) (first : ℕ) (fs : List FromItem) (some : List (List (List Value))) → AreOver first d.tables fs → AllZip (Suffice at changes q d) fs some
    → AllSuffice at changes q d first fs some
all_suffice at changes q d first [] [] over all = record { rows = []; seen = tt; enough = tt }
all_suffice at changes q d first [] (x ∷ some) over all = absurd all
all_suffice at changes q d first (f ∷ fs) [] over all = absurd all
all_suffice at changes q d first (f ∷ fs) (x ∷ some) (is, here, over) (one, more) =
    let own = one here in
    let others = all_suffice at changes q d (first + f.columns) fs some over more in
    record {
      rows = own.0 ∷ others.rows;
      seen = (subst (λ (n : ℕ). AreSeen q n f.columns own.0 (item_rows at d changes f)) is own.1, others.seen);
      enough = (subst (λ (n : ℕ). AreEnough q n f.columns x own.0) is own.2, others.enough);
    }

pub each_over : (first : ℕ) (tables : List Table) (fs : List FromItem) → AreOver first tables fs → All (IsOver tables) fs
each_over first tables [] over = All-nil (IsOver tables)
each_over first tables (f ∷ fs) (is, here, over) = All-cons (IsOver tables) f fs here (each_over (first + f.columns) tables fs over)

-- ---- a store that stands for a database

pub read_of : {D : Type 0} (disk : Ghosts D) (s : Seen) (now : D) (changes : List Changes) (at : At) (q : BoundQuery) (d : Database) (can : CanRead disk s now changes at q d) → IsRead can.stands.files s changes at d
read_of disk s now changes at q d can = record { are = can.stands.are; sound = can.stands.sound; epoch = can.epoch; session = can.session }

-- a run that has taken what a query reads of all items
pub items_read : (at : At) (changes : List Changes) (q : BoundQuery) (d : Database) (first : FromItem) (others : List FromItem) (given more : List (List (List Value))) (old new : Run) → given ≡ more → AllZip (Suffice at changes q d) others more
    → HasTaken q given [] old → TakesItem at changes q d first old new → HasRead at changes q d (first ∷ others) new
items_read at changes q d first others given more old new same suffice none takes =
    let own = subst (λ (xs : List (List (List Value))). HasTaken q xs [] old) same none in
    let took = takes more own in
    record {
      rows = took.0;
      more = more;
      suffice = (took.1, suffice);
      taken = took.2;
    }

-- a query without a FROM item reads nothing
pub nothing_read : (at : At) (d : Database) (changes : List Changes) (q : BoundQuery) (items : List FromItem) → items ≡ q.sources → length items ≡ 0 → source_rows at d changes q ≡ []
nothing_read at d changes q items is none = ap (map (item_rows at d changes)) (sym is ∙ nil_from_length items none)

-- what a run took and holds suffices for all FROM items
pub run_suffices : {D : Type 0} (disk : Ghosts D) (s : Seen) (now : D) (changes : List Changes) (at : At) (q : BoundQuery) (d : Database) (items : List FromItem) (r : Run) → items ≡ q.sources
    → ((m : Contents) → disk.holds now ≡ Some m → (e : Database) → IsRead m s changes at e → All (IsOver e.tables) items → HasRead at changes q e items r) → CanRead disk s now changes at q d
    → (rows : List (List Value)) × (more : List (List (List Value))) × AllSuffice at changes q d 0 q.sources (rows ∷ more) × HasTaken q more rows r
run_suffices disk s now changes at q d items r is reads can =
    let over = subst (λ (fs : List FromItem). All (IsOver d.tables) fs) (sym is) (each_over 0 d.tables q.sources can.over) in
    let has = reads can.stands.files can.stands.quiet.told_is d (read_of disk s now changes at q d can) over in (
      has.rows,
      has.more,
      all_suffice at changes q d 0 q.sources (has.rows ∷ has.more) can.over (subst (λ (fs : List FromItem). AllZip (Suffice at changes q d) fs (has.rows ∷ has.more)) is has.suffice),
      has.taken,
    )

store_unblamed : (fault : StoreFault) → disk_faults.IsUnblamed fault → IsUnblamed (of_store fault)
store_unblamed store.Disk is = tt
store_unblamed (store.Damaged q) is = absurd is
store_unblamed store.Memory is = tt

pub select_unblamed : {D : Type 0} (disk : Ghosts D) (s : Seen) (now : D) (changes : List Changes) (at : At) (q : BoundQuery) (d : Database) (items : List FromItem) (fault : StoreFault) → items ≡ q.sources
    → ((m : Contents) → disk.holds now ≡ Some m → (e : Database) → IsRead m s changes at e → All (IsOver e.tables) items → disk_faults.IsUnblamed fault) → CanRead disk s now changes at q d → IsUnblamed (of_store fault)
select_unblamed disk s now changes at q d items fault is blames can =
    let over = subst (λ (fs : List FromItem). All (IsOver d.tables) fs) (sym is) (each_over 0 d.tables q.sources can.over) in
    store_unblamed fault (blames can.stands.files can.stands.quiet.told_is d (read_of disk s now changes at q d can) over)

-- a FROM item of no columns
abbrev pub blank : FromItem
blank = record { table = 0; first = 0; columns = 0 }
