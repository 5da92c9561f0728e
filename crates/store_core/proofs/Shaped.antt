-- A projection that comes, over a running store.
use Rattle.std.proofs.Common.{◌≡◌, inl, inr, ℕ, zero, suc, ◌+◌, ◌≤◌, ◌<◌, Bool, true, false, cond, List, [], ◌∷◌, length, map, drop, get_or, refl, sym, ◌∙◌, ap, subst, arith}
use Rattle.std.specs.Prelude.{◌||◌, ◌&&◌, not, find, bytes_eq, Option, Some, None, option_map, Result, Err, OnOk, IsSomeAnd}
use Rattle.std.specs.Bool.{OnTrue}
use Rattle.std.specs.List.{All, list_any, enumerate_from, slice_get}
use Rattle.std.proofs.Math.Seq.{drop-cons}
use Rattle.std.proofs.lemmas.Option.{same_Some}
use Rattle.std.proofs.lemmas.List.Elements.{All-head, All-tail}
use Rattle.common_laws.specs.Maps.{Contents}
use Rattle.common_laws.proofs.BagLaws.{bag_length}
use Rattle.col_disk.specs.declared.disk.Disk.{Ghosts}
use Rattle.col_disk.specs.declared.disk.DiskFault.TheVariants.{Memory}
use Rattle.col_disk.proofs.Moving.{leaves_wider}
use Rattle.col_value.specs.declared.kinds.Encoding.{Encoding}
use Rattle.col_value.specs.declared.row.Stamped.{Stamped}
use Rattle.row_history.specs.History.{is_retained, on_columns, retained}
use Rattle.catalog_types.specs.declared.catalogue.Catalogue.{Catalogue}
use Rattle.catalog_types.specs.declared.catalogue.ProjColumn.{ProjColumn}
use Rattle.catalog_types.specs.declared.catalogue.Projection.{Projection}
use Rattle.catalog_types.specs.declared.catalogue.Table as kept
use Rattle.sql_tree.specs.declared.statement.NewProjection as asked
use Rattle.sql_binding.specs.Projections.{bound_projection}
use Rattle.change_binder.specs.declared.projections.ProjectionShape.{ProjectionShape}
use Rattle.db_model.specs.Database.{Database, Shape, Table, is_super, has_columns, ordinals}
use Rattle.db_model.specs.State.{State, Changes, change_named}
use Rattle.db_model.specs.Events as event
use Rattle.db_model.specs.Events.{is_empty_list, with_shape, projection_created}
use Rattle.db_model.specs.Numbers.{IsDrawn}
use Rattle.db_model.specs.Sound.{IsSoundDatabase, IsSoundTable, IsSound}
use Rattle.db_model.specs.Views.{table_found}
use Rattle.stored_rows.specs.Stored.{Projected, Stores}
use Rattle.proj_store.specs.Loaded.{Loaded}
use Rattle.folder_model.specs.Projections.{shape_of, HasRows, HasHistory}
use Rattle.folder_model.specs.Tables.{StandForTables}
use Rattle.sound_laws.specs.Moves.{change_at}
use Rattle.statement_plan.specs.Places.{IsProjectionOf, placed_projection}
use Rattle.store_commit.specs.Seen.{Seen, Stands}
use Rattle.store_commit.specs.Making.{Makes, ReopensToEither}
use Rattle.store_commit.proofs.Settled.{made_nothing}
use Rattle.table_store.specs.declared.shaping.NewProjection.{NewProjection}
use Rattle.table_store.specs.Drawing.{DrawsOne}
use Rattle.table_store.specs.Held.{at_epoch}
use Rattle.table_store.specs.Shaping.{RetainsNone, new_shape, shaped_at, shaped_in}
use Rattle.store_core.specs.Running.{Running, running, IsState, Mover, work_dropped}
use Rattle.store_core.specs.Events.{BeforeOrAfter, Does}
use Rattle.store_core.specs.Shaping.{is_fresh, part_of}
use Rattle.store_core.proofs.Doing.{drawn_does, without_work}
use Rattle.store_core.proofs.Events.{renumbered, viewed, grown_by_one}

-- ---- the rows that a table retains

empty_length : {X : Type 0} (xs : List X) → length xs ≡ 0 → xs ≡ []
empty_length [] is = refl
empty_length (x ∷ xs) is = absurd (omega (arith, is))

none_any : (mark : ℕ) (rows : List Stamped) → is_empty_list (retained mark rows) ≡ not (list_any (is_retained mark) rows)
none_any mark [] = refl
none_any mark (s ∷ rows) = by (is_retained mark s) (none_any mark rows)
  where
    by : (b : Bool) → is_empty_list (retained mark rows) ≡ not (list_any (is_retained mark) rows) → is_empty_list (cond b (s ∷ retained mark rows) (retained mark rows)) ≡ not (b || list_any (is_retained mark) rows)
    by true rest = refl
    by false rest = rest

-- lists of the same length are both empty, or neither is
both_empty : {X Y : Type 0} (xs : List X) (ys : List Y) → length xs ≡ length ys → is_empty_list xs ≡ is_empty_list ys
both_empty [] [] long = refl
both_empty [] (y ∷ ys) long = absurd (omega (arith, long))
both_empty (x ∷ xs) [] long = absurd (omega (arith, long))
both_empty (x ∷ xs) (y ∷ ys) long = refl

length_map : {X Y : Type 0} (f : X → Y) (xs : List X) → length (map f xs) ≡ length xs
length_map f [] = refl
length_map f (x ∷ xs) = ap suc (length_map f xs)

on_fresh : {P : Type 0} (b : Bool) → b ≡ true → OnTrue b P → P
on_fresh true on p = p
on_fresh false on p = absurd (cc)

-- a projection that is up to date retains none exactly where its table does
pub retains_by : (m : Contents) (mark : ℕ) (rows : List Stamped) (p : Projected) (keeps : Bool) → p.entry.fresh ≡ true → HasRows m mark rows p
    → ((m : Contents) (stored : List Stamped) → Stores m p stored → keeps ≡ list_any (is_retained mark) stored) → not keeps ≡ is_empty_list (retained mark rows)
retains_by m mark rows p keeps on has is =
    let history : HasHistory m mark rows p = on_fresh p.entry.fresh on has.fresh in
    ap not (is m history.stored history.are) ∙ sym (none_any mark history.stored)
    ∙ both_empty (retained mark history.stored) (retained mark rows)
    (bag_length (retained mark history.stored) (map (on_columns (map (λ c. c.ordinal) p.entry.columns)) (retained mark rows)) history.history
    ∙ length_map (on_columns (map (λ c. c.ordinal) p.entry.columns)) (retained mark rows))

-- ---- the table at a place

-- two elements with their places that are the same
abbrev pub placed_so : {X : Type 0} → ℕ → X → Option (ℕ × X)
placed_so n x = Some (n, x)

pub same_placed : {X : Type 0} (m n : ℕ) (x y : X) → placed_so m x ≡ placed_so n y → (m ≡ n) × (x ≡ y)
same_placed {X} m n x y is = (ap (λ (e : ℕ × X). e.0) (same_Some (m, x) (n, y) is), ap (λ (e : ℕ × X). e.1) (same_Some (m, x) (n, y) is))

-- a table that is found stands at its place, and a change of it by name is one by place
pub found_at : (name : List ℕ) (n : ℕ) (ts : List Table) (i : ℕ) (t : Table) → find (λ e. bytes_eq e.1.name name) (enumerate_from n ts) ≡ Some (i, t)
    → (k : ℕ) × (i ≡ n + k) × IsSomeAnd (slice_get ts k) (λ u. u ≡ t) × ((f g : Table → Table) → f t ≡ g t → change_named name f ts ≡ change_at k g ts)
found_at name n [] i t none = absurd (cc)
found_at name n (u ∷ us) i t there = by (bytes_eq u.name name) (λ rest. found_at name (n + 1) us i t rest) there
  where
    Found : ℕ → List Table → Type 0
    Found from ts = (k : ℕ) × (i ≡ from + k) × IsSomeAnd (slice_get ts k) (λ v. v ≡ t) × ((f g : Table → Table) → f t ≡ g t → change_named name f ts ≡ change_at k g ts)

    Here : Bool → Type 0
    Here b = (k : ℕ) × (i ≡ n + k) × IsSomeAnd (slice_get (u ∷ us) k) (λ v. v ≡ t) × ((f g : Table → Table) → f t ≡ g t → cond b (f u ∷ us) (u ∷ change_named name f us) ≡ change_at k g (u ∷ us))

    by : (b : Bool) → (find (λ e. bytes_eq e.1.name name) (enumerate_from (n + 1) us) ≡ Some (i, t) → Found (n + 1) us) → cond b (Some (n, u)) (find (λ e. bytes_eq e.1.name name) (enumerate_from (n + 1) us)) ≡ Some (i, t) → Here b
    by true more here =
        let at : n ≡ i = (same_placed n i u t here).0 in
        let same : u ≡ t = (same_placed n i u t here).1 in
        (zero, omega (arith, at), same, λ f g is. ap (λ (v : Table). v ∷ us) (ap f same ∙ is ∙ sym (ap g same)))
    by false more rest =
        let (k, at, there, change) = more rest in
        (suc k, omega (arith, at), there, λ f g is. ap (λ (vs : List Table). u ∷ vs) (change f g is))

-- ---- its shape

abbrev shape_with : List ℕ → List (ℕ × Encoding) → List ℕ → Bool → ℕ → Shape
shape_with name columns sort fresh last = record { name = name; columns = columns; sort = sort; fresh = fresh; lge = cond fresh last 0 }

parts_again : (columns : List (ℕ × Encoding)) → map {B = ℕ × Encoding} (λ c. (c.ordinal, c.encoding)) (map part_of columns) ≡ columns
parts_again [] = refl
parts_again (c ∷ columns) = ap (λ (cs : List (ℕ × Encoding)). c ∷ cs) (parts_again columns)

pub same_shape : (d : Database) (p : asked.NewProjection) (t : Table) (q : NewProjection) (shape : ProjectionShape) (last : ℕ) → d.last ≡ last → p.name ≡ q.name → q.columns ≡ map part_of shape.columns → q.sort ≡ shape.sort
    → bound_projection t.columns p ≡ (shape.columns, shape.sort) → q.fresh ≡ is_empty_list (retained d.ahm t.rows) → event.new_shape d.ahm d.last p t ≡ new_shape q last
same_shape d p t q shape last at named columns sort bound fresh =
    ap (λ (n : List ℕ). shape_with n (bound_projection t.columns p).0 (bound_projection t.columns p).1 (is_empty_list (retained d.ahm t.rows)) d.last) named
    ∙ ap (λ (b : List (ℕ × Encoding) × List ℕ). shape_with q.name b.0 b.1 (is_empty_list (retained d.ahm t.rows)) d.last) bound
    ∙ ap (λ (cs : List (ℕ × Encoding)). shape_with q.name cs shape.sort (is_empty_list (retained d.ahm t.rows)) d.last) (sym (ap (map (λ c. (c.ordinal, c.encoding))) columns ∙ parts_again shape.columns))
    ∙ ap (λ (is : List ℕ). shape_with q.name (map (λ c. (c.ordinal, c.encoding)) q.columns) is (is_empty_list (retained d.ahm t.rows)) d.last) (sym sort)
    ∙ ap (λ (b : Bool). shape_with q.name (map (λ c. (c.ordinal, c.encoding)) q.columns) q.sort b d.last) (sym fresh)
    ∙ ap (λ (n : ℕ). shape_with q.name (map (λ c. (c.ordinal, c.encoding)) q.columns) q.sort q.fresh n) at

-- ---- what is known of the table

-- a table is found with its bound projection
pub found_bound : (p : asked.NewProjection) (table : ℕ) (columns : List (ℕ × Encoding)) (sort : List ℕ) (o : Option (ℕ × Table)) → option_map (placed_projection p) o ≡ Some (table, (columns, sort))
    → (t : Table) × (o ≡ Some (table, t)) × (bound_projection t.columns p ≡ (columns, sort))
found_bound p table columns sort None is = absurd (cc)
found_bound p table columns sort (Some e) is =
    let both : placed_projection p e ≡ (table, (columns, sort)) = same_Some (placed_projection p e) (table, (columns, sort)) is in
    let at : e.0 ≡ table = ap (λ (b : ℕ × (List (ℕ × Encoding) × List ℕ)). b.0) both in
    let bound : bound_projection e.1.columns p ≡ (columns, sort) = ap (λ (b : ℕ × (List (ℕ × Encoding) × List ℕ)). b.1) both in
    (e.1, ap (λ (n : ℕ). Some (n, e.1)) at, bound)

-- the projections of the table at a place hold its rows, and one is up to date
any_fresh : (t : Table) (ps : List Projected) (es : List Projection) → map (λ p. p.entry) ps ≡ es → list_any (is_super t) (map shape_of es) ≡ true → list_any is_fresh ps ≡ true
any_fresh t [] [] are is = absurd (cc)
any_fresh t [] (e ∷ es) are is = absurd (cc)
any_fresh t (p ∷ ps) [] are is = absurd (cc)
any_fresh t (p ∷ ps) (e ∷ es) are is =
    let first : p.entry ≡ e = cc in
    let rest : map (λ (q : Projected). q.entry) ps ≡ es = cc in
    by p.entry.fresh e.fresh (ap (λ (x : Projection). x.fresh) first) (λ more. any_fresh t ps es rest more) is
  where
    by : (b c : Bool) → b ≡ c → (list_any (is_super t) (map shape_of es) ≡ true → list_any is_fresh ps ≡ true) → ((c && has_columns (shape_of e) (ordinals t)) || list_any (is_super t) (map shape_of es)) ≡ true → (b || list_any is_fresh ps) ≡ true
    by true c same more any = refl
    by false true same more any = absurd (cc)
    by false false same more any = more any

abbrev pub HasTable : Contents → ℕ → List Projected → Table → Type 0
HasTable m mark ps t = All (HasRows m mark t.rows) ps × (list_any is_fresh ps ≡ true)

table_has : (m : Contents) (mark : ℕ) (d : Database) (ts : List kept.Table) (pss : List (List Projected)) (us : List Table) (k : ℕ) (t : Table) → StandForTables m mark ts pss us → All (IsSoundTable d) us → IsSomeAnd (slice_get us k) (λ u. u ≡ t)
    → IsSomeAnd (slice_get pss k) (λ ps. HasTable m mark ps t)
table_has m mark d [] [] [] k t stand sound there = absurd there
table_has m mark d [] [] (u ∷ us) k t stand sound there = absurd stand
table_has m mark d [] (ps ∷ pss) us k t stand sound there = absurd stand
table_has m mark d (e ∷ ts) [] us k t stand sound there = absurd stand
table_has m mark d (e ∷ ts) (ps ∷ pss) [] k t stand sound there = absurd stand
table_has m mark d (e ∷ ts) (ps ∷ pss) (u ∷ us) zero t (here, more) sound there =
    subst (HasTable m mark ps) there
    (here.rows, any_fresh u ps e.projections here.entries (subst (λ (ss : List Shape). list_any (is_super u) ss ≡ true) here.shapes (All-head (IsSoundTable d) u us sound).super))
table_has m mark d (e ∷ ts) (ps ∷ pss) (u ∷ us) (suc k) t (here, more) sound there = table_has m mark d ts pss us k t more (All-tail (IsSoundTable d) u us sound) there

-- ---- the event

-- what was found of the rows that the table at a place retains
abbrev pub Decides : Seen → ℕ → ℕ → Bool → Type 0
Decides was mark table fresh = IsSomeAnd (slice_get was.stores table) (λ ps. (m : Contents) (rows : List Stamped) → All (HasRows m mark rows) ps → list_any is_fresh ps ≡ true → fresh ≡ is_empty_list (retained mark rows))

decided : (m : Contents) (mark : ℕ) (t : Table) (fresh : Bool) (o : Option (List Projected)) → IsSomeAnd o (λ ps. HasTable m mark ps t)
    → IsSomeAnd o (λ ps. (m : Contents) (rows : List Stamped) → All (HasRows m mark rows) ps → list_any is_fresh ps ≡ true → fresh ≡ is_empty_list (retained mark rows)) → fresh ≡ is_empty_list (retained mark t.rows)
decided m mark t fresh None has is = absurd has
decided m mark t fresh (Some ps) (rows, any) is = is m t.rows rows any

no_row : (fresh : Bool) (rows : List Stamped) → fresh ≡ is_empty_list rows → fresh ≡ true → rows ≡ []
no_row fresh [] is on = refl
no_row fresh (s ∷ rows) is on = absurd (cc)

none_at : (mark : ℕ) (us : List Table) (k : ℕ) (t : Table) → IsSomeAnd (slice_get us k) (λ u. u ≡ t) → retained mark t.rows ≡ [] → IsSomeAnd (slice_get us k) (λ u. retained mark u.rows ≡ [])
none_at mark [] k t there none = absurd there
none_at mark (u ∷ us) zero t there none = subst (λ (v : Table). retained mark v.rows ≡ []) (sym there) none
none_at mark (u ∷ us) (suc k) t there none = none_at mark us k t there none

-- what the event makes of the database
pub record Shapes (d : Database) (table : ℕ) (p : asked.NewProjection) (q : NewProjection) (last : ℕ) : Type 0 where
  pub same : change_named p.table (with_shape d.ahm d.last p) d.tables ≡ change_at table (shaped_in (new_shape q last)) d.tables
  pub none : q.fresh ≡ true → RetainsNone table d

shapes_are : {D : Type 0} (disk : Ghosts D) (old : D) (was : Seen) (state : State) (table : ℕ) (p : asked.NewProjection) (q : NewProjection) (shape : ProjectionShape) → Stands disk was old state.database → Decides was was.catalogue.ahm table q.fresh
    → p.name ≡ q.name → q.columns ≡ map part_of shape.columns → q.sort ≡ shape.sort → IsProjectionOf state p table shape → Shapes state.database table p q was.catalogue.last
shapes_are disk old was state table p q shape stands decides named columns sort of =
    let d = state.database in
    let (t, found, bound) = found_bound p table shape.columns shape.sort (table_found p.table d.tables) of in
    let (k, at, there, change) = found_at p.table 0 d.tables table t found in
    let place : k ≡ table = omega (arith, at) in
    let here : IsSomeAnd (slice_get d.tables table) (λ u. u ≡ t) = subst (λ (n : ℕ). IsSomeAnd (slice_get d.tables n) (λ u. u ≡ t)) place there in
    let fresh : q.fresh ≡ is_empty_list (retained was.catalogue.ahm t.rows) =
    decided stands.files was.catalogue.ahm t q.fresh (slice_get was.stores table) (table_has stands.files was.catalogue.ahm d was.catalogue.tables was.stores d.tables table t stands.are.tables stands.sound.tables here) decides in
    let still : q.fresh ≡ is_empty_list (retained d.ahm t.rows) = subst (λ (n : ℕ). q.fresh ≡ is_empty_list (retained n t.rows)) (sym stands.are.ahm) fresh in
    record {
      same =
          subst (λ (n : ℕ). change_named p.table (with_shape d.ahm d.last p) d.tables ≡ change_at n (shaped_in (new_shape q was.catalogue.last)) d.tables) place
          (change (with_shape d.ahm d.last p) (shaped_in (new_shape q was.catalogue.last))
          (ap (λ (s : Shape). shaped_in s t) (same_shape d p t q shape was.catalogue.last stands.are.last named columns sort bound still)));
      none = λ on. none_at d.ahm d.tables table t here (no_row q.fresh (retained d.ahm t.rows) still on);
    }

abbrev with_tables_of : Database → List Table → Database
with_tables_of d ts = record d { tables = ts }

pub shape_does : {D F : Type 0} (disk : Ghosts D) (short : F) {old new : D} (was is : Seen) (sessions : List (List Changes)) (current : ℕ) (mover after : Mover) (now : Running) (table : ℕ) (p : asked.NewProjection) (q : NewProjection) (shape : ProjectionShape) (result : Result (Unit {0}) F) (state : State)
    → running was sessions current mover ≡ now → IsState disk now old state → after ≡ work_dropped mover → IsSound (projection_created p state) → Decides was was.catalogue.ahm table q.fresh → p.name ≡ q.name → q.columns ≡ map part_of shape.columns → q.sort ≡ shape.sort
    → IsProjectionOf state p table shape
    → ((d : Database) → Stands disk was old d → (q.fresh ≡ true → RetainsNone table d) → IsSoundDatabase (shaped_at table (new_shape q was.catalogue.last) d) → Makes disk short was is old new result d (shaped_at table (new_shape q was.catalogue.last) d))
    → OnOk result (DrawsOne was.catalogue is.catalogue)
    → Does disk short now (running is sessions current after) old new result state (IsDrawn state (projection_created p state))
shape_does disk short {old} {new} was is sessions current mover after now table p q shape result state view here given sound decides named columns sort of makes draws =
    let own = viewed disk old (running was sessions current mover) now state view here in
    let d = state.database in
    let shapes = shapes_are disk old was state table p q shape own.database decides named columns sort of in
    let made : (projection_created p state).database ≡ shaped_at table (new_shape q was.catalogue.last) d = ap (with_tables_of d) shapes.same in
    subst (λ (r : Running). Does disk short r (running is sessions current after) old new result state (IsDrawn state (projection_created p state))) view
    (drawn_does disk short was is sessions sessions current mover after result state (projection_created p state) state.parts own
    (subst (λ (e : Database). Makes disk short was is old new result d e) (sym made) (makes d own.database shapes.none (subst IsSoundDatabase made sound.database)))
    (grown_by_one result state was is own.next own.parts draws)
    (record { sessions = own.sessions; current = own.current; asked = own.asked ∙ sym (ap (λ (m : Mover). m.asked) given); busy = own.busy ∙ sym (ap (λ (m : Mover). m.busy) given); free = ap (λ (m : Mover). m.work) given; sound = renumbered (projection_created p state) sound }))

-- ---- the projections, one after the other

abbrev stored_of : List Loaded → List Projected
stored_of ps = map (λ p. p.stored) ps

-- the one at a place holds the table's rows
pub rows_at : (m : Contents) (mark : ℕ) (rows : List Stamped) (ps : List Loaded) (k : ℕ) (p : Loaded) → k < length ps → p ≡ get_or ps k p → All (HasRows m mark rows) (stored_of ps) → HasRows m mark rows p.stored
rows_at m mark rows [] k p lt at all = absurd (omega (arith, lt))
rows_at m mark rows (o ∷ os) zero p lt at all = subst (λ (x : Loaded). HasRows m mark rows x.stored) (sym at) (All-head (HasRows m mark rows) o.stored (stored_of os) all)
rows_at m mark rows (o ∷ os) (suc k) p lt at all = rows_at m mark rows os k p (omega (arith, lt)) at (All-tail (HasRows m mark rows) o.stored (stored_of os) all)

-- one that isn't up to date is passed over
pub fresh_next : (ps : List Loaded) (k : ℕ) (p : Loaded) (whole : Bool) → k < length ps → p ≡ get_or ps k p → is_fresh p.stored ≡ false → list_any is_fresh (stored_of (drop k ps)) ≡ whole → list_any is_fresh (stored_of (drop (k + 1) ps)) ≡ whole
fresh_next ps k p whole lt at off is =
    let next : suc k ≡ k + 1 = omega arith in
    let split : drop k ps ≡ p ∷ drop (suc k) ps = drop-cons ps k p lt ∙ ap (λ (x : Loaded). x ∷ drop (suc k) ps) (sym at) in
    let here : list_any is_fresh (stored_of (drop k ps)) ≡ list_any is_fresh (stored_of (drop (suc k) ps)) =
    ap (λ (xs : List Loaded). list_any is_fresh (stored_of xs)) split ∙ ap (λ (b : Bool). b || list_any is_fresh (stored_of (drop (suc k) ps))) off in
    ap (λ (n : ℕ). list_any is_fresh (stored_of (drop n ps))) (sym next) ∙ sym here ∙ is

pub none_fresh : (ps : List Loaded) (k : ℕ) → length ps ≤ k → list_any is_fresh (stored_of (drop k ps)) ≡ false
none_fresh [] zero past = refl
none_fresh [] (suc k) past = refl
none_fresh (p ∷ ps) zero past = absurd (omega (arith, past))
none_fresh (p ∷ ps) (suc k) past = none_fresh ps k (omega (arith, past))

-- what holds of the projections at a place holds of the stores there
pub stores_at : (P : List Projected → Type 0) (ts : List (List Loaded)) (stores : List (List Projected)) (i : ℕ) (ps : List Loaded) → map stored_of ts ≡ stores → i < length ts → ps ≡ get_or ts i ps → P (stored_of ps) → IsSomeAnd (slice_get stores i) P
stores_at P ts stores i ps are lt at is = subst (λ (ss : List (List Projected)). IsSomeAnd (slice_get ss i) P) are (by ts i lt at)
  where
    by : (us : List (List Loaded)) (k : ℕ) → k < length us → ps ≡ get_or us k ps → IsSomeAnd (slice_get (map stored_of us) k) P
    by [] k below same = absurd (omega (arith, below))
    by (u ∷ us) zero below same = subst (λ (x : List Loaded). P (stored_of x)) same is
    by (u ∷ us) (suc k) below same = by us k (omega (arith, below)) same

-- what was decided by the projections of the table at a place
pub decides_by : (was : Seen) (root : Catalogue) (ts : List (List Loaded)) (table : ℕ) (parts seen : List Loaded) (fresh : Bool) → was.catalogue ≡ at_epoch was.catalogue.last root → map stored_of ts ≡ was.stores → table < length ts → parts ≡ get_or ts table parts → seen ≡ parts
    → ((m : Contents) (rows : List Stamped) → All (HasRows m root.ahm rows) (stored_of seen) → list_any is_fresh (stored_of seen) ≡ true → fresh ≡ is_empty_list (retained root.ahm rows)) → Decides was was.catalogue.ahm table fresh
decides_by was root ts table parts seen fresh roots stores lt at same is =
    stores_at (λ ps. (m : Contents) (rows : List Stamped) → All (HasRows m was.catalogue.ahm rows) ps → list_any is_fresh ps ≡ true → fresh ≡ is_empty_list (retained was.catalogue.ahm rows)) ts was.stores table parts stores lt at
    (subst (λ (mark : ℕ). (m : Contents) (rows : List Stamped) → All (HasRows m mark rows) (stored_of parts) → list_any is_fresh (stored_of parts) ≡ true → fresh ≡ is_empty_list (retained mark rows)) (sym (ap (λ (c : Catalogue). c.ahm) roots))
    (subst (λ (ps : List Loaded). (m : Contents) (rows : List Stamped) → All (HasRows m root.ahm rows) (stored_of ps) → list_any is_fresh (stored_of ps) ≡ true → fresh ≡ is_empty_list (retained root.ahm rows)) same is))

-- there are as many stores as tables
pub table_there : (was : Seen) (root : Catalogue) (ts : List (List Loaded)) (sessions : List (List Changes)) (current : ℕ) (mover : Mover) (now : Running) (table : ℕ) → running was sessions current mover ≡ now → was.catalogue ≡ at_epoch was.catalogue.last root
    → map (λ ps. map (λ p. p.entry) ps) was.stores ≡ map (λ t. t.projections) root.tables → map stored_of ts ≡ was.stores → table < length now.seen.catalogue.tables → table < length ts
table_there was root ts sessions current mover now table view roots entries stores lt =
    let here : table < length was.catalogue.tables = subst (λ (r : Running). table < length r.seen.catalogue.tables) (sym view) lt in
    let tables : length was.catalogue.tables ≡ length root.tables = ap (λ (c : Catalogue). length c.tables) roots in
    let all : length was.stores ≡ length root.tables = sym (length_map (λ (ps : List Projected). map (λ p. p.entry) ps) was.stores) ∙ ap (λ (xs : List (List Projection)). length xs) entries ∙ length_map (λ (t : kept.Table). t.projections) root.tables in
    let mine : length ts ≡ length was.stores = sym (length_map stored_of ts) ∙ ap (λ (xs : List (List Projected)). length xs) stores in
    omega (arith, here, tables, all, mine)

-- a new projection, of its parts
abbrev pub new_of : List ℕ → List ProjColumn → List ℕ → Bool → NewProjection
new_of name columns sort fresh = record { name = name; columns = columns; sort = sort; fresh = fresh }

-- where memory was short before anything was done
pub nothing_done : {D : Type 0} (disk : Ghosts D) (old : D) (now : Running) {is : Running} (state : State) (After : State → Type 0) → IsState disk now old state → Does {R = Unit {0}} disk Memory now is old old (Err Memory) state After
nothing_done disk old now {is} state After here = record {
  done = tt;
  undone = λ short. without_work disk now old state here;
  any_moment = leaves_wider disk (λ x reopens. by x reopens) (made_nothing disk now.seen now.seen Memory state.database state.database here.database).any_moment;
}
  where
    by : (x : Contents) → ReopensToEither state.database state.database x → BeforeOrAfter state After x
    by x (inl before) = inl before
    by x (inr after) = inl after
