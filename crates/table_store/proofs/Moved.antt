-- What the store stands for after a projection was moved out.
use Rattle.std.proofs.Common.{◌≡◌, ℕ, zero, suc, ◌<◌, ◌≤◌, Bool, true, false, List, [], ◌∷◌, length, map, set, get_or, refl, sym, ◌∙◌, ap, subst, arith}
use Rattle.std.specs.Prelude.{Option, Some, None, IsSomeAnd, IfSome}
use Rattle.std.specs.Bool.{OnTrue, OnFalse}
use Rattle.std.specs.List.{All, AllZip, slice_get, slice_index_or}
use Rattle.std.proofs.lemmas.List.{get_or-map, get_or_default, length-map}
use Rattle.std.proofs.lemmas.List.Elements.{All-head, All-tail, All-cons, All-nil, All-weaker}
use Rattle.common_laws.specs.Bags.{SameBag}
use Rattle.common_laws.specs.Maps.{Contents}
use Rattle.common_laws.proofs.BagLaws.{bag_sym, bag_trans}
use Rattle.col_value.specs.declared.row.Stamped.{Stamped}
use Rattle.row_history.specs.History.{retained, on_columns}
use Rattle.row_history.proofs.Histories.{bag_retained}
use Rattle.catalog_types.specs.declared.catalogue.Container.{Container}
use Rattle.catalog_types.specs.declared.catalogue.Projection.{Projection}
use Rattle.catalog_types.specs.declared.catalogue.Table as kept
use Rattle.catalog_types.specs.declared.catalogue.Catalogue.{Catalogue}
use Rattle.catalog_types.specs.Parts.{IsContainer, IsProjection}
use Rattle.catalog_types.specs.Valid.{IsValid}
use Rattle.del_vector.specs.declared.mark.Mark.{Mark}
use Rattle.del_vector.specs.Marks.{epoch_at}
use Rattle.db_model.specs.Database.{Database, Table}
use Rattle.db_model.specs.Mover.{reached_to}
use Rattle.stored_rows.specs.Held.{Holds}
use Rattle.stored_rows.specs.Stored.{Beside, Projected, Stores, IsUnmarked, IsLoaded, AreLater}
use Rattle.folder_model.specs.Projections.{shape_of, ordinals, HasHistory, IsBare, HasRows}
use Rattle.folder_model.specs.Tables.{StandsForTable, StandForTables, AreDatabase}
use Rattle.container_writer.specs.Writing.{AreNumbered}
use Rattle.moveout_job.specs.OnDisk.{IsBelow, IsListedBelow, IsMovedOut, KeepsStored}
use Rattle.proj_store.specs.Loaded.{Loaded}
use Rattle.sound_laws.specs.Moves.{change_at, reached_in, moved_at}
use Rattle.table_store.specs.Held.{projections_of}
use Rattle.table_store.specs.Moving.{IsFreshAt, IsRewrittenFrom, IsRewritten, with_entry, with_entry_at}

-- ---- lists with one element changed

pub change_set : {X : Type 0} (i : ℕ) (f : X → X) (xs : List X) (x : X) → i < length xs → x ≡ get_or xs i x → change_at i f xs ≡ set xs i (f x)
change_set i f [] x lt is = absurd (omega (arith, lt))
change_set {X} zero f (y ∷ xs) x lt is = ap (λ (z : X). f z ∷ xs) (sym is)
change_set {X} (suc i) f (y ∷ xs) x lt is = ap (λ (zs : List X). y ∷ zs) (change_set i f xs x (omega (arith, lt)) is)

pub set_again : {X : Type 0} (xs : List X) (i : ℕ) (x y : X) → set (set xs i x) i y ≡ set xs i y
set_again [] i x y = refl
set_again (z ∷ xs) zero x y = refl
set_again {X} (z ∷ xs) (suc i) x y = ap (λ (zs : List X). z ∷ zs) (set_again xs i x y)

pub change_put : {X : Type 0} (i : ℕ) (y : X) (xs : List X) → i < length xs → change_at i (λ x. y) xs ≡ set xs i y
change_put i y [] lt = absurd (omega (arith, lt))
change_put zero y (x ∷ xs) lt = refl
change_put {X} (suc i) y (x ∷ xs) lt = ap (λ (zs : List X). x ∷ zs) (change_put i y xs (omega (arith, lt)))

pub map_changed : {X Y : Type 0} (g : X → Y) (i : ℕ) (f : X → X) (h : Y → Y) (xs : List X) (x : X) → i < length xs → x ≡ get_or xs i x → g (f x) ≡ h (g x) → map g (change_at i f xs) ≡ change_at i h (map g xs)
map_changed g i f h [] x lt is one = absurd (omega (arith, lt))
map_changed {X} {Y} g zero f h (y ∷ xs) x lt is one = ap (λ (z : Y). z ∷ map g xs) (ap (λ (w : X). g (f w)) (sym is) ∙ one ∙ ap (λ (w : X). h (g w)) is)
map_changed {X} {Y} g (suc i) f h (y ∷ xs) x lt is one = ap (λ (zs : List Y). g y ∷ zs) (map_changed g i f h xs x (omega (arith, lt)) is one)

pub all_changed : {X : Type 0} (P : X → Type 0) (i : ℕ) (y : X) (xs : List X) → P y → All P xs → All P (change_at i (λ x. y) xs)
all_changed P i y [] one all = All-nil P
all_changed P zero y (x ∷ xs) one all = All-cons P y xs one (All-tail P x xs all)
all_changed P (suc i) y (x ∷ xs) one all = All-cons P x (change_at i (λ x. y) xs) (All-head P x xs all) (all_changed P i y xs one (All-tail P x xs all))

-- ---- the projection

pub nothing_later : (lge : ℕ) (m : Contents) (ks : List Container) (bs : List Beside) → AllZip (IsUnmarked m) ks bs → All (λ b. AreLater lge b.fresh) bs
nothing_later lge m [] [] all = All-nil (λ b. AreLater lge b.fresh)
nothing_later lge m [] (b ∷ bs) all = absurd all
nothing_later lge m (k ∷ ks) [] all = absurd all
nothing_later lge m (k ∷ ks) (b ∷ bs) (here, more) =
    All-cons (λ x. AreLater lge x.fresh) b bs (λ i e is. absurd (none i e here.1 is)) (nothing_later lge m ks bs more)
  where
    none : (i e : ℕ) → b.fresh ≡ [] → epoch_at b.fresh i ≡ Some e → ⊥
    none i e empty is = let nothing : epoch_at [] i ≡ Some e = subst (λ (ms : List Mark). epoch_at ms i ≡ Some e) empty is in absurd (cc)

-- what is read from the disk is stored
abbrev pub ReadIsStored : Type 0
ReadIsStored = (m : Contents) (p : Projected) (rows : List Stamped) → IsLoaded m p → Holds m p.entry rows → Stores m p rows

moved_has : ReadIsStored → (m n : Contents) (mark last next after : ℕ) (rows : List Stamped) (old new : Projected) → IsMovedOut last next after old.entry new.entry → IsLoaded n new
    → ((stored : List Stamped) → Stores m old stored → (held : List Stamped) × Holds n new.entry held × SameBag stored held) → HasHistory m mark rows old → HasHistory n mark rows new
moved_has read m n mark last next after rows old new moved loaded moves has =
    let (held, holds, bag) = moves has.stored has.are in
    let columns : ordinals new.entry ≡ ordinals old.entry = ap ordinals moved.is in
    record {
      stored = held;
      are = read n new held loaded holds;
      history =
          subst (λ (cs : List ℕ). SameBag (retained mark held) (map (on_columns cs) (retained mark rows))) (sym columns)
          (bag_trans (retained mark held) (retained mark has.stored) (map (on_columns (ordinals old.entry)) (retained mark rows)) (bag_sym _ _ (bag_retained mark has.stored held bag)) has.history);
      above = record {
        rows = subst (All (λ s. new.entry.lge < s.ins)) (sym loaded.unsaved) (All-nil (λ s. new.entry.lge < s.ins));
        marks = nothing_later new.entry.lge n new.entry.containers new.beside loaded.beside;
      };
    }

moved_rows : ReadIsStored → (m n : Contents) (mark last next after : ℕ) (rows : List Stamped) (old new : Projected) → old.entry.fresh ≡ true → IsMovedOut last next after old.entry new.entry → IsLoaded n new
    → ((stored : List Stamped) → Stores m old stored → (held : List Stamped) × Holds n new.entry held × SameBag stored held) → HasRows m mark rows old → HasRows n mark rows new
moved_rows read m n mark last next after rows old new fresh moved loaded moves has = record {
  fresh = on new.entry.fresh (HasHistory n mark rows new) now (moved_has read m n mark last next after rows old new moved loaded moves (told old.entry.fresh (HasHistory m mark rows old) has.fresh fresh));
  stale = off new.entry.fresh (IsBare new) now;
}
  where
    now : new.entry.fresh ≡ true
    now = ap (λ (e : Projection). e.fresh) moved.is

    told : (b : Bool) (P : Type 0) → OnTrue b P → b ≡ true → P
    told true P p is = p
    told false P p is = absurd (cc)

    on : (b : Bool) (P : Type 0) → b ≡ true → P → OnTrue b P
    on true P is p = p
    on false P is p = tt

    off : (b : Bool) (P : Type 0) → b ≡ true → OnFalse b P
    off true P is = tt
    off false P is = absurd (cc)

-- ---- the table

shape_moved : (last next after : ℕ) (old new : Projection) → IsMovedOut last next after old new → shape_of new ≡ reached_to last (shape_of old)
shape_moved last next after old new moved = ap shape_of moved.is

pub entry_at : (ps : List Projected) (entries : List Projection) (j : ℕ) (old : Projected) → map (λ p. p.entry) ps ≡ entries → j < length ps → old ≡ get_or ps j old → old.entry ≡ get_or entries j old.entry
entry_at ps entries j old same lt is = ap (λ (p : Projected). p.entry) is ∙ sym (get_or-map (λ (p : Projected). p.entry) ps j old old.entry lt) ∙ ap (λ (es : List Projection). get_or es j old.entry) same

table_moved : ReadIsStored → (m n : Contents) (mark last next after j : ℕ) (t : kept.Table) (ps : List Projected) (u : Table) (old new : Projected) → j < length ps → old ≡ get_or ps j old → old.entry.fresh ≡ true
    → IsMovedOut last next after old.entry new.entry → IsLoaded n new → ((stored : List Stamped) → Stores m old stored → (held : List Stamped) × Holds n new.entry held × SameBag stored held)
    → HasRows m mark u.rows old → StandsForTable n mark t ps u → StandsForTable n mark (with_entry j new.entry t) (change_at j (λ p. new) ps) (reached_in last j u)
table_moved read m n mark last next after j t ps u old new lt is fresh moved loaded moves has stands = record {
  name = stands.name;
  columns = stands.columns;
  shapes =
      ap (change_at j (reached_to last)) stands.shapes
      ∙ sym (map_changed shape_of j (λ p. new.entry) (reached_to last) t.projections old.entry within (entry_at ps t.projections j old stands.entries lt is) (shape_moved last next after old.entry new.entry moved));
  entries =
      map_changed (λ (p : Projected). p.entry) j (λ p. new) (λ e. new.entry) ps old lt is refl ∙ ap (change_at j (λ e. new.entry)) stands.entries;
  rows = all_changed (HasRows n mark u.rows) j new ps (moved_rows read m n mark last next after u.rows old new fresh moved loaded moves has) stands.rows;
}
  where
    within : j < length t.projections
    within = omega (arith, lt, sym (length-map ps (λ (p : Projected). p.entry)) ∙ ap length stands.entries)

-- ---- the catalogue

pub stand_changed : (m n : Contents) (mark : ℕ) (ts : List kept.Table) (pss : List (List Projected)) (us : List Table) (i : ℕ) (f : kept.Table → kept.Table) (g : List Projected → List Projected) (h : Table → Table)
    → ((t : kept.Table) (ps : List Projected) (u : Table) → ps ≡ get_or pss i ps → StandsForTable m mark t ps u → StandsForTable n mark t ps u → StandsForTable n mark (f t) (g ps) (h u))
    → StandForTables m mark ts pss us → StandForTables n mark ts pss us → StandForTables n mark (change_at i f ts) (change_at i g pss) (change_at i h us)
stand_changed m n mark [] [] [] i f g h change before stand = tt
stand_changed m n mark [] [] (u ∷ us) i f g h change before stand = absurd stand
stand_changed m n mark [] (ps ∷ pss) us i f g h change before stand = absurd stand
stand_changed m n mark (t ∷ ts) [] us i f g h change before stand = absurd stand
stand_changed m n mark (t ∷ ts) (ps ∷ pss) [] i f g h change before stand = absurd stand
stand_changed m n mark (t ∷ ts) (ps ∷ pss) (u ∷ us) zero f g h change (was, others) (here, more) = (change t ps u refl was here, more)
stand_changed m n mark (t ∷ ts) (ps ∷ pss) (u ∷ us) (suc i) f g h change (was, others) (here, more) = (here, stand_changed m n mark ts pss us i f g h (λ s qs v is. change s qs v is) others more)

row_at : (m : Contents) (mark : ℕ) (rows : List Stamped) (ps : List Projected) (j : ℕ) (old : Projected) → j < length ps → old ≡ get_or ps j old → All (HasRows m mark rows) ps → HasRows m mark rows old
row_at m mark rows ps j old lt is all = subst (HasRows m mark rows) (sym is) (all j old lt)

pub moved_are : ReadIsStored → (m n : Contents) (c : Catalogue) (stores : List (List Projected)) (d : Database) (version next after i j : ℕ) (parts : List Projected) (old new : Projected) → i < length stores → parts ≡ get_or stores i parts → j < length parts
    → old ≡ get_or parts j old → old.entry.fresh ≡ true → IsMovedOut c.last next after old.entry new.entry → IsLoaded n new
    → ((stored : List Stamped) → Stores m old stored → (held : List Stamped) × Holds n new.entry held × SameBag stored held)
    → AreDatabase m c stores d → AreDatabase n c stores d
    → AreDatabase n (with_entry_at c.last version i j new.entry c) (change_at i (change_at j (λ p. new)) stores) (moved_at i j d)
moved_are read m n c stores d version next after i j parts old new there parts_are lt old_is fresh moved loaded moves was are = record {
  last = are.last;
  ahm = are.ahm;
  tables =
      subst (λ (last : ℕ). StandForTables n c.ahm (change_at i (with_entry j new.entry) c.tables) (change_at i (change_at j (λ p. new)) stores) (change_at i (reached_in last j) d.tables)) (sym are.last)
      (stand_changed m n c.ahm c.tables stores d.tables i (with_entry j new.entry) (change_at j (λ p. new)) (reached_in c.last j) change was.tables are.tables);
}
  where
    change : (t : kept.Table) (ps : List Projected) (u : Table) → ps ≡ get_or stores i ps → StandsForTable m c.ahm t ps u → StandsForTable n c.ahm t ps u
        → StandsForTable n c.ahm (with_entry j new.entry t) (change_at j (λ p. new) ps) (reached_in c.last j u)
    change t ps u is before here =
        let same : parts ≡ ps = parts_are ∙ get_or_default stores i parts ps there ∙ sym is in
        let within : j < length ps = subst (λ (qs : List Projected). j < length qs) same lt in
        let at : old ≡ get_or ps j old = subst (λ (qs : List Projected). old ≡ get_or qs j old) same old_is in
        table_moved read m n c.ahm c.last next after j t ps u old new within at fresh moved loaded moves (row_at m c.ahm u.rows ps j old within at before.rows) here

-- ---- what stands at a place

pub at_place : {X : Type 0} (xs : List X) (i : ℕ) (P : X → Type 0) → IsSomeAnd (slice_get xs i) P → (x : X) × (i < length xs) × (x ≡ get_or xs i x) × P x
at_place [] i P is = absurd is
at_place (y ∷ xs) zero P is = (y, omega arith, refl, is)
at_place {X} (y ∷ xs) (suc i) P is = let (x, lt, at, p) = at_place xs i P is in (x, omega (arith, lt), at, p)

-- the numbers that an entry lists were drawn
container_below : (next columns lge : ℕ) (k : Container) → IsContainer next columns lge k → IsBelow next k
container_below next columns lge k is = record { files = is.files.1; vector = lower k.marks is.vector }
  where
    lower : (o : Option ℕ) → IfSome o (λ n. (1 ≤ n) × (n < next)) → IfSome o (λ n. n < next)
    lower None h = tt
    lower (Some n) (some, lt) = lt

pub projection_below : (c : Catalogue) (t : kept.Table) (p : Projection) → IsProjection c t p → IsListedBelow c.next p
projection_below c t p is = All-weaker (IsContainer c.next (length p.columns) p.lge) (IsBelow c.next) (λ k h. container_below c.next (length p.columns) p.lge k h) p.containers is.containers

pub entry_below : (root : Catalogue) (stores : List (List Projected)) (i j : ℕ) (parts : List Projected) (old : Projected) → IsValid root → map (λ ps. map (λ p. p.entry) ps) stores ≡ map (λ t. t.projections) root.tables
    → i < length stores → parts ≡ get_or stores i parts → j < length parts → old ≡ get_or parts j old → IsListedBelow root.next old.entry
entry_below root stores i j parts old valid entries lt parts_are below old_is =
    let within : i < length root.tables = omega (arith, lt, sym (length-map stores (λ ps. map (λ p. p.entry) ps)) ∙ ap length entries ∙ length-map root.tables (λ t. t.projections)) in
    let blank : kept.Table = record { name = []; columns = []; projections = [] } in
    let t : kept.Table = slice_index_or root.tables i blank in
    let here : map (λ p. p.entry) parts ≡ t.projections =
    ap (map (λ (p : Projected). p.entry)) parts_are ∙ sym (get_or-map (λ (ps : List Projected). map (λ p. p.entry) ps) stores i parts [] lt)
    ∙ ap (λ (es : List (List Projection)). get_or es i []) entries ∙ get_or-map (λ (u : kept.Table). u.projections) root.tables i blank [] within in
    let at : old.entry ≡ get_or t.projections j old.entry = entry_at parts t.projections j old here below old_is in
    let long : j < length t.projections = omega (arith, below, sym (length-map parts (λ (p : Projected). p.entry)) ∙ ap length here) in
    subst (IsListedBelow root.next) (sym at) (projection_below root t (slice_index_or t.projections j old.entry) ((valid.tables i blank within).projections j old.entry long))

-- ---- what is found there

pub is_at : {X : Type 0} (xs : List X) (i : ℕ) (x : X) (P : X → Type 0) → i < length xs → x ≡ get_or xs i x → P x → IsSomeAnd (slice_get xs i) P
is_at [] i x P lt is p = absurd (omega (arith, lt))
is_at {X} (y ∷ xs) zero x P lt is p = subst P is p
is_at (y ∷ xs) (suc i) x P lt is p = is_at xs i x P (omega (arith, lt)) is p

-- ---- what was made ready

both_at : {X : Type 0} (xs : List X) (i : ℕ) (P Q : X → Type 0) → IsSomeAnd (slice_get xs i) P → IsSomeAnd (slice_get xs i) Q → IsSomeAnd (slice_get xs i) (λ x. P x × Q x)
both_at [] i P Q p q = absurd p
both_at (y ∷ xs) zero P Q p q = (p, q)
both_at (y ∷ xs) (suc i) P Q p q = both_at xs i P Q p q

abbrev IsUpToDate : Projected → Type 0
IsUpToDate p = p.entry.fresh ≡ true

-- the projection at a place is up to date, and was moved out
pub fresh_rewritten : (last : ℕ) (root : Catalogue) (stores : List (List Projected)) (i j version : ℕ) (c : Catalogue) (new : Projected) (found left : Option Contents) → IsFreshAt stores i j
    → IsRewritten last root stores i j version c new found left
    → (ps : List Projected) × (i < length stores) × (ps ≡ get_or stores i ps) × (p : Projected) × (j < length ps) × (p ≡ get_or ps j p) × (p.entry.fresh ≡ true) × IsRewrittenFrom last root i j version c p new found left
fresh_rewritten last root stores i j version c new found left fresh is =
    let (ps, lt, ps_are, (f, r)) = at_place stores i (λ qs. IsSomeAnd (slice_get qs j) IsUpToDate × IsSomeAnd (slice_get qs j) (λ p. IsRewrittenFrom last root i j version c p new found left))
    (both_at stores i (λ qs. IsSomeAnd (slice_get qs j) IsUpToDate) (λ qs. IsSomeAnd (slice_get qs j) (λ p. IsRewrittenFrom last root i j version c p new found left)) fresh is) in
    let (p, below, p_is, (now, from)) = at_place ps j (λ q. IsUpToDate q × IsRewrittenFrom last root i j version c q new found left)
    (both_at ps j IsUpToDate (λ q. IsRewrittenFrom last root i j version c q new found left) f r) in
    (ps, lt, ps_are, p, below, p_is, now, from)

pub rewritten_catalogue : (last : ℕ) (root : Catalogue) (stores : List (List Projected)) (i j version : ℕ) (c : Catalogue) (new : Projected) (found left : Option Contents) → IsRewritten last root stores i j version c new found left
    → c ≡ with_entry_at last version i j new.entry root
rewritten_catalogue last root stores i j version c new found left is =
    let (ps, lt, ps_are, inner) = at_place stores i (λ qs. IsSomeAnd (slice_get qs j) (λ p. IsRewrittenFrom last root i j version c p new found left)) is in
    let (p, below, p_is, from) = at_place ps j (λ q. IsRewrittenFrom last root i j version c q new found left) inner in
    from.catalogue

pub drawn_later : (last next after : ℕ) (old new : Projection) → IsMovedOut last next after old new → next ≤ after
drawn_later last next after old new moved = by moved.made moved.numbers
  where
    by : (made : Option Container) → AreNumbered (length old.columns) moved.mid after made → next ≤ after
    by None is = omega (arith, is, moved.later)
    by (Some k) numbered = omega (arith, numbered.ends, moved.later)

-- the places of the tables and of the projections of one
pub fresh_table : (tables : List (List Loaded)) (i j : ℕ) → IsFreshAt (map projections_of tables) i j → i < length tables
fresh_table tables i j fresh =
    let (ps, lt, ps_are, inner) = at_place (map projections_of tables) i (λ qs. IsSomeAnd (slice_get qs j) (λ p. p.entry.fresh ≡ true)) fresh in
    omega (arith, lt, length-map tables projections_of)

pub stored_at : (tables : List (List Loaded)) (i : ℕ) (ps : List Loaded) → i < length tables → ps ≡ get_or tables i ps → projections_of ps ≡ get_or (map projections_of tables) i (projections_of ps)
stored_at tables i ps lt is = ap projections_of is ∙ sym (get_or-map projections_of tables i ps (projections_of ps) lt)

pub fresh_place : (tables : List (List Loaded)) (i j : ℕ) (ps : List Loaded) → ps ≡ get_or tables i ps → IsFreshAt (map projections_of tables) i j → j < length ps
fresh_place tables i j ps is fresh =
    let (qs, lt, qs_are, inner) = at_place (map projections_of tables) i (λ rs. IsSomeAnd (slice_get rs j) (λ p. p.entry.fresh ≡ true)) fresh in
    let (q, below, q_is, now) = at_place qs j (λ p. p.entry.fresh ≡ true) inner in
    let same : qs ≡ projections_of ps = qs_are ∙ get_or_default (map projections_of tables) i qs (projections_of ps) lt ∙ sym (stored_at tables i ps (fresh_table tables i j fresh) is) in
    omega (arith, below, ap length same, length-map ps (λ p. p.stored))

pub rewritten : (last : ℕ) (root c : Catalogue) (tables : List (List Loaded)) (i j version : ℕ) (ps : List Loaded) (p : Loaded) (new : Projected) (entry copy : Projection) (found mid left : Option Contents)
    → i < length tables → ps ≡ get_or tables i ps → j < length ps → p ≡ get_or ps j p → IsMovedOut last root.next version p.stored.entry entry → KeepsStored root.next p.stored entry found mid
    → copy ≡ entry → new.entry ≡ copy → ((m : Contents) → mid ≡ Some m → IsLoaded m new) → left ≡ mid → c ≡ with_entry_at last version i j entry root
    → IsRewritten last root (map projections_of tables) i j version c new found left
rewritten last root c tables i j version ps p new entry copy found mid left lt ps_are below p_is moved moves copied new_is loaded same catalogue =
    is_at (map projections_of tables) i (projections_of ps) (λ qs. IsSomeAnd (slice_get qs j) (λ old. IsRewrittenFrom last root i j version c old new found left)) (omega (arith, lt, length-map tables projections_of))
    (stored_at tables i ps lt ps_are)
    (is_at (projections_of ps) j p.stored (λ old. IsRewrittenFrom last root i j version c old new found left) (omega (arith, below, length-map ps (λ q. q.stored)))
    (ap (λ (q : Loaded). q.stored) p_is ∙ sym (get_or-map (λ (q : Loaded). q.stored) ps j p p.stored below))
    (record {
      entry = subst (IsMovedOut last root.next version p.stored.entry) (sym is) moved;
      catalogue = catalogue ∙ ap (λ (e : Projection). with_entry_at last version i j e root) (sym is);
      rows = subst (λ (o : Option Contents). KeepsStored root.next p.stored new.entry found o) (sym same) (subst (λ (e : Projection). KeepsStored root.next p.stored e found mid) (sym is) moves);
      loaded = λ n told. loaded n (sym same ∙ told);
      drawn = drawn_later last root.next version p.stored.entry entry moved;
    }))
  where
    is : new.entry ≡ entry
    is = new_is ∙ copied

-- ---- the projection in its place

pub map_change : {X Y : Type 0} (g : X → Y) (i : ℕ) (f : X → X) (h : Y → Y) (xs : List X) → ((x : X) → g (f x) ≡ h (g x)) → map g (change_at i f xs) ≡ change_at i h (map g xs)
map_change g i f h [] one = refl
map_change {X} {Y} g zero f h (x ∷ xs) one = ap (λ (y : Y). y ∷ map g xs) (one x)
map_change {X} {Y} g (suc i) f h (x ∷ xs) one = ap (λ (ys : List Y). g x ∷ ys) (map_change g i f h xs one)

pub stores_moved : (tables after : List (List Loaded)) (i j : ℕ) (ps : List Loaded) (s : Loaded) → i < length tables → ps ≡ get_or tables i ps → j < length ps → after ≡ set tables i (set ps j s)
    → map projections_of after ≡ change_at i (change_at j (λ p. s.stored)) (map projections_of tables)
stores_moved tables after i j ps s lt is below after_is =
    let put : change_at i (change_at j (λ p. s)) tables ≡ set tables i (set ps j s) = change_set i (change_at j (λ p. s)) tables ps lt is ∙ ap (set tables i) (change_put j s ps below) in
    ap (map projections_of) (after_is ∙ sym put)
    ∙ map_change projections_of i (change_at j (λ p. s)) (change_at j (λ p. s.stored)) tables (λ qs. map_change (λ (p : Loaded). p.stored) j (λ p. s) (λ p. s.stored) qs (λ p. refl))

pub entries_moved : (root c : Catalogue) (stores : List (List Projected)) (last version i j : ℕ) (new : Projected) → map (λ ps. map (λ p. p.entry) ps) stores ≡ map (λ t. t.projections) root.tables
    → c ≡ with_entry_at last version i j new.entry root → map (λ ps. map (λ p. p.entry) ps) (change_at i (change_at j (λ p. new)) stores) ≡ map (λ t. t.projections) c.tables
entries_moved root c stores last version i j new entries is =
    map_change (λ (ps : List Projected). map (λ p. p.entry) ps) i (change_at j (λ p. new)) (change_at j (λ e. new.entry)) stores (λ ps. map_change (λ (p : Projected). p.entry) j (λ p. new) (λ e. new.entry) ps (λ p. refl))
    ∙ ap (change_at i (change_at j (λ e. new.entry))) entries
    ∙ sym (map_change (λ (t : kept.Table). t.projections) i (with_entry j new.entry) (change_at j (λ e. new.entry)) root.tables (λ t. refl))
    ∙ sym (ap (λ (k : Catalogue). map (λ t. t.projections) k.tables) is)
