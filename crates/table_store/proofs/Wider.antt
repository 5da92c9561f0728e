-- A table with one column more, and what the store stands for with it.
use Rattle.std.proofs.Common.{◌≡◌, ℕ, zero, suc, ◌+◌, ◌<◌, ◌≤◌, Bool, true, false, cond, List, [], ◌∷◌, ◌++◌, length, map, set, take, drop, get_or, refl, sym, ◌∙◌, ap, ap₂, subst, arith}
use Rattle.std.specs.Prelude.{Result, Option, IsSomeAnd, IfSome, slice_index_or}
use Rattle.std.specs.Bool.{OnTrue, OnFalse}
use Rattle.std.specs.List.{All, AllZip, slice_get}
use Rattle.std.proofs.lemmas.List.{get_or-map, get_or_default, length-map, map-set, take_more}
use Rattle.std.proofs.lemmas.List.Elements.{All-cons, All-filter, All-head, All-nil, All-tail, All-weaker}
use Rattle.std.proofs.Math.ListN.{get_or-append}
use Rattle.std.proofs.Math.Seq.{get_or-append_seam}
use Rattle.common_laws.specs.Bags.{SameBag}
use Rattle.common_laws.specs.Maps.{Contents}
use Rattle.common_laws.proofs.BagLaws.{bag_map}
use Rattle.col_disk.specs.declared.disk.Disk.{Ghosts}
use Rattle.col_disk.specs.declared.disk.DiskFault.{DiskFault}
use Rattle.col_disk.specs.declared.disk.DiskFault.TheVariants as disk_fault
use Rattle.col_value.specs.Order.{projected}
use Rattle.col_value.specs.declared.column.Column.{Column}
use Rattle.col_value.specs.declared.kinds.Encoding.{Encoding}
use Rattle.col_value.specs.declared.row.Stamped.{Stamped}
use Rattle.col_value.specs.declared.value.Value.{Value}
use Rattle.col_value.specs.declared.value.Value.TheVariants as value
use Rattle.row_history.specs.History.{is_retained, retained, on_columns}
use Rattle.row_history.proofs.Histories.{filter_mapped}
use Rattle.catalog_types.specs.declared.catalogue.ProjColumn.{ProjColumn}
use Rattle.catalog_types.specs.declared.catalogue.Projection.{Projection}
use Rattle.catalog_types.specs.declared.catalogue.Table as kept
use Rattle.catalog_types.specs.declared.catalogue.Catalogue.{Catalogue}
use Rattle.catalog_types.specs.Parts.{FitsColumn, IsContainer, IsProjColumn, IsProjection, IsTable, takes_kind}
use Rattle.catalog_types.specs.Valid.{IsValid}
use Rattle.db_model.specs.Database.{Database, Shape, Table}
use Rattle.db_model.specs.Events.{widened, with_value}
use Rattle.db_model.specs.Events as event
use Rattle.db_model.specs.Sound.{IsSoundDatabase, IsSoundTable, RowFits, ValueFits}
use Rattle.stored_rows.specs.Stored.{Projected}
use Rattle.proj_store.specs.Loaded.{Loaded}
use Rattle.proj_store.specs.Widening.{Wider, new_column, with_column, with_columns}
use Rattle.proj_store.proofs.Wider.{stores_wide, wide_above}
use Rattle.folder_model.specs.Projections.{shape_of, ordinals, HasHistory, IsBare, HasRows}
use Rattle.folder_model.specs.Tables.{StandsForTable, StandForTables, AreDatabase}
use Rattle.folder_model.proofs.CutTables.{of_entries}
use Rattle.store_commit.specs.Seen.{Seen, Stands, seen}
use Rattle.store_commit.specs.Making.{Makes}
use Rattle.sound_laws.specs.Moves.{change_at}
use Rattle.table_store.specs.Changing.{zipped}
use Rattle.table_store.specs.Held.{at_epoch, projections_of, seen_of, IsHeld}
use Rattle.table_store.specs.Drawing.{DrawsOne}
use Rattle.table_store.specs.Widening.{CanTake, IsWidening, has_all, wide_entry, wide_part, wide_parts, wide_table, widened_at, widened_by, with_column_at}
use Rattle.table_store.proofs.Loops.{zip_push}
use Rattle.table_store.proofs.Makes.{at_own}
use Rattle.table_store.proofs.Moved.{at_place, change_set, is_at}

-- ---- rows

-- rows of so many values
abbrev pub AreLong : ℕ → List Stamped → Type 0
AreLong n rows = All (λ s. length s.row ≡ n) rows

abbrev pub AreBelow : ℕ → List ℕ → Type 0
AreBelow n columns = All (λ i. i < n) columns

same_values : (row : List Value) (v : Value) (columns : List ℕ) → AreBelow (length row) columns → projected (row ++ v ∷ []) columns ≡ projected row columns
same_values row v [] below = refl
same_values row v (i ∷ columns) below =
    ap₂ (λ (w : Value) (ws : List Value). w ∷ ws) (get_or-append row (v ∷ []) value.Null i (All-head (λ j. j < length row) i columns below))
    (same_values row v columns (All-tail (λ j. j < length row) i columns below))

map_join : {X Y : Type 0} (f : X → Y) (xs ys : List X) → map f (xs ++ ys) ≡ map f xs ++ map f ys
map_join f [] ys = refl
map_join {X} {Y} f (x ∷ xs) ys = ap (λ (zs : List Y). f x ∷ zs) (map_join f xs ys)

abbrev with_row : Stamped → List Value → Stamped
with_row s row = record s { row = row }

-- a projection that doesn't get the column has the same rows
same_row : (n : ℕ) (columns : List ℕ) (v : Value) (s : Stamped) → length s.row ≡ n → AreBelow n columns → on_columns columns (with_value v s) ≡ on_columns columns s
same_row n columns v s long below =
    ap (with_row s) (same_values s.row v columns (subst (λ (k : ℕ). AreBelow k columns) (sym long) below))

-- and one that gets it has the value in each
wide_row : (n : ℕ) (columns : List ℕ) (v : Value) (s : Stamped) → length s.row ≡ n → AreBelow n columns → on_columns (columns ++ n ∷ []) (with_value v s) ≡ with_value v (on_columns columns s)
wide_row n columns v s long below =
    ap (with_row s)
    (map_join (λ (c : ℕ). slice_index_or (s.row ++ v ∷ []) c value.Null) columns (n ∷ [])
    ∙ ap₂ (λ (ws : List Value) (w : Value). ws ++ w ∷ []) (same_values s.row v columns (subst (λ (k : ℕ). AreBelow k columns) (sym long) below))
    (ap (λ (k : ℕ). slice_index_or (s.row ++ v ∷ []) k value.Null) (sym long) ∙ get_or-append_seam s.row v [] value.Null))

same_rows : (n : ℕ) (columns : List ℕ) (v : Value) (rows : List Stamped) → AreLong n rows → AreBelow n columns → map (on_columns columns) (map (with_value v) rows) ≡ map (on_columns columns) rows
same_rows n columns v [] long below = refl
same_rows n columns v (s ∷ rows) long below =
    ap₂ (λ (x : Stamped) (xs : List Stamped). x ∷ xs) (same_row n columns v s (All-head (λ x. length x.row ≡ n) s rows long) below)
    (same_rows n columns v rows (All-tail (λ x. length x.row ≡ n) s rows long) below)

wide_rows : (n : ℕ) (columns : List ℕ) (v : Value) (rows : List Stamped) → AreLong n rows → AreBelow n columns
    → map (on_columns (columns ++ n ∷ [])) (map (with_value v) rows) ≡ map (with_value v) (map (on_columns columns) rows)
wide_rows n columns v [] long below = refl
wide_rows n columns v (s ∷ rows) long below =
    ap₂ (λ (x : Stamped) (xs : List Stamped). x ∷ xs) (wide_row n columns v s (All-head (λ x. length x.row ≡ n) s rows long) below)
    (wide_rows n columns v rows (All-tail (λ x. length x.row ≡ n) s rows long) below)

retained_wide : (mark : ℕ) (v : Value) (rows : List Stamped) → retained mark (map (with_value v) rows) ≡ map (with_value v) (retained mark rows)
retained_wide mark v rows = filter_mapped (is_retained mark) (with_value v) rows

-- ---- a projection

same_history : (mark : ℕ) (columns : List ℕ) (n : ℕ) (v : Value) (stored rows : List Stamped) → AreLong n rows → AreBelow n columns → SameBag (retained mark stored) (map (on_columns columns) (retained mark rows))
    → SameBag (retained mark stored) (map (on_columns columns) (retained mark (map (with_value v) rows)))
same_history mark columns n v stored rows long below bag =
    subst (λ (xs : List Stamped). SameBag (retained mark stored) xs)
    (sym (ap (map (on_columns columns)) (retained_wide mark v rows) ∙ same_rows n columns v (retained mark rows) (All-filter (is_retained mark) (λ x. length x.row ≡ n) rows long) below)) bag

wide_history : (mark : ℕ) (columns : List ℕ) (n : ℕ) (v : Value) (stored rows : List Stamped) → AreLong n rows → AreBelow n columns → SameBag (retained mark stored) (map (on_columns columns) (retained mark rows))
    → SameBag (retained mark (map (with_value v) stored)) (map (on_columns (columns ++ n ∷ [])) (retained mark (map (with_value v) rows)))
wide_history mark columns n v stored rows long below bag =
    subst (λ (xs : List Stamped). SameBag xs (map (on_columns (columns ++ n ∷ [])) (retained mark (map (with_value v) rows)))) (sym (retained_wide mark v stored))
    (subst (λ (xs : List Stamped). SameBag (map (with_value v) (retained mark stored)) xs)
    (sym (ap (map (on_columns (columns ++ n ∷ []))) (retained_wide mark v rows) ∙ wide_rows n columns v (retained mark rows) (All-filter (is_retained mark) (λ x. length x.row ≡ n) rows long) below))
    (bag_map (with_value v) (retained mark stored) (map (on_columns columns) (retained mark rows)) bag))

-- what a valid catalogue says of an entry: its columns are of the table, and its containers store no others
pub record IsOf (n : ℕ) (p : Projection) : Type 0 where
  pub below : AreBelow n (ordinals p)
  pub most : All (λ k. k.stored ≤ length p.columns) p.containers

on_true : {P Q : Type 0} (b : Bool) → (P → Q) → OnTrue b P → OnTrue b Q
on_true true f p = f p
on_true false f p = tt

on_false : {P Q : Type 0} (b : Bool) → (P → Q) → OnFalse b P → OnFalse b Q
on_false true f p = tt
on_false false f p = f p

same_has : (m : Contents) (mark n : ℕ) (v : Value) (rows : List Stamped) (p : Projected) → AreLong n rows → IsOf n p.entry → HasRows m mark rows p → HasRows m mark (map (with_value v) rows) p
same_has m mark n v rows p long of has = record {
  fresh = on_true p.entry.fresh (λ (h : HasHistory m mark rows p). record { stored = h.stored; are = h.are; history = same_history mark (ordinals p.entry) n v h.stored rows long of.below h.history; above = h.above }) has.fresh;
  stale = has.stale;
}

wide_has : (m : Contents) (mark n : ℕ) (v : Value) (rows : List Stamped) (p : Projected) → AreLong n rows → IsOf n p.entry → HasRows m mark rows p → HasRows m mark (map (with_value v) rows) (with_column n v p)
wide_has m mark n v rows p long of has = record {
  fresh = on_true p.entry.fresh history has.fresh;
  stale = on_false p.entry.fresh (λ (b : IsBare p). record { containers = b.containers; beside = b.beside; unsaved = ap (map (with_value v)) b.unsaved }) has.stale;
}
  where
    history : HasHistory m mark rows p → HasHistory m mark (map (with_value v) rows) (with_column n v p)
    history h = record {
      stored = map (with_value v) h.stored;
      are = stores_wide m n v p h.stored of.most h.are;
      history =
          subst (λ (columns : List ℕ). SameBag (retained mark (map (with_value v) h.stored)) (map (on_columns columns) (retained mark (map (with_value v) rows))))
          (sym (map_join (λ (c : ProjColumn). c.ordinal) p.entry.columns (new_column n v ∷ [])))
          (wide_history mark (ordinals p.entry) n v h.stored rows long of.below h.history);
      above = wide_above p.entry.lge n v p h.above;
    }

part_has : (m : Contents) (mark : ℕ) (columns : List Column) (v : Value) (rows : List Stamped) (p : Projected) → AreLong (length columns) rows → IsOf (length columns) p.entry → HasRows m mark rows p
    → HasRows m mark (map (with_value v) rows) (wide_part columns v p)
part_has m mark columns v rows p long of has = by (has_all columns p.entry)
  where
    by : (b : Bool) → HasRows m mark (map (with_value v) rows) (cond b (with_column (length columns) v p) p)
    by true = wide_has m mark (length columns) v rows p long of has
    by false = same_has m mark (length columns) v rows p long of has

parts_have : (m : Contents) (mark : ℕ) (columns : List Column) (v : Value) (rows : List Stamped) (ps : List Projected) → AreLong (length columns) rows → All (λ p. IsOf (length columns) p.entry) ps
    → All (HasRows m mark rows) ps → All (HasRows m mark (map (with_value v) rows)) (wide_parts columns v ps)
parts_have m mark columns v rows [] long of has = All-nil (HasRows m mark (map (with_value v) rows))
parts_have m mark columns v rows (p ∷ ps) long of has =
    All-cons (HasRows m mark (map (with_value v) rows)) (wide_part columns v p) (wide_parts columns v ps)
    (part_has m mark columns v rows p long (All-head (λ (q : Projected). IsOf (length columns) q.entry) p ps of) (All-head (HasRows m mark rows) p ps has))
    (parts_have m mark columns v rows ps long (All-tail (λ (q : Projected). IsOf (length columns) q.entry) p ps of) (All-tail (HasRows m mark rows) p ps has))

-- ---- the table

abbrev with_shape_columns : Shape → List (ℕ × Encoding) → Shape
with_shape_columns s columns = record s { columns = columns }

shapes_wide : (u : Table) (v : Value) (ps : List Projection) → map (event.with_column u) (map shape_of ps) ≡ map shape_of (map (wide_entry u.columns v) ps)
shapes_wide u v [] = refl
shapes_wide u v (p ∷ ps) = ap₂ (λ (s : Shape) (ss : List Shape). s ∷ ss) (by (has_all u.columns p)) (shapes_wide u v ps)
  where
    by : (b : Bool) → cond b (record (shape_of p) { columns = (shape_of p).columns ++ (length u.columns, Encoding.Auto) ∷ [] }) (shape_of p) ≡ shape_of (cond b (with_columns (p.columns ++ new_column (length u.columns) v ∷ []) p) p)
    by true =
        let f : ProjColumn → ℕ × Encoding = λ c. (c.ordinal, c.encoding) in
        ap (with_shape_columns (shape_of p)) (sym (map_join f p.columns (new_column (length u.columns) v ∷ [])))
    by false = refl

pub entries_wide : (columns : List Column) (v : Value) (ps : List Projected) → map (λ p. p.entry) (wide_parts columns v ps) ≡ map (wide_entry columns v) (map (λ p. p.entry) ps)
entries_wide columns v [] = refl
entries_wide columns v (p ∷ ps) = ap₂ (λ (e : Projection) (es : List Projection). e ∷ es) (by (has_all columns p.entry)) (entries_wide columns v ps)
  where
    by : (b : Bool) → (cond b (with_column (length columns) v p) p).entry ≡ cond b (with_columns (p.entry.columns ++ new_column (length columns) v ∷ []) p.entry) p.entry
    by true = refl
    by false = refl

there_below : {X : Type 0} (P : X → Type 0) (xs : List X) (i : ℕ) → IsSomeAnd (slice_get xs i) P → i < length xs
there_below P xs i there = let (x, lt, is, p) = at_place xs i P there in lt

columns_below : (n : ℕ) (columns : List Column) (cs : List ProjColumn) → length columns ≡ n → All (IsProjColumn columns) cs → AreBelow n (map (λ c. c.ordinal) cs)
columns_below n columns [] long all = All-nil (λ (i : ℕ). i < n)
columns_below n columns (c ∷ cs) long all =
    let lt = there_below (λ (column : Column). (takes_kind c.encoding column.kind ≡ true) × IfSome c.default (FitsColumn column)) columns c.ordinal (All-head (IsProjColumn columns) c cs all) in
    All-cons (λ (i : ℕ). i < n) c.ordinal (map (λ (x : ProjColumn). x.ordinal) cs) (omega (arith, lt, long)) (columns_below n columns cs long (All-tail (IsProjColumn columns) c cs all))

entry_of : (c : Catalogue) (t : kept.Table) (p : Projection) → IsProjection c t p → IsOf (length t.columns) p
entry_of c t p is = record {
  below = columns_below (length t.columns) t.columns p.columns refl is.columns;
  most = All-weaker (IsContainer c.next (length p.columns) p.lge) (λ k. k.stored ≤ length p.columns) (λ k h. h.stored.1) p.containers is.containers;
}

fits_long : (columns : List Column) (row : List Value) → AllZip ValueFits columns row → length row ≡ length columns
fits_long [] [] all = refl
fits_long [] (v ∷ row) all = absurd all
fits_long (c ∷ columns) [] all = absurd all
fits_long (c ∷ columns) (v ∷ row) all = ap suc (fits_long columns row all.1)

rows_long : (d : Database) (u : Table) → IsSoundTable d u → AreLong (length u.columns) u.rows
rows_long d u sound = All-weaker (λ s. RowFits u.columns s.row) (λ s. length s.row ≡ length u.columns) (λ s fits. fits_long u.columns s.row fits.each) u.rows sound.rows

table_wide : (m : Contents) (mark : ℕ) (k : Catalogue) (d : Database) (c : Column) (v : Value) (t : kept.Table) (ps : List Projected) (u : Table) → IsTable k t → IsSoundTable d u
    → StandsForTable m mark t ps u → StandsForTable m mark (wide_table c v t) (wide_parts t.columns v ps) (widened c v u)
table_wide m mark k d c v t ps u is sound stands = record {
  name = stands.name;
  columns = ap (λ (columns : List Column). columns ++ c ∷ []) stands.columns;
  shapes =
      ap (map (event.with_column u)) stands.shapes ∙ shapes_wide u v t.projections
      ∙ ap (λ (columns : List Column). map shape_of (map (wide_entry columns v) t.projections)) stands.columns;
  entries = entries_wide t.columns v ps ∙ ap (map (wide_entry t.columns v)) stands.entries;
  rows = parts_have m mark t.columns v u.rows ps (subst (λ (columns : List Column). AreLong (length columns) u.rows) stands.columns (rows_long d u sound)) of stands.rows;
}
  where
    of : All (λ p. IsOf (length t.columns) p.entry) ps
    of = of_entries (IsOf (length t.columns)) ps t.projections stands.entries (All-weaker (IsProjection k t) (IsOf (length t.columns)) (λ p one. entry_of k t p one) t.projections is.projections)

-- ---- the catalogue

stand_wide : (m : Contents) (mark : ℕ) (k : Catalogue) (d : Database) (c : Column) (v : Value) (columns : List Column) (ts : List kept.Table) (pss : List (List Projected)) (us : List Table) (i : ℕ)
    → All (IsTable k) ts → All (IsSoundTable d) us → IsSomeAnd (slice_get ts i) (λ t. t.columns ≡ columns) → StandForTables m mark ts pss us
    → StandForTables m mark (change_at i (wide_table c v) ts) (change_at i (wide_parts columns v) pss) (change_at i (widened c v) us)
stand_wide m mark k d c v columns [] [] [] i valid sound there stand = absurd there
stand_wide m mark k d c v columns [] [] (u ∷ us) i valid sound there stand = absurd stand
stand_wide m mark k d c v columns [] (ps ∷ pss) us i valid sound there stand = absurd stand
stand_wide m mark k d c v columns (t ∷ ts) [] us i valid sound there stand = absurd stand
stand_wide m mark k d c v columns (t ∷ ts) (ps ∷ pss) [] i valid sound there stand = absurd stand
stand_wide m mark k d c v columns (t ∷ ts) (ps ∷ pss) (u ∷ us) zero valid sound there (here, more) = (
  subst (λ (cs : List Column). StandsForTable m mark (wide_table c v t) (wide_parts cs v ps) (widened c v u)) there
      (table_wide m mark k d c v t ps u (All-head (IsTable k) t ts valid) (All-head (IsSoundTable d) u us sound) here),
  more,
)
stand_wide m mark k d c v columns (t ∷ ts) (ps ∷ pss) (u ∷ us) (suc i) valid sound there (here, more) =
    (here, stand_wide m mark k d c v columns ts pss us i (All-tail (IsTable k) t ts valid) (All-tail (IsSoundTable d) u us sound) there more)

pub wide_are : (m : Contents) (root : Catalogue) (last : ℕ) (stores : List (List Projected)) (d : Database) (i : ℕ) (c : Column) (v : Value) (columns : List Column) → IsValid root → IsSoundDatabase d
    → IsSomeAnd (slice_get root.tables i) (λ t. t.columns ≡ columns) → AreDatabase m (at_epoch last root) stores d
    → AreDatabase m (with_column_at last i c v root) (change_at i (wide_parts columns v) stores) (widened_at i c v d)
wide_are m root last stores d i c v columns valid sound there are = record {
  last = are.last;
  ahm = are.ahm;
  tables = stand_wide m root.ahm root d c v columns root.tables stores d.tables i valid.tables sound.tables there are.tables;
}

-- ---- the store

pub wide_makes : {D : Type 0} (disk : Ghosts D) {old new : D} (root : Catalogue) (last : ℕ) (tables : List (List Loaded)) (now : Seen) (i : ℕ) (c : Column) (v : Value) (columns : List Column) (catalogue : Catalogue) (result : Result (Unit {0}) DiskFault) (d : Database)
    → ((was : Seen) (stores : List (List Projected)) (d e : Database) → (stands : Stands disk was old d) → was.catalogue.next ≤ root.next → AreDatabase stands.files catalogue stores e → IsSoundDatabase e → Makes disk disk_fault.Memory was (seen catalogue stores) old new result d e)
    → seen_of root last tables ≡ now → IsHeld root tables → IsSomeAnd (slice_get root.tables i) (λ t. t.columns ≡ columns) → catalogue ≡ with_column_at last i c v root
    → Stands disk now old d → IsSoundDatabase (widened_at i c v d)
    → Makes disk disk_fault.Memory now (seen catalogue (change_at i (wide_parts columns v) (map projections_of tables))) old new result d (widened_at i c v d)
wide_makes {D} disk {old} {new} root last tables now i c v columns catalogue result d made view held there is =
    subst (λ (s : Seen). Stands disk s old d → IsSoundDatabase (widened_at i c v d) → Makes disk disk_fault.Memory s (seen catalogue stores) old new result d (widened_at i c v d)) view
    (λ stands sound.
    made (seen_of root last tables) stores d (widened_at i c v d) stands (omega arith)
    (subst (λ (k : Catalogue). AreDatabase stands.files k stores (widened_at i c v d)) (sym is) (wide_are stands.files root last (map projections_of tables) d i c v columns held.valid stands.sound there stands.are)) sound)
  where
    stores : List (List Projected)
    stores = change_at i (wide_parts columns v) (map projections_of tables)

pub stores_wider : (tables after : List (List Loaded)) (i : ℕ) (columns : List Column) (v : Value) (old new : List Loaded) → i < length tables → old ≡ get_or tables i old → after ≡ set tables i new
    → projections_of new ≡ wide_parts columns v (projections_of old) → map projections_of after ≡ change_at i (wide_parts columns v) (map projections_of tables)
stores_wider tables after i columns v old new lt is after_is one =
    let there : projections_of old ≡ get_or (map projections_of tables) i (projections_of old) = ap projections_of is ∙ sym (get_or-map projections_of tables i old (projections_of old) lt) in
    ap (map projections_of) after_is ∙ map-set projections_of tables i new ∙ ap (set (map projections_of tables) i) one
    ∙ sym (change_set i (wide_parts columns v) (map projections_of tables) (projections_of old) (omega (arith, lt, length-map tables projections_of)) there)

pub wide_seen : (tables after : List (List Loaded)) (root : Catalogue) (last i : ℕ) (c : Column) (v : Value) (columns : List Column) (catalogue : Catalogue) → map projections_of after ≡ change_at i (wide_parts columns v) (map projections_of tables)
    → catalogue ≡ with_column_at last i c v root → seen catalogue (change_at i (wide_parts columns v) (map projections_of tables)) ≡ seen_of catalogue last after
wide_seen tables after root last i c v columns catalogue stores catalogue_is =
    ap₂ (λ (k : Catalogue) (pss : List (List Projected)). seen k pss) (at_own catalogue last (sym (ap (λ (k : Catalogue). k.last) catalogue_is))) (sym stores)

all_wide : (v : Value) (c : Column) (columns : List Column) (ts : List kept.Table) (i : ℕ) → IsSomeAnd (slice_get ts i) (λ t. t.columns ≡ columns)
    → change_at i (map (wide_entry columns v)) (map (λ t. t.projections) ts) ≡ map (λ t. t.projections) (change_at i (wide_table c v) ts)
all_wide v c columns [] i there = absurd there
all_wide v c columns (t ∷ ts) zero there = ap (λ (cs : List Column). map (wide_entry cs v) t.projections ∷ map (λ (x : kept.Table). x.projections) ts) (sym there)
all_wide v c columns (t ∷ ts) (suc i) there = ap (λ (es : List (List Projection)). t.projections ∷ es) (all_wide v c columns ts i there)

each_wide : (v : Value) (columns : List Column) (pss : List (List Projected)) (i : ℕ)
    → map (λ ps. map (λ p. p.entry) ps) (change_at i (wide_parts columns v) pss) ≡ change_at i (map (wide_entry columns v)) (map (λ ps. map (λ p. p.entry) ps) pss)
each_wide v columns [] i = refl
each_wide v columns (ps ∷ pss) zero = ap (λ (es : List Projection). es ∷ map (λ qs. map (λ (q : Projected). q.entry) qs) pss) (entries_wide columns v ps)
each_wide v columns (ps ∷ pss) (suc i) = ap (λ (es : List (List Projection)). map (λ (q : Projected). q.entry) ps ∷ es) (each_wide v columns pss i)

pub wide_held : (tables after : List (List Loaded)) (root : Catalogue) (last i : ℕ) (c : Column) (v : Value) (columns : List Column) (catalogue : Catalogue) → map projections_of after ≡ change_at i (wide_parts columns v) (map projections_of tables)
    → catalogue ≡ with_column_at last i c v root → IsSomeAnd (slice_get root.tables i) (λ t. t.columns ≡ columns) → IsHeld root tables → IsValid catalogue → IsHeld catalogue after
wide_held tables after root last i c v columns catalogue stores catalogue_is there held valid = record {
  valid = valid;
  entries =
      ap (map (λ (qs : List Projected). map (λ q. q.entry) qs)) stores ∙ each_wide v columns (map projections_of tables) i
      ∙ ap (change_at i (map (wide_entry columns v))) held.entries ∙ all_wide v c columns root.tables i there
      ∙ sym (ap (λ (k : Catalogue). map (λ t. t.projections) k.tables) catalogue_is);
}

-- ---- what it draws

few_entries : (most : ℕ) (columns : List Column) (v : Value) (ps : List Projection) → All (λ q. length q.containers ≤ most) ps → All (λ q. length q.containers ≤ most) (map (wide_entry columns v) ps)
few_entries most columns v [] all = All-nil (λ (q : Projection). length q.containers ≤ most)
few_entries most columns v (p ∷ ps) all =
    All-cons (λ (q : Projection). length q.containers ≤ most) (wide_entry columns v p) (map (wide_entry columns v) ps) (by (has_all columns p))
    (few_entries most columns v ps (All-tail (λ (q : Projection). length q.containers ≤ most) p ps all))
  where
    by : (b : Bool) → length (cond b (with_columns (p.columns ++ new_column (length columns) v ∷ []) p) p).containers ≤ most
    by true = All-head (λ (q : Projection). length q.containers ≤ most) p ps all
    by false = All-head (λ (q : Projection). length q.containers ≤ most) p ps all

few_wide : (most i : ℕ) (c : Column) (v : Value) (ts : List kept.Table) → All (λ t. All (λ q. length q.containers ≤ most) t.projections) ts → All (λ t. All (λ q. length q.containers ≤ most) t.projections) (change_at i (wide_table c v) ts)
few_wide most i c v [] all = All-nil (λ t. All (λ q. length q.containers ≤ most) t.projections)
few_wide most zero c v (t ∷ ts) all =
    All-cons (λ u. All (λ q. length q.containers ≤ most) u.projections) (wide_table c v t) ts
    (few_entries most t.columns v t.projections (All-head (λ u. All (λ q. length q.containers ≤ most) u.projections) t ts all))
    (All-tail (λ u. All (λ q. length q.containers ≤ most) u.projections) t ts all)
few_wide most (suc i) c v (t ∷ ts) all =
    All-cons (λ u. All (λ q. length q.containers ≤ most) u.projections) t (change_at i (wide_table c v) ts) (All-head (λ u. All (λ q. length q.containers ≤ most) u.projections) t ts all)
    (few_wide most i c v ts (All-tail (λ u. All (λ q. length q.containers ≤ most) u.projections) t ts all))

pub wide_draws : (root k : Catalogue) (last i : ℕ) (c : Column) (v : Value) → k ≡ with_column_at last i c v root → DrawsOne root k
wide_draws root k last i c v is = subst (DrawsOne root) (sym is) (record { next = refl; few = λ most all. few_wide most i c v root.tables all })

-- ---- what is ready, done

pub all_widened : (columns : List Column) (v : Value) (ps : List Projected) (os : List (Option Wider)) → AllZip (IsWidening columns v) ps os → zipped widened_by os ps ≡ wide_parts columns v ps
all_widened columns v [] [] all = refl
all_widened columns v [] (o ∷ os) all = absurd all
all_widened columns v (p ∷ ps) [] all = absurd all
all_widened columns v (p ∷ ps) (o ∷ os) all = ap₂ (λ (q : Projected) (qs : List Projected). q ∷ qs) all.0 (all_widened columns v ps os all.1)

-- what was lent is what is put back
same_there : {X : Type 0} (xs : List X) (i : ℕ) (x y : X) → i < length xs → x ≡ get_or xs i x → y ≡ get_or xs i y → x ≡ y
same_there xs i x y lt x_is y_is = x_is ∙ get_or_default xs i x y lt ∙ sym y_is

pub can_still : (tables : List (List Loaded)) (i : ℕ) (lent old : List Loaded) (os : List (Option Wider)) → i < length tables → lent ≡ get_or tables i lent → old ≡ get_or tables i old
    → AllZip CanTake os lent → AllZip CanTake os old
can_still tables i lent old os lt lent_is old_is can = subst (AllZip CanTake os) (same_there tables i lent old lt lent_is old_is) can

pub parts_applied : (tables : List (List Loaded)) (i : ℕ) (columns : List Column) (v : Value) (lent old new : List Loaded) (os : List (Option Wider)) → i < length tables → lent ≡ get_or tables i lent → old ≡ get_or tables i old
    → zipped widened_by os (projections_of lent) ≡ wide_parts columns v (projections_of lent) → projections_of new ≡ zipped widened_by os (projections_of old)
    → map projections_of (set tables i new) ≡ change_at i (wide_parts columns v) (map projections_of tables)
parts_applied tables i columns v lent old new os lt lent_is old_is made applied =
    let one : zipped widened_by os (projections_of old) ≡ wide_parts columns v (projections_of old) =
    subst (λ (ps : List Loaded). zipped widened_by os (projections_of ps) ≡ wide_parts columns v (projections_of ps)) (same_there tables i lent old lt lent_is old_is) made in
    stores_wider tables (set tables i new) i columns v old new lt old_is refl (applied ∙ one)

pub widened_all : (columns : List Column) (v : Value) (lent now : List Loaded) (os : List (Option Wider)) → lent ≡ now → AllZip (IsWidening columns v) (projections_of lent) os
    → zipped widened_by os (projections_of now) ≡ wide_parts columns v (projections_of now)
widened_all columns v lent now os same all = subst (λ (ps : List Loaded). zipped widened_by os (projections_of ps) ≡ wide_parts columns v (projections_of ps)) same (all_widened columns v (projections_of lent) os all)

-- ---- loops

pub made_next : (columns : List Column) (v : Value) (stores : List Loaded) (i : ℕ) (x : Loaded) (os after : List (Option Wider)) (o : Option Wider) → i < length stores → x ≡ get_or stores i x → after ≡ os ++ o ∷ []
    → AllZip (IsWidening columns v) (projections_of (take i stores)) os → IsWidening columns v x.stored o → AllZip (IsWidening columns v) (projections_of (take (i + 1) stores)) after
made_next columns v stores i x os after o lt is after_is all one =
    let next : take (i + 1) stores ≡ take i stores ++ x ∷ [] = take_more stores i x lt ∙ ap (λ (y : Loaded). take i stores ++ y ∷ []) (sym is) in
    let stored : projections_of (take (i + 1) stores) ≡ projections_of (take i stores) ++ x.stored ∷ [] = ap projections_of next ∙ map_join (λ (p : Loaded). p.stored) (take i stores) (x ∷ []) in
    subst (λ (ps : List Projected). AllZip (IsWidening columns v) ps after) (sym stored)
    (subst (λ (ys : List (Option Wider)). AllZip (IsWidening columns v) (projections_of (take i stores) ++ x.stored ∷ []) ys) (sym after_is)
    (zip_push (IsWidening columns v) (projections_of (take i stores)) os x.stored o all one))

pub ready_next : (stores : List Loaded) (i : ℕ) (x : Loaded) (os after : List (Option Wider)) (o : Option Wider) → i < length stores → x ≡ get_or stores i x → after ≡ os ++ o ∷ []
    → AllZip CanTake os (take i stores) → CanTake o x → AllZip CanTake after (take (i + 1) stores)
ready_next stores i x os after o lt is after_is all one =
    let next : take (i + 1) stores ≡ take i stores ++ x ∷ [] = take_more stores i x lt ∙ ap (λ (y : Loaded). take i stores ++ y ∷ []) (sym is) in
    subst (λ (ps : List Loaded). AllZip CanTake after ps) (sym next)
    (subst (λ (ys : List (Option Wider)). AllZip CanTake ys (take i stores ++ x ∷ [])) (sym after_is) (zip_push CanTake os (take i stores) o x all one))

next_changed : {X : Type 0} (f : X → X) (es : List X) (i : ℕ) (x : X) → i < length es
    → set (map f (take i es) ++ drop i es) i (f (get_or (map f (take i es) ++ drop i es) i x)) ≡ map f (take (suc i) es) ++ drop (suc i) es
next_changed f [] i x lt = absurd (omega (arith, lt))
next_changed f (e ∷ es) zero x lt = refl
next_changed {X} f (e ∷ es) (suc i) x lt = ap (λ (ys : List X). f e ∷ ys) (next_changed f es i x (omega (arith, lt)))

pub changed_next : {X : Type 0} (f : X → X) (es now : List X) (i : ℕ) (old new : X) → i < length es → now ≡ map f (take i es) ++ drop i es → new ≡ f (get_or now i old)
    → set now i new ≡ map f (take (i + 1) es) ++ drop (i + 1) es
changed_next {X} f es now i old new lt is one =
    let more : suc i ≡ i + 1 = omega arith in
    ap₂ (λ (xs : List X) (x : X). set xs i x) is (one ∙ ap (λ (xs : List X). f (get_or xs i old)) is) ∙ next_changed f es i old lt
    ∙ ap (λ (n : ℕ). map f (take n es) ++ drop n es) more

-- ---- the columns that are lent

pub columns_there : (root : Catalogue) (last : ℕ) (tables : List (List Loaded)) (now : Seen) (i : ℕ) (listed : List kept.Table) (d : kept.Table) (columns : List Column) → seen_of root last tables ≡ now → i < length now.catalogue.tables
    → listed ≡ root.tables → columns ≡ (get_or listed i d).columns → IsSomeAnd (slice_get root.tables i) (λ u. u.columns ≡ columns)
columns_there root last tables now i listed d columns view lt same columns_are =
    let within : i < length root.tables = subst (λ (s : Seen). i < length s.catalogue.tables) (sym view) lt in
    let t : kept.Table = get_or root.tables i d in
    is_at root.tables i t (λ u. u.columns ≡ columns) within (get_or_default root.tables i d t within) (sym (columns_are ∙ ap (λ (ts : List kept.Table). (get_or ts i d).columns) same))
