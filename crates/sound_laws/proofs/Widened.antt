-- A sound database stays sound where a table has one column more, with a value of it in each row.
use Rattle.std.proofs.Common.{◌≡◌, ◌+◌, ◌++◌, ℕ, Bool, true, false, cond, List, [], ◌∷◌, length, map, refl, sym, ◌∙◌, ap, ap₂, subst, arith}
use Rattle.std.specs.Prelude.{◌==◌, ◌&&◌, ◌||◌, bytes_eq}
use Rattle.std.specs.Bool.{OnTrue}
use Rattle.std.specs.List.{All, AllPairs, AllZip, list_any, list_all, enumerate_from}
use Rattle.std.proofs.lemmas.Bool.Decides.{nat_tests}
use Rattle.std.proofs.lemmas.List.Concat.{flat_map-cons}
use Rattle.std.proofs.lemmas.List.Elements.{All-head, All-tail, All-cons, All-nil, All-append, All-map, All-weaker}
use Rattle.std.proofs.lemmas.List.Folds.{list_any-append, list_all-append}
use Rattle.col_value.specs.declared.column.Column.{Column}
use Rattle.col_value.specs.declared.kinds.Encoding.{Encoding}
use Rattle.col_value.specs.declared.row.Stamped.{Stamped}
use Rattle.col_value.specs.declared.value.Value.{Value}
use Rattle.col_value.specs.Order.{IsRow, IsValue}
use Rattle.db_model.specs.Database.{Database, Shape, Table, has_columns, is_super, ordinals}
use Rattle.db_model.specs.Events.{widened, with_column, with_value}
use Rattle.db_model.specs.Sound.{HasEpochs, IsSoundDatabase, IsSoundShape, IsSoundTable, ReachesMark, RowFits, ValueFits, all_names, names_of}
use Rattle.db_model.specs.State.{change_named}
use Rattle.sound_laws.proofs.Created.{Differ, table_still}

-- ---- names

pub column_named : (t : Table) (s : Shape) → (with_column t s).name ≡ s.name
column_named t s = by (has_columns s (ordinals t))
  where
    by : (b : Bool) → (cond b (record s { columns = s.columns ++ (length t.columns, Encoding.Auto) ∷ [] }) s).name ≡ s.name
    by true = refl
    by false = refl

shapes_named : (t : Table) (ss : List Shape) → map (λ s. s.name) (map (with_column t) ss) ≡ map (λ s. s.name) ss
shapes_named t [] = refl
shapes_named t (s ∷ ss) = ap₂ (λ (n : List ℕ) (ns : List (List ℕ)). n ∷ ns) (column_named t s) (shapes_named t ss)

tables_named : (name : List ℕ) (c : Column) (v : Value) (ts : List Table) → all_names (change_named name (widened c v) ts) ≡ all_names ts
tables_named name c v [] = refl
tables_named name c v (t ∷ ts) = by (bytes_eq t.name name) (tables_named name c v ts)
  where
    others : List Table
    others = change_named name (widened c v) ts

    by : (b : Bool) → all_names others ≡ all_names ts → all_names (cond b (widened c v t ∷ ts) (t ∷ others)) ≡ all_names (t ∷ ts)
    by true rest =
        flat_map-cons names_of (widened c v t) ts ∙ ap (λ (ns : List (List ℕ)). (t.name ∷ ns) ++ all_names ts) (shapes_named t t.shapes) ∙ sym (flat_map-cons names_of t ts)
    by false rest = flat_map-cons names_of t others ∙ ap (λ (ns : List (List ℕ)). names_of t ++ ns) rest ∙ sym (flat_map-cons names_of t ts)

-- ---- rows

values_join : (columns : List Column) (row : List Value) (c : Column) (v : Value) → AllZip ValueFits columns row → ValueFits c v
    → AllZip ValueFits (columns ++ c ∷ []) (row ++ v ∷ [])
values_join [] [] c v all fits = (fits, tt)
values_join [] (w ∷ row) c v all fits = absurd all
values_join (b ∷ columns) [] c v all fits = absurd all
values_join (b ∷ columns) (w ∷ row) c v (here, rest) fits = (here, values_join columns row c v rest fits)

row_fits : (columns : List Column) (row : List Value) (c : Column) (v : Value) → ValueFits c v → IsValue v → RowFits columns row
    → RowFits (columns ++ c ∷ []) (row ++ v ∷ [])
row_fits columns row c v fits is sound = record {
  values = All-append IsValue row (v ∷ []) sound.values (All-cons IsValue v [] is (All-nil IsValue));
  each = values_join columns row c v sound.each fits;
}

epochs_stay : (last : ℕ) (v : Value) (s : Stamped) → HasEpochs last s → HasEpochs last (with_value v s)
epochs_stay last v s is = record { first = is.first; inserted = is.inserted; deleted = is.deleted }

-- ---- projections

on_both : (b : Bool) {P Q : Type 0} → (P → Q) → OnTrue b P → OnTrue b Q
on_both true h p = h p
on_both false h p = tt

shape_sound : (d : Database) (t : Table) (s : Shape) → IsSoundShape d s → IsSoundShape d (with_column t s)
shape_sound d t s sound = by (has_columns s (ordinals t))
  where
    more : Shape
    more = record s { columns = s.columns ++ (length t.columns, Encoding.Auto) ∷ [] }

    by : (b : Bool) → IsSoundShape d (cond b more s)
    by true = on_both s.fresh {P = ReachesMark d s} {Q = ReachesMark d more} (λ r. record { mark = r.mark; closed = r.closed }) sound
    by false = sound

-- the places of a table with one column more
ordinals_join : (n : ℕ) (columns : List Column) (c : Column)
    → map {B = ℕ} (λ e. e.0) (enumerate_from n (columns ++ c ∷ [])) ≡ map {B = ℕ} (λ e. e.0) (enumerate_from n columns) ++ (n + length columns) ∷ []
ordinals_join n [] c = ap (λ (m : ℕ). m ∷ []) (omega arith)
ordinals_join n (b ∷ columns) c =
    let place : n + 1 + length columns ≡ n + length (b ∷ columns) = omega arith in
    ap (λ (ns : List ℕ). n ∷ ns) (ordinals_join (n + 1) columns c ∙ ap (λ (m : ℕ). map {B = ℕ} (λ e. e.0) (enumerate_from (n + 1) columns) ++ m ∷ []) place)

or_true : (b : Bool) → (b || true) ≡ true
or_true true = refl
or_true false = refl

and_parts : (a b : Bool) → (a && b) ≡ true → (a ≡ true) × (b ≡ true)
and_parts true b is = (refl, is)
and_parts false b is = absurd (cc)

-- a projection with one column more has what it had
has_still : (columns more : List (ℕ × Encoding)) (used : List ℕ) → list_all (λ i. list_any (λ c. c.0 == i) columns) used ≡ true
    → list_all (λ i. list_any (λ c. c.0 == i) (columns ++ more)) used ≡ true
has_still columns more [] is = refl
has_still columns more (i ∷ used) is =
    let (here, rest) = and_parts (list_any (λ c. c.0 == i) columns) (list_all (λ j. list_any (λ c. c.0 == j) columns) used) is in
    let found : list_any (λ c. c.0 == i) (columns ++ more) ≡ true = list_any-append (λ c. c.0 == i) columns more ∙ ap (λ (b : Bool). b || list_any (λ c. c.0 == i) more) here in
    ap₂ (λ (a b : Bool). a && b) found (has_still columns more used rest)

-- and the new one
has_new : (columns : List (ℕ × Encoding)) (n : ℕ) → list_any (λ c. c.0 == n) (columns ++ (n, Encoding.Auto) ∷ []) ≡ true
has_new columns n =
    let same : (n == n) ≡ true = grind (arith, nat_tests) in
    list_any-append (λ c. c.0 == n) columns ((n, Encoding.Auto) ∷ [])
    ∙ ap (λ (b : Bool). list_any (λ c. c.0 == n) columns || (b || false)) same ∙ or_true (list_any (λ c. c.0 == n) columns)

-- a projection that had all columns has all again
has_all : (t : Table) (c : Column) (s : Shape) → has_columns s (ordinals t) ≡ true
    → list_all (λ i. list_any (λ e. e.0 == i) (s.columns ++ (length t.columns, Encoding.Auto) ∷ [])) (map {B = ℕ} (λ e. e.0) (enumerate_from 0 (t.columns ++ c ∷ []))) ≡ true
has_all t c s has =
    let n = length t.columns in
    let columns : List (ℕ × Encoding) = s.columns ++ (n, Encoding.Auto) ∷ [] in
    let there : List ℕ → Bool = λ used. list_all (λ i. list_any (λ e. e.0 == i) columns) used in
    let place : 0 + n ≡ n = omega arith in
    let all : map {B = ℕ} (λ e. e.0) (enumerate_from 0 (t.columns ++ c ∷ [])) ≡ ordinals t ++ n ∷ [] = ordinals_join 0 t.columns c ∙ ap (λ (m : ℕ). ordinals t ++ m ∷ []) place in
    let old : there (ordinals t) ≡ true = has_still s.columns ((n, Encoding.Auto) ∷ []) (ordinals t) has in
    let new : there (n ∷ []) ≡ true = ap (λ (b : Bool). b && true) (has_new s.columns n) in
    ap there all ∙ list_all-append (λ i. list_any (λ e. e.0 == i) columns) (ordinals t) (n ∷ []) ∙ ap₂ (λ (a b : Bool). a && b) old new

super_one : (t : Table) (c : Column) (v : Value) (s : Shape) → is_super t s ≡ true → is_super (widened c v t) (with_column t s) ≡ true
super_one t c v s is =
    let (fresh, has) = and_parts s.fresh (has_columns s (ordinals t)) is in
    let wide = record s { columns = s.columns ++ (length t.columns, Encoding.Auto) ∷ [] } in
    ap (λ (b : Bool). is_super (widened c v t) (cond b wide s)) has ∙ ap₂ (λ (a b : Bool). a && b) fresh (has_all t c s has)

both_wider : (a b c e : Bool) → (a ≡ true → c ≡ true) → (b ≡ true → e ≡ true) → (a || b) ≡ true → (c || e) ≡ true
both_wider true b c e first more is = ap (λ (x : Bool). x || e) (first refl)
both_wider false b true e first more is = refl
both_wider false b false e first more is = more is

super_stays : (t : Table) (c : Column) (v : Value) (ss : List Shape) → list_any (is_super t) ss ≡ true
    → list_any (is_super (widened c v t)) (map (with_column t) ss) ≡ true
super_stays t c v [] is = is
super_stays t c v (s ∷ ss) is =
    both_wider (is_super t s) (list_any (is_super t) ss) (is_super (widened c v t) (with_column t s)) (list_any (is_super (widened c v t)) (map (with_column t) ss))
    (λ here. super_one t c v s here) (λ more. super_stays t c v ss more) is

-- ---- tables

table_widened : (d : Database) (c : Column) (v : Value) (t : Table) → ValueFits c v → IsValue v → IsSoundTable d t
    → IsSoundTable d (widened c v t)
table_widened d c v t fits is sound = record {
  rows =
      All-map (λ s. RowFits (t.columns ++ c ∷ []) s.row) (with_value v) t.rows
      (All-weaker (λ s. RowFits t.columns s.row) (λ s. RowFits (t.columns ++ c ∷ []) (s.row ++ v ∷ [])) (λ s here. row_fits t.columns s.row c v fits is here) t.rows sound.rows);
  epochs = All-map (HasEpochs d.last) (with_value v) t.rows (All-weaker (HasEpochs d.last) (λ s. HasEpochs d.last (with_value v s)) (epochs_stay d.last v) t.rows sound.epochs);
  shapes = All-map (IsSoundShape d) (with_column t) t.shapes (All-weaker (IsSoundShape d) (λ s. IsSoundShape d (with_column t s)) (shape_sound d t) t.shapes sound.shapes);
  super = super_stays t c v t.shapes sound.super;
}

tables_widened : (d : Database) (name : List ℕ) (c : Column) (v : Value) (ts : List Table) → ValueFits c v → IsValue v
    → All (IsSoundTable d) ts → All (IsSoundTable d) (change_named name (widened c v) ts)
tables_widened d name c v [] fits is all = all
tables_widened d name c v (t ∷ ts) fits is all =
    by (bytes_eq t.name name) (tables_widened d name c v ts fits is (All-tail (IsSoundTable d) t ts all))
  where
    others : List Table
    others = change_named name (widened c v) ts

    by : (b : Bool) → All (IsSoundTable d) others → All (IsSoundTable d) (cond b (widened c v t ∷ ts) (t ∷ others))
    by true rest =
        All-cons (IsSoundTable d) (widened c v t) ts (table_widened d c v t fits is (All-head (IsSoundTable d) t ts all)) (All-tail (IsSoundTable d) t ts all)
    by false rest = All-cons (IsSoundTable d) t others (All-head (IsSoundTable d) t ts all) rest

pub widened_sound : (d : Database) (name : List ℕ) (c : Column) (v : Value) → ValueFits c v → IsValue v → IsSoundDatabase d
    → IsSoundDatabase (record d { tables = change_named name (widened c v) d.tables })
widened_sound d name c v fits is sound = record {
  names = subst (AllPairs Differ) (sym (tables_named name c v d.tables)) sound.names;
  tables =
      All-weaker (IsSoundTable d) (IsSoundTable after) (λ t here. table_still d after t refl refl here) after.tables (tables_widened d name c v d.tables fits is sound.tables);
  mark = sound.mark;
}
  where
    after : Database
    after = record d { tables = change_named name (widened c v) d.tables }
