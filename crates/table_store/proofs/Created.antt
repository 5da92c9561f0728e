-- A new table among the others, and what the store stands for with it.
use Rattle.std.proofs.Common.{◌≡◌, ℕ, zero, suc, ◌+◌, ◌<◌, Bool, true, false, cond, List, [], ◌∷◌, length, map, refl, sym, ◌∙◌, ap, ap₂, subst, arith}
use Rattle.std.specs.List.{All, enumerate_from, insert}
use Rattle.std.specs.Ordering.{is_lt, nat_cmp}
use Rattle.std.specs.Cmp.Lexicographic.{slice_cmp}
use Rattle.std.proofs.lemmas.List.{length-map}
use Rattle.std.proofs.lemmas.List.FromFn.{length-enumerate_from}
use Rattle.std.proofs.lemmas.List.Elements.{All-nil, All-cons, All-weaker}
use Rattle.common_laws.specs.Maps.{Contents}
use Rattle.common_laws.proofs.BagLaws.{bag_refl}
use Rattle.col_value.specs.declared.column.Column.{Column}
use Rattle.col_value.specs.declared.kinds.Encoding.{Encoding}
use Rattle.col_value.specs.declared.row.Stamped.{Stamped}
use Rattle.catalog_types.specs.declared.catalogue.Table as kept
use Rattle.catalog_types.specs.declared.catalogue.Catalogue.{Catalogue}
use Rattle.db_model.specs.Database.{Database, Table, super_name, put_table}
use Rattle.db_model.specs.Events.{empty_table}
use Rattle.stored_rows.specs.Stored.{Beside, Projected}
use Rattle.folder_model.specs.Projections.{HasRows}
use Rattle.folder_model.specs.Tables.{StandsForTable, StandForTables, AreDatabase}
use Rattle.table_store.specs.Creating.{whole_column, first_entry, first_table, bare, place_of, with_table, created}

-- ---- the places of columns

pub places_below : {X : Type 0} (n : ℕ) (xs : List X) → All (λ i. i < n + length xs) (map {B = ℕ} (λ e. e.0) (enumerate_from n xs))
places_below n [] = All-nil (λ i. i < n + 0)
places_below n (x ∷ xs) =
    All-cons (λ i. i < n + length (x ∷ xs)) n (map {B = ℕ} (λ e. e.0) (enumerate_from (n + 1) xs)) (omega arith)
    (All-weaker (λ i. i < (n + 1) + length xs) (λ i. i < n + length (x ∷ xs)) (λ i lt. omega (arith, lt)) (map {B = ℕ} (λ e. e.0) (enumerate_from (n + 1) xs)) (places_below (n + 1) xs))

pub first_sorted : (name : List ℕ) (columns : List Column) (last : ℕ) → All (λ i. i < length (first_entry name columns last).columns) (first_entry name columns last).sort
first_sorted name columns last =
    let long : length (map whole_column (enumerate_from 0 columns)) ≡ length columns = length-map (enumerate_from 0 columns) whole_column ∙ length-enumerate_from 0 columns in
    All-weaker (λ i. i < 0 + length columns) (λ i. i < length (map whole_column (enumerate_from 0 columns))) (λ i lt. omega (arith, lt, long)) (map {B = ℕ} (λ e. e.0) (enumerate_from 0 columns)) (places_below 0 columns)

columns_shaped : (n : ℕ) (columns : List Column)
    → map {B = ℕ × Encoding} (λ e. (e.0, Encoding.Auto)) (enumerate_from n columns) ≡ map {B = ℕ × Encoding} (λ c. (c.ordinal, c.encoding)) (map whole_column (enumerate_from n columns))
columns_shaped n [] = refl
columns_shaped n (c ∷ columns) = ap (λ (xs : List (ℕ × Encoding)). (n, Encoding.Auto) ∷ xs) (columns_shaped (n + 1) columns)

-- ---- a list with one element more

pub insert_next : {X : Type 0} (x : X) (xs : List X) (k : ℕ) (y : X) → insert (x ∷ xs) (k + 1) y ≡ x ∷ insert xs k y
insert_next x xs k y = let is : k + 1 ≡ suc k = omega arith in ap (λ (n : ℕ). insert (x ∷ xs) n y) is

put_placed : (t : Table) (us : List Table) → put_table t us ≡ insert us (place_of t.name (map (λ u. u.name) us)) t
put_placed t [] = refl
put_placed t (u ∷ us) = by (is_lt (slice_cmp nat_cmp t.name u.name)) (put_placed t us)
  where
    by : (b : Bool) → put_table t us ≡ insert us (place_of t.name (map (λ x. x.name) us)) t
        → cond b (t ∷ (u ∷ us)) (u ∷ put_table t us) ≡ insert (u ∷ us) (cond b 0 (place_of t.name (map (λ x. x.name) us) + 1)) t
    by true rest = refl
    by false rest = ap (λ (xs : List Table). u ∷ xs) rest ∙ sym (insert_next u us (place_of t.name (map (λ x. x.name) us)) t)

pub map_insert : {X Y : Type 0} (f : X → Y) (xs : List X) (k : ℕ) (x : X) → map f (insert xs k x) ≡ insert (map f xs) k (f x)
map_insert f [] zero x = refl
map_insert f [] (suc k) x = refl
map_insert f (y ∷ xs) zero x = refl
map_insert f (y ∷ xs) (suc k) x = ap (λ (ys : List _). f y ∷ ys) (map_insert f xs k x)

-- ---- the new table

names_same : (m : Contents) (mark : ℕ) (ts : List kept.Table) (pss : List (List Projected)) (us : List Table) → StandForTables m mark ts pss us → map (λ t. t.name) ts ≡ map (λ u. u.name) us
names_same m mark [] [] [] stand = refl
names_same m mark [] [] (u ∷ us) stand = absurd stand
names_same m mark [] (ps ∷ pss) us stand = absurd stand
names_same m mark (t ∷ ts) [] us stand = absurd stand
names_same m mark (t ∷ ts) (ps ∷ pss) [] stand = absurd stand
names_same m mark (t ∷ ts) (ps ∷ pss) (u ∷ us) (here, more) = ap₂ (λ (n : List ℕ) (ns : List (List ℕ)). n ∷ ns) (sym here.name) (names_same m mark ts pss us more)

stand_inserted : (m : Contents) (mark : ℕ) (ts : List kept.Table) (pss : List (List Projected)) (us : List Table) (k : ℕ) (t : kept.Table) (ps : List Projected) (u : Table)
    → StandForTables m mark ts pss us → StandsForTable m mark t ps u → StandForTables m mark (insert ts k t) (insert pss k ps) (insert us k u)
stand_inserted m mark [] [] [] zero t ps u stand new = (new, tt)
stand_inserted m mark [] [] [] (suc k) t ps u stand new = (new, tt)
stand_inserted m mark [] [] (v ∷ us) k t ps u stand new = absurd stand
stand_inserted m mark [] (qs ∷ pss) us k t ps u stand new = absurd stand
stand_inserted m mark (s ∷ ts) [] us k t ps u stand new = absurd stand
stand_inserted m mark (s ∷ ts) (qs ∷ pss) [] k t ps u stand new = absurd stand
stand_inserted m mark (s ∷ ts) (qs ∷ pss) (v ∷ us) zero t ps u stand new = (new, stand)
stand_inserted m mark (s ∷ ts) (qs ∷ pss) (v ∷ us) (suc k) t ps u (here, more) new = (here, stand_inserted m mark ts pss us k t ps u more new)

new_has : (m : Contents) (mark : ℕ) (name : List ℕ) (columns : List Column) (last : ℕ) → HasRows m mark [] (bare (first_entry name columns last))
new_has m mark name columns last = record {
  fresh = record {
    stored = [];
    are = ([], refl, refl);
    history = bag_refl [];
    above = record { rows = All-nil (λ (s : Stamped). last < s.ins); marks = All-nil {X = Beside} _ };
  };
  stale = tt;
}

new_stands : (m : Contents) (mark : ℕ) (name : List ℕ) (columns : List Column) (last : ℕ)
    → StandsForTable m mark (first_table name columns last) (bare (first_entry (super_name name) columns last) ∷ []) (empty_table name columns last)
new_stands m mark name columns last = record {
  name = refl;
  columns = refl;
  shapes = ap (λ (cs : List (ℕ × Encoding)). record { name = super_name name; columns = cs; sort = map (λ e. e.0) (enumerate_from 0 columns); fresh = true; lge = last } ∷ []) (columns_shaped 0 columns);
  entries = refl;
  rows = All-cons (HasRows m mark []) (bare (first_entry (super_name name) columns last)) [] (new_has m mark (super_name name) columns last) (All-nil (HasRows m mark []));
}

pub created_are : (m : Contents) (c : Catalogue) (stores : List (List Projected)) (d : Database) (name : List ℕ) (columns : List Column) (place : ℕ) → place ≡ place_of name (map (λ t. t.name) c.tables)
    → AreDatabase m c stores d
    → AreDatabase m (with_table c.last place (first_table name columns c.last) c) (insert stores place (bare (first_entry (super_name name) columns c.last) ∷ [])) (created name columns d)
created_are m c stores d name columns place is are = record {
  last = are.last;
  ahm = are.ahm;
  tables =
      subst (StandForTables m c.ahm (insert c.tables place (first_table name columns c.last)) (insert stores place (bare (first_entry (super_name name) columns c.last) ∷ []))) (sym there)
      (stand_inserted m c.ahm c.tables stores d.tables place (first_table name columns c.last) (bare (first_entry (super_name name) columns c.last) ∷ []) (empty_table name columns c.last) are.tables
      (new_stands m c.ahm name columns c.last));
}
  where
    at : place_of name (map (λ u. u.name) d.tables) ≡ place
    at = ap (place_of name) (sym (names_same m c.ahm c.tables stores d.tables are.tables)) ∙ sym is

    there : put_table (empty_table name columns d.last) d.tables ≡ insert d.tables place (empty_table name columns c.last)
    there =
        ap (λ (n : ℕ). put_table (empty_table name columns n) d.tables) are.last ∙ put_placed (empty_table name columns c.last) d.tables
        ∙ ap (λ (n : ℕ). insert d.tables n (empty_table name columns c.last)) at
