-- A new table among the others.
use Rattle.std.proofs.Common.{◌≡◌, ◌≢◌, ℕ, ◌+◌, ◌≤◌, ◌<◌, ◌++◌, Bool, true, false, cond, List, [], ◌∷◌, length, map, refl, sym, ◌∙◌, ap, ap₂, subst, arith}
use Rattle.std.specs.Prelude.{◌||◌, ◌&&◌, ◌==◌, bytes_eq, codes}
use Rattle.std.specs.Bool.{OnTrue}
use Rattle.std.specs.Ordering.{is_lt, nat_cmp}
use Rattle.std.specs.Cmp.Lexicographic.{slice_cmp}
use Rattle.std.specs.List.{All, AllPairs, list_any, list_all, enumerate_from, flat_map, slice_index_or}
use Rattle.std.proofs.lemmas.List.{get_or_default}
use Rattle.std.proofs.lemmas.List.Concat.{flat_map-cons}
use Rattle.std.proofs.lemmas.List.Elements.{All-head, All-tail, All-cons, All-nil, All-append, All-weaker}
use Rattle.std.proofs.lemmas.List.Kept.{AllPairs-cons}
use Rattle.std.proofs.lemmas.Slice.Eq.{bytes_eq-Decides}
use Rattle.col_value.specs.declared.column.Column.{Column}
use Rattle.col_value.specs.declared.kinds.Encoding.{Encoding}
use Rattle.col_value.specs.declared.row.Stamped.{Stamped}
use Rattle.db_model.specs.Database.{Database, Table, Shape, put_table, is_taken, super_name, is_super, has_columns, ordinals}
use Rattle.db_model.specs.Events.{first_shape, empty_table}
use Rattle.db_model.specs.Sound.{RowFits, HasEpochs, ReachesMark, IsSoundShape, IsSoundTable, names_of, all_names, IsSoundDatabase}
use Rattle.sound_laws.proofs.Pairs.{pairs_none, pairs_head, pairs_front, pairs_back, pairs_across, pairs_join}

-- ---- names

abbrev pub Differ : List ℕ → List ℕ → Type 0
Differ m n = bytes_eq m n ≡ false

pub differ_turned : (m n : List ℕ) → Differ m n → Differ n m
differ_turned m n off = by (bytes_eq n m) refl
  where
    by : (b : Bool) → bytes_eq n m ≡ b → b ≡ false
    by false is = refl
    by true is =
        let same : n ≡ m = (bytes_eq-Decides n m).0 is in
        let turned : bytes_eq n m ≡ bytes_eq m n = ap₂ bytes_eq same (sym same) in
        sym is ∙ turned ∙ off

or_left : (a b : Bool) → (a || b) ≡ false → a ≡ false
or_left true b is = cc
or_left false b is = refl

or_right : (a b : Bool) → (a || b) ≡ false → b ≡ false
or_right true b is = cc
or_right false b is = is

free_shapes : (name : List ℕ) (ss : List Shape) → list_any (λ s. bytes_eq s.name name) ss ≡ false → All (Differ name) (map (λ s. s.name) ss)
free_shapes name [] free = All-nil (Differ name)
free_shapes name (s ∷ ss) free =
    All-cons (Differ name) s.name (map (λ x. x.name) ss) (differ_turned s.name name (or_left (bytes_eq s.name name) (list_any (λ x. bytes_eq x.name name) ss) free))
    (free_shapes name ss (or_right (bytes_eq s.name name) (list_any (λ x. bytes_eq x.name name) ss) free))

-- a name that isn't taken differs from all
free_names : (name : List ℕ) (ts : List Table) → is_taken name ts ≡ false → All (Differ name) (all_names ts)
free_names name [] free = All-nil (Differ name)
free_names name (t ∷ ts) free =
    let here : (bytes_eq t.name name || list_any (λ s. bytes_eq s.name name) t.shapes) ≡ false = or_left _ (is_taken name ts) free in
    subst (All (Differ name)) (sym (flat_map-cons names_of t ts))
    (All-append (Differ name) (names_of t) (all_names ts)
    (All-cons (Differ name) t.name (map (λ s. s.name) t.shapes) (differ_turned t.name name (or_left (bytes_eq t.name name) (list_any (λ s. bytes_eq s.name name) t.shapes) here))
    (free_shapes name t.shapes (or_right (bytes_eq t.name name) (list_any (λ s. bytes_eq s.name name) t.shapes) here)))
    (free_names name ts (or_right (bytes_eq t.name name || list_any (λ s. bytes_eq s.name name) t.shapes) (is_taken name ts) free)))

longer : (n more : List ℕ) → 0 < length more → Differ n (n ++ more)
longer n more some = by (bytes_eq n (n ++ more)) refl
  where
    size : (xs ys : List ℕ) → length (xs ++ ys) ≡ length xs + length ys
    size [] ys = omega arith
    size (x ∷ xs) ys = let rest = size xs ys in omega (arith, rest)

    by : (b : Bool) → bytes_eq n (n ++ more) ≡ b → b ≡ false
    by false is = refl
    by true is =
        let same : n ≡ n ++ more = (bytes_eq-Decides n (n ++ more)).0 is in
        let long : length n ≡ length (n ++ more) = ap length same in
        absurd (omega (arith, long, some, size n more))

put_names : (P : List ℕ → Type 0) (t : Table) (us : List Table) → All P (names_of t) → All P (all_names us) → All P (all_names (put_table t us))
put_names P t [] here all = subst (All P) (sym (flat_map-cons names_of t [])) (All-append P (names_of t) [] here (All-nil P))
put_names P t (u ∷ us) here all = by (is_lt (slice_cmp nat_cmp t.name u.name)) (put_names P t us here back)
  where
    both : All P (names_of u ++ all_names us)
    both = subst (All P) (flat_map-cons names_of u us) all

    front : (xs ys : List (List ℕ)) → All P (xs ++ ys) → All P xs
    front [] ys h = All-nil P
    front (x ∷ xs) ys h = All-cons P x xs (All-head P x (xs ++ ys) h) (front xs ys (All-tail P x (xs ++ ys) h))

    rest : (xs ys : List (List ℕ)) → All P (xs ++ ys) → All P ys
    rest [] ys h = h
    rest (x ∷ xs) ys h = rest xs ys (All-tail P x (xs ++ ys) h)

    back : All P (all_names us)
    back = rest (names_of u) (all_names us) both

    by : (b : Bool) → All P (all_names (put_table t us)) → All P (all_names (cond b (t ∷ (u ∷ us)) (u ∷ put_table t us)))
    by true more = subst (All P) (sym (flat_map-cons names_of t (u ∷ us))) (All-append P (names_of t) (all_names (u ∷ us)) here all)
    by false more = subst (All P) (sym (flat_map-cons names_of u (put_table t us))) (All-append P (names_of u) (all_names (put_table t us)) (front (names_of u) (all_names us) both) more)

put_pairs : (t : Table) (us : List Table) → AllPairs Differ (names_of t) → All (λ n. All (Differ n) (all_names us)) (names_of t) → AllPairs Differ (all_names us) → AllPairs Differ (all_names (put_table t us))
put_pairs t [] here across pairs = subst (AllPairs Differ) (sym (flat_map-cons names_of t [])) (pairs_join Differ (names_of t) [] here (pairs_none Differ) across)
put_pairs t (u ∷ us) here across pairs = by (is_lt (slice_cmp nat_cmp t.name u.name)) (put_pairs t us here narrower (pairs_back Differ (names_of u) (all_names us) both))
  where
    both : AllPairs Differ (names_of u ++ all_names us)
    both = subst (AllPairs Differ) (flat_map-cons names_of u us) pairs

    split : (n : List ℕ) → All (Differ n) (all_names (u ∷ us)) → All (Differ n) (names_of u ++ all_names us)
    split n all = subst (All (Differ n)) (flat_map-cons names_of u us) all

    front : (P : List ℕ → Type 0) (xs ys : List (List ℕ)) → All P (xs ++ ys) → All P xs
    front P [] ys h = All-nil P
    front P (x ∷ xs) ys h = All-cons P x xs (All-head P x (xs ++ ys) h) (front P xs ys (All-tail P x (xs ++ ys) h))

    rest : (P : List ℕ → Type 0) (xs ys : List (List ℕ)) → All P (xs ++ ys) → All P ys
    rest P [] ys h = h
    rest P (x ∷ xs) ys h = rest P xs ys (All-tail P x (xs ++ ys) h)

    narrower : All (λ n. All (Differ n) (all_names us)) (names_of t)
    narrower = All-weaker (λ n. All (Differ n) (all_names (u ∷ us))) (λ n. All (Differ n) (all_names us)) (λ n all. rest (Differ n) (names_of u) (all_names us) (split n all)) (names_of t) across

    -- the names of u against those of t
    turned : (ms : List (List ℕ)) (n : List ℕ) → All (λ m. All (Differ m) (names_of u)) ms → (i : ℕ) → i < length (names_of u) → n ≡ slice_index_or (names_of u) i n → All (Differ n) ms
    turned [] n all i lt at = All-nil (Differ n)
    turned (m ∷ ms) n all i lt at =
        All-cons (Differ n) m ms (differ_turned m n (subst (Differ m) (sym at) (All-head (λ x. All (Differ x) (names_of u)) m ms all i n lt))) (turned ms n (All-tail (λ x. All (Differ x) (names_of u)) m ms all) i lt at)

    against : All (λ m. All (Differ m) (names_of u)) (names_of t)
    against = All-weaker (λ n. All (Differ n) (all_names (u ∷ us))) (λ n. All (Differ n) (names_of u)) (λ n all. front (Differ n) (names_of u) (all_names us) (split n all)) (names_of t) across

    crossed : All (λ n. All (Differ n) (all_names (put_table t us))) (names_of u)
    crossed i d lt =
        let n = slice_index_or (names_of u) i d in
        put_names (Differ n) t us (turned (names_of t) n against i lt (get_or_default (names_of u) i d n lt)) (pairs_across Differ (names_of u) (all_names us) both i d lt)

    by : (b : Bool) → AllPairs Differ (all_names (put_table t us)) → AllPairs Differ (all_names (cond b (t ∷ (u ∷ us)) (u ∷ put_table t us)))
    by true more = subst (AllPairs Differ) (sym (flat_map-cons names_of t (u ∷ us))) (pairs_join Differ (names_of t) (all_names (u ∷ us)) here pairs across)
    by false more = subst (AllPairs Differ) (sym (flat_map-cons names_of u (put_table t us))) (pairs_join Differ (names_of u) (all_names (put_table t us)) (pairs_front Differ (names_of u) (all_names us) both) more crossed)

-- ---- the new table

any_here : (i : ℕ) (n : ℕ) (columns : List Column) → n ≤ i → i < n + length columns → list_any (λ c. c.0 == i) (map {B = ℕ × Encoding} (λ e. (e.0, Encoding.Auto)) (enumerate_from n columns)) ≡ true
any_here i n [] from to = absurd (omega (arith, from, to))
any_here i n (c ∷ columns) from to = by (n == i) refl (λ other. any_here i (n + 1) columns (omega (arith, from, other)) (omega (arith, to)))
  where
    by : (b : Bool) → (n == i) ≡ b → ((n ≢ i) → list_any (λ x. x.0 == i) (map {B = ℕ × Encoding} (λ e. (e.0, Encoding.Auto)) (enumerate_from (n + 1) columns)) ≡ true) → (b || list_any (λ x. x.0 == i) (map {B = ℕ × Encoding} (λ e. (e.0, Encoding.Auto)) (enumerate_from (n + 1) columns))) ≡ true
    by true is rest = refl
    by false is rest = rest (grind (arith, is))

all_there : (n : ℕ) (columns : List Column) (all : List (ℕ × Encoding)) → ((i : ℕ) → n ≤ i → i < n + length columns → list_any (λ c. c.0 == i) all ≡ true)
    → list_all (λ i. list_any (λ c. c.0 == i) all) (map {B = ℕ} (λ e. e.0) (enumerate_from n columns)) ≡ true
all_there n [] all here = refl
all_there n (c ∷ columns) all here =
    ap₂ (λ (a b : Bool). a && b) (here n (omega arith) (omega arith)) (all_there (n + 1) columns all (λ i from to. here i (omega (arith, from)) (omega (arith, to))))

new_super : (name : List ℕ) (columns : List Column) (last : ℕ) → list_any (is_super (empty_table name columns last)) (empty_table name columns last).shapes ≡ true
new_super name columns last =
    ap (λ (b : Bool). b || false) (all_there 0 columns (map {B = ℕ × Encoding} (λ e. (e.0, Encoding.Auto)) (enumerate_from 0 columns)) (λ i from to. any_here i 0 columns from to))

new_sound : (d : Database) (name : List ℕ) (columns : List Column) → d.ahm ≤ d.last → IsSoundTable d (empty_table name columns d.last)
new_sound d name columns mark = record {
  rows = All-nil (λ s. RowFits columns s.row);
  epochs = All-nil (HasEpochs d.last);
  shapes = All-cons (IsSoundShape d) (first_shape name columns d.last) [] (record { mark = mark; closed = omega arith }) (All-nil (IsSoundShape d));
  super = new_super name columns d.last;
}

put_all : (P : Table → Type 0) (t : Table) (us : List Table) → P t → All P us → All P (put_table t us)
put_all P t [] here all = All-cons P t [] here all
put_all P t (u ∷ us) here all = by (is_lt (slice_cmp nat_cmp t.name u.name)) (put_all P t us here (All-tail P u us all))
  where
    by : (b : Bool) → All P (put_table t us) → All P (cond b (t ∷ (u ∷ us)) (u ∷ put_table t us))
    by true more = All-cons P t (u ∷ us) here all
    by false more = All-cons P u (put_table t us) (All-head P u us all) more

-- a table is sound in each database with these epochs
on_same : (b : Bool) {P Q : Type 0} → (P → Q) → OnTrue b P → OnTrue b Q
on_same true h p = h p
on_same false h p = tt

pub table_still : (d e : Database) (t : Table) → e.last ≡ d.last → e.ahm ≡ d.ahm → IsSoundTable d t → IsSoundTable e t
table_still d e t last ahm sound = record {
  rows = sound.rows;
  epochs = subst (λ (n : ℕ). All (HasEpochs n) t.rows) (sym last) sound.epochs;
  shapes = All-weaker (IsSoundShape d) (IsSoundShape e)
      (λ s is. on_same s.fresh {P = ReachesMark d s} (λ r. record { mark = subst (λ (n : ℕ). n ≤ s.lge) (sym ahm) r.mark; closed = subst (λ (n : ℕ). s.lge ≤ n) (sym last) r.closed }) is) t.shapes sound.shapes;
  super = sound.super;
}

pub created_sound : (d : Database) (name : List ℕ) (columns : List Column) → is_taken name d.tables ≡ false → is_taken (super_name name) d.tables ≡ false → IsSoundDatabase d
    → IsSoundDatabase (record d { tables = put_table (empty_table name columns d.last) d.tables })
created_sound d name columns free free_super sound = record {
  names =
      put_pairs t d.tables
      (AllPairs-cons Differ name (super_name name ∷ []) (All-cons (Differ name) (super_name name) [] (longer name (codes "_super") (omega arith)) (All-nil (Differ name)))
      (AllPairs-cons Differ (super_name name) [] (All-nil (Differ (super_name name))) (pairs_none Differ)))
      (All-cons (λ n. All (Differ n) (all_names d.tables)) name (super_name name ∷ []) (free_names name d.tables free)
      (All-cons (λ n. All (Differ n) (all_names d.tables)) (super_name name) [] (free_names (super_name name) d.tables free_super) (All-nil (λ n. All (Differ n) (all_names d.tables)))))
      sound.names;
  tables =
      put_all (IsSoundTable after) t d.tables (table_still d after t refl refl (new_sound d name columns sound.mark))
      (All-weaker (IsSoundTable d) (IsSoundTable after) (λ u is. table_still d after u refl refl is) d.tables sound.tables);
  mark = sound.mark;
}
  where
    t : Table
    t = empty_table name columns d.last

    after : Database
    after = record d { tables = put_table t d.tables }
