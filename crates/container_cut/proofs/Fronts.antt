-- The columns that a container stores, and its rows with the defaults of the others.
use Rattle.std.proofs.Common.{◌≡◌, ◌+◌, ◌-◌, ◌<◌, ◌≤◌, ℕ, Bool, true, false, cond, List, [], ◌∷◌, ◌++◌, length, map, take, drop, get_or, refl, sym, ◌∙◌, ap, ap₂, subst, arith, length-append}
use Rattle.std.specs.Prelude.{Option, Some, None, IfSome, ◌*◌, ◌^◌, unwrap_or, replicate, filter, nat_le, pos}
use Rattle.std.specs.List.{All}
use Rattle.std.proofs.Math.ListN.{get_or-append}
use Rattle.std.proofs.lemmas.List.{length-map, length-drop, length-take-le, drop_all, take-map, get_or-take, get_or-drop, get_or-map, get_or-append_right, append-nil}
use Rattle.std.proofs.lemmas.List.Elements.{All-nil, All-head, All-tail, All-map, All-weaker}
use Rattle.common_laws.specs.Maps.{Contents}
use Rattle.catalog_types.specs.declared.catalogue.Container.{Container}
use Rattle.catalog_types.specs.declared.catalogue.Projection.{Projection}
use Rattle.col_file.specs.Held.{HoldsColumn}
use Rattle.col_value.specs.declared.kinds.Encoding.TheVariants.{Auto}
use Rattle.col_value.specs.declared.row.Asked.{Asked}
use Rattle.col_value.specs.declared.row.Stamped.{Stamped}
use Rattle.col_value.specs.declared.value.Value.{Value}
use Rattle.col_value.specs.declared.value.Value.TheVariants as value
use Rattle.row_history.specs.History.{cut_rows, cut_row, stamped}
use Rattle.del_vector.specs.Marks.{epoch_at}
use Rattle.ros_container.specs.Encodings.{Written, written_as, written_of, as_epochs, encoding_at, default_at}
use Rattle.ros_container.specs.Files.{body_of, index_of}
use Rattle.ros_container.specs.Held.{HoldsContainer}
use Rattle.ros_container.specs.Readable.{HasDefaultValue, IsOfColumns, IsReadable}
use Rattle.ros_container.specs.Rows.{column_values, epoch_values, AreWide, IsWithin}
use Rattle.ros_container.proofs.Long.{container_long}
use Rattle.stored_rows.specs.Held.{HoldsRows, stamped_from}
use Rattle.container_writer.specs.Writing.{listed}
use Rattle.container_cut.specs.Fronts.{front_of}

abbrev pub default_in : Written → Value
default_in w = unwrap_or w.default value.Null

-- a row of the values that a container stores, with the defaults of the columns that it doesn't store
abbrev pub full : List Written → ℕ → Asked → Asked
full es n a = record a { row = a.row ++ map default_in (drop n es) }

abbrev pub full_stamped : List Written → ℕ → Stamped → Stamped
full_stamped es n s = record s { row = s.row ++ map default_in (drop n es) }

-- ---- one value after the other

mapped_same : {X : Type 0} (P : Asked → Type 0) (f g : Asked → X) (rows : List Asked) → ((a : Asked) → P a → f a ≡ g a) → All P rows → map f rows ≡ map g rows
mapped_same P f g [] same all = refl
mapped_same {X} P f g (a ∷ rows) same all = ap₂ (λ (x : X) (xs : List X). x ∷ xs) (same a (All-head P a rows all)) (mapped_same P f g rows same (All-tail P a rows all))

map_twice : {X : Type 0} (f : Asked → X) (h : Asked → Asked) (rows : List Asked) → map f (map h rows) ≡ map (λ (a : Asked). f (h a)) rows
map_twice f h [] = refl
map_twice {X} f h (a ∷ rows) = ap (λ (xs : List X). f (h a) ∷ xs) (map_twice f h rows)

all_one : (f : Asked → Value) (d : Value) (rows : List Asked) → All (λ a. f a ≡ d) rows → map f rows ≡ replicate (length rows) d
all_one f d [] all = refl
all_one f d (a ∷ rows) all =
    ap₂ (λ (v : Value) (vs : List Value). v ∷ vs) (All-head (λ (b : Asked). f b ≡ d) a rows all) (all_one f d rows (All-tail (λ (b : Asked). f b ≡ d) a rows all))

-- ---- the columns

pub encoding_front : (es : List Written) (n i : ℕ) → i < n → encoding_at (take n es) i ≡ encoding_at es i
encoding_front es n i lt = ap (λ (w : Written). w.encoding) (get_or-take n es i as_epochs lt)

-- a default behind the columns that are stored
default_behind : (es : List Written) (n i : ℕ) (row : List Value) → n ≤ length es → length row ≡ n → n ≤ i → i < length es → get_or (row ++ map default_in (drop n es)) i value.Null ≡ default_at es i
default_behind es n i row le long behind lt =
    let far : n + (i - n) ≡ i = omega (arith, behind) in
    let many : i - n < length (drop n es) = omega (arith, length-drop n es, behind, lt, le) in
    get_or-append_right row (map default_in (drop n es)) n i value.Null long behind
    ∙ get_or-map default_in (drop n es) (i - n) as_epochs value.Null many
    ∙ ap default_in (get_or-drop n es (i - n) as_epochs ∙ ap (λ (j : ℕ). get_or es j as_epochs) far)

-- ---- the rows with the columns that are stored alone

-- the values that a container stores of a row
abbrev pub front : ℕ → Asked → Asked
front n a = record a { row = take n a.row }

pub narrow : (m : Contents) (es : List Written) (k : Container) (rows : List Asked) → k.stored ≤ length es → HoldsContainer m es k rows → HoldsContainer m (take k.stored es) k (map (front k.stored) rows)
narrow m es k rows le held = record {
  each = λ i lt.
      rw (encoding_front es n i lt)
      (subst (HoldsColumn (encoding_at es i) (body_of k.base i) (index_of k.base i) k.rows m) (sym (column_front i lt)) (held.each i lt));
  defaults = λ i behind lt. absurd (omega (arith, behind, lt, length-take-le n es le));
  epochs = subst (HoldsColumn Auto (body_of k.base k.stored) (index_of k.base k.stored) k.rows m) (sym (map_twice (λ (a : Asked). value.Int (pos a.ins)) (front n) rows)) held.epochs;
  wide = All-map (λ (a : Asked). length a.row ≡ length (take n es)) (front n) rows (All-weaker (λ (a : Asked). length a.row ≡ length es) (λ (a : Asked). length (take n a.row) ≡ length (take n es)) (λ a is. shorter a is) rows held.wide);
  within = All-map (λ (a : Asked). IsWithin k a.ins) (front n) rows held.within;
} where
  n : ℕ
  n = k.stored

  column_front : (i : ℕ) → i < n → column_values i (map (front n) rows) ≡ column_values i rows
  column_front i lt =
      map_twice (λ (a : Asked). get_or a.row i value.Null) (front n) rows
      ∙ mapped_same (λ (a : Asked). length a.row ≡ length es) (λ (a : Asked). get_or (take n a.row) i value.Null) (λ (a : Asked). get_or a.row i value.Null) rows (λ a is. get_or-take n a.row i value.Null lt) held.wide

  shorter : (a : Asked) → length a.row ≡ length es → length (take n a.row) ≡ length (take n es)
  shorter a is = let row_le : n ≤ length a.row = omega (arith, is, le) in length-take-le n a.row row_le ∙ sym (length-take-le n es le)

-- ---- the rows with the defaults of the others

pub widen : (m : Contents) (es : List Written) (k : Container) (rows : List Asked) → k.stored ≤ length es → HoldsContainer m (take k.stored es) k rows → HoldsContainer m es k (map (full es k.stored) rows)
widen m es k rows le held = record {
  each = λ i lt.
      rw (← encoding_front es n i lt)
      (subst (HoldsColumn (encoding_at (take n es) i) (body_of k.base i) (index_of k.base i) k.rows m) (sym (column_full i lt)) (held.each i lt));
  defaults = λ i behind lt. map_twice (λ (a : Asked). get_or a.row i value.Null) (full es n) rows
      ∙ all_one (λ (a : Asked). get_or (a.row ++ map default_in (drop n es)) i value.Null) (default_at es i) rows
      (All-weaker (λ (a : Asked). length a.row ≡ n) (λ (a : Asked). get_or (a.row ++ map default_in (drop n es)) i value.Null ≡ default_at es i) (λ a is. default_behind es n i a.row le is behind lt) rows narrow_rows)
      ∙ ap (λ (c : ℕ). replicate c (default_at es i)) many;
  epochs = subst (HoldsColumn Auto (body_of k.base k.stored) (index_of k.base k.stored) k.rows m) (sym (map_twice (λ (a : Asked). value.Int (pos a.ins)) (full es n) rows)) held.epochs;
  wide = All-map (λ (a : Asked). length a.row ≡ length es) (full es n) rows (All-weaker (λ (a : Asked). length a.row ≡ n) (λ (a : Asked). length (a.row ++ map default_in (drop n es)) ≡ length es) (λ a is. longer a is) rows narrow_rows);
  within = All-map (λ (a : Asked). IsWithin k a.ins) (full es n) rows held.within;
} where
  n : ℕ
  n = k.stored

  narrow_rows : All (λ a. length a.row ≡ n) rows
  narrow_rows = subst (λ (x : ℕ). AreWide x rows) (length-take-le n es le) held.wide

  many : length rows ≡ k.rows
  many = container_long m (take n es) k rows held

  column_full : (i : ℕ) → i < n → column_values i (map (full es n) rows) ≡ column_values i rows
  column_full i lt =
      map_twice (λ (a : Asked). get_or a.row i value.Null) (full es n) rows
      ∙ mapped_same (λ (a : Asked). length a.row ≡ n) (λ (a : Asked). get_or (a.row ++ map default_in (drop n es)) i value.Null) (λ (a : Asked). get_or a.row i value.Null) rows
      (λ a is. get_or-append a.row (map default_in (drop n es)) value.Null i (omega (arith, is, lt))) narrow_rows

  longer : (a : Asked) → length a.row ≡ n → length (a.row ++ map default_in (drop n es)) ≡ length es
  longer a is = omega (arith, is, le, length-append a.row (map default_in (drop n es)), length-map (drop n es) default_in, length-drop n es)

-- ---- with their epochs

pub stamped_full : (es : List Written) (n i : ℕ) (mark : ℕ → Option ℕ) (rows : List Asked) → stamped_from i mark (map (full es n) rows) ≡ map (full_stamped es n) (stamped_from i mark rows)
stamped_full es n i mark [] = refl
stamped_full es n i mark (a ∷ rows) = ap (λ (ss : List Stamped). stamped (mark i) (full es n a) ∷ ss) (stamped_full es n (i + 1) mark rows)

pub cut_full : (es : List Written) (n epoch : ℕ) (rows : List Stamped) → cut_rows epoch (map (full_stamped es n) rows) ≡ map (full_stamped es n) (cut_rows epoch rows)
cut_full es n epoch [] = refl
cut_full es n epoch (s ∷ rows) = by (nat_le s.ins epoch) (cut_full es n epoch rows)
  where
    f : Stamped → Stamped
    f = full_stamped es n

    by : (c : Bool) → cut_rows epoch (map f rows) ≡ map f (cut_rows epoch rows) → map (cut_row epoch) (cond c (f s ∷ filter (λ x. nat_le x.ins epoch) (map f rows)) (filter (λ x. nat_le x.ins epoch) (map f rows)))
        ≡ map f (map (cut_row epoch) (cond c (s ∷ filter (λ x. nat_le x.ins epoch) rows) (filter (λ x. nat_le x.ins epoch) rows)))
    by true rest = ap (λ (ss : List Stamped). cut_row epoch (f s) ∷ ss) rest
    by false rest = rest

-- the rows of one container
pub rows_full : (m : Contents) (es : List Written) (k : Container) (n : ℕ) (rows : List Stamped) → k.stored ≡ n → n ≤ length es → HoldsRows m (take n es) (k ∷ []) rows → HoldsRows m es (k ∷ []) (map (full_stamped es n) rows)
rows_full m es k n rows same le (marks, here, more, vector, (asked, held, stamp), rest, are) =
    let narrow_held : HoldsContainer m (take k.stored es) k asked = subst (λ (x : ℕ). HoldsContainer m (take x es) k asked) (sym same) held in
    let wide_held = widen m es k asked (omega (arith, same, le)) narrow_held in
    let all : rows ≡ stamped_from 0 (epoch_at marks) asked = are ∙ ap (λ (r : List Stamped). here ++ r) rest ∙ append-nil here ∙ stamp in
    let full_rows : map (full_stamped es n) rows ≡ stamped_from 0 (epoch_at marks) (map (full es k.stored) asked) =
    ap (map (full_stamped es n)) all ∙ sym (stamped_full es n 0 (epoch_at marks) asked) ∙ ap (λ (x : ℕ). stamped_from 0 (epoch_at marks) (map (full es x) asked)) (sym same) in
    (marks, map (full_stamped es n) rows, [], vector, (map (full es k.stored) asked, wide_held, full_rows), refl, sym (append-nil (map (full_stamped es n) rows)))

pub rows_of_listed : (m : Contents) (es : List Written) (o : Option Container) (n : ℕ) (rows : List Stamped) → IfSome o (λ k. k.stored ≡ n) → n ≤ length es → HoldsRows m (take n es) (listed o) rows
    → HoldsRows m es (listed o) (map (full_stamped es n) rows)
rows_of_listed m es None n rows same le none = ap (map (full_stamped es n)) none
rows_of_listed m es (Some k) n rows same le held = rows_full m es k n rows same le held

-- ---- how the front is written

pub front_written : (k : Container) (p : Projection) → written_of (front_of k p) ≡ take k.stored (written_of p)
front_written k p = sym (take-map written_as k.stored p.columns)

pub front_within : (k : Container) (p : Projection) → k.stored ≤ length p.columns → k.stored ≤ length (written_of p)
front_within k p le = omega (arith, le, length-map p.columns written_as)

-- and it can be read
pub front_reads : (k : Container) (p : Projection) → IsOfColumns p.columns k → k.base + 2 * k.stored + 1 < 2 ^ 62 → IsReadable (take k.stored p.columns) k
front_reads k p of_k numbers = record {
  of_columns = record {
    rows = of_k.rows;
    most = let most = of_k.most in omega (arith, length-take-le k.stored p.columns most);
    defaults = subst (All HasDefaultValue) (sym (drop_all k.stored (take k.stored p.columns) (omega (arith, length-take-le k.stored p.columns of_k.most)))) (All-nil HasDefaultValue);
  };
  numbers = numbers;
}
