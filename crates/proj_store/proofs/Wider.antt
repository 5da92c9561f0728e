-- A column that joins the others, in containers that don't store it and in memory.
use Rattle.std.proofs.Common.{◌≡◌, ◌+◌, ◌<◌, ◌≤◌, ℕ, suc, Bool, true, false, List, [], ◌∷◌, ◌++◌, length, map, replicate, refl, sym, ◌∙◌, ap, subst, arith, length-append}
use Rattle.std.specs.Prelude.{Option, Some, nat_lt, slice_index_or, unwrap_or}
use Rattle.std.specs.List.{All}
use Rattle.std.proofs.lemmas.Bool.Decides.{nat_tests}
use Rattle.std.proofs.lemmas.List.{length-map}
use Rattle.std.proofs.lemmas.List.Elements.{All-nil, All-cons, All-head, All-tail}
use Rattle.std.proofs.Math.ListN.{get_or-append}
use Rattle.std.proofs.Math.Seq.{get_or-append_seam}
use Rattle.common_laws.specs.Maps.{Contents}
use Rattle.catalog_types.specs.declared.catalogue.Container.{Container}
use Rattle.catalog_types.specs.declared.catalogue.ProjColumn.{ProjColumn}
use Rattle.col_file.specs.Held.{HoldsColumn}
use Rattle.col_value.specs.declared.kinds.Encoding.TheVariants.{Auto}
use Rattle.col_value.specs.declared.row.Asked.{Asked}
use Rattle.col_value.specs.declared.row.Stamped.{Stamped}
use Rattle.col_value.specs.declared.value.Value.{Value}
use Rattle.col_value.specs.declared.value.Value.TheVariants as value
use Rattle.ros_container.specs.Encodings.{Written, written_as, written_of, as_epochs, encoding_at, default_at}
use Rattle.ros_container.specs.Files.{body_of, index_of}
use Rattle.ros_container.specs.Held.{HoldsContainer}
use Rattle.ros_container.specs.Parts.{with_values}
use Rattle.ros_container.specs.Rows.{column_values, AreWide}
use Rattle.ros_container.proofs.Columns.{with_epochs, with_within, with_wide, with_before, with_here}
use Rattle.ros_container.proofs.Long.{container_long}
use Rattle.stored_rows.specs.Held.{HoldsMarked, stamped_from}
use Rattle.stored_rows.specs.Stored.{Beside, Projected, StoresRows, Stores, IsMemoryAbove, mark_in}
use Rattle.write_store.specs.Memory.{with_value}
use Rattle.proj_store.specs.Widening.{new_column, with_column}

-- ---- lists

map_join : {X Y : Type 0} (f : X → Y) (xs ys : List X) → map f (xs ++ ys) ≡ map f xs ++ map f ys
map_join f [] ys = refl
map_join {X} {Y} f (x ∷ xs) ys = ap (λ (zs : List Y). f x ∷ zs) (map_join f xs ys)

same_long : {X : Type 0} (v : Value) (xs : List X) → length xs ≡ length (replicate (length xs) v)
same_long v [] = refl
same_long v (x ∷ xs) = ap suc (same_long v xs)

-- ---- the rows of a container

abbrev pub wide_rows : Value → List Asked → List Asked
wide_rows v rows = with_values rows (replicate (length rows) v)

stamped_wide : (v : Value) (i : ℕ) (mark : ℕ → Option ℕ) (rows : List Asked) → map (with_value v) (stamped_from i mark rows) ≡ stamped_from i mark (wide_rows v rows)
stamped_wide v i mark [] = refl
stamped_wide v i mark (a ∷ rows) = ap (λ (ss : List Stamped). record { row = a.row ++ v ∷ []; ins = a.ins; del = mark i } ∷ ss) (stamped_wide v (i + 1) mark rows)

module _ (m : Contents) (es : List Written) (k : Container) (rows : List Asked) (w : Written) (v : Value) (most : k.stored ≤ length es) (default : w.default ≡ Some v) (held : HoldsContainer m es k rows) where
  abbrev vs : List Value
  vs = replicate (length rows) v

  long : length rows ≡ length vs
  long = same_long v rows

  before : (i : ℕ) → i < length es → slice_index_or (es ++ w ∷ []) i as_epochs ≡ slice_index_or es i as_epochs
  before i lt = get_or-append es (w ∷ []) as_epochs i lt

  each : (i : ℕ) → i < k.stored → HoldsColumn (encoding_at (es ++ w ∷ []) i) (body_of k.base i) (index_of k.base i) k.rows m (column_values i (wide_rows v rows))
  each i lt =
      let inside : i < length es = omega (arith, lt, most) in
      subst (λ (ws : List Value). HoldsColumn (encoding_at (es ++ w ∷ []) i) (body_of k.base i) (index_of k.base i) k.rows m ws) (sym (with_before (length es) i rows vs inside long held.wide))
      (subst (λ (e : Written). HoldsColumn e.encoding (body_of k.base i) (index_of k.base i) k.rows m (column_values i rows)) (sym (before i inside)) (held.each i lt))

  there : (i : ℕ) → k.stored ≤ i → i < length es → column_values i (wide_rows v rows) ≡ replicate k.rows (default_at (es ++ w ∷ []) i)
  there i le lt =
      with_before (length es) i rows vs lt long held.wide ∙ held.defaults i le lt
      ∙ ap (λ (e : Written). replicate k.rows (unwrap_or e.default value.Null)) (sym (before i lt))

  here : column_values (length es) (wide_rows v rows) ≡ replicate k.rows (default_at (es ++ w ∷ []) (length es))
  here =
      with_here (length es) rows vs long held.wide ∙ ap (λ (n : ℕ). replicate n v) (container_long m es k rows held)
      ∙ ap (λ (d : Option Value). replicate k.rows (unwrap_or d value.Null)) (sym (ap (λ (e : Written). e.default) (get_or-append_seam es w [] as_epochs) ∙ default))

  defaults : (i : ℕ) → k.stored ≤ i → i < length (es ++ w ∷ []) → column_values i (wide_rows v rows) ≡ replicate k.rows (default_at (es ++ w ∷ []) i)
  defaults i le lt = by (nat_lt i (length es)) refl
    where
      by : (b : Bool) → nat_lt i (length es) ≡ b → column_values i (wide_rows v rows) ≡ replicate k.rows (default_at (es ++ w ∷ []) i)
      by true is = there i le (grind (arith, nat_tests))
      by false is =
          let past : length es ≤ i = grind (arith, nat_tests) in
          let last : length es ≡ i = omega (arith, past, lt, length-append es (w ∷ [])) in
          subst (λ (n : ℕ). column_values n (wide_rows v rows) ≡ replicate k.rows (default_at (es ++ w ∷ []) n)) last here

  pub container_wide : HoldsContainer m (es ++ w ∷ []) k (wide_rows v rows)
  container_wide = record {
    each = each;
    defaults = defaults;
    epochs = subst (λ (ws : List Value). HoldsColumn Auto (body_of k.base k.stored) (index_of k.base k.stored) k.rows m ws) (sym (with_epochs rows vs long)) held.epochs;
    wide =
        let more : length es + 1 ≡ length (es ++ w ∷ []) = omega (arith, length-append es (w ∷ [])) in
        subst (λ (n : ℕ). AreWide n (wide_rows v rows)) more (with_wide (length es) rows vs long held.wide);
    within = with_within k rows vs long held.within;
  }

-- ---- the rows of a projection

marked_wide : (m : Contents) (es : List Written) (k : Container) (mark : ℕ → Option ℕ) (rows : List Stamped) (w : Written) (v : Value) → k.stored ≤ length es → w.default ≡ Some v
    → HoldsMarked m es k mark rows → HoldsMarked m (es ++ w ∷ []) k mark (map (with_value v) rows)
marked_wide m es k mark rows w v most default (asked, held, is) =
    (wide_rows v asked, container_wide m es k asked w v most default held, ap (map (with_value v)) is ∙ stamped_wide v 0 mark asked)

saved_wide : (m : Contents) (es : List Written) (ks : List Container) (bs : List Beside) (rows : List Stamped) (w : Written) (v : Value) → All (λ k. k.stored ≤ length es) ks → w.default ≡ Some v
    → StoresRows m es ks bs rows → StoresRows m (es ++ w ∷ []) ks bs (map (with_value v) rows)
saved_wide m es [] [] rows w v most default is = ap (map (with_value v)) is
saved_wide m es [] (b ∷ bs) rows w v most default held = absurd held
saved_wide m es (k ∷ ks) [] rows w v most default held = absurd held
saved_wide m es (k ∷ ks) (b ∷ bs) rows w v most default (here, more, vector, marked, rest, is) = (
  map (with_value v) here,
  map (with_value v) more,
  vector,
  marked_wide m es k (mark_in b) here w v (All-head (λ (x : Container). x.stored ≤ length es) k ks most) default marked,
  saved_wide m es ks bs more w v (All-tail (λ (x : Container). x.stored ≤ length es) k ks most) default rest,
  ap (map (with_value v)) is ∙ map_join (with_value v) here more,
)

pub stores_wide : (m : Contents) (ordinal : ℕ) (v : Value) (p : Projected) (rows : List Stamped) → All (λ k. k.stored ≤ length p.entry.columns) p.entry.containers
    → Stores m p rows → Stores m (with_column ordinal v p) (map (with_value v) rows)
stores_wide m ordinal v p rows most (saved, stores, is) =
    let c : ProjColumn = new_column ordinal v in
    let inside : All (λ k. k.stored ≤ length (written_of p.entry)) p.entry.containers =
    subst (λ (n : ℕ). All (λ k. k.stored ≤ n) p.entry.containers) (sym (length-map p.entry.columns written_as)) most in (
      map (with_value v) saved,
      subst (λ (es : List Written). StoresRows m es p.entry.containers p.beside (map (with_value v) saved)) (sym (map_join written_as p.entry.columns (c ∷ [])))
          (saved_wide m (written_of p.entry) p.entry.containers p.beside saved (written_as c) v inside refl stores),
      ap (map (with_value v)) is ∙ map_join (with_value v) saved p.unsaved,
    )

-- ---- what is in memory

rows_above : (low : ℕ) (v : Value) (rows : List Stamped) → All (λ s. low < s.ins) rows → All (λ s. low < s.ins) (map (with_value v) rows)
rows_above low v [] all = All-nil (λ (s : Stamped). low < s.ins)
rows_above low v (s ∷ rows) all =
    All-cons (λ (t : Stamped). low < t.ins) (with_value v s) (map (with_value v) rows) (All-head (λ (t : Stamped). low < t.ins) s rows all)
    (rows_above low v rows (All-tail (λ (t : Stamped). low < t.ins) s rows all))

pub wide_above : (low ordinal : ℕ) (v : Value) (p : Projected) → IsMemoryAbove low p → IsMemoryAbove low (with_column ordinal v p)
wide_above low ordinal v p above = record { rows = rows_above low v p.unsaved above.rows; marks = above.marks }
