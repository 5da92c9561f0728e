-- The columns of a container, and the rows of its blocks.
use Rattle.std.proofs.Common.{◌≡◌, ◌+◌, ◌*◌, ◌<◌, ◌≤◌, ◌-◌, ◌++◌, ℕ, Bool, true, false, cond, List, length, map, take, drop, refl, sym, ◌∙◌, ap, subst, inl, inr, arith}
use Rattle.std.specs.Prelude.{◌⊎◌, ◌==◌, ◌≢◌, nat_lt, min, replicate, Option, Some, None, pos, slice_index_or}
use Rattle.std.proofs.Math.Seq.{take-add}
use Rattle.std.proofs.lemmas.Bool.Decides.{nat_tests}
use Rattle.std.proofs.lemmas.List.{take_all, take-map, drop-map, take-replicate, drop-replicate, length-replicate}
use Rattle.common_laws.specs.Maps.{Contents}
use Rattle.catalog_types.specs.declared.catalogue.Container.{Container}
use Rattle.col_file.specs.Held.{HoldsColumn}
use Rattle.col_value.specs.declared.kinds.Encoding.{Encoding}
use Rattle.col_value.specs.declared.kinds.Encoding.TheVariants.{Auto}
use Rattle.col_value.specs.declared.row.Asked.{Asked}
use Rattle.col_value.specs.declared.value.Value.{Value}
use Rattle.col_value.specs.declared.value.Value.TheVariants as value
use Rattle.pos_index.specs.Built.{nth_block}
use Rattle.pos_index.specs.Index.{blocks}
use Rattle.ros_container.specs.Encodings.{Written, encoding_at, default_at}
use Rattle.ros_container.specs.Files.{body_of, index_of, place_of}
use Rattle.ros_container.specs.Held.{HoldsContainer}
use Rattle.ros_container.specs.Rows.{column_values, epoch_values, stored_values}
use Rattle.ros_container.proofs.Stored.{stored_column, stored_epochs, epochs_auto}
use Rattle.container_blocks.specs.Blocks.{rows_in, AreBlock}
use Rattle.container_blocks.specs.Parts.{ArePart}

-- the place of the epochs, and that of another column
abbrev pub IsLast : ℕ → Container → ℕ → ℕ → Type 0
IsLast columns k i place = (i ≡ columns) × (place ≡ k.stored)

abbrev pub IsStored : ℕ → Container → ℕ → ℕ → Type 0
IsStored columns k i place = ((i == columns) ≡ false) × ((i < k.stored) × (place ≡ i))

pub a_place : (columns : ℕ) (k : Container) (i place : ℕ) → place_of columns k i ≡ Some place → IsLast columns k i place ⊎ IsStored columns k i place
a_place columns k i place is = first (i == columns) refl is
  where
    second : (c : Bool) → nat_lt i k.stored ≡ c → (i == columns) ≡ false → cond c (Some i) None ≡ Some place → IsLast columns k i place ⊎ IsStored columns k i place
    second true below differs same =
        let lt : i < k.stored = grind (arith, nat_tests) in
        let at : place ≡ i = cc in
        inr (differs, (lt, at))
    second false above differs same = absurd cc

    first : (c : Bool) → (i == columns) ≡ c → cond c (Some k.stored) (cond (nat_lt i k.stored) (Some i) None) ≡ Some place → IsLast columns k i place ⊎ IsStored columns k i place
    first true last same =
        let there : i ≡ columns = grind (arith, nat_tests) in
        let at : place ≡ k.stored = cc in
        inl (there, at)
    first false differs same = second (nat_lt i k.stored) refl differs same

pub below_last : (columns i : ℕ) → i ≤ columns → i ≢ columns → i < columns
below_last columns i le other = by (lt_or_last columns i le)
  where
    lt_or_last : (columns i : ℕ) → i ≤ columns → (i < columns) ⊎ (i ≡ columns)
    lt_or_last columns i le = grind arith

    by : (i < columns) ⊎ (i ≡ columns) → i < columns
    by (inl lt) = lt
    by (inr last) = absurd (other last)

-- a column that has no place isn't stored
pub no_place : (columns : ℕ) (k : Container) (i : ℕ) → place_of columns k i ≡ None → (k.stored ≤ i) × (i ≢ columns)
no_place columns k i is = first (i == columns) refl is
  where
    second : (c : Bool) → nat_lt i k.stored ≡ c → (i == columns) ≡ false → ◌≡◌ {A = Option ℕ} (cond c (Some i) None) None → (k.stored ≤ i) × (i ≢ columns)
    second true below differs same = absurd cc
    second false above differs same =
        let le : k.stored ≤ i = grind (arith, nat_tests) in
        let other : i ≢ columns = λ is. grind (arith, nat_tests) in
        (le, other)

    first : (c : Bool) → (i == columns) ≡ c → ◌≡◌ {A = Option ℕ} (cond c (Some k.stored) (cond (nat_lt i k.stored) (Some i) None)) None → (k.stored ≤ i) × (i ≢ columns)
    first true last same = absurd cc
    first false differs same = second (nat_lt i k.stored) refl differs same

-- the files in the place of a column hold what the rows have there
pub column_held : (es : List Written) (k : Container) (m : Contents) (i place : ℕ) (rows : List Asked) → place_of (length es) k i ≡ Some place → HoldsContainer m es k rows
    → HoldsColumn (encoding_at es i) (body_of k.base place) (index_of k.base place) k.rows m (stored_values (length es) i rows)
column_held es k m i place rows is held = by (a_place (length es) k i place is)
  where
    by : IsLast (length es) k i place ⊎ IsStored (length es) k i place → HoldsColumn (encoding_at es i) (body_of k.base place) (index_of k.base place) k.rows m (stored_values (length es) i rows)
    by (inr (differs, (lt, at))) =
        let same : stored_values (length es) i rows ≡ column_values i rows = rw differs refl in
        subst (λ (p : ℕ). HoldsColumn (encoding_at es i) (body_of k.base p) (index_of k.base p) k.rows m (stored_values (length es) i rows)) (sym at)
        (subst (HoldsColumn (encoding_at es i) (body_of k.base i) (index_of k.base i) k.rows m) (sym same) (held.each i lt))
    by (inl (last, at)) =
        subst (λ (p : ℕ). HoldsColumn (encoding_at es i) (body_of k.base p) (index_of k.base p) k.rows m (stored_values (length es) i rows)) (sym at)
        (subst (λ (j : ℕ). HoldsColumn (encoding_at es j) (body_of k.base k.stored) (index_of k.base k.stored) k.rows m (stored_values (length es) j rows)) (sym last)
        (subst (λ (e : Encoding). HoldsColumn e (body_of k.base k.stored) (index_of k.base k.stored) k.rows m (stored_values (length es) (length es) rows)) (sym (epochs_auto es))
        (subst (HoldsColumn Auto (body_of k.base k.stored) (index_of k.base k.stored) k.rows m) (sym (stored_epochs (length es) rows)) held.epochs)))

pub mapped : (f : Asked → Value) (b : ℕ) (rows : List Asked) → take 1024 (drop (1024 * b) (map f rows)) ≡ map f (take 1024 (drop (1024 * b) rows))
mapped f b rows = ap (take 1024) (drop-map f (1024 * b) rows) ∙ take-map f 1024 (drop (1024 * b) rows)

-- the values of a block are those of its rows
pub block_values : (columns i b : ℕ) (rows : List Asked) → nth_block b (stored_values columns i rows) ≡ stored_values columns i (rows_in b rows)
block_values columns i b rows = by (i == columns)
  where
    by : (c : Bool) → nth_block b (cond c (epoch_values rows) (column_values i rows)) ≡ cond c (epoch_values (rows_in b rows)) (column_values i (rows_in b rows))
    by true = mapped (λ (a : Asked). value.Int (pos a.ins)) b rows
    by false = mapped (λ (a : Asked). slice_index_or a.row i value.Null) b rows

pub part_block : (holds : Option Contents) (es : List Written) (k : Container) (i place b : ℕ) (vs : List Value) → place_of (length es) k i ≡ Some place → ArePart holds (encoding_at es i) k place b vs → AreBlock holds es k i b vs
part_block holds es k i place b vs is part m told rows held = part m told (stored_values (length es) i rows) (column_held es k m i place rows is held) ∙ block_values (length es) i b rows

-- a block of one value, repeated
take_repeated : (count n : ℕ) (v : Value) → take count (replicate n v) ≡ replicate (min count n) v
take_repeated count n v = by (le_or_more count n)
  where
    le_or_more : (count n : ℕ) → (count ≤ n) ⊎ (n ≤ count)
    le_or_more count n = grind arith

    by : (count ≤ n) ⊎ (n ≤ count) → take count (replicate n v) ≡ replicate (min count n) v
    by (inl le) = let is : count ≡ min count n = omega arith in take-replicate count n v le ∙ ap (λ (x : ℕ). replicate x v) is
    by (inr more) =
        let is : n ≡ min count n = omega arith in
        let few : length (replicate n v) ≤ count = omega (arith, length-replicate n v) in
        take_all count (replicate n v) few ∙ ap (λ (x : ℕ). replicate x v) is

pub block_repeated : (b n : ℕ) (v : Value) → nth_block b (replicate n v) ≡ replicate (min 1024 (n - 1024 * b)) v
block_repeated b n v = ap (take 1024) (drop-replicate (1024 * b) n v) ∙ take_repeated 1024 (n - 1024 * b) v

-- the values of a column that isn't stored, in the rows of a block
pub default_values : (es : List Written) (k : Container) (m : Contents) (i b : ℕ) (rows : List Asked) → k.stored ≤ i → i < length es → HoldsContainer m es k rows
    → stored_values (length es) i (rows_in b rows) ≡ replicate (min 1024 (k.rows - 1024 * b)) (default_at es i)
default_values es k m i b rows behind lt held =
    stored_column (length es) i (rows_in b rows) lt ∙ sym (mapped (λ (a : Asked). slice_index_or a.row i value.Null) b rows) ∙ ap (nth_block b) (held.defaults i behind lt) ∙ block_repeated b k.rows (default_at es i)

pub default_block : (holds : Option Contents) (es : List Written) (k : Container) (i b : ℕ) (vs : List Value) → place_of (length es) k i ≡ None → i ≤ length es → vs ≡ replicate (min 1024 (k.rows - 1024 * b)) (default_at es i)
    → AreBlock holds es k i b vs
default_block holds es k i b vs none le is m told rows held =
    let not_stored = no_place (length es) k i none in
    let lt : i < length es = below_last (length es) i le not_stored.1 in
    is ∙ sym (default_values es k m i b rows not_stored.0 lt held)

-- the blocks one after the other
pub next_rows : (rows : List Asked) (b : ℕ) → take (1024 * (b + 1)) rows ≡ take (1024 * b) rows ++ rows_in b rows
next_rows rows b = let more : 1024 * (b + 1) ≡ 1024 * b + 1024 = omega arith in ap (λ (n : ℕ). take n rows) more ∙ take-add (1024 * b) 1024 rows

pub all_rows : (rows : List Asked) → take (1024 * blocks (length rows)) rows ≡ rows
all_rows rows = take_all (1024 * blocks (length rows)) rows (omega arith)
