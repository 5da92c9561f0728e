-- A container whose files are their spelling holds rows.
use Rattle.std.proofs.Common.{◌≡◌, ◌≤◌, ◌<◌, ℕ, zero, suc, List, [], ◌∷◌, length, refl, sym, ap, ap₂, ◌∙◌, arith, subst}
use Rattle.std.specs.Prelude.{pos, slice_index_or, replicate, Bool, true, false, nat_lt, Option, Some, None}
use Rattle.std.specs.List.{All, flat_map, range_with_len}
use Rattle.std.proofs.lemmas.Bool.Decides.{nat_tests}
use Rattle.std.proofs.lemmas.List.{length-map}
use Rattle.std.proofs.lemmas.List.Elements.{All-nil, All-cons, All-head, All-tail, All-append}
use Rattle.std.proofs.lemmas.List.FromFn.{length-range_with_len, get_or-range_with_len}
use Rattle.common_laws.specs.Maps.{Contents}
use Rattle.catalog_types.specs.declared.catalogue.Container.{Container}
use Rattle.catalog_types.specs.declared.catalogue.Projection.{Projection}
use Rattle.col_file.specs.Held.{HoldsColumn, IsIndexFile}
use Rattle.col_value.specs.declared.kinds.Encoding.{Encoding}
use Rattle.col_value.specs.declared.kinds.Encoding.TheVariants.{Auto}
use Rattle.col_value.specs.declared.row.Asked.{Asked}
use Rattle.col_value.specs.declared.row.Stamped.{Stamped}
use Rattle.col_value.specs.declared.value.Value.{Value}
use Rattle.col_value.specs.declared.value.Value.TheVariants as value
use Rattle.del_vector.specs.declared.mark.Mark.{Mark}
use Rattle.del_vector.specs.Marks.{epoch_at}
use Rattle.ros_container.specs.Encodings.{Written, encoding_at, default_at, written_as, written_of}
use Rattle.ros_container.specs.Files.{body_of, index_of}
use Rattle.ros_container.specs.Held.{HoldsContainer}
use Rattle.ros_container.specs.Parts.{HasValues, with_values}
use Rattle.ros_container.specs.Rows.{column_values, epoch_values, AreWide, AreWithin, IsWithin, IsEpochOf}
use Rattle.ros_container.proofs.Columns.{with_epochs, with_within, with_wide, with_before, with_here}
use Rattle.ros_container.proofs.Long.{column_long}
use Rattle.stored_rows.specs.Held.{HoldsVectorAt, stamped_from}
use Rattle.audit_model.specs.Listed.{Part, IsPart, column_parts, parts, vector_parts}
use Rattle.audit_model.specs.Rows.{HoldsHere}
use Rattle.audit_model.proofs.Lists.{all_left, all_right, all_parts, all_flat}

-- ---- rows without values, of epochs that are the container's

pub record Blank (k : Container) (vs : List Value) : Type 0 where
  pub rows : List Asked
  pub epochs : epoch_values rows ≡ vs
  pub wide : AreWide 0 rows
  pub within : AreWithin k rows

blank : (k : Container) (vs : List Value) → All (IsEpochOf k) vs → Blank k vs
blank k [] all = record { rows = []; epochs = refl; wide = All-nil (λ a. length a.row ≡ 0); within = All-nil (λ a. IsWithin k a.ins) }
blank k (v ∷ vs) all = by (All-head (IsEpochOf k) v vs all) (blank k vs (All-tail (IsEpochOf k) v vs all))
  where
    by : IsEpochOf k v → Blank k vs → Blank k (v ∷ vs)
    by (epoch, is, within) rest =
        let a : Asked = record { row = []; ins = epoch } in
        record {
          rows = a ∷ rest.rows;
          epochs = ap₂ (λ (w : Value) (ws : List Value). w ∷ ws) (sym is) rest.epochs;
          wide = All-cons (λ b. length b.row ≡ 0) a rest.rows refl rest.wide;
          within = All-cons (λ b. IsWithin k b.ins) a rest.rows within rest.within;
        }

-- ---- one column after the other

-- the columns below j are made
pub record Made (m : Contents) (written : List Written) (k : Container) (j : ℕ) : Type 0 where
  pub rows : List Asked
  pub each : (i : ℕ) → i < j → HasValues m written k i (column_values i rows)
  pub epochs : HoldsColumn Auto (body_of k.base k.stored) (index_of k.base k.stored) k.rows m (epoch_values rows)
  pub wide : AreWide j rows
  pub within : AreWithin k rows

abbrev Stored : Contents → List Written → Container → ℕ → Type 0
Stored m written k i = (vs : List Value) × HoldsColumn (encoding_at written i) (body_of k.base i) (index_of k.base i) k.rows m vs

replicated : {X : Type 0} (n : ℕ) (x : X) → length (replicate n x) ≡ n
replicated zero x = refl
replicated (suc n) x = ap suc (replicated n x)

-- the values of a column, and that there are as many as rows
values_at : (m : Contents) (written : List Written) (k : Container) (i : ℕ) → ((i : ℕ) → i < k.stored → Stored m written k i) → (vs : List Value) × HasValues m written k i vs × (length vs ≡ k.rows)
values_at m written k i stored = by (nat_lt i k.stored) refl
  where
    by : (b : Bool) → nat_lt i k.stored ≡ b → (vs : List Value) × HasValues m written k i vs × (length vs ≡ k.rows)
    by true is =
        let lt : i < k.stored = grind (arith, nat_tests) in
        let one = stored i lt in
        (one.0, record { stored = λ _. one.1; default = λ le. absurd (omega (arith, lt, le)) }, column_long (encoding_at written i) (body_of k.base i) (index_of k.base i) k.rows m one.0 one.1)
    by false is =
        let le : k.stored ≤ i = grind (arith, nat_tests) in
        (replicate k.rows (default_at written i), record { stored = λ lt. absurd (omega (arith, lt, le)); default = λ _. refl }, replicated k.rows (default_at written i))

epochs_long : (m : Contents) (k : Container) (rows : List Asked) → HoldsColumn Auto (body_of k.base k.stored) (index_of k.base k.stored) k.rows m (epoch_values rows) → length rows ≡ k.rows
epochs_long m k rows held = sym (length-map rows (λ (a : Asked). value.Int (pos a.ins))) ∙ column_long Auto (body_of k.base k.stored) (index_of k.base k.stored) k.rows m (epoch_values rows) held

made : (m : Contents) (written : List Written) (k : Container) (j : ℕ) → ((i : ℕ) → i < k.stored → Stored m written k i)
    → (vs : List Value) → HoldsColumn Auto (body_of k.base k.stored) (index_of k.base k.stored) k.rows m vs → All (IsEpochOf k) vs → Made m written k j
made m written k zero stored vs held all =
    let b = blank k vs all in
    record {
      rows = b.rows;
      each = λ i lt. absurd (omega (arith, lt));
      epochs = subst (HoldsColumn Auto (body_of k.base k.stored) (index_of k.base k.stored) k.rows m) (sym b.epochs) held;
      wide = b.wide;
      within = b.within;
    }
made m written k (suc j) stored vs held all =
    let before = made m written k j stored vs held all in
    let here = values_at m written k j stored in
    let long : length before.rows ≡ length here.0 = epochs_long m k before.rows before.epochs ∙ sym here.2 in
    record {
      rows = with_values before.rows here.0;
      each = λ i lt. at before here.0 here.1 long i lt (nat_lt i j) refl;
      epochs = subst (HoldsColumn Auto (body_of k.base k.stored) (index_of k.base k.stored) k.rows m) (sym (with_epochs before.rows here.0 long)) before.epochs;
      wide = subst (λ (n : ℕ). AreWide n (with_values before.rows here.0)) (omega arith) (with_wide j before.rows here.0 long before.wide);
      within = with_within k before.rows here.0 long before.within;
    }
  where
    at : (before : Made m written k j) (ws : List Value) → HasValues m written k j ws → length before.rows ≡ length ws → (i : ℕ) → i < suc j → (b : Bool) → nat_lt i j ≡ b
        → HasValues m written k i (column_values i (with_values before.rows ws))
    at before ws has long i lt true is =
        let below : i < j = grind (arith, nat_tests) in
        subst (HasValues m written k i) (sym (with_before j i before.rows ws below long before.wide)) (before.each i below)
    at before ws has long i lt false is =
        let same : j ≡ i = grind (arith, nat_tests) in
        subst (λ (n : ℕ). HasValues m written k n (column_values n (with_values before.rows ws))) same
        (subst (HasValues m written k j) (sym (with_here j before.rows ws long before.wide)) has)

held_by : (m : Contents) (written : List Written) (k : Container) → k.stored ≤ length written → Made m written k (length written) → (rows : List Asked) × HoldsContainer m written k rows
held_by m written k most made = (
  made.rows,
  record {
    each = λ i lt. (made.each i (omega (arith, lt, most))).stored lt;
    defaults = λ i le lt. (made.each i lt).default le;
    epochs = made.epochs;
    wide = made.wide;
    within = made.within;
  },
)

-- ---- by the parts

column_at : (m : Contents) (p : Projection) (k : Container) → All (λ i. All (IsPart m p k) (column_parts i)) (range_with_len 0 k.stored) → (i : ℕ) → i < k.stored → Stored m (written_of p) k i
column_at m p k all i lt =
    let long : i < length (range_with_len 0 k.stored) = omega (arith, lt, length-range_with_len 0 k.stored) in
    let is : slice_index_or (range_with_len 0 k.stored) i i ≡ i = get_or-range_with_len 0 k.stored i i lt ∙ omega arith in
    let here : All (IsPart m p k) (column_parts i) = subst (λ (n : ℕ). All (IsPart m p k) (column_parts n)) is (all i i long) in
    All-head (IsPart m p k) (Part.Body i) [] (All-tail (IsPart m p k) (Part.Index i) (Part.Body i ∷ []) here)

vector_at : (m : Contents) (p : Projection) (k : Container) (o : Option ℕ) → All (IsPart m p k) (vector_parts o) → (marks : List Mark) × HoldsVectorAt m k o marks
vector_at m p k None all = ([], refl)
vector_at m p k (Some n) all = All-head (IsPart m p k) (Part.Vector n) [] all

pub here_held : (m : Contents) (p : Projection) (k : Container) → k.stored ≤ length p.columns → All (IsPart m p k) (parts k) → (rows : List Stamped) × HoldsHere m p k rows
here_held m p k most all =
    let columns = all_parts (IsPart m p k) column_parts (range_with_len 0 k.stored) (all_left (IsPart m p k) (flat_map column_parts (range_with_len 0 k.stored)) (Part.EpochIndex ∷ Part.EpochBody ∷ vector_parts k.marks) all) in
    let rest = all_right (IsPart m p k) (flat_map column_parts (range_with_len 0 k.stored)) (Part.EpochIndex ∷ Part.EpochBody ∷ vector_parts k.marks) all in
    let behind = All-tail (IsPart m p k) Part.EpochIndex (Part.EpochBody ∷ vector_parts k.marks) rest in
    let epochs = All-head (IsPart m p k) Part.EpochBody (vector_parts k.marks) behind in
    let vector = vector_at m p k k.marks (All-tail (IsPart m p k) Part.EpochBody (vector_parts k.marks) behind) in
    let wide : k.stored ≤ length (written_of p) = omega (arith, most, length-map p.columns written_as) in
    let rows = held_by m (written_of p) k wide (made m (written_of p) k (length (written_of p)) (column_at m p k columns) epochs.0 epochs.1 epochs.2) in
    (stamped_from 0 (epoch_at vector.0) rows.0, (vector.0, vector.1, (rows.0, rows.1, refl)))

-- ---- the other way: files that hold rows are their spelling

pub index_there : (encoding : Encoding) (body index rows : ℕ) (m : Contents) (vs : List Value) → HoldsColumn encoding body index rows m vs → IsIndexFile index rows m
index_there encoding body index rows m vs held = (held.at, held.is_index, held.fits, held.of_rows, held.index_file)

epochs_are : (k : Container) (rows : List Asked) → AreWithin k rows → All (IsEpochOf k) (epoch_values rows)
epochs_are k [] all = All-nil (IsEpochOf k)
epochs_are k (a ∷ rows) all =
    All-cons (IsEpochOf k) (value.Int (pos a.ins)) (epoch_values rows) (a.ins, refl, All-head (λ b. IsWithin k b.ins) a rows all)
    (epochs_are k rows (All-tail (λ b. IsWithin k b.ins) a rows all))

vector_there : (m : Contents) (p : Projection) (k : Container) (o : Option ℕ) (marks : List Mark) → HoldsVectorAt m k o marks → All (IsPart m p k) (vector_parts o)
vector_there m p k None marks held = All-nil (IsPart m p k)
vector_there m p k (Some n) marks held = All-cons (IsPart m p k) (Part.Vector n) [] (marks, held) (All-nil (IsPart m p k))

columns_there : (m : Contents) (p : Projection) (k : Container) (rows : List Asked) → HoldsContainer m (written_of p) k rows → All (λ i. All (IsPart m p k) (column_parts i)) (range_with_len 0 k.stored)
columns_there m p k rows held = λ j d long.
    let lt : j < k.stored = omega (arith, long, length-range_with_len 0 k.stored) in
    let is : slice_index_or (range_with_len 0 k.stored) j d ≡ j = get_or-range_with_len 0 k.stored j d lt ∙ omega arith in
    subst (λ (n : ℕ). All (IsPart m p k) (column_parts n)) (sym is)
    (All-cons (IsPart m p k) (Part.Index j) (Part.Body j ∷ []) (index_there (encoding_at (written_of p) j) (body_of k.base j) (index_of k.base j) k.rows m (column_values j rows) (held.each j lt))
    (All-cons (IsPart m p k) (Part.Body j) [] (column_values j rows, held.each j lt) (All-nil (IsPart m p k))))

pub parts_there : (m : Contents) (p : Projection) (k : Container) (rows : List Stamped) → HoldsHere m p k rows → All (IsPart m p k) (parts k)
parts_there m p k rows (marks, vector, (asked, held, is)) =
    All-append (IsPart m p k) (flat_map column_parts (range_with_len 0 k.stored)) (Part.EpochIndex ∷ Part.EpochBody ∷ vector_parts k.marks)
    (all_flat (IsPart m p k) column_parts (range_with_len 0 k.stored) (columns_there m p k asked held))
    (All-cons (IsPart m p k) Part.EpochIndex (Part.EpochBody ∷ vector_parts k.marks) (index_there Auto (body_of k.base k.stored) (index_of k.base k.stored) k.rows m (epoch_values asked) held.epochs)
    (All-cons (IsPart m p k) Part.EpochBody (vector_parts k.marks) (epoch_values asked, held.epochs, epochs_are k asked held.within) (vector_there m p k k.marks marks vector)))
