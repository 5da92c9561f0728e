-- The rows of a block, made of its epochs and of the values of its columns.
use Rattle.std.proofs.Common.{◌≡◌, ℕ, ◌+◌, ◌<◌, ◌++◌, List, [], ◌∷◌, length, get_or, map, take, refl, sym, ap, ap₂, ◌∙◌, arith, append_assoc}
use Rattle.std.specs.Prelude.{Option, Some, slice_index_or}
use Rattle.std.proofs.Math.Seq.{get_or-append_seam}
use Rattle.std.proofs.lemmas.List.{length-append, map-append, get_or-map, take_more}
use Rattle.common_laws.specs.Maps.{Contents}
use Rattle.catalog_types.specs.declared.catalogue.Container.{Container}
use Rattle.catalog_types.specs.declared.catalogue.Projection.{Projection}
use Rattle.col_value.specs.Order.{projected}
use Rattle.col_value.specs.declared.row.Asked.{Asked}
use Rattle.col_value.specs.declared.value.Value.{Value}
use Rattle.col_value.specs.declared.value.Value.TheVariants as value
use Rattle.container_blocks.specs.Blocks.{rows_in, AreEpochs}
use Rattle.ros_container.specs.Encodings.{written_of}
use Rattle.ros_container.specs.Held.{HoldsContainer}
use Rattle.ros_container.specs.Rows.{column_values}
use Rattle.row_history.specs.History.{asked_on}
use Rattle.audit_rows.specs.Blocks.{row_at, asked_from, AreColumns}

row_is : (columns : List ℕ) (rows : List Asked) (i : ℕ) (a : Asked) → i < length rows → row_at (map (λ c. column_values c rows) columns) i ≡ projected (get_or rows i a).row columns
row_is [] rows i a lt = refl
row_is (c ∷ columns) rows i a lt =
    ap₂ (λ (v : Value) (vs : List Value). v ∷ vs) (get_or-map (λ (x : Asked). slice_index_or x.row c value.Null) rows i a value.Null lt) (row_is columns rows i a lt)

rest_is : (columns : List ℕ) (rows front rest : List Asked) (i : ℕ) → rows ≡ front ++ rest → length front ≡ i → asked_from i (map (λ a. a.ins) rest) (map (λ c. column_values c rows) columns) ≡ map (asked_on columns) rest
rest_is columns rows front [] i is long = refl
rest_is columns rows front (a ∷ rest) i is long =
    let here : get_or rows i a ≡ a = ap₂ (λ (xs : List Asked) (n : ℕ). get_or xs n a) is (sym long) ∙ get_or-append_seam front a rest a in
    let lt : i < length rows = omega (arith, ap length is, length-append front (a ∷ rest), long) in
    ap₂ (λ (row : List Value) (more : List Asked). (record { row = row; ins = a.ins }) ∷ more) (row_is columns rows i a lt ∙ ap (λ (x : Asked). projected x.row columns) here)
    (rest_is columns rows (front ++ a ∷ []) rest (i + 1) (is ∙ sym (append_assoc front (a ∷ []) rest)) (omega (arith, length-append front (a ∷ []), long)))

pub rows_are : (columns : List ℕ) (rows : List Asked) → asked_from 0 (map (λ a. a.ins) rows) (map (λ c. column_values c rows) columns) ≡ map (asked_on columns) rows
rows_are columns rows = rest_is columns rows [] rows 0 refl refl

pub block_is : (holds mid : Option Contents) (p : Projection) (k : Container) (columns : List ℕ) (b : ℕ) (stamps : List ℕ) (vss : List (List Value)) → mid ≡ holds → AreEpochs holds (written_of p) k b stamps → AreColumns mid (written_of p) k b columns vss
    → (m : Contents) → holds ≡ Some m → (rows : List Asked) → HoldsContainer m (written_of p) k rows → asked_from 0 stamps vss ≡ map (asked_on columns) (rows_in b rows)
block_is holds mid p k columns b stamps vss same times values m told rows holding =
    ap₂ (λ (es : List ℕ) (vs : List (List Value)). asked_from 0 es vs) (times m told rows holding) (values m (same ∙ told) rows holding) ∙ rows_are columns (rows_in b rows)

pub row_more : (columns : List (List Value)) (i j : ℕ) (column : List Value) (row next : List Value) (v : Value) → next ≡ row ++ v ∷ [] → row ≡ row_at (take j columns) i → j < length columns → column ≡ get_or columns j column → v ≡ slice_index_or column i value.Null
    → next ≡ row_at (take (j + 1) columns) i
row_more columns i j column row next v is was lt at same =
    is
    ∙ ap₂ (λ (vs : List Value) (x : Value). vs ++ x ∷ []) was (same ∙ ap (λ (c : List Value). slice_index_or c i value.Null) at)
    ∙ sym (ap (map (λ vs. slice_index_or vs i value.Null)) (take_more columns j column lt) ∙ map-append (λ vs. slice_index_or vs i value.Null) (take j columns) (get_or columns j column ∷ []))
