-- A container that was read by its columns.
use Rattle.std.proofs.Common.{◌≡◌, ℕ, Bool, true, false, ltb, ◌+◌, ◌-◌, ◌<◌, ◌≤◌, List, [], ◌∷◌, ◌++◌, length, map, get_or, refl, sym, ap, ap₂, replicate, subst, ◌∙◌, arith}
use Rattle.std.specs.Prelude.{Option, Some, Result, Ok, Err, IfErr, Vec, pos}
use Rattle.std.specs.declared.alloc.Global.{Global}
use Rattle.std.specs.List.{All}
use Rattle.std.proofs.Math.Seq.{get_or-append_seam}
use Rattle.std.proofs.lemmas.Bool.{ltb-true, ltb-false}
use Rattle.std.proofs.lemmas.List.{length-append, get_or_append_left, replicate-append-replicate}
use Rattle.catalog_types.specs.declared.catalogue.Container.{Container}
use Rattle.col_value.specs.declared.row.Asked.{Asked}
use Rattle.common_laws.specs.Maps.{Contents}
use Rattle.col_disk.specs.declared.disk.StoreFault.{StoreFault}
use Rattle.col_file.specs.Column.{IsFile}
use Rattle.col_file.specs.Read.{Blames}
use Rattle.col_file.specs.Held.{HoldsNoBlocks, HoldsColumn, BlamesColumn}
use Rattle.col_file.proofs.OneColumn.{body_blamed as values_blamed}
use Rattle.col_value.specs.declared.kinds.Encoding.{Encoding}
use Rattle.col_value.specs.declared.kinds.Encoding.TheVariants.{Auto}
use Rattle.col_value.specs.declared.value.Value.{Value}
use Rattle.col_value.specs.declared.value.Value.TheVariants as value
use Rattle.pos_index.specs.declared.index.PosIndex.{PosIndex}
use Rattle.pos_index.specs.Index.{index_spelling, IsIndex, Fits}
use Rattle.ros_container.specs.Encodings.{Written, encoding_at}
use Rattle.ros_container.specs.Files.{body_of, index_of}
use Rattle.ros_container.specs.Held.{BlamesContainer}
use Rattle.ros_container.specs.Parts.{HasValues}
use Rattle.ros_container.specs.Rows.{AreWide, IsWithin}
use Rattle.ros_container.proofs.Blames.{blames_read as values_read, blames_read_last as epochs_read}
use Rattle.container_draft.specs.Lanes.{rows_by, HasEach, HoldsOn}
use Rattle.container_draft.proofs.ByLanes.{column_by, epochs_by, wide_by, within_by}

-- ---- the file to blame, whatever was to be made

pub body_blamed : {X : Type 0} (encoding : Encoding) (body index rows : ℕ) (holds now : Option Contents) (at : PosIndex) (r : Result X StoreFault) → at.rows ≡ rows → IsIndex at → Fits at → IsFile index (index_spelling at) holds → now ≡ holds
    → IfErr r (Blames body (HoldsNoBlocks encoding body at now)) → IfErr r (BlamesColumn encoding body index rows holds)
body_blamed encoding body index rows holds now at (Ok v) so_many is fit there same given = tt
body_blamed encoding body index rows holds now at (Err fault) so_many is fit there same given = values_blamed encoding body index rows holds now at (Err fault) so_many is fit there same given

pub blames_read : {X : Type 0} (written : List Written) (i : ℕ) (k : Container) (holds : Option Contents) (e : Encoding) (body index : ℕ) (result : Result X StoreFault) → i < k.stored → e ≡ encoding_at written i → body ≡ body_of k.base i → index ≡ index_of k.base i
    → IfErr result (BlamesColumn e body index k.rows holds) → IfErr result (BlamesContainer written k holds)
blames_read written i k holds e body index (Ok v) lt is_e is_body is_index blamed = tt
blames_read written i k holds e body index (Err fault) lt is_e is_body is_index blamed = values_read written i k holds e body index (Err fault) lt is_e is_body is_index blamed

pub blames_read_last : {X : Type 0} (written : List Written) (k : Container) (holds : Option Contents) (body index : ℕ) (result : Result X StoreFault) → body ≡ body_of k.base k.stored → index ≡ index_of k.base k.stored
    → IfErr result (BlamesColumn Auto body index k.rows holds) → IfErr result (BlamesContainer written k holds)
blames_read_last written k holds body index (Ok v) is_body is_index blamed = tt
blames_read_last written k holds body index (Err fault) is_body is_index blamed = epochs_read written k holds body index (Err fault) is_body is_index blamed

-- ---- the columns and the epochs

pub lanes_held : (m : Contents) (written : List Written) (k : Container) (via : List ℕ) (columns : List (List Value)) (epochs : List ℕ) → length columns ≡ length via → length epochs ≡ k.rows → All (λ vs. length vs ≡ k.rows) columns
    → HasEach m written k via columns → HoldsColumn Auto (body_of k.base k.stored) (index_of k.base k.stored) k.rows m (map (λ e. value.Int (pos e)) epochs) → All (IsWithin k) epochs → HoldsOn m written k via (rows_by columns epochs)
lanes_held m written k via columns epochs many long all each held within = record {
  each = λ i lt.
      let there : i < length columns = omega (arith, lt, many) in
      subst (HasValues m written k (get_or via i 0)) (sym (column_by columns epochs i there (all i [] there ∙ sym long))) (each i there);
  epochs = subst (HoldsColumn Auto (body_of k.base k.stored) (index_of k.base k.stored) k.rows m) (sym (epochs_by columns epochs)) held;
  wide = subst (λ (n : ℕ). AreWide n (rows_by columns epochs)) many (wide_by columns epochs);
  within = within_by k columns epochs within;
}

pub lanes_wide : (via : List ℕ) (columns : List (List Value)) (epochs : List ℕ) (rows : List Asked) → length columns ≡ length via → rows ≡ rows_by columns epochs → AreWide (length via) rows
lanes_wide via columns epochs rows many is = subst (AreWide (length via)) (sym is) (subst (λ (n : ℕ). AreWide n (rows_by columns epochs)) many (wide_by columns epochs))

-- one column more
pub each_more : (m : Contents) (written : List Written) (k : Container) (via : List ℕ) (columns next : List (List Value)) (i : ℕ) (vs : List Value) → next ≡ columns ++ vs ∷ [] → length columns ≡ i → HasValues m written k (get_or via i 0) vs → HasEach m written k via columns
    → HasEach m written k via next
each_more m written k via columns next i vs is many here each j lt =
    let long : length next ≡ length columns + 1 = ap length is ∙ length-append columns (vs ∷ []) in
    subst (HasValues m written k (get_or via j 0)) (sym (ap (λ (xss : List (List Value)). get_or xss j []) is)) (at (ltb j (length columns)) refl (omega (arith, lt, long)))
  where
    at : (b : Bool) → ltb j (length columns) ≡ b → j < length columns + 1 → HasValues m written k (get_or via j 0) (get_or (columns ++ vs ∷ []) j [])
    at true below lt =
        let le = ltb-true j (length columns) below in
        subst (HasValues m written k (get_or via j 0)) (sym (get_or_append_left columns (vs ∷ []) [] j le)) (each j le)
    at false past lt =
        let ge = ltb-false j (length columns) past in
        let same : j ≡ length columns = omega (arith, ge, lt) in
        let last : get_or (columns ++ vs ∷ []) j [] ≡ vs = ap (λ n. get_or (columns ++ vs ∷ []) n []) same ∙ get_or-append_seam columns vs [] [] in
        subst (HasValues m written k (get_or via j 0)) (sym last) (subst (λ n. HasValues m written k (get_or via n 0) vs) (sym (same ∙ many)) here)

-- a constant column goes on
pub constant_more : (v : Value) (count left some : ℕ) (old block new : List Value) → some ≤ left → left ≤ count → old ≡ replicate (count - left) v → block ≡ replicate some v → new ≡ old ++ block → new ≡ replicate (count - (left - some)) v
constant_more v count left some old block new few most was is next =
    let many : (count - left) + some ≡ count - (left - some) = omega (arith, few, most) in
    next ∙ ap₂ (λ (xs ys : List Value). xs ++ ys) was is ∙ replicate-append-replicate (count - left) some v ∙ ap (λ n. replicate n v) many
