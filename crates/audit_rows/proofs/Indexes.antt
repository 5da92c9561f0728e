-- Indexes and columns, one after the other.
use Rattle.std.proofs.Common.{◌≡◌, ℕ, ◌+◌, ◌≤◌, ◌<◌, ◌++◌, Bool, true, false, List, [], ◌∷◌, length, get_or, map, take, nat_lt, refl, sym, ap, ap₂, ◌∙◌, subst, arith}
use Rattle.std.specs.Prelude.{Option, Some, min, ◌-◌, ◌*◌, ◌^◌}
use Rattle.std.proofs.Math.ListN.{get_or-append}
use Rattle.std.proofs.Math.Seq.{get_or-append_seam}
use Rattle.std.proofs.lemmas.Bool.Decides.{nat_tests}
use Rattle.std.proofs.lemmas.List.{length-append, length-map, map-append, take_more}
use Rattle.common_laws.specs.Maps.{Contents}
use Rattle.catalog_types.specs.declared.catalogue.Container.{Container}
use Rattle.col_value.specs.declared.value.Value.{Value}
use Rattle.catalog_types.specs.declared.catalogue.Projection.{Projection}
use Rattle.std.specs.List.{All}
use Rattle.container_blocks.specs.Blocks.{rows_in, AreBlock, HasIndex, IsIndexOf}
use Rattle.pos_index.specs.Index.{blocks}
use Rattle.pos_index.specs.declared.index.PosIndex.{PosIndex}
use Rattle.ros_container.specs.Encodings.{Written, written_as, written_of}
use Rattle.ros_container.specs.Rows.{column_values}
use Rattle.ros_container.proofs.Stored.{stored_column}
use Rattle.stored_rows.specs.Held.{HoldsVector}
use Rattle.audit_rows.specs.Blocks.{HasIndexes, IsOf, AreColumns}
use Rattle.audit_rows.specs.declared.blocks.Opened.{Opened}

pub indexes_none : (es : List Written) (k : Container) (columns : List ℕ) (holds : Option Contents) (ats : List PosIndex) → ats ≡ [] → HasIndexes es k columns holds ats
indexes_none es k columns holds ats is = subst (HasIndexes es k columns holds) (sym is) (λ i d lt. absurd (omega (arith, lt)))

indexes_push : (es : List Written) (k : Container) (columns : List ℕ) (holds : Option Contents) (ats : List PosIndex) (at : PosIndex)
    → HasIndexes es k columns holds ats → HasIndex es k (get_or columns (length ats) 0) at holds → HasIndexes es k columns holds (ats ++ at ∷ [])
indexes_push es k columns holds ats at was one i d lt = by (nat_lt i (length ats)) refl
  where
    by : (b : Bool) → nat_lt i (length ats) ≡ b → HasIndex es k (get_or columns i 0) (get_or (ats ++ at ∷ []) i d) holds
    by true e =
        let less : i < length ats = grind (arith, nat_tests) in
        subst (λ (x : PosIndex). HasIndex es k (get_or columns i 0) x holds) (sym (get_or-append ats (at ∷ []) d i less)) (was i d less)
    by false e =
        let past : length ats ≤ i = grind (arith, nat_tests) in
        let is : length ats ≡ i = omega (arith, past, lt, length-append ats (at ∷ [])) in
        subst (λ (n : ℕ). HasIndex es k (get_or columns n 0) (get_or (ats ++ at ∷ []) n d) holds) is
        (subst (λ (x : PosIndex). HasIndex es k (get_or columns (length ats) 0) x holds) (sym (get_or-append_seam ats at [] d)) one)

pub indexes_more : (es : List Written) (k : Container) (columns : List ℕ) (now found : Option Contents) (i : ℕ) (ats next : List PosIndex) (at : PosIndex) → now ≡ found → length ats ≡ i → next ≡ ats ++ at ∷ []
    → HasIndexes es k columns found ats → HasIndex es k (get_or columns i 0) at now → HasIndexes es k columns found next
indexes_more es k columns now found i ats next at same long is was one =
    subst (HasIndexes es k columns found) (sym is)
    (indexes_push es k columns found ats at was
    (subst (λ (h : Option Contents). HasIndex es k (get_or columns (length ats) 0) at h) same (subst (λ (n : ℕ). HasIndex es k (get_or columns n 0) at now) (sym long) one)))

pub columns_none : (es : List Written) (k : Container) (holds : Option Contents) (b : ℕ) (vss : List (List Value)) → vss ≡ [] → AreColumns holds es k b [] vss
columns_none es k holds b vss is m told rows holding = is

pub columns_more : (es : List Written) (k : Container) (now found : Option Contents) (b : ℕ) (columns : List ℕ) (i : ℕ) (vss next : List (List Value)) (vs : List Value) → now ≡ found → i < length columns → get_or columns i 0 < length es
    → next ≡ vss ++ vs ∷ [] → AreColumns found es k b (take i columns) vss → AreBlock now es k (get_or columns i 0) b vs → AreColumns found es k b (take (i + 1) columns) next
columns_more es k now found b columns i vss next vs same lt own is was one m told rows holding =
    is
    ∙ ap₂ (λ (xs : List (List Value)) (x : List Value). xs ++ x ∷ []) (was m told rows holding) (one m (same ∙ told) rows holding ∙ stored_column (length es) (get_or columns i 0) (rows_in b rows) own)
    ∙ sym (ap (map (λ c. column_values c (rows_in b rows))) (take_more columns i 0 lt) ∙ map-append (λ c. column_values c (rows_in b rows)) (take i columns) (get_or columns i 0 ∷ []))

pub indexes_seen : (es : List Written) (k : Container) (columns : List ℕ) (now found : Option Contents) (ats seen : List PosIndex) → now ≡ found → seen ≡ ats → HasIndexes es k columns found ats → HasIndexes es k columns now seen
indexes_seen es k columns now found ats seen same is all = subst (HasIndexes es k columns now) (sym is) (subst (λ (h : Option Contents). HasIndexes es k columns h ats) (sym same) all)

pub index_here : (es : List Written) (k : Container) (columns : List ℕ) (now found : Option Contents) (ats : List PosIndex) (i : ℕ) (at : PosIndex) → now ≡ found → HasIndexes es k columns found ats → i < length ats → at ≡ get_or ats i at
    → HasIndex es k (get_or columns i 0) at now
index_here es k columns now found ats i at same all lt is =
    subst (λ (h : Option Contents). HasIndex es k (get_or columns i 0) at h) (sym same) (subst (λ (x : PosIndex). HasIndex es k (get_or columns i 0) x found) (sym is) (all i at lt))

pub is_of : (holds mid later : Option Contents) (p : Projection) (k : Container) (columns : List ℕ) (o : Opened) (n : ℕ) → mid ≡ holds → later ≡ holds → n ≡ length p.columns → ((m : Contents) → holds ≡ Some m → HoldsVector m k o.vector.marks)
    → HasIndexes (written_of p) k columns mid o.indexes.items → HasIndex (written_of p) k n o.stamps later → IsOf holds p k columns o
is_of holds mid later p k columns o n one two behind vector each stamps = record {
  vector = vector;
  each = subst (λ (h : Option Contents). HasIndexes (written_of p) k columns h o.indexes.items) one each;
  stamps = subst (λ (h : Option Contents). HasIndex (written_of p) k (length p.columns) o.stamps h) two (subst (λ (i : ℕ). HasIndex (written_of p) k i o.stamps later) behind stamps);
}

pub of_same : (now found : Option Contents) (p : Projection) (k : Container) (columns : List ℕ) (o : Opened) → now ≡ found → IsOf found p k columns o → IsOf now p k columns o
of_same now found p k columns o same of = subst (λ (h : Option Contents). IsOf h p k columns o) (sym same) of

pub own_column : (p : Projection) (columns : List ℕ) (i : ℕ) → All (λ c. c < length p.columns) columns → i < length columns → get_or columns i 0 < length (written_of p)
own_column p columns i all lt = let own = all i 0 lt in omega (arith, own, length-map p.columns written_as)

-- the numbers of a block's rows fit into 64 bits, since the index tells how many rows there are
pub room : (k : Container) (at : PosIndex) (b n : ℕ) → IsIndexOf k.rows at → b < blocks k.rows → n ≡ min 1024 (k.rows - 1024 * b) → 1024 * b + n < 2 ^ 64
room k at b n is lt long = omega (arith, is.fits.rows, is.of_rows, lt, long)
