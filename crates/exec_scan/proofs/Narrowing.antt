-- Rows that a bound rules out.
use Rattle.std.proofs.Common.{◌≡◌, ℕ, zero, suc, ◌+◌, ◌≤◌, ◌<◌, ◌⊎◌, inl, inr, Bool, true, false, List, [], ◌∷◌, length, set, get_or, refl, sym, ap, ◌∙◌, arith, subst}
use Rattle.std.specs.Prelude.{Option, Some, None, ◌&&◌}
use Rattle.std.specs.List.{Any, slice_get}
use Rattle.std.specs.Option.{IfSome}
use Rattle.std.proofs.lemmas.List.{get_or-set_other, get_or-set_same, get_or_default, length-set}
use Rattle.std.proofs.lemmas.Option.{slice_get-get_or}
use Rattle.col_value.specs.declared.row.Asked.{Asked}
use Rattle.col_value.specs.declared.value.Value.{Value}
use Rattle.col_value.specs.declared.value.Value.TheVariants as value
use Rattle.row_bounds.specs.Bounds.{lies_in, within}
use Rattle.row_bounds.specs.declared.bound.Bound.{Bound}
use Rattle.query_cover.specs.Seen.{placed, value_at}
use Rattle.exec_scan.specs.Batches.{cell}
use Rattle.exec_scan.specs.Reading.{Fills, HaveRows, Narrows, NarrowsBy, RulesOut, Stays}
use Rattle.exec_scan.proofs.Filled.{cell_here, columns_filled, equal_or}
use Rattle.exec_scan.proofs.Passed.{out_of_one, placed_at}

-- ---- row by row

-- rows from place i on are as they were, those before it were tried
pub record StayUpto (bound : Bound) (vs : List Value) (i : ℕ) (old new : List Bool) : Type 0 where
  pub long : length new ≡ length old
  pub done : (j : ℕ) → j < i → j < length old → Stays bound (get_or vs j value.Null) (get_or old j false) (get_or new j false)
  pub rest : (j : ℕ) → i ≤ j → get_or new j false ≡ get_or old j false

-- one row more
pub stay_more : (bound : Bound) (vs : List Value) (i : ℕ) (old now : List Bool) (b : Bool) → i < length now → Stays bound (get_or vs i value.Null) (get_or now i false) b → StayUpto bound vs i old now → StayUpto bound vs (i + 1) old (set now i b)
stay_more bound vs i old now b lt stays upto = record {
  long = length-set now i b ∙ upto.long;
  done = λ j below within. by j below within (equal_or j i);
  rest = λ j from. get_or-set_other now i j b false (λ same. omega (arith, same, from)) ∙ upto.rest j (omega (arith, from));
}
  where
    same_rest : get_or now i false ≡ get_or old i false
    same_rest = upto.rest i (omega arith)

    here : Stays bound (get_or vs i value.Null) (get_or old i false) (get_or (set now i b) i false)
    here = subst (λ (x : Bool). Stays bound (get_or vs i value.Null) x (get_or (set now i b) i false)) same_rest
        (subst (λ (x : Bool). Stays bound (get_or vs i value.Null) (get_or now i false) x) (sym (get_or-set_same now i b false lt)) stays)

    by : (j : ℕ) → j < i + 1 → j < length old → (j ≡ i) ⊎ (j ≡ i → ⊥) → Stays bound (get_or vs j value.Null) (get_or old j false) (get_or (set now i b) j false)
    by j below within (inl same) = subst (λ (n : ℕ). Stays bound (get_or vs n value.Null) (get_or old n false) (get_or (set now i b) n false)) (sym same) here
    by j below within (inr other) =
        subst (λ (x : Bool). Stays bound (get_or vs j value.Null) (get_or old j false) x) (sym (get_or-set_other now i j b false other)) (upto.done j (omega (arith, below, other)) within)

-- ---- by a column

-- a row that was ruled out by what was read of a column
ruled : (bound : Bound) (column : Option (List Value)) (old new : List Bool) → RulesOut bound column old new → (i : ℕ) → get_or old i false ≡ true → get_or new i false ≡ false → lies_in bound (cell i column) ≡ false
ruled bound None old new rules i was gone = let same : get_or new i false ≡ get_or old i false = ap (λ (bs : List Bool). get_or bs i false) rules in absurd (cc)
ruled bound (Some vs) old new rules i was gone = (rules i).gone was gone

none_comes : (bound : Bound) (column : Option (List Value)) (old new : List Bool) → RulesOut bound column old new → (i : ℕ) → get_or new i false ≡ true → get_or old i false ≡ true
none_comes bound None old new rules i on = sym (ap (λ (bs : List Bool). get_or bs i false) rules) ∙ on
none_comes bound (Some vs) old new rules i on = (rules i).only on

and_false : (p : Bool) → p ≡ false → (p && true) ≡ false
and_false true is = absurd (cc)
and_false false is = refl

false_and : (p : Bool) → (p && true) ≡ false → p ≡ false
false_and true is = absurd (cc)
false_and false is = refl

-- rows are narrowed by the column of a bound
pub narrows_one : (bound : Bound) (places : List (Option ℕ)) (read columns : List (Option (List Value))) (column : Option (List Value)) (old new : List Bool) (rows : List Asked)
    → Fills bound.column places read columns rows → column ≡ get_or columns bound.column None → RulesOut bound column old new → NarrowsBy (bound ∷ []) places read columns old new rows
narrows_one bound places read columns column old new rows fills at rules are = record {
  read = columns_filled bound.column places read columns rows fills are;
  narrows = record {
    only = none_comes bound column old new rules;
    gone = λ i was gone. by i (slice_get rows i) (cell_here (get_or places bound.column None) column i rows (at ∙ fills.here are)) (ruled bound column old new rules i was gone);
  };
}
  where
    by : (i : ℕ) (o : Option Asked) → IfSome o (λ a. cell i column ≡ value_at a.row (get_or places bound.column None)) → lies_in bound (cell i column) ≡ false → IfSome o (λ a. within (bound ∷ []) (placed places a.row) ≡ false)
    by i None here out = tt
    by i (Some a) here out = and_false (lies_in bound (get_or (placed places a.row) bound.column value.Null)) (ap (lies_in bound) (placed_at a.row places bound.column ∙ sym here) ∙ out)

narrows_none : (bounds : List Bound) (places : List (Option ℕ)) (alive : List Bool) (rows : List Asked) → Narrows bounds places alive alive rows
narrows_none bounds places alive rows = record { only = λ i on. on; gone = λ i was gone. absurd (cc) }

-- where nothing is read, nothing changes
pub narrowed_none : (bounds : List Bound) (places : List (Option ℕ)) (columns : List (Option (List Value))) (alive : List Bool) (rows : List Asked) → NarrowsBy bounds places columns columns alive alive rows
narrowed_none bounds places columns alive rows are = record { read = are; narrows = narrows_none bounds places alive rows }

-- one bound more
pub narrowed_more : (bounds : List Bound) (n : ℕ) (bound : Bound) (places : List (Option ℕ)) (read mid columns : List (Option (List Value))) (old seen new : List Bool) (rows : List Asked) → n < length bounds → bound ≡ get_or bounds n bound
    → NarrowsBy bounds places read mid old seen rows → NarrowsBy (bound ∷ []) places mid columns seen new rows → NarrowsBy bounds places read columns old new rows
narrowed_more bounds n bound places read mid columns old seen new rows lt at before next are =
    let one = before are in
    let two = next one.read in
    record {
      read = two.read;
      narrows = record {
        only = λ i on. one.narrows.only i (two.narrows.only i on);
        gone = λ i was gone. by i was (get_or seen i false) refl one.narrows two.narrows gone;
      };
    }
  where
    lift : (o : Option Asked) → IfSome o (λ a. within (bound ∷ []) (placed places a.row) ≡ false) → IfSome o (λ a. within bounds (placed places a.row) ≡ false)
    lift None out = tt
    lift (Some a) out =
        out_of_one bounds n bound (placed places a.row) (slice_get-get_or bounds n bound lt ∙ ap (λ (b : Bound). Some b) (sym at))
        (false_and (lies_in bound (get_or (placed places a.row) bound.column value.Null)) out)

    by : (i : ℕ) → get_or old i false ≡ true → (x : Bool) → get_or seen i false ≡ x → Narrows bounds places old seen rows → Narrows (bound ∷ []) places seen new rows → get_or new i false ≡ false → IfSome (slice_get rows i) (λ a. within bounds (placed places a.row) ≡ false)
    by i was true is first second gone = lift (slice_get rows i) (second.gone i is gone)
    by i was false is first second gone = first.gone i was is

-- ---- no row is alive

place_of : (alive : List Bool) (i : ℕ) → get_or alive i false ≡ true → i < length alive
place_of [] i on = absurd (cc)
place_of (b ∷ alive) zero on = omega arith
place_of (b ∷ alive) (suc i) on = let lt = place_of alive i on in omega (arith, lt)

pub no_rows : (places : List (Option ℕ)) (alive : List Bool) (columns : List (Option (List Value))) (rows : List Asked) → (Any (λ a. a ≡ true) alive → ⊥) → HaveRows places alive columns rows
no_rows places alive columns rows none i on = let lt = place_of alive i on in absurd (none (i, true, lt, get_or_default alive i true false lt ∙ on, refl))
