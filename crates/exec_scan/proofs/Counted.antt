-- How many blocks of a container's columns are read for one of its blocks.
use Rattle.std.proofs.Common.{◌≡◌, false, ℕ, zero, suc, ◌+◌, ◌≤◌, ◌<◌, List, [], ◌∷◌, length, replicate, set, get_or, refl, sym, ap, ◌∙◌, arith}
use Rattle.std.specs.Prelude.{Option, Some, None, IfNone, is_some, sum_by}
use Rattle.std.proofs.lemmas.List.{get_or_default}
use Rattle.std.proofs.lemmas.List.Sums.{sum_by-cons}
use Rattle.catalog_types.specs.declared.catalogue.Container.{Container}
use Rattle.col_value.specs.declared.value.Value.{Value}
use Rattle.exec_scan.specs.Counting.{column_cost, cost_unread}

-- where no column is read
pub cost_of_none : (n : ℕ) (k : Container) (ps : List (Option ℕ)) (count : ℕ) → cost_unread n k ps (replicate count None) ≡ sum_by (column_cost n k) ps
cost_of_none n k [] count = refl
cost_of_none n k (p ∷ ps) zero = ap (λ (r : ℕ). column_cost n k p + r) (cost_of_none n k ps zero) ∙ sym (sum_by-cons (column_cost n k) p ps)
cost_of_none n k (p ∷ ps) (suc count) = ap (λ (r : ℕ). column_cost n k p + r) (cost_of_none n k ps count) ∙ sym (sum_by-cons (column_cost n k) p ps)

nothing : (o : Option (List Value)) → false ≡ is_some o → o ≡ None
nothing None is = refl
nothing (Some vs) is = absurd (cc)

pub none_at : (read : List (Option (List Value))) (c : ℕ) (d : Option (List Value)) → c < length read → false ≡ is_some (get_or read c d) → get_or read c None ≡ None
none_at read c d lt is = sym (get_or_default read c d None lt) ∙ nothing (get_or read c d) is

-- a column that isn't read is one of them
pub unread_one : (n : ℕ) (k : Container) (ps : List (Option ℕ)) (read : List (Option (List Value))) (c : ℕ) → c < length read → get_or read c None ≡ None → column_cost n k (get_or ps c None) ≤ cost_unread n k ps read
unread_one n k [] read c lt none = omega arith
unread_one n k (p ∷ ps) [] c lt none = absurd (omega (arith, lt))
unread_one n k (p ∷ ps) (None ∷ read) zero lt none = omega arith
unread_one n k (p ∷ ps) (Some vs ∷ read) zero lt none = absurd (cc)
unread_one n k (p ∷ ps) (None ∷ read) (suc c) lt none = omega (arith, unread_one n k ps read c (omega (arith, lt)) none)
unread_one n k (p ∷ ps) (Some vs ∷ read) (suc c) lt none = unread_one n k ps read c (omega (arith, lt)) none

-- once it is read it isn't any more
pub unread_less : (n : ℕ) (k : Container) (ps : List (Option ℕ)) (read : List (Option (List Value))) (c : ℕ) (o : Option (List Value)) (s t : ℕ) → c < length read → get_or read c None ≡ None
    → t ≤ s + column_cost n k (get_or ps c None) → IfNone o (t ≡ s) → t + cost_unread n k ps (set read c o) ≤ s + cost_unread n k ps read
unread_less n k [] read c o s t lt none le same = omega (arith, le)
unread_less n k (p ∷ ps) [] c o s t lt none le same = absurd (omega (arith, lt))
unread_less n k (p ∷ ps) (None ∷ read) zero None s t lt none le same = omega (arith, same)
unread_less n k (p ∷ ps) (None ∷ read) zero (Some vs) s t lt none le same = omega (arith, le)
unread_less n k (p ∷ ps) (Some vs ∷ read) zero o s t lt none le same = absurd (cc)
unread_less n k (p ∷ ps) (None ∷ read) (suc c) o s t lt none le same = omega (arith, unread_less n k ps read c o s t (omega (arith, lt)) none le same)
unread_less n k (p ∷ ps) (Some vs ∷ read) (suc c) o s t lt none le same = unread_less n k ps read c o s t (omega (arith, lt)) none le same
