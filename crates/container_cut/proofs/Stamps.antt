-- Rows with the marks of their places.
use Rattle.std.proofs.Common.{◌≡◌, ℕ, ◌+◌, ◌≤◌, Bool, true, false, cond, List, [], ◌∷◌, ◌++◌, length, length-append, append_assoc, map, filter, Option, Some, None, refl, sym, ap, ap₂, ◌∙◌, arith}
use Rattle.std.specs.Prelude.{nat_le}
use Rattle.std.specs.List.{All}
use Rattle.std.proofs.lemmas.Bool.Decides.{nat_tests}
use Rattle.std.proofs.lemmas.List.Elements.{All-head, All-tail}
use Rattle.col_value.specs.declared.row.Asked.{Asked}
use Rattle.col_value.specs.declared.row.Stamped.{Stamped}
use Rattle.row_history.specs.History.{stamped, cut_delete, cut_row, cut_rows}
use Rattle.del_vector.specs.Marks.{cut_epoch}
use Rattle.stored_rows.specs.Held.{stamped_from}

-- one row more
pub stamps_more : (mark : ℕ → Option ℕ) (out new all : List Stamped) (a : Asked) (before rest : List Asked) → before ≡ a ∷ rest → new ≡ out ++ stamped (mark (length out)) a ∷ []
    → out ++ stamped_from (length out) mark before ≡ all → new ++ stamped_from (length new) mark rest ≡ all
stamps_more mark out new all a before rest before_is new_is told =
    let s = stamped (mark (length out)) a in
    let long : length new ≡ length out + 1 = ap (λ (xs : List Stamped). length xs) new_is ∙ length-append out (s ∷ []) in
    ap₂ (λ (xs : List Stamped) (n : ℕ). xs ++ stamped_from n mark rest) new_is long
    ∙ append_assoc out (s ∷ []) (stamped_from (length out + 1) mark rest)
    ∙ ap (λ (xs : List Asked). out ++ stamped_from (length out) mark xs) (sym before_is) ∙ told

pub epoch_is_delete : (epoch : ℕ) (o : Option ℕ) → cut_epoch epoch o ≡ cut_delete epoch o
epoch_is_delete epoch None = refl
epoch_is_delete epoch (Some e) = refl

-- where all rows are up to an epoch, a cut there is one of their marks
pub cut_stamps : (epoch i : ℕ) (mark other : ℕ → Option ℕ) (rows : List Asked) → All (λ a. a.ins ≤ epoch) rows → ((j : ℕ) → other j ≡ cut_delete epoch (mark j))
    → stamped_from i other rows ≡ cut_rows epoch (stamped_from i mark rows)
cut_stamps epoch i mark other [] all same = refl
cut_stamps epoch i mark other (a ∷ rows) all same =
    by (nat_le a.ins epoch) refl (All-head (λ x. x.ins ≤ epoch) a rows all) (cut_stamps epoch (i + 1) mark other rows (All-tail (λ x. x.ins ≤ epoch) a rows all) same)
  where
    by : (b : Bool) → nat_le a.ins epoch ≡ b → a.ins ≤ epoch → stamped_from (i + 1) other rows ≡ cut_rows epoch (stamped_from (i + 1) mark rows)
        → stamped (other i) a ∷ stamped_from (i + 1) other rows
        ≡ map (cut_row epoch) (cond b (stamped (mark i) a ∷ filter (λ t. nat_le t.ins epoch) (stamped_from (i + 1) mark rows)) (filter (λ t. nat_le t.ins epoch) (stamped_from (i + 1) mark rows)))
    by true is le rest = ap₂ (λ (d : Option ℕ) (ss : List Stamped). stamped d a ∷ ss) (same i) rest
    by false is le rest = absurd (grind (arith, nat_tests))
