-- Rows up to an epoch, which a cut there leaves as they are.
use Rattle.std.proofs.Common.{◌≡◌, ℕ, Bool, true, false, cond, List, [], ◌∷◌, map, filter, Option, Some, None, refl, ap, ap₂, arith}
use Rattle.std.specs.Prelude.{nat_le}
use Rattle.std.specs.List.{All}
use Rattle.std.proofs.lemmas.Bool.Decides.{nat_tests}
use Rattle.std.proofs.lemmas.List.Elements.{All-head, All-tail, All-cons, All-nil}
use Rattle.col_value.specs.declared.value.Value.{Value}
use Rattle.col_value.specs.declared.row.Stamped.{Stamped}
use Rattle.row_history.specs.History.{cut_delete, cut_row, cut_rows}
use Rattle.stored_rows.specs.Early.{IsUpTo}

abbrev make : List Value → ℕ → Option ℕ → Stamped
make row ins del = record { row = row; ins = ins; del = del }

row_same : (epoch : ℕ) (s : Stamped) → cut_delete epoch s.del ≡ s.del → cut_row epoch s ≡ s
row_same epoch s same = ap (λ (d : Option ℕ). make s.row s.ins d) same

pub cut_same : (epoch : ℕ) (rows : List Stamped) → All (IsUpTo epoch) rows → cut_rows epoch rows ≡ rows
cut_same epoch [] all = refl
cut_same epoch (s ∷ rows) all = by (nat_le s.ins epoch) refl (All-head (IsUpTo epoch) s rows all) (cut_same epoch rows (All-tail (IsUpTo epoch) s rows all))
  where
    by : (b : Bool) → nat_le s.ins epoch ≡ b → IsUpTo epoch s → cut_rows epoch rows ≡ rows
        → map (cut_row epoch) (cond b (s ∷ filter (λ t. nat_le t.ins epoch) rows) (filter (λ t. nat_le t.ins epoch) rows)) ≡ s ∷ rows
    by true is (le, del) rest = ap₂ (λ (t : Stamped) (ts : List Stamped). t ∷ ts) (row_same epoch s del) rest
    by false is (le, del) rest = absurd (grind (arith, nat_tests))

delete_twice : (epoch : ℕ) (del : Option ℕ) → cut_delete epoch (cut_delete epoch del) ≡ cut_delete epoch del
delete_twice epoch None = refl
delete_twice epoch (Some d) = by (nat_le d epoch) refl
  where
    by : (b : Bool) → nat_le d epoch ≡ b → cut_delete epoch (cond b (Some d) None) ≡ cond b (Some d) None
    by true is = ap (λ (c : Bool). cond c (Some d) None) is
    by false is = refl

-- what a cut leaves
pub all_up : (epoch : ℕ) (rows : List Stamped) → All (IsUpTo epoch) (cut_rows epoch rows)
all_up epoch [] = All-nil (IsUpTo epoch)
all_up epoch (s ∷ rows) = by (nat_le s.ins epoch) refl (all_up epoch rows)
  where
    by : (b : Bool) → nat_le s.ins epoch ≡ b → All (IsUpTo epoch) (cut_rows epoch rows)
        → All (IsUpTo epoch) (map (cut_row epoch) (cond b (s ∷ filter (λ t. nat_le t.ins epoch) rows) (filter (λ t. nat_le t.ins epoch) rows)))
    by true is rest = All-cons (IsUpTo epoch) (cut_row epoch s) (cut_rows epoch rows) (grind (arith, nat_tests), delete_twice epoch s.del) rest
    by false is rest = rest

pub cut_twice : (epoch : ℕ) (rows : List Stamped) → cut_rows epoch (cut_rows epoch rows) ≡ cut_rows epoch rows
cut_twice epoch rows = cut_same epoch (cut_rows epoch rows) (all_up epoch rows)
