-- Spelling a number group by group.
use Rattle.std.proofs.Common.{◌≡◌, ℕ, zero, suc, ◌+◌, ◌/◌, ◌%◌, ◌^◌, ◌<◌, ◌≤◌, List, [], ◌∷◌, ◌++◌, refl, sym, ap, ◌∙◌, arith, append_assoc, append-nil}
use Rattle.col_bytes.specs.Spellings.{groups, vint}
use Rattle.col_bytes.proofs.Vints.{one_group, more_groups, room}

-- now is old and the first groups of n; rest is what the groups behind them stand for, and there is room for them
pub record Pushed (old now : List ℕ) (n rest : ℕ) : Type 0 where
  pub front : List ℕ
  pub here : now ≡ old ++ front
  pub others : (k : ℕ) × (rest < 128 ^ suc k) × (front ++ groups (suc k) rest ≡ vint n)

pub none_pushed : (old : List ℕ) (n : ℕ) → n < 2 ^ 64 → Pushed old old n n
none_pushed old n small = record { front = []; here = sym (append-nil old); others = (9, omega arith, refl) }

still : (front : List ℕ) (n rest k : ℕ) → 128 ≤ rest → rest < 128 ^ suc k → front ++ groups (suc k) rest ≡ vint n
    → (j : ℕ) × (rest / 128 < 128 ^ suc j) × ((front ++ (128 + rest % 128) ∷ []) ++ groups (suc j) (rest / 128) ≡ vint n)
still front n rest zero le lt e = absurd (omega arith)
still front n rest (suc j) le lt e = (j, room (suc j) rest lt le, append_assoc front ((128 + rest % 128) ∷ []) (groups (suc j) (rest / 128)) ∙ ap (λ (x : List ℕ). front ++ x) (sym (more_groups (suc j) rest le)) ∙ e)

pub one_pushed : (old now next : List ℕ) (n rest : ℕ) → Pushed old now n rest → 128 ≤ rest → next ≡ now ++ (128 + rest % 128) ∷ [] → Pushed old next n (rest / 128)
one_pushed old now next n rest p le is = record {
  front = p.front ++ (128 + rest % 128) ∷ [];
  here = is ∙ ap (λ (x : List ℕ). x ++ (128 + rest % 128) ∷ []) p.here ∙ append_assoc old p.front ((128 + rest % 128) ∷ []);
  others = still p.front n rest p.others.0 le p.others.1 p.others.2;
}

pub all_pushed : (old now next : List ℕ) (n rest : ℕ) → Pushed old now n rest → rest < 128 → next ≡ now ++ rest ∷ [] → next ≡ old ++ vint n
all_pushed old now next n rest p lt is =
    is ∙ ap (λ (x : List ℕ). x ++ rest ∷ []) p.here ∙ append_assoc old p.front (rest ∷ []) ∙ ap (λ (x : List ℕ). old ++ (p.front ++ x)) (sym (one_group p.others.0 rest lt)) ∙ ap (λ (x : List ℕ). old ++ x) p.others.2
