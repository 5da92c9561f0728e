-- Rows that are kept are the same rows.
use Rattle.std.proofs.Common.{◌≡◌, ℕ, Bool, true, false, cond, List, [], ◌∷◌, map, filter, refl, ap}
use Rattle.std.specs.Prelude.{nat_lt}
use Rattle.col_value.specs.declared.row.Stamped.{Stamped}
use Rattle.write_store.specs.declared.held.Held.{Held}
use Rattle.write_store.specs.Memory.{stamp}

-- a test of rows with their epochs, before or after
pub kept_alike : (p : Stamped → Bool) (held : List Held) → map stamp (filter (λ h. p (stamp h)) held) ≡ filter p (map stamp held)
kept_alike p [] = refl
kept_alike p (h ∷ held) = by (p (stamp h)) (kept_alike p held)
  where
    by : (b : Bool) → map stamp (filter (λ h. p (stamp h)) held) ≡ filter p (map stamp held)
        → map stamp (cond b (h ∷ filter (λ h. p (stamp h)) held) (filter (λ h. p (stamp h)) held)) ≡ cond b (stamp h ∷ filter p (map stamp held)) (filter p (map stamp held))
    by true rest = ap (λ (xs : List Stamped). stamp h ∷ xs) rest
    by false rest = rest

pub kept_after : (epoch : ℕ) (held : List Held) → map stamp (filter (λ h. nat_lt epoch h.inserted.ins) held) ≡ filter (λ s. nat_lt epoch s.ins) (map stamp held)
kept_after epoch held = kept_alike (λ s. nat_lt epoch s.ins) held
