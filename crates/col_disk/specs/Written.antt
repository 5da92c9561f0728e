-- A name that differs from the one that is set is as it was.
use Rattle.std.proofs.Common.{◌≡◌, ℕ, List, Bool, true, false, cond, sym, ◌∙◌, ap, inl, inr}
use Rattle.std.specs.Prelude.{◌⊎◌}
use Rattle.std.specs.Ordering.{nat_cmp, eq_by_cmp}
use Rattle.std.specs.FinMap.{get, insert, get-insert}
use Rattle.std.specs.Cmp.{nat_cmp_total, unsigned_tied}
use Rattle.std.proofs.lemmas.Bool.Decides.{eqb_tells}
use Rattle.std.proofs.Math.Dec.{eqb}
use Rattle.common_laws.specs.Maps.{Contents}
use Rattle.col_disk.specs.Calls.{Elsewhere}

other_key : {X : Type 0} (q name : ℕ) (x y : X) → (q ≡ name → ⊥) → cond (eq_by_cmp nat_cmp q name) x y ≡ y
other_key {X} q name x y differs = known (eqb_tells q name)
  where
    known : ((eqb q name ≡ true) × (q ≡ name)) ⊎ ((eqb q name ≡ false) × (q ≡ name → ⊥)) → cond (eq_by_cmp nat_cmp q name) x y ≡ y
    known (inl (test, is)) = absurd (differs is)
    known (inr (test, other)) = ap (λ (b : Bool). cond b x y) (unsigned_tied q name ∙ test)

pub insert_elsewhere : (m : Contents) (name : ℕ) (bytes : List ℕ) → Elsewhere name m (insert m name bytes)
insert_elsewhere m name bytes q other = get-insert nat_cmp_total m name bytes q ∙ other_key q name _ _ other
