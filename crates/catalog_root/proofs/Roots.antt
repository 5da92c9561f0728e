-- The laws of which catalogue a disk opens to.
use Rattle.std.proofs.Common.{◌≡◌, ℕ, ◌<◌, List, [], ◌∷◌, sym, ◌∙◌, subst, inl, inr, arith}
use Rattle.std.specs.Prelude.{◌⊎◌, Option, Some, None}
use Rattle.std.specs.FinMap.{get}
use Rattle.common_laws.specs.Maps.{Contents}
use Rattle.col_disk.specs.Moved.{Changed}
use Rattle.col_disk.proofs.Moving.{changed_kept}
use Rattle.catalog_types.specs.declared.catalogue.Catalogue.{Catalogue}
use Rattle.catalog_root.specs.Root.{data_file, body_file, gate_file, HoldsBody, IsOpenGate, IsAbove, IsGreatestGate, IsRoot, IsFresh}
use Rattle.catalog_root.proofs.Bodies.{one_held}

-- a disk opens to one version and one catalogue
pub one_gate : (m : Contents) (v w : ℕ) → IsGreatestGate m v → IsGreatestGate m w → v ≡ w
one_gate m v w first second = omega (arith, first.greatest w second.is_open, second.greatest v first.is_open)

pub one_root : (m : Contents) (v w : ℕ) (c d : Catalogue) → IsRoot m v c → IsRoot m w d → (v ≡ w) × (c ≡ d)
one_root m v w c d first second =
    let is : v ≡ w = one_gate m v w first.gate second.gate in
    (is, one_held (get m (body_file w)) c d (subst (λ (x : ℕ). HoldsBody (get m (body_file x)) c) is first.body) second.body)

-- and it isn't fresh
pub not_fresh : (m : Contents) (v : ℕ) (c : Catalogue) → IsRoot m v c → IsFresh m → ⊥
not_fresh m v c root fresh = fresh.closed v root.gate.is_open

-- a gate that is open after a change was open before it
pub gate_before : (W R : ℕ → Type 0) (m n : Contents) (w : ℕ) → (W (gate_file w) → ⊥) → Changed W R m n → IsOpenGate n w → IsOpenGate m w
gate_before W R m n w apart changed is = was (changed (gate_file w) apart)
  where
    was : (get n (gate_file w) ≡ get m (gate_file w)) ⊎ (R (gate_file w) × (get n (gate_file w) ≡ None)) → IsOpenGate m w
    was (inl same) = sym same ∙ is
    was (inr (r, gone)) = let both : ◌≡◌ {A = Option (List ℕ)} None (Some (86 ∷ [])) = sym gone ∙ is in absurd cc

-- a disk opens to the same after a change of other names
pub root_kept : (W R : ℕ → Type 0) (m n : Contents) (v : ℕ) (c : Catalogue) → Changed W R m n
    → ((w : ℕ) → W (gate_file w) → ⊥) → (W (body_file v) → ⊥) → (R (gate_file v) → ⊥) → (R (body_file v) → ⊥) → IsRoot m v c → IsRoot n v c
root_kept W R m n v c changed no_gate no_body gate_stays body_stays root = record {
  gate = record {
    is_open = changed_kept W R m n (gate_file v) (no_gate v) gate_stays changed ∙ root.gate.is_open;
    greatest = λ w is. root.gate.greatest w (gate_before W R m n w (no_gate w) changed is);
  };
  body = subst (λ (held : Option (List ℕ)). HoldsBody held c) (sym (changed_kept W R m n (body_file v) no_body body_stays changed)) root.body;
  valid = root.valid;
  below = root.below;
}

-- so after a change of data files alone
pub data_kept : (W R : ℕ → Type 0) (m n : Contents) (v : ℕ) (c : Catalogue) → Changed W R m n
    → ((q : ℕ) → W q → (k : ℕ) × (q ≡ data_file k)) → ((q : ℕ) → R q → (k : ℕ) × (q ≡ data_file k)) → IsRoot m v c → IsRoot n v c
data_kept W R m n v c changed written removed root =
    root_kept W R m n v c changed (λ w is. no_gate w (written (gate_file w) is)) (λ is. no_body v (written (body_file v) is)) (λ is. no_gate v (removed (gate_file v) is)) (λ is. no_body v (removed (body_file v) is)) root
  where
    no_gate : (w : ℕ) → (k : ℕ) × (gate_file w ≡ data_file k) → ⊥
    no_gate w (k, is) = omega (arith, is)

    no_body : (w : ℕ) → (k : ℕ) × (body_file w ≡ data_file k) → ⊥
    no_body w (k, is) = omega (arith, is)

-- a later version is above every open gate, and every version is where none is open
pub root_below : (m : Contents) (v version : ℕ) (c : Catalogue) → IsRoot m v c → v < version → IsAbove version m
root_below m v version c root lt w is = omega (arith, lt, root.gate.greatest w is)

pub fresh_below : (m : Contents) (version : ℕ) → IsFresh m → IsAbove version m
fresh_below m version fresh w is = absurd (fresh.closed w is)
