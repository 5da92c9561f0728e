-- What a disk opens to after a commit, and after a part of one.
use Rattle.std.proofs.Common.{◌≡◌, ℕ, ◌<◌, ◌≤◌, List, [], ◌∷◌, refl, sym, ◌∙◌, ap, ap₂, subst, inl, inr, arith}
use Rattle.std.specs.Prelude.{◌⊎◌, true, false, Option, Some, None}
use Rattle.std.specs.Option.{option_map}
use Rattle.std.specs.FinMap.{get, insert}
use Rattle.std.proofs.Math.Dec.{eqb}
use Rattle.std.proofs.lemmas.Bool.Decides.{eqb_tells}
use Rattle.common_laws.specs.Maps.{Contents}
use Rattle.col_disk.specs.Moved.{Changed, NoName, Named}
use Rattle.col_disk.proofs.Moving.{changed_kept, changed_elsewhere, insert_there, insert_elsewhere}
use Rattle.catalog_types.specs.declared.catalogue.Catalogue.{Catalogue}
use Rattle.catalog_types.specs.Valid.{IsValid}
use Rattle.catalog_bytes.specs.declared.form.Form.TheVariants.{Two}
use Rattle.catalog_bytes.specs.Spelling.{spelling, Fits}
use Rattle.catalog_root.specs.Root.{data_file, body_file, gate_file, IsOpenGate, HoldsBody, IsAbove, IsWritten, OpensAsBefore, NewOrOld}

-- two contents with the same gates and the same data files, and the same bodies below a version that is above the open gates
same_opens : (version : ℕ) (m n : Contents) → IsAbove version m
    → ((w : ℕ) → IsOpenGate m w → IsOpenGate n w) → ((w : ℕ) → IsOpenGate n w → IsOpenGate m w)
    → ((w : ℕ) → w < version → get n (body_file w) ≡ get m (body_file w)) → ((k : ℕ) → get n (data_file k) ≡ get m (data_file k)) → OpensAsBefore m n
same_opens version m n above to back bodies datas = record {
  root = λ v c old. record {
    gate = record { is_open = to v old.gate.is_open; greatest = λ w is. old.gate.greatest w (back w is) };
    body = subst (λ (held : Option (List ℕ)). HoldsBody held c) (sym (bodies v (above v old.gate.is_open))) old.body;
    valid = old.valid;
    below = old.below;
  };
  fresh = λ old. record { closed = λ v is. old.closed v (back v is); blank = λ k. datas k ∙ old.blank k };
}

-- nothing changed
pub still : (version : ℕ) (c : Catalogue) (m : Contents) → NewOrOld version c m m
still version c m = inr (record { root = λ v d old. old; fresh = λ old. old })

-- the body was written, or is torn
pub body_same : (version : ℕ) (m n : Contents) → IsAbove version m → Changed (Named (body_file version)) NoName m n → OpensAsBefore m n
body_same version m n above changed = same_opens version m n above
    (λ w is. gate w ∙ is) (λ w is. sym (gate w) ∙ is)
    (λ w lt. kept (body_file w) (λ e. omega (arith, lt, e))) (λ k. kept (data_file k) (λ e. omega (arith, e)))
  where
    kept : (q : ℕ) → (q ≡ body_file version → ⊥) → get n q ≡ get m q
    kept q apart = changed_kept (Named (body_file version)) NoName m n q apart (λ is. is) changed

    gate : (w : ℕ) → get n (gate_file w) ≡ get m (gate_file w)
    gate w = kept (gate_file w) (λ e. omega (arith, e))

pub body_torn : (version : ℕ) (c : Catalogue) (m n : Contents) → IsAbove version m → Changed (Named (body_file version)) NoName m n → NewOrOld version c m n
body_torn version c m n above changed = inr (body_same version m n above changed)

-- whether a gate is open
is_gate : (held : Option (List ℕ)) → (held ≡ Some (86 ∷ [])) ⊎ (held ≡ Some (86 ∷ []) → ⊥)
is_gate None = inr (λ e. absurd cc)
is_gate (Some []) = inr (λ e. absurd cc)
is_gate (Some (b ∷ [])) = known (eqb_tells b 86)
  where
    known : ((eqb b 86 ≡ true) × (b ≡ 86)) ⊎ ((eqb b 86 ≡ false) × (b ≡ 86 → ⊥)) → (◌≡◌ {A = Option (List ℕ)} (Some (b ∷ [])) (Some (86 ∷ []))) ⊎ (◌≡◌ {A = Option (List ℕ)} (Some (b ∷ [])) (Some (86 ∷ [])) → ⊥)
    known (inl (test, is)) = inl (ap (λ (x : ℕ). Some (x ∷ [])) is)
    known (inr (test, other)) = inr (λ e. other cc)
is_gate (Some (b ∷ x ∷ rest)) = inr (λ e. absurd cc)

-- a body that was written is held
pub held_written : (held : Option (List ℕ)) (c : Catalogue) → Fits Two c → held ≡ Some (spelling Two c) → HoldsBody held c
held_written held c fits is = subst (λ (h : Option (List ℕ)). HoldsBody h c) (sym is) (record { form = Two; whole = tt; fits = fits; same = refl })

-- the body is there, of the gates only that of the version may have changed, and it is open
pub gate_opened : (version : ℕ) (c : Catalogue) (m n : Contents) → IsValid c → Fits Two c → version < c.next → IsAbove version m
    → Changed (Named (gate_file version)) NoName (insert m (body_file version) (spelling Two c)) n → IsOpenGate n version → IsWritten n version c
gate_opened version c m n valid fits below above changed is = record {
  root = record {
    gate = record { is_open = is; greatest = λ w it. at_most w (eqb_tells w version) it };
    body = held_written (get n (body_file version)) c fits there;
    valid = valid;
    below = below;
  };
  body = there;
}
  where
    kept : (q : ℕ) → (q ≡ gate_file version → ⊥) → get n q ≡ get (insert m (body_file version) (spelling Two c)) q
    kept q apart = changed_kept (Named (gate_file version)) NoName (insert m (body_file version) (spelling Two c)) n q apart (λ is. is) changed

    there : get n (body_file version) ≡ Some (spelling Two c)
    there = kept (body_file version) (λ e. omega (arith, e)) ∙ insert_there m (body_file version) (spelling Two c)

    gate : (w : ℕ) → (w ≡ version → ⊥) → get n (gate_file w) ≡ get m (gate_file w)
    gate w apart = kept (gate_file w) (λ e. apart (omega (arith, e))) ∙ insert_elsewhere m (body_file version) (spelling Two c) (gate_file w) (λ e. omega (arith, e))

    at_most : (w : ℕ) → ((eqb w version ≡ true) × (w ≡ version)) ⊎ ((eqb w version ≡ false) × (w ≡ version → ⊥)) → IsOpenGate n w → w ≤ version
    at_most w (inl (test, same)) it = omega (arith, same)
    at_most w (inr (test, other)) it = omega (arith, above w (sym (gate w other) ∙ it))

-- the same, and it is closed
gate_closed : (version : ℕ) (c : Catalogue) (m n : Contents) → IsAbove version m
    → Changed (Named (gate_file version)) NoName (insert m (body_file version) (spelling Two c)) n → (IsOpenGate n version → ⊥) → OpensAsBefore m n
gate_closed version c m n above changed closed = same_opens version m n above
    (λ w is. gate w (λ e. omega (arith, e, above w is)) ∙ is) (λ w is. not_this w (eqb_tells w version) is)
    (λ w lt. before (body_file w) (λ e. omega (arith, e)) (λ e. omega (arith, e, lt))) (λ k. before (data_file k) (λ e. omega (arith, e)) (λ e. omega (arith, e)))
  where
    before : (q : ℕ) → (q ≡ gate_file version → ⊥) → (q ≡ body_file version → ⊥) → get n q ≡ get m q
    before q apart other = changed_kept (Named (gate_file version)) NoName (insert m (body_file version) (spelling Two c)) n q apart (λ is. is) changed ∙ insert_elsewhere m (body_file version) (spelling Two c) q other

    gate : (w : ℕ) → (w ≡ version → ⊥) → get n (gate_file w) ≡ get m (gate_file w)
    gate w apart = before (gate_file w) (λ e. apart (omega (arith, e))) (λ e. omega (arith, e))

    not_this : (w : ℕ) → ((eqb w version ≡ true) × (w ≡ version)) ⊎ ((eqb w version ≡ false) × (w ≡ version → ⊥)) → IsOpenGate n w → IsOpenGate m w
    not_this w (inl (test, same)) it = absurd (closed (subst (IsOpenGate n) same it))
    not_this w (inr (test, other)) it = sym (gate w other) ∙ it

-- the same, open or not
pub gate_torn : (version : ℕ) (c : Catalogue) (m n : Contents) → IsValid c → Fits Two c → version < c.next → IsAbove version m
    → Changed (Named (gate_file version)) NoName (insert m (body_file version) (spelling Two c)) n → NewOrOld version c m n
gate_torn version c m n valid fits below above changed = known (is_gate (get n (gate_file version)))
  where
    known : IsOpenGate n version ⊎ (IsOpenGate n version → ⊥) → NewOrOld version c m n
    known (inl is) = inl (gate_opened version c m n valid fits below above changed is)
    known (inr closed) = inr (gate_closed version c m n above changed closed)

-- the name that was written, by its number
pub by_number : (name file : ℕ) (m n : Contents) → name ≡ file → Changed (Named name) NoName m n → Changed (Named file) NoName m n
by_number name file m n is changed = subst (λ (q : ℕ). Changed (Named q) NoName m n) is changed

-- what a disk holds after a file was put
pub after_put : (old new : Option Contents) (m : Contents) (name file : ℕ) (bytes held : List ℕ) → old ≡ Some m → name ≡ file → bytes ≡ held
    → new ≡ option_map (λ (x : Contents). insert x name bytes) old → new ≡ Some (insert m file held)
after_put old new m name file bytes held told is same put = put ∙ ap (option_map (λ (x : Contents). insert x name bytes)) told ∙ ap₂ (λ (q : ℕ) (b : List ℕ). Some (insert m q b)) is same

-- the body was put, and then the gate
pub both_put : (version : ℕ) (c : Catalogue) (m : Contents) → IsValid c → Fits Two c → version < c.next → IsAbove version m
    → IsWritten (insert (insert m (body_file version) (spelling Two c)) (gate_file version) (86 ∷ [])) version c
both_put version c m valid fits below above =
    gate_opened version c m _ valid fits below above
    (changed_elsewhere (Named (gate_file version)) NoName (gate_file version) _ _ refl (insert_elsewhere (insert m (body_file version) (spelling Two c)) (gate_file version) (86 ∷ [])))
    (insert_there (insert m (body_file version) (spelling Two c)) (gate_file version) (86 ∷ []))
