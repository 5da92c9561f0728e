-- Rows whose places are deleted.
use Rattle.std.proofs.Common.{◌≡◌, ◌+◌, ◌<◌, ◌∷◌, ◌++◌, [], ℕ, zero, suc, Bool, true, false, cond, List, map, length, set, get_or, refl, sym, ap, ap₂, ◌∙◌, arith}
use Rattle.std.specs.Prelude.{Some, ◌==◌, ◌||◌}
use Rattle.std.proofs.lemmas.Bool.Decides.{nat_tests}
use Rattle.col_value.specs.declared.row.Stamped.{Stamped}
use Rattle.write_store.specs.declared.held.Held.{Held}
use Rattle.std.proofs.lemmas.List.Folds.{list_any-append}
use Rattle.write_store.specs.Memory.{stamp, is_in, deleted_from, deleted_at}

-- no place from here on is deleted
past : (i p epoch : ℕ) (rows : List Stamped) → p < i → deleted_from i epoch (p ∷ []) rows ≡ rows
past i p epoch [] lt = refl
past i p epoch (s ∷ rows) lt = ap₂ (λ (x : Stamped) (xs : List Stamped). x ∷ xs) (by (p == i) refl) (past (i + 1) p epoch rows (omega (arith, lt)))
  where
    by : (b : Bool) → (p == i) ≡ b → cond (b || false) (record s { del = Some epoch }) s ≡ s
    by true e = absurd (let is : p ≡ i = grind (arith, nat_tests) in omega (arith, is, lt))
    by false e = refl

one_from : (i p k epoch : ℕ) (held : List Held) (d : Held) → p ≡ i + k → k < length held
    → map stamp (set held k (record (get_or held k d) { del = Some epoch })) ≡ deleted_from i epoch (p ∷ []) (map stamp held)
one_from i p k epoch [] d at lt = absurd (omega (arith, lt))
one_from i p zero epoch (x ∷ held) d at lt = ap₂ (λ (s : Stamped) (xs : List Stamped). s ∷ xs) (by (p == i) refl) (sym (past (i + 1) p epoch (map stamp held) (omega (arith, at))))
  where
    by : (b : Bool) → (p == i) ≡ b → record (stamp x) { del = Some epoch } ≡ cond (b || false) (record (stamp x) { del = Some epoch }) (stamp x)
    by true e = refl
    by false e = absurd (let same : p ≡ i = omega (arith, at) in grind (arith, nat_tests))
one_from i p (suc k) epoch (x ∷ held) d at lt = ap₂ (λ (s : Stamped) (xs : List Stamped). s ∷ xs) (by (p == i) refl) (one_from (i + 1) p k epoch held d (omega (arith, at)) (omega (arith, lt)))
  where
    by : (b : Bool) → (p == i) ≡ b → stamp x ≡ cond (b || false) (record (stamp x) { del = Some epoch }) (stamp x)
    by true e = absurd (let same : p ≡ i = grind (arith, nat_tests) in omega (arith, at, same))
    by false e = refl

-- one row in memory is deleted
pub one_deleted : (k epoch : ℕ) (held : List Held) (d : Held) → k < length held → map stamp (set held k (record (get_or held k d) { del = Some epoch })) ≡ deleted_at epoch (k ∷ []) (map stamp held)
one_deleted k epoch held d lt = one_from 0 k k epoch held d (omega arith) lt

-- a place more
place_more : (i p : ℕ) (ps : List ℕ) → is_in i (ps ++ p ∷ []) ≡ (is_in i ps || ((p == i) || false))
place_more i p ps = list_any-append (λ q. q == i) ps (p ∷ [])

twice : (a b : Bool) (epoch : ℕ) (s : Stamped) → cond (b || false) (record (cond a (record s { del = Some epoch }) s) { del = Some epoch }) (cond a (record s { del = Some epoch }) s) ≡ cond (a || (b || false)) (record s { del = Some epoch }) s
twice true true epoch s = refl
twice true false epoch s = refl
twice false true epoch s = refl
twice false false epoch s = refl

more_from : (i p epoch : ℕ) (ps : List ℕ) (rows : List Stamped) → deleted_from i epoch (p ∷ []) (deleted_from i epoch ps rows) ≡ deleted_from i epoch (ps ++ p ∷ []) rows
more_from i p epoch ps [] = refl
more_from i p epoch ps (s ∷ rows) = ap₂ (λ (x : Stamped) (xs : List Stamped). x ∷ xs)
    (twice (is_in i ps) (p == i) epoch s ∙ ap (λ (b : Bool). cond b (record s { del = Some epoch }) s) (sym (place_more i p ps)))
    (more_from (i + 1) p epoch ps rows)

pub more_deleted : (p epoch : ℕ) (ps : List ℕ) (rows : List Stamped) → deleted_at epoch (p ∷ []) (deleted_at epoch ps rows) ≡ deleted_at epoch (ps ++ p ∷ []) rows
more_deleted p epoch ps rows = more_from 0 p epoch ps rows

none_from : (i epoch : ℕ) (rows : List Stamped) → deleted_from i epoch [] rows ≡ rows
none_from i epoch [] = refl
none_from i epoch (s ∷ rows) = ap (λ (xs : List Stamped). s ∷ xs) (none_from (i + 1) epoch rows)

pub none_deleted : (epoch : ℕ) (rows : List Stamped) → deleted_at epoch [] rows ≡ rows
none_deleted epoch rows = none_from 0 epoch rows
