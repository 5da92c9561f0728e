-- Reading parts one after the other, as a loop does.
use Rattle.std.proofs.Common.{◌≡◌, ℕ, suc, ◌-◌, ◌+◌, ◌≤◌, ◌<◌, List, [], ◌∷◌, ◌++◌, Option, Some, None, refl, sym, ap, ◌∙◌, append_assoc, arith}
use Rattle.std.specs.Prelude.{option_map}
use Rattle.std.proofs.lemmas.List.{append-nil}
use Rattle.col_bytes.specs.declared.stop.Stop.{Stop}
use Rattle.col_bytes.specs.declared.stop.Stop.TheVariants.{Memory, Malformed}
use Rattle.col_bytes.specs.Parts.{Stops, many}

-- what was read before, and what is still read
abbrev pub with_front : {A : Type 0} → List A → Option (List A × List ℕ) → Option (List A × List ℕ)
with_front front read = option_map (λ x. (front ++ x.0, x.1)) read

regroup : {A : Type 0} (front : List A) (a : A) (o : Option (List A × List ℕ)) → with_front front (option_map (λ y. (a ∷ y.0, y.1)) o) ≡ with_front (front ++ a ∷ []) o
regroup {A} front a (Some x) = ap (λ (xs : List A). Some (xs, x.1)) (sym (append_assoc front (a ∷ []) x.0))
regroup front a None = refl

pub goes_on : {A : Type 0} (read : List ℕ → Option (A × List ℕ)) (front : List A) (count i : ℕ) (bytes : List ℕ) (a : A) (after : List ℕ) (total : Option (List A × List ℕ)) → i < count → read bytes ≡ Some (a, after)
    → with_front front (many read (count - i) bytes) ≡ total → with_front (front ++ a ∷ []) (many read (count - (i + 1)) after) ≡ total
unfolding many
goes_on read front count i bytes a after total lt h so_far =
    let k : count - i ≡ suc (count - (i + 1)) = omega arith in
    let one : with_front front (many read (count - i) bytes) ≡ with_front (front ++ a ∷ []) (many read (count - (i + 1)) after) = rw (k, h) (regroup front a (many read (count - (i + 1)) after)) in
    sym one ∙ so_far

pub stops : {A : Type 0} (read : List ℕ → Option (A × List ℕ)) (e : Stop) (front : List A) (count i : ℕ) (bytes : List ℕ) (total : Option (List A × List ℕ)) → i < count → Stops e (read bytes)
    → with_front front (many read (count - i) bytes) ≡ total → Stops e total
unfolding many
stops read Memory front count i bytes total lt h so_far = tt
stops read Malformed front count i bytes total lt h so_far =
    let k : count - i ≡ suc (count - (i + 1)) = omega arith in
    let one : with_front front (many read (count - i) bytes) ≡ None = rw (k, h) refl in
    sym so_far ∙ one

pub is_done : {A : Type 0} (read : List ℕ → Option (A × List ℕ)) (front : List A) (count i : ℕ) (bytes : List ℕ) (total : Option (List A × List ℕ)) → count ≤ i → with_front front (many read (count - i) bytes) ≡ total → total ≡ Some (front, bytes)
unfolding many
is_done {A} read front count i bytes total le so_far =
    let k : count - i ≡ 0 = omega arith in
    let one : with_front front (many read (count - i) bytes) ≡ Some (front, bytes) = rw k (ap (λ (xs : List A). Some (xs, bytes)) (append-nil front)) in
    sym so_far ∙ one
