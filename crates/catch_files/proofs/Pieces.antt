-- A file that is the same in two contents, piece by piece.
use Rattle.std.proofs.Common.{◌≡◌, ℕ, zero, suc, ◌+◌, ◌≤◌, ◌++◌, Bool, true, false, List, [], ◌∷◌, length, take, drop, refl, sym, ap, ap₂, ◌∙◌, arith, subst}
use Rattle.std.specs.Bool.{OnTrue}
use Rattle.std.specs.Prelude.{Option, Some, None}
use Rattle.std.specs.Option.{option_map}
use Rattle.std.specs.FinMap.{get}
use Rattle.std.proofs.lemmas.List.{take_all}
use Rattle.std.proofs.lemmas.Option.{same_Some}
use Rattle.common_laws.specs.Maps.{Contents}
use Rattle.catch_files.specs.Parting.{IsLong, OnBoth, SameFile, SamePiece}

-- the front of a file is the same
abbrev pub SameFront : ℕ → ℕ → Contents → Contents → Type 0
SameFront name d m n = option_map (take d) (get m name) ≡ option_map (take d) (get n name)

-- the same of files that have so many bytes
abbrev pub SameUpTo : Option Contents → Option Contents → ℕ → ℕ → ℕ → Type 0
SameUpTo at from name len d = OnBoth at from (λ m n. IsLong name len m → IsLong name len n → SameFront name d m n)

take_both : (d n : ℕ) (xs : List ℕ) → take (d + n) xs ≡ take d xs ++ take n (drop d xs)
take_both zero n xs = ap (λ (k : ℕ). take k xs) (omega arith)
take_both (suc d) n [] = none d n
  where
    none : (a b : ℕ) → take {A = ℕ} (suc a + b) [] ≡ take {A = ℕ} b []
    none a b = empty (suc a + b) ∙ sym (empty b)
      where
        empty : (k : ℕ) → take {A = ℕ} k [] ≡ []
        empty zero = refl
        empty (suc k) = refl
take_both (suc d) n (x ∷ xs) =
    let next : suc d + n ≡ suc (d + n) = omega arith in
    ap (λ (k : ℕ). take k (x ∷ xs)) next ∙ ap (λ (ys : List ℕ). x ∷ ys) (take_both d n xs)

both : (d n : ℕ) (o p : Option (List ℕ)) → option_map (take d) o ≡ option_map (take d) p → option_map (λ bytes. take n (drop d bytes)) o ≡ option_map (λ bytes. take n (drop d bytes)) p
    → option_map (take (d + n)) o ≡ option_map (take (d + n)) p
both d n None None front piece = refl
both d n None (Some ys) front piece = absurd (cc)
both d n (Some xs) None front piece = absurd (cc)
both d n (Some xs) (Some ys) front piece =
    ap (λ (zs : List ℕ). Some zs) (take_both d n xs ∙ ap₂ (λ (a b : List ℕ). a ++ b) (same_Some (take d xs) (take d ys) front) (same_Some (take n (drop d xs)) (take n (drop d ys)) piece) ∙ sym (take_both d n ys))

nothing_yet : (len : ℕ) (o p : Option (List ℕ)) → Some len ≡ option_map length o → Some len ≡ option_map length p → option_map (take 0) o ≡ option_map (take 0) p
nothing_yet len None p one two = absurd (cc)
nothing_yet len (Some xs) None one two = absurd (cc)
nothing_yet len (Some xs) (Some ys) one two = refl

whole : (d len : ℕ) (o p : Option (List ℕ)) → len ≤ d → Some len ≡ option_map length o → Some len ≡ option_map length p → option_map (take d) o ≡ option_map (take d) p → p ≡ o
whole d len None p le one two same = absurd (cc)
whole d len (Some xs) None le one two same = absurd (cc)
whole d len (Some xs) (Some ys) le one two same =
    let first : length xs ≤ d = subst (λ (k : ℕ). k ≤ d) (same_Some len (length xs) one) le in
    let second : length ys ≤ d = subst (λ (k : ℕ). k ≤ d) (same_Some len (length ys) two) le in
    ap (λ (zs : List ℕ). Some zs) (sym (take_all d ys second) ∙ sym (same_Some (take d xs) (take d ys) same) ∙ take_all d xs first)

pub starts : (at from : Option Contents) (name len : ℕ) → SameUpTo at from name len 0
starts at from name len = λ m n here there one two. nothing_yet len (get m name) (get n name) one two

pub goes_on : (at from now then : Option Contents) (name len d : ℕ) → now ≡ at → then ≡ from → SameUpTo at from name len d → OnBoth now then (SamePiece name d) → SameUpTo at from name len (d + 1048576)
goes_on at from now then name len d same also front piece = λ m n here there one two. both d 1048576 (get m name) (get n name) (front m n here there one two) (piece m n (same ∙ here) (also ∙ there))

pub ends : (at from now then : Option Contents) (name len d : ℕ) → now ≡ at → then ≡ from → len ≤ d + 1048576 → SameUpTo at from name len d → OnBoth now then (SamePiece name d) → OnBoth at from (λ m n. IsLong name len m → IsLong name len n → SameFile name m n)
ends at from now then name len d same also le front piece = λ m n here there one two.
    whole (d + 1048576) len (get m name) (get n name) le one two (goes_on at from now then name len d same also front piece m n here there one two)

-- ---- what a test told

pub on_piece : (b : Bool) {P : Type 0} → b ≡ true → OnTrue b P → P
on_piece true is told = told
on_piece false is told = absurd (cc)

pub last : (b : Bool) (at from now then : Option Contents) (name len d : ℕ) → now ≡ at → then ≡ from → len ≤ d + 1048576 → SameUpTo at from name len d → OnTrue b (OnBoth now then (SamePiece name d))
    → OnTrue b (OnBoth at from (λ m n. IsLong name len m → IsLong name len n → SameFile name m n))
last true at from now then name len d same also le front piece = ends at from now then name len d same also le front piece
last false at from now then name len d same also le front piece = tt
