-- Texts one behind the other, of one list or of two that are walked over side by side.
use Rattle.std.proofs.Common.{◌≡◌, ℕ, ◌+◌, ◌<◌, ◌≤◌, ◌++◌, List, [], ◌∷◌, length, take, get_or, sym, ap, ap₂, ◌∙◌, arith, subst}
use Rattle.std.specs.Prelude.{min, zip}
use Rattle.std.specs.List.{flat_map}
use Rattle.std.proofs.lemmas.Grind.{flat_map-append}
use Rattle.std.proofs.lemmas.List.{append-nil, append_assoc, take_all, take_more}
use Rattle.std.proofs.lemmas.List.Concat.{flat_map-cons}
use Rattle.std.proofs.lemmas.Slice.Zip.{get_or-zip, length-zip}

alone : {X : Type 0} (f : X → List ℕ) (x : X) → flat_map f (x ∷ []) ≡ f x
alone f x = flat_map-cons f x [] ∙ append-nil (f x)

within : {X Y : Type 0} (xs : List X) (ys : List Y) (i : ℕ) → i < length xs → i < length ys → i < length (zip xs ys)
within xs ys i a b = subst (λ (n : ℕ). i < n) (sym (length-zip xs ys)) (both i (length xs) (length ys) a b)
  where
    both : (n k m : ℕ) → n < k → n < m → n < min k m
    both n k m a b = grind (arith)

-- one more of each
pub zipped_more : {X Y : Type 0} (f : X × Y → List ℕ) (xs : List X) (ys : List Y) (i : ℕ) (x : X) (y : Y) (base was out : List ℕ) → was ≡ base ++ flat_map f (take i (zip xs ys)) → out ≡ was ++ f (x, y)
    → i < length xs → i < length ys → x ≡ get_or xs i x → y ≡ get_or ys i y → out ≡ base ++ flat_map f (take (i + 1) (zip xs ys))
zipped_more {X} {Y} f xs ys i x y base was out before is a b one two =
    let more : flat_map f (take (i + 1) (zip xs ys)) ≡ flat_map f (take i (zip xs ys)) ++ f (x, y) =
    ap (flat_map f) (take_more (zip xs ys) i (x, y) (within xs ys i a b))
    ∙ flat_map-append f (take i (zip xs ys)) (get_or (zip xs ys) i (x, y) ∷ [])
    ∙ ap (λ (line : List ℕ). flat_map f (take i (zip xs ys)) ++ line) (alone f (get_or (zip xs ys) i (x, y)) ∙ ap f (get_or-zip xs ys i (x, y) a b ∙ ap₂ (λ (s : X) (t : Y). (s, t)) (sym one) (sym two))) in
    is ∙ ap (λ (t : List ℕ). t ++ f (x, y)) before ∙ append_assoc base (flat_map f (take i (zip xs ys))) (f (x, y)) ∙ ap (λ (t : List ℕ). base ++ t) (sym more)

-- all of the shorter one
pub zipped_all : {X Y : Type 0} (f : X × Y → List ℕ) (xs : List X) (ys : List Y) (i : ℕ) (base out : List ℕ) → out ≡ base ++ flat_map f (take i (zip xs ys)) → min (length xs) (length ys) ≤ i
    → out ≡ base ++ flat_map f (zip xs ys)
zipped_all f xs ys i base out is le =
    is ∙ ap (λ (t : List ℕ). base ++ t) (ap (flat_map f) (take_all i (zip xs ys) (subst (λ (n : ℕ). n ≤ i) (sym (length-zip xs ys)) le)))

-- one more
pub flat_more : {X : Type 0} (f : X → List ℕ) (xs : List X) (i : ℕ) (x : X) (base was out : List ℕ) → was ≡ base ++ flat_map f (take i xs) → out ≡ was ++ f x → i < length xs → x ≡ get_or xs i x
    → out ≡ base ++ flat_map f (take (i + 1) xs)
flat_more {X} f xs i x base was out before is here at =
    let more : flat_map f (take (i + 1) xs) ≡ flat_map f (take i xs) ++ f x =
    ap (flat_map f) (take_more xs i x here)
    ∙ flat_map-append f (take i xs) (get_or xs i x ∷ [])
    ∙ ap (λ (line : List ℕ). flat_map f (take i xs) ++ line) (alone f (get_or xs i x) ∙ ap f (sym at)) in
    is ∙ ap (λ (t : List ℕ). t ++ f x) before ∙ append_assoc base (flat_map f (take i xs)) (f x) ∙ ap (λ (t : List ℕ). base ++ t) (sym more)

-- three and five texts one behind the other
pub three_texts : (old m1 m2 out a b c : List ℕ) → m1 ≡ old ++ a → m2 ≡ m1 ++ b → out ≡ m2 ++ c → out ≡ old ++ (a ++ (b ++ c))
three_texts old m1 m2 out a b c p q r = let all : out ≡ ((old ++ a) ++ b) ++ c = cc in all ∙ simp append_assoc

pub five_texts : (old m1 m2 m3 m4 out a b c d e : List ℕ) → m1 ≡ old ++ a → m2 ≡ m1 ++ b → m3 ≡ m2 ++ c → m4 ≡ m3 ++ d → out ≡ m4 ++ e → out ≡ old ++ (a ++ (b ++ (c ++ (d ++ e))))
five_texts old m1 m2 m3 m4 out a b c d e p q r s t = let all : out ≡ ((((old ++ a) ++ b) ++ c) ++ d) ++ e = cc in all ∙ simp append_assoc
