-- What a spelling and a reading of fronts have to be to each other, and how such pairs are put together.
use Rattle.std.proofs.Common.{◌≡◌, ℕ, suc, ◌+◌, ◌-◌, ◌<◌, ◌≤◌, Bool, true, false, cond, ltb, List, ◌∷◌, ◌++◌, length, get_or, take, drop, Option, Some, None, refl, sym, ap, ◌∙◌, append_assoc, arith, inl, inr}
use Rattle.std.specs.Prelude.{option_map, IfSome, IfNone}
use Rattle.std.proofs.lemmas.Bool.{cases_lt, le-ltb}
use Rattle.std.proofs.lemmas.List.{take_at, drop_at, length-append, length-drop, length-take, get_or-drop, get_or-take, get_or_past}
use Rattle.col_bytes.specs.Spellings.{Begins}
use Rattle.col_bytes.specs.Fronts.{Reads}

-- each item is a byte
abbrev pub IsBytes : List ℕ → Type 0
IsBytes bytes = (i : ℕ) → get_or bytes i 0 < 256

pub IsBytes-drop : (n : ℕ) (bytes : List ℕ) → IsBytes bytes → IsBytes (drop n bytes)
IsBytes-drop n bytes h i = rw get_or-drop (h (n + i))

pub IsBytes-take : (n : ℕ) (bytes : List ℕ) → IsBytes bytes → IsBytes (take n bytes)
IsBytes-take n bytes h i =
    elim (cases_lt i n) [
      | inl lt ↦ rw (get_or-take n bytes i 0 lt) (h i)
      | inr le ↦ rw (get_or_past (take n bytes) i 0 (omega (arith, length-take n bytes))) (omega arith)
    ]

pub IsBytes-rest : (b : ℕ) (bytes : List ℕ) → IsBytes (b ∷ bytes) → IsBytes bytes
IsBytes-rest b bytes h i = h (suc i)

-- what was taken from the front
pub record Takes (bytes front rest : List ℕ) : Type 0 where
  pub parts : bytes ≡ front ++ rest
  pub rest_fits : IsBytes rest

pub Takes-then : (a x b y c : List ℕ) → Takes a x b → Takes b y c → Takes a (x ++ y) c
Takes-then a x b y c p q = record { parts = p.parts ∙ ap (λ (t : List ℕ). x ++ t) q.parts ∙ sym (append_assoc x y c); rest_fits = q.rest_fits }

-- What is read is spelled so and fits; what fits is read again from its spelling, whatever follows.
pub record IsCodec {A : Type 0} (spell : A → List ℕ) (fits : A → Type 0) (read : List ℕ → Option (A × List ℕ)) : Type 0 where
  pub takes : (bytes : List ℕ) (x : A × List ℕ) → IsBytes bytes → read bytes ≡ Some x → Takes bytes (spell x.0) x.1 × fits x.0
  pub again : (a : A) (rest : List ℕ) → fits a → read (spell a ++ rest) ≡ Some (a, rest)

done : {A : Type 0} → A → Option A
done x = Some x

pub some_is : {A : Type 0} (x y : A) → ◌≡◌ {A = Option A} (Some x) (Some y) → x ≡ y
some_is x y e = cc

-- nothing is read only where nothing that fits is spelled at the front
pub none_spelled : {A : Type 0} (spell : A → List ℕ) (fits : A → Type 0) (read : List ℕ → Option (A × List ℕ)) → IsCodec spell fits read
    → (bytes : List ℕ) → read bytes ≡ None → (a : A) (rest : List ℕ) → fits a → bytes ≡ spell a ++ rest → ⊥
none_spelled spell fits read codec bytes e a rest fit is = let back = codec.again a rest fit in let here : read (spell a ++ rest) ≡ None = ap read (sym is) ∙ e in absurd (cc)

-- no spelling begins another, and two values have two spellings
pub one_form : {A : Type 0} (spell : A → List ℕ) (fits : A → Type 0) (read : List ℕ → Option (A × List ℕ)) → IsCodec spell fits read
    → (a b : A) (x y : List ℕ) → fits a → fits b → spell a ++ x ≡ spell b ++ y → (a ≡ b) × (x ≡ y)
one_form spell fits read codec a b x y fa fb e =
    let same : (a, x) ≡ (b, y) = some_is (a, x) (b, y) (sym (codec.again a x fa) ∙ ap read e ∙ codec.again b y fb) in
    (ap (λ (p : _ × List ℕ). p.0) same, ap (λ (p : _ × List ℕ). p.1) same)

-- what a value and its length are, if reading the front gives them
pub reads_found : {A : Type 0} (spell : A → List ℕ) (fits : A → Type 0) (read : List ℕ → Option (A × List ℕ)) → IsCodec spell fits read
    → (bytes : List ℕ) (r : Option (A × ℕ)) → IsBytes bytes → Reads bytes r (read bytes) → IfSome r (λ x. Begins bytes (spell x.0) x.1)
reads_found spell fits read codec bytes None are given = tt
reads_found spell fits read codec bytes (Some x) are given =
    let t = codec.takes bytes (x.0, drop x.1 bytes) are given.1 in
    record { long = omega (arith, ap length t.0.parts, length-append (spell x.0) (drop x.1 bytes), length-drop x.1 bytes, given.0); parts = t.0.parts }

pub reads_none : {A : Type 0} (spell : A → List ℕ) (fits : A → Type 0) (read : List ℕ → Option (A × List ℕ)) → IsCodec spell fits read
    → (bytes : List ℕ) (r : Option (A × ℕ)) → Reads bytes r (read bytes) → IfNone r ((a : A) (rest : List ℕ) → fits a → bytes ≡ spell a ++ rest → ⊥)
reads_none spell fits read codec bytes None given = none_spelled spell fits read codec bytes given
reads_none spell fits read codec bytes (Some x) given = tt

-- the bytes behind what was read tell how long that is
pub reads_by : {A : Type 0} (spell : A → List ℕ) (fits : A → Type 0) (read : List ℕ → Option (A × List ℕ)) → IsCodec spell fits read
    → (bytes : List ℕ) (a : A) (rest : List ℕ) → IsBytes bytes → read bytes ≡ Some (a, rest) → (length rest ≤ length bytes) × Reads bytes (Some (a, length bytes - length rest)) (read bytes)
reads_by spell fits read codec bytes a rest are e =
    let t = (codec.takes bytes (a, rest) are e).0.parts in
    let whole : length bytes ≡ length (spell a) + length rest = ap length t ∙ length-append (spell a) rest in
    let long : length (spell a) ≡ length bytes - length rest = omega arith in
    let behind : rest ≡ drop (length bytes - length rest) bytes = sym (drop_at (spell a) rest (length bytes - length rest) long) ∙ ap (drop (length bytes - length rest)) (sym t) in
    (omega arith, (omega arith, e ∙ ap (λ (r : List ℕ). Some (a, r)) behind))

-- a guard that let through
pub let_through : {A : Type 0} (b : Bool) (x y : A) → cond b None (Some x) ≡ Some y → (b ≡ false) × (x ≡ y)
let_through true x y e = absurd cc
let_through false x y e = (refl, cc)

-- enough bytes for what is read from so many of them
pub enough : {A : Type 0} (k : ℕ) (front rest : List ℕ) (f : List ℕ → A) → length front ≡ k → cond {A = Option (A × List ℕ)} (ltb (length (front ++ rest)) k) None (Some (f (take k (front ++ rest)), drop k (front ++ rest))) ≡ Some (f front, rest)
enough k front rest f len =
    let long : ltb (length (front ++ rest)) k ≡ false = le-ltb _ _ (omega (arith, length-append front rest)) in
    rw (long, take_at front rest k len, drop_at front rest k len) refl

-- the same of a value that is seen by a view
pub seen_found : {A Y : Type 0} (spell : A → List ℕ) (fits : A → Type 0) (read : List ℕ → Option (A × List ℕ)) → IsCodec spell fits read
    → (bytes : List ℕ) (view : Y → A) (r : Option (Y × ℕ)) → IsBytes bytes → Reads bytes (option_map (λ x. (view x.0, x.1)) r) (read bytes) → IfSome r (λ x. Begins bytes (spell (view x.0)) x.1)
seen_found spell fits read codec bytes view None are given = tt
seen_found spell fits read codec bytes view (Some x) are given = reads_found spell fits read codec bytes (Some (view x.0, x.1)) are given

pub seen_none : {A Y : Type 0} (spell : A → List ℕ) (fits : A → Type 0) (read : List ℕ → Option (A × List ℕ)) → IsCodec spell fits read
    → (bytes : List ℕ) (view : Y → A) (r : Option (Y × ℕ)) → Reads bytes (option_map (λ x. (view x.0, x.1)) r) (read bytes) → IfNone r ((a : A) (rest : List ℕ) → fits a → bytes ≡ spell a ++ rest → ⊥)
seen_none spell fits read codec bytes view None given = none_spelled spell fits read codec bytes given
seen_none spell fits read codec bytes view (Some x) given = tt
