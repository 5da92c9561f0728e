-- Readings of all of the bytes, and how they are put together.
use Rattle.std.proofs.Common.{◌≡◌, ℕ, Bool, true, cond, eqb, List, [], ◌∷◌, ◌++◌, length, Option, Some, None, refl, sym, ap, subst, ◌∙◌}
use Rattle.std.specs.Prelude.{option_and_then, option_map, Result, Ok, Err, IfOk, IfSome, IfNone}
use Rattle.std.proofs.lemmas.Bool.{eqb-true, eq-eqb}
use Rattle.std.proofs.lemmas.List.{append-nil, nil_from_length}
use Rattle.std.proofs.lemmas.Option.{option_and_then_some, cond_some}
use Rattle.col_bytes.specs.Parts.{Gives, ended, after, whole, tested, told}
use Rattle.col_bytes.specs.declared.stop.Stop.{Stop}
use Rattle.col_bytes.specs.declared.stop.Stop.TheVariants.{Memory, Malformed}
use Rattle.col_bytes.proofs.Codecs.{IsBytes, IsBytes-rest, Takes, IsCodec, some_is}
use Rattle.col_bytes.proofs.Combine.{map_some}

-- What is read is spelled by all of the bytes, and fits; what fits is read again from its spelling.
pub record IsReader {A : Type 0} (spell : A → List ℕ) (fits : A → Type 0) (read : List ℕ → Option A) : Type 0 where
  pub takes : (bytes : List ℕ) (x : A) → IsBytes bytes → read bytes ≡ Some x → (bytes ≡ spell x) × fits x
  pub again : (x : A) → fits x → read (spell x) ≡ Some x

after_takes : (tag : ℕ) (bytes rest : List ℕ) → IsBytes bytes → after tag bytes ≡ Some rest → Takes bytes (tag ∷ []) rest
after_takes tag [] rest fits e = absurd cc
after_takes tag (b ∷ bytes) rest fits e =
    let c = cond_some (eqb b tag) bytes rest e in
    let same : b ≡ tag = eqb-true b tag c.0 in
    record { parts = ap (λ (y : ℕ). y ∷ bytes) same ∙ ap (λ (r : List ℕ). tag ∷ r) c.1; rest_fits = subst IsBytes c.1 (IsBytes-rest b bytes fits) }

-- a codec behind a tag, and nothing behind it
pub whole_reader : {A : Type 0} (tag : ℕ) (spell : A → List ℕ) (fits : A → Type 0) (read : List ℕ → Option (A × List ℕ)) → IsCodec spell fits read → IsReader (λ x. tag ∷ spell x) fits (whole tag read)
whole_reader {A} tag spell fits read codec = record {
  takes = λ bytes x are e.
      option_and_then_some ended (option_and_then read (after tag bytes)) x e
      (λ y is done.
      option_and_then_some read (after tag bytes) y is
      (λ rest front been.
      let one = after_takes tag bytes rest are front in
      let two = codec.takes rest y one.rest_fits been in
      let g = cond_some (eqb (length y.1) 0) y.0 x done in
      let nothing : y.1 ≡ [] = nil_from_length y.1 (eqb-true _ _ g.0) in
      let behind : rest ≡ spell y.0 = two.0.parts ∙ ap (λ (r : List ℕ). spell y.0 ++ r) nothing ∙ append-nil (spell y.0) in
      subst (λ (z : A). (bytes ≡ tag ∷ spell z) × fits z) g.1 (one.parts ∙ ap (λ (r : List ℕ). tag ∷ r) behind, two.1)));
  again = λ x fit.
      let back : read (spell x) ≡ Some (x, []) = ap read (sym (append-nil (spell x))) ∙ codec.again x [] fit in
      let here : eqb tag tag ≡ true = eq-eqb tag tag refl in
      rw (here, back) refl;
}

-- what passes a test
pub tested_reader : {A : Type 0} (test : A → Bool) (spell : A → List ℕ) (fits : A → Type 0) (read : List ℕ → Option A) → IsReader spell fits read → IsReader spell (λ x. fits x × (test x ≡ true)) (λ bytes. tested test (read bytes))
tested_reader {A} test spell fits read reader = record {
  takes = λ bytes x are e.
      option_and_then_some (λ (y : A). cond (test y) (Some y) None) (read bytes) x e
      (λ y is passes.
      let t = reader.takes bytes y are is in
      let c = cond_some (test y) y x passes in
      subst (λ (z : A). (bytes ≡ spell z) × (fits z × (test z ≡ true))) c.1 (t.0, (t.1, c.0)));
  again = λ x fit. rw (reader.again x fit.0, fit.1) refl;
}

-- what is made of what is read
pub made_reader : {A B : Type 0} (to : A → B) (from : B → A) (spell : A → List ℕ) (fits : A → Type 0) (suits : B → Type 0) (read : List ℕ → Option A) → IsReader spell fits read
    → ((a : A) → fits a → suits (to a) × (from (to a) ≡ a)) → ((b : B) → suits b → fits (from b) × (to (from b) ≡ b)) → IsReader (λ b. spell (from b)) suits (λ bytes. option_map to (read bytes))
made_reader {A} {B} to from spell fits suits read reader there back = record {
  takes = λ bytes x are e.
      let m = map_some to (read bytes) x e in
      let t = reader.takes bytes m.0 are m.1 in
      let w = there m.0 t.1 in
      subst (λ (b : B). (bytes ≡ spell (from b)) × suits b) m.2 (t.0 ∙ ap spell (sym w.1), w.0);
  again = λ b suit.
      let w = back b suit in
      rw (reader.again (from b) w.0) (ap (λ (c : B). Some c) w.1);
}

-- the same reading, where another fact says the same of what fits
pub refit_reader : {A : Type 0} (spell : A → List ℕ) (fits suits : A → Type 0) (read : List ℕ → Option A) → IsReader spell fits read → ((a : A) → fits a → suits a) → ((a : A) → suits a → fits a) → IsReader spell suits read
refit_reader spell fits suits read reader there back = record {
  takes = λ bytes x are e. let t = reader.takes bytes x are e in (t.0, there x t.1);
  again = λ x suit. reader.again x (back x suit);
}

-- nothing is read only where nothing that fits is spelled
pub none_spelled : {A : Type 0} (spell : A → List ℕ) (fits : A → Type 0) (read : List ℕ → Option A) → IsReader spell fits read → (bytes : List ℕ) → read bytes ≡ None → (a : A) → fits a → bytes ≡ spell a → ⊥
none_spelled spell fits read reader bytes e a fit is = let back : read (spell a) ≡ None = ap read (sym is) ∙ e in let again = reader.again a fit in absurd cc

-- two that fit have two spellings
pub one_spelled : {A : Type 0} (spell : A → List ℕ) (fits : A → Type 0) (read : List ℕ → Option A) → IsReader spell fits read → (a b : A) → fits a → fits b → spell a ≡ spell b → a ≡ b
one_spelled spell fits read reader a b fa fb e = some_is a b (sym (reader.again a fa) ∙ ap read e ∙ reader.again b fb)

-- what a reader answers, if it gives what is read
pub told_found : {X A : Type 0} (view : X → A) (spell : A → List ℕ) (fits : A → Type 0) (read : List ℕ → Option A) → IsReader spell fits read → (bytes : List ℕ) (r : Result X Stop) → IsBytes bytes → Gives view r (read bytes)
    → IfOk (told r) (λ o. IfSome o (λ x. fits (view x) × (bytes ≡ spell (view x))))
told_found view spell fits read reader bytes (Ok x) are given = let t = reader.takes bytes (view x) are given in (t.1, t.0)
told_found view spell fits read reader bytes (Err Malformed) are given = tt
told_found view spell fits read reader bytes (Err Memory) are given = tt

pub told_none : {X A : Type 0} (view : X → A) (spell : A → List ℕ) (fits : A → Type 0) (read : List ℕ → Option A) → IsReader spell fits read → (bytes : List ℕ) (r : Result X Stop) → Gives view r (read bytes)
    → IfOk (told r) (λ o. IfNone o ((a : A) → fits a → bytes ≡ spell a → ⊥))
told_none view spell fits read reader bytes (Ok x) given = tt
told_none view spell fits read reader bytes (Err Malformed) given = none_spelled spell fits read reader bytes given
told_none view spell fits read reader bytes (Err Memory) given = tt
