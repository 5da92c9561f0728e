-- The forms of a word: `--` alone, what begins with it, and any other.
use Rattle.std.proofs.Common.{arith, ◌≡◌, ◌≢◌, ◌∙◌, ℕ, zero, suc, ◌==◌, drop, Bool, true, false, List, [], ◌∷◌, Option, Some, None, refl, sym, ap, subst}
use Rattle.std.specs.Prelude.{bytes_eq, codes}
use Rattle.std.proofs.lemmas.Bool.{eqb-true, eqb-false}
use Rattle.std.proofs.lemmas.Slice.Eq.{bytes_eq-Decides}
use Rattle.clap.specs.Lexer.{has_byte, long_of, name_and_value}
use Rattle.clap.proofs.CutLemmas.{Lacks}
use Rattle.clap.proofs.LexerLemmas.{name_and_value-without}
use Rattle.run_words.specs.Words.{is_option, takes_value}

-- a word that is no option and not `--`
pub record IsOther (word : List ℕ) : Type 0 where
  pub dashes : bytes_eq word (codes "--") ≡ false
  pub long : long_of word ≡ None
  pub option : is_option word ≡ false

-- `--`, a word that goes on behind it, or another
pub data Form : List ℕ → Type 0 where
  dashes : Form (45 ∷ (45 ∷ []))
  long : (x : ℕ) (rest : List ℕ) → Form (45 ∷ (45 ∷ (x ∷ rest)))
  other : (word : List ℕ) → IsOther word → Form word

one_letter : (x : ℕ) → (t : Bool) → (x == 45) ≡ t → (u : Bool) → (45 == x) ≡ u → IsOther (x ∷ [])
one_letter x true is true si = record { dashes = rw is refl; long = rw is refl; option = rw si refl }
one_letter x true is false si = record { dashes = rw is refl; long = rw is refl; option = rw si refl }
one_letter x false is true si = record { dashes = rw is refl; long = rw is refl; option = rw si refl }
one_letter x false is false si = record { dashes = rw is refl; long = rw is refl; option = rw si refl }

other_first : (x y : ℕ) (rest : List ℕ) → (x == 45) ≡ false → (45 == x) ≡ false → IsOther (x ∷ (y ∷ rest))
other_first x y rest is si = record { dashes = rw is refl; long = rw is refl; option = rw si refl }

other_second : (y : ℕ) (rest : List ℕ) → (y == 45) ≡ false → (45 == y) ≡ false → IsOther (45 ∷ (y ∷ rest))
other_second y rest is si = record { dashes = rw is refl; long = rw is refl; option = rw si refl }

turned : (x : ℕ) → (x == 45) ≡ false → (45 == x) ≡ false
turned x is = by (45 == x) refl
  where
    by : (t : Bool) → (45 == x) ≡ t → (45 == x) ≡ false
    by false si = si
    by true si = let same : 45 ≡ x = eqb-true 45 x si in absurd (eqb-false x 45 is (sym same))

pub form_of : (word : List ℕ) → Form word
form_of [] = other [] (record { dashes = refl; long = refl; option = refl })
form_of (x ∷ []) = other (x ∷ []) (one_letter x (x == 45) refl (45 == x) refl)
form_of (x ∷ (y ∷ rest)) = by (x == 45) refl (y == 45) refl
  where
    two : (ws : List ℕ) → Form (45 ∷ (45 ∷ ws))
    two [] = dashes
    two (z ∷ zs) = long z zs

    by : (t : Bool) → (x == 45) ≡ t → (u : Bool) → (y == 45) ≡ u → Form (x ∷ (y ∷ rest))
    by false is u next = other (x ∷ (y ∷ rest)) (other_first x y rest is (turned x is))
    by true is false next = subst (λ (b : ℕ). Form (b ∷ (y ∷ rest))) (sym (eqb-true x 45 is)) (other (45 ∷ (y ∷ rest)) (other_second y rest next (turned y next)))
    by true is true next = subst (λ (b : ℕ). Form (b ∷ (y ∷ rest))) (sym (eqb-true x 45 is)) (subst (λ (b : ℕ). Form (45 ∷ (b ∷ rest))) (sym (eqb-true y 45 next)) (two rest))

lacks_equals : (text : List ℕ) → has_byte 61 text ≡ false → Lacks 61 text
lacks_equals [] none = λ i lt. absurd (omega (arith, lt))
lacks_equals (x ∷ text) none = by (x == 61) refl none (lacks_equals text)
  where
    by : (t : Bool) → (x == 61) ≡ t → has_byte 61 (x ∷ text) ≡ false → (has_byte 61 text ≡ false → Lacks 61 text) → Lacks 61 (x ∷ text)
    by true is none more = let never : true ≡ false = rw is at none in absurd cc
    by false is none more = at (eqb-false x 61 is) (more (rw is at none))
      where
        at : x ≢ 61 → Lacks 61 text → Lacks 61 (x ∷ text)
        at ne rest zero lt = ne
        at ne rest (suc i) lt = rest i (omega (arith, lt))

-- a name without a value is the whole text
pub named_alone : (text name : List ℕ) → name_and_value text ≡ (name, None) → text ≡ name
named_alone text name is = by (has_byte 61 text) refl
  where
    by : (t : Bool) → has_byte 61 text ≡ t → text ≡ name
    by false none = sym (ap (λ p. p.0) (name_and_value-without text (lacks_equals text none))) ∙ ap (λ p. p.0) is
    by true some = let never : (name_and_value text).1 ≡ None = ap (λ p. p.1) is in let there : ◌≡◌ {A = Option (List ℕ)} (Some _) None = rw some at never in absurd cc

value_behind : List ℕ → Option (List ℕ)
value_behind word = (name_and_value (drop 2 word)).1

-- an option with its value attached takes no word behind it
pub valued_takes_none : (text name value : List ℕ) → name_and_value text ≡ (name, Some value) → takes_value (45 ∷ (45 ∷ text)) ≡ false
unfolding value_behind
valued_takes_none text name value is = rw (differs (codes "--mover") refl, differs (codes "--gen") refl, differs (codes "--seed") refl) refl
  where
    differs : (word : List ℕ) → value_behind word ≡ None → bytes_eq (45 ∷ (45 ∷ text)) word ≡ false
    differs word none = by (bytes_eq (45 ∷ (45 ∷ text)) word) refl
      where
        by : (t : Bool) → bytes_eq (45 ∷ (45 ∷ text)) word ≡ t → bytes_eq (45 ∷ (45 ∷ text)) word ≡ false
        by false not_it = not_it
        by true it =
            let same : 45 ∷ (45 ∷ text) ≡ word = (bytes_eq-Decides (45 ∷ (45 ∷ text)) word).0 it in
            let here : (name_and_value text).1 ≡ None = ap value_behind same ∙ none in
            let never : ◌≡◌ {A = Option (List ℕ)} (Some value) None = sym (ap (λ p. p.1) is) ∙ here in
            absurd cc
