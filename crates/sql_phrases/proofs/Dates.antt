-- The day that a reader answers is the one that the text says.
use Rattle.std.proofs.Common.{◌≡◌, ℕ, zero, suc, ◌≤◌, inl, inr, Bool, true, false, if◌then◌else◌, List, Option, Some, None, refl, sym, ap, ◌∙◌, subst, arith}
use Rattle.std.specs.Prelude.{bytes_eq}
use Rattle.std.proofs.lemmas.Bool.{cases_lt}
use Rattle.std.proofs.lemmas.Slice.Eq.{bytes_eq-Decides}
use Rattle.col_value.specs.Days.{SaysDay, ReadsDay, date_of, ten}
use Rattle.col_value.proofs.Characters.{one_text}
use Rattle.sql_words.specs.Symbols.{Symbol}
use Rattle.sql_tree.specs.Symbols.{IsDate}
use Rattle.sql_phrases.specs.Dates.{day_up_to, day_named, day_in}

-- what is known of a text when the days up to k were compared with it
abbrev ReadsUpTo : ℕ → List ℕ → Option ℕ → Type 0
ReadsUpTo k text (Some n) = SaysDay text n
ReadsUpTo k text None = (n : ℕ) → n ≤ k → SaysDay text n → ⊥

one_more : (k : ℕ) (text : List ℕ) (same : Bool) (found : Option ℕ) → suc k ≤ 3652059 → bytes_eq text (ten (date_of (suc k))) ≡ same → ReadsUpTo k text found → ReadsUpTo (suc k) text (if same then Some (suc k) else found)
one_more k text true found few e h = ((omega arith, few), (bytes_eq-Decides text (ten (date_of (suc k)))).0 e)
one_more k text false (Some n) few e h = h
one_more k text false None few e h = λ n le says. elim (cases_lt k n) [
  | inr low ↦ h n low says
  | inl high ↦
      let last : n ≡ suc k = omega (arith, high, le) in
      let told : bytes_eq text (ten (date_of (suc k))) ≡ true = (bytes_eq-Decides text (ten (date_of (suc k)))).1 (says.1 ∙ ap (λ (m : ℕ). ten (date_of m)) last) in
      absurd cc
]

read_up_to : (k : ℕ) (text : List ℕ) → k ≤ 3652059 → ReadsUpTo k text (day_up_to k text)
unfolding day_up_to
read_up_to zero text few = λ n le says. let low : 1 ≤ n = says.0.0 in absurd (omega (arith, le, low))
read_up_to (suc k) text few = one_more k text (bytes_eq text (ten (date_of (suc k)))) (day_up_to k text) few refl (read_up_to k text (omega (arith, few)))

all_read : (text : List ℕ) (found : Option ℕ) → ReadsUpTo 3652059 text found → ReadsDay text found
all_read text (Some n) h = h
all_read text None h = λ n says. h n says.0.1 says

day_read : (text : List ℕ) → ReadsDay text (day_named text)
unfolding day_named
day_read text = all_read text (day_up_to 3652059 text) (read_up_to 3652059 text (omega arith))

-- a text is read in one way
one_reading : (text : List ℕ) (a b : Option ℕ) → ReadsDay text a → ReadsDay text b → a ≡ b
one_reading text (Some n) (Some k) h g = ap Some (one_text n k h.0 g.0 (sym h.1 ∙ g.1))
one_reading text (Some n) None h g = absurd (g n h)
one_reading text None (Some k) h g = absurd (h k g)
one_reading text None None h g = refl

pub is_named : (text : List ℕ) (found : Option ℕ) → ReadsDay text found → found ≡ day_named text
is_named text found h = one_reading text found (day_named text) h (day_read text)

-- what is read is said, and what is said is read

pub date_said : (t : Symbol) (n : ℕ) → day_in t ≡ Some n → IsDate t n
date_said (Symbol.Keyword k) n h = absurd cc
date_said (Symbol.Name m) n h = absurd cc
date_said (Symbol.Number m) n h = absurd cc
date_said (Symbol.Text t) n h = subst (ReadsDay t) h (day_read t)
date_said (Symbol.Mark s) n h = absurd cc
date_said (Symbol.Command b) n h = absurd cc
date_said Symbol.Unknown n h = absurd cc

pub date_read : (t : Symbol) (n : ℕ) → IsDate t n → day_in t ≡ Some n
date_read (Symbol.Keyword k) n h = absurd h
date_read (Symbol.Name m) n h = absurd h
date_read (Symbol.Number m) n h = absurd h
date_read (Symbol.Text t) n h = sym (is_named t (Some n) h)
date_read (Symbol.Mark s) n h = absurd h
date_read (Symbol.Command b) n h = absurd h
date_read Symbol.Unknown n h = absurd h
