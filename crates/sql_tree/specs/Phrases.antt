-- The words that the grammar is written in. A phrase says which lists of symbols spell which values.
use Rattle.std.specs.Prelude.{◌≡◌, ℕ, ◌<◌, ◌≤◌, ◌+◌, ◌-◌, ◌⊎◌, List, [], ◌∷◌, ◌++◌, Option, Some, length, take}

abbrev pub Phrase : Type 0 → Type 0 → Type 1
Phrase T V = List T → V → Type 0

-- one symbol that carries the value
abbrev pub One : {T V : Type 0} → (T → Option V) → Phrase T V
One {T} pick front value = (t : T) × (front ≡ t ∷ []) × (pick t ≡ Some value)

-- one symbol that says the value
abbrev pub Says : {T V : Type 0} → (T → V → Type 0) → Phrase T V
Says {T} R front value = (t : T) × (front ≡ t ∷ []) × R t value

-- the given symbol, then what A spells
abbrev pub Mark : {T V : Type 0} → T → Phrase T V → Phrase T V
Mark {T} t A front value = (rest : List T) × (front ≡ t ∷ rest) × A rest value

-- no symbol, for the value x
abbrev pub Nothing : {T V : Type 0} → V → Phrase T V
Nothing x front value = (front ≡ []) × (value ≡ x)

-- what A spells, and behind it what B spells, which may depend on A's value
abbrev pub Then : {T X V : Type 0} → Phrase T X → (X → Phrase T V) → Phrase T V
Then {T} {X} A B front value = (a : List T) × (x : X) × (b : List T) × (front ≡ a ++ b) × A a x × B x b value

-- what A spells, or what B spells
abbrev pub Either : {T V : Type 0} → Phrase T V → Phrase T V → Phrase T V
Either A B front value = A front value ⊎ B front value

-- what A spells, any number of times
abbrev pub Many : {T V : Type 0} → Phrase T V → Phrase T (List V)
Many A front [] = front ≡ []
Many {T} A front (v ∷ vs) = (a : List T) × (b : List T) × (front ≡ a ++ b) × A a v × Many A b vs

-- what A spells, any number of times, in a state that each value changes by `next`
abbrev pub Turns : {T S V : Type 0} → (S → Phrase T V) → (S → V → S) → S → Phrase T (List V)
Turns A next s front [] = front ≡ []
Turns {T} A next s front (v ∷ vs) = (a : List T) × (b : List T) × (front ≡ a ++ b) × A s a v × Turns A next (next s v) b vs

-- what A spells, once or more, with the given symbol between two; f joins the first value and the others
abbrev pub Chain : {T X V : Type 0} → T → Phrase T X → (X → List X → V) → Phrase T V
Chain t A f = Then A (λ x. Then (Many (Mark t A)) (λ xs. Nothing (f x xs)))

-- something spelled begins so
pub record Opens {T V : Type 0} (L : List T → V → Type 0) (front : List T) : Type 0 where
  pub more : List T
  pub value : V
  pub spelled : L (front ++ more) value

-- one more than the length of the longest front that begins something spelled, where the whole spells nothing
pub record IsPlace {T V : Type 0} (L : List T → V → Type 0) (ts : List T) (place : ℕ) : Type 0 where
  pub starts : 0 < place
  pub within : place ≤ length ts + 1
  pub opens : Opens L (take (place - 1) ts)
  pub longest : (n : ℕ) → n ≤ length ts → Opens L (take n ts) → n < place
  pub unspelled : (v : V) → L ts v → ⊥
