-- Reading from the front of a list, by the words that phrases are made of.
use Rattle.std.specs.Prelude.{◌≡◌, ℕ, zero, suc, ◌<◌, Bool, true, false, if◌then◌else◌, List, [], ◌∷◌, ◌++◌, Option, Some, None, length}

-- a value with what is left behind it, or what is left from the first wrong element on
pub data Read (T V : Type 0) : Type 0 where
  Took : V → List T → Read T V
  Stopped : List T → Read T V

-- to go on behind what was taken
abbrev pub after : {T X V : Type 0} → Read T X → (X → List T → Read T V) → Read T V
after (Read.Took x rest) b = b x rest
after (Read.Stopped rest) b = Read.Stopped rest

abbrev pub picked : {T V : Type 0} → T → List T → Option V → Read T V
picked t ts (Some v) = Read.Took v ts
picked t ts None = Read.Stopped (t ∷ ts)

-- one element that carries a value
unfoldable pub one : {T V : Type 0} → (T → Option V) → List T → Read T V
one pick [] = Read.Stopped []
one pick (t ∷ ts) = picked t ts (pick t)

-- nothing, for a value
unfoldable pub nothing : {T V : Type 0} → V → List T → Read T V
nothing v ts = Read.Took v ts

-- a, and behind it b
unfoldable pub both : {T X V : Type 0} → (List T → Read T X) → (X → List T → Read T V) → List T → Read T V
both a b ts = after (a ts) b

-- the first element is one that p holds of
abbrev pub head_is : {T : Type 0} → (T → Bool) → List T → Bool
head_is p [] = false
head_is p (t ∷ ts) = p t

-- a where the first element is one that p holds of, else b
unfoldable pub choose : {T V : Type 0} → (T → Bool) → (List T → Read T V) → (List T → Read T V) → List T → Read T V
choose p a b ts = if head_is p ts then a ts else b ts

-- to take nothing
unfoldable pub stop : {T V : Type 0} → List T → Read T V
stop ts = Read.Stopped ts

-- a, where p doesn't hold of the first element: no such element may stand there
unfoldable pub refuse : {T V : Type 0} → (T → Bool) → (List T → Read T V) → List T → Read T V
refuse p a = choose p stop a

-- an element that p holds of carries no value
abbrev pub marked : Bool → Option (Unit {0})
marked true = Some tt
marked false = None

abbrev pub the : {T : Type 0} → (T → Bool) → T → Option (Unit {0})
the p t = marked (p t)

-- one element that p holds of, and behind it a
unfoldable pub mark : {T V : Type 0} → (T → Bool) → (List T → Read T V) → List T → Read T V
mark p a = both (one (the p)) (λ u. a)

-- one turn of a repetition: a, and behind it what `again` takes for a's value; nothing where p doesn't hold of the first element
unfoldable pub turn : {T V : Type 0} → (T → Bool) → (List T → Read T V) → (V → List T → Read T (List V)) → List T → Read T (List V)
turn p a again = choose p (both a (λ v. both (again v) (λ vs. nothing (v ∷ vs)))) (nothing [])

unfoldable pub many_within : {T V : Type 0} → ℕ → (T → Bool) → (List T → Read T V) → List T → Read T (List V)
many_within zero p a = nothing []
many_within (suc n) p a = turn p a (λ v. many_within n p a)

-- a again and again, as long as p holds of the first element
unfoldable pub many : {T V : Type 0} → (T → Bool) → (List T → Read T V) → List T → Read T (List V)
many p a ts = many_within (length ts) p a ts

unfoldable pub turns_within : {T S V : Type 0} → ℕ → (T → Bool) → (S → List T → Read T V) → (S → V → S) → S → List T → Read T (List V)
turns_within zero p a next s = nothing []
turns_within (suc n) p a next s = turn p (a s) (λ v. turns_within n p a next (next s v))

-- a again and again, as long as p holds of the first element, in a state that each value changes by `next`
unfoldable pub turns : {T S V : Type 0} → (T → Bool) → (S → List T → Read T V) → (S → V → S) → S → List T → Read T (List V)
turns p a next s ts = turns_within (length ts) p a next s ts

-- what is taken, with these values before it
abbrev pub joined : {T V : Type 0} → List V → Read T (List V) → Read T (List V)
joined vs q = after q (λ ws rest. Read.Took (vs ++ ws) rest)

-- what a takes is not empty
abbrev pub Shortens : {T V : Type 0} → (List T → Read T V) → Type 0
Shortens {T} {V} a = (ts : List T) (v : V) (rest : List T) → a ts ≡ Read.Took v rest → length rest < length ts
