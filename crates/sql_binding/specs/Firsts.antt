-- The first of several reasons.
use Rattle.std.specs.Prelude.{Bool, true, false, if◌then◌else◌, List, [], ◌∷◌, Option, Some, None, option_map}
use Rattle.sql_tree.specs.declared.refusal.Refusal.{Refusal}

-- the first that is there
abbrev pub first_of : {X : Type 0} → Option X → Option X → Option X
first_of None other = other
first_of (Some x) other = Some x

-- the first that one of these gives
abbrev pub first_given : {X Y : Type 0} → (X → Option Y) → List X → Option Y
first_given f [] = None
first_given f (x ∷ xs) = first_of (f x) (first_given f xs)

abbrev pub given_where : {X : Type 0} → Bool → X → Option X
given_where so x = if so then Some x else None

abbrev pub refused_where : Bool → Refusal → Option Refusal
refused_where wrong r = if wrong then Some r else None

-- all of them, where all are there
abbrev pub with_first : {X : Type 0} → X → Option (List X) → Option (List X)
with_first x rest = option_map (λ xs. x ∷ xs) rest

abbrev pub all_there : {X : Type 0} → List (Option X) → Option (List X)
all_there [] = Some []
all_there (None ∷ rest) = None
all_there (Some x ∷ rest) = with_first x (all_there rest)

abbrev pub is_empty : {X : Type 0} → List X → Bool
is_empty [] = true
is_empty (x ∷ xs) = false
