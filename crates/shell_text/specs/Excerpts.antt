-- A line of a text, and the caret below a place in it.
use Rattle.std.specs.Prelude.{ℕ, ◌==◌, ◌<◌, ◌≤◌, ◌||◌, ◌&&◌, nat_lt, nat_le, if◌then◌else◌, Bool, not, List, [], ◌∷◌, ◌++◌, fold, take, drop, length}
use Rattle.std.specs.List.{prefix_len, flat_map}

-- a byte that goes on with a letter that an earlier one began
abbrev pub goes_on : ℕ → Bool
goes_on b = nat_le 128 b && nat_lt b 192

-- what stands behind the last line feed
abbrev pub last_line : List ℕ → List ℕ
last_line text = fold (λ line b. if b == 10 then [] else line ++ b ∷ []) [] text

-- what stands before the first line feed
abbrev pub first_line : List ℕ → List ℕ
first_line text = take (prefix_len (λ b. not (b == 10)) text) text

-- as wide as a byte is where it is shown: a tab stays one, and a byte that goes on with a letter takes no place
abbrev pub blank_of : ℕ → List ℕ
blank_of b = if b == 9 then 9 ∷ [] else (if goes_on b then [] else 32 ∷ [])

-- four spaces
abbrev pub margin : List ℕ
margin = 32 ∷ 32 ∷ 32 ∷ 32 ∷ []

-- the line of a text in which a place stands, and below it a caret that stands below the place
abbrev pub excerpt : List ℕ → ℕ → List ℕ
excerpt text place =
    margin ++ (last_line (take place text) ++ (first_line (drop place text) ++ (10 ∷ [] ++ (margin ++ (flat_map blank_of (last_line (take place text)) ++ (94 ∷ 10 ∷ []))))))
