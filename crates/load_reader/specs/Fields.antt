-- What a field of a load file says in a column.
use Rattle.std.specs.Prelude.{◌≡◌, ◌≤◌, ◌⊎◌, ℕ, ℤ, ◌+◌, Bool, true, false, List, [], ◌∷◌, length, map, codes, IsUtf8}
use Rattle.std.specs.Char.{to_ascii_lowercase}
use Rattle.std.specs.Str.Parse.{IsNumeral, without_leading_sign, signed_digits_value}
use Rattle.col_value.specs.declared.value.Value.{Value}
use Rattle.col_value.specs.declared.value.Value.TheVariants as value
use Rattle.col_value.specs.declared.kinds.ColType.{ColType}
use Rattle.col_value.specs.Days.{SaysDay}
use Rattle.col_value.specs.Order.{IsValue}
use Rattle.load_reader.specs.declared.fields.LoadColumn.{LoadColumn}

-- two texts are the same but for the case of letters
abbrev pub IsAnyCase : List ℕ → List ℕ → Type 0
IsAnyCase text word = map to_ascii_lowercase text ≡ map to_ascii_lowercase word

-- a number: an optional sign and digits
abbrev pub SaysNumber : List ℕ → ℤ → Type 0
SaysNumber field n = IsNumeral 10 (without_leading_sign field) × (n ≡ signed_digits_value 10 field)

-- a truth value: `t`, `true` or `1`, and `f`, `false` or `0`, in any case of letters
abbrev pub SaysTruth : List ℕ → Bool → Type 0
SaysTruth field true = IsAnyCase field (codes "t") ⊎ (IsAnyCase field (codes "true") ⊎ IsAnyCase field (codes "1"))
SaysTruth field false = IsAnyCase field (codes "f") ⊎ (IsAnyCase field (codes "false") ⊎ IsAnyCase field (codes "0"))

-- a text of a column: UTF-8 of at most so many octets
abbrev pub SaysText : ℕ → List ℕ → Type 0
SaysText most field = IsUtf8 field × (length field ≤ most)

-- what a field that isn't empty says in a column of a kind: a value that the column can hold
abbrev pub SaysIn : ColType → List ℕ → Value → Type 0
SaysIn ColType.Integer field v = (n : ℤ) × SaysNumber field n × IsValue (value.Int n) × (v ≡ value.Int n)
SaysIn ColType.Boolean field v = (b : Bool) × SaysTruth field b × (v ≡ value.Bool b)
SaysIn ColType.Date field v = (n : ℕ) × SaysDay field n × (v ≡ value.Date n)
SaysIn (ColType.Varchar most) field v = SaysText most field × IsValue (value.Text field) × (v ≡ value.Text field)

-- what a field says in a column: an empty one is NULL, also where it was quoted
abbrev pub Says : LoadColumn → List ℕ → Value → Type 0
Says column [] v = (column.not_null ≡ false) × (v ≡ value.Null)
Says column (b ∷ field) v = SaysIn column.kind (b ∷ field) v

-- a field that says nothing in its column
abbrev pub IsWrong : LoadColumn → List ℕ → Type 0
IsWrong column field = (v : Value) → Says column field v → ⊥

-- the row of a record: a value for each column
abbrev pub IsRowOf : List LoadColumn → List (List ℕ) → List Value → Type 0
IsRowOf [] [] row = row ≡ []
IsRowOf [] (f ∷ fields) row = ⊥
IsRowOf (c ∷ columns) [] row = ⊥
IsRowOf (c ∷ columns) (f ∷ fields) row = (v : Value) × (rest : List Value) × Says c f v × IsRowOf columns fields rest × (row ≡ v ∷ rest)

-- the first wrong field of a record, from 1: one that says nothing, or the first missing or surplus one
abbrev pub IsWrongAt : List LoadColumn → List (List ℕ) → ℕ → Type 0
IsWrongAt [] [] place = ⊥
IsWrongAt [] (f ∷ fields) place = place ≡ 1
IsWrongAt (c ∷ columns) [] place = place ≡ 1
IsWrongAt (c ∷ columns) (f ∷ fields) place =
    (IsWrong c f × (place ≡ 1)) ⊎ ((v : Value) × (later : ℕ) × Says c f v × IsWrongAt columns fields later × (place ≡ later + 1))
