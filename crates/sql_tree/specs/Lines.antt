-- The line that a refusal prints.
use Rattle.std.specs.Prelude.{ℕ, List, [], ◌∷◌, ◌++◌, codes}
use Rattle.std.specs.Fmt.{decimal}
use Rattle.sql_tree.specs.declared.refusal.Which.{Which}
use Rattle.sql_tree.specs.declared.refusal.Refusal.{Refusal}

-- a word behind a space
abbrev pub spaced : List ℕ → List ℕ
spaced word = 32 ∷ word

-- a number in decimal behind a space
abbrev pub number_value : ℕ → List ℕ
number_value n = spaced (decimal n)

abbrev pub which_name : Which → List ℕ
which_name Which.Tables = codes "tables"
which_name Which.Columns = codes "columns"
which_name Which.Projections = codes "projections"
which_name Which.From = codes "from"
which_name Which.Name = codes "name"
which_name Which.Length = codes "length"
which_name Which.Rows = codes "rows"

-- the number of a refusal
abbrev pub refusal_number : Refusal → ℕ
refusal_number (Refusal.Syntax place) = 1
refusal_number (Refusal.UnknownTable name) = 2
refusal_number (Refusal.UnknownProjection name) = 3
refusal_number (Refusal.UnknownColumn name) = 4
refusal_number (Refusal.Ambiguous name) = 5
refusal_number (Refusal.Exists name) = 6
refusal_number (Refusal.Arity given wanted) = 7
refusal_number Refusal.TypeMismatch = 8
refusal_number Refusal.TooWide = 9
refusal_number (Refusal.BadProjection name) = 10
refusal_number (Refusal.BadEncoding name) = 11
refusal_number (Refusal.Limit which number) = 12
refusal_number (Refusal.EpochTooOld epoch mark) = 13
refusal_number (Refusal.EpochInFuture epoch last) = 14
refusal_number (Refusal.BadMark epoch mark last) = 15
refusal_number (Refusal.Locked session) = 16
refusal_number (Refusal.LastSuper name) = 17
refusal_number Refusal.NoFile = 18
refusal_number (Refusal.BadLoadLine line field) = 19
refusal_number (Refusal.IntegerOutOfRange name) = 20
refusal_number (Refusal.TextTooLong name) = 21
refusal_number (Refusal.NullRefused name) = 22
refusal_number Refusal.SumOutOfRange = 23
refusal_number Refusal.EpochsSpent = 24
refusal_number Refusal.NumbersSpent = 25
refusal_number Refusal.FileTooLarge = 26
refusal_number Refusal.NotBuilt = 27

-- the name of a refusal
abbrev pub refusal_name : Refusal → List ℕ
refusal_name (Refusal.Syntax place) = codes "Syntax"
refusal_name (Refusal.UnknownTable name) = codes "UnknownTable"
refusal_name (Refusal.UnknownProjection name) = codes "UnknownProjection"
refusal_name (Refusal.UnknownColumn name) = codes "UnknownColumn"
refusal_name (Refusal.Ambiguous name) = codes "Ambiguous"
refusal_name (Refusal.Exists name) = codes "Exists"
refusal_name (Refusal.Arity given wanted) = codes "Arity"
refusal_name Refusal.TypeMismatch = codes "TypeMismatch"
refusal_name Refusal.TooWide = codes "TooWide"
refusal_name (Refusal.BadProjection name) = codes "BadProjection"
refusal_name (Refusal.BadEncoding name) = codes "BadEncoding"
refusal_name (Refusal.Limit which number) = codes "Limit"
refusal_name (Refusal.EpochTooOld epoch mark) = codes "EpochTooOld"
refusal_name (Refusal.EpochInFuture epoch last) = codes "EpochInFuture"
refusal_name (Refusal.BadMark epoch mark last) = codes "BadMark"
refusal_name (Refusal.Locked session) = codes "Locked"
refusal_name (Refusal.LastSuper name) = codes "LastSuper"
refusal_name Refusal.NoFile = codes "NoFile"
refusal_name (Refusal.BadLoadLine line field) = codes "BadLoadLine"
refusal_name (Refusal.IntegerOutOfRange name) = codes "IntegerOutOfRange"
refusal_name (Refusal.TextTooLong name) = codes "TextTooLong"
refusal_name (Refusal.NullRefused name) = codes "NullRefused"
refusal_name Refusal.SumOutOfRange = codes "SumOutOfRange"
refusal_name Refusal.EpochsSpent = codes "EpochsSpent"
refusal_name Refusal.NumbersSpent = codes "NumbersSpent"
refusal_name Refusal.FileTooLarge = codes "FileTooLarge"
refusal_name Refusal.NotBuilt = codes "NotBuilt"

-- the values of a refusal, each behind a space
abbrev pub refusal_values : Refusal → List ℕ
refusal_values (Refusal.Syntax place) = number_value place
refusal_values (Refusal.UnknownTable name) = spaced name
refusal_values (Refusal.UnknownProjection name) = spaced name
refusal_values (Refusal.UnknownColumn name) = spaced name
refusal_values (Refusal.Ambiguous name) = spaced name
refusal_values (Refusal.Exists name) = spaced name
refusal_values (Refusal.Arity given wanted) = number_value given ++ number_value wanted
refusal_values Refusal.TypeMismatch = []
refusal_values Refusal.TooWide = []
refusal_values (Refusal.BadProjection name) = spaced name
refusal_values (Refusal.BadEncoding name) = spaced name
refusal_values (Refusal.Limit which number) = spaced (which_name which) ++ number_value number
refusal_values (Refusal.EpochTooOld epoch mark) = number_value epoch ++ number_value mark
refusal_values (Refusal.EpochInFuture epoch last) = number_value epoch ++ number_value last
refusal_values (Refusal.BadMark epoch mark last) = number_value epoch ++ (number_value mark ++ number_value last)
refusal_values (Refusal.Locked session) = number_value session
refusal_values (Refusal.LastSuper name) = spaced name
refusal_values Refusal.NoFile = []
refusal_values (Refusal.BadLoadLine line field) = number_value line ++ number_value field
refusal_values (Refusal.IntegerOutOfRange name) = spaced name
refusal_values (Refusal.TextTooLong name) = spaced name
refusal_values (Refusal.NullRefused name) = spaced name
refusal_values Refusal.SumOutOfRange = []
refusal_values Refusal.EpochsSpent = []
refusal_values Refusal.NumbersSpent = []
refusal_values Refusal.FileTooLarge = []
refusal_values Refusal.NotBuilt = []

-- ERROR, the number and the name of a refusal, with one space between
abbrev pub refusal_head : Refusal → List ℕ
refusal_head r = codes "ERROR" ++ (number_value (refusal_number r) ++ spaced (refusal_name r))

-- the line of a refusal: ERROR, its number, its name and its values, with one space between, and LF
abbrev pub refusal_text : Refusal → List ℕ
refusal_text r = refusal_head r ++ (refusal_values r ++ 10 ∷ [])
