-- The classes of symbols by which a reader decides.
use Rattle.std.specs.Prelude.{Bool, true, false, if◌then◌else◌, List, [], ◌∷◌}
use Rattle.sql_words.specs.declared.token.Key.{Key}
use Rattle.sql_words.specs.declared.token.Sign.{Sign}
use Rattle.sql_words.specs.declared.token.Back.{Back}
use Rattle.sql_words.specs.Symbols.{Symbol}
use Rattle.sql_words.specs.contracts.token.KeyPartialEq.TheImpl as keys
use Rattle.sql_words.specs.contracts.token.SignPartialEq.TheImpl as signs
use Rattle.sql_words.specs.contracts.token.BackPartialEq.TheImpl as backs

pub data Class : Type 0 where
  OfKey : Key → Class
  OfSign : Sign → Class
  OfBack : Back → Class
  OfName : Class
  OfNumber : Class
  OfText : Class
  OfUnknown : Class

abbrev pub class_of : Symbol → Class
class_of (Symbol.Keyword k) = Class.OfKey k
class_of (Symbol.Name n) = Class.OfName
class_of (Symbol.Number n) = Class.OfNumber
class_of (Symbol.Text t) = Class.OfText
class_of (Symbol.Mark s) = Class.OfSign s
class_of (Symbol.Command b) = Class.OfBack b
class_of Symbol.Unknown = Class.OfUnknown

abbrev pub is_key : Key → Symbol → Bool
is_key k (Symbol.Keyword j) = keys.ghosts.eq j k
is_key k (Symbol.Name n) = false
is_key k (Symbol.Number n) = false
is_key k (Symbol.Text t) = false
is_key k (Symbol.Mark s) = false
is_key k (Symbol.Command b) = false
is_key k Symbol.Unknown = false

abbrev pub is_sign : Sign → Symbol → Bool
is_sign s (Symbol.Keyword k) = false
is_sign s (Symbol.Name n) = false
is_sign s (Symbol.Number n) = false
is_sign s (Symbol.Text t) = false
is_sign s (Symbol.Mark r) = signs.ghosts.eq r s
is_sign s (Symbol.Command b) = false
is_sign s Symbol.Unknown = false

abbrev pub is_back : Back → Symbol → Bool
is_back b (Symbol.Keyword k) = false
is_back b (Symbol.Name n) = false
is_back b (Symbol.Number n) = false
is_back b (Symbol.Text t) = false
is_back b (Symbol.Mark s) = false
is_back b (Symbol.Command a) = backs.ghosts.eq a b
is_back b Symbol.Unknown = false

abbrev pub same_class : Class → Class → Bool
same_class (Class.OfKey j) (Class.OfKey k) = keys.ghosts.eq j k
same_class (Class.OfSign r) (Class.OfSign s) = signs.ghosts.eq r s
same_class (Class.OfBack a) (Class.OfBack b) = backs.ghosts.eq a b
same_class Class.OfName Class.OfName = true
same_class Class.OfNumber Class.OfNumber = true
same_class Class.OfText Class.OfText = true
same_class Class.OfUnknown Class.OfUnknown = true
same_class _ _ = false

abbrev pub has : List Class → Class → Bool
has [] c = false
has (d ∷ ds) c = if same_class c d then true else has ds c

-- the symbol is of one of the classes
abbrev pub in_set : List Class → Symbol → Bool
in_set cs t = has cs (class_of t)

abbrev pub disjoint : List Class → List Class → Bool
disjoint [] ds = true
disjoint (c ∷ cs) ds = if has ds c then false else disjoint cs ds

abbrev pub subset : List Class → List Class → Bool
subset [] ds = true
subset (c ∷ cs) ds = if has ds c then subset cs ds else false

-- the sets of classes that readers look for

abbrev pub name_classes : List Class
name_classes = Class.OfName ∷ []

abbrev pub number_classes : List Class
number_classes = Class.OfNumber ∷ []

abbrev pub text_classes : List Class
text_classes = Class.OfText ∷ []

-- what compares
abbrev pub cmp_classes : List Class
cmp_classes = Class.OfSign Sign.Equal ∷ (Class.OfSign Sign.NotEqual ∷ (Class.OfSign Sign.Less ∷ (Class.OfSign Sign.AtMost ∷ (Class.OfSign Sign.Greater ∷ (Class.OfSign Sign.AtLeast ∷ [])))))

-- what goes on with a sum
abbrev pub signed_classes : List Class
signed_classes = Class.OfSign Sign.Plus ∷ (Class.OfSign Sign.Minus ∷ [])

-- what begins an aggregate
abbrev pub aggregate_classes : List Class
aggregate_classes = Class.OfKey Key.Count ∷ (Class.OfKey Key.Sum ∷ (Class.OfKey Key.Min ∷ (Class.OfKey Key.Max ∷ [])))

-- what begins a COUNT or SUM
abbrev pub tally_classes : List Class
tally_classes = Class.OfKey Key.Count ∷ (Class.OfKey Key.Sum ∷ [])

-- what begins a window function that has no argument
abbrev pub ranking_classes : List Class
ranking_classes = Class.OfKey Key.RowNumber ∷ (Class.OfKey Key.Rank ∷ [])

-- what begins a window function
abbrev pub window_classes : List Class
window_classes = Class.OfKey Key.RowNumber ∷ (Class.OfKey Key.Rank ∷ (Class.OfKey Key.Count ∷ (Class.OfKey Key.Sum ∷ [])))

-- what goes on with the list of sources
abbrev pub source_classes : List Class
source_classes = Class.OfSign Sign.Comma ∷ (Class.OfKey Key.Inner ∷ (Class.OfKey Key.Join ∷ []))

-- what begins the call of a function
abbrev pub call_classes : List Class
call_classes = Class.OfKey Key.GetLastGoodEpoch ∷ (Class.OfKey Key.GetAhmEpoch ∷ (Class.OfKey Key.GetCurrentEpoch ∷ (Class.OfKey Key.MakeAhmNow ∷ (Class.OfKey Key.StartRefresh ∷ (Class.OfKey Key.SetAhmEpoch ∷ (Class.OfKey Key.DoTmTask ∷ (Class.OfKey Key.PurgeTable ∷ (Class.OfKey Key.Refresh ∷ []))))))))
