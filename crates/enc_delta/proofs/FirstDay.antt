-- The least day of some values is before each of them.
use Rattle.std.proofs.Common.{◌≡◌, ◌≤◌, ℕ, true, List, [], ◌∷◌, Option, Some, None, refl, arith}
use Rattle.std.specs.List.{All, AllByRecursion, list_any}
use Rattle.std.specs.Option.{unwrap_or}
use Rattle.std.proofs.lemmas.List.Elements.{All-from_recursion, recursion_from_All}
use Rattle.col_value.specs.declared.value.Value.{Value}
use Rattle.col_value.specs.declared.value.Value.TheVariants as value
use Rattle.value_bytes.specs.Spelling.{IsSpelled}
use Rattle.enc_delta.specs.DateDelta.{IsDated, is_date, IsDateDelta, day, earlier, first_day, day_base, IsSince}

-- not behind a day, if it is there
abbrev pub Before : ℕ → Option ℕ → Type 0
Before b None = Unit {0}
Before b (Some n) = b ≤ n

-- a day, if it is there
abbrev pub AreDays : Option ℕ → Type 0
AreDays None = Unit {0}
AreDays (Some n) = (1 ≤ n) × (n ≤ 3652059)

before_first : (b : ℕ) (x y : Option ℕ) → Before b (earlier x y) → Before b x
before_first b None y le = tt
before_first b (Some m) None le = le
before_first b (Some m) (Some n) le = omega (arith, le)

before_second : (b : ℕ) (x y : Option ℕ) → Before b (earlier x y) → Before b y
before_second b None y le = le
before_second b (Some m) None le = tt
before_second b (Some m) (Some n) le = omega (arith, le)

earlier_day : (x y : Option ℕ) → AreDays x → AreDays y → AreDays (earlier x y)
earlier_day None y one two = two
earlier_day (Some m) None one two = one
earlier_day (Some m) (Some n) one two = (omega (arith, one, two), omega (arith, one, two))

its_day : (v : Value) → IsSpelled v → AreDays (day v)
its_day value.Null is = tt
its_day (value.Bool b) is = tt
its_day (value.Int n) is = tt
its_day (value.Date d) is = is
its_day (value.Text t) is = tt

first_is_day : (vs : List Value) → AllByRecursion IsSpelled vs → AreDays (first_day vs)
first_is_day [] is = tt
first_is_day (v ∷ vs) is = earlier_day (day v) (first_day vs) (its_day v is.0) (first_is_day vs is.1)

one_since : (b : ℕ) (v : Value) → 1 ≤ b → IsSpelled v → IsDated v → Before b (day v) → IsSince b v
one_since b value.Null low is dated le = tt
one_since b (value.Bool t) low is dated le = dated
one_since b (value.Int n) low is dated le = dated
one_since b (value.Date d) low is dated le = (low, le, is.1)
one_since b (value.Text t) low is dated le = dated

all_since : (b : ℕ) (vs : List Value) → 1 ≤ b → AllByRecursion IsSpelled vs → AllByRecursion IsDated vs → Before b (first_day vs) → AllByRecursion (IsSince b) vs
all_since b [] low is dated le = tt
all_since b (v ∷ vs) low is dated le =
    (one_since b v low is.0 dated.0 (before_first b (day v) (first_day vs) le), all_since b vs low is.1 dated.1 (before_second b (day v) (first_day vs) le))

-- a first day is there where a date is
abbrev pub IsThere : Option ℕ → Type 0
IsThere None = ⊥
IsThere (Some n) = Unit {0}

there_first : (x y : Option ℕ) → IsThere x → IsThere (earlier x y)
there_first None y is = absurd is
there_first (Some m) None is = tt
there_first (Some m) (Some n) is = tt

there_second : (x y : Option ℕ) → IsThere y → IsThere (earlier x y)
there_second None y is = is
there_second (Some m) None is = absurd is
there_second (Some m) (Some n) is = tt

first_there : (vs : List Value) → list_any is_date vs ≡ true → IsThere (first_day vs)
first_there [] some = absurd cc
first_there (value.Null ∷ vs) some = there_second (day value.Null) (first_day vs) (first_there vs some)
first_there (value.Bool b ∷ vs) some = there_second (day (value.Bool b)) (first_day vs) (first_there vs some)
first_there (value.Int n ∷ vs) some = there_second (day (value.Int n)) (first_day vs) (first_there vs some)
first_there (value.Date d ∷ vs) some = there_first (day (value.Date d)) (first_day vs) tt
first_there (value.Text t ∷ vs) some = there_second (day (value.Text t)) (first_day vs) (first_there vs some)

pub date_there : (vs : List Value) → IsThere (first_day vs) → list_any is_date vs ≡ true
date_there [] is = absurd is
date_there (value.Null ∷ vs) is = date_there vs is
date_there (value.Bool b ∷ vs) is = date_there vs is
date_there (value.Int n ∷ vs) is = date_there vs is
date_there (value.Date d ∷ vs) is = refl
date_there (value.Text t ∷ vs) is = date_there vs is

base_day_is : (o : Option ℕ) → AreDays o → IsThere o → AreDays (Some (unwrap_or o 0))
base_day_is None is there = absurd there
base_day_is (Some n) is there = is

base_before : (o : Option ℕ) → Before (unwrap_or o 0) o
base_before None = tt
base_before (Some n) = omega arith

pub day_base_fits : (vs : List Value) → IsDateDelta vs → AreDays (Some (day_base vs))
day_base_fits vs is = base_day_is (first_day vs) (first_is_day vs (recursion_from_All IsSpelled vs is.block.values)) (first_there vs is.some)

pub since_base : (vs : List Value) → IsDateDelta vs → AllByRecursion (IsSince (day_base vs)) vs
since_base vs is =
    all_since (day_base vs) vs (day_base_fits vs is).0 (recursion_from_All IsSpelled vs is.block.values) (recursion_from_All IsDated vs is.dated) (base_before (first_day vs))

pub each_since : (vs : List Value) → IsDateDelta vs → All (IsSince (day_base vs)) vs
each_since vs is = All-from_recursion (IsSince (day_base vs)) vs (since_base vs is)

-- a base that is there is a day of the values
pub from_base : (o : Option ℕ) → 1 ≤ unwrap_or o 0 → IsThere o
from_base None low = absurd (omega (arith, low))
from_base (Some n) low = tt
