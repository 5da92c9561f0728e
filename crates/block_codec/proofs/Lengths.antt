-- How long spellings are.
use Rattle.std.proofs.Common.{◌≡◌, ℕ, zero, suc, ◌+◌, ◌/◌, ◌^◌, ◌<◌, ◌≤◌, false, true, List, [], ◌∷◌, length, get_or, take, ap, refl, sym, arith, inl, inr}
use Rattle.std.specs.List.{flat_map}
use Rattle.std.proofs.lemmas.Bool.{cases_lt}
use Rattle.std.proofs.lemmas.List.{length-append}
use Rattle.std.proofs.lemmas.List.Concat.{length-flat_map}
use Rattle.std.proofs.lemmas.List.Sums.{sum_by_more}
use Rattle.col_bytes.specs.Spellings.{groups, vint}
use Rattle.col_bytes.proofs.Vints.{one_group, more_groups, room}
use Rattle.col_value.specs.Order.{IsValue}
use Rattle.col_value.specs.declared.value.Value.{Value}
use Rattle.col_value.specs.declared.value.Value.TheVariants as value
use Rattle.value_bytes.specs.Spelling.{spelling}

-- ---- a number

groups_few : (k n : ℕ) → length (groups k n) ≤ k
unfolding groups
groups_few zero n = omega arith
groups_few (suc k) n =
    elim (cases_lt n 128) [
      | inl lt ↦ rw (one_group k n lt) (omega arith)
      | inr le ↦ rw (more_groups k n le) (let h = groups_few k (n / 128) in omega (arith, h))
    ]

pub vint_few : (n : ℕ) → length (vint n) ≤ 10
vint_few n = groups_few 10 n

groups_some : (k n : ℕ) → 1 ≤ length (groups (suc k) n)
groups_some k n =
    elim (cases_lt n 128) [
      | inl lt ↦ rw (one_group k n lt) (omega arith)
      | inr le ↦ rw (more_groups k n le) (omega arith)
    ]

pub vint_some : (n : ℕ) → 1 ≤ length (vint n)
vint_some n = groups_some 9 n

-- so many bytes were counted of n, and those of the rest are left, of which there are at most as many as there is room for
pub record Counted (n rest len : ℕ) : Type 0 where
  pub room : ℕ
  pub fits : rest < 128 ^ suc room
  pub few : len + room ≤ 10
  pub sum : len + length (groups (suc room) rest) ≡ 1 + length (vint n)

pub none_counted : (n : ℕ) → n < 2 ^ 64 → Counted n n 1
none_counted n small = record { room = 9; fits = omega arith; few = omega arith; sum = refl }

still : (n rest len k : ℕ) → 128 ≤ rest → rest < 128 ^ suc k → len + k ≤ 10 → len + length (groups (suc k) rest) ≡ 1 + length (vint n) → Counted n (rest / 128) (len + 1)
still n rest len zero le fits few sum = absurd (omega arith)
still n rest len (suc j) le fits few sum =
    let shown : length (groups (suc (suc j)) rest) ≡ suc (length (groups (suc j) (rest / 128))) = ap length (more_groups (suc j) rest le) in
    record { room = j; fits = room (suc j) rest fits le; few = omega (arith, few); sum = omega (arith, sum, shown) }

pub one_counted : (n rest len : ℕ) → Counted n rest len → 128 ≤ rest → Counted n (rest / 128) (len + 1)
one_counted n rest len c le = still n rest len c.room le c.fits c.few c.sum

pub all_counted : (n rest len : ℕ) → Counted n rest len → rest < 128 → len ≡ length (vint n)
all_counted n rest len c lt = let shown : length (groups (suc c.room) rest) ≡ 1 = ap length (one_group c.room rest lt) in omega (arith, c.sum, shown)

-- ---- a value

pub spelling_some : (v : Value) → 1 ≤ length (spelling v)
spelling_some value.Null = omega arith
spelling_some (value.Bool true) = omega arith
spelling_some (value.Bool false) = omega arith
spelling_some (value.Int n) = omega arith
spelling_some (value.Date d) = omega arith
spelling_some (value.Text t) = omega arith

pub spelling_few : (v : Value) → IsValue v → length (spelling v) ≤ 65005
spelling_few value.Null is = omega arith
spelling_few (value.Bool true) is = omega arith
spelling_few (value.Bool false) is = omega arith
spelling_few (value.Int n) is = omega arith
spelling_few (value.Date d) is = omega arith
spelling_few (value.Text t) is = omega (arith, is)

-- ---- lists of parts

pub parts_some : {A : Type 0} (spell : A → List ℕ) (xs : List A) → ((a : A) → 1 ≤ length (spell a)) → length xs ≤ length (flat_map spell xs)
parts_some spell [] some = omega arith
parts_some spell (x ∷ xs) some = let long = length-append (spell x) (flat_map spell xs) in omega (arith, some x, long, parts_some spell xs some)

pub parts_more : {A : Type 0} (spell : A → List ℕ) (xs : List A) (i : ℕ) (x : A) → i < length xs → x ≡ get_or xs i x → length (flat_map spell (take (i + 1) xs)) ≡ length (flat_map spell (take i xs)) + length (spell x)
parts_more {A} spell xs i x lt is =
    let here : length (spell (get_or xs i x)) ≡ length (spell x) = ap (λ (y : A). length (spell y)) (sym is) in
    omega (arith, length-flat_map spell (take (i + 1) xs), length-flat_map spell (take i xs), sum_by_more (λ (y : A). length (spell y)) xs i x lt, here)
