-- Where ranks differ they stand as the values do; and an exact rank tells the value.
use Rattle.std.proofs.Common.{◌≡◌, ℕ, ◌+◌, ◌^◌, ◌-◌, ◌<◌, min, Bool, true, false, cond, ℤ, pos, negsuc, ◌≤ℤ◌, ◌<ℤ◌, refl, sym, ap, ◌∙◌, arith}
use Rattle.std.specs.Prelude.{int_lt, not, ◌&&◌}
use Rattle.std.specs.Ordering.{int_cmp, int_eq, nat_cmp, ordering_then}
use Rattle.std.specs.declared.cmp.Ordering.{Ordering}
use Rattle.std.specs.declared.cmp.Ordering.TheVariants.{Less, Equal}
use Rattle.std.proofs.lemmas.Bool.Decides.{nat_tests}
use Rattle.std.proofs.lemmas.Int.{ints}
use Rattle.col_value.specs.Order.{value_cmp}
use Rattle.col_value.specs.declared.value.Value.{Value}
use Rattle.col_value.specs.declared.value.Value.TheVariants as value
use Rattle.exec_window.specs.Leads.{is_exact, rank_of, within}

abbrev low : ℤ
low = negsuc (2 ^ 62 - 1)

abbrev high : ℤ
high = pos (2 ^ 62)

-- a number within the bounds stands between them, and is the number but at a bound
record Bounded (n m : ℤ) : Type 0 where
  at_least : low ≤ℤ m
  at_most : m ≤ℤ high

bounded : (n : ℤ) → Bounded n (within n)
bounded n = by (int_lt n low) (int_lt high n) refl refl
  where
    by : (a b : Bool) → int_lt n low ≡ a → int_lt high n ≡ b → Bounded n (cond a low (cond b high n))
    by true b p q = record { at_least = omega (arith, ints); at_most = omega (arith, ints) }
    by false true p q = record { at_least = omega (arith, ints); at_most = omega (arith, ints) }
    by false false p q = record { at_least = grind (arith, ints); at_most = grind (arith, ints) }

less_z : (a b : ℤ) → a <ℤ b → int_cmp a b ≡ Less
less_z a b h = grind (arith, ints)

less_n : (a b : ℕ) → a < b → nat_cmp a b ≡ Less
less_n a b h = grind (arith, nat_tests)

within_less : (n m : ℤ) → within n <ℤ within m → n <ℤ m
within_less n m h = by (int_lt n low) (int_lt high n) (int_lt m low) (int_lt high m) refl refl refl refl h
  where
    by : (a b c d : Bool) → int_lt n low ≡ a → int_lt high n ≡ b → int_lt m low ≡ c → int_lt high m ≡ d → cond a low (cond b high n) <ℤ cond c low (cond d high m) → n <ℤ m
    by true b true d p q r s h = absurd (omega (arith, ints, h))
    by true b false true p q r s h = grind (arith, ints)
    by true b false false p q r s h = grind (arith, ints)
    by false true true d p q r s h = absurd (omega (arith, ints, h))
    by false true false true p q r s h = absurd (omega (arith, ints, h))
    by false true false false p q r s h = grind (arith, ints)
    by false false true d p q r s h = grind (arith, ints)
    by false false false true p q r s h = grind (arith, ints)
    by false false false false p q r s h = h

pub rank_less : (a b : Value) → rank_of a <ℤ rank_of b → value_cmp a b ≡ Less
rank_less value.Null value.Null h = absurd (omega (arith, ints, h))
rank_less value.Null (value.Bool b) h = refl
rank_less value.Null (value.Int n) h = refl
rank_less value.Null (value.Date d) h = refl
rank_less value.Null (value.Text t) h = refl
rank_less (value.Bool false) value.Null h = absurd (omega (arith, ints, h))
rank_less (value.Bool true) value.Null h = absurd (omega (arith, ints, h))
rank_less (value.Bool false) (value.Bool false) h = absurd (omega (arith, ints, h))
rank_less (value.Bool false) (value.Bool true) h = refl
rank_less (value.Bool true) (value.Bool false) h = absurd (omega (arith, ints, h))
rank_less (value.Bool true) (value.Bool true) h = absurd (omega (arith, ints, h))
rank_less (value.Bool b) (value.Int n) h = refl
rank_less (value.Bool b) (value.Date d) h = refl
rank_less (value.Bool b) (value.Text t) h = refl
rank_less (value.Int n) value.Null h = let low = (bounded n).at_least in absurd (omega (arith, ints, h))
rank_less (value.Int n) (value.Bool false) h = let low = (bounded n).at_least in absurd (omega (arith, ints, h))
rank_less (value.Int n) (value.Bool true) h = let low = (bounded n).at_least in absurd (omega (arith, ints, h))
rank_less (value.Int n) (value.Int m) h = ap (λ (o : Ordering). ordering_then o Equal) (less_z n m (within_less n m h))
rank_less (value.Int n) (value.Date d) h = refl
rank_less (value.Int n) (value.Text t) h = refl
rank_less (value.Date d) value.Null h = absurd (omega (arith, ints, h))
rank_less (value.Date d) (value.Bool false) h = absurd (omega (arith, ints, h))
rank_less (value.Date d) (value.Bool true) h = absurd (omega (arith, ints, h))
rank_less (value.Date d) (value.Int n) h = let high = (bounded n).at_most in absurd (omega (arith, ints, h))
rank_less (value.Date d) (value.Date e) h = let lt : d < e = omega (arith, ints, h) in ap (λ (o : Ordering). ordering_then o Equal) (less_n d e lt)
rank_less (value.Date d) (value.Text t) h = refl
rank_less (value.Text t) value.Null h = absurd (omega (arith, ints, h))
rank_less (value.Text t) (value.Bool false) h = absurd (omega (arith, ints, h))
rank_less (value.Text t) (value.Bool true) h = absurd (omega (arith, ints, h))
rank_less (value.Text t) (value.Int n) h = let high = (bounded n).at_most in absurd (omega (arith, ints, h))
rank_less (value.Text t) (value.Date d) h = absurd (omega (arith, ints, h))
rank_less (value.Text t) (value.Text u) h = absurd (omega (arith, ints, h))

inside : (n : ℤ) → is_exact (within n) ≡ true → n ≡ within n
inside n h = by (int_lt n low) (int_lt high n) refl refl h
  where
    by : (a b : Bool) → int_lt n low ≡ a → int_lt high n ≡ b → is_exact (cond a low (cond b high n)) ≡ true → n ≡ cond a low (cond b high n)
    by true b p q h = absurd cc
    by false true p q h = absurd cc
    by false false p q h = refl

last_of : (a b c : Bool) → (not a && (not b && c)) ≡ true → c ≡ true
last_of true b c h = absurd cc
last_of false true c h = absurd cc
last_of false false c h = h

day_inside : (d : ℕ) → is_exact (rank_of (value.Date d)) ≡ true → d ≡ min d (2 ^ 32 - 1)
day_inside d h =
    let r = rank_of (value.Date d) in
    let less : int_lt r (pos (2 ^ 62 + 2 ^ 32)) ≡ true = last_of (int_eq r low) (int_eq r high) _ h in
    let lt : r <ℤ pos (2 ^ 62 + 2 ^ 32) = grind (arith, ints) in
    omega (arith, ints, lt)

pub exact_same : (a b : Value) → rank_of a ≡ rank_of b → is_exact (rank_of a) ≡ true → a ≡ b
exact_same value.Null value.Null e h = refl
exact_same value.Null (value.Bool false) e h = absurd (omega (arith, ints, e))
exact_same value.Null (value.Bool true) e h = absurd (omega (arith, ints, e))
exact_same value.Null (value.Int n) e h = let low = (bounded n).at_least in absurd (omega (arith, ints, e))
exact_same value.Null (value.Date d) e h = absurd (omega (arith, ints, e))
exact_same value.Null (value.Text t) e h = absurd (omega (arith, ints, e))
exact_same (value.Bool false) value.Null e h = absurd (omega (arith, ints, e))
exact_same (value.Bool true) value.Null e h = absurd (omega (arith, ints, e))
exact_same (value.Bool false) (value.Bool false) e h = refl
exact_same (value.Bool false) (value.Bool true) e h = absurd (omega (arith, ints, e))
exact_same (value.Bool true) (value.Bool false) e h = absurd (omega (arith, ints, e))
exact_same (value.Bool true) (value.Bool true) e h = refl
exact_same (value.Bool false) (value.Int n) e h = let low = (bounded n).at_least in absurd (omega (arith, ints, e))
exact_same (value.Bool true) (value.Int n) e h = let low = (bounded n).at_least in absurd (omega (arith, ints, e))
exact_same (value.Bool false) (value.Date d) e h = absurd (omega (arith, ints, e))
exact_same (value.Bool true) (value.Date d) e h = absurd (omega (arith, ints, e))
exact_same (value.Bool false) (value.Text t) e h = absurd (omega (arith, ints, e))
exact_same (value.Bool true) (value.Text t) e h = absurd (omega (arith, ints, e))
exact_same (value.Int n) value.Null e h = let low = (bounded n).at_least in absurd (omega (arith, ints, e))
exact_same (value.Int n) (value.Bool false) e h = let low = (bounded n).at_least in absurd (omega (arith, ints, e))
exact_same (value.Int n) (value.Bool true) e h = let low = (bounded n).at_least in absurd (omega (arith, ints, e))
exact_same (value.Int n) (value.Int m) e h = ap value.Int (inside n h ∙ e ∙ sym (inside m (ap is_exact (sym e) ∙ h)))
exact_same (value.Int n) (value.Date d) e h = let high = (bounded n).at_most in absurd (omega (arith, ints, e))
exact_same (value.Int n) (value.Text t) e h = let high = (bounded n).at_most in absurd (omega (arith, ints, e))
exact_same (value.Date d) value.Null e h = absurd (omega (arith, ints, e))
exact_same (value.Date d) (value.Bool false) e h = absurd (omega (arith, ints, e))
exact_same (value.Date d) (value.Bool true) e h = absurd (omega (arith, ints, e))
exact_same (value.Date d) (value.Int n) e h = let high = (bounded n).at_most in absurd (omega (arith, ints, e))
exact_same (value.Date d) (value.Date f) e h =
    let same : min d (2 ^ 32 - 1) ≡ min f (2 ^ 32 - 1) = omega (arith, ints, e) in
    ap value.Date (day_inside d h ∙ same ∙ sym (day_inside f (ap is_exact (sym e) ∙ h)))
exact_same (value.Date d) (value.Text t) e h = absurd (omega (arith, ints, e))
exact_same (value.Text t) b e h = absurd cc
