-- What is less than a value of its kind stands up to the value before it, and what is greater, from the value behind it on.
use Rattle.std.proofs.Common.{◌≡◌, ◌∙◌, ℕ, ℤ, Bool, true, false, ◌<◌, ◌≤◌, ◌<ℤ◌, ◌≤ℤ◌, refl, sym, ap, arith}
use Rattle.std.specs.Ordering.{int_cmp, is_gt, is_le, is_lt, nat_cmp, ordering_then}
use Rattle.std.specs.declared.cmp.Ordering.{Ordering}
use Rattle.std.specs.declared.cmp.Ordering.TheVariants.{Less, Equal, Greater}
use Rattle.std.proofs.lemmas.Bool.Decides.{nat_tests}
use Rattle.std.proofs.lemmas.Int.{ints}
use Rattle.col_value.specs.Order.{value_cmp, widened}
use Rattle.col_value.specs.declared.value.Value.{Value}
use Rattle.col_value.specs.declared.value.Value.TheVariants as value
use Rattle.sql_tree.specs.declared.tree.Cmp.{Cmp}
use Rattle.sql_bound.specs.Values.{compared, is_true}

then_equal : (o : Ordering) → ordering_then o Equal ≡ o
then_equal Less = refl
then_equal Equal = refl
then_equal Greater = refl

less : (k n : ℤ) → is_lt (int_cmp k n) ≡ true → k <ℤ n
less k n e = grind (arith, ints)

greater : (k n : ℤ) → is_gt (int_cmp k n) ≡ true → n <ℤ k
greater k n e = grind (arith, ints)

up : (k m : ℤ) → k ≤ℤ m → is_le (int_cmp k m) ≡ true
up k m e = grind (arith, ints)

day_less : (k n : ℕ) → is_lt (nat_cmp k n) ≡ true → k < n
day_less k n e = grind (arith, nat_tests)

day_greater : (k n : ℕ) → is_gt (nat_cmp k n) ≡ true → n < k
day_greater k n e = grind (arith, nat_tests)

day_up : (k m : ℕ) → k ≤ m → is_le (nat_cmp k m) ≡ true
day_up k m e = grind (arith, nat_tests)

pub below_number : (v : Value) (n m : ℤ) → ((k : ℤ) → k <ℤ n → k ≤ℤ m) → is_true (compared Cmp.Lt (widened v) (widened (value.Int n))) ≡ true → is_le (value_cmp v (value.Int m)) ≡ true
below_number value.Null n m near e = absurd cc
below_number (value.Bool b) n m near e = absurd cc
below_number (value.Int k) n m near e = ap is_le (then_equal (int_cmp k m)) ∙ up k m (near k (less k n (sym (ap is_lt (then_equal (int_cmp k n))) ∙ e)))
below_number (value.Date d) n m near e = absurd cc
below_number (value.Text t) n m near e = absurd cc

pub above_number : (v : Value) (n m : ℤ) → ((k : ℤ) → n <ℤ k → m ≤ℤ k) → is_true (compared Cmp.Gt (widened v) (widened (value.Int n))) ≡ true → is_le (value_cmp (value.Int m) v) ≡ true
above_number value.Null n m near e = absurd cc
above_number (value.Bool b) n m near e = absurd cc
above_number (value.Int k) n m near e = ap is_le (then_equal (int_cmp m k)) ∙ up m k (near k (greater k n (sym (ap is_gt (then_equal (int_cmp k n))) ∙ e)))
above_number (value.Date d) n m near e = absurd cc
above_number (value.Text t) n m near e = absurd cc

pub below_day : (v : Value) (n m : ℕ) → ((k : ℕ) → k < n → k ≤ m) → is_true (compared Cmp.Lt (widened v) (widened (value.Date n))) ≡ true → is_le (value_cmp v (value.Date m)) ≡ true
below_day value.Null n m near e = absurd cc
below_day (value.Bool b) n m near e = absurd cc
below_day (value.Int k) n m near e = absurd cc
below_day (value.Date d) n m near e = ap is_le (then_equal (nat_cmp d m)) ∙ day_up d m (near d (day_less d n (sym (ap is_lt (then_equal (nat_cmp d n))) ∙ e)))
below_day (value.Text t) n m near e = absurd cc

pub above_day : (v : Value) (n m : ℕ) → ((k : ℕ) → n < k → m ≤ k) → is_true (compared Cmp.Gt (widened v) (widened (value.Date n))) ≡ true → is_le (value_cmp (value.Date m) v) ≡ true
above_day value.Null n m near e = absurd cc
above_day (value.Bool b) n m near e = absurd cc
above_day (value.Int k) n m near e = absurd cc
above_day (value.Date d) n m near e = ap is_le (then_equal (nat_cmp m d)) ∙ day_up m d (near d (day_greater d n (sym (ap is_gt (then_equal (nat_cmp d n))) ∙ e)))
above_day (value.Text t) n m near e = absurd cc

pub below_truth : (v : Value) (b : Bool) → is_true (compared Cmp.Lt (widened v) (widened (value.Bool b))) ≡ true → is_le (value_cmp v (value.Bool false)) ≡ true
below_truth value.Null b e = absurd cc
below_truth (value.Bool false) b e = refl
below_truth (value.Bool true) true e = absurd cc
below_truth (value.Bool true) false e = absurd cc
below_truth (value.Int k) b e = absurd cc
below_truth (value.Date d) b e = absurd cc
below_truth (value.Text t) b e = absurd cc

pub above_truth : (v : Value) (b : Bool) → is_true (compared Cmp.Gt (widened v) (widened (value.Bool b))) ≡ true → is_le (value_cmp (value.Bool true) v) ≡ true
above_truth value.Null b e = absurd cc
above_truth (value.Bool true) b e = refl
above_truth (value.Bool false) true e = absurd cc
above_truth (value.Bool false) false e = absurd cc
above_truth (value.Int k) b e = absurd cc
above_truth (value.Date d) b e = absurd cc
above_truth (value.Text t) b e = absurd cc
