-- Whether a sum is too great is decided.
use Rattle.std.proofs.Common.{◌≡◌, ◌<◌, ℕ, zero, suc, inl, inr, Bool, true, false, List, [], ◌∷◌, refl, subst, sym, arith}
use Rattle.std.specs.Prelude.{◌⊎◌, Contains, filter, zip}
use Rattle.col_value.specs.declared.value.Value.{Value}
use Rattle.sql_tree.specs.declared.tree.AggKind.{AggKind}
use Rattle.sql_bound.specs.declared.query.Aggregate.{Aggregate}
use Rattle.sql_bound.specs.declared.query.BoundQuery.{BoundQuery}
use Rattle.sql_bound.specs.declared.query.BoundWindow.{BoundWindow}
use Rattle.sql_bound.specs.Bounds.{result_bound}
use Rattle.sql_bound.specs.Outputs.{group_keys, in_partition, kept, members, seen_rows, size_of, values_over, HasGreatGroup, HasGreatPartition, IsGreatSum, IsSumTooGreat}

abbrev pub Decided : Type 0 → Type 0
Decided P = P ⊎ (P → ⊥)

pub decided_as : (P Q : Type 0) → (P → Q) → (Q → P) → Decided P → Decided Q
decided_as P Q to from (inl is) = inl (to is)
decided_as P Q to from (inr never) = inr (λ q. never (from q))

pub both_decided : (P Q : Type 0) → Decided P → Decided Q → Decided (P × Q)
both_decided P Q (inl p) (inl q) = inl (p, q)
both_decided P Q (inl p) (inr never) = inr (λ x. never x.1)
both_decided P Q (inr never) other = inr (λ x. never x.0)

pub less_decided : (m n : ℕ) → Decided (m < n)
less_decided m zero = inr (λ h. absurd (omega (arith, h)))
less_decided zero (suc n) = inl (omega arith)
less_decided (suc m) (suc n) = decided_as (m < n) (suc m < suc n) (λ h. omega (arith, h)) (λ h. omega (arith, h)) (less_decided m n)

pub true_decided : (b : Bool) → Decided (b ≡ true)
true_decided true = inl refl
true_decided false = inr (λ h. cc)

false_decided : (b : Bool) → Decided (b ≡ false)
false_decided false = inl refl
false_decided true = inr (λ h. cc)

either_decided : (P Q : Type 0) → Decided P → Decided Q → Decided (P ⊎ Q)
either_decided P Q (inl p) other = inl (inl p)
either_decided P Q (inr never) (inl q) = inl (inr q)
either_decided P Q (inr never) (inr neither) = inr (neither_of never neither)
  where
    neither_of : (P → ⊥) → (Q → ⊥) → P ⊎ Q → ⊥
    neither_of first second (inl p) = first p
    neither_of first second (inr q) = second q

-- ---- some element of a list

abbrev Some_of : {X : Type 0} → (X → Type 0) → List X → Type 0
Some_of {X} P xs = (x : X) × Contains xs x × P x

nobody : {X : Type 0} (P : X → Type 0) → Some_of P [] → ⊥
nobody P (x, (k, lt, at), is) = absurd (omega (arith, lt))

not_first : {X : Type 0} (P : X → Type 0) (x : X) (xs : List X) → (P x → ⊥) → Some_of P (x ∷ xs) → Some_of P xs
not_first P x xs never (y, (zero, lt, at), is) = absurd (never (subst P (sym at) is))
not_first P x xs never (y, (suc k, lt, at), is) = (y, (k, omega (arith, lt), at), is)

later : {X : Type 0} (P : X → Type 0) (x : X) (xs : List X) → Some_of P xs → Some_of P (x ∷ xs)
later P x xs (y, (k, lt, at), is) = (y, (suc k, omega (arith, lt), at), is)

first_or : {X : Type 0} (P : X → Type 0) (x : X) (xs : List X) → Decided (P x) → Decided (Some_of P xs) → Decided (Some_of P (x ∷ xs))
first_or P x xs (inl is) rest = inl (x, (zero, omega arith, refl), is)
first_or P x xs (inr never) rest = decided_as (Some_of P xs) (Some_of P (x ∷ xs)) (later P x xs) (not_first P x xs never) rest

some_decided : {X : Type 0} (P : X → Type 0) → ((x : X) → Decided (P x)) → (xs : List X) → Decided (Some_of P xs)
some_decided P each [] = inr (nobody P)
some_decided P each (x ∷ xs) = first_or P x xs (each x) (some_decided P each xs)

-- ---- a sum

is_sum : (kind : AggKind) → Decided (kind ≡ AggKind.Sum)
is_sum AggKind.CountAll = inr (λ h. cc)
is_sum AggKind.Count = inr (λ h. cc)
is_sum AggKind.Sum = inl refl
is_sum AggKind.Min = inr (λ h. cc)
is_sum AggKind.Max = inr (λ h. cc)

great_decided : (rows : List (List Value)) (a : Aggregate) → Decided (IsGreatSum rows a)
great_decided rows a = both_decided (a.kind ≡ AggKind.Sum) (result_bound < size_of (values_over a.arg rows)) (is_sum a.kind) (less_decided result_bound (size_of (values_over a.arg rows)))

-- in a group some sum is too great
abbrev InGroup : BoundQuery → List (List (List Value)) → List Value → Type 0
InGroup q inputs group = Some_of (IsGreatSum (members q.keys group (kept q inputs))) q.aggs

group_decided : (q : BoundQuery) (inputs : List (List (List Value))) (group : List Value) → Decided (InGroup q inputs group)
group_decided q inputs group = some_decided (IsGreatSum (members q.keys group (kept q inputs))) (great_decided (members q.keys group (kept q inputs))) q.aggs

to_group : (q : BoundQuery) (inputs : List (List (List Value))) → (q.grouped ≡ true) × Some_of (InGroup q inputs) (group_keys q.keys (kept q inputs)) → HasGreatGroup q (kept q inputs)
to_group q inputs (grouped, (group, there, (a, own, great))) = (grouped, group, a, there, own, great)

from_group : (q : BoundQuery) (inputs : List (List (List Value))) → HasGreatGroup q (kept q inputs) → (q.grouped ≡ true) × Some_of (InGroup q inputs) (group_keys q.keys (kept q inputs))
from_group q inputs (grouped, group, a, there, own, great) = (grouped, (group, there, (a, own, great)))

-- or in a partition of a window
abbrev InPartition : BoundQuery → List (List (List Value)) → BoundWindow × Aggregate → List Value → Type 0
InPartition q inputs p row = IsGreatSum (filter (in_partition p.0 row) (seen_rows q (kept q inputs))) p.1

abbrev InWindow : BoundQuery → List (List (List Value)) → BoundWindow × Aggregate → Type 0
InWindow q inputs p = Some_of (InPartition q inputs p) (seen_rows q (kept q inputs))

window_decided : (q : BoundQuery) (inputs : List (List (List Value))) (p : BoundWindow × Aggregate) → Decided (InWindow q inputs p)
window_decided q inputs p = some_decided (InPartition q inputs p) (λ row. great_decided (filter (in_partition p.0 row) (seen_rows q (kept q inputs))) p.1) (seen_rows q (kept q inputs))

to_window : (q : BoundQuery) (inputs : List (List (List Value))) → (q.grouped ≡ false) × Some_of (InWindow q inputs) (zip q.windows q.aggs) → HasGreatPartition q (kept q inputs)
to_window q inputs (plain, (p, there, (row, inside, great))) = (plain, p, row, there, inside, great)

from_window : (q : BoundQuery) (inputs : List (List (List Value))) → HasGreatPartition q (kept q inputs) → (q.grouped ≡ false) × Some_of (InWindow q inputs) (zip q.windows q.aggs)
from_window q inputs (plain, p, row, there, inside, great) = (plain, (p, there, (row, inside, great)))

pub sum_decided : (q : BoundQuery) (inputs : List (List (List Value))) → Decided (IsSumTooGreat q inputs)
sum_decided q inputs =
    either_decided (HasGreatGroup q (kept q inputs)) (HasGreatPartition q (kept q inputs))
    (decided_as ((q.grouped ≡ true) × Some_of (InGroup q inputs) (group_keys q.keys (kept q inputs))) (HasGreatGroup q (kept q inputs)) (to_group q inputs) (from_group q inputs)
    (both_decided (q.grouped ≡ true) (Some_of (InGroup q inputs) (group_keys q.keys (kept q inputs))) (true_decided q.grouped) (some_decided (InGroup q inputs) (group_decided q inputs) (group_keys q.keys (kept q inputs)))))
    (decided_as ((q.grouped ≡ false) × Some_of (InWindow q inputs) (zip q.windows q.aggs)) (HasGreatPartition q (kept q inputs)) (to_window q inputs) (from_window q inputs)
    (both_decided (q.grouped ≡ false) (Some_of (InWindow q inputs) (zip q.windows q.aggs)) (false_decided q.grouped) (some_decided (InWindow q inputs) (window_decided q inputs) (zip q.windows q.aggs))))
