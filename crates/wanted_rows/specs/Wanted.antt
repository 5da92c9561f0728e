-- How often a row, with its insert epoch, is wanted still.
pub use Rattle.write_store.specs.Order.{inserted_cmp}
use Rattle.std.specs.Prelude.{ℕ, ◌≡◌, ◌+◌, Bool, List, [], ◌∷◌, ◌++◌, count_by, if◌then◌else◌, unwrap_or, slice_get, Some}
use Rattle.std.specs.Bool.{OnTrue, OnFalse}
use Rattle.std.specs.Ordering.{nat_cmp, ordering_then, is_eq}
use Rattle.std.specs.Map.{lookup}
use Rattle.col_value.specs.Order.{row_cmp}
use Rattle.col_value.specs.declared.row.Asked.{Asked}
use Rattle.write_store.specs.declared.held.Inserted.{Inserted}

-- the same row of the same epoch
abbrev pub is_same : Asked → Asked → Bool
is_same a b = is_eq (ordering_then (nat_cmp a.ins b.ins) (row_cmp a.row b.row))

abbrev pub one_of : Asked → Asked → ℕ
one_of a q = if is_same a q then 1 else 0

-- how often it stands in a list
abbrev pub tally : Asked → List Asked → ℕ
tally q asked = count_by (λ a. is_same a q) asked

abbrev pub asked_in : Inserted → Asked
asked_in k = record { row = k.row; ins = k.ins }

abbrev pub inserted : Asked → Inserted
inserted a = record { ins = a.ins; row = a.row }

-- how often it is wanted, by the entries of a map of counts
abbrev pub count_in : List (Inserted × ℕ) → Asked → ℕ
count_in es q = unwrap_or (lookup (λ k. is_eq (inserted_cmp (inserted q) k)) es) 0

-- how many rows are counted
abbrev pub total : List (Inserted × ℕ) → ℕ
total [] = 0
total (e ∷ es) = e.1 + total es

-- rows that are wanted: some that stand one by one, and some that are counted
pub record Needed : Type 0 where
  pub rows : List Asked
  pub counts : List (Inserted × ℕ)

abbrev pub needed : List Asked → List (Inserted × ℕ) → Needed
needed rows counts = record { rows = rows; counts = counts }

-- how often a row is wanted
abbrev pub need_in : Needed → Asked → ℕ
need_in needs q = tally q needs.rows + count_in needs.counts q

-- a row stands last
abbrev pub IsLast : List Asked → Asked → Type 0
IsLast rows a = (rest : List Asked) × (rows ≡ rest ++ a ∷ [])

-- it is the one that is expected next
abbrev pub IsNext : Needed → Asked → Type 0
IsNext needs a = IsLast needs.rows a

-- what a row more or less makes of how often each is wanted
abbrev pub Adds : Asked → (Asked → ℕ) → (Asked → ℕ) → Type 0
Adds a less more = (q : Asked) → more q ≡ one_of a q + less q

-- the row at a place is counted n times, and each other row as before
pub record SetsAt (place n : ℕ) (old new : List (Inserted × ℕ)) : Type 0 where
  pub each : (k : Inserted) (was : ℕ) → slice_get old place ≡ Some (k, was) → (q : Asked) → count_in new q ≡ (if is_same (asked_in k) q then n else count_in old q)
  pub all : (k : Inserted) (was : ℕ) → slice_get old place ≡ Some (k, was) → total new + was ≡ total old + n

-- a row is taken where it is wanted, and otherwise nothing changes
pub record Tries (taken : Bool) (a : Asked) (old new : Asked → ℕ) : Type 0 where
  pub took : OnTrue taken (Adds a new old)
  pub same : OnFalse taken ((q : Asked) → new q ≡ old q)
  pub none : OnFalse taken (old a ≡ 0)
