-- Rows where they stand, each with the epoch that inserted or deleted it, in the order of these.
use Rattle.std.specs.Prelude.{ℕ, ◌≡◌, ◌<◌, ◌==◌, ◌||◌, nat_lt, Bool, false, List, length, map, filter, Option, Some}
use Rattle.std.specs.Option.{option_map_or}
use Rattle.std.specs.List.{All}
use Rattle.std.specs.List.Sorted.{IsNonDecreasingBy}
use Rattle.common_laws.specs.Bags.{SameBag}
use Rattle.col_value.specs.declared.value.Value.{Value}
use Rattle.col_value.specs.declared.row.Asked.{Asked}
use Rattle.col_value.specs.declared.row.Stamped.{Stamped}
use Rattle.col_value.specs.Order.{IsRow}
use Rattle.catch_model.specs.Added.{asked_of, inserted_in, deleted_in}
use Rattle.catch_tables.specs.Told.{History}
use Rattle.catch_tables.specs.declared.epochs.Keyed.{Keyed}

-- the row that is referred to
abbrev pub stamped_of : Keyed → Stamped
stamped_of k = k.stamped.now

abbrev pub row_of : Keyed → List Value
row_of k = (stamped_of k).row

-- the row as a DELETE asks for it
abbrev pub delete_of : Keyed → Asked
delete_of k = asked_of (stamped_of k)

-- a row with the epoch by which it is looked for: where it stands, and by itself
abbrev pub by_insert : Keyed → Stamped × ℕ
by_insert k = (stamped_of k, k.epoch)

abbrev pub own_insert : Stamped → Stamped × ℕ
own_insert s = (s, s.ins)

abbrev pub by_delete : Keyed → Stamped × Option ℕ
by_delete k = (stamped_of k, Some k.epoch)

abbrev pub own_delete : Stamped → Stamped × Option ℕ
own_delete s = (s, s.del)

-- a row was deleted after an epoch
abbrev pub is_deleted_after : ℕ → Stamped → Bool
is_deleted_after after s = option_map_or (nat_lt after) s.del false

-- those of an epoch
abbrev pub of_epoch : ℕ → List Keyed → List Keyed
of_epoch n keyed = filter (λ k. k.epoch == n) keyed

-- they stand in the order of their epochs
abbrev pub AreInOrder : List Keyed → Type 0
AreInOrder keyed = IsNonDecreasingBy (λ k. k.epoch) keyed

abbrev pub AreRows : List Keyed → Type 0
AreRows keyed = All (λ k. IsRow (row_of k)) keyed

-- for each epoch after one, the rows that it inserted
abbrev pub AreInserts : ℕ → List Stamped → List Keyed → Type 0
AreInserts after rows keyed = (n : ℕ) → after < n → SameBag (map row_of (of_epoch n keyed)) (inserted_in n rows)

-- for each epoch after one, the rows that it deleted
abbrev pub AreDeletes : ℕ → List Stamped → List Keyed → Type 0
AreDeletes after rows keyed = (n : ℕ) → after < n → SameBag (map delete_of (of_epoch n keyed)) (deleted_in n rows)

-- what was inserted into the table of a name and deleted from it
pub record Changed : Type 0 where
  pub name : List ℕ
  pub inserts : List Keyed
  pub deletes : List Keyed

abbrev pub changed : List ℕ → List Keyed → List Keyed → Changed
changed name inserts deletes = record { name = name; inserts = inserts; deletes = deletes }

-- these are what a table tells after an epoch
pub record AreChangesOf (after : ℕ) (h : History) (c : Changed) : Type 0 where
  pub name : c.name ≡ h.name
  pub inserts : AreInserts after h.rows c.inserts
  pub deletes : AreDeletes after h.rows c.deletes

abbrev pub is_some_row : List Keyed → Bool
is_some_row keyed = nat_lt 0 (length keyed)

-- an epoch inserted or deleted a row
abbrev pub has_change_in : ℕ → Changed → Bool
has_change_in n c = is_some_row (of_epoch n c.inserts) || is_some_row (of_epoch n c.deletes)

-- an epoch inserted more rows than a session may have pending
abbrev pub has_more_in : ℕ → Changed → Bool
has_more_in n c = nat_lt 16777216 (length (of_epoch n c.inserts))
