-- Rows of a table, made of those of a projection that has all its columns, and those of them that match.
use Rattle.std.specs.Prelude.{ℕ, ◌≡◌, ◌<◌, ◌+◌, ◌++◌, if◌then◌else◌, true, false, Bool, List, [], ◌∷◌, length, map, filter, drop, Option, Some, None, slice_index_or, IsSomeAnd}
use Rattle.std.specs.List.{All, slice_get}
use Rattle.common_laws.specs.Bags.{SameBag}
use Rattle.col_value.specs.declared.row.Asked.{Asked}
use Rattle.col_value.specs.declared.row.Stamped.{Stamped}
use Rattle.col_value.specs.declared.value.Value.{Value}
use Rattle.row_history.specs.History.{is_visible}
use Rattle.sql_bound.specs.declared.expr.Expr.{Expr}
use Rattle.sql_bound.specs.Outputs.{is_kept}
use Rattle.db_model.specs.State.{Changes, pending_deletes, pending_rows}
use Rattle.stored_rows.specs.Stored.{Projected}
use Rattle.folder_model.specs.Projections.{ordinals}
use Rattle.query_cover.specs.Seen.{placed}
use Rattle.wanted_rows.specs.Wanted.{tally, Tries}

-- for each of so many columns of the table its place among the columns of a projection
pub record ArePlaces (columns : List ℕ) (count : ℕ) (places : List (Option ℕ)) : Type 0 where
  pub long : length places ≡ count
  pub each : (c : ℕ) → c < count → IsSomeAnd (slice_index_or places c None) (λ i. slice_get columns i ≡ Some c)

-- a projection that is up to date, and where it has all columns of its table
pub record IsSource (count : ℕ) (places : List (Option ℕ)) (p : Projected) : Type 0 where
  pub fresh : p.entry.fresh ≡ true
  pub own : ArePlaces (ordinals p.entry) count places

-- a row with its insert epoch
abbrev pub asked : List Value → ℕ → Asked
asked row ins = record { row = row; ins = ins }

-- a row of the table, made of the projection's
abbrev pub seen_row : List (Option ℕ) → Stamped → Asked
seen_row places s = asked (placed places s.row) s.ins

-- those of the rows that are visible at an epoch
abbrev pub seen_rows : ℕ → List (Option ℕ) → List Stamped → List Asked
seen_rows epoch places rows = map (seen_row places) (filter (is_visible epoch) rows)

-- all conditions are true on a row
abbrev pub matches : List Expr → Asked → Bool
matches keep a = is_kept keep a.row

-- where rows are the gone ones and some others, in whatever order, these are those of the others that match
abbrev pub AreOthers : List Expr → List Asked → List Asked → List Asked → Type 0
AreOthers keep gone rows found = (rest : List Asked) → SameBag rows (gone ++ rest) → SameBag found (filter (matches keep) rest)

-- a row that is still to be taken out is counted, and another one is kept
abbrev pub Keeps : Asked → List Asked → List Asked → (Asked → ℕ) → (Asked → ℕ) → Type 0
Keeps a out next need less = (taken : Bool) × Tries taken a need less × (next ≡ (if taken then out else out ++ a ∷ []))

-- so it is of a row that matches, and another one is passed over
abbrev pub Sifts : Bool → Asked → List Asked → List Asked → (Asked → ℕ) → (Asked → ℕ) → Type 0
Sifts true a out next need less = Keeps a out next need less
Sifts false a out next need less = (next ≡ out) × ((q : Asked) → less q ≡ need q)

-- Of rows that were seen these were kept: with those that are still to be taken out they are the ones that match and those that were to be
-- taken out at first; they match; and none of them is still to be taken out.
pub record Sifted (keep : List Expr) (first : Asked → ℕ) (seen : List Asked) (need : Asked → ℕ) (out : List Asked) : Type 0 where
  pub counts : (q : Asked) → tally q (filter (matches keep) seen) + need q ≡ tally q out + first q
  pub kept : All (λ r. matches keep r ≡ true) out
  pub none : All (λ r. need r ≡ 0) out

-- so it is with some more rows
abbrev pub SiftsMore : List Expr → List Asked → (Asked → ℕ) → List Asked → (Asked → ℕ) → List Asked → Type 0
SiftsMore keep more need out less next = (first : Asked → ℕ) (seen : List Asked) → Sifted keep first seen need out → Sifted keep first (seen ++ more) less next

-- rows with their insert epochs
abbrev pub told_rows : List (List Value) → List ℕ → List Asked
told_rows [] inserted = []
told_rows (row ∷ rows) inserted = asked row (slice_index_or inserted 0 0) ∷ told_rows rows (drop 1 inserted)

-- the rows that match, of what a projection stores and of what the session has changed
pub record AreFound (keep : List Expr) (epoch : ℕ) (places : List (Option ℕ)) (rows : List Stamped) (changes : List Changes) (name : List ℕ) (committed : List Asked) (pending : List (List Value)) : Type 0 where
  pub committed_are : AreOthers keep (pending_deletes name changes) (seen_rows epoch places rows) committed
  pub pending_are : pending ≡ filter (is_kept keep) (pending_rows name changes)
