-- Places of rows that are picked for what is wanted.
use Rattle.std.specs.Prelude.{ℕ, ◌≡◌, ◌+◌, ◌<◌, ◌≤◌, Bool, false, List, [], ◌∷◌, length, map, get_or, Option, Some, None, IfSome}
use Rattle.std.specs.Bool.{OnTrue, OnFalse}
use Rattle.std.specs.List.{All}
use Rattle.col_value.specs.declared.row.Asked.{Asked}
use Rattle.write_store.specs.declared.held.Held.{Held}
use Rattle.write_store.specs.declared.held.Inserted.{Inserted}
use Rattle.write_store.specs.Memory.{is_in}
use Rattle.wanted_rows.specs.Wanted.{tally, Adds, Tries, asked_in}

abbrev pub blank : Asked
blank = record { row = []; ins = 0 }

-- rows without their delete epochs, and the delete epoch at a place
abbrev pub asked_of : List Held → List Asked
asked_of held = map (λ h. asked_in h.inserted) held

abbrev pub del_at : List Held → ℕ → Option ℕ
del_at held i = get_or (map (λ h. h.del) held) i None

-- the rows at places
abbrev pub at_places : List Asked → List ℕ → List Asked
at_places rows places = map (λ p. get_or rows p blank) places

-- each is later than those before it
abbrev pub Rise : List ℕ → Type 0
Rise [] = Unit {0}
Rise (p ∷ ps) = All (λ q. p < q) ps × Rise ps

-- there is a row, and it isn't deleted
pub record IsUndeleted (mark : ℕ → Option ℕ) (rows : List Asked) (p : ℕ) : Type 0 where
  pub here : p < length rows
  pub live : mark p ≡ None

-- a row that isn't deleted is taken where it is wanted, and otherwise nothing changes
pub record TriesPlace (taken : Bool) (del : Option ℕ) (a : Asked) (old new : Asked → ℕ) : Type 0 where
  pub live : OnTrue taken (del ≡ None)
  pub took : OnTrue taken (Adds a new old)
  pub same : OnFalse taken ((q : Asked) → new q ≡ old q)
  pub none : OnFalse taken (del ≡ None → new a ≡ 0)

-- Of the rows before a place these are picked: distinct places of rows that aren't deleted; each of these was wanted and isn't any
-- more; and no other row that isn't deleted is wanted still.
pub record PicksBefore (i : ℕ) (mark : ℕ → Option ℕ) (rows : List Asked) (places : List ℕ) (old new : Asked → ℕ) : Type 0 where
  pub rise : Rise places
  pub before : All (λ p. p < i) places
  pub live : All (IsUndeleted mark rows) places
  pub taken : (q : Asked) → old q ≡ tally q (at_places rows places) + new q
  pub none : (j : ℕ) → j < i → j < length rows → mark j ≡ None → is_in j places ≡ false → new (get_or rows j blank) ≡ 0

abbrev pub Picks : (ℕ → Option ℕ) → List Asked → List ℕ → (Asked → ℕ) → (Asked → ℕ) → Type 0
Picks mark rows places old new = PicksBefore (length rows) mark rows places old new

-- Candidates among rows that stand in a list from a place on: one that is there is the row, which isn't deleted, and where none is
-- there the row is deleted or isn't wanted.
pub record StandFrom (first : ℕ) (mark : ℕ → Option ℕ) (all : List Asked) (need : Asked → ℕ) (some : List (Option Inserted)) : Type 0 where
  pub within : first + length some ≤ length all
  pub there : (i : ℕ) → i < length some → IfSome (get_or some i None) (λ r. (asked_in r ≡ get_or all (first + i) blank) × (mark (first + i) ≡ None))
  pub rest : (i : ℕ) → i < length some → get_or some i None ≡ None → mark (first + i) ≡ None → need (get_or all (first + i) blank) ≡ 0

-- where places of the rows before them are picked, those of the candidates come to them
abbrev pub PicksFrom : ℕ → List (Option Inserted) → List ℕ → List ℕ → (Asked → ℕ) → (Asked → ℕ) → Type 0
PicksFrom first some old new need left =
    (mark : ℕ → Option ℕ) (all : List Asked) → StandFrom first mark all need some → (start : Asked → ℕ) → PicksBefore first mark all old start need → PicksBefore (first + length some) mark all new start left

-- a candidate is taken where it is wanted, and where none is there nothing changes
abbrev pub TriesSome : Bool → Option Inserted → (Asked → ℕ) → (Asked → ℕ) → Type 0
TriesSome taken None old new = (taken ≡ false) × ((q : Asked) → new q ≡ old q)
TriesSome taken (Some r) old new = Tries taken (asked_in r) old new
