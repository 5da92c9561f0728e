-- Rows that go to a run of a query, one by one.
use Rattle.std.specs.Prelude.{◌≡◌, ℕ, ◌+◌, ◌++◌, false, List, [], ◌∷◌, length, map}
use Rattle.std.specs.List.{All, AllZip}
use Rattle.common_laws.specs.Bags.{SameBag}
use Rattle.col_value.specs.declared.row.Asked.{Asked}
use Rattle.col_value.specs.declared.value.Value.{Value}
use Rattle.sql_tree.specs.declared.query.At.{At}
use Rattle.sql_bound.specs.declared.query.FromItem.{FromItem}
use Rattle.sql_bound.specs.declared.query.BoundQuery.{BoundQuery}
use Rattle.row_bounds.specs.Bounds.{within}
use Rattle.row_bounds.specs.declared.bound.Bound.{Bound}
use Rattle.db_model.specs.Database.{Database}
use Rattle.db_model.specs.State.{Changes}
use Rattle.query_run.specs.Runs.{HasTaken}
use Rattle.query_run.specs.declared.run.Run.{Run}
use Rattle.wanted_rows.specs.Wanted.{tally}
use Rattle.store_query.specs.Lessening.{asked, AreGone}
use Rattle.store_query.specs.Reading.{Suffice}

-- a run takes these rows
abbrev pub TakesRows : BoundQuery → List (List Value) → Run → Run → Type 0
TakesRows q rows old new = (more : List (List (List Value))) (taken : List (List Value)) → HasTaken q more taken old → HasTaken q more (taken ++ rows) new

-- So many of each row were to be taken out of what comes, and so many still are. These rows came; the run took those that weren't taken
-- out, and none of them is still to be taken out.
pub record HasFed (q : BoundQuery) (more : List (List (List Value))) (first : Asked → ℕ) (rows : List (List Value)) (need : Asked → ℕ) (r : Run) : Type 0 where
  pub out : List (List Value)
  pub taken : HasTaken q more out r
  pub counts : (a : Asked) → tally a (map asked rows) + need a ≡ tally a (map asked out) + first a
  pub none : All (λ row. need (asked row) ≡ 0) out

-- so it is still where these rows come, too
abbrev pub Feeds : BoundQuery → List (List Value) → (Asked → ℕ) → Run → (Asked → ℕ) → Run → Type 0
Feeds q rows need old less new = (more : List (List (List Value))) (first : Asked → ℕ) (came : List (List Value)) → HasFed q more first came need old → HasFed q more first (came ++ rows) less new

-- a row of so many values lies out of bounds
abbrev pub IsBeyond : List Bound → ℕ → List Value → Type 0
IsBeyond bounds columns row = (length row ≡ columns) × (within bounds row ≡ false)

-- of some rows these came; the others were passed over, and each of them has so many values and lies out of the bounds
pub record Passes (bounds : List Bound) (columns : ℕ) (rows came : List (List Value)) : Type 0 where
  pub passed : List (List Value)
  pub parts : SameBag rows (came ++ passed)
  pub beyond : All (IsBeyond bounds columns) passed

-- a run to which no row has come takes those of the rows that come, without those of which so many are to be taken out
abbrev pub TakesLess : BoundQuery → List Bound → ℕ → (Asked → ℕ) → List (List Value) → Run → Run → Type 0
TakesLess q bounds columns need rows old new =
    (more : List (List (List Value))) → HasTaken q more [] old → (came : List (List Value)) × (less : List (List Value)) × Passes bounds columns rows came × AreGone need came less × HasTaken q more less new

-- a run to which no row of a FROM item has come takes rows that suffice for the item
abbrev pub TakesItem : At → List Changes → BoundQuery → Database → FromItem → Run → Run → Type 0
TakesItem at changes q d f old new = (more : List (List (List Value))) → HasTaken q more [] old → (rows : List (List Value)) × Suffice at changes q d f rows × HasTaken q more rows new

-- a run took rows of the first of these FROM items, and holds rows of the others, that suffice for them
pub record HasRead (at : At) (changes : List Changes) (q : BoundQuery) (d : Database) (items : List FromItem) (r : Run) : Type 0 where
  pub rows : List (List Value)
  pub more : List (List (List Value))
  pub suffice : AllZip (Suffice at changes q d) items (rows ∷ more)
  pub taken : HasTaken q more rows r
