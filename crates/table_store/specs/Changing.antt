-- What a commit does to projections.
use Rattle.std.specs.Prelude.{ℕ, ◌≡◌, ◌≤◌, ◌==◌, if◌then◌else◌, Bool, true, false, List, [], ◌∷◌, length, map, slice_index_or, Option, Some, None, IsSomeAnd}
use Rattle.std.specs.Bool.{OnTrue, OnFalse}
use Rattle.std.specs.List.{list_all, enumerate_from}
use Rattle.catalog_types.specs.declared.catalogue.ProjColumn.{ProjColumn}
use Rattle.common_laws.specs.Maps.{Contents}
use Rattle.col_value.specs.declared.value.Value.{Value}
use Rattle.col_value.specs.declared.row.Asked.{Asked}
use Rattle.col_value.specs.Order.{projected}
use Rattle.row_history.specs.History.{inserted_at, asked_on}
use Rattle.stored_rows.specs.Stored.{Projected, with_rows}
use Rattle.proj_store.specs.Loaded.{Loaded}
use Rattle.proj_store.specs.Marking.{Places, IsPrepared, CanMark, with_marks}
use Rattle.folder_model.specs.Projections.{ordinals}
use Rattle.sound_laws.specs.Moves.{change_at}

-- rows that come, and the places of rows that are deleted, if any are asked for
pub record Ready : Type 0 where
  pub rows : List (List Value)
  pub marks : Option Places

-- the rows that a projection gets: those of the table itself where it takes them, or rows of its own
abbrev pub coming : Bool → List (List Value) → List (List Value) → List (List Value)
coming takes rows own = if takes then rows else own

-- what is ready for a projection, with the rows that it gets
abbrev pub with_coming : Bool → List (List Value) → Option Ready → Option Ready
with_coming takes rows None = None
with_coming takes rows (Some r) = Some (record r { rows = coming takes rows r.rows })

-- the projection that takes the rows, if there is one, stands at this place
abbrev pub is_at : Option ℕ → ℕ → Bool
is_at None i = false
is_at (Some place) i = place == i

-- what is ready for all projections of a table, where that one gets its rows
abbrev pub all_coming : Option ℕ → List (List Value) → List (Option Ready) → List (Option Ready)
all_coming None rows os = os
all_coming (Some place) rows os = change_at place (with_coming true rows) os

-- the columns are the table's first ones in their order
abbrev pub in_order : List ProjColumn → Bool
in_order columns = list_all (λ e. e.1.ordinal == e.0) (enumerate_from 0 columns)

-- rows of the table are those of a projection, and so for the projection at a place
abbrev pub AreWhole : List (List Value) → Projected → Type 0
AreWhole rows p = map (λ row. projected row (ordinals p.entry)) rows ≡ rows

abbrev pub AreWholeAt : List (List Value) → List Projected → ℕ → Type 0
AreWholeAt rows ps i = (p : Projected) → p ≡ slice_index_or ps i p → AreWhole rows p

-- a projection whose rows at some places are deleted, if any are asked for
abbrev pub deleted_from : ℕ → Option Places → Projected → Projected
deleted_from epoch None p = p
deleted_from epoch (Some places) p = with_marks epoch places p

-- a projection after a commit; nothing is done to one that isn't up to date
abbrev pub applied : ℕ → Option Ready → Projected → Projected
applied epoch None p = p
applied epoch (Some r) p = with_rows (map (inserted_at epoch) r.rows) (deleted_from epoch r.marks p)

-- there is room for the marks, and for them and the rows
abbrev pub CanDelete : Option Places → Loaded → Type 0
CanDelete None p = Unit {0}
CanDelete (Some places) p = CanMark places p

abbrev pub CanApply : Option Ready → Loaded → Type 0
CanApply None p = Unit {0}
CanApply (Some r) p = CanDelete r.marks p × (length r.rows ≤ p.spare)

-- these rows are deleted: there is none, or their places are found
abbrev pub AreFound : Contents → Projected → List Asked → Option Places → Type 0
AreFound m p wanted None = wanted ≡ []
AreFound m p wanted (Some places) = IsPrepared m p wanted places

-- for these rows and deletes of the table, with the projection's columns
pub record IsReadyWith (m : Contents) (rows : List (List Value)) (deletes : List Asked) (p : Projected) (r : Ready) : Type 0 where
  pub rows_are : r.rows ≡ map (λ row. projected row (ordinals p.entry)) rows
  pub marks_are : AreFound m p (map (asked_on (ordinals p.entry)) deletes) r.marks

pub record IsReady (m : Contents) (rows : List (List Value)) (deletes : List Asked) (p : Projected) (o : Option Ready) : Type 0 where
  pub fresh : OnTrue p.entry.fresh (IsSomeAnd o (IsReadyWith m rows deletes p))
  pub stale : OnFalse p.entry.fresh (o ≡ None)

-- each beside the one that it belongs to; the others stay
abbrev pub zipped : {Y P : Type 0} → (Y → P → P) → List Y → List P → List P
zipped g [] ps = ps
zipped g (y ∷ ys) [] = []
zipped g (y ∷ ys) (p ∷ ps) = g y p ∷ zipped g ys ps

-- what is made ready beside each projection of a table, and that beside each table
abbrev pub all_applied : ℕ → List (Option Ready) → List Projected → List Projected
all_applied epoch ready ps = zipped (applied epoch) ready ps

abbrev pub tables_applied : ℕ → List (List (Option Ready)) → List (List Projected) → List (List Projected)
tables_applied epoch ready pss = zipped (all_applied epoch) ready pss
