-- The stored rows of a folder that are judged, and when one is good.
use Rattle.std.specs.Prelude.{ℕ, ◌≡◌, ◌<◌, List, [], ◌∷◌, IsSomeAnd, IfSome}
use Rattle.std.specs.List.{All, AllZip, slice_get}
use Rattle.common_laws.specs.Maps.{Contents}
use Rattle.catalog_types.specs.declared.catalogue.Container.{Container}
use Rattle.catalog_types.specs.declared.catalogue.ProjColumn.{ProjColumn}
use Rattle.catalog_types.specs.declared.catalogue.Projection.{Projection}
use Rattle.catalog_types.specs.declared.catalogue.Table.{Table}
use Rattle.catalog_types.specs.declared.catalogue.Catalogue.{Catalogue}
use Rattle.catalog_types.specs.Reached.{least_lge}
use Rattle.col_value.specs.declared.row.Stamped.{Stamped}
use Rattle.col_value.specs.declared.value.Value.{Value}
use Rattle.col_value.specs.Order.{IsRow}
use Rattle.db_model.specs.Sound.{ValueFits}
use Rattle.del_vector.specs.declared.mark.Mark.{Mark}
use Rattle.del_vector.specs.Marks.{epoch_at}
use Rattle.ros_container.specs.Encodings.{written_of}
use Rattle.row_history.specs.History.{cut_rows, retained}
use Rattle.stored_rows.specs.Held.{HoldsVector, HoldsMarked, Holds}
use Rattle.audit_model.specs.Listed.{Place}

-- rows cut at an epoch, from a mark on
abbrev pub judged_in : ℕ → ℕ → List Stamped → List Stamped
judged_in epoch mark rows = retained mark (cut_rows epoch rows)

-- the epoch up to which every up-to-date projection has all its rows on disk, and the ancient history mark
abbrev pub judged : Catalogue → List Stamped → List Stamped
judged c rows = judged_in (least_lge c) c.ahm rows

-- a value fits the column of the table that the projection's column is
abbrev pub FitsColumn : Table → ProjColumn → Value → Type 0
FitsColumn t k v = IsSomeAnd (slice_get t.columns k.ordinal) (λ column. ValueFits column v)

-- a row of a projection of a table: it fits the projection's columns and, once deleted, was deleted later than it was inserted
pub record IsGoodRow (t : Table) (p : Projection) (s : Stamped) : Type 0 where
  pub values : IsRow s.row
  pub each : AllZip (FitsColumn t) p.columns s.row
  pub later : IfSome s.del (λ d. s.ins < d)

-- what is judged of a stored row is good
abbrev pub IsGoodIn : ℕ → ℕ → Table → Projection → Stamped → Type 0
IsGoodIn epoch mark t p s = All (IsGoodRow t p) (judged_in epoch mark (s ∷ []))

abbrev pub IsGood : Catalogue → Table → Projection → Stamped → Type 0
IsGood c t p s = IsGoodIn (least_lge c) c.ahm t p s

-- the files of a container hold these rows
abbrev pub HoldsHere : Contents → Projection → Container → List Stamped → Type 0
HoldsHere m p k rows = (marks : List Mark) × HoldsVector m k marks × HoldsMarked m (written_of p) k (epoch_at marks) rows

-- and each of them is good
abbrev pub IsGoodPlaceIn : Contents → ℕ → ℕ → Place → Type 0
IsGoodPlaceIn m epoch mark x = (rows : List Stamped) × HoldsHere m x.projection x.container rows × All (IsGoodIn epoch mark x.table x.projection) rows

abbrev pub IsGoodPlace : Contents → Catalogue → Place → Type 0
IsGoodPlace m c x = IsGoodPlaceIn m (least_lge c) c.ahm x

-- what is judged of the rows of a projection's files
abbrev pub HasJudgedIn : Contents → ℕ → ℕ → Projection → List Stamped → Type 0
HasJudgedIn m epoch mark p rows = (held : List Stamped) × Holds m p held × (rows ≡ judged_in epoch mark held)

abbrev pub HasJudged : Contents → Catalogue → Projection → List Stamped → Type 0
HasJudged m c p rows = HasJudgedIn m (least_lge c) c.ahm p rows
