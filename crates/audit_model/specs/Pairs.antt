-- The pairs of projections whose rows are compared.
use Rattle.std.specs.Prelude.{ℕ, zero, suc, ◌==◌, ◌&&◌, not, if◌then◌else◌, Bool, List, [], ◌∷◌, length, map, filter, find, bytes_eq, Option, Some, None}
use Rattle.std.specs.List.{list_all, list_any, flat_map, range_with_len}
use Rattle.common_laws.specs.Bags.{SameBag}
use Rattle.common_laws.specs.Maps.{Contents}
use Rattle.catalog_types.specs.declared.catalogue.Projection.{Projection}
use Rattle.catalog_types.specs.declared.catalogue.Table.{Table}
use Rattle.catalog_types.specs.declared.catalogue.Catalogue.{Catalogue}
use Rattle.col_value.specs.declared.row.Stamped.{Stamped}
use Rattle.folder_model.specs.Projections.{ordinals}
use Rattle.row_history.specs.History.{on_columns}
use Rattle.catalog_types.specs.Reached.{least_lge}
use Rattle.audit_model.specs.Rows.{HasJudgedIn}

-- an up-to-date projection that has all columns of its table
abbrev pub is_super : Table → Projection → Bool
is_super t p = p.fresh && list_all (λ i. list_any (λ k. k.ordinal == i) p.columns) (range_with_len 0 (length t.columns))

-- the one of least name: a table's projections stand in ascending order of their names
abbrev pub super_of : Table → Option Projection
super_of t = find (is_super t) t.projections

pub record Pair : Type 0 where
  pub table : Table
  pub first : Projection
  pub second : Projection

abbrev pub pair : Table → Projection → Projection → Pair
pair t p q = record { table = t; first = p; second = q }

-- up to date, and called otherwise
abbrev pub is_other : Projection → Projection → Bool
is_other p q = q.fresh && not (bytes_eq q.name p.name)

abbrev pub pairs_with : Table → Option Projection → List Pair
pairs_with t None = []
pairs_with t (Some p) = map (pair t p) (filter (is_other p) t.projections)

-- each table's super projection of least name with each other projection that is up to date, by names
abbrev pub pairs : Catalogue → List Pair
pairs c = flat_map (λ t. pairs_with t (super_of t)) c.tables

-- where a number stands first in a list, or its length
abbrev pub place_in : List ℕ → ℕ → ℕ
place_in [] n = zero
place_in (x ∷ xs) n = if x == n then zero else suc (place_in xs n)

-- where the columns of one projection stand among those of another
abbrev pub places_among : Projection → Projection → List ℕ
places_among p q = map (place_in (ordinals p)) (ordinals q)

-- rows of one projection in the columns of another
abbrev pub in_columns : Projection → Projection → List Stamped → List Stamped
in_columns p q rows = map (on_columns (places_among p q)) rows

-- what is judged of both is one bag in the second's columns
abbrev pub IsSamePairIn : Contents → ℕ → ℕ → Pair → Type 0
IsSamePairIn m epoch mark x =
    (xs : List Stamped) × (ys : List Stamped) × HasJudgedIn m epoch mark x.first xs × HasJudgedIn m epoch mark x.second ys × SameBag (in_columns x.first x.second xs) ys

abbrev pub IsSamePair : Contents → Catalogue → Pair → Type 0
IsSamePair m c x = IsSamePairIn m (least_lge c) c.ahm x
