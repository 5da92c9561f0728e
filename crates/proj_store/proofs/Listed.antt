-- The containers that a valid catalogue lists.
use Rattle.std.proofs.Common.{◌≡◌, true, List, drop, get_or}
use Rattle.std.specs.Prelude.{Option, Some, None, IfSome, IsSome, IsSomeAnd}
use Rattle.std.specs.List.{All, slice_get}
use Rattle.std.proofs.lemmas.List.Elements.{All-drop}
use Rattle.catalog_types.specs.Parts.{IsOfKind, FitsColumn, IsProjColumn, HasDefault, IsProjection, takes_kind}
use Rattle.catalog_types.specs.declared.catalogue.Catalogue.{Catalogue}
use Rattle.catalog_types.specs.declared.catalogue.ProjColumn.{ProjColumn}
use Rattle.catalog_types.specs.declared.catalogue.Projection.{Projection}
use Rattle.catalog_types.specs.declared.catalogue.Table.{Table}
use Rattle.col_value.specs.Order.{IsValue}
use Rattle.col_value.specs.declared.column.Column.{Column}
use Rattle.col_value.specs.declared.kinds.ColType.{ColType}
use Rattle.col_value.specs.declared.kinds.ColType.TheVariants.{Integer, Varchar, Boolean, Date}
use Rattle.col_value.specs.declared.value.Value.{Value}
use Rattle.col_value.specs.declared.value.Value.TheVariants as value
use Rattle.ros_container.specs.Readable.{HasDefaultValue, IsOfColumns}

of_kind : (kind : ColType) (v : Value) → IsOfKind kind v → IsValue v
of_kind kind value.Null of = tt
of_kind kind (value.Bool b) of = tt
of_kind Integer (value.Int n) of = of
of_kind (Varchar most) (value.Text t) of = of.1
of_kind Date (value.Date d) of = of
of_kind kind v of = absurd of

fits_value : (column : Column) (v : Value) → FitsColumn column v → IsValue v
fits_value column value.Null fits = tt
fits_value column (value.Bool b) fits = tt
fits_value column (value.Int n) fits = of_kind column.kind (value.Int n) fits
fits_value column (value.Date d) fits = of_kind column.kind (value.Date d) fits
fits_value column (value.Text t) fits = of_kind column.kind (value.Text t) fits

default_value : (columns : List Column) (c : ProjColumn) → IsProjColumn columns c → HasDefault c → HasDefaultValue c
default_value columns c is has = by (slice_get columns c.ordinal) c.default is has
  where
    by : (o : Option Column) (d : Option Value) → IsSomeAnd o (λ column. (takes_kind c.encoding column.kind ≡ true) × IfSome d (FitsColumn column)) → IsSome d → IsSomeAnd d IsValue
    by None d is has = absurd is
    by (Some column) None is has = absurd cc
    by (Some column) (Some v) is has = fits_value column v is.1

pub valid_of_columns : (c : Catalogue) (t : Table) (p : Projection) → IsProjection c t p → All (IsOfColumns p.columns) p.containers
valid_of_columns c t p valid = λ i d at.
    let k = get_or p.containers i d in
    let is = valid.containers i d at in
    let columns = All-drop (IsProjColumn t.columns) k.stored p.columns valid.columns in
    record {
      rows = is.rows;
      most = is.stored.1;
      defaults = λ j x lt. default_value t.columns (get_or (drop k.stored p.columns) j x) (columns j x lt) (valid.defaults i d at j x lt);
    }
