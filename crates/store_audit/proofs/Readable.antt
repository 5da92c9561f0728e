-- The projections of a valid catalogue can be read, and a super projection has the columns of each other one.
use Rattle.std.proofs.Common.{◌≡◌, ◌<◌, ◌^◌, true, List, length, drop, get_or, arith}
use Rattle.std.specs.Prelude.{Option, Some, None, IfSome, IsSome, IsSomeAnd}
use Rattle.std.specs.List.{All, slice_get}
use Rattle.std.proofs.lemmas.List.{length-map}
use Rattle.std.proofs.lemmas.List.Elements.{All-drop, All-map, All-weaker}
use Rattle.catalog_types.specs.Parts.{IsOfKind, FitsColumn, IsProjColumn, HasDefault, IsProjection, IsTable, takes_kind}
use Rattle.catalog_types.specs.Valid.{IsValid}
use Rattle.catalog_types.specs.declared.catalogue.Catalogue.{Catalogue}
use Rattle.catalog_types.specs.declared.catalogue.ProjColumn.{ProjColumn}
use Rattle.catalog_types.specs.declared.catalogue.Projection.{Projection}
use Rattle.catalog_types.specs.declared.catalogue.Table.{Table}
use Rattle.col_value.specs.Order.{IsValue}
use Rattle.col_value.specs.declared.column.Column.{Column}
use Rattle.col_value.specs.declared.kinds.ColType.{ColType}
use Rattle.col_value.specs.declared.kinds.ColType.TheVariants.{Integer, Varchar, Date}
use Rattle.col_value.specs.declared.value.Value.{Value}
use Rattle.col_value.specs.declared.value.Value.TheVariants as value
use Rattle.folder_model.specs.Projections.{ordinals}
use Rattle.ros_container.specs.Readable.{HasDefaultValue, IsReadable}
use Rattle.audit_model.specs.Pairs.{is_super, place_in, places_among, super_of}
use Rattle.audit_model.proofs.Columns.{place_found}
use Rattle.audit_model.proofs.Lists.{found_has}
use Rattle.audit_model.proofs.Supers.{super_has}
use Rattle.audit_model.proofs.Yes.{ordinals_below}
use Rattle.store_audit.specs.Passes.{CanCompare, CanRead}

of_kind : (kind : ColType) (v : Value) → IsOfKind kind v → IsValue v
of_kind kind value.Null of = tt
of_kind kind (value.Bool b) of = tt
of_kind Integer (value.Int n) of = of
of_kind (Varchar most) (value.Text t) of = of.1
of_kind Date (value.Date d) of = of
of_kind kind v of = absurd of

fits_value : (column : Column) (v : Value) → FitsColumn column v → IsValue v
fits_value column value.Null fits = tt
fits_value column (value.Bool b) fits = tt
fits_value column (value.Int n) fits = of_kind column.kind (value.Int n) fits
fits_value column (value.Date d) fits = of_kind column.kind (value.Date d) fits
fits_value column (value.Text t) fits = of_kind column.kind (value.Text t) fits

default_value : (columns : List Column) (c : ProjColumn) → IsProjColumn columns c → HasDefault c → HasDefaultValue c
default_value columns c is has = by (slice_get columns c.ordinal) c.default is has
  where
    by : (o : Option Column) (d : Option Value) → IsSomeAnd o (λ column. (takes_kind c.encoding column.kind ≡ true) × IfSome d (FitsColumn column)) → IsSome d → IsSomeAnd d IsValue
    by None d is has = absurd is
    by (Some column) None is has = absurd cc
    by (Some column) (Some v) is has = fits_value column v is.1

files_named : (c : Catalogue) (t : Table) (p : Projection) → c.next < 2 ^ 62 → IsProjection c t p → All (IsReadable p.columns) p.containers
files_named c t p low valid = λ i d at.
    let k = get_or p.containers i d in
    let is = valid.containers i d at in
    let columns = All-drop (IsProjColumn t.columns) k.stored p.columns valid.columns in
    let files = is.files in
    record {
      of_columns = record {
        rows = is.rows;
        most = is.stored.1;
        defaults = λ j x lt. default_value t.columns (get_or (drop k.stored p.columns) j x) (columns j x lt) (valid.defaults i d at j x lt);
      };
      numbers = omega (arith, low, files.1);
    }

can_read : (c : Catalogue) (t : Table) (p : Projection) → c.next < 2 ^ 62 → IsProjection c t p → CanRead t p
can_read c t p low valid = record { files = files_named c t p low valid; columns = ordinals_below t.columns p.columns valid.columns }

pub valid_read : (c : Catalogue) → IsValid c → All (λ t. All (CanRead t) t.projections) c.tables
valid_read c valid =
    All-weaker (IsTable c) (λ t. All (CanRead t) t.projections) (λ t is. All-weaker (IsProjection c t) (CanRead t) (λ p h. can_read c t p valid.next h) t.projections is.projections) c.tables valid.tables

-- ---- a super projection

among_below : (t : Table) (s q : Projection) → super_of t ≡ Some s → All (λ i. i < length t.columns) (ordinals q) → All (λ c. c < length s.columns) (places_among s q)
among_below t s q found below =
    All-map (λ c. c < length s.columns) (place_in (ordinals s)) (ordinals q) (All-weaker (λ i. i < length t.columns) (λ i. place_in (ordinals s) i < length s.columns) (λ i lt.
    let place = (place_found (ordinals s) i 0 (super_has t s found i lt)).0 in
    omega (arith, place, length-map s.columns (λ (k : ProjColumn). k.ordinal))) (ordinals q) below)

pub super_compares : (t : Table) (s : Projection) → super_of t ≡ Some s → All (CanRead t) t.projections → All (CanCompare s) t.projections
super_compares t s found read =
    let first = found_has (CanRead t) (is_super t) t.projections s found read in
    All-weaker (CanRead t) (CanCompare s) (λ q can. record { first = first.files; second = can.files; columns = among_below t s q found can.columns }) t.projections read
