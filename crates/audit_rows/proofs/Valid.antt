-- The containers that a valid catalogue lists can be read.
use Rattle.std.proofs.Common.{◌≡◌, ◌<◌, ◌^◌, ℕ, true, List, drop, get_or, sym, subst, arith}
use Rattle.std.specs.Prelude.{Option, Some, None, Result, Ok, Err, IfOk, IfSome, IsSome, IsSomeAnd}
use Rattle.std.specs.List.{All, flat_map, slice_get}
use Rattle.std.proofs.lemmas.List.Elements.{All-drop}
use Rattle.common_laws.specs.Maps.{Contents}
use Rattle.audit_model.specs.Judging.{JudgesRows}
use Rattle.audit_model.specs.Listed.{places_of}
use Rattle.audit_model.specs.declared.verdict.AuditFault.{AuditFault}
use Rattle.audit_model.specs.declared.verdict.Verdict.{Verdict}
use Rattle.catalog_types.specs.Parts.{IsOfKind, FitsColumn, IsProjColumn, HasDefault, IsProjection, takes_kind}
use Rattle.catalog_types.specs.Reached.{least_lge}
use Rattle.catalog_types.specs.Valid.{IsValid}
use Rattle.catalog_types.specs.declared.catalogue.Catalogue.{Catalogue}
use Rattle.catalog_types.specs.declared.catalogue.ProjColumn.{ProjColumn}
use Rattle.catalog_types.specs.declared.catalogue.Projection.{Projection}
use Rattle.catalog_types.specs.declared.catalogue.Table.{Table}
use Rattle.col_value.specs.Order.{IsValue}
use Rattle.col_value.specs.declared.column.Column.{Column}
use Rattle.col_value.specs.declared.kinds.ColType.{ColType}
use Rattle.col_value.specs.declared.kinds.ColType.TheVariants.{Integer, Varchar, Date}
use Rattle.col_value.specs.declared.value.Value.{Value}
use Rattle.col_value.specs.declared.value.Value.TheVariants as value
use Rattle.ros_container.specs.Readable.{HasDefaultValue}
use Rattle.audit_rows.specs.Found.{AreReadable, Finds}
use Rattle.audit_rows.proofs.Places.{judges}

of_kind : (kind : ColType) (v : Value) → IsOfKind kind v → IsValue v
of_kind kind value.Null of = tt
of_kind kind (value.Bool b) of = tt
of_kind Integer (value.Int n) of = of
of_kind (Varchar most) (value.Text t) of = of.1
of_kind Date (value.Date d) of = of
of_kind kind v of = absurd of

fits_value : (column : Column) (v : Value) → FitsColumn column v → IsValue v
fits_value column value.Null fits = tt
fits_value column (value.Bool b) fits = tt
fits_value column (value.Int n) fits = of_kind column.kind (value.Int n) fits
fits_value column (value.Date d) fits = of_kind column.kind (value.Date d) fits
fits_value column (value.Text t) fits = of_kind column.kind (value.Text t) fits

default_value : (columns : List Column) (c : ProjColumn) → IsProjColumn columns c → HasDefault c → HasDefaultValue c
default_value columns c is has = by (slice_get columns c.ordinal) c.default is has
  where
    by : (o : Option Column) (d : Option Value) → IsSomeAnd o (λ column. (takes_kind c.encoding column.kind ≡ true) × IfSome d (FitsColumn column)) → IsSome d → IsSomeAnd d IsValue
    by None d is has = absurd is
    by (Some column) None is has = absurd cc
    by (Some column) (Some v) is has = fits_value column v is.1

readable : (c : Catalogue) (t : Table) (p : Projection) → c.next < 2 ^ 62 → IsProjection c t p → AreReadable p
readable c t p lt valid = λ i d at.
    let k = get_or p.containers i d in
    let is = valid.containers i d at in
    let files = is.files in
    let columns = All-drop (IsProjColumn t.columns) k.stored p.columns valid.columns in
    record {
      of_columns = record {
        rows = is.rows;
        most = is.stored.1;
        defaults = λ j x below. default_value t.columns (get_or (drop k.stored p.columns) j x) (columns j x below) (valid.defaults i d at j x below);
      };
      numbers = omega (arith, lt, files.1);
    }

pub tables_readable : (c : Catalogue) (ts : List Table) → ts ≡ c.tables → IsValid c → All (λ t. All AreReadable t.projections) ts
tables_readable c ts same valid = subst (All (λ t. All AreReadable t.projections)) (sym same) (λ i d at j e below. let t = valid.tables i d at in readable c (get_or c.tables i d) (get_or (get_or c.tables i d).projections j e) valid.next (t.projections j e below))

pub judged : (holds : Option Contents) (c : Catalogue) (ts : List Table) (epoch : ℕ) (r : Result (Option Verdict) AuditFault) → ts ≡ c.tables → epoch ≡ least_lge c
    → IfOk r (Finds holds epoch c.ahm (flat_map places_of ts)) → IfOk r (JudgesRows holds c)
judged holds c ts epoch (Ok v) same is finds =
    judges holds c v (subst (λ (n : ℕ). Finds holds n c.ahm (flat_map places_of c.tables) v) is (subst (λ (us : List Table). Finds holds epoch c.ahm (flat_map places_of us) v) same finds))
judged holds c ts epoch (Err fault) same is finds = tt
