-- Two lists of tables that `==` finds alike are the same.
use Rattle.std.proofs.Common.{rules, IsTrue, ◌∙◌, ◌≡◌, Bool, true, false, List, [], ◌∷◌, refl, sym, ap}
use Rattle.std.specs.FinMap.{IsAntisymmetric}
use Rattle.std.specs.Prelude.{◌&&◌, Option, Some, None}
use Rattle.std.specs.Option.{option_eq}
use Rattle.std.specs.Cmp.Lexicographic.{pointwise}
use Rattle.col_value.specs.Laws.{tie_told}
use Rattle.col_value.specs.Order.{value_cmp}
use Rattle.col_value.specs.declared.value.Value.{Value}
use Rattle.col_value.specs.declared.column.Column.{Column}
use Rattle.catalog_types.specs.declared.catalogue.Table.{Table}
use Rattle.catalog_types.specs.declared.catalogue.Container.{Container}
use Rattle.catalog_types.specs.declared.catalogue.Projection.{Projection}
use Rattle.catalog_types.specs.declared.catalogue.ProjColumn.{ProjColumn}
use Rattle.catalog_types.specs.contracts.catalogue.TablePartialEq.TheImpl as tables
use Rattle.catalog_types.specs.contracts.catalogue.ProjectionPartialEq.TheImpl as projections
use Rattle.catalog_types.specs.contracts.catalogue.ContainerPartialEq.TheImpl as containers
use Rattle.catalog_types.specs.contracts.catalogue.ProjColumnPartialEq.TheImpl as proj_columns
use Rattle.col_value.specs.contracts.column.ColumnPartialEq.TheImpl as columns
use Rattle.col_value.specs.contracts.value.ValuePartialEq.TheImpl as values

both : (a b : Bool) → (a && b) ≡ true → (a ≡ true) × (b ≡ true)
both true b is = (refl, is)
both false b is = absurd (cc)

list_same : {X : Type 0} (E : X → X → Bool) → ((x y : X) → E x y ≡ true → x ≡ y) → (xs ys : List X) → pointwise E xs ys ≡ true → xs ≡ ys
list_same E same [] [] is = refl
list_same E same [] (y ∷ ys) is = absurd (cc)
list_same E same (x ∷ xs) [] is = absurd (cc)
list_same E same (x ∷ xs) (y ∷ ys) is =
    let (here, more) = both (E x y) (pointwise E xs ys) is in
    let one = same x y here in
    let rest = list_same E same xs ys more in
    cc

container_same : (x y : Container) → containers.ghosts.eq x y ≡ true → x ≡ y
container_same x y is = search rules

column_same : (x y : Column) → columns.ghosts.eq x y ≡ true → x ≡ y
column_same x y is = search rules

option_same : {X : Type 0} (E : X → X → Bool) → ((x y : X) → E x y ≡ true → x ≡ y) → (o p : Option X) → option_eq E o p ≡ true → o ≡ p
option_same E same None None is = refl
option_same E same None (Some y) is = absurd (cc)
option_same E same (Some x) None is = absurd (cc)
option_same E same (Some x) (Some y) is = ap (λ (z : _). Some z) (same x y is)

proj_column_same : ((x y : Value) → values.ghosts.eq x y ≡ true → x ≡ y) → (x y : ProjColumn) → proj_columns.ghosts.eq x y ≡ true → x ≡ y
proj_column_same value x y is =
    let default : x.default ≡ y.default = option_same values.ghosts.eq value x.default y.default (search rules) in
    search rules

projection_same : ((x y : Value) → values.ghosts.eq x y ≡ true → x ≡ y) → (x y : Projection) → projections.ghosts.eq x y ≡ true → x ≡ y
projection_same value x y is =
    let shaped : x.columns ≡ y.columns = list_same proj_columns.ghosts.eq (proj_column_same value) x.columns y.columns (search rules) in
    let parts : x.containers ≡ y.containers = list_same containers.ghosts.eq container_same x.containers y.containers (search rules) in
    search rules

table_same : ((x y : Value) → values.ghosts.eq x y ≡ true → x ≡ y) → (x y : Table) → tables.ghosts.eq x y ≡ true → x ≡ y
table_same value x y is =
    let shaped : x.columns ≡ y.columns = list_same columns.ghosts.eq column_same x.columns y.columns (search rules) in
    let copies : x.projections ≡ y.projections = list_same projections.ghosts.eq (projection_same value) x.projections y.projections (search rules) in
    search rules

pub tables_same : IsAntisymmetric value_cmp → (xs ys : List Table) (b : Bool) → b ≡ pointwise tables.ghosts.eq xs ys → IsTrue b → xs ≡ ys
tables_same exact xs ys b is so = list_same tables.ghosts.eq (table_same (λ x y e. exact x y (tie_told (value_cmp x y) e))) xs ys (sym is ∙ so)

pub entries_same : IsAntisymmetric value_cmp → (x y : Projection) (b : Bool) → b ≡ projections.ghosts.eq x y → IsTrue b → x ≡ y
entries_same exact x y b is so = projection_same (λ v w e. exact v w (tie_told (value_cmp v w) e)) x y (sym is ∙ so)
