-- The default of a column that isn't stored.
use Rattle.std.proofs.Common.{◌≡◌, ◌+◌, ◌-◌, ◌<◌, ◌≤◌, ℕ, List, length, map, drop, get_or, sym, ◌∙◌, ap, subst, arith}
use Rattle.std.specs.Prelude.{Option, Some, None, IsSomeAnd, unwrap_or}
use Rattle.std.proofs.Math.ListN.{get_or-map}
use Rattle.std.proofs.lemmas.List.{get_or-drop, length-drop}
use Rattle.catalog_types.specs.declared.catalogue.Container.{Container}
use Rattle.catalog_types.specs.declared.catalogue.ProjColumn.{ProjColumn}
use Rattle.col_value.specs.Order.{IsValue}
use Rattle.col_value.specs.declared.kinds.Encoding.TheVariants.{Auto}
use Rattle.col_value.specs.declared.value.Value.{Value}
use Rattle.col_value.specs.declared.value.Value.TheVariants.{Null}
use Rattle.ros_container.specs.Encodings.{Written, written_as, as_epochs, default_at}
use Rattle.ros_container.specs.Readable.{HasDefaultValue, IsOfColumns}

abbrev no_column : ProjColumn
no_column = record { ordinal = 0; encoding = Auto; default = None }

value_there : (o : Option Value) → IsSomeAnd o IsValue → IsValue (unwrap_or o Null)
value_there None is = absurd is
value_there (Some v) is = is

pub default_is_value : (columns : List ProjColumn) (k : Container) (i : ℕ) → IsOfColumns columns k → k.stored ≤ i → i < length columns → IsValue (default_at (map written_as columns) i)
default_is_value columns k i of_columns behind lt =
    let n = k.stored in
    let far : n + (i - n) ≡ i = omega (arith, behind) in
    let inside : i - n < length (drop n columns) = omega (arith, length-drop n columns, behind, lt) in
    let there : get_or (drop n columns) (i - n) no_column ≡ get_or columns i no_column = get_or-drop n columns (i - n) no_column ∙ ap (λ (j : ℕ). get_or columns j no_column) far in
    let has : HasDefaultValue (get_or columns i no_column) = subst HasDefaultValue there (of_columns.defaults (i - n) no_column inside) in
    let is : default_at (map written_as columns) i ≡ unwrap_or (get_or columns i no_column).default Null = ap (λ (w : Written). unwrap_or w.default Null) (get_or-map written_as columns i no_column) in
    subst IsValue (sym is) (value_there (get_or columns i no_column).default has)
