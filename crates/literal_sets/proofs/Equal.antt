-- A comparison of a value with a literal, as a comparison of keys.
use Rattle.std.proofs.Common.{◌≡◌, ℕ, Bool, true, false, cond, List, [], ◌∷◌, Option, Some, None, refl, sym, ap, ap₂, ◌∙◌}
use Rattle.std.specs.List.{slice_index_or}
use Rattle.std.specs.Option.{IfSome}
use Rattle.std.specs.Ordering.{is_eq, ordering_then}
use Rattle.std.specs.declared.cmp.Ordering.{Ordering}
use Rattle.std.specs.declared.cmp.Ordering.TheVariants.{Less, Equal, Greater}
use Rattle.col_value.specs.Order.{value_cmp, wide_cmp, widened}
use Rattle.col_value.specs.declared.value.Value.{Value}
use Rattle.col_value.specs.declared.value.Value.TheVariants as value
use Rattle.col_value.specs.declared.wide.Wide.{Wide}
use Rattle.col_value.specs.declared.wide.Wide.TheVariants as wide
use Rattle.row_keys.proofs.Apart.{same_back}
use Rattle.row_keys.specs.Keys.{is_null, is_same_key}
use Rattle.sql_bound.specs.declared.expr.Expr.{Expr}
use Rattle.sql_bound.specs.Values.{compared, is_true, of_row, value_of}
use Rattle.sql_tree.specs.declared.tree.Cmp.{Cmp}

then_nothing : (o : Ordering) → is_eq (ordering_then o Equal) ≡ is_eq o
then_nothing Less = refl
then_nothing Equal = refl
then_nothing Greater = refl

-- a literal that isn't NULL
kin_same : (x v : Value) → is_null v ≡ false → is_true (compared Cmp.Eq (widened x) (widened v)) ≡ is_eq (value_cmp x v)
kin_same x value.Null e = absurd cc
kin_same value.Null (value.Bool w) e = refl
kin_same value.Null (value.Int w) e = refl
kin_same value.Null (value.Date w) e = refl
kin_same value.Null (value.Text w) e = refl
kin_same (value.Bool y) (value.Bool w) e = refl
kin_same (value.Bool y) (value.Int w) e = refl
kin_same (value.Bool y) (value.Date w) e = refl
kin_same (value.Bool y) (value.Text w) e = refl
kin_same (value.Int y) (value.Bool w) e = refl
kin_same (value.Int y) (value.Int w) e = refl
kin_same (value.Int y) (value.Date w) e = refl
kin_same (value.Int y) (value.Text w) e = refl
kin_same (value.Date y) (value.Bool w) e = refl
kin_same (value.Date y) (value.Int w) e = refl
kin_same (value.Date y) (value.Date w) e = refl
kin_same (value.Date y) (value.Text w) e = refl
kin_same (value.Text y) (value.Bool w) e = refl
kin_same (value.Text y) (value.Int w) e = refl
kin_same (value.Text y) (value.Date w) e = refl
kin_same (value.Text y) (value.Text w) e = refl

equal_same : (x v : Value) → is_null v ≡ false → is_true (compared Cmp.Eq (widened x) (widened v)) ≡ is_same_key (v ∷ []) (x ∷ [])
equal_same x v e = kin_same x v e ∙ sym (then_nothing (value_cmp x v)) ∙ same_back (x ∷ []) (v ∷ [])

-- an equation of a column with a literal
pub equation : (c : Cmp) (a b : Expr) (column : ℕ) (v : Value) → c ≡ Cmp.Eq → ((row : List Value) → value_of (of_row row) a ≡ widened (slice_index_or row column value.Null)) → is_null v ≡ false
    → ((row : List Value) → value_of (of_row row) b ≡ widened v) → (row : List Value) → is_true (compared c (value_of (of_row row) a) (value_of (of_row row) b)) ≡ is_same_key (v ∷ []) (slice_index_or row column value.Null ∷ [])
equation c a b column v is left some right row =
    ap (λ (d : Cmp). is_true (compared d (value_of (of_row row) a) (value_of (of_row row) b))) is
    ∙ ap₂ (λ (x y : Wide). is_true (compared Cmp.Eq x y)) (left row) (right row)
    ∙ equal_same (slice_index_or row column value.Null) v some

pub equation_of : (c : Cmp) (a b : Expr) (column : ℕ) (o : Option Value) → c ≡ Cmp.Eq → ((row : List Value) → value_of (of_row row) a ≡ widened (slice_index_or row column value.Null))
    → IfSome o (λ v. (is_null v ≡ false) × ((row : List Value) → value_of (of_row row) b ≡ widened v))
    → IfSome o (λ v. (row : List Value) → is_true (compared c (value_of (of_row row) a) (value_of (of_row row) b)) ≡ is_same_key (v ∷ []) (slice_index_or row column value.Null ∷ []))
equation_of c a b column None is left found = tt
equation_of c a b column (Some v) is left (some, right) = λ row. equation c a b column v is left some right row
