-- An expression of a kind, over a row that fits, is NULL or a value of that kind.
use Rattle.std.proofs.Common.{◌≡◌, ℕ, zero, suc, ℤ, Bool, true, false, cond, List, [], ◌∷◌, map, Option, Some, None, ◌⊎◌, inl, inr, refl, sym, ap, ◌∙◌, subst}
use Rattle.std.specs.Prelude.{slice_get, slice_index_or, is_some}
use Rattle.std.specs.List.{AllZip, list_all}
use Rattle.std.proofs.lemmas.Option.{same_Some}
use Rattle.col_value.specs.declared.column.Column.{Column}
use Rattle.col_value.specs.declared.kinds.ColType.{ColType}
use Rattle.col_value.specs.declared.value.Value.{Value}
use Rattle.col_value.specs.declared.value.Value.TheVariants as value
use Rattle.col_value.specs.declared.wide.Wide.{Wide}
use Rattle.col_value.specs.declared.wide.Wide.TheVariants as wide
use Rattle.col_value.specs.Order.{wide_cmp, widened}
use Rattle.sql_tree.specs.declared.tree.Cmp.{Cmp}
use Rattle.sql_bound.specs.declared.expr.BoundTerm.{BoundTerm}
use Rattle.sql_bound.specs.declared.expr.Expr.{Expr}
use Rattle.sql_bound.specs.declared.expr.Kind.{Kind}
use Rattle.sql_bound.specs.declared.expr.Expr.TheViews.{roll-Expr, roll-BoundTerm}
use Rattle.sql_bound.specs.declared.expr.Expr.TheOpen.{Expr-F, BoundTerm-F}
use Rattle.sql_bound.specs.declared.expr.Expr.TheFolds.{map-Expr, map-BoundTerm, fold-BoundTerm, fold-roll-Expr, ind-Expr}
use Rattle.sql_bound.specs.Kinds.{Kinds, are_comparable, is_of, kind_of, kind_of_column, kind_of_value, kind_step, kind_where, serves, term_kind}
use Rattle.sql_bound.specs.Values.{are_kin, compared, holds, is_null, number, of_row, term_step, truth, value_of, value_step}
use Rattle.db_model.specs.Sound.{TextFits, ValueFits}

-- a value that is NULL, or of a kind
abbrev pub IsOfKind : Kind → Wide → Type 0
IsOfKind k w = (kind_of_value w ≡ Kind.Null) ⊎ (kind_of_value w ≡ k)

-- the kinds of the columns, and no group
abbrev pub of_columns : List Kind → Kinds
of_columns columns = record { columns = columns; keys = []; aggs = [] }

-- ---- one level

a_number : (o : Option ℤ) → IsOfKind Kind.Number (number o)
a_number None = inl refl
a_number (Some n) = inr refl

a_truth : (o : Option Bool) → IsOfKind Kind.Truth (truth o)
a_truth None = inl refl
a_truth (Some b) = inr refl

a_comparison : (c : Cmp) (a b : Wide) → IsOfKind Kind.Truth (compared c a b)
a_comparison c a b = by (are_kin a b)
  where
    by : (kin : Bool) → IsOfKind Kind.Truth (cond kin (wide.Bool (holds c (wide_cmp a b))) wide.Null)
    by true = inr refl
    by false = inl refl

where_right : (right : Bool) (k want : Kind) (w : Wide) → kind_where right k ≡ Some want → IsOfKind k w → IsOfKind want w
where_right true k want w is of_kind = subst (λ (x : Kind). IsOfKind x w) (same_Some k want is) of_kind
where_right false k want w is of_kind = absurd (cc)

-- each column of a row is NULL or of its kind
abbrev pub HasKinds : List Kind → List Value → Type 0
HasKinds kinds row = (i : ℕ) (k : Kind) → slice_get kinds i ≡ Some k → IsOfKind k (widened (slice_index_or row i value.Null))

module _ (kinds : List Kind) (row : List Value) (has : HasKinds kinds row) where
  worth : Expr → Wide
  worth = value_of (of_row row)

  term_worth : BoundTerm → Wide
  term_worth = fold-BoundTerm Wide Wide (value_step (of_row row)) term_step

  kind : Expr → Option Kind
  kind = kind_of (of_columns kinds)

  kind_of_term : BoundTerm → Option Kind
  kind_of_term = fold-BoundTerm (Option Kind) (Option Kind) (kind_step (of_columns kinds)) term_kind

  Here : Expr → Type 0
  Here e = (k : Kind) → kind e ≡ Some k → IsOfKind k (worth e)

  HereToo : BoundTerm → Type 0
  HereToo t = Unit {0}

  level : (x : Expr-F Expr BoundTerm) (k : Kind) → kind_step (of_columns kinds) (map-Expr _ _ _ _ kind kind_of_term x) ≡ Some k → IsOfKind k (value_step (of_row row) (map-Expr _ _ _ _ worth term_worth x))
  level (Expr-F.Lit w) k is = inr (same_Some (kind_of_value w) k is)
  level (Expr-F.Col i) k is = has i k is
  level (Expr-F.Key i) k is = absurd (cc)
  level (Expr-F.Agg i) k is = absurd (cc)
  level (Expr-F.Neg a) k is = where_right (is_of Kind.Number (kind a)) Kind.Number k _ is (a_number _)
  level (Expr-F.Sum ts) k is = where_right (list_all (is_of Kind.Number) (map kind_of_term ts)) Kind.Number k _ is (a_number _)
  level (Expr-F.Product es) k is = where_right (list_all (is_of Kind.Number) (map kind es)) Kind.Number k _ is (a_number _)
  level (Expr-F.Compare a c b) k is = where_right (are_comparable (kind a) (kind b)) Kind.Truth k _ is (a_comparison c (worth a) (worth b))
  level (Expr-F.IsNull a) k is = where_right (is_some (kind a)) Kind.Truth k (wide.Bool (is_null (worth a))) is (inr refl)
  level (Expr-F.Not a) k is = where_right (is_of Kind.Truth (kind a)) Kind.Truth k _ is (a_truth _)
  level (Expr-F.And es) k is = where_right (list_all (is_of Kind.Truth) (map kind es)) Kind.Truth k _ is (a_truth _)
  level (Expr-F.Or es) k is = where_right (list_all (is_of Kind.Truth) (map kind es)) Kind.Truth k _ is (a_truth _)

  rolled : (x : Expr-F Expr BoundTerm) (y : Expr-F ((e : Expr) × Here e) ((t : BoundTerm) × HereToo t)) → map-Expr _ _ _ _ (λ e. e.0) (λ t. t.0) y ≡ x → Here (roll-Expr x)
  unfolding Here HereToo worth term_worth kind kind_of_term
  rolled x y is k of_kind =
      let value = fold-roll-Expr Wide Wide (value_step (of_row row)) term_step x in
      let typed = fold-roll-Expr (Option Kind) (Option Kind) (kind_step (of_columns kinds)) term_kind x in
      subst (IsOfKind k) (sym value) (level x k (sym typed ∙ of_kind))

  rolled_term : (x : BoundTerm-F Expr BoundTerm) (y : BoundTerm-F ((e : Expr) × Here e) ((t : BoundTerm) × HereToo t)) → map-BoundTerm _ _ _ _ (λ e. e.0) (λ t. t.0) y ≡ x → HereToo (roll-BoundTerm x)
  unfolding HereToo
  rolled_term x y is = tt

  pub worth_of_kind : (e : Expr) (k : Kind) → kind_of (of_columns kinds) e ≡ Some k → IsOfKind k (value_of (of_row row) e)
  unfolding Here worth kind
  worth_of_kind e = ind-Expr Here HereToo rolled rolled_term e

-- ---- a row that fits

abbrev pub column_kinds : List Column → List Kind
column_kinds columns = map (λ c. kind_of_column c.kind) columns

a_text : (kind : ColType) (t : List ℕ) → TextFits kind t → IsOfKind (kind_of_column kind) (wide.Text t)
a_text ColType.Integer t fits = absurd fits
a_text (ColType.Varchar n) t fits = inr refl
a_text ColType.Boolean t fits = absurd fits
a_text ColType.Date t fits = absurd fits

value_kind : (c : Column) (v : Value) → ValueFits c v → IsOfKind (kind_of_column c.kind) (widened v)
value_kind c value.Null fits = inl refl
value_kind c (value.Bool b) fits = inr (ap kind_of_column (sym fits))
value_kind c (value.Int n) fits = inr (ap kind_of_column (sym fits))
value_kind c (value.Date d) fits = inr (ap kind_of_column (sym fits))
value_kind c (value.Text t) fits = a_text c.kind t fits

-- has its columns' kinds
pub row_kinds_of : (columns : List Column) (row : List Value) → AllZip ValueFits columns row → HasKinds (column_kinds columns) row
row_kinds_of [] row fits i k none = absurd (cc)
row_kinds_of (c ∷ columns) [] fits i k is = absurd fits
row_kinds_of (c ∷ columns) (v ∷ row) fits zero k is = subst (λ (x : Kind). IsOfKind x (widened v)) (same_Some (kind_of_column c.kind) k is) (value_kind c v fits.0)
row_kinds_of (c ∷ columns) (v ∷ row) fits (suc i) k is = row_kinds_of columns row fits.1 i k is

-- ---- a value for a column

either_serves : (k want : Kind) (w : Wide) → serves k want ≡ true → IsOfKind k w → serves (kind_of_value w) want ≡ true
either_serves k want w right (inl null) = ap (λ (x : Kind). serves x want) null
either_serves k want w right (inr same) = ap (λ (x : Kind). serves x want) same ∙ right

-- what is typed for a place is NULL there or of its kind
pub typed_serves : (columns : List Column) (row : List Value) (e : Expr) (want : Kind) → AllZip ValueFits columns row → is_of want (kind_of (of_columns (column_kinds columns)) e) ≡ true → serves (kind_of_value (value_of (of_row row) e)) want ≡ true
typed_serves columns row e want fits right = by (kind_of (of_columns (column_kinds columns)) e) refl right
  where
    by : (o : Option Kind) → kind_of (of_columns (column_kinds columns)) e ≡ o → is_of want o ≡ true → serves (kind_of_value (value_of (of_row row) e)) want ≡ true
    by None is wrong = absurd (cc)
    by (Some k) is serving = either_serves k want (value_of (of_row row) e) serving (worth_of_kind (column_kinds columns) row (row_kinds_of columns row fits) e k is)
