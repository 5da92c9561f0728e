-- A true comparison of two values, with its sides exchanged, and as a bound.
use Rattle.std.proofs.Common.{◌≡◌, ℕ, Bool, true, false, cond, List, Option, Some, None, refl, sym, ap, ap₂, ◌∙◌}
use Rattle.std.specs.Prelude.{◌&&◌}
use Rattle.std.specs.List.{slice_index_or}
use Rattle.std.specs.Option.{IfSome}
use Rattle.std.specs.Ordering.{is_le, ordering_reverse}
use Rattle.std.specs.declared.cmp.Ordering.{Ordering}
use Rattle.std.specs.declared.cmp.Ordering.TheVariants.{Less, Equal, Greater}
use Rattle.col_value.specs.Laws.{value_total, wide_total}
use Rattle.col_value.specs.Order.{value_cmp, wide_cmp, widened}
use Rattle.col_value.specs.declared.value.Value.{Value}
use Rattle.col_value.specs.declared.value.Value.TheVariants as value
use Rattle.col_value.specs.declared.wide.Wide.{Wide}
use Rattle.col_value.specs.declared.wide.Wide.TheVariants as wide
use Rattle.sql_tree.specs.declared.tree.Cmp.{Cmp}
use Rattle.sql_bound.specs.declared.expr.Expr.{Expr}
use Rattle.sql_bound.specs.Values.{are_kin, compared, holds, is_true, of_row, value_of}
use Rattle.row_bounds.specs.declared.bound.Bound.{Bound}
use Rattle.row_bounds.specs.Bounds.{lies_in}

kin_turned : (a b : Wide) → are_kin a b ≡ true → are_kin b a ≡ true
kin_turned wide.Null b e = absurd (null b e)
  where
    null : (b : Wide) → are_kin wide.Null b ≡ true → ⊥
    null wide.Null e = cc
    null (wide.Bool y) e = cc
    null (wide.Int y) e = cc
    null (wide.Date y) e = cc
    null (wide.Text y) e = cc
kin_turned (wide.Bool x) wide.Null e = absurd cc
kin_turned (wide.Bool x) (wide.Bool y) e = refl
kin_turned (wide.Bool x) (wide.Int y) e = absurd cc
kin_turned (wide.Bool x) (wide.Date y) e = absurd cc
kin_turned (wide.Bool x) (wide.Text y) e = absurd cc
kin_turned (wide.Int x) wide.Null e = absurd cc
kin_turned (wide.Int x) (wide.Bool y) e = absurd cc
kin_turned (wide.Int x) (wide.Int y) e = refl
kin_turned (wide.Int x) (wide.Date y) e = absurd cc
kin_turned (wide.Int x) (wide.Text y) e = absurd cc
kin_turned (wide.Date x) wide.Null e = absurd cc
kin_turned (wide.Date x) (wide.Bool y) e = absurd cc
kin_turned (wide.Date x) (wide.Int y) e = absurd cc
kin_turned (wide.Date x) (wide.Date y) e = refl
kin_turned (wide.Date x) (wide.Text y) e = absurd cc
kin_turned (wide.Text x) wide.Null e = absurd cc
kin_turned (wide.Text x) (wide.Bool y) e = absurd cc
kin_turned (wide.Text x) (wide.Int y) e = absurd cc
kin_turned (wide.Text x) (wide.Date y) e = absurd cc
kin_turned (wide.Text x) (wide.Text y) e = refl

told : (kin holds : Bool) → is_true (cond kin (wide.Bool holds) wide.Null) ≡ true → (kin ≡ true) × (holds ≡ true)
told true h e = (refl, e)
told false h e = absurd cc

-- one comparison says the same as another one with its sides exchanged
abbrev Turns : Cmp → Cmp → Type 0
Turns c d = (o : Ordering) → holds c o ≡ holds d (ordering_reverse o)

turned_by : (c d : Cmp) → Turns c d → (a b : Wide) → is_true (compared c a b) ≡ true → is_true (compared d b a) ≡ true
turned_by c d turns a b e =
    let both = told (are_kin a b) (holds c (wide_cmp a b)) e in
    let kin : are_kin b a ≡ true = kin_turned a b both.0 in
    let held : holds d (wide_cmp b a) ≡ true = ap (holds d) (wide_total.antisymm b a) ∙ sym (turns (wide_cmp a b)) ∙ both.1 in
    ap₂ (λ (k h : Bool). is_true (cond k (wide.Bool h) wide.Null)) kin held

pub eq_turned : (a b : Wide) → is_true (compared Cmp.Eq a b) ≡ true → is_true (compared Cmp.Eq b a) ≡ true
eq_turned = turned_by Cmp.Eq Cmp.Eq by
  where
    by : Turns Cmp.Eq Cmp.Eq
    by Less = refl
    by Equal = refl
    by Greater = refl

pub ne_turned : (a b : Wide) → is_true (compared Cmp.Ne a b) ≡ true → is_true (compared Cmp.Ne b a) ≡ true
ne_turned = turned_by Cmp.Ne Cmp.Ne by
  where
    by : Turns Cmp.Ne Cmp.Ne
    by Less = refl
    by Equal = refl
    by Greater = refl

pub lt_turned : (a b : Wide) → is_true (compared Cmp.Lt a b) ≡ true → is_true (compared Cmp.Gt b a) ≡ true
lt_turned = turned_by Cmp.Lt Cmp.Gt by
  where
    by : Turns Cmp.Lt Cmp.Gt
    by Less = refl
    by Equal = refl
    by Greater = refl

pub le_turned : (a b : Wide) → is_true (compared Cmp.Le a b) ≡ true → is_true (compared Cmp.Ge b a) ≡ true
le_turned = turned_by Cmp.Le Cmp.Ge by
  where
    by : Turns Cmp.Le Cmp.Ge
    by Less = refl
    by Equal = refl
    by Greater = refl

pub gt_turned : (a b : Wide) → is_true (compared Cmp.Gt a b) ≡ true → is_true (compared Cmp.Lt b a) ≡ true
gt_turned = turned_by Cmp.Gt Cmp.Lt by
  where
    by : Turns Cmp.Gt Cmp.Lt
    by Less = refl
    by Equal = refl
    by Greater = refl

pub ge_turned : (a b : Wide) → is_true (compared Cmp.Ge a b) ≡ true → is_true (compared Cmp.Le b a) ≡ true
ge_turned = turned_by Cmp.Ge Cmp.Le by
  where
    by : Turns Cmp.Ge Cmp.Le
    by Less = refl
    by Equal = refl
    by Greater = refl

-- a comparison says that the one is up to the other
abbrev IsUpTo : Cmp → Type 0
IsUpTo c = (o : Ordering) → holds c o ≡ true → is_le o ≡ true

-- and this one, that it is from the other on
abbrev IsFromOn : Cmp → Type 0
IsFromOn c = (o : Ordering) → holds c o ≡ true → is_le (ordering_reverse o) ≡ true

up_by : (c : Cmp) → IsUpTo c → (v w : Value) → is_true (compared c (widened v) (widened w)) ≡ true → is_le (value_cmp v w) ≡ true
up_by c up v w e = up (value_cmp v w) (told (are_kin (widened v) (widened w)) (holds c (value_cmp v w)) e).1

on_by : (c : Cmp) → IsFromOn c → (v w : Value) → is_true (compared c (widened v) (widened w)) ≡ true → is_le (value_cmp w v) ≡ true
on_by c from v w e = ap is_le (value_total.antisymm w v) ∙ from (value_cmp v w) (told (are_kin (widened v) (widened w)) (holds c (value_cmp v w)) e).1

pub lt_up : (v w : Value) → is_true (compared Cmp.Lt (widened v) (widened w)) ≡ true → is_le (value_cmp v w) ≡ true
lt_up = up_by Cmp.Lt by
  where
    by : IsUpTo Cmp.Lt
    by Less e = refl
    by Equal e = absurd cc
    by Greater e = absurd cc

pub le_up : (v w : Value) → is_true (compared Cmp.Le (widened v) (widened w)) ≡ true → is_le (value_cmp v w) ≡ true
le_up = up_by Cmp.Le (λ o e. e)

pub eq_up : (v w : Value) → is_true (compared Cmp.Eq (widened v) (widened w)) ≡ true → is_le (value_cmp v w) ≡ true
eq_up = up_by Cmp.Eq by
  where
    by : IsUpTo Cmp.Eq
    by Less e = absurd cc
    by Equal e = refl
    by Greater e = absurd cc

pub gt_on : (v w : Value) → is_true (compared Cmp.Gt (widened v) (widened w)) ≡ true → is_le (value_cmp w v) ≡ true
gt_on = on_by Cmp.Gt by
  where
    by : IsFromOn Cmp.Gt
    by Less e = absurd cc
    by Equal e = absurd cc
    by Greater e = refl

pub ge_on : (v w : Value) → is_true (compared Cmp.Ge (widened v) (widened w)) ≡ true → is_le (value_cmp w v) ≡ true
ge_on = on_by Cmp.Ge by
  where
    by : IsFromOn Cmp.Ge
    by Less e = absurd cc
    by Equal e = refl
    by Greater e = refl

pub eq_on : (v w : Value) → is_true (compared Cmp.Eq (widened v) (widened w)) ≡ true → is_le (value_cmp w v) ≡ true
eq_on = on_by Cmp.Eq by
  where
    by : IsFromOn Cmp.Eq
    by Less e = absurd cc
    by Equal e = refl
    by Greater e = absurd cc

-- ---- as a bound

pub eq_lies : (c : Cmp) (least v w : Value) → c ≡ Cmp.Eq → least ≡ w → is_true (compared c (widened v) (widened w)) ≡ true → (is_le (value_cmp least v) && is_le (value_cmp v w)) ≡ true
eq_lies c least v w is same e =
    let equal : is_true (compared Cmp.Eq (widened v) (widened w)) ≡ true = ap (λ (d : Cmp). is_true (compared d (widened v) (widened w))) (sym is) ∙ e in
    ap₂ (λ (a b : Bool). a && b) (ap (λ (x : Value). is_le (value_cmp x v)) same ∙ eq_on v w equal) (eq_up v w equal)

-- the bound of a column that stands so to a constant, whatever the row
pub side_lies : (c : Cmp) (column : ℕ) (w : Value) (e : Expr) (o : Option Bound) → ((row : List Value) → value_of (of_row row) e ≡ widened w)
    → IfSome o (λ bound. (bound.column ≡ column) × ((v : Value) → is_true (compared c (widened v) (widened w)) ≡ true → lies_in bound v ≡ true))
    → IfSome o (λ bound. (bound.column ≡ column) × ((row : List Value) (v : Value) → is_true (compared c (widened v) (value_of (of_row row) e)) ≡ true → lies_in bound v ≡ true))
side_lies c column w e None worth lies = tt
side_lies c column w e (Some bound) worth (at, lies) = (at, λ row v told. lies v (ap (λ (x : Wide). is_true (compared c (widened v) x)) (sym (worth row)) ∙ told))

-- what is true of a column and another side, is so of each row where the comparison is
pub column_lies : (c : Cmp) (a b : Expr) (column : ℕ) (o : Option Bound) → ((row : List Value) → value_of (of_row row) a ≡ widened (slice_index_or row column value.Null))
    → IfSome o (λ bound. (bound.column ≡ column) × ((row : List Value) (v : Value) → is_true (compared c (widened v) (value_of (of_row row) b)) ≡ true → lies_in bound v ≡ true))
    → IfSome o (λ bound. (row : List Value) → is_true (compared c (value_of (of_row row) a) (value_of (of_row row) b)) ≡ true → lies_in bound (slice_index_or row bound.column value.Null) ≡ true)
column_lies c a b column None a_is lies = tt
column_lies c a b column (Some bound) a_is (at, lies) = λ row e.
    ap (λ (n : ℕ). lies_in bound (slice_index_or row n value.Null)) at
    ∙ lies row (slice_index_or row column value.Null) (ap (λ (x : Wide). is_true (compared c x (value_of (of_row row) b))) (sym (a_is row)) ∙ e)

pub turned_lies : (c d : Cmp) (a b : Expr) (column : ℕ) (o : Option Bound) → ((x y : Wide) → is_true (compared c x y) ≡ true → is_true (compared d y x) ≡ true)
    → ((row : List Value) → value_of (of_row row) b ≡ widened (slice_index_or row column value.Null))
    → IfSome o (λ bound. (bound.column ≡ column) × ((row : List Value) (v : Value) → is_true (compared d (widened v) (value_of (of_row row) a)) ≡ true → lies_in bound v ≡ true))
    → IfSome o (λ bound. (row : List Value) → is_true (compared c (value_of (of_row row) a) (value_of (of_row row) b)) ≡ true → lies_in bound (slice_index_or row bound.column value.Null) ≡ true)
turned_lies c d a b column None turns b_is lies = tt
turned_lies c d a b column (Some bound) turns b_is (at, lies) = λ row e.
    ap (λ (n : ℕ). lies_in bound (slice_index_or row n value.Null)) at
    ∙ lies row (slice_index_or row column value.Null) (ap (λ (y : Wide). is_true (compared d y (value_of (of_row row) a))) (sym (b_is row)) ∙ turns (value_of (of_row row) a) (value_of (of_row row) b) e)
