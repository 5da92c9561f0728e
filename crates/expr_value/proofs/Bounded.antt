-- No value of an expression is greater than its bound.
use Rattle.std.proofs.Common.{◌≡◌, ℕ, ◌≤◌, pos, negsuc, Bool, true, false, not, if◌then◌else◌, List, length, get_or, map, fold, Some, option_map, subst, arith, ap, inl, inr}
use Rattle.std.specs.List.{All}
use Rattle.std.proofs.lemmas.Bool.{cases_lt}
use Rattle.std.proofs.lemmas.Int.{ints}
use Rattle.std.proofs.lemmas.List.{get_or_past}
use Rattle.std.proofs.lemmas.List.Elements.{All-get_or}
use Rattle.std.proofs.Math.ListN.{get_or-map}
use Rattle.col_value.specs.declared.value.Value.{Value}
use Rattle.col_value.specs.declared.value.Value.TheVariants as value
use Rattle.col_value.specs.declared.wide.Wide.{Wide}
use Rattle.col_value.specs.declared.wide.Wide.TheVariants as wide
use Rattle.col_value.specs.Order.{IsValue, widened, wide_cmp}
use Rattle.sql_bound.specs.declared.expr.Expr.{Expr}
use Rattle.sql_bound.specs.declared.expr.BoundTerm.{BoundTerm}
use Rattle.sql_bound.specs.declared.expr.Expr.TheViews.{roll-Expr, roll-BoundTerm}
use Rattle.sql_bound.specs.declared.expr.Expr.TheOpen.{Expr-F, BoundTerm-F}
use Rattle.sql_bound.specs.declared.expr.Expr.TheFolds.{map-Expr, map-BoundTerm, fold-roll-Expr, fold-roll-BoundTerm, ind-Expr, ind-BoundTerm}
use Rattle.sql_bound.specs.Bounds.{bound_of_value, column_bound, bound_step, term_bound, bound_of}
use Rattle.sql_bound.specs.Values.{Scope, value_step, term_step, value_of, negated, truth_in, both_hold, one_holds, are_kin, holds}
use Rattle.expr_value.specs.Terms.{term_value, bound_of_term}
use Rattle.expr_value.proofs.Magnitudes.{bound_of_truth, bound_of_compared, bound_of_negated, bound_of_each, bound_of_every}

value_within : (v : Value) → IsValue v → bound_of_value (widened v) ≤ column_bound
value_within value.Null p = omega arith
value_within (value.Bool b) p = omega arith
value_within (value.Int (pos n)) p = omega (arith, ints, p.1)
value_within (value.Int (negsuc n)) p = omega (arith, ints, p.0)
value_within (value.Date d) p = omega arith
value_within (value.Text t) p = omega arith

at_within : (vs : List Value) (i : ℕ) → All IsValue vs → bound_of_value (widened (get_or vs i value.Null)) ≤ column_bound
at_within vs i p =
    elim (cases_lt i (length vs)) [
      | inl q ↦ value_within (get_or vs i value.Null) (All-get_or IsValue vs i value.Null q p)
      | inr q ↦
          let e : get_or vs i value.Null ≡ value.Null = get_or_past vs i value.Null q in
          omega (arith, ap (λ (v : Value). bound_of_value (widened v)) e)
    ]

-- what may stand in a scope
pub record IsScope (s : Scope) : Type 0 where
  pub rows : All IsValue s.row
  pub keys : All IsValue s.keys

abbrev pub bounds_in : Scope → List ℕ
bounds_in s = map bound_of_value s.aggs

abbrev pub IsBounded : Scope → Expr → Type 0
IsBounded s e = bound_of_value (value_of s e) ≤ bound_of (bounds_in s) e

abbrev pub IsBoundedTerm : Scope → BoundTerm → Type 0
IsBoundedTerm s t = bound_of_value (term_value s t) ≤ bound_of_term (bounds_in s) t

-- one level, over parts that are bounded
level : (s : Scope) → IsScope s → (y : Expr-F ((e : Expr) × IsBounded s e) ((t : BoundTerm) × IsBoundedTerm s t))
    → bound_of_value (value_step s (map-Expr _ _ _ _ (value_of s) (term_value s) (map-Expr _ _ _ _ (λ e. e.0) (λ t. t.0) y)))
    ≤ bound_step (bounds_in s) (map-Expr _ _ _ _ (bound_of (bounds_in s)) (bound_of_term (bounds_in s)) (map-Expr _ _ _ _ (λ e. e.0) (λ t. t.0) y))
level s p (Expr-F.Lit w) = omega arith
level s p (Expr-F.Col i) = at_within s.row i p.rows
level s p (Expr-F.Key i) = at_within s.keys i p.keys
level s p (Expr-F.Agg i) = omega (arith, get_or-map bound_of_value s.aggs i wide.Null)
level s p (Expr-F.Neg a) = omega (arith, bound_of_negated (value_of s a.0), a.1)
level s p (Expr-F.Sum ts) = bound_of_each (term_value s) (bound_of_term (bounds_in s)) ts
level s p (Expr-F.Product es) = bound_of_every (value_of s) (bound_of (bounds_in s)) es
level s p (Expr-F.Compare a c b) = omega (arith, bound_of_compared (are_kin (value_of s a.0) (value_of s b.0)) (holds c (wide_cmp (value_of s a.0) (value_of s b.0))))
level s p (Expr-F.IsNull a) = omega arith
level s p (Expr-F.Not a) = omega (arith, bound_of_truth (option_map not (truth_in (value_of s a.0))))
level s p (Expr-F.And es) = omega (arith, bound_of_truth (fold both_hold (Some true) (map truth_in (map (value_of s) (map (λ e. e.0) es)))))
level s p (Expr-F.Or es) = omega (arith, bound_of_truth (fold one_holds (Some false) (map truth_in (map (value_of s) (map (λ e. e.0) es)))))

term_level : (s : Scope) → (minus : Bool) (e : Expr) → IsBounded s e → bound_of_value (if minus then negated (value_of s e) else value_of s e) ≤ bound_of (bounds_in s) e
term_level s true e p = omega (arith, bound_of_negated (value_of s e))
term_level s false e p = p

rolled : (s : Scope) → IsScope s → (x : Expr-F Expr BoundTerm) (y : Expr-F ((e : Expr) × IsBounded s e) ((t : BoundTerm) × IsBoundedTerm s t))
    → map-Expr _ _ _ _ (λ e. e.0) (λ t. t.0) y ≡ x → IsBounded s (roll-Expr x)
rolled s p x y is =
    let v = fold-roll-Expr Wide Wide (value_step s) term_step x in
    let b = fold-roll-Expr ℕ ℕ (bound_step (bounds_in s)) term_bound x in
    let l = subst
    (λ (z : Expr-F Expr BoundTerm).
    bound_of_value (value_step s (map-Expr _ _ _ _ (value_of s) (term_value s) z))
    ≤ bound_step (bounds_in s) (map-Expr _ _ _ _ (bound_of (bounds_in s)) (bound_of_term (bounds_in s)) z)) is (level s p y) in
    omega (arith, ap bound_of_value v, b, l)

rolled_term : (s : Scope) → (x : BoundTerm-F Expr BoundTerm) (y : BoundTerm-F ((e : Expr) × IsBounded s e) ((t : BoundTerm) × IsBoundedTerm s t))
    → map-BoundTerm _ _ _ _ (λ e. e.0) (λ t. t.0) y ≡ x → IsBoundedTerm s (roll-BoundTerm x)
rolled_term s x y is =
    let v = fold-roll-BoundTerm Wide Wide (value_step s) term_step x in
    let b = fold-roll-BoundTerm ℕ ℕ (bound_step (bounds_in s)) term_bound x in
    let l = subst (λ (z : BoundTerm-F Expr BoundTerm). bound_of_value (if z.minus then negated (value_of s z.part) else value_of s z.part) ≤ bound_of (bounds_in s) z.part) is (term_level s y.minus y.part.0 y.part.1) in
    omega (arith, ap bound_of_value v, b, l)

pub bounded : (s : Scope) → IsScope s → (e : Expr) → IsBounded s e
bounded s p = ind-Expr (IsBounded s) (IsBoundedTerm s) (rolled s p) (rolled_term s)

pub bounded_term : (s : Scope) → IsScope s → (t : BoundTerm) → IsBoundedTerm s t
bounded_term s p = ind-BoundTerm (IsBounded s) (IsBoundedTerm s) (rolled s p) (rolled_term s)
