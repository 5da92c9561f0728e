-- The bound of a narrow expression is at most what a result holds, so that counting it up to 2^128 - 1 is exact.
use Rattle.std.proofs.Common.{◌≡◌, ℕ, ◌≤◌, Bool, true, false, ◌&&◌, nat_le, List, [], ◌∷◌, map, subst, arith, refl, sym, ap, ap₂, ◌∙◌, Option, None, Some}
use Rattle.std.specs.List.{list_all}
use Rattle.std.specs.Option.{option_map_or}
use Rattle.std.proofs.lemmas.Bool.Decides.{nat_tests}
use Rattle.sql_tree.specs.declared.tree.AggKind.{AggKind}
use Rattle.sql_bound.specs.declared.expr.Expr.{Expr}
use Rattle.sql_bound.specs.declared.expr.BoundTerm.{BoundTerm}
use Rattle.sql_bound.specs.declared.query.Aggregate.{Aggregate}
use Rattle.sql_bound.specs.declared.expr.Expr.TheViews.{roll-Expr, roll-BoundTerm, out-Expr}
use Rattle.sql_bound.specs.declared.expr.Expr.TheOpen.{Expr-F, BoundTerm-F}
use Rattle.sql_bound.specs.declared.expr.Expr.TheFolds.{map-Expr, map-BoundTerm, fold-roll-Expr, fold-roll-BoundTerm, fold_out-Expr, ind-Expr}
use Rattle.sql_bound.specs.Bounds.{bound_step, term_bound, bound_of, bound_over, bound_of_aggregate, measure_step, term_measure, measure, total, product, bounds, all_narrow, is_narrow, result_bound}
use Rattle.sql_binding.specs.Queries.{is_narrow_aggregate}
use Rattle.expr_check.specs.Capped.{capped}
use Rattle.statement_binder.specs.Measures.{term_bound_of, term_measure_of}

abbrev IsMeasured : Expr → Type 0
IsMeasured e = (measure [] e).0 ≡ bound_of [] e

abbrev IsMeasuredTerm : BoundTerm → Type 0
IsMeasuredTerm t = (term_measure_of t).0 ≡ term_bound_of t

same_bounds : {X : Type 0} (m : X → ℕ × Bool) (b : X → ℕ) (ys : List ((x : X) × ((m x).0 ≡ b x))) → bounds (map m (map (λ y. y.0) ys)) ≡ map b (map (λ y. y.0) ys)
same_bounds m b [] = refl
same_bounds m b (y ∷ ys) = ap₂ ◌∷◌ y.1 (same_bounds m b ys)

level : (y : Expr-F ((e : Expr) × IsMeasured e) ((t : BoundTerm) × IsMeasuredTerm t))
    → (measure_step [] (map-Expr _ _ _ _ (measure []) term_measure_of (map-Expr _ _ _ _ (λ e. e.0) (λ t. t.0) y))).0
    ≡ bound_step [] (map-Expr _ _ _ _ (bound_of []) term_bound_of (map-Expr _ _ _ _ (λ e. e.0) (λ t. t.0) y))
level (Expr-F.Lit w) = refl
level (Expr-F.Col i) = refl
level (Expr-F.Key i) = refl
level (Expr-F.Agg i) = refl
level (Expr-F.Neg a) = a.1
level (Expr-F.Sum ts) = ap total (same_bounds term_measure_of term_bound_of ts)
level (Expr-F.Product es) = ap product (same_bounds (measure []) (bound_of []) es)
level (Expr-F.Compare a c b) = refl
level (Expr-F.IsNull a) = refl
level (Expr-F.Not a) = refl
level (Expr-F.And es) = refl
level (Expr-F.Or es) = refl

rolled : (x : Expr-F Expr BoundTerm) (y : Expr-F ((e : Expr) × IsMeasured e) ((t : BoundTerm) × IsMeasuredTerm t))
    → map-Expr _ _ _ _ (λ e. e.0) (λ t. t.0) y ≡ x → IsMeasured (roll-Expr x)
rolled x y is =
    let m = fold-roll-Expr (ℕ × Bool) (ℕ × Bool) (measure_step []) term_measure x in
    let b = fold-roll-Expr ℕ ℕ (bound_step []) term_bound x in
    let l = subst
    (λ (z : Expr-F Expr BoundTerm).
    (measure_step [] (map-Expr _ _ _ _ (measure []) term_measure_of z)).0
    ≡ bound_step [] (map-Expr _ _ _ _ (bound_of []) term_bound_of z)) is (level y) in
    ap (λ (n : ℕ × Bool). n.0) m ∙ l ∙ sym b

rolled_term : (x : BoundTerm-F Expr BoundTerm) (y : BoundTerm-F ((e : Expr) × IsMeasured e) ((t : BoundTerm) × IsMeasuredTerm t))
    → map-BoundTerm _ _ _ _ (λ e. e.0) (λ t. t.0) y ≡ x → IsMeasuredTerm (roll-BoundTerm x)
rolled_term x y is =
    let m = fold-roll-BoundTerm (ℕ × Bool) (ℕ × Bool) (measure_step []) term_measure x in
    let b = fold-roll-BoundTerm ℕ ℕ (bound_step []) term_bound x in
    let l = subst (λ (z : BoundTerm-F Expr BoundTerm). (measure [] z.part).0 ≡ bound_of [] z.part) is y.part.1 in
    ap (λ (n : ℕ × Bool). n.0) m ∙ l ∙ sym b

measured : (e : Expr) → IsMeasured e
measured = ind-Expr IsMeasured IsMeasuredTerm rolled rolled_term

first_true : (a b : Bool) → (a && b) ≡ true → a ≡ true
first_true true b e = refl
first_true false b e = cc

second_true : (a b : Bool) → (a && b) ≡ true → b ≡ true
second_true true b e = e
second_true false b e = cc

narrow_level : (m : Expr-F (ℕ × Bool) (ℕ × Bool)) → (measure_step [] m).1 ≡ true → nat_le (measure_step [] m).0 result_bound ≡ true
narrow_level (Expr-F.Lit w) e = e
narrow_level (Expr-F.Col i) e = refl
narrow_level (Expr-F.Key i) e = refl
narrow_level (Expr-F.Agg i) e = e
narrow_level (Expr-F.Neg a) e = first_true (nat_le a.0 result_bound) a.1 e
narrow_level (Expr-F.Sum ms) e = first_true (nat_le (total (bounds ms)) result_bound) (all_narrow ms) e
narrow_level (Expr-F.Product ms) e = first_true (nat_le (product (bounds ms)) result_bound) (all_narrow ms) e
narrow_level (Expr-F.Compare a c b) e = refl
narrow_level (Expr-F.IsNull a) e = refl
narrow_level (Expr-F.Not a) e = refl
narrow_level (Expr-F.And ms) e = refl
narrow_level (Expr-F.Or ms) e = refl

at_most : (n m : ℕ) → nat_le n m ≡ true → n ≤ m
at_most n m e = grind (arith, nat_tests)

narrow_bound : (e : Expr) → is_narrow [] e ≡ true → bound_of [] e ≤ result_bound
narrow_bound e p =
    let out = fold_out-Expr (ℕ × Bool) (ℕ × Bool) (measure_step []) term_measure e in
    let q = subst (λ (m : ℕ × Bool). m.1 ≡ true) out p in
    let r = subst (λ (m : ℕ × Bool). nat_le m.0 result_bound ≡ true) (sym out) (narrow_level (map-Expr _ _ _ _ (measure []) term_measure_of (out-Expr e)) q) in
    omega (arith, at_most (measure [] e).0 result_bound r, measured e)

small : (n : ℕ) → n ≤ result_bound → capped n ≡ n
small n h = omega (arith, h)

arg_exact : (arg : Option Expr) → option_map_or (is_narrow []) arg true ≡ true → capped (option_map_or (bound_of []) arg 0) ≡ option_map_or (bound_of []) arg 0
arg_exact None h = refl
arg_exact (Some e) h = small (bound_of [] e) (narrow_bound e h)

over_exact : (k : AggKind) (n : ℕ) → capped n ≡ n → capped (bound_over k n) ≡ bound_over k n
over_exact AggKind.CountAll n h = refl
over_exact AggKind.Count n h = refl
over_exact AggKind.Sum n h = refl
over_exact AggKind.Min n h = h
over_exact AggKind.Max n h = h

-- so are the bounds of narrow aggregates
pub exact_bounds : (aggs : List Aggregate) → list_all is_narrow_aggregate aggs ≡ true → map (λ (a : Aggregate). capped (bound_of_aggregate a)) aggs ≡ map bound_of_aggregate aggs
exact_bounds [] h = refl
exact_bounds (a ∷ aggs) h =
    ap₂ ◌∷◌ (over_exact a.kind (option_map_or (bound_of []) a.arg 0) (arg_exact a.arg (first_true (is_narrow_aggregate a) (list_all is_narrow_aggregate aggs) h)))
    (exact_bounds aggs (second_true (is_narrow_aggregate a) (list_all is_narrow_aggregate aggs) h))
