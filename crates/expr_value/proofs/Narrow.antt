-- What a narrow expression has: each number in it fits.
use Rattle.std.proofs.Common.{◌≡◌, ℕ, ◌+◌, ◌≤◌, ◌<◌, Bool, true, false, ◌&&◌, nat_le, List, [], ◌∷◌, ◌++◌, length, get_or, map, take, drop, fold, subst, arith, refl, sym, ap, ap₂, ◌∙◌, inl, inr}
use Rattle.std.specs.List.{All}
use Rattle.std.proofs.lemmas.Bool.{cases_Bool, false≢true}
use Rattle.std.proofs.lemmas.Bool.Decides.{nat_tests}
use Rattle.std.proofs.lemmas.List.{take-append-drop, map-append, get_or_default}
use Rattle.std.proofs.lemmas.List.Sums.{fold-append}
use Rattle.std.proofs.lemmas.List.Folds.{list_all_at, list_all-map}
use Rattle.sql_bound.specs.declared.expr.Expr.{Expr}
use Rattle.sql_bound.specs.declared.expr.BoundTerm.{BoundTerm}
use Rattle.sql_bound.specs.declared.expr.Expr.TheViews.{roll-Expr, roll-BoundTerm, out-Expr, rolls-Neg}
use Rattle.sql_bound.specs.declared.expr.Expr.TheVariants.{Neg}
use Rattle.sql_bound.specs.declared.expr.Expr.TheOpen.{Expr-F, BoundTerm-F}
use Rattle.sql_bound.specs.declared.expr.Expr.TheFolds.{map-Expr, map-BoundTerm, fold-roll-Expr, fold-roll-BoundTerm, fold_out-Expr, fold_out-BoundTerm, ind-Expr, ind-BoundTerm}
use Rattle.sql_bound.specs.Bounds.{bound_of_value, bound_step, term_bound, bound_of, measure_step, term_measure, measure, total, product, bounds, all_narrow, is_narrow, result_bound}
use Rattle.sql_bound.specs.Values.{Scope, value_of, sum_of, product_of}
use Rattle.expr_value.specs.Terms.{term_value, bound_of_term, measure_of_term, is_narrow_sum, is_narrow_product}
use Rattle.expr_value.proofs.Magnitudes.{bound_of_sum, bound_of_product}
use Rattle.expr_value.proofs.Bounded.{IsScope, bounds_in, bounded, bounded_term}

abbrev IsMeasured : List ℕ → Expr → Type 0
IsMeasured aggs e = (measure aggs e).0 ≡ bound_of aggs e

abbrev IsMeasuredTerm : List ℕ → BoundTerm → Type 0
IsMeasuredTerm aggs t = (measure_of_term aggs t).0 ≡ bound_of_term aggs t

same_bounds : {X : Type 0} (m : X → ℕ × Bool) (b : X → ℕ) (ys : List ((x : X) × ((m x).0 ≡ b x))) → bounds (map m (map (λ y. y.0) ys)) ≡ map b (map (λ y. y.0) ys)
same_bounds m b [] = refl
same_bounds m b (y ∷ ys) = ap₂ ◌∷◌ y.1 (same_bounds m b ys)

level : (aggs : List ℕ) → (y : Expr-F ((e : Expr) × IsMeasured aggs e) ((t : BoundTerm) × IsMeasuredTerm aggs t))
    → (measure_step aggs (map-Expr _ _ _ _ (measure aggs) (measure_of_term aggs) (map-Expr _ _ _ _ (λ e. e.0) (λ t. t.0) y))).0
    ≡ bound_step aggs (map-Expr _ _ _ _ (bound_of aggs) (bound_of_term aggs) (map-Expr _ _ _ _ (λ e. e.0) (λ t. t.0) y))
level aggs (Expr-F.Lit w) = refl
level aggs (Expr-F.Col i) = refl
level aggs (Expr-F.Key i) = refl
level aggs (Expr-F.Agg i) = refl
level aggs (Expr-F.Neg a) = a.1
level aggs (Expr-F.Sum ts) = ap total (same_bounds (measure_of_term aggs) (bound_of_term aggs) ts)
level aggs (Expr-F.Product es) = ap product (same_bounds (measure aggs) (bound_of aggs) es)
level aggs (Expr-F.Compare a c b) = refl
level aggs (Expr-F.IsNull a) = refl
level aggs (Expr-F.Not a) = refl
level aggs (Expr-F.And es) = refl
level aggs (Expr-F.Or es) = refl

rolled : (aggs : List ℕ) → (x : Expr-F Expr BoundTerm) (y : Expr-F ((e : Expr) × IsMeasured aggs e) ((t : BoundTerm) × IsMeasuredTerm aggs t))
    → map-Expr _ _ _ _ (λ e. e.0) (λ t. t.0) y ≡ x → IsMeasured aggs (roll-Expr x)
rolled aggs x y is =
    let m = fold-roll-Expr (ℕ × Bool) (ℕ × Bool) (measure_step aggs) term_measure x in
    let b = fold-roll-Expr ℕ ℕ (bound_step aggs) term_bound x in
    let l = subst
    (λ (z : Expr-F Expr BoundTerm).
    (measure_step aggs (map-Expr _ _ _ _ (measure aggs) (measure_of_term aggs) z)).0
    ≡ bound_step aggs (map-Expr _ _ _ _ (bound_of aggs) (bound_of_term aggs) z)) is (level aggs y) in
    ap (λ (n : ℕ × Bool). n.0) m ∙ l ∙ sym b

rolled_term : (aggs : List ℕ) → (x : BoundTerm-F Expr BoundTerm) (y : BoundTerm-F ((e : Expr) × IsMeasured aggs e) ((t : BoundTerm) × IsMeasuredTerm aggs t))
    → map-BoundTerm _ _ _ _ (λ e. e.0) (λ t. t.0) y ≡ x → IsMeasuredTerm aggs (roll-BoundTerm x)
rolled_term aggs x y is =
    let m = fold-roll-BoundTerm (ℕ × Bool) (ℕ × Bool) (measure_step aggs) term_measure x in
    let b = fold-roll-BoundTerm ℕ ℕ (bound_step aggs) term_bound x in
    let l = subst (λ (z : BoundTerm-F Expr BoundTerm). (measure aggs z.part).0 ≡ bound_of aggs z.part) is y.part.1 in
    ap (λ (n : ℕ × Bool). n.0) m ∙ l ∙ sym b

measured : (aggs : List ℕ) (e : Expr) → IsMeasured aggs e
measured aggs = ind-Expr (IsMeasured aggs) (IsMeasuredTerm aggs) (rolled aggs) (rolled_term aggs)

measured_term : (aggs : List ℕ) (t : BoundTerm) → IsMeasuredTerm aggs t
measured_term aggs = ind-BoundTerm (IsMeasured aggs) (IsMeasuredTerm aggs) (rolled aggs) (rolled_term aggs)

first_true : (a b : Bool) → (a && b) ≡ true → a ≡ true
first_true true b e = refl
first_true false b e = cc

second_true : (a b : Bool) → (a && b) ≡ true → b ≡ true
second_true true b e = e
second_true false b e = cc

narrow_level : (aggs : List ℕ) (m : Expr-F (ℕ × Bool) (ℕ × Bool)) → (measure_step aggs m).1 ≡ true → nat_le (measure_step aggs m).0 result_bound ≡ true
narrow_level aggs (Expr-F.Lit w) e = e
narrow_level aggs (Expr-F.Col i) e = refl
narrow_level aggs (Expr-F.Key i) e = refl
narrow_level aggs (Expr-F.Agg i) e = e
narrow_level aggs (Expr-F.Neg a) e = first_true (nat_le a.0 result_bound) a.1 e
narrow_level aggs (Expr-F.Sum ms) e = first_true (nat_le (total (bounds ms)) result_bound) (all_narrow ms) e
narrow_level aggs (Expr-F.Product ms) e = first_true (nat_le (product (bounds ms)) result_bound) (all_narrow ms) e
narrow_level aggs (Expr-F.Compare a c b) e = refl
narrow_level aggs (Expr-F.IsNull a) e = refl
narrow_level aggs (Expr-F.Not a) e = refl
narrow_level aggs (Expr-F.And ms) e = refl
narrow_level aggs (Expr-F.Or ms) e = refl

at_most : (n m : ℕ) → nat_le n m ≡ true → n ≤ m
at_most n m e = grind (arith, nat_tests)

-- the bound of a narrow expression is at most what a result holds
narrow_bound : (aggs : List ℕ) (e : Expr) → is_narrow aggs e ≡ true → bound_of aggs e ≤ result_bound
narrow_bound aggs e p =
    let out = fold_out-Expr (ℕ × Bool) (ℕ × Bool) (measure_step aggs) term_measure e in
    let q = subst (λ (m : ℕ × Bool). m.1 ≡ true) out p in
    let r = subst (λ (m : ℕ × Bool). nat_le m.0 result_bound ≡ true) (sym out) (narrow_level aggs (map-Expr _ _ _ _ (measure aggs) (measure_of_term aggs) (out-Expr e)) q) in
    omega (arith, at_most (measure aggs e).0 result_bound r, measured aggs e)

-- each value of a narrow expression fits
pub value_fits : (s : Scope) → IsScope s → (e : Expr) → is_narrow (bounds_in s) e ≡ true → bound_of_value (value_of s e) ≤ result_bound
value_fits s p e q = omega (arith, bounded s p e, narrow_bound (bounds_in s) e q)

-- each part of a narrow chain is narrow
all_at : {X : Type 0} (m : X → ℕ × Bool) (xs : List X) (i : ℕ) (x : X) → i < length xs → x ≡ get_or xs i x → all_narrow (map m xs) ≡ true → (m x).1 ≡ true
all_at m xs i x q is p =
    elim (cases_Bool (m (get_or xs i x)).1) [
      | inl t ↦ ap (λ y. (m y).1) is ∙ t
      | inr f ↦ absurd (false≢true (sym (list_all_at (λ y. (m y).1) xs i x q f) ∙ sym (list_all-map (λ n. n.1) m xs) ∙ p))
    ]

pub chain_narrow : {X : Type 0} (m : X → ℕ × Bool) (xs : List X) → all_narrow (map m xs) ≡ true → All (λ x. (m x).1 ≡ true) xs
chain_narrow m xs p = λ k d q. all_at m xs k (get_or xs k d) q (get_or_default xs k d (get_or xs k d) q) p

pub sum_narrow : {X : Type 0} (m : X → ℕ × Bool) (xs : List X) → is_narrow_sum (map m xs) ≡ true → All (λ x. (m x).1 ≡ true) xs
sum_narrow m xs p =
    chain_narrow m xs (second_true (nat_le (total (bounds (map m xs))) result_bound) (all_narrow (map m xs)) p)

pub product_narrow : {X : Type 0} (m : X → ℕ × Bool) (xs : List X) → is_narrow_product (map m xs) ≡ true → All (λ x. (m x).1 ≡ true) xs
product_narrow m xs p =
    chain_narrow m xs (second_true (nat_le (product (bounds (map m xs))) result_bound) (all_narrow (map m xs)) p)

-- the bounds of a chain are those of its parts
chain_bounds : {X : Type 0} (m : X → ℕ × Bool) (b : X → ℕ) → ((x : X) → (m x).0 ≡ b x) → (xs : List X) → bounds (map m xs) ≡ map b xs
chain_bounds m b h [] = refl
chain_bounds m b h (x ∷ xs) = ap₂ ◌∷◌ (h x) (chain_bounds m b h xs)

rising : (n : ℕ) (ns : List ℕ) → n ≤ fold ◌+◌ n ns
rising n [] = omega arith
rising n (m ∷ ns) = omega (arith, rising (n + m) ns)

front_total : {X : Type 0} (b : X → ℕ) (xs : List X) (i : ℕ) → total (map b (take i xs)) ≤ total (map b xs)
front_total b xs i =
    let e : total (map b (take i xs ++ drop i xs)) ≡ total (map b xs) = ap (λ ys. total (map b ys)) (take-append-drop i xs) in
    let f : total (map b (take i xs ++ drop i xs)) ≡ fold ◌+◌ (total (map b (take i xs))) (map b (drop i xs)) = ap total (map-append b (take i xs) (drop i xs)) ∙ fold-append ◌+◌ 0 (map b (take i xs)) (map b (drop i xs)) in
    omega (arith, rising (total (map b (take i xs))) (map b (drop i xs)))

-- what a narrow sum comes to on the way
pub sum_fits : (s : Scope) → IsScope s → (ts : List BoundTerm) → is_narrow_sum (map (measure_of_term (bounds_in s)) ts) ≡ true → (i : ℕ) → bound_of_value (sum_of (map (term_value s) (take i ts))) ≤ result_bound
sum_fits s p ts q i =
    let m = measure_of_term (bounds_in s) in
    let b = bound_of_term (bounds_in s) in
    let whole : total (bounds (map m ts)) ≤ result_bound = at_most (total (bounds (map m ts))) result_bound (first_true (nat_le (total (bounds (map m ts))) result_bound) (all_narrow (map m ts)) q) in
    let same : total (bounds (map m ts)) ≡ total (map b ts) = ap total (chain_bounds m b (measured_term (bounds_in s)) ts) in
    omega (arith, bound_of_sum (term_value s) b (bounded_term s p) (take i ts), front_total b ts i)

-- what a narrow product comes to
pub product_fits : (s : Scope) → IsScope s → (es : List Expr) → is_narrow_product (map (measure (bounds_in s)) es) ≡ true → bound_of_value (product_of (map (value_of s) es)) ≤ result_bound
product_fits s p es q =
    let m = measure (bounds_in s) in
    let b = bound_of (bounds_in s) in
    let whole : product (bounds (map m es)) ≤ result_bound = at_most (product (bounds (map m es))) result_bound (first_true (nat_le (product (bounds (map m es))) result_bound) (all_narrow (map m es)) q) in
    let same : product (bounds (map m es)) ≡ product (map b es) = ap product (chain_bounds m b (measured (bounds_in s)) es) in
    omega (arith, bound_of_product (value_of s) b (bounded s p) es)

-- a part of a sum is narrow where it is narrow before its sign is turned
pub term_fits : (s : Scope) → IsScope s → (t : BoundTerm) → (measure_of_term (bounds_in s) t).1 ≡ true → bound_of_value (value_of s t.part) ≤ result_bound
term_fits s p t q = value_fits s p t.part (subst (λ (m : ℕ × Bool). m.1 ≡ true) (fold_out-BoundTerm (ℕ × Bool) (ℕ × Bool) (measure_step (bounds_in s)) term_measure t) q)

-- what stands behind a minus is narrow where the whole is
neg_narrow : (aggs : List ℕ) (part : Expr) → is_narrow aggs (Neg part) ≡ true → is_narrow aggs part ≡ true
neg_narrow aggs part p =
    let e = ap (measure aggs) (sym (rolls-Neg part)) ∙ fold-roll-Expr (ℕ × Bool) (ℕ × Bool) (measure_step aggs) term_measure (Expr-F.Neg part) in
    second_true (nat_le (measure aggs part).0 result_bound) (measure aggs part).1 (sym (ap (λ (m : ℕ × Bool). m.1) e) ∙ p)

pub neg_fits : (s : Scope) → IsScope s → (e part : Expr) → e ≡ Neg part → is_narrow (bounds_in s) e ≡ true → bound_of_value (value_of s part) ≤ result_bound
neg_fits s p e part is q =
    value_fits s p part (neg_narrow (bounds_in s) part (subst (λ (x : Expr). is_narrow (bounds_in s) x ≡ true) is q))
