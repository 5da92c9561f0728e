-- An expression that is narrow where its aggregates have some bounds is narrow where they have lesser ones.
use Rattle.std.proofs.Common.{◌≡◌, ℕ, ◌+◌, ◌*◌, ◌≤◌, ◌&&◌, nat_le, Bool, true, false, List, [], ◌∷◌, get_or, map, fold, refl, sym, arith, subst}
use Rattle.std.proofs.lemmas.Bool.Decides.{nat_tests}
use Rattle.std.proofs.Math.Nat.{mul-le-mul_left, mul-le-mul_right}
use Rattle.sql_bound.specs.declared.expr.Expr.{Expr}
use Rattle.sql_bound.specs.declared.expr.BoundTerm.{BoundTerm}
use Rattle.sql_bound.specs.declared.expr.Expr.TheViews.{roll-Expr, roll-BoundTerm}
use Rattle.sql_bound.specs.declared.expr.Expr.TheOpen.{Expr-F, BoundTerm-F}
use Rattle.sql_bound.specs.declared.expr.Expr.TheFolds.{map-Expr, map-BoundTerm, fold-BoundTerm, fold-roll-Expr, fold-roll-BoundTerm, ind-Expr}
use Rattle.sql_bound.specs.Bounds.{measure, measure_step, term_measure, bounds, all_narrow, is_narrow, result_bound}

-- a lesser bound, and narrow where the other is
pub record IsLess (a b : ℕ × Bool) : Type 0 where
  pub bound : a.0 ≤ b.0
  pub narrow : b.1 ≡ true → a.1 ≡ true

abbrev AreLess : List ℕ → List ℕ → Type 0
AreLess ks ns = (i : ℕ) → get_or ks i 0 ≤ get_or ns i 0

fits_too : (m n : ℕ) → m ≤ n → nat_le n result_bound ≡ true → nat_le m result_bound ≡ true
fits_too m n h e = grind (arith, nat_tests)

both : (a b : Bool) → a ≡ true → b ≡ true → (a && b) ≡ true
both true b e f = f
both false b e f = e

left : (a b : Bool) → (a && b) ≡ true → a ≡ true
left true b e = refl
left false b e = e

right : (a b : Bool) → (a && b) ≡ true → b ≡ true
right true b e = e
right false b e = cc

module _ {X : Type 0} (f g : X → ℕ × Bool) where
  total_less : (xs : List ((x : X) × IsLess (f x) (g x))) (m n : ℕ) → m ≤ n → fold ◌+◌ m (bounds (map f (map (λ e. e.0) xs))) ≤ fold ◌+◌ n (bounds (map g (map (λ e. e.0) xs)))
  total_less [] m n h = h
  total_less (x ∷ xs) m n h = total_less xs (m + (f x.0).0) (n + (g x.0).0) (omega (arith, x.1.bound))

  product_less : (xs : List ((x : X) × IsLess (f x) (g x))) (m n : ℕ) → m ≤ n → fold ◌*◌ m (bounds (map f (map (λ e. e.0) xs))) ≤ fold ◌*◌ n (bounds (map g (map (λ e. e.0) xs)))
  product_less [] m n h = h
  product_less (x ∷ xs) m n h =
      product_less xs (m * (f x.0).0) (n * (g x.0).0) (omega (arith, mul-le-mul_left m x.1.bound, mul-le-mul_right (g x.0).0 h))

  narrow_less : (xs : List ((x : X) × IsLess (f x) (g x))) → all_narrow (map g (map (λ e. e.0) xs)) ≡ true → all_narrow (map f (map (λ e. e.0) xs)) ≡ true
  narrow_less [] e = e
  narrow_less (x ∷ xs) e = both _ _ (x.1.narrow (left _ _ e)) (narrow_less xs (right _ _ e))

measure_of_term : List ℕ → BoundTerm → ℕ × Bool
measure_of_term aggs = fold-BoundTerm (ℕ × Bool) (ℕ × Bool) (measure_step aggs) term_measure

module _ (ks ns : List ℕ) (h : AreLess ks ns) where
  Here : Expr → Type 0
  Here e = IsLess (measure ks e) (measure ns e)

  HereToo : BoundTerm → Type 0
  HereToo t = IsLess (measure_of_term ks t) (measure_of_term ns t)

  -- one level, over parts of which it holds
  level : (y : Expr-F ((e : Expr) × Here e) ((t : BoundTerm) × HereToo t))
      → IsLess (measure_step ks (map-Expr _ _ _ _ (measure ks) (measure_of_term ks) (map-Expr _ _ _ _ (λ e. e.0) (λ t. t.0) y)))
      (measure_step ns (map-Expr _ _ _ _ (measure ns) (measure_of_term ns) (map-Expr _ _ _ _ (λ e. e.0) (λ t. t.0) y)))
  unfolding Here HereToo
  level (Expr-F.Lit w) = record { bound = omega arith; narrow = λ e. e }
  level (Expr-F.Col i) = record { bound = omega arith; narrow = λ e. e }
  level (Expr-F.Key i) = record { bound = omega arith; narrow = λ e. e }
  level (Expr-F.Agg i) = record { bound = h i; narrow = fits_too _ _ (h i) }
  level (Expr-F.Neg a) = record { bound = a.1.bound; narrow = λ e. both _ _ (fits_too _ _ a.1.bound (left _ _ e)) (a.1.narrow (right _ _ e)) }
  level (Expr-F.Sum ts) =
      let least = total_less (measure_of_term ks) (measure_of_term ns) ts 0 0 (omega arith) in
      record { bound = least; narrow = λ e. both _ _ (fits_too _ _ least (left _ _ e)) (narrow_less (measure_of_term ks) (measure_of_term ns) ts (right _ _ e)) }
  level (Expr-F.Product es) =
      let least = product_less (measure ks) (measure ns) es 1 1 (omega arith) in
      record { bound = least; narrow = λ e. both _ _ (fits_too _ _ least (left _ _ e)) (narrow_less (measure ks) (measure ns) es (right _ _ e)) }
  level (Expr-F.Compare a c b) = record { bound = omega arith; narrow = λ e. both _ _ (a.1.narrow (left _ _ e)) (b.1.narrow (right _ _ e)) }
  level (Expr-F.IsNull a) = record { bound = omega arith; narrow = a.1.narrow }
  level (Expr-F.Not a) = record { bound = omega arith; narrow = a.1.narrow }
  level (Expr-F.And es) = record { bound = omega arith; narrow = narrow_less (measure ks) (measure ns) es }
  level (Expr-F.Or es) = record { bound = omega arith; narrow = narrow_less (measure ks) (measure ns) es }

  rolled : (x : Expr-F Expr BoundTerm) (y : Expr-F ((e : Expr) × Here e) ((t : BoundTerm) × HereToo t)) → map-Expr _ _ _ _ (λ e. e.0) (λ t. t.0) y ≡ x → Here (roll-Expr x)
  unfolding Here HereToo measure_of_term
  rolled x y is =
      let a = fold-roll-Expr (ℕ × Bool) (ℕ × Bool) (measure_step ks) term_measure x in
      let b = fold-roll-Expr (ℕ × Bool) (ℕ × Bool) (measure_step ns) term_measure x in
      let l = subst
      (λ (z : Expr-F Expr BoundTerm).
      IsLess (measure_step ks (map-Expr _ _ _ _ (measure ks) (measure_of_term ks) z)) (measure_step ns (map-Expr _ _ _ _ (measure ns) (measure_of_term ns) z))) is (level y) in
      subst (λ (m : ℕ × Bool). IsLess m (measure ns (roll-Expr x))) (sym a) (subst (λ (m : ℕ × Bool). IsLess (measure_step ks (map-Expr _ _ _ _ (measure ks) (measure_of_term ks) x)) m) (sym b) l)

  rolled_term : (x : BoundTerm-F Expr BoundTerm) (y : BoundTerm-F ((e : Expr) × Here e) ((t : BoundTerm) × HereToo t)) → map-BoundTerm _ _ _ _ (λ e. e.0) (λ t. t.0) y ≡ x → HereToo (roll-BoundTerm x)
  unfolding Here HereToo measure_of_term
  rolled_term x y is =
      let a = fold-roll-BoundTerm (ℕ × Bool) (ℕ × Bool) (measure_step ks) term_measure x in
      let b = fold-roll-BoundTerm (ℕ × Bool) (ℕ × Bool) (measure_step ns) term_measure x in
      let l = subst (λ (z : BoundTerm-F Expr BoundTerm). IsLess (measure ks z.part) (measure ns z.part)) is y.part.1 in
      subst (λ (m : ℕ × Bool). IsLess m (measure_of_term ns (roll-BoundTerm x))) (sym a) (subst (λ (m : ℕ × Bool). IsLess (measure ks x.part) m) (sym b) l)

  pub less : (e : Expr) → is_narrow ns e ≡ true → is_narrow ks e ≡ true
  unfolding Here
  less e = (ind-Expr Here HereToo rolled rolled_term e).narrow
