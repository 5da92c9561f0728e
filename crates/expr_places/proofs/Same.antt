-- An expression has the same value over rows that agree in its columns.
use Rattle.std.proofs.Common.{◌≡◌, ℕ, ◌&&◌, if◌then◌else◌, Bool, true, false, List, [], ◌∷◌, map, refl, sym, ap, ap₂, ◌∙◌, subst}
use Rattle.std.specs.List.{list_all}
use Rattle.col_value.specs.Order.{widened}
use Rattle.col_value.specs.declared.value.Value.{Value}
use Rattle.col_value.specs.declared.wide.Wide.{Wide}
use Rattle.col_value.specs.declared.wide.Wide.TheVariants as wide
use Rattle.sql_bound.specs.declared.expr.BoundTerm.{BoundTerm}
use Rattle.sql_bound.specs.declared.expr.Expr.{Expr}
use Rattle.sql_bound.specs.declared.expr.Expr.TheViews.{roll-Expr, roll-BoundTerm}
use Rattle.sql_bound.specs.declared.expr.Expr.TheOpen.{Expr-F, BoundTerm-F}
use Rattle.sql_bound.specs.declared.expr.Expr.TheFolds.{map-Expr, map-BoundTerm, fold-BoundTerm, fold-roll-Expr, fold-roll-BoundTerm, ind-Expr}
use Rattle.sql_bound.specs.Values.{Scope, all_of, compared, denied, is_null, negated, of_row, product_of, some_of, sum_of, term_step, value_of, value_step}
use Rattle.expr_places.specs.Places.{AgreeOn, ColumnsDecide, looks_only, looks_step, looks_term, term_looks_only}

left : (a b : Bool) → (a && b) ≡ true → a ≡ true
left true b e = refl
left false b e = e

right : (a b : Bool) → (a && b) ≡ true → b ≡ true
right true b e = e
right false b e = cc

term_worth : Scope → BoundTerm → Wide
term_worth s = fold-BoundTerm Wide Wide (value_step s) term_step

parts_same : {X : Type 0} (f g : X → Wide) (looks : X → Bool) (xs : List ((x : X) × (looks x ≡ true → f x ≡ g x))) → list_all (λ b. b) (map looks (map (λ x. x.0) xs)) ≡ true → map f (map (λ x. x.0) xs) ≡ map g (map (λ x. x.0) xs)
parts_same f g looks [] e = refl
parts_same f g looks (x ∷ xs) e = ap₂ (λ (w : Wide) (ws : List Wide). w ∷ ws) (x.1 (left _ _ e)) (parts_same f g looks xs (right _ _ e))

module _ (test : ℕ → Bool) (a b : List Value) (agree : AgreeOn test a b) where
  Here : Expr → Type 0
  Here e = looks_only test e ≡ true → value_of (of_row a) e ≡ value_of (of_row b) e

  HereToo : BoundTerm → Type 0
  HereToo t = term_looks_only test t ≡ true → term_worth (of_row a) t ≡ term_worth (of_row b) t

  -- one level, over parts of which it holds
  level : (y : Expr-F ((e : Expr) × Here e) ((t : BoundTerm) × HereToo t))
      → looks_step test (map-Expr _ _ _ _ (looks_only test) (term_looks_only test) (map-Expr _ _ _ _ (λ e. e.0) (λ t. t.0) y)) ≡ true
      → value_step (of_row a) (map-Expr _ _ _ _ (value_of (of_row a)) (term_worth (of_row a)) (map-Expr _ _ _ _ (λ e. e.0) (λ t. t.0) y))
      ≡ value_step (of_row b) (map-Expr _ _ _ _ (value_of (of_row b)) (term_worth (of_row b)) (map-Expr _ _ _ _ (λ e. e.0) (λ t. t.0) y))
  unfolding Here HereToo
  level (Expr-F.Lit w) h = refl
  level (Expr-F.Col i) h = ap widened (agree i h)
  level (Expr-F.Key i) h = refl
  level (Expr-F.Agg i) h = refl
  level (Expr-F.Neg x) h = ap negated (x.1 h)
  level (Expr-F.Sum ts) h = ap sum_of (parts_same (term_worth (of_row a)) (term_worth (of_row b)) (term_looks_only test) ts h)
  level (Expr-F.Product es) h = ap product_of (parts_same (value_of (of_row a)) (value_of (of_row b)) (looks_only test) es h)
  level (Expr-F.Compare x c y) h = ap₂ (compared c) (x.1 (left _ _ h)) (y.1 (right _ _ h))
  level (Expr-F.IsNull x) h = ap (λ (w : Wide). wide.Bool (is_null w)) (x.1 h)
  level (Expr-F.Not x) h = ap denied (x.1 h)
  level (Expr-F.And es) h = ap all_of (parts_same (value_of (of_row a)) (value_of (of_row b)) (looks_only test) es h)
  level (Expr-F.Or es) h = ap some_of (parts_same (value_of (of_row a)) (value_of (of_row b)) (looks_only test) es h)

  rolled : (x : Expr-F Expr BoundTerm) (y : Expr-F ((e : Expr) × Here e) ((t : BoundTerm) × HereToo t)) → map-Expr _ _ _ _ (λ e. e.0) (λ t. t.0) y ≡ x → Here (roll-Expr x)
  unfolding Here HereToo term_worth
  rolled x y is = λ h.
      let one = fold-roll-Expr Wide Wide (value_step (of_row a)) term_step x in
      let other = fold-roll-Expr Wide Wide (value_step (of_row b)) term_step x in
      let looks = fold-roll-Expr Bool Bool (looks_step test) looks_term x in
      let same = subst
      (λ (z : Expr-F Expr BoundTerm). looks_step test (map-Expr _ _ _ _ (looks_only test) (term_looks_only test) z) ≡ true
      → value_step (of_row a) (map-Expr _ _ _ _ (value_of (of_row a)) (term_worth (of_row a)) z) ≡ value_step (of_row b) (map-Expr _ _ _ _ (value_of (of_row b)) (term_worth (of_row b)) z)) is (level y) in
      one ∙ same (sym looks ∙ h) ∙ sym other

  rolled_term : (x : BoundTerm-F Expr BoundTerm) (y : BoundTerm-F ((e : Expr) × Here e) ((t : BoundTerm) × HereToo t)) → map-BoundTerm _ _ _ _ (λ e. e.0) (λ t. t.0) y ≡ x → HereToo (roll-BoundTerm x)
  unfolding Here HereToo term_worth
  rolled_term x y is = λ h.
      let one = fold-roll-BoundTerm Wide Wide (value_step (of_row a)) term_step x in
      let other = fold-roll-BoundTerm Wide Wide (value_step (of_row b)) term_step x in
      let looks = fold-roll-BoundTerm Bool Bool (looks_step test) looks_term x in
      let same = subst (λ (z : BoundTerm-F Expr BoundTerm). looks_only test z.part ≡ true → value_of (of_row a) z.part ≡ value_of (of_row b) z.part) is y.part.1 in
      one ∙ ap (λ (w : Wide). if x.minus then negated w else w) (same (sym looks ∙ h)) ∙ sym other

  pub decided : (e : Expr) → looks_only test e ≡ true → value_of (of_row a) e ≡ value_of (of_row b) e
  unfolding Here
  decided e = ind-Expr Here HereToo rolled rolled_term e

pub columns_decide : ColumnsDecide
columns_decide test a b e agree looks = decided test a b agree e looks
