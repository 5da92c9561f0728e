-- One more factor of a product.
use Rattle.std.proofs.Common.{◌≡◌, ℕ, ◌+◌, ◌*◌, ◌<◌, ◌++◌, ◌&&◌, Bool, List, [], ◌∷◌, length, get_or, map, take, ap, ap₂, ◌∙◌, sym}
use Rattle.std.proofs.lemmas.List.{map-append, map_more}
use Rattle.std.proofs.lemmas.List.Sums.{fold_push}
use Rattle.std.proofs.lemmas.List.Folds.{list_all_more, list_all-map}
use Rattle.sql_bound.specs.Bounds.{product, bounds, all_narrow}
use Rattle.sql_bound.specs.declared.expr.Expr.{Expr}
use Rattle.expr_check.specs.Capped.{capped}
use Rattle.expr_check.proofs.Caps.{capped_product}

product_push : (ms : List (ℕ × Bool)) (m : ℕ × Bool) → product (bounds (ms ++ m ∷ [])) ≡ product (bounds ms) * m.0
product_push ms m = ap product (map-append (λ (n : ℕ × Bool). n.0) ms (m ∷ [])) ∙ fold_push ◌*◌ 1 (bounds ms) m.0

pub capped_step : (f : Expr → ℕ × Bool) (xs : List Expr) (i : ℕ) (x : Expr) (a b : ℕ) → i < length xs → x ≡ get_or xs i x → a ≡ capped (product (bounds (map f (take i xs)))) → b ≡ capped (f x).0 → capped (a * b) ≡ capped (product (bounds (map f (take (i + 1) xs))))
capped_step f xs i x a b h e p q =
    let before : ℕ = product (bounds (map f (take i xs))) in
    let more = ap (λ (ms : List (ℕ × Bool)). product (bounds ms)) (map_more f xs i x h) ∙ product_push (map f (take i xs)) (f (get_or xs i x)) in
    ap capped (ap₂ (λ (m n : ℕ). m * n) p q) ∙ capped_product before (f x).0
    ∙ ap capped (ap (λ (y : Expr). before * (f y).0) e ∙ sym more)

pub narrow_step : (f : Expr → ℕ × Bool) (xs : List Expr) (i : ℕ) (x : Expr) (a b : Bool) → i < length xs → x ≡ get_or xs i x → a ≡ all_narrow (map f (take i xs)) → b ≡ (f x).1 → (a && b) ≡ all_narrow (map f (take (i + 1) xs))
narrow_step f xs i x a b h e p q =
    ap₂ ◌&&◌ (p ∙ list_all-map (λ (m : ℕ × Bool). m.1) f (take i xs)) (q ∙ ap (λ (y : Expr). (f y).1) e)
    ∙ sym (list_all_more (λ (y : Expr). (f y).1) xs i x h)
    ∙ sym (list_all-map (λ (m : ℕ × Bool). m.1) f (take (i + 1) xs))
