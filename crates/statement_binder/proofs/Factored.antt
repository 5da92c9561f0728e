-- One more factor of a product that is counted up to 2^128 - 1.
use Rattle.std.proofs.Common.{◌≡◌, ℕ, ◌+◌, ◌*◌, ◌<◌, List, length, get_or, map, take, ap, ap₂, ◌∙◌, sym}
use Rattle.std.proofs.lemmas.List.{map_more}
use Rattle.std.proofs.lemmas.List.Sums.{fold_push}
use Rattle.sql_bound.specs.Bounds.{product}
use Rattle.sql_bound.specs.declared.expr.Expr.{Expr}
use Rattle.expr_check.specs.Capped.{capped}
use Rattle.expr_check.proofs.Caps.{capped_product}

pub capped_step : (f : Expr → ℕ) (xs : List Expr) (i : ℕ) (x : Expr) (a b : ℕ) → i < length xs → x ≡ get_or xs i x → a ≡ capped (product (map f (take i xs))) → b ≡ capped (f x) → capped (a * b) ≡ capped (product (map f (take (i + 1) xs)))
capped_step f xs i x a b h e p q =
    let before : ℕ = product (map f (take i xs)) in
    let more = ap product (map_more f xs i x h) ∙ fold_push ◌*◌ 1 (map f (take i xs)) (f (get_or xs i x)) in
    ap capped (ap₂ (λ (m n : ℕ). m * n) p q) ∙ capped_product before (f x)
    ∙ ap capped (ap (λ (y : Expr). before * f y) e ∙ sym more)
