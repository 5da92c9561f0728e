-- One more part of a sum, a product, an AND or an OR.
use Rattle.std.proofs.Common.{◌≡◌, ℕ, ◌+◌, ◌<◌, ◌≤◌, ℤ, pos, ◌*ℤ◌, List, length, get_or, map, take, drop, fold, Option, Some, None, refl, sym, ap, ap₂, ◌∙◌, arith}
use Rattle.std.specs.Int.{w128}
use Rattle.std.proofs.lemmas.Int.{int_wrap-mul_left, int_wrap_fits, fits_signed_from_abs}
use Rattle.std.proofs.lemmas.List.{take-append-drop}
use Rattle.std.proofs.lemmas.List.Folds.{fold-map, fold_stays}
use Rattle.std.proofs.lemmas.List.Sums.{fold_more, fold-append}
use Rattle.col_value.specs.declared.wide.Wide.{Wide}
use Rattle.sql_bound.specs.Bounds.{bound_of_value, result_bound}
use Rattle.sql_bound.specs.Values.{of_both, number}
use Rattle.expr_value.specs.Terms.{wrapped}
use Rattle.expr_value.proofs.Magnitudes.{absolute}

abbrev over : {A B X : Type 0} → (B → A → B) → (Wide → A) → (X → Wide) → B → X → B
over f h v b x = f b (h (v x))

flat : {A B X : Type 0} (f : B → A → B) (h : Wide → A) (v : X → Wide) (z : B) (xs : List X) → fold f z (map h (map v xs)) ≡ fold (over f h v) z xs
flat f h v z xs = fold-map f h z (map v xs) ∙ fold-map (λ b w. f b (h w)) v z xs

pub fold_step : {A B X : Type 0} (f : B → A → B) (h : Wide → A) (v : X → Wide) (z : B) (xs : List X) (i : ℕ) (x : X) (b : B) (a : A) → i < length xs → x ≡ get_or xs i x → b ≡ fold f z (map h (map v (take i xs))) → a ≡ h (v x)
    → f b a ≡ fold f z (map h (map v (take (i + 1) xs)))
fold_step f h v z xs i x b a q is p e =
    ap₂ f p (e ∙ ap (λ y. h (v y)) is) ∙ ap (λ y. f y (h (v (get_or xs i x)))) (flat f h v z (take i xs))
    ∙ sym (fold_more (over f h v) z xs i x q) ∙ sym (flat f h v z (take (i + 1) xs))

pub fold_done : {A B X : Type 0} (f : B → A → B) (h : Wide → A) (v : X → Wide) (z stop : B) → ((a : A) → f stop a ≡ stop) → (xs : List X) (i : ℕ) → fold f z (map h (map v (take i xs))) ≡ stop → stop ≡ fold f z (map h (map v xs))
fold_done f h v z stop stays xs i e =
    sym (fold_stays (over f h v) stop (λ x. stays (h (v x))) (drop i xs))
    ∙ ap (λ b. fold (over f h v) b (drop i xs)) (sym e ∙ flat f h v z (take i xs))
    ∙ sym (fold-append (over f h v) z (take i xs) (drop i xs))
    ∙ ap (fold (over f h v) z) (take-append-drop i xs)
    ∙ sym (flat f h v z xs)

-- to wrap on the way changes nothing
pub wrapped_left : (a b : Option ℤ) → wrapped (of_both ◌*ℤ◌ (wrapped a) b) ≡ wrapped (of_both ◌*ℤ◌ a b)
wrapped_left None b = refl
wrapped_left (Some m) None = refl
wrapped_left (Some m) (Some n) = ap Some (int_wrap-mul_left w128 m n)

-- what fits stays as it is
pub wrapped_fits : (o : Option ℤ) → bound_of_value (number o) ≤ result_bound → wrapped o ≡ o
wrapped_fits None p = refl
wrapped_fits (Some n) p = ap Some (int_wrap_fits w128 n (fits_signed_from_abs w128 n (omega (arith, absolute n))))

pub wrapped_one : Some (pos 1) ≡ wrapped (Some (pos 1))
wrapped_one = sym (wrapped_fits (Some (pos 1)) (omega arith))
