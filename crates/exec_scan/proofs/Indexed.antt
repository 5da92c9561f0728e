-- A list that is made element by element.
use Rattle.std.proofs.Common.{◌≡◌, ℕ, ◌+◌, ◌<◌, ◌++◌, List, [], ◌∷◌, length, take, get_or, sym, subst}
use Rattle.std.specs.List.{AllZip}
use Rattle.std.proofs.lemmas.List.{take_more}

zip_push : {A B : Type 0} (R : A → B → Type 0) (xs : List A) (ys : List B) (x : A) (y : B) → AllZip R xs ys → R x y → AllZip R (xs ++ x ∷ []) (ys ++ y ∷ [])
zip_push R [] [] x y all one = (one, tt)
zip_push R [] (b ∷ ys) x y all one = absurd all
zip_push R (a ∷ xs) [] x y all one = absurd all
zip_push R (a ∷ xs) (b ∷ ys) x y all one = (all.0, zip_push R xs ys x y all.1 one)

-- one more
pub zip_more : {A B : Type 0} (R : A → B → Type 0) (xs : List A) (made next : List B) (i : ℕ) (d : A) (y : B) → i < length xs → next ≡ made ++ y ∷ [] → AllZip R (take i xs) made → R (get_or xs i d) y → AllZip R (take (i + 1) xs) next
zip_more {A} {B} R xs made next i d y lt is all one =
    subst (λ (ys : List B). AllZip R (take (i + 1) xs) ys) (sym is)
    (subst (λ (ws : List A). AllZip R ws (made ++ y ∷ [])) (sym (take_more xs i d lt)) (zip_push R (take i xs) made (get_or xs i d) y all one))
