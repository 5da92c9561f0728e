-- Lists side by side.
use Rattle.std.proofs.Common.{◌≡◌, ◌+◌, ◌<◌, ◌≤◌, ◌++◌, ℕ, List, [], ◌∷◌, length, map, take, get_or, sym, ◌∙◌, ap, subst, arith}
use Rattle.std.specs.List.{AllZip}
use Rattle.std.proofs.lemmas.List.{take_more, take_all, map-append}
use Rattle.catalog_types.specs.declared.catalogue.Container.{Container}
use Rattle.stored_rows.specs.Stored.{Beside}
use Rattle.proj_store.specs.declared.kept.Kept.{Kept}
use Rattle.del_vector.specs.declared.mark.Mark.{Mark}
use Rattle.proj_store.specs.Loaded.{beside_of}
use Rattle.proj_store.specs.Sound.{AreInside}

zip_push : {A B : Type 0} (R : A → B → Type 0) (xs : List A) (ys : List B) (x : A) (y : B) → AllZip R xs ys → R x y → AllZip R (xs ++ x ∷ []) (ys ++ y ∷ [])
zip_push R [] [] x y all one = (one, tt)
zip_push R [] (b ∷ ys) x y all one = absurd all
zip_push R (a ∷ xs) [] x y all one = absurd all
zip_push R (a ∷ xs) (b ∷ ys) x y (here, rest) one = (here, zip_push R xs ys x y rest one)

-- one container more
pub kept_more : (R : Container → Beside → Type 0) (ks : List Container) (i : ℕ) (k : Container) (old new : List Kept) (one : Kept) → i < length ks → k ≡ get_or ks i k → new ≡ old ++ one ∷ []
    → AllZip R (take i ks) (map beside_of old) → R k (beside_of one) → AllZip R (take (i + 1) ks) (map beside_of new)
kept_more R ks i k old new one lt k_is is all here =
    subst (λ (js : List Container). AllZip R js (map beside_of new)) (sym (take_more ks i k lt ∙ ap (λ (x : Container). take i ks ++ x ∷ []) (sym k_is)))
    (subst (λ (bs : List Beside). AllZip R (take i ks ++ k ∷ []) bs) (sym (ap (map beside_of) is ∙ map-append beside_of old (one ∷ [])))
    (zip_push R (take i ks) (map beside_of old) k (beside_of one) all here))

pub kept_all : (R : Container → Beside → Type 0) (ks : List Container) (i : ℕ) (bs : List Beside) → length ks ≤ i → AllZip R (take i ks) bs → AllZip R ks bs
kept_all R ks i bs past all = subst (λ (js : List Container). AllZip R js bs) (take_all i ks past) all

pub none_inside : (k : Container) (marks : List Mark) → marks ≡ [] → AreInside k marks
none_inside k marks is = subst (AreInside k) (sym is) (λ i d lt. absurd (omega (arith, lt)))
