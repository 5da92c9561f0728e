-- The changes of one table changed.
use Rattle.std.proofs.Common.{◌≡◌, ℕ, ◌+◌, ◌<◌, Bool, true, false, cond, List, [], ◌∷◌, ◌++◌, length, get_or, take, drop, refl, sym, ◌∙◌, ap, subst}
use Rattle.std.specs.Prelude.{bytes_eq}
use Rattle.std.proofs.Math.ListN.{set}
use Rattle.std.proofs.lemmas.List.{take-append-drop, take-set, drop-set}
use Rattle.col_value.specs.declared.value.Value.{Value}
use Rattle.db_model.specs.State.{Changes, with_rows, joined}
use Rattle.db_model.specs.Events.{change_of, untouched}
use Rattle.txn_core.specs.Places.{StandsAt, StandsNowhere}

set_split : {X : Type 0} (xs : List X) (i : ℕ) (y : X) → i < length xs → set xs i y ≡ take i xs ++ y ∷ drop (i + 1) xs
set_split {X} xs i y fits =
    sym (take-append-drop i (set xs i y))
    ∙ ap (λ (front : List X). front ++ drop i (set xs i y)) (take-set xs i y)
    ∙ ap (λ (rest : List X). take i xs ++ rest) (drop-set xs i y fits)

-- the changes at their place were changed
pub place_changed : (name : List ℕ) (change : Changes → Changes) (xs now : List Changes) (i : ℕ) (x y : Changes) → xs ≡ now → StandsAt name now i → x ≡ get_or xs i x → y ≡ change x
    → set xs i y ≡ change_of name change now
place_changed name change xs now i x y same at is changed =
    let here : StandsAt name xs i = subst (λ (z : List Changes). StandsAt name z i) (sym same) at in
    set_split xs i y here.within ∙ ap (λ (z : Changes). take i xs ++ z ∷ drop (i + 1) xs) changed ∙ sym (here.split change x is) ∙ ap (change_of name change) same

-- and those of a table that wasn't touched came behind
pub place_added : (name : List ℕ) (change : Changes → Changes) (xs now new : List Changes) (y : Changes) → xs ≡ now → StandsNowhere name now → y ≡ change (untouched name) → new ≡ xs ++ y ∷ []
    → new ≡ change_of name change now
place_added name change xs now new y same none changed pushed =
    pushed ∙ ap (λ (z : List Changes). z ++ y ∷ []) same ∙ ap (λ (z : Changes). now ++ z ∷ []) changed ∙ sym (none.behind change)

-- rows that join the pending ones are such a change
pub rows_joined : (name : List ℕ) (rows : List (List Value)) (xs : List Changes) → change_of name (λ c. joined c rows) xs ≡ with_rows name rows xs
rows_joined name rows [] = refl
rows_joined name rows (c ∷ xs) = by (bytes_eq c.table name) (rows_joined name rows xs)
  where
    by : (b : Bool) → change_of name (λ d. joined d rows) xs ≡ with_rows name rows xs
        → cond b (joined c rows ∷ xs) (c ∷ change_of name (λ d. joined d rows) xs) ≡ cond b (joined c rows ∷ xs) (c ∷ with_rows name rows xs)
    by true rest = refl
    by false rest = ap (λ (ys : List Changes). c ∷ ys) rest
