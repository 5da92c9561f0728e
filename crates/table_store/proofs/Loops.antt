-- Loops that change each element of a list, with something made for it or used up by it.
use Rattle.std.proofs.Common.{◌≡◌, ℕ, zero, suc, ◌+◌, ◌<◌, ◌≤◌, ◌++◌, List, [], ◌∷◌, length, map, set, take, get_or, refl, sym, ◌∙◌, ap, subst, arith}
use Rattle.std.specs.List.{AllZip}
use Rattle.std.proofs.lemmas.List.{take_more, take_all, take_more_set, map-set, get_or-map, length-map}
use Rattle.table_store.specs.Changing.{zipped}

pub zip_push : {A B : Type 0} (R : A → B → Type 0) (xs : List A) (ys : List B) (x : A) (y : B) → AllZip R xs ys → R x y → AllZip R (xs ++ x ∷ []) (ys ++ y ∷ [])
zip_push R [] [] x y all one = (one, tt)
zip_push R [] (b ∷ ys) x y all one = absurd all
zip_push R (a ∷ xs) [] x y all one = absurd all
zip_push R (a ∷ xs) (b ∷ ys) x y all one = (all.0, zip_push R xs ys x y all.1 one)

-- what was made fits the elements as they were
pub made_more : {X Y P : Type 0} (f : X → P) (R : P → Y → Type 0) (old : List X) (i : ℕ) (x : X) (made : List Y) (y : Y) → i < length old → x ≡ get_or old i x
    → AllZip R (take i (map f old)) made → R (f x) y → AllZip R (take (i + 1) (map f old)) (made ++ y ∷ [])
made_more {X} {Y} {P} f R old i x made y lt is all one =
    let there : get_or (map f old) i (f x) ≡ f x = get_or-map f old i x (f x) lt ∙ ap f (sym is) in
    let next : take (i + 1) (map f old) ≡ take i (map f old) ++ f x ∷ [] = take_more (map f old) i (f x) (omega (arith, lt, length-map old f)) ∙ ap (λ (p : P). take i (map f old) ++ p ∷ []) there in
    subst (λ (ps : List P). AllZip R ps (made ++ y ∷ [])) (sym next) (zip_push R (take i (map f old)) made (f x) y all one)

-- and the elements as they are
pub fits_more : {X Y : Type 0} (Q : Y → X → Type 0) (now : List X) (i : ℕ) (x : X) (made : List Y) (y : Y) → i < length now → AllZip Q made (take i now) → Q y x → AllZip Q (made ++ y ∷ []) (take (i + 1) (set now i x))
fits_more {X} Q now i x made y lt all one = subst (λ (xs : List X). AllZip Q (made ++ y ∷ []) xs) (sym (take_more_set now i x lt)) (zip_push Q made (take i now) y x all one)

pub all_made : {Y P : Type 0} (R : P → Y → Type 0) (ps : List P) (made : List Y) (i : ℕ) → length ps ≤ i → AllZip R (take i ps) made → AllZip R ps made
all_made {Y} {P} R ps made i past all = subst (λ (qs : List P). AllZip R qs made) (take_all i ps past) all

pub all_fit : {X Y : Type 0} (Q : Y → X → Type 0) (now : List X) (made : List Y) (i : ℕ) → length now ≤ i → AllZip Q made (take i now) → AllZip Q made now
all_fit {X} Q now made i past all = subst (λ (xs : List X). AllZip Q made xs) (take_all i now past) all

-- an element that f doesn't tell apart takes the place of another
pub map_kept : {X P : Type 0} (f : X → P) (now : List X) (i : ℕ) (x old : X) → i < length now → old ≡ get_or now i old → f x ≡ f old → map f (set now i x) ≡ map f now
map_kept f [] i x old lt is same = absurd (omega (arith, lt))
map_kept {X} {P} f (y ∷ now) zero x old lt is same = ap (λ (p : P). p ∷ map f now) (same ∙ ap f is)
map_kept {X} {P} f (y ∷ now) (suc i) x old lt is same = ap (λ (ps : List P). f y ∷ ps) (map_kept f now i x old (omega (arith, lt)) is same)

-- ---- what was made is used up, one after the other

pub zipped_last : {Y P : Type 0} (g : Y → P → P) (ys : List Y) (y : Y) (ps : List P) (d : P) → length ys < length ps → zipped g (ys ++ y ∷ []) ps ≡ zipped g ys (set ps (length ys) (g y (get_or ps (length ys) d)))
zipped_last g [] y [] d lt = absurd (omega (arith, lt))
zipped_last g [] y (p ∷ ps) d lt = refl
zipped_last g (z ∷ ys) y [] d lt = absurd (omega (arith, lt))
zipped_last {Y} {P} g (z ∷ ys) y (p ∷ ps) d lt = ap (λ (qs : List P). g z p ∷ qs) (zipped_last g ys y ps d (omega (arith, lt)))

-- the first elements fit what is still to be used up, one for each
abbrev pub Fronts : {X Y : Type 0} → (Y → X → Type 0) → List Y → List X → Type 0
Fronts Q [] xs = Unit {0}
Fronts Q (y ∷ ys) [] = ⊥
Fronts Q (y ∷ ys) (x ∷ xs) = Q y x × Fronts Q ys xs

pub fronts_of : {X Y : Type 0} (Q : Y → X → Type 0) (ys : List Y) (xs : List X) → AllZip Q ys xs → Fronts Q ys xs
fronts_of Q [] xs all = tt
fronts_of Q (y ∷ ys) [] all = absurd all
fronts_of Q (y ∷ ys) (x ∷ xs) all = (all.0, fronts_of Q ys xs all.1)

pub fronts_long : {X Y : Type 0} (Q : Y → X → Type 0) (ys : List Y) (y : Y) (xs : List X) → Fronts Q (ys ++ y ∷ []) xs → length ys < length xs
fronts_long Q [] y [] all = absurd all
fronts_long Q [] y (x ∷ xs) all = omega arith
fronts_long Q (z ∷ ys) y [] all = absurd all
fronts_long Q (z ∷ ys) y (x ∷ xs) all = let more = fronts_long Q ys y xs all.1 in omega (arith, more)

pub fronts_last : {X Y : Type 0} (Q : Y → X → Type 0) (ys : List Y) (y : Y) (xs : List X) (old : X) → old ≡ get_or xs (length ys) old → Fronts Q (ys ++ y ∷ []) xs → Q y old
fronts_last Q [] y [] old is all = absurd all
fronts_last Q [] y (x ∷ xs) old is all = subst (Q y) (sym is) all.0
fronts_last Q (z ∷ ys) y [] old is all = absurd all
fronts_last Q (z ∷ ys) y (x ∷ xs) old is all = fronts_last Q ys y xs old is all.1

pub fronts_set : {X Y : Type 0} (Q : Y → X → Type 0) (ys : List Y) (y : Y) (xs : List X) (new : X) → Fronts Q (ys ++ y ∷ []) xs → Fronts Q ys (set xs (length ys) new)
fronts_set Q [] y xs new all = tt
fronts_set Q (z ∷ ys) y [] new all = absurd all
fronts_set Q (z ∷ ys) y (x ∷ xs) new all = (all.0, fronts_set Q ys y xs new all.1)

-- one more was used up
pub used : {X Y P : Type 0} (f : X → P) (g : Y → P → P) (ys : List Y) (y : Y) (xs : List X) (old new : X) (whole : List P) → length ys < length xs → old ≡ get_or xs (length ys) old → f new ≡ g y (f old)
    → zipped g (ys ++ y ∷ []) (map f xs) ≡ whole → zipped g ys (map f (set xs (length ys) new)) ≡ whole
used {X} {Y} {P} f g ys y xs old new whole lt is one was =
    let at : get_or (map f xs) (length ys) (f old) ≡ f old = get_or-map f xs (length ys) old (f old) lt ∙ ap f (sym is) in
    ap (zipped g ys) (map-set f xs (length ys) new ∙ ap (set (map f xs) (length ys)) (one ∙ ap (g y) (sym at)))
    ∙ sym (zipped_last g ys y (map f xs) (f old) (omega (arith, lt, length-map xs f))) ∙ was
