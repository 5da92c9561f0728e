-- One more turn of a loop that puts lists behind each other.
use Rattle.std.proofs.Common.{◌≡◌, ℕ, suc, ◌+◌, ◌<◌, ◌++◌, Bool, true, false, cond, List, [], ◌∷◌, length, get_or, take, map, filter, refl, ap, ap₂, ◌∙◌, sym, subst, append_assoc, arith}
use Rattle.std.proofs.lemmas.List.{append-nil, take_more, map-append, map_more, flat_map_more}
use Rattle.std.proofs.lemmas.List.Elements.{filter-append, All-push}
use Rattle.std.specs.List.{All, flat_map}

pub flat_next : {X A : Type 0} (f : X → List A) (xs : List X) (i : ℕ) (x : X) (out next : List A) → i < length xs → x ≡ get_or xs i x → out ≡ flat_map f (take i xs) → next ≡ out ++ f x → next ≡ flat_map f (take (i + 1) xs)
flat_next {X} {A} f xs i x out next h is a b =
    b ∙ ap (λ (o : List A). o ++ f x) a ∙ flat_map_more f [] (take i xs) x ∙ ap (λ (y : X). flat_map f (take i xs ++ y ∷ [])) is
    ∙ ap (flat_map f) (sym (take_more xs i x h))

-- one more turn of a loop that hands on the elements which pass a test
pub passed_by : {X : Type 0} (p : X → Bool) (out rest next all : List X) (x : X) → rest ≡ x ∷ next → p x ≡ false → out ++ filter p rest ≡ all → out ++ filter p next ≡ all
passed_by {X} p out rest next all x is no_test h =
    sym (ap (λ (l : List X). out ++ filter p l) is ∙ ap (λ (b : Bool). out ++ cond b (x ∷ filter p next) (filter p next)) no_test) ∙ h

pub passed_on : {X : Type 0} (p : X → Bool) (out rest next all : List X) (x : X) → rest ≡ x ∷ next → p x ≡ true → out ++ filter p rest ≡ all → (out ++ x ∷ []) ++ filter p next ≡ all
passed_on {X} p out rest next all x is yes_test h =
    append_assoc out (x ∷ []) (filter p next)
    ∙ sym (ap (λ (l : List X). out ++ filter p l) is ∙ ap (λ (b : Bool). out ++ cond b (x ∷ filter p next) (filter p next)) yes_test) ∙ h

pub all_behind : {X : Type 0} (P : X → Type 0) (rest next : List X) (x : X) → rest ≡ x ∷ next → All P rest → All P next
all_behind {X} P rest next x is h = let g : All P (x ∷ next) = subst (All P) is h in λ k d b. g (suc k) d (omega arith)

-- one more turn of a loop that collects the values which pass a test
pub value_passed_by : {X Y : Type 0} (f : X → Y) (p : Y → Bool) (xs : List X) (i : ℕ) (x : X) (out : List Y) → i < length xs → x ≡ get_or xs i x → p (f x) ≡ false → out ≡ filter p (map f (take i xs)) → out ≡ filter p (map f (take (i + 1) xs))
value_passed_by {X} {Y} f p xs i x out h is no_test e =
    e ∙ sym (append-nil (filter p (map f (take i xs))))
    ∙ ap (λ (b : Bool). filter p (map f (take i xs)) ++ cond b (f x ∷ []) []) (sym no_test)
    ∙ sym (filter-append p (map f (take i xs)) (f x ∷ []))
    ∙ ap (λ (y : X). filter p (map f (take i xs) ++ f y ∷ [])) is ∙ ap (filter p) (sym (map_more f xs i x h))

pub value_passed_on : {X Y : Type 0} (f : X → Y) (p : Y → Bool) (xs : List X) (i : ℕ) (x : X) (y : Y) (out next : List Y) → i < length xs → x ≡ get_or xs i x → y ≡ f x → next ≡ out ++ y ∷ [] → p (f x) ≡ true → out ≡ filter p (map f (take i xs)) → next ≡ filter p (map f (take (i + 1) xs))
value_passed_on {X} {Y} f p xs i x y out next h is y_is next_is yes_test e =
    next_is ∙ ap₂ (λ (l : List Y) (z : Y). l ++ z ∷ []) e y_is
    ∙ ap (λ (b : Bool). filter p (map f (take i xs)) ++ cond b (f x ∷ []) []) (sym yes_test)
    ∙ sym (filter-append p (map f (take i xs)) (f x ∷ []))
    ∙ ap (λ (z : X). filter p (map f (take i xs) ++ f z ∷ [])) is ∙ ap (filter p) (sym (map_more f xs i x h))

-- one more element of which something holds
pub all_next : {X : Type 0} (P : X → Type 0) (xs : List X) (i : ℕ) (x : X) → i < length xs → x ≡ get_or xs i x → All P (take i xs) → P x → All P (take (i + 1) xs)
all_next {X} P xs i x h is p here =
    subst (All P) (sym (take_more xs i x h)) (All-push P (take i xs) (get_or xs i x) p (subst P is here))

-- one more turn of a loop whose results look like values
pub map_next : {X Y Z : Type 0} (view : Y → Z) (f : X → Z) (xs : List X) (i : ℕ) (x : X) (y : Y) (out next : List Y) → i < length xs → x ≡ get_or xs i x → view y ≡ f x → next ≡ out ++ y ∷ [] → map view out ≡ map f (take i xs) → map view next ≡ map f (take (i + 1) xs)
map_next {X} {Y} {Z} view f xs i x y out next h is same e m =
    ap (map view) e ∙ map-append view out (y ∷ []) ∙ ap₂ (λ (l : List Z) (z : Z). l ++ z ∷ []) m (same ∙ ap f is) ∙ sym (map_more f xs i x h)

-- one more turn of a loop that looks at values through two functions, and of one that passes some by
pub twice_next : {X Y Z : Type 0} (f : X → Y) (g : Y → Z) (xs : List X) (i : ℕ) (x : X) (z : Z) (out next : List Z) → i < length xs → x ≡ get_or xs i x → z ≡ g (f x) → next ≡ out ++ z ∷ [] → out ≡ map g (map f (take i xs)) → next ≡ map g (map f (take (i + 1) xs))
twice_next {X} {Y} {Z} f g xs i x z out next h is z_is next_is e =
    next_is ∙ ap₂ (λ (l : List Z) (y : Z). l ++ y ∷ []) e z_is ∙ sym (map-append g (map f (take i xs)) (f x ∷ []))
    ∙ ap (map g) (ap (λ (y : X). map f (take i xs) ++ f y ∷ []) is ∙ sym (map_more f xs i x h))

pub shown_next : {X Y Z : Type 0} (f : X → Y) (p : Y → Bool) (g : Y → Z) (xs : List X) (i : ℕ) (x : X) (z : Z) (out next : List Z) → i < length xs → x ≡ get_or xs i x → p (f x) ≡ true → z ≡ g (f x) → next ≡ out ++ z ∷ [] → out ≡ map g (filter p (map f (take i xs))) → next ≡ map g (filter p (map f (take (i + 1) xs)))
shown_next {X} {Y} {Z} f p g xs i x z out next h is shown z_is next_is e =
    next_is ∙ ap₂ (λ (l : List Z) (y : Z). l ++ y ∷ []) e z_is ∙ sym (map-append g (filter p (map f (take i xs))) (f x ∷ []))
    ∙ ap (map g) (value_passed_on f p xs i x (f x) (filter p (map f (take i xs))) (filter p (map f (take i xs)) ++ f x ∷ []) h is refl refl shown refl)
