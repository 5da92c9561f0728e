-- The deletes of chosen containers, one container after the other.
use Rattle.std.proofs.Common.{◌≡◌, ℕ, zero, suc, ◌+◌, ◌<◌, ◌≤◌, ◌++◌, Bool, true, false, List, [], ◌∷◌, length, map, take, get_or, Option, Some, None, refl, sym, ap, ap₂, ◌∙◌, arith, subst, append_assoc}
use Rattle.std.specs.Prelude.{replicate, slice_index_or, IsSomeAnd}
use Rattle.std.specs.Option.{option_or}
use Rattle.std.specs.List.{All, AllZip, slice_get, range_with_len}
use Rattle.std.proofs.lemmas.List.{append-nil, get_or_default, length-take-le}
use Rattle.std.proofs.lemmas.List.FromFn.{map-range_with_len_more}
use Rattle.std.proofs.lemmas.Slice.Zip.{AllZip-long}
use Rattle.catalog_types.specs.Blank.{blank_container}
use Rattle.catalog_types.specs.declared.catalogue.Container.{Container}
use Rattle.del_vector.specs.declared.mark.Mark.{Mark}
use Rattle.del_vector.specs.Marks.{epoch_at}
use Rattle.stored_rows.specs.Stored.{Beside, Projected, mark_in}
use Rattle.proj_store.specs.Sound.{AreInside, MarksItsRows, IsSound}
use Rattle.merge_rows.specs.Inputs.{chosen}
use Rattle.container_draft.specs.Keeping.{beside_of}
use Rattle.container_draft.specs.Reading.{deletes, deletes_in, deletes_if}
use Rattle.container_draft.proofs.Flags.{one_if, chosen_more, chosen_all, chosen_shown, both_chosen}

-- ---- of one container

pub padded_more : (dels out more : List (Option ℕ)) (place : ℕ) (d : Option ℕ) → out ≡ map (λ i. get_or dels i None) (range_with_len 0 place) → d ≡ get_or dels place None → more ≡ out ++ d ∷ []
    → more ≡ map (λ i. get_or dels i None) (range_with_len 0 (place + 1))
padded_more dels out more place d was one is =
    is ∙ ap₂ (λ (xs : List (Option ℕ)) (y : Option ℕ). xs ++ y ∷ []) was one ∙ sym (map-range_with_len_more (λ i. get_or dels i None) 0 place place (omega arith))

map_same : (f g : ℕ → Option ℕ) → ((i : ℕ) → f i ≡ g i) → (xs : List ℕ) → map f xs ≡ map g xs
map_same f g same [] = refl
map_same f g same (x ∷ xs) = ap₂ (λ (y : Option ℕ) (ys : List (Option ℕ)). y ∷ ys) (same x) (map_same f g same xs)

pub deletes_are : (held fresh : List Mark) (count : ℕ) (found shown out : List (Option ℕ)) → ((i : ℕ) → slice_index_or found i None ≡ option_or (epoch_at held i) (epoch_at fresh i)) → shown ≡ found
    → out ≡ map (λ i. get_or shown i None) (range_with_len 0 count) → out ≡ deletes (beside_of held fresh) count
deletes_are held fresh count found shown out each same is =
    is ∙ ap (λ (ds : List (Option ℕ)). map (λ i. get_or ds i None) (range_with_len 0 count)) same ∙ map_same (λ i. get_or found i None) (mark_in (beside_of held fresh)) each (range_with_len 0 count)

pub held_inside : (o : Option Beside) (k : Container) (held : List Mark) → IsSomeAnd o (λ b. held ≡ b.held) → IsSomeAnd o (MarksItsRows k) → AreInside k held
held_inside None k held is kept = absurd is
held_inside (Some b) k held is kept = subst (AreInside k) (sym is) kept.held

pub fresh_inside : (o : Option Beside) (k : Container) (fresh : List Mark) → IsSomeAnd o (λ b. fresh ≡ b.fresh) → IsSomeAnd o (MarksItsRows k) → AreInside k fresh
fresh_inside None k fresh is kept = absurd is
fresh_inside (Some b) k fresh is kept = subst (AreInside k) (sym is) kept.fresh

-- ---- where they are wanted

pub unwanted : (o : Option Beside) (k : Container) (flag : Bool) (dels : List (Option ℕ)) → IsSomeAnd o (MarksItsRows k) → flag ≡ false → IsSomeAnd o (λ b. dels ≡ dels ++ deletes_if flag b k.rows)
unwanted None k flag dels kept is = absurd kept
unwanted (Some b) k flag dels kept is = subst (λ (f : Bool). dels ≡ dels ++ deletes_if f b k.rows) (sym is) (sym (append-nil dels))

pub wanted : (o : Option Beside) (flag : Bool) (held fresh : List Mark) (count : ℕ) (dels more now : List (Option ℕ)) → flag ≡ true → IsSomeAnd o (λ b. held ≡ b.held) → IsSomeAnd o (λ b. fresh ≡ b.fresh)
    → more ≡ deletes (beside_of held fresh) count → now ≡ dels ++ more → IsSomeAnd o (λ b. now ≡ dels ++ deletes_if flag b count)
wanted None flag held fresh count dels more now is held_is fresh_is are joined = absurd held_is
wanted (Some b) flag held fresh count dels more now is held_is fresh_is are joined =
    subst (λ (f : Bool). now ≡ dels ++ deletes_if f b count) (sym is)
    (joined ∙ ap (λ (xs : List (Option ℕ)). dels ++ xs) (are ∙ ap (λ (c : Beside). deletes c count) (ap₂ beside_of held_is fresh_is)))

-- ---- one container more

dels_append : (ks : List Container) (bs : List Beside) (k : Container) (b : Beside) → length ks ≡ length bs → deletes_in (ks ++ k ∷ []) (bs ++ b ∷ []) ≡ deletes_in ks bs ++ deletes b k.rows
dels_append [] [] k b same = append-nil (deletes b k.rows)
dels_append [] (c ∷ bs) k b same = absurd (omega (arith, same))
dels_append (j ∷ ks) [] k b same = absurd (omega (arith, same))
dels_append (j ∷ ks) (c ∷ bs) k b same =
    ap (λ (xs : List (Option ℕ)). deletes c j.rows ++ xs) (dels_append ks bs k b (omega (arith, same))) ∙ sym (append_assoc (deletes c j.rows) (deletes_in ks bs) (deletes b k.rows))

at_slice : {X : Type 0} (P : X → Type 0) (xs : List X) (i : ℕ) (d : X) → IsSomeAnd (slice_get xs i) P → P (get_or xs i d)
at_slice P [] i d is = absurd is
at_slice P (x ∷ xs) zero d is = is
at_slice P (x ∷ xs) (suc i) d is = at_slice P xs i d is

slice_at : {X : Type 0} (P : X → Type 0) (xs : List X) (i : ℕ) (d : X) → i < length xs → P (get_or xs i d) → IsSomeAnd (slice_get xs i) P
slice_at P [] i d lt is = absurd (omega (arith, lt))
slice_at P (x ∷ xs) zero d lt is = is
slice_at P (x ∷ xs) (suc i) d lt is = slice_at P xs i d (omega (arith, lt)) is

zip_at : {X Y : Type 0} (R : X → Y → Type 0) (xs : List X) (ys : List Y) (i : ℕ) (x : X) (y : Y) → AllZip R xs ys → i < length xs → i < length ys → R (get_or xs i x) (get_or ys i y)
zip_at R [] ys i x y all lt below = absurd (omega (arith, lt))
zip_at R (a ∷ xs) [] i x y all lt below = absurd (omega (arith, below))
zip_at R (a ∷ xs) (b ∷ ys) zero x y all lt below = all.0
zip_at R (a ∷ xs) (b ∷ ys) (suc i) x y all lt below = zip_at R xs ys i x y all.1 (omega (arith, lt)) (omega (arith, below))

both_long : (p : Projected) → IsSound p.entry p.beside → length p.entry.containers ≡ length p.beside
both_long p sound = sym (AllZip-long MarksItsRows p.entry.containers p.beside sound.kept)

pub beside_within : (p : Projected) (shown : List Container) (i : ℕ) → shown ≡ p.entry.containers → IsSound p.entry p.beside → i < length shown → i < length p.beside
beside_within p shown i same sound lt = omega (arith, lt, ap length same, both_long p sound)

abbrev no_beside : Beside
no_beside = record { held = []; fresh = [] }

pub kept_at : (p : Projected) (shown : List Container) (i : ℕ) (k : Container) → shown ≡ p.entry.containers → IsSound p.entry p.beside → i < length shown → k ≡ get_or shown i k → IsSomeAnd (slice_get p.beside i) (MarksItsRows k)
kept_at p shown i k same sound lt is =
    let within = beside_within p shown i same sound lt in
    let inside : i < length p.entry.containers = omega (arith, lt, ap length same) in
    let here : k ≡ get_or p.entry.containers i k = subst (λ (xs : List Container). k ≡ get_or xs i k) same is in
    slice_at (MarksItsRows k) p.beside i no_beside within
    (subst (λ (x : Container). MarksItsRows x (get_or p.beside i no_beside)) (sym here) (zip_at MarksItsRows p.entry.containers p.beside i k no_beside sound.kept inside within))

take_both : {X Y : Type 0} (i : ℕ) (xs : List X) (ys : List Y) → length xs ≡ length ys → length (take i xs) ≡ length (take i ys)
take_both zero xs ys same = none xs ys
  where
    none : {X Y : Type 0} (us : List X) (vs : List Y) → length (take 0 us) ≡ length (take 0 vs)
    none [] [] = refl
    none [] (v ∷ vs) = refl
    none (u ∷ us) [] = refl
    none (u ∷ us) (v ∷ vs) = refl
take_both (suc i) [] [] same = refl
take_both (suc i) [] (y ∷ ys) same = absurd (omega (arith, same))
take_both (suc i) (x ∷ xs) [] same = absurd (omega (arith, same))
take_both (suc i) (x ∷ xs) (y ∷ ys) same = let rest = take_both i xs ys (omega (arith, same)) in omega (arith, rest)

pub deletes_more : (i : ℕ) (flags : List Bool) (shown : List Container) (p : Projected) (k : Container) (dels more : List (Option ℕ)) → shown ≡ p.entry.containers → IsSound p.entry p.beside → i < length shown → k ≡ get_or shown i k
    → dels ≡ deletes_in (chosen (take i flags) (take i p.entry.containers)) (chosen (take i flags) (take i p.beside)) → IsSomeAnd (slice_get p.beside i) (λ b. more ≡ dels ++ deletes_if (slice_index_or flags i false) b k.rows)
    → more ≡ deletes_in (chosen (take (i + 1) flags) (take (i + 1) p.entry.containers)) (chosen (take (i + 1) flags) (take (i + 1) p.beside))
deletes_more i flags shown p k dels more same sound lt k_is was joined =
    let ks = p.entry.containers in
    let bs = p.beside in
    let inside : i < length ks = omega (arith, lt, ap length same) in
    let within : i < length bs = beside_within p shown i same sound lt in
    let here : k ≡ get_or ks i k = subst (λ (xs : List Container). k ≡ get_or xs i k) same k_is in
    let b : Beside = get_or bs i no_beside in
    let b_is : b ≡ get_or bs i b = get_or_default bs i no_beside b within in
    let long : length (chosen (take i flags) (take i ks)) ≡ length (chosen (take i flags) (take i bs)) = both_chosen (take i flags) (take i ks) (take i bs) (take_both i ks bs (both_long p sound)) in
    let one : more ≡ dels ++ deletes_if (slice_index_or flags i false) b k.rows = at_slice (λ c. more ≡ dels ++ deletes_if (slice_index_or flags i false) c k.rows) bs i no_beside joined in
    by (chosen (take i flags) (take i ks)) (chosen (take i flags) (take i bs)) b (slice_index_or flags i false) (chosen_more i flags ks k inside here) (chosen_more i flags bs b within b_is) long was one
  where
    by : (front : List Container) (beside : List Beside) (b : Beside) (f : Bool) → chosen (take (i + 1) flags) (take (i + 1) p.entry.containers) ≡ front ++ one_if f k → chosen (take (i + 1) flags) (take (i + 1) p.beside) ≡ beside ++ one_if f b
        → length front ≡ length beside → dels ≡ deletes_in front beside → more ≡ dels ++ deletes_if f b k.rows
        → more ≡ deletes_in (chosen (take (i + 1) flags) (take (i + 1) p.entry.containers)) (chosen (take (i + 1) flags) (take (i + 1) p.beside))
    by front beside b true ks_are bs_are long before is =
        is ∙ ap (λ (xs : List (Option ℕ)). xs ++ deletes b k.rows) before ∙ sym (dels_append front beside k b long) ∙ sym (ap₂ deletes_in ks_are bs_are)
    by front beside b false ks_are bs_are long before is =
        is ∙ append-nil dels ∙ before ∙ sym (ap₂ deletes_in (ks_are ∙ append-nil front) (bs_are ∙ append-nil beside))

pub deletes_all : (i : ℕ) (flags : List Bool) (shown : List Container) (p : Projected) (dels : List (Option ℕ)) → shown ≡ p.entry.containers → IsSound p.entry p.beside → length shown ≤ i
    → dels ≡ deletes_in (chosen (take i flags) (take i p.entry.containers)) (chosen (take i flags) (take i p.beside)) → dels ≡ deletes_in (chosen flags p.entry.containers) (chosen flags p.beside)
deletes_all i flags shown p dels same sound done is =
    let past : length p.entry.containers ≤ i = omega (arith, done, ap length same) in
    let also : length p.beside ≤ i = omega (arith, past, both_long p sound) in
    is ∙ ap₂ deletes_in (chosen_all i flags p.entry.containers past) (chosen_all i flags p.beside also)

-- flags that choose all
pub all_chosen_deletes : (p : Projected) (count : ℕ) (flags shown : List Bool) (v : List (Option ℕ)) → IsSound p.entry p.beside → count ≡ length p.entry.containers → flags ≡ replicate count true → shown ≡ flags
    → v ≡ deletes_in (chosen shown p.entry.containers) (chosen shown p.beside) → v ≡ deletes_in p.entry.containers p.beside
all_chosen_deletes p count flags shown v sound many are same is =
    is ∙ ap₂ deletes_in (chosen_shown count flags shown p.entry.containers are same many) (chosen_shown count flags shown p.beside are same (many ∙ both_long p sound))
