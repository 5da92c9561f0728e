-- Projections that are read one after the other.
use Rattle.std.proofs.Common.{◌≡◌, ℕ, ◌<◌, ◌≤◌, ◌+◌, ◌++◌, List, [], ◌∷◌, length, map, take, get_or, refl, sym, ap, ap₂, ◌∙◌, subst}
use Rattle.std.specs.List.{AllZip}
use Rattle.std.proofs.lemmas.List.{take_more, take_all, map-append}
use Rattle.common_laws.specs.Maps.{Contents}
use Rattle.row_history.proofs.Histories.{map_mapped}
use Rattle.catalog_types.specs.declared.catalogue.Projection.{Projection}
use Rattle.catalog_types.specs.declared.catalogue.Table.{Table}
use Rattle.catalog_types.specs.declared.catalogue.Catalogue.{Catalogue}
use Rattle.moveout_job.proofs.Renewed.{zip_push}
use Rattle.proj_store.specs.Loaded.{Loaded}
use Rattle.stored_rows.specs.Stored.{Projected, IsLoaded}
use Rattle.cut_model.specs.Loaded.{IsLoadedEntry}
use Rattle.table_store.specs.Held.{projections_of}
use Rattle.store_opening.specs.Loading.{entries_of, AreEntriesOf}

-- one more of the first items of a list
pub front_more : {X : Type 0} (xs : List X) (i : ℕ) (x : X) → i < length xs → x ≡ get_or xs i x → take (i + 1) xs ≡ take i xs ++ x ∷ []
front_more {X} xs i x lt is = take_more xs i x lt ∙ ap (λ (y : X). take i xs ++ y ∷ []) (sym is)

-- what is made of each item, after one more
pub made_more : {X Y Z : Type 0} (f : X → Z) (g : Y → Z) (ys : List Y) (i : ℕ) (y : Y) (xs more : List X) (x : X) → i < length ys → y ≡ get_or ys i y → more ≡ xs ++ x ∷ [] → f x ≡ g y
    → map f xs ≡ map g (take i ys) → map f more ≡ map g (take (i + 1) ys)
made_more {X} {Y} {Z} f g ys i y xs more x lt y_is more_is same so_far =
    ap (map f) more_is ∙ map-append f xs (x ∷ [])
    ∙ ap₂ (λ (us : List Z) (z : Z). us ++ z ∷ []) so_far same
    ∙ sym (map-append g (take i ys) (y ∷ []))
    ∙ ap (map g) (sym (front_more ys i y lt y_is))

pub same_more : {X Y : Type 0} (f : X → Y) (ys : List Y) (i : ℕ) (y : Y) (xs more : List X) (x : X) → i < length ys → y ≡ get_or ys i y → more ≡ xs ++ x ∷ [] → f x ≡ y
    → map f xs ≡ take i ys → map f more ≡ take (i + 1) ys
same_more {X} {Y} f ys i y xs more x lt y_is more_is same so_far =
    ap (map f) more_is ∙ map-append f xs (x ∷ []) ∙ ap₂ (λ (us : List Y) (z : Y). us ++ z ∷ []) so_far same ∙ sym (front_more ys i y lt y_is)

-- two lists that are held against each other, the second as a function sees it, after one more of both
pub zip_more : {A B X : Type 0} (R : A → B → Type 0) (f : X → B) (xs : List A) (i : ℕ) (x : A) (ys more : List X) (y : X) → i < length xs → x ≡ get_or xs i x → more ≡ ys ++ y ∷ []
    → AllZip R (take i xs) (map f ys) → R x (f y) → AllZip R (take (i + 1) xs) (map f more)
zip_more {A} {B} {X} R f xs i x ys more y lt x_is more_is all one =
    subst (λ (us : List A). AllZip R us (map f more)) (sym (front_more xs i x lt x_is))
    (subst (λ (vs : List B). AllZip R (take i xs ++ x ∷ []) vs) (sym (ap (map f) more_is ∙ map-append f ys (y ∷ []))) (zip_push R (take i xs) (map f ys) x (f y) all one))

-- the entries of what was read are the catalogue's
entries_seen : (ts : List (List Loaded)) → map (λ (ps : List Projected). map (λ p. p.entry) ps) (map projections_of ts) ≡ map entries_of ts
entries_seen [] = refl
entries_seen (t ∷ ts) = ap₂ (λ (es : List Projection) (ess : List (List Projection)). es ∷ ess) (map_mapped (λ (p : Projected). p.entry) (λ (p : Loaded). p.stored) t) (entries_seen ts)

pub entries_are : (root : Catalogue) (ts : List Table) (read : List (List Loaded)) → ts ≡ root.tables → map entries_of read ≡ map (λ t. t.projections) ts → AreEntriesOf root read
entries_are root ts read same is = entries_seen read ∙ is ∙ ap (map (λ (t : Table). t.projections)) same

pub loaded_entry : (m : Contents) (e : Projection) (p : Projected) → p.entry ≡ e → IsLoaded m p → IsLoadedEntry m e p
loaded_entry m e p is loaded = record { entry = is; loaded = loaded }

-- behind the last item
pub all_front : {X Y : Type 0} (f : X → Y) (ys : List Y) (i : ℕ) (xs : List X) → length ys ≤ i → map f xs ≡ take i ys → map f xs ≡ ys
all_front f ys i xs past is = is ∙ take_all i ys past

pub all_made : {X Y Z : Type 0} (f : X → Z) (g : Y → Z) (ys : List Y) (i : ℕ) (xs : List X) → length ys ≤ i → map f xs ≡ map g (take i ys) → map f xs ≡ map g ys
all_made f g ys i xs past is = is ∙ ap (map g) (take_all i ys past)

pub zip_all : {A B : Type 0} (R : A → B → Type 0) (xs : List A) (i : ℕ) (ys : List B) → length xs ≤ i → AllZip R (take i xs) ys → AllZip R xs ys
zip_all {A} R xs i ys past all = subst (λ (us : List A). AllZip R us ys) (take_all i xs past) all
