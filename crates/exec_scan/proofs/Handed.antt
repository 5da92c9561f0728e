-- The container at hand.
use Rattle.std.proofs.Common.{◌≡◌, ℕ, zero, suc, ◌<◌, List, [], ◌∷◌, length, get_or, refl, sym, ap, ◌∙◌, arith, subst}
use Rattle.std.specs.Prelude.{Option, IsSomeAnd}
use Rattle.std.specs.List.{AllZip, slice_get}
use Rattle.common_laws.specs.Maps.{Contents}
use Rattle.catalog_types.specs.declared.catalogue.Container.{Container}
use Rattle.catalog_types.specs.declared.catalogue.Projection.{Projection}
use Rattle.del_vector.specs.declared.mark.Mark.{Mark}
use Rattle.ros_container.specs.Encodings.{written_of}
use Rattle.proj_store.specs.Sound.{MarksItsRows}
use Rattle.stored_rows.specs.Stored.{Beside, Projected}
use Rattle.exec_scan.specs.Opened.{HasOpened, Opening}
use Rattle.exec_scan.specs.Scanning.{HasOpenedAt}

pub zip_long : {A B : Type 0} (R : A → B → Type 0) (xs : List A) (ys : List B) → AllZip R xs ys → length xs ≡ length ys
zip_long R [] [] all = refl
zip_long R [] (y ∷ ys) all = absurd all
zip_long R (x ∷ xs) [] all = absurd all
zip_long R (x ∷ xs) (y ∷ ys) all = ap suc (zip_long R xs ys all.1)

-- what holds of two elements at a place
pub zip_at : {A B : Type 0} (R : A → B → Type 0) (xs : List A) (ys : List B) (i : ℕ) (d : A) (y : B) → i < length xs → AllZip R xs ys → y ≡ get_or ys i y → R (get_or xs i d) y
zip_at {A} {B} R xs ys i d y lt all is = subst (R (get_or xs i d)) (sym is) (by xs ys i lt all)
  where
    by : (us : List A) (vs : List B) (j : ℕ) → j < length us → AllZip R us vs → R (get_or us j d) (get_or vs j y)
    by [] vs j lt all = absurd (omega (arith, lt))
    by (u ∷ us) [] j lt all = absurd all
    by (u ∷ us) (v ∷ vs) zero lt all = all.0
    by (u ∷ us) (v ∷ vs) (suc j) lt all = by us vs j (omega (arith, lt)) all.1

-- what holds of an element at a place
pub some_at : {X : Type 0} (P : X → Type 0) (xs : List X) (i : ℕ) (d : X) → i < length xs → P (get_or xs i d) → IsSomeAnd (slice_get xs i) P
some_at P [] i d lt is = absurd (omega (arith, lt))
some_at P (x ∷ xs) zero d lt is = is
some_at P (x ∷ xs) (suc i) d lt is = some_at P xs i d (omega (arith, lt)) is

pub at_some : {X : Type 0} (P : X → Type 0) (xs : List X) (i : ℕ) (d : X) → IsSomeAnd (slice_get xs i) P → P (get_or xs i d)
at_some P [] i d is = absurd is
at_some P (x ∷ xs) zero d is = is
at_some P (x ∷ xs) (suc i) d is = at_some P xs i d is

abbrev pub beside : List Mark → List Mark → Beside
beside held fresh = record { held = held; fresh = fresh }

beside_is : (b : Beside) (held fresh : List Mark) → held ≡ b.held → fresh ≡ b.fresh → beside held fresh ≡ b
beside_is b held fresh first second = ap (λ (v : List Mark). beside v fresh) first ∙ ap (λ (v : List Mark). beside b.held v) second

pub kept_here : (ks : List Container) (bs : List Beside) (i : ℕ) (d : Container) (held fresh : List Mark) → AllZip MarksItsRows ks bs → i < length ks
    → IsSomeAnd (slice_get bs i) (λ b. held ≡ b.held) → IsSomeAnd (slice_get bs i) (λ b. fresh ≡ b.fresh) → MarksItsRows (get_or ks i d) (beside held fresh)
kept_here [] bs i d held fresh all lt first second = absurd (omega (arith, lt))
kept_here (k ∷ ks) [] i d held fresh all lt first second = absurd all
kept_here (k ∷ ks) (b ∷ bs) zero d held fresh all lt first second = subst (MarksItsRows k) (sym (beside_is b held fresh first second)) all.0
kept_here (k ∷ ks) (b ∷ bs) (suc i) d held fresh all lt first second = kept_here ks bs i d held fresh all.1 (omega (arith, lt)) first second

-- what was opened of the container at a place
pub opened_at : (p : Projected) (shape : Projection) (ks : List Container) (i : ℕ) (d : Container) (held fresh : List Mark) (places : List (Option ℕ)) (holds : Option Contents) (o : Opening)
    → shape ≡ p.entry → ks ≡ shape.containers → i < length ks → IsSomeAnd (slice_get p.beside i) (λ b. held ≡ b.held) → IsSomeAnd (slice_get p.beside i) (λ b. fresh ≡ b.fresh)
    → HasOpened (written_of shape) (get_or ks i d) (length shape.columns) (beside held fresh) places holds o → HasOpenedAt p i places holds o
opened_at p shape ks i d held fresh places holds o same are lt first second has =
    subst (λ (cs : List Container). IsSomeAnd (slice_get cs i) (λ k. IsSomeAnd (slice_get p.beside i) (λ b. HasOpened (written_of p.entry) k (length p.entry.columns) b places holds o))) (are ∙ ap (λ (s : Projection). s.containers) same)
    (some_at (λ k. IsSomeAnd (slice_get p.beside i) (λ b. HasOpened (written_of p.entry) k (length p.entry.columns) b places holds o)) ks i d lt
    (by p.beside i first second (subst (λ (s : Projection). HasOpened (written_of s) (get_or ks i d) (length s.columns) (beside held fresh) places holds o) same has)))
  where
    by : (bs : List Beside) (j : ℕ) → IsSomeAnd (slice_get bs j) (λ b. held ≡ b.held) → IsSomeAnd (slice_get bs j) (λ b. fresh ≡ b.fresh)
        → HasOpened (written_of p.entry) (get_or ks i d) (length p.entry.columns) (beside held fresh) places holds o → IsSomeAnd (slice_get bs j) (λ b. HasOpened (written_of p.entry) (get_or ks i d) (length p.entry.columns) b places holds o)
    by [] j first second has = absurd first
    by (b ∷ bs) zero first second has = subst (λ (x : Beside). HasOpened (written_of p.entry) (get_or ks i d) (length p.entry.columns) x places holds o) (beside_is b held fresh first second) has
    by (b ∷ bs) (suc j) first second has = by bs j first second has
