-- Which rows of a projection are retained, container by container.
use Rattle.std.proofs.Common.{◌≡◌, ℕ, zero, suc, ◌+◌, ◌-◌, ◌<◌, Bool, true, false, List, [], ◌∷◌, length, drop, get_or, refl, sym, ◌∙◌, ap, ap₂, subst, arith}
use Rattle.std.specs.Prelude.{◌||◌, Option, Some, None, IsSomeAnd}
use Rattle.std.specs.List.{list_any, slice_get}
use Rattle.std.proofs.lemmas.List.Folds.{list_any-append}
use Rattle.common_laws.specs.Maps.{Contents}
use Rattle.catalog_types.specs.declared.catalogue.Container.{Container}
use Rattle.catalog_types.specs.declared.catalogue.Projection.{Projection}
use Rattle.col_value.specs.declared.row.Asked.{Asked}
use Rattle.col_value.specs.declared.row.Stamped.{Stamped}
use Rattle.del_vector.specs.declared.mark.Mark.{Mark}
use Rattle.ros_container.specs.Encodings.{Written, written_of}
use Rattle.row_history.specs.History.{is_retained}
use Rattle.stored_rows.specs.Held.{HoldsMarked, stamped_from}
use Rattle.stored_rows.specs.Stored.{Beside, Projected, Stores, StoresRows, mark_in}
use Rattle.exec_scan.specs.Retaining.{is_kept, keeps_from, KeepsAt}
use Rattle.exec_scan.proofs.Handed.{beside, some_at}
use Rattle.ros_container.proofs.Long.{container_long}

-- the same epochs keep the same rows
pub same_keeps : (mark : ℕ) (f g : ℕ → Option ℕ) → ((i : ℕ) → f i ≡ g i) → (first count : ℕ) → keeps_from mark f first count ≡ keeps_from mark g first count
same_keeps mark f g same first zero = refl
same_keeps mark f g same first (suc count) = ap₂ (λ (a b : Bool). a || b) (ap (is_kept mark) (same first)) (same_keeps mark f g same (first + 1) count)

rows_keep : (mark : ℕ) (f : ℕ → Option ℕ) (first : ℕ) (rows : List Asked) → list_any (is_retained mark) (stamped_from first f rows) ≡ keeps_from mark f first (length rows)
rows_keep mark f first [] = refl
rows_keep mark f first (a ∷ rows) = ap (λ (b : Bool). is_kept mark (f first) || b) (rows_keep mark f (first + 1) rows)

held_keep : (m : Contents) (es : List Written) (mark : ℕ) (k : Container) (b : Beside) (rows : List Stamped) → HoldsMarked m es k (mark_in b) rows → list_any (is_retained mark) rows ≡ keeps_from mark (mark_in b) 0 k.rows
held_keep m es mark k b rows (asked, held, are) =
    ap (list_any (is_retained mark)) are ∙ rows_keep mark (mark_in b) 0 asked ∙ ap (keeps_from mark (mark_in b) 0) (container_long m es k asked held)

-- what the container at a place keeps
pub keeps_here : (mark : ℕ) (p : Projected) (shape : Projection) (ks : List Container) (i : ℕ) (d : Container) (held fresh : List Mark) (keeps : Bool)
    → shape ≡ p.entry → ks ≡ shape.containers → i < length ks → IsSomeAnd (slice_get p.beside i) (λ b. held ≡ b.held) → IsSomeAnd (slice_get p.beside i) (λ b. fresh ≡ b.fresh)
    → keeps ≡ keeps_from mark (mark_in (beside held fresh)) 0 (get_or ks i d).rows → KeepsAt mark p i keeps
keeps_here mark p shape ks i d held fresh keeps same are lt first second is =
    subst (λ (cs : List Container). IsSomeAnd (slice_get cs i) (λ k. IsSomeAnd (slice_get p.beside i) (λ b. keeps ≡ keeps_from mark (mark_in b) 0 k.rows))) (are ∙ ap (λ (s : Projection). s.containers) same)
    (some_at (λ k. IsSomeAnd (slice_get p.beside i) (λ b. keeps ≡ keeps_from mark (mark_in b) 0 k.rows)) ks i d lt (by p.beside i first second))
  where
    beside_is : (b : Beside) → held ≡ b.held → fresh ≡ b.fresh → beside held fresh ≡ b
    beside_is b one two = ap (λ (v : List Mark). beside v fresh) one ∙ ap (λ (v : List Mark). beside b.held v) two

    by : (bs : List Beside) (j : ℕ) → IsSomeAnd (slice_get bs j) (λ b. held ≡ b.held) → IsSomeAnd (slice_get bs j) (λ b. fresh ≡ b.fresh) → IsSomeAnd (slice_get bs j) (λ b. keeps ≡ keeps_from mark (mark_in b) 0 (get_or ks i d).rows)
    by [] j one two = absurd one
    by (b ∷ bs) zero one two = is ∙ ap (λ (x : Beside). keeps_from mark (mark_in x) 0 (get_or ks i d).rows) (beside_is b one two)
    by (b ∷ bs) (suc j) one two = by bs j one two

-- of the containers before a place no row is retained
abbrev pub NoneBefore : ℕ → Projected → ℕ → Type 0
NoneBefore mark p i =
    (m : Contents) (saved : List Stamped) → StoresRows m (written_of p.entry) p.entry.containers p.beside saved
    → (rest : List Stamped) × StoresRows m (written_of p.entry) (drop i p.entry.containers) (drop i p.beside) rest × (list_any (is_retained mark) saved ≡ list_any (is_retained mark) rest)

pub none_yet : (mark : ℕ) (p : Projected) → NoneBefore mark p 0
none_yet mark p m saved stores = (saved, stores, refl)

abbrev Two : ℕ → List Container → List Beside → ℕ → Bool → Type 0
Two mark ks bs i keeps = IsSomeAnd (slice_get ks i) (λ k. IsSomeAnd (slice_get bs i) (λ b. keeps ≡ keeps_from mark (mark_in b) 0 k.rows))

-- the rows of the container at a place, and those behind it
split_at : (m : Contents) (es : List Written) (mark : ℕ) (ks : List Container) (bs : List Beside) (i : ℕ) (keeps : Bool) (rows : List Stamped) → Two mark ks bs i keeps → StoresRows m es (drop i ks) (drop i bs) rows
    → (rest : List Stamped) × StoresRows m es (drop (suc i) ks) (drop (suc i) bs) rest × (list_any (is_retained mark) rows ≡ (keeps || list_any (is_retained mark) rest))
split_at m es mark [] bs i keeps rows two stores = absurd two
split_at m es mark (k ∷ ks) [] i keeps rows two stores = by i (slice_get (k ∷ ks) i) two
  where
    by : (j : ℕ) (o : Option Container) → IsSomeAnd o (λ c. IsSomeAnd (slice_get [] j) (λ b. keeps ≡ keeps_from mark (mark_in b) 0 c.rows))
        → (rest : List Stamped) × StoresRows m es (drop (suc j) (k ∷ ks)) (drop (suc j) []) rest × (list_any (is_retained mark) rows ≡ (keeps || list_any (is_retained mark) rest))
    by j None h = absurd h
    by j (Some c) h = absurd h
split_at m es mark (k ∷ ks) (b ∷ bs) zero keeps rows two (here, more, vector, held, stores, are) = (
  more,
  stores,
  ap (list_any (is_retained mark)) are ∙ list_any-append (is_retained mark) here more
      ∙ ap (λ (a : Bool). a || list_any (is_retained mark) more) (held_keep m es mark k b here held ∙ sym two),
)
split_at m es mark (k ∷ ks) (b ∷ bs) (suc i) keeps rows two stores = split_at m es mark ks bs i keeps rows two stores

pub none_next : (mark : ℕ) (p : Projected) (i : ℕ) (keeps : Bool) → keeps ≡ false → KeepsAt mark p i keeps → NoneBefore mark p i → NoneBefore mark p (i + 1)
none_next mark p i keeps off at none m saved stores =
    let (left, there, same) = none m saved stores in
    let (rest, behind, is) = split_at m (written_of p.entry) mark p.entry.containers p.beside i keeps left at there in
    let next : suc i ≡ i + 1 = omega arith in (
      rest,
      subst (λ (n : ℕ). StoresRows m (written_of p.entry) (drop n p.entry.containers) (drop n p.beside) rest) next behind,
      same ∙ is ∙ ap (λ (b : Bool). b || list_any (is_retained mark) rest) off,
    )

pub one_found : (mark : ℕ) (p : Projected) (i : ℕ) (keeps : Bool) → keeps ≡ true → KeepsAt mark p i keeps → NoneBefore mark p i → (m : Contents) (rows : List Stamped) → Stores m p rows → true ≡ list_any (is_retained mark) rows
one_found mark p i keeps on at none m rows (saved, stores, are) =
    let (left, there, same) = none m saved stores in
    let (rest, behind, is) = split_at m (written_of p.entry) mark p.entry.containers p.beside i keeps left at there in
    sym (ap (list_any (is_retained mark)) are ∙ list_any-append (is_retained mark) saved p.unsaved
    ∙ ap (λ (b : Bool). b || list_any (is_retained mark) p.unsaved) (same ∙ is ∙ ap (λ (b : Bool). b || list_any (is_retained mark) rest) on))

-- behind the last container only the rows in memory are left
pub memory_left : (mark : ℕ) (p : Projected) (i : ℕ) (keeps : Bool) → i ≡ length p.entry.containers → NoneBefore mark p i → keeps ≡ list_any (is_retained mark) p.unsaved
    → (m : Contents) (rows : List Stamped) → Stores m p rows → keeps ≡ list_any (is_retained mark) rows
memory_left mark p i keeps end none is m rows (saved, stores, are) =
    let (rest, behind, same) = none m saved stores in
    let nothing : rest ≡ [] = past (drop i p.entry.containers) (drop i p.beside) rest (drop_all p.entry.containers i end) behind in
    is ∙ sym (ap (list_any (is_retained mark)) are ∙ list_any-append (is_retained mark) saved p.unsaved
    ∙ ap (λ (b : Bool). b || list_any (is_retained mark) p.unsaved) (same ∙ ap (list_any (is_retained mark)) nothing))
  where
    drop_all : (ks : List Container) (j : ℕ) → j ≡ length ks → drop j ks ≡ []
    drop_all [] zero at = refl
    drop_all [] (suc j) at = refl
    drop_all (k ∷ ks) zero at = absurd (omega (arith, at))
    drop_all (k ∷ ks) (suc j) at = drop_all ks j (omega (arith, at))

    past : (ks : List Container) (bs : List Beside) (xs : List Stamped) → ks ≡ [] → StoresRows m (written_of p.entry) ks bs xs → xs ≡ []
    past [] [] xs none left = left
    past [] (b ∷ bs) xs none left = absurd left
    past (k ∷ ks) bs xs none left = absurd (cc)

-- a row that isn't retained is passed over
pub keeps_next : (mark : ℕ) (f : ℕ → Option ℕ) (i count : ℕ) (whole : Bool) → i < count → is_kept mark (f i) ≡ false → keeps_from mark f i (count - i) ≡ whole → keeps_from mark f (i + 1) (count - (i + 1)) ≡ whole
keeps_next mark f i count whole lt off is =
    let left : count - i ≡ suc (count - (i + 1)) = omega (arith, lt) in
    sym (ap (λ (b : Bool). b || keeps_from mark f (i + 1) (count - (i + 1))) off) ∙ ap (keeps_from mark f i) (sym left) ∙ is
