-- A projection at a place that the catalogue has.
use Rattle.std.proofs.Common.{◌≡◌, ℕ, zero, suc, ◌<◌, Bool, true, false, List, [], ◌∷◌, length, map, get_or, refl, sym, ◌∙◌, ap, subst, arith}
use Rattle.std.specs.Prelude.{IsSomeAnd}
use Rattle.std.specs.Bool.{OnFalse}
use Rattle.std.specs.List.{All, slice_get}
use Rattle.std.proofs.lemmas.List.{get_or-map, length-map}
use Rattle.catalog_types.specs.declared.catalogue.Catalogue.{Catalogue}
use Rattle.catalog_types.specs.declared.catalogue.Container.{Container}
use Rattle.catalog_types.specs.declared.catalogue.Projection.{Projection}
use Rattle.catalog_types.specs.declared.catalogue.Table as kept
use Rattle.stored_rows.specs.Stored.{Projected}
use Rattle.proj_store.specs.Loaded.{Loaded}
use Rattle.moveout_job.specs.OnDisk.{IsListedBelow}
use Rattle.sound_laws.specs.Moves.{change_at}
use Rattle.store_commit.specs.Seen.{Seen}
use Rattle.table_store.specs.Held.{projections_of}
use Rattle.table_store.specs.Installing.{IsRenewal}
use Rattle.table_store.specs.Moving.{with_entry, with_entry_at}
use Rattle.table_store.proofs.Moved.{is_at, stored_at}
use Rattle.table_jobs.specs.Jobs.{HasReached, OfProjection}
use Rattle.table_jobs.proofs.Holding.{IsOwnAt}
use Rattle.table_jobs.proofs.Raising.{IsRooted}
use Rattle.table_jobs.proofs.Rooted.{IsEntryOf, of_own, own_below, own_valid}

some_below : {X : Type 0} (xs : List X) (i : ℕ) (P : X → Type 0) → IsSomeAnd (slice_get xs i) P → i < length xs
some_below [] i P there = absurd there
some_below (x ∷ xs) zero P there = omega arith
some_below (x ∷ xs) (suc i) P there = let rest = some_below xs i P there in omega (arith, rest)

length_entries : (ps : List Loaded) → length (map (λ p. p.entry) (projections_of ps)) ≡ length ps
length_entries ps = length-map (projections_of ps) (λ (p : Projected). p.entry) ∙ length-map ps (λ (p : Loaded). p.stored)

table_in : (ts : List (List Loaded)) (us : List kept.Table) (i : ℕ) (P : kept.Table → Type 0) → map (λ ps. map (λ p. p.entry) ps) (map projections_of ts) ≡ map (λ t. t.projections) us → IsSomeAnd (slice_get us i) P → i < length ts
table_in ts us i P same there =
    let lt : i < length us = some_below us i P there in
    let long : length ts ≡ length us =
    sym (length-map ts projections_of) ∙ sym (length-map (map projections_of ts) (λ ps. map (λ (p : Projected). p.entry) ps)) ∙ ap length same ∙ length-map us (λ t. t.projections) in
    omega (arith, lt, long)

place_in : (ts : List (List Loaded)) (us : List kept.Table) (i j : ℕ) (P : Projection → Type 0) (ps : List Loaded) → map (λ ps. map (λ p. p.entry) ps) (map projections_of ts) ≡ map (λ t. t.projections) us
    → IsSomeAnd (slice_get us i) (λ t. IsSomeAnd (slice_get t.projections j) P) → ps ≡ get_or ts i ps → j < length ps
place_in [] [] i j P ps same there is = absurd there
place_in [] (u ∷ us) i j P ps same there is = absurd (cc)
place_in (qs ∷ ts) [] i j P ps same there is = absurd there
place_in (qs ∷ ts) (u ∷ us) zero j P ps same there is =
    let lt : j < length u.projections = some_below u.projections j P there in
    let here : map (λ p. p.entry) (projections_of qs) ≡ u.projections = cc in
    let long : length ps ≡ length u.projections = ap length is ∙ sym (length_entries qs) ∙ ap length here in
    omega (arith, lt, long)
place_in (qs ∷ ts) (u ∷ us) (suc i) j P ps same there is =
    let rest : map (λ (rs : List Projected). map (λ (r : Projected). r.entry) rs) (map projections_of ts) ≡ map (λ (t : kept.Table). t.projections) us = cc in
    place_in ts us i j P ps rest there is

-- the table at the place is one of the store's
table_there : (was : Seen) (root : Catalogue) (i j : ℕ) (P : Projection → Type 0) (ts : List (List Loaded)) → IsRooted was root → map projections_of ts ≡ was.stores → OfProjection i j was.catalogue P → i < length ts
table_there was root i j P ts rooted are there =
    table_in ts root.tables i (λ t. IsSomeAnd (slice_get t.projections j) P) (ap (map (λ ps. map (λ (p : Projected). p.entry) ps)) are ∙ rooted.entries) (subst (λ (c : Catalogue). OfProjection i j c P) rooted.catalogue there)

-- and the projection one of the table's
place_there : (was : Seen) (root : Catalogue) (i j : ℕ) (P : Projection → Type 0) (ts : List (List Loaded)) (ps : List Loaded) → IsRooted was root → map projections_of ts ≡ was.stores → OfProjection i j was.catalogue P → ps ≡ get_or ts i ps → j < length ps
place_there was root i j P ts ps rooted are there is =
    place_in ts root.tables i j P ps (ap (map (λ ps. map (λ (p : Projected). p.entry) ps)) are ∙ rooted.entries) (subst (λ (c : Catalogue). OfProjection i j c P) rooted.catalogue there) is

-- a projection that was taken from a place stands there
here_at : (ts : List (List Loaded)) (stores : List (List Projected)) (i j : ℕ) (ps : List Loaded) (p : Loaded) → map projections_of ts ≡ stores → i < length ts → ps ≡ get_or ts i ps → j < length ps → p ≡ get_or ps j p → IsOwnAt stores i j p.stored
here_at ts stores i j ps p are lt ps_is below p_is =
    let inner : IsSomeAnd (slice_get (projections_of ps) j) (λ q. q ≡ p.stored) =
    is_at (projections_of ps) j p.stored (λ q. q ≡ p.stored) (omega (arith, below, length-map ps (λ (q : Loaded). q.stored)))
    (ap (λ (q : Loaded). q.stored) p_is ∙ sym (get_or-map (λ (q : Loaded). q.stored) ps j p p.stored below)) refl in
    subst (λ (ss : List (List Projected)). IsOwnAt ss i j p.stored) are
    (is_at (map projections_of ts) i (projections_of ps) (λ xs. IsSomeAnd (slice_get xs j) (λ q. q ≡ p.stored)) (omega (arith, lt, length-map ts projections_of)) (stored_at ts i ps lt ps_is) inner)

-- what is so of the projection at a place
at_place : {X : Type 0} (xs : List X) (j : ℕ) (x : X) (P : X → Type 0) → x ≡ get_or xs j x → IsSomeAnd (slice_get xs j) P → P x
at_place [] j x P is there = absurd there
at_place (y ∷ xs) zero x P is there = subst P (sym is) there
at_place (y ∷ xs) (suc j) x P is there = at_place xs j x P is there

-- ---- a projection that isn't up to date

-- it has no containers
pub stale_bare : (root : Catalogue) (e : Projection) → e.fresh ≡ false → IsEntryOf root e → e.containers ≡ []
stale_bare root e stale valid = none e.containers (by e.fresh stale valid.is_projection.stale)
  where
    by : (b : Bool) → b ≡ false → OnFalse b ((e.lge ≡ 0) × (e.born ≡ 0) × (length e.containers ≡ 0)) → length e.containers ≡ 0
    by true is empty = absurd (cc)
    by false is (lge, born, count) = count

    none : (ks : List Container) → length ks ≡ 0 → ks ≡ []
    none [] is = refl
    none (k ∷ ks) is = absurd (omega (arith, is))

pub sort_within : (root : Catalogue) (e : Projection) → IsEntryOf root e → All (λ i. i < length e.columns) e.sort
sort_within root e valid = valid.is_projection.sort

-- ---- the two projections of a refresh

-- the projections of a table, taken as they stand
taken_there : (ts : List (List Loaded)) (i : ℕ) (ps qs : List Loaded) → ps ≡ get_or ts i ps → qs ≡ ps → qs ≡ get_or ts i qs
taken_there ts i ps qs ps_is same = subst (λ (xs : List Loaded). xs ≡ get_or ts i xs) (sym same) ps_is

pub parts_there : (was : Seen) (root : Catalogue) (i j : ℕ) (ts : List (List Loaded)) (ps qs : List Loaded) → IsRooted was root → map projections_of ts ≡ was.stores → OfProjection i j was.catalogue (λ e. e.fresh ≡ false) → ps ≡ get_or ts i ps → qs ≡ ps
    → j < length qs
parts_there was root i j ts ps qs rooted are stale ps_is same = place_there was root i j (λ e. e.fresh ≡ false) ts qs rooted are stale (taken_there ts i ps qs ps_is same)

-- the projection at a place of a table isn't up to date
pub record IsTarget (was : Seen) (root : Catalogue) (i j : ℕ) (p : Projected) : Type 0 where
  pub there : IsOwnAt was.stores i j p
  pub stale : p.entry.fresh ≡ false
  pub valid : IsEntryOf root p.entry

pub target : (was : Seen) (root : Catalogue) (i j : ℕ) (ts : List (List Loaded)) (ps qs : List Loaded) (p : Loaded) → IsRooted was root → map projections_of ts ≡ was.stores → OfProjection i j was.catalogue (λ e. e.fresh ≡ false) → ps ≡ get_or ts i ps → qs ≡ ps
    → p ≡ get_or qs j p → IsTarget was root i j p.stored
target was root i j ts ps qs p rooted are stale ps_is same p_is =
    let lt : i < length ts = table_there was root i j (λ e. e.fresh ≡ false) ts rooted are stale in
    let below : j < length qs = parts_there was root i j ts ps qs rooted are stale ps_is same in
    let own : IsOwnAt was.stores i j p.stored = here_at ts was.stores i j qs p are lt (taken_there ts i ps qs ps_is same) below p_is in
    record { there = own; stale = of_own was root i j p.stored (λ e. e.fresh ≡ false) rooted own stale; valid = own_valid was root i j p.stored rooted own }

-- another one of the table is
pub record IsSource (was : Seen) (root : Catalogue) (i k : ℕ) (p : Projected) : Type 0 where
  pub there : IsOwnAt was.stores i k p
  pub fresh : p.entry.fresh ≡ true
  pub below : IsListedBelow root.next p.entry

pub source : (was : Seen) (root : Catalogue) (i j k : ℕ) (ts : List (List Loaded)) (ps qs : List Loaded) (p : Loaded) → IsRooted was root → map projections_of ts ≡ was.stores → OfProjection i j was.catalogue (λ e. e.fresh ≡ false) → ps ≡ get_or ts i ps → qs ≡ ps
    → p ≡ get_or qs k p → IsSomeAnd (slice_get qs k) (λ q. q.stored.entry.fresh ≡ true) → IsSource was root i k p.stored
source was root i j k ts ps qs p rooted are stale ps_is same p_is fresh =
    let lt : i < length ts = table_there was root i j (λ e. e.fresh ≡ false) ts rooted are stale in
    let below : k < length qs = some_below qs k (λ q. q.stored.entry.fresh ≡ true) fresh in
    let own : IsOwnAt was.stores i k p.stored = here_at ts was.stores i k qs p are lt (taken_there ts i ps qs ps_is same) below p_is in
    record { there = own; fresh = at_place qs k p (λ q. q.stored.entry.fresh ≡ true) p_is fresh; below = own_below root p.stored.entry (own_valid was root i k p.stored rooted own) }

-- ---- the entry that it gets

put_in : (ps : List Projection) (j : ℕ) (entry : Projection) (Q P : Projection → Type 0) → IsSomeAnd (slice_get ps j) Q → P entry → IsSomeAnd (slice_get (change_at j (λ p. entry) ps) j) P
put_in [] j entry Q P there is = absurd there
put_in (p ∷ ps) zero entry Q P there is = is
put_in (p ∷ ps) (suc j) entry Q P there is = put_in ps j entry Q P there is

put_at : (ts : List kept.Table) (i j : ℕ) (entry : Projection) (Q P : Projection → Type 0) → IsSomeAnd (slice_get ts i) (λ t. IsSomeAnd (slice_get t.projections j) Q) → P entry
    → IsSomeAnd (slice_get (change_at i (with_entry j entry) ts) i) (λ t. IsSomeAnd (slice_get t.projections j) P)
put_at [] i j entry Q P there is = absurd there
put_at (t ∷ ts) zero j entry Q P there is = put_in t.projections j entry Q P there is
put_at (t ∷ ts) (suc i) j entry Q P there is = put_at ts i j entry Q P there is

pub has_reached : (was is : Seen) (i j next : ℕ) (old entry : Projection) → OfProjection i j was.catalogue (λ p. p.fresh ≡ false) → IsRenewal old entry → entry.lge ≡ was.catalogue.last → is.catalogue ≡ with_entry_at was.catalogue.last next i j entry was.catalogue
    → OfProjection i j is.catalogue (HasReached is.catalogue.last)
has_reached was is i j next old entry stale renewal last same =
    subst (λ (c : Catalogue). OfProjection i j c (HasReached c.last)) (sym same)
    (put_at was.catalogue.tables i j entry (λ p. p.fresh ≡ false) (HasReached was.catalogue.last) stale (ap (λ (p : Projection). p.fresh) renewal, last))
