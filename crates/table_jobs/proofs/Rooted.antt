-- A projection that stands at a place of a store, and what its valid catalogue says of it.
use Rattle.std.proofs.Common.{◌≡◌, ℕ, zero, suc, ◌≤◌, ◌<◌, Bool, true, false, List, [], ◌∷◌, length, map, get_or, refl, sym, ◌∙◌, ap, subst, arith}
use Rattle.std.specs.Prelude.{IsSomeAnd}
use Rattle.std.specs.Bool.{OnTrue}
use Rattle.std.specs.List.{All, slice_get}
use Rattle.std.proofs.lemmas.List.{get_or-map, length-map}
use Rattle.std.proofs.lemmas.List.Elements.{All-head, All-tail}
use Rattle.catalog_types.specs.declared.catalogue.Catalogue.{Catalogue}
use Rattle.catalog_types.specs.declared.catalogue.Projection.{Projection}
use Rattle.catalog_types.specs.declared.catalogue.Table as kept
use Rattle.catalog_types.specs.Parts.{IsProjection, IsTable}
use Rattle.stored_rows.specs.Stored.{Projected}
use Rattle.moveout_job.specs.OnDisk.{IsListedBelow}
use Rattle.proj_store.specs.Loaded.{Loaded}
use Rattle.store_commit.specs.Seen.{Seen}
use Rattle.table_store.specs.Held.{projections_of}
use Rattle.table_store.specs.Installing.{IsRenewal, IsRenewalAt}
use Rattle.table_store.specs.Moving.{IsFreshAt}
use Rattle.table_store.proofs.Drawn.{columns_most}
use Rattle.table_store.proofs.Moved.{fresh_place, fresh_table, is_at, projection_below, stored_at}
use Rattle.table_jobs.specs.Jobs.{OfProjection}
use Rattle.table_jobs.proofs.Holding.{IsOwnAt}
use Rattle.table_jobs.proofs.Raising.{IsRooted, entry_in}

-- ---- where it stands

pub own_there : (ts : List (List Loaded)) (stores : List (List Projected)) (i j : ℕ) (ps qs : List Loaded) (p : Loaded) → map projections_of ts ≡ stores → IsFreshAt stores i j → ps ≡ get_or ts i ps → qs ≡ ps → p ≡ get_or qs j p
    → IsOwnAt stores i j p.stored
own_there ts stores i j ps qs p are fresh ps_is qs_is p_is =
    let here : IsFreshAt (map projections_of ts) i j = subst (λ (ss : List (List Projected)). IsFreshAt ss i j) (sym are) fresh in
    let lt : i < length ts = fresh_table ts i j here in
    let below : j < length ps = fresh_place ts i j ps ps_is here in
    let at : p ≡ get_or ps j p = p_is ∙ ap (λ (xs : List Loaded). get_or xs j p) qs_is in
    let inner : IsSomeAnd (slice_get (projections_of ps) j) (λ q. q ≡ p.stored) =
    is_at (projections_of ps) j p.stored (λ q. q ≡ p.stored) (omega (arith, below, length-map ps (λ (q : Loaded). q.stored)))
    (ap (λ (q : Loaded). q.stored) at ∙ sym (get_or-map (λ (q : Loaded). q.stored) ps j p p.stored below)) refl in
    subst (λ (ss : List (List Projected)). IsOwnAt ss i j p.stored) are
    (is_at (map projections_of ts) i (projections_of ps) (λ xs. IsSomeAnd (slice_get xs j) (λ q. q ≡ p.stored)) (omega (arith, lt, length-map ts projections_of)) (stored_at ts i ps lt ps_is) inner)

fresh_in : (ps : List Projected) (j : ℕ) (p : Projected) → IsSomeAnd (slice_get ps j) (λ q. q.entry.fresh ≡ true) → IsSomeAnd (slice_get ps j) (λ q. q ≡ p) → p.entry.fresh ≡ true
fresh_in [] j p fresh there = absurd fresh
fresh_in (q ∷ ps) zero p fresh there = subst (λ (r : Projected). r.entry.fresh ≡ true) there fresh
fresh_in (q ∷ ps) (suc j) p fresh there = fresh_in ps j p fresh there

pub own_fresh : (stores : List (List Projected)) (i j : ℕ) (p : Projected) → IsFreshAt stores i j → IsOwnAt stores i j p → p.entry.fresh ≡ true
own_fresh [] i j p fresh there = absurd fresh
own_fresh (ps ∷ pss) zero j p fresh there = fresh_in ps j p fresh there
own_fresh (ps ∷ pss) (suc i) j p fresh there = own_fresh pss i j p fresh there

renewal_in : (ps : List Projected) (j : ℕ) (p : Projected) (entry : Projection) → IsRenewal p.entry entry → IsSomeAnd (slice_get ps j) (λ q. q ≡ p) → IsSomeAnd (slice_get ps j) (λ q. IsRenewal q.entry entry)
renewal_in [] j p entry renewal there = absurd there
renewal_in (q ∷ ps) zero p entry renewal there = subst (λ (r : Projected). IsRenewal r.entry entry) (sym there) renewal
renewal_in (q ∷ ps) (suc j) p entry renewal there = renewal_in ps j p entry renewal there

pub own_renewal : (stores : List (List Projected)) (i j : ℕ) (p : Projected) (entry : Projection) → IsRenewal p.entry entry → IsOwnAt stores i j p → IsRenewalAt stores i j entry
own_renewal [] i j p entry renewal there = absurd there
own_renewal (ps ∷ pss) zero j p entry renewal there = renewal_in ps j p entry renewal there
own_renewal (ps ∷ pss) (suc i) j p entry renewal there = own_renewal pss i j p entry renewal there

-- ---- its entry

valid_in : (root : Catalogue) (t : kept.Table) (es : List Projection) (j : ℕ) (e : Projection) → All (IsProjection root t) es → IsSomeAnd (slice_get es j) (λ x. x ≡ e) → IsProjection root t e
valid_in root t [] j e all there = absurd there
valid_in root t (x ∷ es) zero e all there = subst (IsProjection root t) there (All-head (IsProjection root t) x es all)
valid_in root t (x ∷ es) (suc j) e all there = valid_in root t es j e (All-tail (IsProjection root t) x es all) there

-- a table of a valid catalogue with one of its projections
pub record IsEntryOf (root : Catalogue) (e : Projection) : Type 0 where
  pub table : kept.Table
  pub is_table : IsTable root table
  pub is_projection : IsProjection root table e

valid_at : (root : Catalogue) (ts : List kept.Table) (i j : ℕ) (e : Projection) → All (IsTable root) ts → IsSomeAnd (slice_get ts i) (λ t. IsSomeAnd (slice_get t.projections j) (λ x. x ≡ e)) → IsEntryOf root e
valid_at root [] i j e all there = absurd there
valid_at root (t ∷ ts) zero j e all there =
    let here : IsTable root t = All-head (IsTable root) t ts all in
    record { table = t; is_table = here; is_projection = valid_in root t t.projections j e here.projections there }
valid_at root (t ∷ ts) (suc i) j e all there = valid_at root ts i j e (All-tail (IsTable root) t ts all) there

pub own_valid : (was : Seen) (root : Catalogue) (i j : ℕ) (p : Projected) → IsRooted was root → IsOwnAt was.stores i j p → IsEntryOf root p.entry
own_valid was root i j p rooted there = valid_at root root.tables i j p.entry rooted.valid.tables (entry_in was.stores root.tables i j p (λ e. e ≡ p.entry) rooted.entries there refl)

pub own_below : (root : Catalogue) (e : Projection) → IsEntryOf root e → IsListedBelow root.next e
own_below root e valid = projection_below root valid.table e valid.is_projection

pub own_narrow : (root : Catalogue) (e : Projection) → IsEntryOf root e → length e.columns ≤ 64
own_narrow root e valid =
    let narrow = columns_most root valid.table e valid.is_projection in
    let most = valid.is_table.most in
    omega (arith, narrow, most)

pub own_reached : (root : Catalogue) (e : Projection) → e.fresh ≡ true → IsEntryOf root e → root.ahm ≤ e.lge
own_reached root e fresh valid = by e.fresh fresh valid.is_projection.reached
  where
    by : (b : Bool) → b ≡ true → OnTrue b ((root.ahm ≤ e.lge) × (e.lge ≤ root.last)) → root.ahm ≤ e.lge
    by true on reached = reached.0
    by false on reached = absurd (cc)

-- what is so of the entry in the catalogue
of_in : (es : List Projection) (j : ℕ) (e : Projection) (P : Projection → Type 0) → IsSomeAnd (slice_get es j) (λ x. x ≡ e) → IsSomeAnd (slice_get es j) P → P e
of_in [] j e P there is = absurd there
of_in (x ∷ es) zero e P there is = subst P there is
of_in (x ∷ es) (suc j) e P there is = of_in es j e P there is

of_at : (ts : List kept.Table) (i j : ℕ) (e : Projection) (P : Projection → Type 0) → IsSomeAnd (slice_get ts i) (λ t. IsSomeAnd (slice_get t.projections j) (λ x. x ≡ e)) → IsSomeAnd (slice_get ts i) (λ t. IsSomeAnd (slice_get t.projections j) P) → P e
of_at [] i j e P there is = absurd there
of_at (t ∷ ts) zero j e P there is = of_in t.projections j e P there is
of_at (t ∷ ts) (suc i) j e P there is = of_at ts i j e P there is

pub of_own : (was : Seen) (root : Catalogue) (i j : ℕ) (p : Projected) (P : Projection → Type 0) → IsRooted was root → IsOwnAt was.stores i j p → OfProjection i j was.catalogue P → P p.entry
of_own was root i j p P rooted there is =
    of_at root.tables i j p.entry P (entry_in was.stores root.tables i j p (λ e. e ≡ p.entry) rooted.entries there refl) (subst (λ (c : Catalogue). OfProjection i j c P) rooted.catalogue is)
