-- Where the jobs of a statement find their projections.
use Rattle.std.proofs.Common.{◌≡◌, ◌<◌, ◌≤◌, ℕ, Bool, true, false, cond, List, [], ◌∷◌, length, map, get_or, refl, sym, ◌∙◌, ap, subst, arith}
use Rattle.std.specs.Prelude.{not, nat_le, nat_lt, Option, Some, None, option_and_then, position, IfSome, MatchOption, IsSomeAnd}
use Rattle.std.specs.Bool.{OnFalse, OnTrue}
use Rattle.std.specs.List.{All, position_or_len, slice_get}
use Rattle.std.proofs.lemmas.Bool.Decides.{nat_tests}
use Rattle.std.proofs.lemmas.List.Elements.{All-weaker}
use Rattle.std.proofs.lemmas.List.Sums.{passes_at_first}
use Rattle.catalog_types.specs.declared.catalogue.Catalogue.{Catalogue}
use Rattle.catalog_types.specs.declared.catalogue.Projection.{Projection}
use Rattle.catalog_types.specs.declared.catalogue.Table as kept
use Rattle.catalog_types.specs.Parts.{IsProjection, IsTable}
use Rattle.catalog_types.specs.Valid.{IsValid}
use Rattle.mover_policy.specs.declared.first.Place.{Place}
use Rattle.mover_policy.specs.declared.merging.Merge.{Merge}
use Rattle.mover_policy.specs.First.{all_projections, projection_at}
use Rattle.mover_policy.specs.Merging.{IsBest, IsNext}
use Rattle.stored_rows.specs.Stored.{Projected}
use Rattle.table_jobs.specs.Jobs.{OfProjection}
use Rattle.table_jobs.specs.Oldest.{HasFour}
use Rattle.table_store.specs.Moving.{IsFreshAt}
use Rattle.store_core.specs.Jobs.{stale_place}
use Rattle.store_core.proofs.Anew.{all_at, is_some_and}
use Rattle.store_core.proofs.First.{fresh_at}
use Rattle.store_core.proofs.Placed.{got}

-- ---- a merge

placed : (tables : List kept.Table) (at : Place) (p : Projection) (P : Projection → Type 0) → projection_at tables at ≡ Some p → P p → IsSomeAnd (slice_get tables at.table) (λ t. IsSomeAnd (slice_get t.projections at.place) P)
placed tables at p P there holds = by (slice_get tables at.table) there
  where
    by : (o : Option kept.Table) → option_and_then (λ t. slice_get t.projections at.place) o ≡ Some p → IsSomeAnd o (λ t. IsSomeAnd (slice_get t.projections at.place) P)
    by None is = absurd (cc)
    by (Some t) is = is_some_and (slice_get t.projections at.place) P p is holds

pub merge_fresh : (tables : List kept.Table) (stores : List (List Projected)) (o : Option Merge) → map (λ ps. map (λ q. q.entry) ps) stores ≡ map (λ t. t.projections) tables → MatchOption o (IsBest tables (all_projections tables) None) (λ m. IsNext tables m)
    → IfSome o (λ m. IsFreshAt stores m.at.table m.at.place)
merge_fresh tables stores None entries next = tt
merge_fresh tables stores (Some m) entries next = fresh_at tables stores m.at next.first.projection entries next.first.there next.first.due.0

four : (n : ℕ) → nat_le 4 n ≡ true → 4 ≤ n
four n is = grind (arith, nat_tests, is)

pub merge_four : (c : Catalogue) (tables : List kept.Table) (o : Option Merge) → tables ≡ c.tables → MatchOption o (IsBest tables (all_projections tables) None) (λ m. IsNext tables m)
    → IfSome o (λ m. OfProjection m.at.table m.at.place c (λ p. HasFour m.level p.containers))
merge_four c tables None same next = tt
merge_four c tables (Some m) same next =
    subst (λ (ts : List kept.Table). IsSomeAnd (slice_get ts m.at.table) (λ t. IsSomeAnd (slice_get t.projections m.at.place) (λ p. HasFour m.level p.containers))) same
    (placed tables m.at next.first.projection (λ p. HasFour m.level p.containers) next.first.there (four _ next.level.1))

-- ---- a refresh

found_at : {X : Type 0} (p : X → Bool) (xs : List X) (j : ℕ) → position p xs ≡ Some j → (x : X) × (slice_get xs j ≡ Some x) × (p x ≡ true)
found_at p [] j is = absurd (cc)
found_at {X} p (y ∷ xs) j is = by (nat_lt (position_or_len p (y ∷ xs)) (length (y ∷ xs))) refl is
  where
    by : (b : Bool) → nat_lt (position_or_len p (y ∷ xs)) (length (y ∷ xs)) ≡ b → cond b (Some (position_or_len p (y ∷ xs))) None ≡ Some j → (x : X) × (slice_get (y ∷ xs) j ≡ Some x) × (p x ≡ true)
    by true lt is =
        let within : position_or_len p (y ∷ xs) < length (y ∷ xs) = grind (arith, nat_tests, lt) in
        let same : position_or_len p (y ∷ xs) ≡ j = cc in
        subst (λ (k : ℕ). (x : X) × (slice_get (y ∷ xs) k ≡ Some x) × (p x ≡ true)) same
        (get_or (y ∷ xs) (position_or_len p (y ∷ xs)) y, got (y ∷ xs) (position_or_len p (y ∷ xs)) y within, passes_at_first p (y ∷ xs) y within)
    by false lt is = absurd (cc)

not_true : (b : Bool) → not b ≡ true → b ≡ false
not_true true is = absurd (cc)
not_true false is = refl

on_false : (b : Bool) (X : Type 0) → OnFalse b X → b ≡ false → X
on_false true X holds is = absurd (cc)
on_false false X holds is = holds

abbrev IsBare : Projection → Type 0
IsBare p = (p.fresh ≡ false) × (length p.containers ≡ 0)

stale_bare : (c : Catalogue) → IsValid c → (i : ℕ) (o : Option ℕ) → stale_place i c.tables ≡ o → IfSome o (λ j. OfProjection i j c IsBare)
stale_bare c valid i None is = tt
stale_bare c valid i (Some j) is = by (slice_get c.tables i) refl is
  where
    by : (o : Option kept.Table) → slice_get c.tables i ≡ o → option_and_then (λ t. position (λ p. not p.fresh) t.projections) o ≡ Some j → IsSomeAnd o (λ t. IsSomeAnd (slice_get t.projections j) IsBare)
    by None at none = absurd (cc)
    by (Some t) at place =
        let (p, p_is, stale) = found_at (λ q. not q.fresh) t.projections j place in
        let table : IsTable c t = all_at (IsTable c) c.tables i t valid.tables at in
        let one : IsProjection c t p = all_at (IsProjection c t) t.projections j p table.projections p_is in
        let off : p.fresh ≡ false = not_true p.fresh stale in
        let bare = on_false p.fresh ((p.lge ≡ 0) × (p.born ≡ 0) × (length p.containers ≡ 0)) one.stale off in
        is_some_and (slice_get t.projections j) IsBare p p_is (off, bare.2)

weaker_and : {X : Type 0} (o : Option X) (P Q : X → Type 0) → ((x : X) → P x → Q x) → IsSomeAnd o P → IsSomeAnd o Q
weaker_and None P Q h is = is
weaker_and (Some x) P Q h is = h x is

pub of_weaker : (i j : ℕ) (c : Catalogue) (P Q : Projection → Type 0) → ((p : Projection) → P p → Q p) → OfProjection i j c P → OfProjection i j c Q
of_weaker i j c P Q h is =
    weaker_and (slice_get c.tables i) (λ t. IsSomeAnd (slice_get t.projections j) P) (λ t. IsSomeAnd (slice_get t.projections j) Q) (λ t there. weaker_and (slice_get t.projections j) P Q h there) is

if_weaker : {X : Type 0} (o : Option X) (P Q : X → Type 0) → ((x : X) → P x → Q x) → IfSome o P → IfSome o Q
if_weaker None P Q h is = tt
if_weaker (Some x) P Q h is = h x is

abbrev OfTables : ℕ → ℕ → (Projection → Type 0) → List kept.Table → Type 0
OfTables i j P tables = IsSomeAnd (slice_get tables i) (λ t. IsSomeAnd (slice_get t.projections j) P)

pub stale_fresh : (root c : Catalogue) → IsValid root → root.tables ≡ c.tables → (i : ℕ) (o : Option ℕ) → o ≡ stale_place i root.tables → IfSome o (λ j. OfProjection i j c (λ p. p.fresh ≡ false))
stale_fresh root c valid same i o is =
    if_weaker o (λ j. OfProjection i j root IsBare) (λ j. OfProjection i j c (λ p. p.fresh ≡ false))
    (λ j bare. subst (OfTables i j (λ p. p.fresh ≡ false)) same (of_weaker i j root IsBare (λ p. p.fresh ≡ false) (λ p both. both.0) bare)) (stale_bare root valid i o (sym is))

pub stale_empty : (root c : Catalogue) → IsValid root → root.tables ≡ c.tables → (i : ℕ) (o : Option ℕ) → o ≡ stale_place i root.tables → IfSome o (λ j. OfProjection i j c (λ p. length p.containers ≡ 0))
stale_empty root c valid same i o is =
    if_weaker o (λ j. OfProjection i j root IsBare) (λ j. OfProjection i j c (λ p. length p.containers ≡ 0))
    (λ j bare. subst (OfTables i j (λ p. length p.containers ≡ 0)) same (of_weaker i j root IsBare (λ p. length p.containers ≡ 0) (λ p both. both.1) bare)) (stale_bare root valid i o (sym is))

-- no table has more than 16 projections
pub places_fit : (c : Catalogue) → IsValid c → All (λ t. length t.projections ≤ 16) c.tables
places_fit c valid = All-weaker (IsTable c) (λ t. length t.projections ≤ 16) (λ t is. is.projections_most) c.tables valid.tables

pub stale_seen : (root c : Catalogue) → root.tables ≡ c.tables → (i : ℕ) (o : Option ℕ) → o ≡ stale_place i root.tables → o ≡ stale_place i c.tables
stale_seen root c same i o is = is ∙ ap (stale_place i) same

-- a projection that is up to date was found at a place
pub purged_fresh : (tables : List kept.Table) (stores : List (List Projected)) (at : Place) (p : Projection) (gone : Bool) → map (λ ps. map (λ q. q.entry) ps) stores ≡ map (λ t. t.projections) tables → Some p ≡ projection_at tables at → p.fresh ≡ true
    → OnTrue gone (IsFreshAt stores at.table at.place)
purged_fresh tables stores at p true entries there fresh = fresh_at tables stores at p entries (sym there) fresh
purged_fresh tables stores at p false entries there fresh = tt
