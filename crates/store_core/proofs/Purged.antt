-- What a purge of a table leaves, projection by projection.
use Rattle.std.proofs.Common.{◌≡◌, ◌<◌, ◌≤◌, ◌+◌, ℕ, zero, suc, nat_lt, Bool, true, false, List, [], ◌∷◌, length, map, get_or, refl, sym, ◌∙◌, ap, subst, inl, inr, arith}
use Rattle.std.specs.Prelude.{◌↔◌, ◌⊎◌, Option, Some, None, IfSome, IsSomeAnd, IsTrue, option_and_then}
use Rattle.std.specs.Option.{option_map}
use Rattle.std.specs.List.{All, slice_get}
use Rattle.std.proofs.lemmas.Bool.Decides.{nat_tests}
use Rattle.std.proofs.lemmas.List.{length-map}
use Rattle.std.proofs.lemmas.Option.{slice_get-get_or, slice_get-map, slice_get_past}
use Rattle.catalog_types.specs.declared.catalogue.Projection.{Projection}
use Rattle.catalog_types.specs.declared.catalogue.Table as kept
use Rattle.proj_store.specs.Loaded.{Loaded}
use Rattle.sound_laws.specs.Moves.{change_at}
use Rattle.stored_rows.specs.Stored.{Projected}
use Rattle.table_jobs.specs.Purged.{IsKeptWholeAt, OthersStay}
use Rattle.table_jobs.specs.Purging.{IsKeptWhole}
use Rattle.table_store.specs.Held.{projections_of}
use Rattle.table_store.specs.Moving.{IsFreshAt}
use Rattle.store_core.specs.Jobs.{ArePurged}
use Rattle.store_core.specs.Running.{Running}
use Rattle.store_core.proofs.Anew.{all_at, changed_at, mapped_some, some_and}

-- ---- whether the projection at a place is up to date

abbrev IsFresh : Projected → Type 0
IsFresh p = p.entry.fresh ≡ true

abbrev IsFreshIn : ℕ → List Projected → Type 0
IsFreshIn j ps = IsSomeAnd (slice_get ps j) IsFresh

pub fresh_in : (j : ℕ) (ps : List Loaded) (p : Loaded) (answer : Bool) → j < length ps → p ≡ get_or ps j p → answer ≡ p.stored.entry.fresh → IsTrue answer ↔ IsFreshIn j (projections_of ps)
fresh_in j ps p answer lt is same = (
  (λ yes. subst (λ (o : Option Projected). IsSomeAnd o IsFresh) (sym here) (sym same ∙ yes)),
  (λ there. same ∙ subst (λ (o : Option Projected). IsSomeAnd o IsFresh) here there),
)
  where
    here : slice_get (projections_of ps) j ≡ Some p.stored
    here = slice_get-map (λ (x : Loaded). x.stored) ps j ∙ ap (option_map (λ (x : Loaded). x.stored)) (slice_get-get_or ps j p lt ∙ ap (λ (x : Loaded). Some x) (sym is))

pub no_fresh_in : (j : ℕ) (ps : List Loaded) → length ps ≤ j → IsTrue false ↔ IsFreshIn j (projections_of ps)
no_fresh_in j ps past = ((λ yes. absurd (cc)), (λ there. absurd (subst (λ (o : Option Projected). IsSomeAnd o IsFresh) none there)))
  where
    none : slice_get (projections_of ps) j ≡ None
    none = slice_get_past (projections_of ps) j (omega (arith, past, length-map ps (λ (x : Loaded). x.stored)))

pub fresh_at : (i j : ℕ) (ts : List (List Loaded)) (stores : List (List Projected)) (ps qs : List Loaded) (answer : Bool) → map projections_of ts ≡ stores → i < length ts → ps ≡ get_or ts i ps → qs ≡ ps
    → IsTrue answer ↔ IsFreshIn j (projections_of qs) → IsTrue answer ↔ IsFreshAt stores i j
fresh_at i j ts stores ps qs answer are lt is same both = (
  (λ yes. subst (λ (o : Option (List Projected)). IsSomeAnd o (IsFreshIn j)) (sym here) (both.0 yes)),
  (λ there. both.1 (subst (λ (o : Option (List Projected)). IsSomeAnd o (IsFreshIn j)) here there)),
)
  where
    one : slice_get ts i ≡ Some qs
    one = slice_get-get_or ts i ps lt ∙ ap (λ (xs : List Loaded). Some xs) (sym is ∙ sym same)

    here : slice_get stores i ≡ Some (projections_of qs)
    here = subst (λ (ss : List (List Projected)). slice_get ss i ≡ Some (projections_of qs)) are (slice_get-map projections_of ts i ∙ ap (option_map projections_of) one)

pub no_fresh_at : (i j : ℕ) (ts : List (List Loaded)) (stores : List (List Projected)) → map projections_of ts ≡ stores → length ts ≤ i → IsTrue false ↔ IsFreshAt stores i j
no_fresh_at i j ts stores are past = ((λ yes. absurd (cc)), (λ there. absurd (subst (λ (o : Option (List Projected)). IsSomeAnd o (IsFreshIn j)) none there)))
  where
    none : slice_get stores i ≡ None
    none = subst (λ (ss : List (List Projected)). slice_get ss i ≡ None) are (slice_get_past (map projections_of ts) i (omega (arith, past, length-map ts projections_of)))

abbrev entries_of : List Projected → List Projection
entries_of ps = map (λ p. p.entry) ps

-- a table has at most 16 projections
pub none_past : (stores : List (List Projected)) (ts : List kept.Table) (i j : ℕ) → map entries_of stores ≡ map (λ t. t.projections) ts → All (λ t. length t.projections ≤ 16) ts → 16 ≤ j → IsFreshAt stores i j → ⊥
none_past stores ts i j entries few le fresh =
    let (ps, ps_at, inner) = some_and (slice_get stores i) (IsFreshIn j) fresh in
    let (p, p_at, is) = some_and (slice_get ps j) IsFresh inner in
    let here : slice_get (map (λ (t : kept.Table). t.projections) ts) i ≡ Some (entries_of ps) =
    ap (λ (es : List (List Projection)). slice_get es i) (sym entries) ∙ slice_get-map entries_of stores i ∙ ap (option_map entries_of) ps_at in
    let (t, t_at, same) = mapped_some (λ (t : kept.Table). t.projections) (slice_get ts i) (entries_of ps) (sym (slice_get-map (λ (t : kept.Table). t.projections) ts i) ∙ here) in
    let most : length t.projections ≤ 16 = all_at (λ (u : kept.Table). length u.projections ≤ 16) ts i t few t_at in
    let long : length t.projections ≡ length ps = ap length same ∙ length-map ps (λ (x : Projected). x.entry) in
    let past : slice_get ps j ≡ None = slice_get_past ps j (omega (arith, most, long, le)) in
    let never : Some p ≡ None = sym p_at ∙ past in
    absurd (cc)

-- ---- the projections before a place have no such row

abbrev pub PurgedTo : ℕ → ℕ → Running → Type 0
PurgedTo i place r = (j : ℕ) → j < place → IsFreshAt r.seen.stores i j → IsKeptWholeAt r.seen.catalogue.ahm i j r.seen.stores

before_or_at : (j place : ℕ) → j < place + 1 → (j < place) ⊎ (j ≡ place)
before_or_at j place lt = by (nat_lt j place) refl
  where
    by : (b : Bool) → nat_lt j place ≡ b → (j < place) ⊎ (j ≡ place)
    by true at = inl (grind (arith, nat_tests))
    by false at = inr (grind (arith, nat_tests))

pub purged_none : (i : ℕ) (r : Running) → PurgedTo i 0 r
purged_none i r j lt fresh = absurd (omega (arith, lt))

with_one : (i place : ℕ) (r : Running) → PurgedTo i place r → (IsFreshAt r.seen.stores i place → IsKeptWholeAt r.seen.catalogue.ahm i place r.seen.stores) → (j : ℕ) → (j < place) ⊎ (j ≡ place) → IsFreshAt r.seen.stores i j
    → IsKeptWholeAt r.seen.catalogue.ahm i j r.seen.stores
with_one i place r before here j (inl lt) fresh = before j lt fresh
with_one i place r before here j (inr is) fresh =
    subst (λ (k : ℕ). IsKeptWholeAt r.seen.catalogue.ahm i k r.seen.stores) (sym is) (here (subst (λ (k : ℕ). IsFreshAt r.seen.stores i k) is fresh))

-- one that has none
pub purged_on : (i place : ℕ) (r : Running) → PurgedTo i place r → (IsFreshAt r.seen.stores i place → IsKeptWholeAt r.seen.catalogue.ahm i place r.seen.stores) → PurgedTo i (place + 1) r
purged_on i place r before here j lt fresh = with_one i place r before here j (before_or_at j place lt) fresh

other_at : {X : Type 0} (f : X → X) (xs : List X) (k j : ℕ) → j < k → slice_get (change_at k f xs) j ≡ slice_get xs j
other_at f [] k j lt = refl
other_at f (x ∷ xs) zero j lt = absurd (omega (arith, lt))
other_at f (x ∷ xs) (suc k) zero lt = refl
other_at f (x ∷ xs) (suc k) (suc j) lt = other_at f xs k j (omega (arith, lt))

abbrev at_both : List (List Projected) → ℕ → ℕ → Option Projected
at_both stores i j = option_and_then (λ ps. slice_get ps j) (slice_get stores i)

some_at : (o : Option (List Projected)) (j : ℕ) (P : Projected → Type 0) → IsSomeAnd o (λ ps. IsSomeAnd (slice_get ps j) P) → IsSomeAnd (option_and_then (λ ps. slice_get ps j) o) P
some_at None j P there = there
some_at (Some ps) j P there = there

at_some : (o : Option (List Projected)) (j : ℕ) (P : Projected → Type 0) → IsSomeAnd (option_and_then (λ ps. slice_get ps j) o) P → IsSomeAnd o (λ ps. IsSomeAnd (slice_get ps j) P)
at_some None j P there = there
at_some (Some ps) j P there = there

where_at : (o : Option (List Projected)) (j : ℕ) (P : Projected → Type 0) → IfSome o (λ ps. IfSome (slice_get ps j) P) → IfSome (option_and_then (λ ps. slice_get ps j) o) P
where_at None j P there = there
where_at (Some ps) j P there = there

at_where : (o : Option (List Projected)) (j : ℕ) (P : Projected → Type 0) → IfSome (option_and_then (λ ps. slice_get ps j) o) P → IfSome o (λ ps. IfSome (slice_get ps j) P)
at_where None j P there = there
at_where (Some ps) j P there = there

others_at : (i k j : ℕ) (old new : List (List Projected)) → j < k → OthersStay i k old new → at_both new i j ≡ at_both old i j
others_at i k j old new lt (p, is) =
    let change : List Projected → List Projected = change_at k (λ (q : Projected). p) in
    ap (λ (ss : List (List Projected)). at_both ss i j) is ∙ ap (option_and_then (λ (ps : List Projected). slice_get ps j)) (changed_at change old i) ∙ by (slice_get old i)
  where
    by : (o : Option (List Projected)) → option_and_then (λ (ps : List Projected). slice_get ps j) (option_map (change_at k (λ (q : Projected). p)) o) ≡ option_and_then (λ (ps : List Projected). slice_get ps j) o
    by None = refl
    by (Some ps) = other_at (λ (q : Projected). p) ps k j lt

-- one that was purged
pub purged_more : (i place : ℕ) (was is : Running) → PurgedTo i place was → OthersStay i place was.seen.stores is.seen.stores → is.seen.catalogue.ahm ≡ was.seen.catalogue.ahm
    → IsKeptWholeAt is.seen.catalogue.ahm i place is.seen.stores → PurgedTo i (place + 1) is
purged_more i place was is before others mark here = purged_on i place is earlier (λ fresh. here)
  where
    earlier : PurgedTo i place is
    earlier j lt fresh =
        let same : at_both is.seen.stores i j ≡ at_both was.seen.stores i j = others_at i place j was.seen.stores is.seen.stores lt others in
        let then : IsFreshAt was.seen.stores i j =
        at_some (slice_get was.seen.stores i) j IsFresh (subst (λ (o : Option Projected). IsSomeAnd o IsFresh) same (some_at (slice_get is.seen.stores i) j IsFresh fresh)) in
        let whole : IfSome (at_both was.seen.stores i j) (IsKeptWhole was.seen.catalogue.ahm) = where_at (slice_get was.seen.stores i) j (IsKeptWhole was.seen.catalogue.ahm) (before j lt then) in
        at_where (slice_get is.seen.stores i) j (IsKeptWhole is.seen.catalogue.ahm)
        (subst (λ (n : ℕ). IfSome (at_both is.seen.stores i j) (IsKeptWhole n)) (sym mark) (subst (λ (o : Option Projected). IfSome o (IsKeptWhole was.seen.catalogue.ahm)) (sym same) whole))

-- all of them
pub purged_all : (i place : ℕ) (r : Running) → 16 ≤ place → PurgedTo i place r → ((k j : ℕ) → 16 ≤ j → IsFreshAt r.seen.stores k j → ⊥) → ArePurged i r
purged_all i place r most before none j fresh = by (nat_lt j place) refl
  where
    by : (b : Bool) → nat_lt j place ≡ b → IsKeptWholeAt r.seen.catalogue.ahm i j r.seen.stores
    by true at = before j (grind (arith, nat_tests)) fresh
    by false at = let past : 16 ≤ j = grind (arith, nat_tests) in absurd (none i j past fresh)
