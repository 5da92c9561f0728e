-- A catalogue in which one projection has another entry, with its containers.
use Rattle.std.proofs.Common.{◌≡◌, ◌<◌, ◌≤◌, ◌+◌, ◌*◌, ℕ, zero, suc, List, [], ◌∷◌, length, refl, sym, ◌∙◌, ap, subst, arith}
use Rattle.std.specs.Prelude.{Option, Some, None, Result, OnOk, option_map, IsSomeAnd}
use Rattle.std.specs.List.{All, slice_get}
use Rattle.std.proofs.Math.Nat.{le-mul_of_pos_right}
use Rattle.std.proofs.lemmas.List.{length-append}
use Rattle.std.proofs.lemmas.List.Concat.{flat_map-cons}
use Rattle.std.proofs.lemmas.List.Elements.{All-head, All-tail, All-weaker}
use Rattle.std.proofs.lemmas.Result.{on_ok_weaker}
use Rattle.catalog_types.specs.declared.catalogue.Catalogue.{Catalogue}
use Rattle.catalog_types.specs.declared.catalogue.Projection.{Projection}
use Rattle.catalog_types.specs.declared.catalogue.Table as kept
use Rattle.db_model.specs.State.{State}
use Rattle.mover_policy.specs.First.{all_projections}
use Rattle.sound_laws.specs.Moves.{change_at}
use Rattle.store_commit.specs.Seen.{Seen}
use Rattle.table_jobs.specs.Jobs.{DrawsAnew, DrawsMerged, OfProjection}
use Rattle.table_store.specs.Drawing.{FewContainers}
use Rattle.table_store.specs.Moving.{with_entry}
use Rattle.store_core.proofs.Doing.{Grown}
use Rattle.store_core.proofs.Placed.{all_change}
use Rattle.store_core.proofs.Worked.{Steps}

-- ---- what stands at a place

pub all_at : {X : Type 0} (P : X → Type 0) (xs : List X) (i : ℕ) (x : X) → All P xs → slice_get xs i ≡ Some x → P x
all_at P [] i x all none = absurd (cc)
all_at P (y ∷ xs) zero x all is = let same : y ≡ x = cc in subst P same (All-head P y xs all)
all_at P (y ∷ xs) (suc i) x all is = all_at P xs i x (All-tail P y xs all) is

pub some_and : {X : Type 0} (o : Option X) (P : X → Type 0) → IsSomeAnd o P → (x : X) × (o ≡ Some x) × P x
some_and None P is = absurd is
some_and (Some x) P is = (x, refl, is)

pub is_some_and : {X : Type 0} (o : Option X) (P : X → Type 0) (x : X) → o ≡ Some x → P x → IsSomeAnd o P
is_some_and o P x is holds = subst (λ (q : Option _). IsSomeAnd q P) (sym is) holds

pub record StandsIn (i j : ℕ) (c : Catalogue) (t : kept.Table) (p : Projection) : Type 0 where
  pub table : slice_get c.tables i ≡ Some t
  pub place : slice_get t.projections j ≡ Some p

pub of_projection : (i j : ℕ) (c : Catalogue) (P : Projection → Type 0) → OfProjection i j c P → (t : kept.Table) × (p : Projection) × StandsIn i j c t p × P p
of_projection i j c P there =
    let (t, t_is, inner) = some_and (slice_get c.tables i) (λ u. IsSomeAnd (slice_get u.projections j) P) there in
    let (p, p_is, holds) = some_and (slice_get t.projections j) P inner in
    (t, p, record { table = t_is; place = p_is }, holds)

pub same_projection : (i j : ℕ) (c : Catalogue) (t u : kept.Table) (p q : Projection) → StandsIn i j c t p → StandsIn i j c u q → p ≡ q
same_projection i j c t u p q one two =
    let tables : Some t ≡ Some u = sym one.table ∙ two.table in
    let same : t ≡ u = cc in
    let both : Some p ≡ Some q = sym one.place ∙ ap (λ (x : kept.Table). slice_get x.projections j) same ∙ two.place in
    cc

pub few_at : (most i j : ℕ) (c : Catalogue) (t : kept.Table) (p : Projection) → FewContainers most c → StandsIn i j c t p → length p.containers ≤ most
few_at most i j c t p few at =
    all_at (λ q. length q.containers ≤ most) t.projections j p (all_at (λ u. All (λ q. length q.containers ≤ most) u.projections) c.tables i t few at.table) at.place

few_change : (most i j : ℕ) (old new : Catalogue) (entry : Projection) → new.tables ≡ change_at i (with_entry j entry) old.tables → length entry.containers ≤ most → FewContainers most old → FewContainers most new
few_change most i j old new entry is le few =
    subst (All (λ t. All (λ p. length p.containers ≤ most) t.projections)) (sym is)
    (all_change (λ t. All (λ p. length p.containers ≤ most) t.projections) i (with_entry j entry) old.tables
    (λ t all. all_change (λ p. length p.containers ≤ most) j (λ p. entry) t.projections (λ p was. le) all) few)

pub few_more : (few more : ℕ) (c : Catalogue) → few ≤ more → FewContainers few c → FewContainers more c
few_more few more c le all =
    All-weaker (λ t. All (λ p. length p.containers ≤ few) t.projections) (λ t. All (λ p. length p.containers ≤ more) t.projections)
    (λ t. All-weaker (λ p. length p.containers ≤ few) (λ p. length p.containers ≤ more) (λ p was. omega (arith, was, le)) t.projections) c.tables all

-- ---- one job

abbrev pub IsAnew : ℕ → ℕ → ℕ → Catalogue → Catalogue → Type 0
IsAnew i j more old new = OfProjection i j old (DrawsAnew i j more old new)

pub anew_steps : (parts i j more : ℕ) (old new : Catalogue) → IsAnew i j more old new → FewContainers (parts + 2) old → Steps parts old new
anew_steps parts i j more old new anew few =
    let (t, p, at, draws) = of_projection i j old (DrawsAnew i j more old new) anew in
    let le = few_at (parts + 2) i j old t p few at in
    let from = draws.from in
    let upto = draws.upto in
    record { from = omega (arith, from); upto = omega (arith, upto, le) }

-- where the projection has no more than so many
pub anew_few : (most i j more : ℕ) (old new : Catalogue) → IsAnew i j more old new → ((t : kept.Table) (p : Projection) → StandsIn i j old t p → length p.containers + more ≤ most) → FewContainers most old → FewContainers most new
anew_few most i j more old new anew fits few =
    let (t, p, at, draws) = of_projection i j old (DrawsAnew i j more old new) anew in
    let le = fits t p at in
    let count = draws.count in
    few_change most i j old new draws.entry draws.tables (omega (arith, count, le)) few

anew_grown : (i j more : ℕ) (state : State) (was is : Seen) → more ≤ 2 → state.next ≡ was.catalogue.next → FewContainers state.parts was.catalogue → IsAnew i j more was.catalogue is.catalogue → Grown state is (state.parts + 2)
anew_grown i j more state was is most next few anew =
    let (t, p, at, draws) = of_projection i j was.catalogue (DrawsAnew i j more was.catalogue is.catalogue) anew in
    let le = few_at state.parts i j was.catalogue t p few at in
    let from = draws.from in
    let upto = draws.upto in
    let square : state.parts + 3 ≤ (state.parts + 3) * (state.parts + 3) = le-mul_of_pos_right {m = state.parts + 3} (state.parts + 3) (omega arith) in
    record {
      from = omega (arith, from, next);
      upto = within is.catalogue.next was.catalogue.next (length p.containers) ((state.parts + 3) * (state.parts + 3)) next upto le square;
      few =
          anew_few (state.parts + 2) i j more was.catalogue is.catalogue anew
          (λ u q there. let small = few_at state.parts i j was.catalogue u q few there in omega (arith, small, most)) (few_more state.parts (state.parts + 2) was.catalogue (omega arith) few);
      most = omega arith;
    }
  where
    within : (n w k s : ℕ) → state.next ≡ w → n ≤ w + (k + 2) * 131 + 1 → k ≤ state.parts → state.parts + 3 ≤ s → n ≤ state.next + 4194304 * s
    within n w k s one two three four = omega (arith, one, two, three, four)

pub grown_anew : {F : Type 0} (result : Result (Unit {0}) F) (i j more : ℕ) (state : State) (was is : Seen) → more ≤ 2 → state.next ≡ was.catalogue.next → FewContainers state.parts was.catalogue → OnOk result (IsAnew i j more was.catalogue is.catalogue)
    → OnOk result (Grown state is (state.parts + 2))
grown_anew result i j more state was is most next few draws = on_ok_weaker result (λ anew. anew_grown i j more state was is most next few anew) draws

-- ---- merges: how many containers there are

abbrev pub parts_in : List Projection → ℕ
parts_in [] = 0
parts_in (p ∷ ps) = length p.containers + parts_in ps

abbrev pub parts_of : List kept.Table → ℕ
parts_of [] = 0
parts_of (t ∷ ts) = parts_in t.projections + parts_of ts

fewer_in : (entry : Projection) (ps : List Projection) (j : ℕ) (p : Projection) → slice_get ps j ≡ Some p → length entry.containers + 2 ≤ length p.containers → parts_in (change_at j (λ q. entry) ps) + 2 ≤ parts_in ps
fewer_in entry [] j p none less = absurd (cc)
fewer_in entry (q ∷ ps) zero p is less =
    let same : q ≡ p = cc in
    let here : length entry.containers + 2 ≤ length q.containers = subst (λ (x : Projection). length entry.containers + 2 ≤ length x.containers) (sym same) less in
    omega (arith, here)
fewer_in entry (q ∷ ps) (suc j) p is less = let rest = fewer_in entry ps j p is less in omega (arith, rest)

fewer_of : (entry : Projection) (ts : List kept.Table) (i j : ℕ) (t : kept.Table) (p : Projection) → slice_get ts i ≡ Some t → slice_get t.projections j ≡ Some p → length entry.containers + 2 ≤ length p.containers
    → parts_of (change_at i (with_entry j entry) ts) + 2 ≤ parts_of ts
fewer_of entry [] i j t p none at less = absurd (cc)
fewer_of entry (u ∷ ts) zero j t p is at less =
    let same : u ≡ t = cc in
    let here = fewer_in entry u.projections j p (ap (λ (x : kept.Table). slice_get x.projections j) same ∙ at) less in
    omega (arith, here)
fewer_of entry (u ∷ ts) (suc i) j t p is at less = let rest = fewer_of entry ts i j t p is at less in omega (arith, rest)

abbrev pub IsMerged : ℕ → ℕ → Catalogue → Catalogue → Type 0
IsMerged i j old new = OfProjection i j old (DrawsMerged i j old new)

pub merged_fewer : (i j : ℕ) (old new : Catalogue) → IsMerged i j old new → parts_of new.tables + 2 ≤ parts_of old.tables
merged_fewer i j old new merged =
    let (t, p, at, draws) = of_projection i j old (DrawsMerged i j old new) merged in
    subst (λ (ts : List kept.Table). parts_of ts + 2 ≤ parts_of old.tables) (sym draws.draws.tables) (fewer_of draws.draws.entry old.tables i j t p at.table at.place draws.less)

pub merged_anew : (i j : ℕ) (old new : Catalogue) → IsMerged i j old new → IsAnew i j 0 old new
merged_anew i j old new merged =
    let (t, p, at, draws) = of_projection i j old (DrawsMerged i j old new) merged in
    is_some_and (slice_get old.tables i) (λ u. IsSomeAnd (slice_get u.projections j) (DrawsAnew i j 0 old new)) t at.table
    (is_some_and (slice_get t.projections j) (DrawsAnew i j 0 old new) p at.place draws.draws)

times_more : (n m k : ℕ) → (n + m) * k ≡ n * k + m * k
times_more n m k = grind arith

most_in : (parts : ℕ) (ps : List Projection) → All (λ p. length p.containers ≤ parts) ps → parts_in ps ≤ length ps * parts
most_in parts [] all = omega arith
most_in parts (p ∷ ps) all =
    let here = All-head (λ q. length q.containers ≤ parts) p ps all in
    let rest = most_in parts ps (All-tail (λ q. length q.containers ≤ parts) p ps all) in
    joined (length p.containers) (parts_in ps) (length ps * parts) (length (p ∷ ps) * parts) here rest (ap (λ (n : ℕ). n * parts) one_and ∙ times_more 1 (length ps) parts)
  where
    one_and : length (p ∷ ps) ≡ 1 + length ps
    one_and = omega arith

    joined : (a b c d : ℕ) → a ≤ parts → b ≤ c → d ≡ 1 * parts + c → a + b ≤ d
    joined a b c d one two three = omega (arith, one, two, three)

pub most_of : (parts : ℕ) (ts : List kept.Table) → All (λ t. All (λ p. length p.containers ≤ parts) t.projections) ts → parts_of ts ≤ length (all_projections ts) * parts
most_of parts [] all = omega arith
most_of parts (t ∷ ts) all =
    let here = most_in parts t.projections (All-head (λ u. All (λ p. length p.containers ≤ parts) u.projections) t ts all) in
    let rest = most_of parts ts (All-tail (λ u. All (λ p. length p.containers ≤ parts) u.projections) t ts all) in
    joined (parts_in t.projections) (parts_of ts) (length t.projections * parts) (length (all_projections ts) * parts) (length (all_projections (t ∷ ts)) * parts) here rest
    (ap (λ (n : ℕ). n * parts) (ap length (flat_map-cons (λ (u : kept.Table). u.projections) t ts) ∙ length-append t.projections (all_projections ts)) ∙ times_more (length t.projections) (length (all_projections ts)) parts)
  where
    joined : (a b c d e : ℕ) → a ≤ c → b ≤ d → e ≡ c + d → a + b ≤ e
    joined a b c d e one two three = omega (arith, one, two, three)

pub most_parts : (parts n k : ℕ) → k ≤ n * parts → n ≤ 16384 → k ≤ 16384 * parts
most_parts parts n k le most = joined (n * parts) (16384 * parts) le (times n 16384 parts most)
  where
    times : (a b c : ℕ) → a ≤ b → a * c ≤ b * c
    times a b c le = grind (arith, le)

    joined : (a b : ℕ) → k ≤ a → a ≤ b → k ≤ b
    joined a b one two = omega (arith, one, two)

-- ---- purges: the later projections of a table have no more containers than before

abbrev pub FewFrom : ℕ → ℕ → ℕ → Catalogue → Type 0
FewFrom parts i place c = (t : kept.Table) (p : Projection) (j : ℕ) → StandsIn i j c t p → place ≤ j → length p.containers ≤ parts

pub few_from : (parts i : ℕ) (c : Catalogue) → FewContainers parts c → FewFrom parts i 0 c
few_from parts i c few = λ t p j at le. few_at parts i j c t p few at

pub changed_at : {X : Type 0} (f : X → X) (xs : List X) (i : ℕ) → slice_get (change_at i f xs) i ≡ option_map f (slice_get xs i)
changed_at f [] zero = refl
changed_at f [] (suc i) = refl
changed_at f (x ∷ xs) zero = refl
changed_at f (x ∷ xs) (suc i) = changed_at f xs i

later_at : {X : Type 0} (f : X → X) (xs : List X) (i j : ℕ) → i < j → slice_get (change_at i f xs) j ≡ slice_get xs j
later_at f [] i j lt = refl
later_at f (x ∷ xs) zero zero lt = absurd (omega (arith, lt))
later_at f (x ∷ xs) zero (suc j) lt = refl
later_at f (x ∷ xs) (suc i) zero lt = absurd (omega (arith, lt))
later_at f (x ∷ xs) (suc i) (suc j) lt = later_at f xs i j (omega (arith, lt))

pub mapped_some : {X Y : Type 0} (f : X → Y) (o : Option X) (y : Y) → option_map f o ≡ Some y → (x : X) × (o ≡ Some x) × (f x ≡ y)
mapped_some f None y is = absurd (cc)
mapped_some f (Some x) y is = (x, refl, cc)

pub few_later : (parts i place more : ℕ) (old new : Catalogue) → IsAnew i place more old new → FewFrom parts i place old → FewFrom parts i (place + 1) new
few_later parts i place more old new anew few t p j at le =
    let (u, q, was, draws) = of_projection i place old (DrawsAnew i place more old new) anew in
    let there : option_map (with_entry place draws.entry) (slice_get old.tables i) ≡ Some t = sym (changed_at (with_entry place draws.entry) old.tables i) ∙ ap (λ (ts : List kept.Table). slice_get ts i) (sym draws.tables) ∙ at.table in
    let (v, v_is, v_made) = mapped_some (with_entry place draws.entry) (slice_get old.tables i) t there in
    let same : slice_get v.projections j ≡ Some p =
    sym (later_at (λ r. draws.entry) v.projections place j (omega (arith, le))) ∙ ap (λ (x : kept.Table). slice_get x.projections j) v_made ∙ at.place in
    few v p j (record { table = v_is; place = same }) (omega (arith, le))

pub few_on : (parts i place : ℕ) (c : Catalogue) → FewFrom parts i place c → FewFrom parts i (place + 1) c
few_on parts i place c few = λ t p j at le. few t p j at (omega (arith, le))
