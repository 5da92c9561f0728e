-- What an event draws.
use Rattle.std.proofs.Common.{◌≡◌, ℕ, zero, suc, ◌+◌, ◌*◌, ◌<◌, ◌≤◌, Bool, ◌||◌, true, false, List, [], ◌∷◌, length, map, get_or, drop, take, refl, sym, ◌∙◌, ap, subst, arith}
use Rattle.std.specs.Prelude.{◌≢◌, Option, Some, None, IfSome, IsSomeAnd}
use Rattle.std.specs.List.{All, AllByRecursion, IsDistinct, list_any, slice_get}
use Rattle.std.proofs.lemmas.Bool.{eqb-true, ne_eqb}
use Rattle.std.proofs.lemmas.List.{get_or-map, get_or_default, length-map}
use Rattle.std.proofs.lemmas.List.Elements.{All-append, All-cons, All-drop, All-head, All-nil, All-tail, All-take, All-weaker}
use Rattle.std.proofs.lemmas.Map.Keys.{IsDistinct-cons, IsDistinct-from_apart}
use Rattle.std.proofs.lemmas.Map.Steps.{length-le_from_distinct_below}
use Rattle.std.proofs.Math.Dec.{eqb}
use Rattle.std.proofs.Math.Nat.{le-mul_of_pos_right}
use Rattle.col_value.specs.declared.column.Column.{Column}
use Rattle.catalog_types.specs.declared.catalogue.ProjColumn.{ProjColumn}
use Rattle.catalog_types.specs.declared.catalogue.Projection.{Projection}
use Rattle.catalog_types.specs.declared.catalogue.Table as kept
use Rattle.catalog_types.specs.declared.catalogue.Catalogue.{Catalogue}
use Rattle.catalog_types.specs.Lists.{Pairwise}
use Rattle.catalog_types.specs.Parts.{FitsColumn, IsProjColumn, IsProjection, takes_kind}
use Rattle.catalog_types.specs.Valid.{IsValid}
use Rattle.db_model.specs.Numbers.{most_drawn}
use Rattle.stored_rows.specs.Stored.{Projected}
use Rattle.proj_store.specs.Loaded.{Loaded}
use Rattle.sound_laws.specs.Moves.{change_at}
use Rattle.db_model.specs.Database.{super_name}
use Rattle.table_store.specs.Creating.{first_entry, first_table, with_table, without_table, with_mark}
use Rattle.table_store.specs.Drawing.{Draws, DrawsEntry, DrawsJob, DrawsOne, FewContainers}
use Rattle.table_store.specs.Held.{at_epoch, projections_of, IsHeld}
use Rattle.table_store.specs.Moving.{with_entry, with_entry_at}
use Rattle.table_store.proofs.Moved.{entry_at, is_at, stored_at}

-- ---- a table that comes or goes

abbrev HasFew : ℕ → Projection → Type 0
HasFew most p = length p.containers ≤ most

abbrev IsSmall : ℕ → kept.Table → Type 0
IsSmall most t = All (HasFew most) t.projections

pub create_draws : (root c : Catalogue) (last place : ℕ) (name : List ℕ) (columns : List Column) → c ≡ with_table last place (first_table name columns last) root → DrawsOne root c
create_draws root c last place name columns is = subst (DrawsOne root) (sym is) (record { next = refl; few = few })
  where
    few : (most : ℕ) → FewContainers most root → FewContainers most (with_table last place (first_table name columns last) root)
    few most all =
        All-append (IsSmall most) (take place root.tables) (first_table name columns last ∷ drop place root.tables) (All-take (IsSmall most) place root.tables all)
        (All-cons (IsSmall most) (first_table name columns last) (drop place root.tables)
        (All-cons (HasFew most) (first_entry (super_name name) columns last) [] (omega arith) (All-nil (HasFew most))) (All-drop (IsSmall most) place root.tables all))

pub drop_draws : (root c : Catalogue) (last place : ℕ) → c ≡ without_table last place root → DrawsOne root c
drop_draws root c last place is = subst (DrawsOne root) (sym is) (record {
  next = refl;
  few = λ most all.
      All-append (IsSmall most) (take place root.tables) (drop (suc place) root.tables) (All-take (IsSmall most) place root.tables all) (All-drop (IsSmall most) (suc place) root.tables all);
})

pub mark_draws : (root c : Catalogue) (last mark : ℕ) → c ≡ with_mark last mark root → DrawsOne root c
mark_draws root c last mark is = subst (DrawsOne root) (sym is) (record { next = refl; few = λ most all. all })

-- the catalogues with the newest epochs
pub one_drawn : (root c : Catalogue) (last after : ℕ) → DrawsOne root c → DrawsOne (at_epoch last root) (at_epoch after c)
one_drawn root c last after draws = record { next = draws.next; few = draws.few }

pub some_drawn : (root c : Catalogue) (last after : ℕ) → Draws root c → Draws (at_epoch last root) (at_epoch after c)
some_drawn root c last after draws = record { from = draws.from; upto = draws.upto; few = draws.few }

-- ---- a projection has as many columns as its table at most

ordinals_distinct : (ks : List ProjColumn) → Pairwise (λ k l. k.ordinal ≢ l.ordinal) ks → IsDistinct eqb (map (λ k. k.ordinal) ks)
ordinals_distinct [] apart = IsDistinct-from_apart eqb [] (λ i j d lt in_it. absurd (omega (arith, in_it)))
ordinals_distinct (k ∷ ks) (here, more) = IsDistinct-cons eqb k.ordinal (map (λ l. l.ordinal) ks) (each ks here) (ordinals_distinct ks more)
  where
    each : (ls : List ProjColumn) → All (λ l. k.ordinal ≢ l.ordinal) ls → AllByRecursion (λ n. eqb k.ordinal n ≡ false) (map (λ l. l.ordinal) ls)
    each [] all = tt
    each (l ∷ ls) all = (ne_eqb k.ordinal l.ordinal (All-head (λ m. k.ordinal ≢ m.ordinal) l ls all), each ls (All-tail (λ m. k.ordinal ≢ m.ordinal) l ls all))

pub place_within : {X : Type 0} (xs : List X) (i : ℕ) (P : X → Type 0) → IsSomeAnd (slice_get xs i) P → i < length xs
place_within [] i P is = absurd is
place_within (x ∷ xs) zero P is = omega arith
place_within (x ∷ xs) (suc i) P is = let below : i < length xs = place_within xs i P is in omega arith

columns_below : (columns : List Column) (ks : List ProjColumn) → All (IsProjColumn columns) ks → (q : ℕ) → list_any (eqb q) (map (λ k. k.ordinal) ks) ≡ true → q < length columns
columns_below columns [] all q found = absurd (cc)
columns_below columns (k ∷ ks) all q found = by (eqb q k.ordinal) refl (columns_below columns ks (All-tail (IsProjColumn columns) k ks all) q) found
  where
    by : (b : Bool) → eqb q k.ordinal ≡ b → (list_any (eqb q) (map (λ l. l.ordinal) ks) ≡ true → q < length columns) → (b || list_any (eqb q) (map (λ l. l.ordinal) ks)) ≡ true → q < length columns
    by true is behind there =
        let same : q ≡ k.ordinal = eqb-true q k.ordinal is in
        let within : k.ordinal < length columns = place_within columns k.ordinal (λ column. (takes_kind k.encoding column.kind ≡ true) × IfSome k.default (FitsColumn column)) (All-head (IsProjColumn columns) k ks all) in
        omega arith
    by false is behind there = behind there

pub columns_most : (c : Catalogue) (t : kept.Table) (p : Projection) → IsProjection c t p → length p.columns ≤ length t.columns
columns_most c t p is =
    let most : length (map (λ (k : ProjColumn). k.ordinal) p.columns) ≤ length t.columns =
    length-le_from_distinct_below (map (λ k. k.ordinal) p.columns) (length t.columns) (ordinals_distinct p.columns is.columns_once) (columns_below t.columns p.columns is.columns) in
    omega (arith, length-map p.columns (λ (k : ProjColumn). k.ordinal))

-- ---- a projection that is moved out

changed_all : {X : Type 0} (P Q : X → Type 0) (i : ℕ) (f : X → X) (xs : List X) → ((x : X) → P x → Q x) → ((x : X) → P x → Q (f x)) → All P xs → All Q (change_at i f xs)
changed_all P Q i f [] weaker change all = All-nil Q
changed_all P Q zero f (x ∷ xs) weaker change all = All-cons Q (f x) xs (change x (All-head P x xs all)) (All-weaker P Q weaker xs (All-tail P x xs all))
changed_all P Q (suc i) f (x ∷ xs) weaker change all = All-cons Q x (change_at i f xs) (weaker x (All-head P x xs all)) (changed_all P Q i f xs weaker change (All-tail P x xs all))

few_moved : (root : Catalogue) (last version i j most : ℕ) (entry : Projection) → length entry.containers ≤ most + 2 → FewContainers most root → FewContainers (most + 2) (with_entry_at last version i j entry root)
few_moved root last version i j most entry fits all =
    changed_all (IsSmall most) (IsSmall (most + 2)) i (with_entry j entry) root.tables (λ t small. All-weaker (HasFew most) (HasFew (most + 2)) more t.projections small)
    (λ t small. changed_all (HasFew most) (HasFew (most + 2)) j (λ p. entry) t.projections more (λ p few. fits) small) all
  where
    more : (p : Projection) → HasFew most p → HasFew (most + 2) p
    more p few = omega (arith, few)

drawn_few : (columns containers most next version : ℕ) → columns ≤ 64 → containers ≤ most → version ≤ next + 2 * (columns + 1) + 1 + containers → version + 1 ≤ next + most_drawn most
drawn_few columns containers most next version narrow few upto =
    let square : most + 3 ≤ (most + 3) * (most + 3) = le-mul_of_pos_right {m = most + 3} (most + 3) (omega arith) in
    omega arith

-- what stands at a place of the catalogue
pub entry_small : (root : Catalogue) (stores : List (List Projected)) (i j : ℕ) (parts : List Projected) (old : Projected) → IsValid root → map (λ ps. map (λ p. p.entry) ps) stores ≡ map (λ t. t.projections) root.tables
    → i < length stores → parts ≡ get_or stores i parts → j < length parts → old ≡ get_or parts j old
    → (length old.entry.columns ≤ 64) × ((most : ℕ) → FewContainers most root → length old.entry.containers ≤ most)
entry_small root stores i j parts old valid entries lt parts_are below old_is =
    let within : i < length root.tables = omega (arith, lt, sym (length-map stores (λ ps. map (λ p. p.entry) ps)) ∙ ap length entries ∙ length-map root.tables (λ t. t.projections)) in
    let blank : kept.Table = record { name = []; columns = []; projections = [] } in
    let t : kept.Table = get_or root.tables i blank in
    let here : map (λ p. p.entry) parts ≡ t.projections =
    ap (map (λ (p : Projected). p.entry)) parts_are ∙ sym (get_or-map (λ (ps : List Projected). map (λ p. p.entry) ps) stores i parts [] lt)
    ∙ ap (λ (es : List (List Projection)). get_or es i []) entries ∙ get_or-map (λ (u : kept.Table). u.projections) root.tables i blank [] within in
    let at : old.entry ≡ get_or t.projections j old.entry = entry_at parts t.projections j old here below old_is in
    let long : j < length t.projections = omega (arith, below, sym (length-map parts (λ (p : Projected). p.entry)) ∙ ap length here) in
    let narrow : length (get_or t.projections j old.entry).columns ≤ length t.columns = columns_most root t (get_or t.projections j old.entry) ((valid.tables i blank within).projections j old.entry long) in
    let most_columns : length t.columns ≤ 64 = (valid.tables i blank within).most in (
      subst (λ (p : Projection). length p.columns ≤ 64) (sym at) (omega arith),
      λ most few. subst (λ (p : Projection). length p.containers ≤ most) (sym at) (few i blank within j old.entry long),
    )

pub move_draws : (root c : Catalogue) (tables : List (List Loaded)) (last version i j : ℕ) (ps : List Loaded) (p : Loaded) (entry : Projection) → IsHeld root tables
    → i < length tables → ps ≡ get_or tables i ps → j < length ps → p ≡ get_or ps j p → root.next ≤ version → version ≤ root.next + 2 * (length p.stored.entry.columns + 1) + 1 + length p.stored.entry.containers
    → length entry.containers ≤ length p.stored.entry.containers + 1 → c ≡ with_entry_at last version i j entry root → Draws root c
move_draws root c tables last version i j ps p entry held lt ps_are below p_is later upto count is =
    let found =
    entry_small root (map projections_of tables) i j (projections_of ps) p.stored held.valid held.entries (omega (arith, lt, length-map tables projections_of)) (stored_at tables i ps lt ps_are)
    (omega (arith, below, length-map ps (λ (q : Loaded). q.stored))) (ap (λ (q : Loaded). q.stored) p_is ∙ sym (get_or-map (λ (q : Loaded). q.stored) ps j p p.stored below)) in
    subst (Draws root) (sym is) (record {
      from = omega (arith, later);
      upto = λ most few. drawn_few (length p.stored.entry.columns) (length p.stored.entry.containers) most root.next version found.0 (found.1 most few) upto;
      few = λ most few. few_moved root last version i j most entry (omega (arith, count, found.1 most few)) few;
    })

-- ---- what a moveout does to its projection

-- an entry stands in the catalogue at the places of its projection
entry_stands : (root : Catalogue) (stores : List (List Projected)) (i j : ℕ) (parts : List Projected) (old : Projected) (P : Projection → Type 0) → map (λ ps. map (λ p. p.entry) ps) stores ≡ map (λ t. t.projections) root.tables
    → i < length stores → parts ≡ get_or stores i parts → j < length parts → old ≡ get_or parts j old → P old.entry → IsSomeAnd (slice_get root.tables i) (λ t. IsSomeAnd (slice_get t.projections j) P)
entry_stands root stores i j parts old P entries lt parts_are below old_is holds =
    let within : i < length root.tables = omega (arith, lt, sym (length-map stores (λ ps. map (λ p. p.entry) ps)) ∙ ap length entries ∙ length-map root.tables (λ t. t.projections)) in
    let blank : kept.Table = record { name = []; columns = []; projections = [] } in
    let t : kept.Table = get_or root.tables i blank in
    let here : map (λ p. p.entry) parts ≡ t.projections =
    ap (map (λ (p : Projected). p.entry)) parts_are ∙ sym (get_or-map (λ (ps : List Projected). map (λ p. p.entry) ps) stores i parts [] lt)
    ∙ ap (λ (es : List (List Projection)). get_or es i []) entries ∙ get_or-map (λ (u : kept.Table). u.projections) root.tables i blank [] within in
    let long : j < length t.projections = omega (arith, below, sym (length-map parts (λ (p : Projected). p.entry)) ∙ ap length here) in
    is_at root.tables i t (λ u. IsSomeAnd (slice_get u.projections j) P) within (get_or_default root.tables i blank t within)
    (is_at t.projections j old.entry P long (entry_at parts t.projections j old here below old_is) holds)

pub move_job : (root c : Catalogue) (tables : List (List Loaded)) (last version i j : ℕ) (ps : List Loaded) (p : Loaded) (entry : Projection) → IsHeld root tables
    → i < length tables → ps ≡ get_or tables i ps → j < length ps → p ≡ get_or ps j p → root.next ≤ version → version ≤ root.next + 2 * (length p.stored.entry.columns + 1) + 1 + length p.stored.entry.containers
    → length entry.containers ≤ length p.stored.entry.containers + 1 → entry.lge ≡ last → c ≡ with_entry_at last version i j entry root → DrawsJob i j (at_epoch last root) c
move_job root c tables last version i j ps p entry held lt ps_are below p_is later upto count reached is =
    let long : i < length (map projections_of tables) = omega (arith, lt, length-map tables projections_of) in
    let wide : j < length (projections_of ps) = omega (arith, below, length-map ps (λ (q : Loaded). q.stored)) in
    let stored_is : p.stored ≡ get_or (projections_of ps) j p.stored = ap (λ (q : Loaded). q.stored) p_is ∙ sym (get_or-map (λ (q : Loaded). q.stored) ps j p p.stored below) in
    let found = entry_small root (map projections_of tables) i j (projections_of ps) p.stored held.valid held.entries long (stored_at tables i ps lt ps_are) wide stored_is in
    let narrow = found.0 in
    subst (DrawsJob i j (at_epoch last root)) (sym is)
    (entry_stands root (map projections_of tables) i j (projections_of ps) p.stored (DrawsEntry i j (at_epoch last root) (with_entry_at last version i j entry root)) held.entries long (stored_at tables i ps lt ps_are) wide stored_is
    (record { entry = entry; tables = refl; last = refl; from = omega (arith, later); upto = omega (arith, narrow, upto); count = count; reached = reached }))

some_weaker : {X : Type 0} (P Q : X → Type 0) (o : Option X) → ((x : X) → P x → Q x) → IsSomeAnd o P → IsSomeAnd o Q
some_weaker P Q None weaker is = absurd is
some_weaker P Q (Some x) weaker is = weaker x is

-- the newest epoch is that of the catalogue
pub job_done : (root c : Catalogue) (last i j : ℕ) → DrawsJob i j (at_epoch last root) c → DrawsJob i j (at_epoch last root) (at_epoch last c)
job_done root c last i j job =
    some_weaker (λ t. IsSomeAnd (slice_get t.projections j) (DrawsEntry i j (at_epoch last root) c)) (λ t. IsSomeAnd (slice_get t.projections j) (DrawsEntry i j (at_epoch last root) (at_epoch last c))) (slice_get root.tables i)
    (λ t there. some_weaker (DrawsEntry i j (at_epoch last root) c) (DrawsEntry i j (at_epoch last root) (at_epoch last c)) (slice_get t.projections j) one there) job
  where
    one : (p : Projection) → DrawsEntry i j (at_epoch last root) c p → DrawsEntry i j (at_epoch last root) (at_epoch last c) p
    one p d = record { entry = d.entry; tables = d.tables; last = refl; from = d.from; upto = d.upto; count = d.count; reached = d.reached ∙ d.last }
