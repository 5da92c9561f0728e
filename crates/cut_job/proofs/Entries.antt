-- Entries and tables that are cut one after the other.
use Rattle.std.proofs.Common.{◌≡◌, ℕ, ◌+◌, ◌≤◌, ◌<◌, ◌++◌, ◌^◌, Bool, true, false, cond, List, [], ◌∷◌, length, take, get_or, Option, Some, None, refl, sym, ap, ◌∙◌, subst, arith}
use Rattle.std.specs.Prelude.{IfSome}
use Rattle.std.specs.Bool.{OnTrue, OnFalse}
use Rattle.std.specs.List.{All, AllZip}
use Rattle.std.proofs.lemmas.List.{take_more, take_all}
use Rattle.std.proofs.lemmas.List.Elements.{All-head, All-tail, All-weaker, All-contains, All-nil, All-push}
use Rattle.common_laws.specs.Maps.{Contents}
use Rattle.common_laws.proofs.BagLaws.{bag_filter}
use Rattle.col_disk.specs.Moved.{Moved, NoName}
use Rattle.col_disk.specs.declared.disk.Disk.{Ghosts}
use Rattle.col_disk.proofs.Moving.{moved_told}
use Rattle.row_history.specs.History.{is_retained, cut_rows}
use Rattle.catalog_types.specs.declared.catalogue.Container.{Container}
use Rattle.catalog_types.specs.declared.catalogue.Projection.{Projection}
use Rattle.catalog_types.specs.declared.catalogue.Table as kept
use Rattle.catalog_types.specs.declared.catalogue.Catalogue.{Catalogue}
use Rattle.catalog_types.specs.Parts.{IsProjection, IsTable}
use Rattle.catalog_types.specs.Valid.{IsValid}
use Rattle.catalog_types.specs.Reached.{least_lge}
use Rattle.ros_container.specs.Encodings.{written_of}
use Rattle.stored_rows.specs.Listed.{SameEntry}
use Rattle.stored_rows.proofs.KeptRows.{entry_kept}
use Rattle.folder_model.specs.Projections.{shape_of}
use Rattle.ros_container.specs.Readable.{IsReadable}
use Rattle.proj_store.specs.Sound.{HasVectorNumber, IsLoadable}
use Rattle.container_writer.specs.Writing.{DataFrom}
use Rattle.cut_model.specs.Cut.{CutsRows, IsCutEntry, IsCutTable}
use Rattle.container_cut.specs.Listed.{IsBelow, IsListedBelow}
use Rattle.container_cut.specs.Cutting.{CutsContainers, Between}
use Rattle.container_cut.specs.Blamed.{IsDamageIn}
use Rattle.container_cut.proofs.Below.{SameBelow, below_data, entry_same, entries_later, moved_between, number_low}
use Rattle.container_cut.proofs.Faults.{any_back, entry_back}
use Rattle.cut_job.specs.Blamed.{IsDamageInTable}
use Rattle.proj_store.proofs.Listed.{valid_of_columns}
use Rattle.proj_store.proofs.Vectors.{valid_loads}
use Rattle.cut_job.specs.Listed.{IsTableBelow, HasLoadable}
use Rattle.cut_job.specs.Cutting.{CutsProjection, CutsProjections, CutsTable, CutsTables, CutsCatalogue}

-- ---- one entry

-- what was up to date
pub entry_fresh : (m n : Contents) (epoch : ℕ) (p q : Projection) (js : List Container) → p.fresh ≡ true → length js ≤ length p.containers → q ≡ record p { lge = epoch; containers = js } → CutsContainers (written_of p) epoch p.containers js m n → CutsProjection epoch p q m n
entry_fresh m n epoch p q js fresh fewer is cuts mark = subst (IsCutEntry m n mark epoch p) (sym is) (record {
  shape = sym (ap (λ (b : Bool). cond b (record (shape_of p) { lge = epoch }) (shape_of p)) fresh);
  rows = subst (λ (b : Bool). OnTrue b (CutsRows m n mark epoch p (record p { lge = epoch; containers = js }))) (sym fresh)
      (λ old held. let k = cuts old held in (k.0, k.1, bag_filter (is_retained mark) k.0 (cut_rows epoch old) k.2));
  stale = subst (λ (b : Bool). OnFalse b (js ≡ [])) (sym fresh) tt;
  fewer = fewer;
  born = refl;
})

-- and what wasn't
pub entry_stale : (m n : Contents) (epoch : ℕ) (p q : Projection) (js : List Container) → p.fresh ≡ false → length js ≤ length p.containers → js ≡ [] → q ≡ record p { lge = p.lge; containers = js } → CutsProjection epoch p q m n
entry_stale m n epoch p q js stale fewer none is mark = subst (IsCutEntry m n mark epoch p) (sym is) (record {
  shape = sym (ap (λ (b : Bool). cond b (record (shape_of p) { lge = epoch }) (shape_of p)) stale);
  rows = subst (λ (b : Bool). OnTrue b (CutsRows m n mark epoch p (record p { lge = p.lge; containers = js }))) (sym stale) tt;
  stale = subst (λ (b : Bool). OnFalse b (js ≡ [])) (sym stale) none;
  fewer = fewer;
  born = refl;
})

-- whichever it was
pub entry_cut : (epoch lge : ℕ) (p q : Projection) (js : List Container) (found left : Option Contents) → length js ≤ length p.containers → lge ≡ cond p.fresh epoch p.lge → q ≡ record p { lge = lge; containers = js }
    → OnTrue p.fresh (Between (CutsContainers (written_of p) epoch p.containers js) found left) → OnFalse p.fresh (js ≡ []) → Between (CutsProjection epoch p q) found left
entry_cut epoch lge p q js found left fewer lge_is is cuts none m n before after = by p.fresh refl lge_is cuts none
  where
    by : (b : Bool) → p.fresh ≡ b → lge ≡ cond b epoch p.lge → OnTrue b (Between (CutsContainers (written_of p) epoch p.containers js) found left) → OnFalse b (js ≡ []) → CutsProjection epoch p q m n
    by true fresh le cuts none = entry_fresh m n epoch p q js fresh fewer (is ∙ ap (λ (e : ℕ). record p { lge = e; containers = js }) le) (cuts m n before after)
    by false stale le cuts none = entry_stale m n epoch p q js stale fewer none (is ∙ ap (λ (e : ℕ). record p { lge = e; containers = js }) le)

pub entry_loads : (next lge : ℕ) (p q : Projection) (js : List Container) → next ≤ 2 ^ 62 → q ≡ record p { lge = lge; containers = js } → All (IsBelow next p.columns) js → IsLoadable p → IsLoadable q
entry_loads next lge p q js le is below loads = subst IsLoadable (sym is) (record {
  files = All-weaker (IsBelow next p.columns) (IsReadable p.columns) (λ k h. let end = h.files in record { of_columns = h.of_columns; numbers = omega (arith, le, end) }) js below;
  vectors = All-weaker (IsBelow next p.columns) HasVectorNumber (λ k h. number_low next k.marks le h.vector) js below;
  sort = loads.sort;
})

pub entry_listed : (next lge : ℕ) (p q : Projection) (js : List Container) → q ≡ record p { lge = lge; containers = js } → All (IsBelow next p.columns) js → IsListedBelow next q
entry_listed next lge p q js is below = subst (IsListedBelow next) (sym is) below

-- ---- an entry among others

on_true : (b : Bool) {P Q : Type 0} → (P → Q) → OnTrue b P → OnTrue b Q
on_true true h p = h p
on_true false h p = tt

pub entry_earlier : (m l n : Contents) (epoch : ℕ) (p q : Projection) → SameEntry m l p → CutsProjection epoch p q l n → CutsProjection epoch p q m n
entry_earlier m l n epoch p q same cut mark =
    let c = cut mark in
    record { shape = c.shape; rows = on_true p.fresh {P = CutsRows l n mark epoch p q} {Q = CutsRows m n mark epoch p q} (λ rows old held. rows old (entry_kept m l p old same held)) c.rows; stale = c.stale; fewer = c.fewer; born = c.born }

pub entry_after : (m l n : Contents) (epoch : ℕ) (p q : Projection) → SameEntry l n q → CutsProjection epoch p q m l → CutsProjection epoch p q m n
entry_after m l n epoch p q same cut mark =
    let c = cut mark in
    record {
      shape = c.shape;
      rows = on_true p.fresh {P = CutsRows m l mark epoch p q} {Q = CutsRows m n mark epoch p q} (λ rows old held. let k = rows old held in (k.0, entry_kept l n q k.0 same k.1, k.2)) c.rows;
      stale = c.stale;
      fewer = c.fewer;
      born = c.born;
    }

zip_push : {A B : Type 0} (R : A → B → Type 0) (xs : List A) (ys : List B) (x : A) (y : B) → AllZip R xs ys → R x y → AllZip R (xs ++ x ∷ []) (ys ++ y ∷ [])
zip_push R [] [] x y all one = (one, tt)
zip_push R [] (b ∷ ys) x y all one = absurd all
zip_push R (a ∷ xs) [] x y all one = absurd all
zip_push R (a ∷ xs) (b ∷ ys) x y (here, rest) one = (here, zip_push R xs ys x y rest one)

zip_weaker : {A B : Type 0} (R S : A → B → Type 0) (Q : B → Type 0) → ((a : A) (b : B) → Q b → R a b → S a b) → (xs : List A) (ys : List B) → All Q ys → AllZip R xs ys → AllZip S xs ys
zip_weaker R S Q h [] [] low all = tt
zip_weaker R S Q h [] (b ∷ ys) low all = absurd all
zip_weaker R S Q h (a ∷ xs) [] low all = absurd all
zip_weaker R S Q h (a ∷ xs) (b ∷ ys) low (here, rest) = (h a b (All-head Q b ys low) here, zip_weaker R S Q h xs ys (All-tail Q b ys low) rest)

-- the same with what holds of the first ones
zip_earlier : {A B : Type 0} (R S : A → B → Type 0) (P : A → Type 0) → ((a : A) (b : B) → P a → R a b → S a b) → (xs : List A) (ys : List B) → All P xs → AllZip R xs ys → AllZip S xs ys
zip_earlier R S P h [] [] low all = tt
zip_earlier R S P h [] (b ∷ ys) low all = absurd all
zip_earlier R S P h (a ∷ xs) [] low all = absurd all
zip_earlier R S P h (a ∷ xs) (b ∷ ys) low (here, rest) = (h a b (All-head P a xs low) here, zip_earlier R S P h xs ys (All-tail P a xs low) rest)

-- one more, after files of later numbers were written
zips_more : {X Y : Type 0} {D : Type 0} (disk : Ghosts D) {old mid new : D} (R : X → Y → Contents → Contents → Type 0) (P : X → Type 0) (Q : Y → Type 0) (first next : ℕ) (xs : List X) (i : ℕ) (x : X) (ys more : List Y) (y : Y)
    → ((m l n : Contents) (a : X) (b : Y) → SameBelow first m l → P a → R a b l n → R a b m n) → ((m l n : Contents) (a : X) (b : Y) → SameBelow next l n → Q b → R a b m l → R a b m n)
    → i < length xs → x ≡ get_or xs i x → more ≡ ys ++ y ∷ [] → All P xs → All Q ys → Moved disk (DataFrom first) NoName old mid → Moved disk (DataFrom next) NoName mid new
    → Between (λ m n. AllZip (λ a b. R a b m n) (take i xs) ys) (disk.holds old) (disk.holds mid) → Between (R x y) (disk.holds mid) (disk.holds new)
    → Between (λ m n. AllZip (λ a b. R a b m n) (take (i + 1) xs) more) (disk.holds old) (disk.holds new)
zips_more {X} {Y} disk {old} {mid} {new} R P Q first next xs i x ys more y earlier after lt x_is more_is low high moved again done here m n before now =
    let (l, told, changed) = moved_told disk m before moved in
    let later = moved_between disk l n told now again in
    let one : R x y m n = earlier m l n x y (below_data m l first changed) (All-contains P xs x low (i, lt, sym x_is)) (here l n told now) in
    let others : AllZip (λ a b. R a b m n) (take i xs) ys =
    zip_weaker (λ a b. R a b m l) (λ a b. R a b m n) Q (λ a b q r. after m l n a b (below_data l n next later) q r) (take i xs) ys high (done m l before told) in
    subst (λ (us : List X). AllZip (λ a b. R a b m n) us more) (sym (take_more xs i x lt ∙ ap (λ (z : X). take i xs ++ z ∷ []) (sym x_is)))
    (subst (λ (vs : List Y). AllZip (λ a b. R a b m n) (take i xs ++ x ∷ []) vs) (sym more_is) (zip_push (λ a b. R a b m n) (take i xs) ys x y others one))

pub projections_more : {D : Type 0} (disk : Ghosts D) {old mid new : D} (epoch first next : ℕ) (ps : List Projection) (i : ℕ) (p : Projection) (qs more : List Projection) (q : Projection)
    → i < length ps → p ≡ get_or ps i p → more ≡ qs ++ q ∷ [] → All (IsListedBelow first) ps → All (IsListedBelow next) qs → Moved disk (DataFrom first) NoName old mid → Moved disk (DataFrom next) NoName mid new
    → Between (CutsProjections epoch (take i ps) qs) (disk.holds old) (disk.holds mid) → Between (CutsProjection epoch p q) (disk.holds mid) (disk.holds new)
    → Between (CutsProjections epoch (take (i + 1) ps) more) (disk.holds old) (disk.holds new)
projections_more disk epoch first next ps i p qs more q =
    zips_more disk (CutsProjection epoch) (IsListedBelow first) (IsListedBelow next) first next ps i p qs more q
    (λ m l n a b same low cut. entry_earlier m l n epoch a b (entry_same m l first a same low) cut)
    (λ m l n a b same high cut. entry_after m l n epoch a b (entry_same l n next b same high) cut)

table_earlier : (m l n : Contents) (epoch first : ℕ) (t u : kept.Table) → SameBelow first m l → IsTableBelow first t → CutsTable epoch t u l n → CutsTable epoch t u m n
table_earlier m l n epoch first t u same low cut mark =
    let c = cut mark in
    record {
      name = c.name;
      columns = c.columns;
      projections =
          zip_earlier (IsCutEntry l n mark epoch) (IsCutEntry m n mark epoch) (IsListedBelow first)
          (λ p q below e. entry_at m l n epoch mark p q (entry_same m l first p same below) e) t.projections u.projections low c.projections;
    }
  where
    entry_at : (m l n : Contents) (epoch mark : ℕ) (p q : Projection) → SameEntry m l p → IsCutEntry l n mark epoch p q → IsCutEntry m n mark epoch p q
    entry_at m l n epoch mark p q same c =
        record { shape = c.shape; rows = on_true p.fresh {P = CutsRows l n mark epoch p q} {Q = CutsRows m n mark epoch p q} (λ rows old held. rows old (entry_kept m l p old same held)) c.rows; stale = c.stale; fewer = c.fewer; born = c.born }

table_after : (m l n : Contents) (epoch next : ℕ) (t u : kept.Table) → SameBelow next l n → IsTableBelow next u → CutsTable epoch t u m l → CutsTable epoch t u m n
table_after m l n epoch next t u same high cut mark =
    let c = cut mark in
    record {
      name = c.name;
      columns = c.columns;
      projections =
          zip_weaker (IsCutEntry m l mark epoch) (IsCutEntry m n mark epoch) (IsListedBelow next)
          (λ p q below e. entry_at m l n epoch mark p q (entry_same l n next q same below) e) t.projections u.projections high c.projections;
    }
  where
    entry_at : (m l n : Contents) (epoch mark : ℕ) (p q : Projection) → SameEntry l n q → IsCutEntry m l mark epoch p q → IsCutEntry m n mark epoch p q
    entry_at m l n epoch mark p q same c = record {
      shape = c.shape;
      rows = on_true p.fresh {P = CutsRows m l mark epoch p q} {Q = CutsRows m n mark epoch p q} (λ rows old held. let k = rows old held in (k.0, entry_kept l n q k.0 same k.1, k.2)) c.rows;
      stale = c.stale;
      fewer = c.fewer;
      born = c.born;
    }

pub tables_more : {D : Type 0} (disk : Ghosts D) {old mid new : D} (epoch first next : ℕ) (ts : List kept.Table) (i : ℕ) (t : kept.Table) (us more : List kept.Table) (u : kept.Table)
    → i < length ts → t ≡ get_or ts i t → more ≡ us ++ u ∷ [] → All (IsTableBelow first) ts → All (IsTableBelow next) us → Moved disk (DataFrom first) NoName old mid → Moved disk (DataFrom next) NoName mid new
    → Between (CutsTables epoch (take i ts) us) (disk.holds old) (disk.holds mid) → Between (CutsTable epoch t u) (disk.holds mid) (disk.holds new)
    → Between (CutsTables epoch (take (i + 1) ts) more) (disk.holds old) (disk.holds new)
tables_more disk epoch first next ts i t us more u =
    zips_more disk (CutsTable epoch) (IsTableBelow first) (IsTableBelow next) first next ts i t us more u
    (λ m l n a b same low cut. table_earlier m l n epoch first a b same low cut) (λ m l n a b same high cut. table_after m l n epoch next a b same high cut)

-- before the first, and behind the last
pub projections_none : (epoch : ℕ) (found left : Option Contents) (qs : List Projection) → qs ≡ [] → Between (CutsProjections epoch [] qs) found left
projections_none epoch found left qs none m n before after = subst (λ (xs : List Projection). CutsProjections epoch [] xs m n) (sym none) tt

pub projections_all : (epoch : ℕ) (ps : List Projection) (i : ℕ) (qs : List Projection) (found left : Option Contents) → length ps ≤ i → Between (CutsProjections epoch (take i ps) qs) found left → Between (CutsProjections epoch ps qs) found left
projections_all epoch ps i qs found left past done = subst (λ (xs : List Projection). Between (CutsProjections epoch xs qs) found left) (take_all i ps past) done

pub tables_none : (epoch : ℕ) (found left : Option Contents) (us : List kept.Table) → us ≡ [] → Between (CutsTables epoch [] us) found left
tables_none epoch found left us none m n before after = subst (λ (xs : List kept.Table). CutsTables epoch [] xs m n) (sym none) tt

pub tables_all : (epoch : ℕ) (ts : List kept.Table) (i : ℕ) (us : List kept.Table) (found left : Option Contents) → length ts ≤ i → Between (CutsTables epoch (take i ts) us) found left → Between (CutsTables epoch ts us) found left
tables_all epoch ts i us found left past done = subst (λ (xs : List kept.Table). Between (CutsTables epoch xs us) found left) (take_all i ts past) done

-- ---- a table and the catalogue

zip_at : {A B : Type 0} (R : ℕ → A → B → Type 0) (mark : ℕ) (xs : List A) (ys : List B) → AllZip (λ a b. (k : ℕ) → R k a b) xs ys → AllZip (R mark) xs ys
zip_at R mark [] [] all = tt
zip_at R mark [] (b ∷ ys) all = absurd all
zip_at R mark (a ∷ xs) [] all = absurd all
zip_at R mark (a ∷ xs) (b ∷ ys) (here, rest) = (here mark, zip_at R mark xs ys rest)

pub table_cut : (epoch : ℕ) (t u : kept.Table) (ps qs : List Projection) (found left : Option Contents) → ps ≡ t.projections → u ≡ record t { projections = qs } → Between (CutsProjections epoch ps qs) found left
    → Between (CutsTable epoch t u) found left
table_cut epoch t u ps qs found left same is cuts m n before after mark = subst (IsCutTable m n mark epoch t) (sym is) (record {
  name = refl;
  columns = refl;
  projections =
      subst (λ (xs : List Projection). AllZip (IsCutEntry m n mark epoch) xs qs) same
      (zip_at (λ k p q. IsCutEntry m n k epoch p q) mark ps qs (cuts m n before after));
})

pub table_listed : (next : ℕ) (t u : kept.Table) (qs : List Projection) → u ≡ record t { projections = qs } → All (IsListedBelow next) qs → IsTableBelow next u
table_listed next t u qs is below = subst (IsTableBelow next) (sym is) below

pub catalogue_cut : (c r : Catalogue) (ts us : List kept.Table) (epoch : ℕ) (found left : Option Contents) → ts ≡ c.tables → epoch ≡ least_lge c → r.last ≡ epoch → r.ahm ≡ c.ahm → r.tables ≡ us
    → Between (CutsTables epoch ts us) found left → Between (CutsCatalogue c r) found left
catalogue_cut c r ts us epoch found left same least last ahm tables cuts m n before after = record {
  last = last ∙ least;
  ahm = ahm;
  tables =
      subst (λ (e : ℕ). AllZip (IsCutTable m n c.ahm e) c.tables r.tables) least
      (subst (λ (xs : List kept.Table). AllZip (IsCutTable m n c.ahm epoch) xs r.tables) same
      (subst (λ (xs : List kept.Table). AllZip (IsCutTable m n c.ahm epoch) ts xs) (sym tables) (zip_at (λ k t u. IsCutTable m n k epoch t u) c.ahm ts us (cuts m n before after))));
}

-- later numbers, and earlier moments
pub table_later : (next after : ℕ) (t : kept.Table) → next ≤ after → IsTableBelow next t → IsTableBelow after t
table_later next after t le below = entries_later next after t.projections le below

pub tables_later : (next after : ℕ) (ts : List kept.Table) → next ≤ after → All (IsTableBelow next) ts → All (IsTableBelow after) ts
tables_later next after ts le below = All-weaker (IsTableBelow next) (IsTableBelow after) (λ t h. table_later next after t le h) ts below

pub table_back : (m l : Contents) (first : ℕ) (q : ℕ) (t : kept.Table) → SameBelow first m l → IsTableBelow first t → IsDamageInTable l q t → IsDamageInTable m q t
table_back m l first q t same below is =
    any_back (IsDamageIn l q) (IsDamageIn m q) (IsListedBelow first) t.projections (λ p low d. entry_back m l first q p same low d) below is

-- the numbers of a valid catalogue are below the next one
vector_below : (next : ℕ) (o : Option ℕ) → IfSome o (λ n. (1 ≤ n) × (n < next)) → IfSome o (λ n. n < next)
vector_below next None is = tt
vector_below next (Some n) is = is.1

entry_valid : (c : Catalogue) (t : kept.Table) (p : Projection) → IsProjection c t p → IsListedBelow c.next p
entry_valid c t p is = λ i d at.
    let of = is.containers i d at in
    record { of_columns = valid_of_columns c t p is i d at; files = of.files.1; vector = vector_below c.next (get_or p.containers i d).marks of.vector }

pub valid_below : (c : Catalogue) → IsValid c → All (IsTableBelow c.next) c.tables
valid_below c valid =
    All-weaker (IsTable c) (IsTableBelow c.next) (λ t is. All-weaker (IsProjection c t) (IsListedBelow c.next) (λ p h. entry_valid c t p h) t.projections is.projections) c.tables valid.tables

pub valid_loadable : (c : Catalogue) → IsValid c → All HasLoadable c.tables
valid_loadable c valid =
    All-weaker (IsTable c) HasLoadable (λ t is. All-weaker (IsProjection c t) IsLoadable (λ p h. valid_loads c t p h valid.next) t.projections is.projections) c.tables valid.tables

-- ---- at a place

pub all_push : {X : Type 0} (P : X → Type 0) (xs more : List X) (x : X) → more ≡ xs ++ x ∷ [] → All P xs → P x → All P more
all_push P xs more x is before here = subst (All P) (sym is) (All-push P xs x before here)

pub all_none : {X : Type 0} (P : X → Type 0) (xs : List X) → xs ≡ [] → All P xs
all_none P xs none = subst (All P) (sym none) (All-nil P)

pub table_loads : (t u : kept.Table) (qs : List Projection) → u ≡ record t { projections = qs } → All IsLoadable qs → HasLoadable u
table_loads t u qs is loads = subst HasLoadable (sym is) loads
