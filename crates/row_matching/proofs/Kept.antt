-- The retained history of a table, made of what a projection stores.
use Rattle.std.proofs.Common.{◌≡◌, ℕ, ◌+◌, ◌<◌, ◌≤◌, ◌++◌, Bool, true, false, cond, List, [], ◌∷◌, length, map, take, get_or, refl, sym, ◌∙◌, ap, ap₂, subst}
use Rattle.std.specs.Prelude.{Option, Some, IsSomeAnd}
use Rattle.std.specs.Bool.{OnTrue}
use Rattle.std.specs.List.{All, AllZip, slice_get}
use Rattle.std.proofs.lemmas.List.{map-append, take_more}
use Rattle.std.proofs.lemmas.List.Elements.{filter-append, All-cons, All-filter, All-head, All-nil, All-tail, All-weaker}
use Rattle.common_laws.specs.Bags.{SameBag}
use Rattle.common_laws.specs.Maps.{Contents}
use Rattle.common_laws.proofs.BagLaws.{bag_map, bag_sym}
use Rattle.bag_difference.proofs.Orders.{all_of_bag}
use Rattle.col_disk.specs.declared.disk.Disk.{Ghosts}
use Rattle.col_disk.specs.declared.disk.StoreFault.{StoreFault}
use Rattle.col_disk.specs.Faults.{IsUnblamed}
use Rattle.catalog_types.specs.declared.catalogue.Container.{Container}
use Rattle.catalog_types.specs.declared.catalogue.Table as kept
use Rattle.col_value.specs.declared.row.Stamped.{Stamped}
use Rattle.col_value.specs.declared.value.Value.{Value}
use Rattle.col_value.specs.declared.column.Column.{Column}
use Rattle.col_value.specs.Order.{IsRow}
use Rattle.row_history.specs.History.{is_retained, on_columns, retained}
use Rattle.row_history.proofs.Histories.{bag_retained, retained_later}
use Rattle.ros_container.specs.Encodings.{Written, written_of}
use Rattle.db_model.specs.Database.{Database, Table}
use Rattle.db_model.specs.Sound.{IsSoundTable, RowFits}
use Rattle.stored_rows.specs.Held.{HoldsVector}
use Rattle.stored_rows.specs.Stored.{Beside, Projected, Stores, StoresRows}
use Rattle.folder_model.specs.Projections.{HasHistory, HasRows, IsHistoryOf, ordinals}
use Rattle.proj_store.specs.Loaded.{Loaded}
use Rattle.proj_store.specs.Reading.{BlamesRows, HasVectors}
use Rattle.store_commit.specs.Seen.{Seen, Stands}
use Rattle.table_store.proofs.Unblamed.{part_unblamed}
use Rattle.query_cover.specs.Seen.{placed}
use Rattle.row_matching.specs.Keeping.{history, with_places, KeepsAll}
use Rattle.row_matching.specs.Seeing.{ArePlaces, IsSource}
use Rattle.row_matching.proofs.Answered.{IsAt, source_of, stored_at}
use Rattle.row_matching.proofs.Bags.{OneList, all_at, at_place, on_fresh, zip_long}
use Rattle.row_matching.proofs.Placed.{made_again}

-- ---- the vectors that are kept are those of the disk

vectors_of : (m : Contents) (es : List Written) (ks : List Container) (bs : List Beside) (rows : List Stamped) → StoresRows m es ks bs rows → AllZip (λ k b. HoldsVector m k b.held) ks bs
vectors_of m es [] [] rows is = tt
vectors_of m es [] (b ∷ bs) rows is = absurd is
vectors_of m es (k ∷ ks) [] rows is = absurd is
vectors_of m es (k ∷ ks) (b ∷ bs) rows (here, more, vector, marked, rest, is) = (vector, vectors_of m es ks bs more rest)

has_vectors : (m : Contents) (p : Projected) (stored : List Stamped) → Stores m p stored → HasVectors m p
has_vectors m p stored (saved, are, is) = vectors_of m (written_of p.entry) p.entry.containers p.beside saved are

-- ---- the rows, made again

one_again : (columns : List ℕ) (places : List (Option ℕ)) (s : Stamped) → ArePlaces columns (length s.row) places → with_places places (on_columns columns s) ≡ s
one_again columns places s are = ap (λ (row : List Value). with_row row s) (made_again s.row columns places are)
  where
    with_row : List Value → Stamped → Stamped
    with_row row t = record { row = row; ins = t.ins; del = t.del }

all_again : (columns : List ℕ) (places : List (Option ℕ)) (count : ℕ) (rows : List Stamped) → ArePlaces columns count places → All (λ s. length s.row ≡ count) rows → map (with_places places) (map (on_columns columns) rows) ≡ rows
all_again columns places count [] are wide = refl
all_again columns places count (s ∷ rows) are wide =
    let long : length s.row ≡ count = All-head (λ x. length x.row ≡ count) s rows wide in
    ap₂ (λ (x : Stamped) (xs : List Stamped). x ∷ xs) (one_again columns places s (subst (λ (n : ℕ). ArePlaces columns n places) (sym long) are)) (all_again columns places count rows are (All-tail (λ x. length x.row ≡ count) s rows wide))

retained_on : (mark : ℕ) (columns : List ℕ) (rows : List Stamped) → retained mark (map (on_columns columns) rows) ≡ map (on_columns columns) (retained mark rows)
retained_on mark columns [] = refl
retained_on mark columns (s ∷ rows) = by (is_retained mark s) (retained_on mark columns rows)
  where
    by : (b : Bool) → retained mark (map (on_columns columns) rows) ≡ map (on_columns columns) (retained mark rows)
        → cond b (on_columns columns s ∷ retained mark (map (on_columns columns) rows)) (retained mark (map (on_columns columns) rows)) ≡ map (on_columns columns) (cond b (s ∷ retained mark rows) (retained mark rows))
    by true rest = ap (λ (xs : List Stamped). on_columns columns s ∷ xs) rest
    by false rest = rest

-- what a projection shows of the history of its table from a later mark on
shown : (first mark count : ℕ) (columns : List ℕ) (places : List (Option ℕ)) (stored rows : List Stamped) → first ≤ mark → ArePlaces columns count places → All (λ s. length s.row ≡ count) rows → SameBag (retained first stored) (map (on_columns columns) (retained first rows))
    → SameBag (history mark places stored) (retained mark rows)
shown first mark count columns places stored rows le are wide same =
    let later : SameBag (retained mark (retained first stored)) (retained mark (map (on_columns columns) (retained first rows))) =
    bag_retained mark (retained first stored) (map (on_columns columns) (retained first rows)) same in
    let right : retained mark (map (on_columns columns) (retained first rows)) ≡ map (on_columns columns) (retained mark rows) =
    retained_on mark columns (retained first rows) ∙ ap (map (on_columns columns)) (retained_later first mark rows le) in
    let bag : SameBag (retained mark stored) (map (on_columns columns) (retained mark rows)) =
    subst (λ (xs : List Stamped). SameBag xs (map (on_columns columns) (retained mark rows))) (retained_later first mark stored le) (subst (SameBag (retained mark (retained first stored))) right later) in
    subst (SameBag (history mark places stored)) (all_again columns places count (retained mark rows) are (All-filter (is_retained mark) (λ s. length s.row ≡ count) rows wide))
    (bag_map (with_places places) (retained mark stored) (map (on_columns columns) (retained mark rows)) bag)

-- ---- over a store that stands for a database

history_in : (files : Contents) (d : Database) (first mark : ℕ) (u : Table) (p : Projected) (count : ℕ) (places : List (Option ℕ)) (stored found : List Stamped) → OneList → first ≤ mark → IsSoundTable d u → count ≡ length u.columns → HasRows files first u.rows p → IsSource count places p
    → (HasVectors files p → Stores files p stored) → KeepsAll (history mark places stored) [] found → SameBag found (retained mark u.rows)
history_in files d first mark u p count places stored found one le sound many has source stores kept =
    let own : HasHistory files first u.rows p = on_fresh p.entry.fresh source.fresh has.fresh in
    let same : own.stored ≡ stored = one files p own.stored stored own.are (stores (has_vectors files p own.stored own.are)) in
    let wide : All (λ s. length s.row ≡ count) u.rows = All-weaker (λ s. RowFits u.columns s.row) (λ s. length s.row ≡ count) (λ s fits. zip_long u.columns s.row fits.each ∙ sym many) u.rows sound.rows in
    let bag : SameBag (history mark places stored) (retained mark u.rows) =
    shown first mark count (ordinals p.entry) places stored u.rows le source.own wide (subst (λ (xs : List Stamped). IsHistoryOf first p.entry xs u.rows) same own.history) in
    let rows : All (λ s. IsRow s.row) (retained mark u.rows) = All-filter (is_retained mark) (λ s. IsRow s.row) u.rows (All-weaker (λ s. RowFits u.columns s.row) (λ s. IsRow s.row) (λ s fits. fits.values) u.rows sound.rows) in
    let valid : All (λ s. IsRow s.row) (history mark places stored) = all_of_bag (λ s. IsRow s.row) (retained mark u.rows) (history mark places stored) (bag_sym (history mark places stored) (retained mark u.rows) bag) rows in
    subst (λ (xs : List Stamped). SameBag xs (retained mark u.rows)) (sym (kept valid)) bag

pub history_found : OneList → {D : Type 0} (disk : Ghosts D) (now : D) (s : Seen) (i place count mark : ℕ) (places : List (Option ℕ)) (t : kept.Table) (parts : List Loaded) (store : Loaded) (stored found : List Stamped) (d : Database) → IsAt s i place count places t parts store
    → ((m : Contents) → disk.holds now ≡ Some m → HasVectors m store.stored → Stores m store.stored stored) → KeepsAll (history mark places stored) [] found → Stands disk s now d → d.ahm ≤ mark → IsSomeAnd (slice_get d.tables i) (λ u. SameBag found (retained mark u.rows))
history_found one disk now s i place count mark places t parts store stored found d at stores kept stands le =
    let files = stands.files in
    let source : IsSource (length t.columns) places store.stored = source_of s i place count places t parts store at in
    let (u, there, name, columns, has) = at_place files s.catalogue.ahm s.catalogue.tables s.stores d.tables i place t (map (λ (x : Loaded). x.stored) parts) store.stored stands.are.tables at.table at.beside (stored_at parts place store at.part) in
    let low : s.catalogue.ahm ≤ mark = subst (λ (n : ℕ). n ≤ mark) stands.are.ahm le in
    subst (λ (o : Option Table). IsSomeAnd o (λ v. SameBag found (retained mark v.rows))) (sym there)
    (history_in files d s.catalogue.ahm mark u store.stored (length t.columns) places stored found one low (all_at (IsSoundTable d) d.tables i u stands.sound.tables there) (sym (ap (λ (cs : List Column). length cs) columns)) has source (stores files stands.quiet.told_is) kept)

pub none_to_blame : {D : Type 0} (disk : Ghosts D) (now : D) (s : Seen) (i place count : ℕ) (places : List (Option ℕ)) (t : kept.Table) (parts : List Loaded) (store : Loaded) (fault : StoreFault) (d : Database) → IsAt s i place count places t parts store
    → BlamesRows store.stored.entry (disk.holds now) fault → Stands disk s now d → IsUnblamed fault
none_to_blame disk now s i place count places t parts store fault d at blames stands =
    let files = stands.files in
    let source : IsSource (length t.columns) places store.stored = source_of s i place count places t parts store at in
    let (u, there, name, columns, has) = at_place files s.catalogue.ahm s.catalogue.tables s.stores d.tables i place t (map (λ (x : Loaded). x.stored) parts) store.stored stands.are.tables at.table at.beside (stored_at parts place store at.part) in
    let own : HasHistory files s.catalogue.ahm u.rows store.stored = on_fresh store.stored.entry.fresh source.fresh has.fresh in
    part_unblamed files (disk.holds now) store.stored fault stands.quiet.told_is source.fresh (on_true store.stored.entry.fresh (own.stored, own.are)) blames
  where
    on_true : (b : Bool) {P : Type 0} → P → OnTrue b P
    on_true true p = p
    on_true false p = tt

-- ---- row by row

pub keeps_none : (mark : ℕ) (places : List (Option ℕ)) (s : Stamped) (out : List Stamped) → is_retained mark s ≡ false → KeepsAll (history mark places (s ∷ [])) out out
keeps_none mark places s out off = λ all. by (is_retained mark s) off
  where
    by : (b : Bool) → b ≡ false → out ≡ out ++ map (with_places places) (cond b (s ∷ []) [])
    by true is = absurd (cc)
    by false is = sym (none out)
      where
        none : (xs : List Stamped) → xs ++ [] ≡ xs
        none [] = refl
        none (x ∷ xs) = ap (λ (ys : List Stamped). x ∷ ys) (none xs)

all_parts : {X : Type 0} (P : X → Type 0) (xs ys : List X) → All P (xs ++ ys) → All P xs × All P ys
all_parts P [] ys all = (All-nil P, all)
all_parts P (x ∷ xs) ys all =
    let (first, last) = all_parts P xs ys (All-tail P x (xs ++ ys) all) in
    (All-cons P x xs (All-head P x (xs ++ ys) all) first, last)

history_more : (mark : ℕ) (places : List (Option ℕ)) (xs : List Stamped) (x : Stamped) → history mark places (xs ++ x ∷ []) ≡ history mark places xs ++ history mark places (x ∷ [])
history_more mark places xs x = ap (map (with_places places)) (filter-append (is_retained mark) xs (x ∷ [])) ∙ map-append (with_places places) (retained mark xs) (retained mark (x ∷ []))

pub keeps_nothing : (mark : ℕ) (places : List (Option ℕ)) (stored out : List Stamped) → out ≡ [] → KeepsAll (history mark places (take 0 stored)) [] out
keeps_nothing mark places stored out is = λ all. is

-- one row more of those that are gone over
pub keeps_more : (mark : ℕ) (places : List (Option ℕ)) (stored : List Stamped) (i : ℕ) (d : Stamped) (out next : List Stamped) → i < length stored
    → KeepsAll (history mark places (get_or stored i d ∷ [])) out next → KeepsAll (history mark places (take i stored)) [] out → KeepsAll (history mark places (take (i + 1) stored)) [] next
keeps_more mark places stored i d out next lt here was = λ all.
    let row = get_or stored i d in
    let split : history mark places (take (i + 1) stored) ≡ history mark places (take i stored) ++ history mark places (row ∷ []) = ap (history mark places) (take_more stored i d lt) ∙ history_more mark places (take i stored) row in
    let both : All (λ s. IsRow s.row) (history mark places (take i stored) ++ history mark places (row ∷ [])) = subst (All (λ s. IsRow s.row)) split all in
    let (first, last) = all_parts (λ s. IsRow s.row) (history mark places (take i stored)) (history mark places (row ∷ [])) both in
    here last ∙ ap (λ (xs : List Stamped). xs ++ history mark places (row ∷ [])) (was first) ∙ sym split

-- a row that is retained, as it was made
pub keeps_one : (mark : ℕ) (places : List (Option ℕ)) (s : Stamped) (row : List Value) (out next : List Stamped) → is_retained mark s ≡ true → row ≡ placed places s.row
    → KeepsAll ((record { row = row; ins = s.ins; del = s.del }) ∷ []) out next → KeepsAll (history mark places (s ∷ [])) out next
keeps_one mark places s row out next on made kept = subst (λ (xs : List Stamped). KeepsAll xs out next) (sym here) kept
  where
    with_row : List Value → List Stamped
    with_row values = (record { row = values; ins = s.ins; del = s.del }) ∷ []

    here : history mark places (s ∷ []) ≡ with_row row
    here = by (is_retained mark s) on ∙ ap with_row (sym made)
      where
        by : (b : Bool) → b ≡ true → map (with_places places) (cond b (s ∷ []) []) ≡ with_row (placed places s.row)
        by true is = refl
        by false is = absurd (cc)
