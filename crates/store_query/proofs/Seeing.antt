-- The rows that are read are, for the query, those of the FROM items.
use Rattle.std.proofs.Common.{◌≡◌, ℕ, zero, suc, ◌+◌, ◌≤◌, ◌<◌, ◌++◌, min, true, List, [], ◌∷◌, length, map, filter, get_or, Option, Some, None, refl, sym, ap, ap₂, ◌∙◌, arith, subst}
use Rattle.std.specs.Prelude.{◌==◌, nat_le}
use Rattle.std.specs.List.{All, enumerate_from, slice_get}
use Rattle.std.specs.Option.{option_map_or, IfSome}
use Rattle.std.proofs.Math.Nat.{min-eq_left}
use Rattle.std.proofs.lemmas.Bool.{eq-eqb, eqb-true}
use Rattle.std.proofs.lemmas.Bool.Decides.{nat_tests}
use Rattle.std.proofs.lemmas.List.{append-nil, map-append}
use Rattle.std.proofs.lemmas.List.Elements.{All-cons, All-filter, All-head, All-map, All-nil, All-tail, All-weaker, filter-append}
use Rattle.std.proofs.lemmas.Slice.Zip.{AllZip-long}
use Rattle.common_laws.specs.Bags.{SameBag}
use Rattle.common_laws.proofs.BagLaws.{bag_map, bag_refl, bag_append, bag_sym, bag_trans}
use Rattle.col_value.specs.declared.column.Column.{Column}
use Rattle.col_value.specs.declared.row.Asked.{Asked}
use Rattle.col_value.specs.declared.row.Stamped.{Stamped}
use Rattle.col_value.specs.declared.value.Value.{Value}
use Rattle.col_value.specs.declared.value.Value.TheVariants as value
use Rattle.col_value.specs.Order.{projected}
use Rattle.row_history.specs.History.{is_visible, stamped, visible, Within}
use Rattle.row_history.proofs.Histories.{bag_visible}
use Rattle.catalog_types.specs.declared.catalogue.Table as kept
use Rattle.sql_tree.specs.declared.query.At.{At}
use Rattle.sql_bound.specs.declared.query.FromItem.{FromItem}
use Rattle.sql_bound.specs.declared.query.BoundQuery.{BoundQuery}
use Rattle.db_model.specs.Database.{Database, Table, table_named}
use Rattle.db_model.specs.State.{Changes, pending_deletes, pending_rows, without}
use Rattle.db_model.specs.Sound.{HasEpochs, IsSoundDatabase, IsSoundSession, IsSoundTable, RowFits, ValueFits}
use Rattle.sound_laws.proofs.Changes.{all_fit, all_within, found_all, names_differ}
use Rattle.query_cover.specs.Seen.{placed, value_at, AreSeen, ArePlaces}
use Rattle.sql_bound.specs.Used.{blanked, is_used}
use Rattle.query_cover.proofs.Placed.{placed_seen}
use Rattle.store_query.specs.Lessening.{cleared, deletes_of, value_kept, IsLess}
use Rattle.store_query.specs.Reading.{epoch_of, pending_of, rows_of, IsKeptEpoch}
use Rattle.store_query.proofs.Lessens.{all_of_bag, less_rest, without_less}
use Rattle.store_query.proofs.Served.{all_at}

abbrev Rows : Type 0
Rows = List (List Value)

-- ---- rows of a table have its width

abbrev pub AreWide : ℕ → List (List Value) → Type 0
AreWide columns rows = All (λ row. length row ≡ columns) rows

fit_wide : (columns : List Column) (n : ℕ) (rows : Rows) → n ≡ length columns → All (RowFits columns) rows → AreWide n rows
fit_wide columns n rows is fit = All-weaker (RowFits columns) (λ row. length row ≡ n) (λ row fits. AllZip-long ValueFits columns row fits.each ∙ sym is) rows fit

visible_fit : (columns : List Column) (epoch : ℕ) (rows : List Stamped) → All (λ s. RowFits columns s.row) rows → All (RowFits columns) (visible epoch rows)
visible_fit columns epoch rows fit = All-map (RowFits columns) (λ (s : Stamped). s.row) (filter (is_visible epoch) rows) (All-filter (is_visible epoch) (λ s. RowFits columns s.row) rows fit)

wide_bag : (n : ℕ) (xs ys : Rows) → SameBag xs ys → AreWide n xs → AreWide n ys
wide_bag n xs ys bag wide =
    All-weaker (λ row. (length row == n) ≡ true) (λ row. length row ≡ n) (λ row is. eqb-true (length row) n is) ys
    (all_of_bag (λ (row : List Value). length row == n) xs ys bag (All-weaker (λ row. length row ≡ n) (λ row. (length row == n) ≡ true) (λ row is. eq-eqb (length row) n is) xs wide))

wide_behind : (n : ℕ) (xs ys : Rows) → AreWide n (xs ++ ys) → AreWide n ys
wide_behind n [] ys wide = wide
wide_behind n (x ∷ xs) ys wide = wide_behind n xs ys (All-tail (λ row. length row ≡ n) x (xs ++ ys) wide)

wide_before : (n : ℕ) (xs ys : Rows) → AreWide n (xs ++ ys) → AreWide n xs
wide_before n [] ys wide = All-nil (λ row. length row ≡ n)
wide_before n (x ∷ xs) ys wide =
    All-cons (λ row. length row ≡ n) x xs (All-head (λ row. length row ≡ n) x (xs ++ ys) wide) (wide_before n xs ys (All-tail (λ row. length row ≡ n) x (xs ++ ys) wide))

pub wide_front : (n : ℕ) (xs ys rows : Rows) → SameBag rows (xs ++ ys) → AreWide n rows → AreWide n xs
wide_front n xs ys rows parts wide = wide_before n xs ys (wide_bag n rows (xs ++ ys) parts wide)

-- ---- the changes of a session, where its view is read

pub pending_in : At → List Changes → Table → Rows
pending_in At.View changes t = pending_rows t.name changes
pending_in At.Latest changes t = []
pending_in (At.Epoch n) changes t = []

pub gone_in : At → List Changes → Table → List Asked
gone_in At.View changes t = pending_deletes t.name changes
gone_in At.Latest changes t = []
gone_in (At.Epoch n) changes t = []

abbrev no_rows : Rows
no_rows = []

abbrev no_deletes : List Asked
no_deletes = []

abbrev pub rows_asked : List Asked → Rows
rows_asked deletes = map (λ a. a.row) deletes

pub rows_split : (at : At) (d : Database) (changes : List Changes) (t : Table) → IsKeptEpoch d at → rows_of at d changes t ≡ without (rows_asked (gone_in at changes t)) (visible (epoch_of at d.last) t.rows) ++ pending_in at changes t
unfolding pending_in gone_in
rows_split At.View d changes t kept = refl
rows_split At.Latest d changes t kept = sym (append-nil (visible d.last t.rows))
rows_split (At.Epoch n) d changes t (first, last) = ap (λ (e : ℕ). visible e t.rows) (sym (min-eq_left last)) ∙ sym (append-nil (visible (min n d.last) t.rows))

pub mark_before : (at : At) (d : Database) → IsSoundDatabase d → IsKeptEpoch d at → d.ahm ≤ epoch_of at d.last
mark_before At.View d sound kept = sound.mark
mark_before At.Latest d sound kept = sound.mark
mark_before (At.Epoch n) d sound (first, last) = omega (arith, first, last)

pending_fit : (at : At) (changes : List Changes) (t : Table) → All (RowFits t.columns) (pending_rows t.name changes) → All (RowFits t.columns) (pending_in at changes t)
unfolding pending_in
pending_fit At.View changes t fit = fit
pending_fit At.Latest changes t fit = All-nil (RowFits t.columns)
pending_fit (At.Epoch n) changes t fit = All-nil (RowFits t.columns)

gone_within : (at : At) (changes : List Changes) (t : Table) → Within (pending_deletes t.name changes) t.rows → Within (gone_in at changes t) t.rows
unfolding gone_in
gone_within At.View changes t within = within
gone_within At.Latest changes t within = (t.rows, bag_refl t.rows)
gone_within (At.Epoch n) changes t within = (t.rows, bag_refl t.rows)

pub pending_is : (at : At) (tables : List kept.Table) (changes : List Changes) (f : FromItem) (table : kept.Table) (t : Table) → slice_get tables f.table ≡ Some table → t.name ≡ table.name → pending_of at tables changes f ≡ pending_in at changes t
unfolding pending_in
pending_is At.View tables changes f table t is name =
    ap (λ (o : Option kept.Table). option_map_or (λ x. pending_rows x.name changes) o no_rows) is ∙ ap (λ (n : List ℕ). pending_rows n changes) (sym name)
pending_is At.Latest tables changes f table t is name = refl
pending_is (At.Epoch n) tables changes f table t is name = refl

pub gone_is : (at : At) (tables : List kept.Table) (changes : List Changes) (f : FromItem) (table : kept.Table) (t : Table) → slice_get tables f.table ≡ Some table → t.name ≡ table.name → deletes_of at tables changes f ≡ gone_in at changes t
unfolding gone_in
gone_is At.View tables changes f table t is name =
    ap (λ (o : Option kept.Table). option_map_or (λ x. pending_deletes x.name changes) o no_deletes) is ∙ ap (λ (n : List ℕ). pending_deletes n changes) (sym name)
gone_is At.Latest tables changes f table t is name = refl
gone_is (At.Epoch n) tables changes f table t is name = refl

-- ---- the rows that stay

-- undeleted rows that were inserted up to an epoch are visible there
stamped_visible : (e : ℕ) (deletes : List Asked) → All (λ s. nat_le s.ins e ≡ true) (map (stamped None) deletes) → visible e (map (stamped None) deletes) ≡ rows_asked deletes
stamped_visible e [] early = refl
stamped_visible e (a ∷ deletes) early =
    let here : nat_le a.ins e ≡ true = All-head (λ (s : Stamped). nat_le s.ins e ≡ true) (stamped None a) (map (stamped None) deletes) early in
    rw here (ap (λ (rows : Rows). a.row ∷ rows) (stamped_visible e deletes (All-tail (λ (s : Stamped). nat_le s.ins e ≡ true) (stamped None a) (map (stamped None) deletes) early)))

early_front : (e : ℕ) (xs ys : List Stamped) → All (λ s. nat_le s.ins e ≡ true) (xs ++ ys) → All (λ s. nat_le s.ins e ≡ true) xs
early_front e [] ys early = All-nil (λ (s : Stamped). nat_le s.ins e ≡ true)
early_front e (x ∷ xs) ys early =
    All-cons (λ (s : Stamped). nat_le s.ins e ≡ true) x xs (All-head (λ (s : Stamped). nat_le s.ins e ≡ true) x (xs ++ ys) early)
    (early_front e xs ys (All-tail (λ (s : Stamped). nat_le s.ins e ≡ true) x (xs ++ ys) early))

all_early : (last : ℕ) (rows : List Stamped) → All (HasEpochs last) rows → All (λ s. nat_le s.ins last ≡ true) rows
all_early last rows has = All-weaker (HasEpochs last) (λ s. nat_le s.ins last ≡ true) (λ s is. here s is.inserted) rows has
  where
    here : (s : Stamped) → s.ins ≤ last → nat_le s.ins last ≡ true
    here s le = grind (arith, nat_tests)

-- deleted rows are seen in the session's view, and there are none in another one
gone_seen : (at : At) (d : Database) (changes : List Changes) (t : Table) (rest : List Stamped) → All (HasEpochs d.last) t.rows → SameBag t.rows (map (stamped None) (gone_in at changes t) ++ rest)
    → visible (epoch_of at d.last) (map (stamped None) (gone_in at changes t)) ≡ rows_asked (gone_in at changes t)
unfolding gone_in
gone_seen At.View d changes t rest has bag =
    stamped_visible d.last (pending_deletes t.name changes)
    (early_front d.last (map (stamped None) (pending_deletes t.name changes)) rest (all_of_bag (λ (s : Stamped). nat_le s.ins d.last) t.rows (map (stamped None) (pending_deletes t.name changes) ++ rest) bag (all_early d.last t.rows has)))
gone_seen At.Latest d changes t rest has bag = refl
gone_seen (At.Epoch n) d changes t rest has bag = refl

-- what a query reads of a table are visible rows but for the deleted ones
pub stay : (at : At) (d : Database) (changes : List Changes) (t : Table) → All (HasEpochs d.last) t.rows → Within (pending_deletes t.name changes) t.rows
    → (live : Rows) × SameBag (visible (epoch_of at d.last) t.rows) (rows_asked (gone_in at changes t) ++ live)
stay at d changes t has within = by (gone_within at changes t within)
  where
    e : ℕ
    e = epoch_of at d.last

    gone : List Asked
    gone = gone_in at changes t

    by : Within gone t.rows → (live : Rows) × SameBag (visible e t.rows) (rows_asked gone ++ live)
    by (rest, bag) =
        let seen : SameBag (visible e t.rows) (visible e (map (stamped None) gone ++ rest)) = bag_visible e t.rows (map (stamped None) gone ++ rest) bag in
        let split : visible e (map (stamped None) gone ++ rest) ≡ visible e (map (stamped None) gone) ++ visible e rest =
        ap (map (λ (s : Stamped). s.row)) (filter-append (is_visible e) (map (stamped None) gone) rest)
        ∙ map-append (λ (s : Stamped). s.row) (filter (is_visible e) (map (stamped None) gone)) (filter (is_visible e) rest) in (
          visible e rest,
          subst (SameBag (visible e t.rows)) (split ∙ ap (λ (xs : Rows). xs ++ visible e rest) (gone_seen at d changes t rest has bag)) seen,
        )

-- ---- a deleted row, as a scan makes it

projected_at : (row : List Value) (ordinals : List ℕ) (i c : ℕ) → slice_get ordinals i ≡ Some c → get_or (projected row ordinals) i value.Null ≡ get_or row c value.Null
projected_at row [] i c is = absurd (cc)
projected_at row (o ∷ os) zero c is = let same : o ≡ c = cc in ap (λ (n : ℕ). get_or row n value.Null) same
projected_at row (o ∷ os) (suc i) c is = projected_at row os i c is

abbrev Stands : List ℕ → ℕ → Option ℕ → Type 0
Stands ordinals c place = IfSome place (λ i. slice_get ordinals i ≡ Some c)

value_cleared : (row : List Value) (ordinals : List ℕ) (c : ℕ) (place : Option ℕ) → Stands ordinals c place → value_kept row (c, place) ≡ value_at (projected row ordinals) place
value_cleared row ordinals c None stands = refl
value_cleared row ordinals c (Some i) stands = sym (projected_at row ordinals i c stands)

cleared_from : (row : List Value) (ordinals : List ℕ) (at : ℕ) (places : List (Option ℕ)) → ((j : ℕ) → j < length places → Stands ordinals (at + j) (get_or places j None))
    → map (value_kept row) (enumerate_from at places) ≡ map (value_at (projected row ordinals)) places
cleared_from row ordinals at [] stands = refl
cleared_from row ordinals at (p ∷ places) stands =
    let here : at + 0 ≡ at = omega arith in
    let next : (j : ℕ) → at + suc j ≡ (at + 1) + j = λ j. omega arith in
    ap₂ (λ (v : Value) (vs : List Value). v ∷ vs) (value_cleared row ordinals at p (subst (λ (n : ℕ). Stands ordinals n p) here (stands 0 (omega arith))))
    (cleared_from row ordinals (at + 1) places (λ j lt. subst (λ (n : ℕ). Stands ordinals n (get_or places j None)) (next j) (stands (suc j) (omega (arith, lt)))))

pub gone_cleared : (q : BoundQuery) (first columns : ℕ) (ordinals : List ℕ) (places : List (Option ℕ)) (deletes : List Asked) → ArePlaces q first columns ordinals places
    → map (λ a. cleared places a.row) deletes ≡ map (placed places) (map (λ row. projected row ordinals) (rows_asked deletes))
gone_cleared q first columns ordinals places [] are = refl
gone_cleared q first columns ordinals places (a ∷ deletes) are =
    let same : (j : ℕ) → j ≡ 0 + j = λ j. omega arith in
    ap₂ (λ (r : List Value) (rs : Rows). r ∷ rs)
    (cleared_from a.row ordinals 0 places (λ j lt. subst (λ (n : ℕ). Stands ordinals n (get_or places j None)) (same j) (are.own j (omega (arith, lt, are.long)))))
    (gone_cleared q first columns ordinals places deletes are)

-- ---- the same rows in another order are seen alike

seen_bag : (q : BoundQuery) (first columns : ℕ) (xs ys us vs : Rows) → AreSeen q first columns xs ys → SameBag us xs → SameBag vs ys → AreSeen q first columns us vs
seen_bag q first columns xs ys us vs seen one two =
    let blank = blanked (is_used q) first in
    record {
      wide = wide_bag columns xs us (bag_sym us xs one) seen.wide;
      width = wide_bag columns ys vs (bag_sym vs ys two) seen.width;
      same = bag_trans (map blank us) (map blank xs) (map blank vs) (bag_map blank us xs one)
          (bag_trans (map blank xs) (map blank ys) (map blank vs) seen.same (bag_sym (map blank vs) (map blank ys) (bag_map blank vs ys two)));
    }

-- A table's visible rows are the gone ones and the live ones; what a projection shows of them is scanned, the gone ones are taken out, and
-- pending ones stand behind.
pub changed_seen : (q : BoundQuery) (first columns : ℕ) (ordinals : List ℕ) (places : List (Option ℕ)) (deletes : List Asked) (shown rows live less more : Rows) → ArePlaces q first columns ordinals places
    → AreWide columns rows → AreWide columns more → SameBag shown (map (λ row. projected row ordinals) rows) → SameBag rows (rows_asked deletes ++ live)
    → IsLess (map (λ a. cleared places a.row) deletes) (map (placed places) shown) less → AreSeen q first columns (less ++ more) (without (rows_asked deletes) rows ++ more)
changed_seen q first columns ordinals places deletes shown rows live less more are wide more_wide bag split lessened =
    let on = λ (row : List Value). projected row ordinals in
    let gone = rows_asked deletes in
    let kept : AreWide columns live = wide_behind columns gone live (wide_bag columns rows (gone ++ live) split wide) in
    let seen : AreSeen q first columns (map (placed places) (map on live) ++ more) (live ++ more) =
    placed_seen q first columns ordinals places (map on live) live more are kept more_wide (bag_refl (map on live)) in
    let both : map on (gone ++ live) ≡ map on gone ++ map on live = map-append on gone live in
    let shows : SameBag shown (map on gone ++ map on live) = subst (SameBag shown) both (bag_trans shown (map on rows) (map on (gone ++ live)) bag (bag_map on rows (gone ++ live) split)) in
    let scans : SameBag (map (placed places) shown) (map (λ a. cleared places a.row) deletes ++ map (placed places) (map on live)) =
    subst (SameBag (map (placed places) shown))
    (map-append (placed places) (map on gone) (map on live) ∙ ap (λ (xs : Rows). xs ++ map (placed places) (map on live)) (sym (gone_cleared q first columns ordinals places deletes are)))
    (bag_map (placed places) shown (map on gone ++ map on live) shows) in
    let here : SameBag less (map (placed places) (map on live)) =
    less_rest (map (λ a. cleared places a.row) deletes) (map (placed places) shown) less (map (placed places) (map on live)) lessened scans in
    let there : SameBag (without gone rows) live = without_less gone rows live split in
    seen_bag q first columns (map (placed places) (map on live) ++ more) (live ++ more) (less ++ more) (without gone rows ++ more) seen
    (bag_append less more (map (placed places) (map on live)) more here (bag_refl more)) (bag_append (without gone rows) more live more there (bag_refl more))

-- ---- a table of a sound database, and a session with sound changes

pub record IsFitting (d : Database) (at : At) (changes : List Changes) (t : Table) (columns : ℕ) : Type 0 where
  pub wide : AreWide columns (visible (epoch_of at d.last) t.rows)
  pub pending : AreWide columns (pending_in at changes t)
  pub live : (live : Rows) × SameBag (visible (epoch_of at d.last) t.rows) (rows_asked (gone_in at changes t) ++ live)

pub fitting : (d : Database) (at : At) (changes : List Changes) (t : Table) (i columns : ℕ) → IsSoundDatabase d → IsSoundSession d changes → slice_get d.tables i ≡ Some t → columns ≡ length t.columns → IsFitting d at changes t columns
fitting d at changes t i columns sound session is wide =
    let own : IsSoundTable d t = all_at (IsSoundTable d) d.tables i t sound.tables is in
    let found : All (λ u. table_named u.name d.tables ≡ Some u) d.tables = found_all d.tables (names_differ d sound) in
    let fit : All (RowFits t.columns) (pending_rows t.name changes) =
    all_at (λ u. All (RowFits u.columns) (pending_rows u.name changes)) d.tables i t (all_fit d changes d.tables found session.each) is in
    let within : Within (pending_deletes t.name changes) t.rows = all_at (λ u. Within (pending_deletes u.name changes) u.rows) d.tables i t (all_within d changes d.tables found session.each) is in
    record {
      wide = fit_wide t.columns columns (visible (epoch_of at d.last) t.rows) wide (visible_fit t.columns (epoch_of at d.last) t.rows own.rows);
      pending = fit_wide t.columns columns (pending_in at changes t) wide (pending_fit at changes t fit);
      live = stay at d changes t own.epochs within;
    }
