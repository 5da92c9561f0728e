-- What a projection shows of its table, and what a session sees of that.
use Rattle.std.proofs.Common.{◌≡◌, ℕ, zero, suc, ◌+◌, ◌≤◌, ◌++◌, Bool, true, false, not, cond, List, [], ◌∷◌, length, map, filter, refl, sym, ◌∙◌, ap, ap₂, subst, arith}
use Rattle.std.specs.Prelude.{count_by, ◌&&◌, nat_le, nat_lt, Option, Some, None, IsSomeAnd}
use Rattle.std.specs.Bool.{OnTrue}
use Rattle.std.specs.Option.{option_map_or}
use Rattle.std.specs.List.{All, AllZip, slice_get}
use Rattle.std.proofs.lemmas.Option.{same_Some}
use Rattle.std.proofs.lemmas.List.Elements.{All-cons, All-filter, All-head, All-nil, All-tail, All-weaker}
use Rattle.common_laws.specs.Bags.{SameBag}
use Rattle.common_laws.specs.Maps.{Contents}
use Rattle.common_laws.proofs.BagLaws.{bag_filter, bag_map, bag_refl, bag_sym, bag_trans, count_cons}
use Rattle.catalog_types.specs.declared.catalogue.Catalogue.{Catalogue}
use Rattle.catalog_types.specs.declared.catalogue.Table as kept
use Rattle.col_value.specs.declared.column.Column.{Column}
use Rattle.col_value.specs.declared.row.Asked.{Asked}
use Rattle.col_value.specs.declared.row.Stamped.{Stamped}
use Rattle.col_value.specs.declared.value.Value.{Value}
use Rattle.row_history.specs.History.{Within, is_retained, is_visible, on_columns, retained, stamped}
use Rattle.sql_bound.specs.declared.expr.Expr.{Expr}
use Rattle.db_model.specs.Database.{Database, Table}
use Rattle.db_model.specs.State.{Changes, pending_deletes}
use Rattle.db_model.specs.Sound.{HasEpochs, IsSoundDatabase, IsSoundSession, IsSoundTable, RowFits, ValueFits}
use Rattle.db_model.specs.Views.{asked_of, less}
use Rattle.stored_rows.specs.Stored.{Projected, Stores}
use Rattle.folder_model.specs.Projections.{HasHistory, HasRows, IsHistoryOf, ordinals}
use Rattle.folder_model.specs.Tables.{AreDatabase, StandForTables}
use Rattle.sound_laws.proofs.Changes.{all_within, found_all, names_differ}
use Rattle.row_matching.specs.Matching.{AreMatches, AreMatchesIn, committed_matches}
use Rattle.row_matching.specs.Seeing.{AreFound, ArePlaces, IsSource, matches, seen_row, seen_rows}
use Rattle.row_matching.proofs.Lessens.{less_is_less}
use Rattle.row_matching.proofs.Placed.{made_again}

-- ---- what is visible is retained

filter_twice : {X : Type 0} (p q : X → Bool) (xs : List X) → ((x : X) → p x ≡ true → q x ≡ true) → filter p (filter q xs) ≡ filter p xs
filter_twice p q [] wider = refl
filter_twice {X} p q (x ∷ xs) wider = by (q x) refl (p x) refl (filter_twice p q xs wider)
  where
    by : (b : Bool) → q x ≡ b → (c : Bool) → p x ≡ c → filter p (filter q xs) ≡ filter p xs → filter p (cond b (x ∷ filter q xs) (filter q xs)) ≡ cond c (x ∷ filter p xs) (filter p xs)
    by true on c is rest = ap₂ (λ (b : Bool) (ys : List X). cond b (x ∷ ys) ys) is rest
    by false off true is rest = let on = wider x is in absurd (cc)
    by false off false is rest = rest

seen_is_retained : (mark epoch : ℕ) (s : Stamped) → mark ≤ epoch → is_visible epoch s ≡ true → is_retained mark s ≡ true
seen_is_retained mark epoch s le is = by s.del refl
  where
    right : (a b : Bool) → (a && b) ≡ true → b ≡ true
    right true b on = on
    right false b on = absurd (cc)

    later : (d : ℕ) → not (nat_le d epoch) ≡ true → nat_lt mark d ≡ true
    later d on = grind (arith, on, le)

    by : (o : Option ℕ) → s.del ≡ o → option_map_or (λ e. nat_lt mark e) s.del true ≡ true
    by None at = ap (λ (o : Option ℕ). option_map_or (λ e. nat_lt mark e) o true) at
    by (Some d) at =
        let gone : not (option_map_or (λ e. nat_le e epoch) s.del false) ≡ true = right (nat_le s.ins epoch) (not (option_map_or (λ e. nat_le e epoch) s.del false)) is in
        let here : not (nat_le d epoch) ≡ true = ap (λ (o : Option ℕ). not (option_map_or (λ e. nat_le e epoch) o false)) (sym at) ∙ gone in
        ap (λ (o : Option ℕ). option_map_or (λ e. nat_lt mark e) o true) at ∙ later d here

-- ---- rows of the table, made again

visible_on : (epoch : ℕ) (columns : List ℕ) (rows : List Stamped) → filter (is_visible epoch) (map (on_columns columns) rows) ≡ map (on_columns columns) (filter (is_visible epoch) rows)
visible_on epoch columns [] = refl
visible_on epoch columns (s ∷ rows) = by (is_visible epoch s) (visible_on epoch columns rows)
  where
    by : (b : Bool) → filter (is_visible epoch) (map (on_columns columns) rows) ≡ map (on_columns columns) (filter (is_visible epoch) rows)
        → cond b (on_columns columns s ∷ filter (is_visible epoch) (map (on_columns columns) rows)) (filter (is_visible epoch) (map (on_columns columns) rows)) ≡ map (on_columns columns) (cond b (s ∷ filter (is_visible epoch) rows) (filter (is_visible epoch) rows))
    by true rest = ap (λ (xs : List Stamped). on_columns columns s ∷ xs) rest
    by false rest = rest

again : (columns : List ℕ) (places : List (Option ℕ)) (count : ℕ) (rows : List Stamped) → ArePlaces columns count places → All (λ s. length s.row ≡ count) rows → map (seen_row places) (map (on_columns columns) rows) ≡ map asked_of rows
again columns places count [] are wide = refl
again columns places count (s ∷ rows) are wide =
    let long : length s.row ≡ count = All-head (λ x. length x.row ≡ count) s rows wide in
    ap₂ (λ (row : List Value) (xs : List Asked). (record { row = row; ins = s.ins }) ∷ xs) (made_again s.row columns places (subst (λ (n : ℕ). ArePlaces columns n places) (sym long) are))
    (again columns places count rows are (All-tail (λ x. length x.row ≡ count) s rows wide))

pub zip_long : (columns : List Column) (row : List Value) → AllZip ValueFits columns row → length row ≡ length columns
zip_long [] [] all = refl
zip_long [] (v ∷ row) all = absurd all
zip_long (c ∷ columns) [] all = absurd all
zip_long (c ∷ columns) (v ∷ row) all = ap suc (zip_long columns row all.1)

-- a projection shows the committed rows of its table
shows : (mark epoch count : ℕ) (columns : List ℕ) (places : List (Option ℕ)) (rows table : List Stamped) → mark ≤ epoch → ArePlaces columns count places → All (λ s. length s.row ≡ count) table → SameBag (retained mark rows) (map (on_columns columns) (retained mark table))
    → SameBag (seen_rows epoch places rows) (map asked_of (filter (is_visible epoch) table))
shows mark epoch count columns places rows table le are wide history =
    let stored : filter (is_visible epoch) (retained mark rows) ≡ filter (is_visible epoch) rows = filter_twice (is_visible epoch) (is_retained mark) rows (λ s is. seen_is_retained mark epoch s le is) in
    let own : filter (is_visible epoch) (retained mark table) ≡ filter (is_visible epoch) table = filter_twice (is_visible epoch) (is_retained mark) table (λ s is. seen_is_retained mark epoch s le is) in
    let bag = bag_map (seen_row places) (filter (is_visible epoch) (retained mark rows)) (filter (is_visible epoch) (map (on_columns columns) (retained mark table)))
    (bag_filter (is_visible epoch) (retained mark rows) (map (on_columns columns) (retained mark table)) history) in
    let same : map (seen_row places) (filter (is_visible epoch) (map (on_columns columns) (retained mark table))) ≡ map asked_of (filter (is_visible epoch) table) =
    ap (map (seen_row places)) (visible_on epoch columns (retained mark table) ∙ ap (map (on_columns columns)) own)
    ∙ again columns places count (filter (is_visible epoch) table) are (All-filter (is_visible epoch) (λ s. length s.row ≡ count) table wide) in
    subst (λ (xs : List Asked). SameBag xs (map asked_of (filter (is_visible epoch) table))) (ap (map (seen_row places)) stored)
    (subst (SameBag (map (seen_row places) (filter (is_visible epoch) (retained mark rows)))) same bag)

-- ---- the deletes lie within

abbrev one_if : Bool → ℕ
one_if b = cond b 1 0

passes_none : {X : Type 0} (p : X → Bool) (xs : List X) → All (λ x. p x ≡ true) xs → count_by (λ x. not (p x)) xs ≡ 0
passes_none p [] all = refl
passes_none p (x ∷ xs) all =
    let here : one_if (not (p x)) ≡ one_if false = ap (λ (b : Bool). one_if (not b)) (All-head (λ y. p y ≡ true) x xs all) in
    omega (arith, count_cons (λ y. not (p y)) x xs, here, passes_none p xs (All-tail (λ y. p y ≡ true) x xs all))

none_passes : {X : Type 0} (p : X → Bool) (xs : List X) → count_by (λ x. not (p x)) xs ≡ 0 → All (λ x. p x ≡ true) xs
none_passes p [] none = All-nil (λ x. p x ≡ true)
none_passes p (x ∷ xs) none =
    let at = count_cons (λ y. not (p y)) x xs in
    All-cons (λ y. p y ≡ true) x xs (by (p x) refl at) (none_passes p xs (omega (arith, at, none)))
  where
    by : (b : Bool) → p x ≡ b → count_by (λ y. not (p y)) (x ∷ xs) ≡ cond (not (p x)) 1 0 + count_by (λ y. not (p y)) xs → p x ≡ true
    by true is at = is
    by false is at =
        let one : one_if (not (p x)) ≡ one_if true = ap (λ (k : Bool). one_if (not k)) is in
        absurd (omega (arith, at, one, none))

-- what all of a bag pass, all pass of the same bag
all_of_bag : {X : Type 0} (p : X → Bool) (xs ys : List X) → SameBag xs ys → All (λ x. p x ≡ true) xs → All (λ x. p x ≡ true) ys
all_of_bag p xs ys bag all = none_passes p ys (sym (bag.counts (λ x. not (p x))) ∙ passes_none p xs all)

early : ℕ → Stamped → Bool
early last s = nat_le s.ins last

-- undeleted rows that were inserted up to an epoch are visible there
deletes_seen : (last : ℕ) (deletes : List Asked) (rest : List Stamped) → All (λ s. nat_le s.ins last ≡ true) (map (stamped None) deletes ++ rest)
    → map asked_of (filter (is_visible last) (map (stamped None) deletes ++ rest)) ≡ deletes ++ map asked_of (filter (is_visible last) rest)
deletes_seen last [] rest all = refl
deletes_seen last (a ∷ deletes) rest all =
    let here : nat_le a.ins last ≡ true = All-head (λ s. nat_le s.ins last ≡ true) (stamped None a) (map (stamped None) deletes ++ rest) all in
    let shown : (nat_le a.ins last && true) ≡ true = ap (λ (b : Bool). b && true) here in
    ap (λ (b : Bool). map asked_of (cond b (stamped None a ∷ filter (is_visible last) (map (stamped None) deletes ++ rest)) (filter (is_visible last) (map (stamped None) deletes ++ rest)))) shown
    ∙ ap (λ (xs : List Asked). a ∷ xs) (deletes_seen last deletes rest (All-tail (λ s. nat_le s.ins last ≡ true) (stamped None a) (map (stamped None) deletes ++ rest) all))

-- the committed rows are the session's deletes and some others
pub deletes_apart : (last : ℕ) (deletes : List Asked) (table : List Stamped) → All (HasEpochs last) table → Within deletes table
    → (others : List Asked) × SameBag (map asked_of (filter (is_visible last) table)) (deletes ++ others)
deletes_apart last deletes table epochs (rest, bag) =
    let in_time : All (λ s. nat_le s.ins last ≡ true) table = All-weaker (HasEpochs last) (λ s. nat_le s.ins last ≡ true) (λ s has. let le = has.inserted in grind (arith, le)) table epochs in
    let all = all_of_bag (λ s. nat_le s.ins last) table (map (stamped None) deletes ++ rest) bag in_time in (
      map asked_of (filter (is_visible last) rest),
      subst (SameBag (map asked_of (filter (is_visible last) table))) (deletes_seen last deletes rest all)
          (bag_map asked_of (filter (is_visible last) table) (filter (is_visible last) (map (stamped None) deletes ++ rest)) (bag_filter (is_visible last) table (map (stamped None) deletes ++ rest) bag)),
    )

-- ---- what matches

pub on_fresh : {P : Type 0} (b : Bool) → b ≡ true → OnTrue b P → P
on_fresh true on p = p
on_fresh false on p = absurd (cc)

abbrev pub OneList : Type 0
OneList = (m : Contents) (p : Projected) (xs ys : List Stamped) → Stores m p xs → Stores m p ys → xs ≡ ys

matches_in : OneList → (m : Contents) (d : Database) (mark : ℕ) (changes : List Changes) (keep : List Expr) (u : Table) (p : Projected) (count : ℕ) (places : List (Option ℕ)) (rows : List Stamped) (committed : List Asked) (pending : List (List Value)) → mark ≤ d.last
    → IsSoundTable d u → Within (pending_deletes u.name changes) u.rows → count ≡ length u.columns → HasRows m mark u.rows p → IsSource count places p → Stores m p rows
    → AreFound keep d.last places rows changes u.name committed pending → AreMatchesIn keep d.last changes u committed pending
matches_in one m d mark changes keep u p count places rows committed pending le sound within many has source stores found =
    let history : HasHistory m mark u.rows p = on_fresh p.entry.fresh source.fresh has.fresh in
    let same : history.stored ≡ rows = one m p history.stored rows history.are stores in
    let wide : All (λ s. length s.row ≡ count) u.rows = All-weaker (λ s. RowFits u.columns s.row) (λ s. length s.row ≡ count) (λ s fits. zip_long u.columns s.row fits.each ∙ sym many) u.rows sound.rows in
    let shown : SameBag (seen_rows d.last places rows) (map asked_of (filter (is_visible d.last) u.rows)) =
    shows mark d.last count (ordinals p.entry) places rows u.rows le source.own wide (subst (λ (xs : List Stamped). IsHistoryOf mark p.entry xs u.rows) same history.history) in
    let deletes = pending_deletes u.name changes in
    let seen = map asked_of (filter (is_visible d.last) u.rows) in
    let (others, apart) = deletes_apart d.last deletes u.rows sound.epochs within in
    let left : SameBag committed (filter (matches keep) others) = found.committed_are others (bag_trans (seen_rows d.last places rows) seen (deletes ++ others) shown apart) in
    let view : SameBag (less deletes seen) others = less_is_less deletes seen others apart in
    record {
      committed_are = bag_trans committed (filter (matches keep) others) (committed_matches keep d.last changes u) left (bag_filter (matches keep) others (less deletes seen) (bag_sym (less deletes seen) others view));
      pending_are = subst (SameBag pending) found.pending_are (bag_refl pending);
    }

-- ---- at a place

pub all_at : {X : Type 0} (P : X → Type 0) (ys : List X) (k : ℕ) (y : X) → All P ys → slice_get ys k ≡ Some y → P y
all_at P [] k y all none = absurd (cc)
all_at P (z ∷ zs) zero y all is = subst P (same_Some z y is) (All-head P z zs all)
all_at P (z ∷ zs) (suc k) y all is = all_at P zs k y (All-tail P z zs all) is

-- the projection at a place of the table at a place holds the rows of the database's table there
pub at_place : (m : Contents) (mark : ℕ) (ts : List kept.Table) (pss : List (List Projected)) (us : List Table) (i place : ℕ) (t : kept.Table) (ps : List Projected) (p : Projected) → StandForTables m mark ts pss us → slice_get ts i ≡ Some t → slice_get pss i ≡ Some ps → slice_get ps place ≡ Some p
    → (u : Table) × (slice_get us i ≡ Some u) × (u.name ≡ t.name) × (u.columns ≡ t.columns) × HasRows m mark u.rows p
at_place m mark [] pss us i place t ps p stand table parts part = absurd (cc)
at_place m mark (x ∷ ts) [] us i place t ps p stand table parts part = absurd (cc)
at_place m mark (x ∷ ts) (xs ∷ pss) [] i place t ps p stand table parts part = absurd stand
at_place m mark (x ∷ ts) (xs ∷ pss) (u ∷ us) zero place t ps p (here, more) table parts part =
    let same : x ≡ t = same_Some x t table in
    let own : xs ≡ ps = same_Some xs ps parts in (
      u,
      refl,
      here.name ∙ ap (λ (y : kept.Table). y.name) same,
      here.columns ∙ ap (λ (y : kept.Table). y.columns) same,
      all_at (HasRows m mark u.rows) ps place p (subst (All (HasRows m mark u.rows)) own here.rows) part,
    )
at_place m mark (x ∷ ts) (xs ∷ pss) (u ∷ us) (suc i) place t ps p (here, more) table parts part = at_place m mark ts pss us i place t ps p more table parts part

pub matches_are : OneList → (m : Contents) (c : Catalogue) (stores : List (List Projected)) (d : Database) (changes : List Changes) (keep : List Expr) (i place : ℕ) (t : kept.Table) (ps : List Projected) (p : Projected) (places : List (Option ℕ)) (rows : List Stamped) (committed : List Asked) (pending : List (List Value))
    → AreDatabase m c stores d → IsSoundDatabase d → IsSoundSession d changes → slice_get c.tables i ≡ Some t → slice_get stores i ≡ Some ps → slice_get ps place ≡ Some p → IsSource (length t.columns) places p → Stores m p rows
    → AreFound keep c.last places rows changes t.name committed pending → AreMatches keep d changes i committed pending
matches_are one m c stores d changes keep i place t ps p places rows committed pending are sound session table parts part source stored found =
    let (u, there, name, columns, has) = at_place m c.ahm c.tables stores d.tables i place t ps p are.tables table parts part in
    let within = all_within d changes d.tables (found_all d.tables (names_differ d sound)) session.each in
    let le : c.ahm ≤ d.last = subst (λ (n : ℕ). n ≤ d.last) are.ahm sound.mark in
    let mine : AreFound keep d.last places rows changes u.name committed pending =
    subst (λ (n : List ℕ). AreFound keep d.last places rows changes n committed pending) (sym name) (subst (λ (n : ℕ). AreFound keep n places rows changes t.name committed pending) (sym are.last) found) in
    subst (λ (o : Option Table). IsSomeAnd o (λ v. AreMatchesIn keep d.last changes v committed pending)) (sym there)
    (matches_in one m d c.ahm changes keep u p (length t.columns) places rows committed pending le (all_at (IsSoundTable d) d.tables i u sound.tables there)
    (all_at (λ v. Within (pending_deletes v.name changes) v.rows) d.tables i u within there) (sym (ap (λ (cs : List Column). length cs) columns)) has source stored mine)

-- the projection that is read stores rows
pub source_stores : (m : Contents) (c : Catalogue) (stores : List (List Projected)) (d : Database) (i place count : ℕ) (t : kept.Table) (ps : List Projected) (p : Projected) (places : List (Option ℕ)) → AreDatabase m c stores d → slice_get c.tables i ≡ Some t → slice_get stores i ≡ Some ps → slice_get ps place ≡ Some p
    → IsSource count places p → (rows : List Stamped) × Stores m p rows
source_stores m c stores d i place count t ps p places are table parts part source =
    let (u, there, name, columns, has) = at_place m c.ahm c.tables stores d.tables i place t ps p are.tables table parts part in
    let history : HasHistory m c.ahm u.rows p = on_fresh p.entry.fresh source.fresh has.fresh in
    (history.stored, history.are)
