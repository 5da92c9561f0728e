-- A folder that passes reopens to a database: each table has the rows of its super projection of least name, with all columns.
use Rattle.std.proofs.Common.{◌≡◌, ◌≤◌, ◌<◌, ℕ, zero, suc, ◌+◌, ◌++◌, List, [], ◌∷◌, length, map, get_or, Bool, true, false, cond, refl, sym, ap, ap₂, ◌∙◌, arith, subst}
use Rattle.std.specs.Prelude.{◌==◌, ◌&&◌, ◌||◌, not, find, filter, slice_index_or, bytes_eq, Option, Some, None, IsSomeAnd}
use Rattle.std.specs.Bool.{OnTrue}
use Rattle.std.specs.List.{All, AllPairs, AllZip, flat_map, list_any, range_with_len, enumerate_from, slice_get}
use Rattle.std.proofs.lemmas.List.{length-map}
use Rattle.std.proofs.lemmas.List.Elements.{All-nil, All-cons, All-head, All-tail, All-map, All-weaker}
use Rattle.std.proofs.lemmas.List.Sums.{list_all-from_AllPass}
use Rattle.std.proofs.lemmas.List.FromFn.{length-enumerate_from}
use Rattle.common_laws.specs.Bags.{SameBag}
use Rattle.common_laws.specs.Maps.{Contents}
use Rattle.common_laws.proofs.BagLaws.{bag_refl, bag_sym}
use Rattle.catalog_types.specs.declared.catalogue.Container.{Container}
use Rattle.catalog_types.specs.declared.catalogue.ProjColumn.{ProjColumn}
use Rattle.catalog_types.specs.declared.catalogue.Projection.{Projection}
use Rattle.catalog_types.specs.declared.catalogue.Table as kept
use Rattle.catalog_types.specs.declared.catalogue.Catalogue.{Catalogue}
use Rattle.catalog_types.specs.Names.{names_of}
use Rattle.catalog_types.specs.Parts.{IsProjColumn, IsProjection, IsTable}
use Rattle.catalog_types.specs.Reached.{least_lge}
use Rattle.catalog_types.specs.Valid.{IsValid}
use Rattle.catalog_root.specs.Root.{IsRoot}
use Rattle.catalog_root.specs.declared.found.Found.TheVariants.{Root}
use Rattle.col_value.specs.declared.column.Column.{Column}
use Rattle.col_value.specs.declared.kinds.Encoding.{Encoding}
use Rattle.col_value.specs.declared.row.Stamped.{Stamped}
use Rattle.cut_model.proofs.Least.{mark_reached}
use Rattle.db_model.specs.Database as db
use Rattle.db_model.specs.Epochs.{moved_shape}
use Rattle.db_model.specs.Sound as sound
use Rattle.ros_container.specs.Encodings.{Written, written_of}
use Rattle.row_history.specs.History.{cut_rows, on_columns, retained}
use Rattle.row_history.proofs.Histories.{retained_columns, retained_later}
use Rattle.stored_rows.specs.Held.{HoldsRows, Holds}
use Rattle.folder_model.specs.Projections.{ordinals, shape_of, HoldsHistory}
use Rattle.folder_model.specs.Reopening.{IsTableAt, Reopens}
use Rattle.audit_model.specs.Listed.{place, places_in, places_of}
use Rattle.audit_model.specs.Pairs.{in_columns, is_other, is_super, pair, pairs_with, place_in, super_of, IsSamePair}
use Rattle.audit_model.specs.Rows.{judged, IsGood, IsGoodPlace, IsGoodRow}
use Rattle.audit_model.specs.Verdicts.{PassesAudit}
use Rattle.audit_model.proofs.Columns.{has, rows_themselves, rows_whole}
use Rattle.audit_model.proofs.Epochs.{judged_epochs, rows_late}
use Rattle.audit_model.proofs.Good.{fits_whole, good_long}
use Rattle.audit_model.proofs.HeldRows.{each_judged, joined}
use Rattle.audit_model.proofs.Lists.{all_parts, all_unmapped, found_has, kept_all}
use Rattle.audit_model.proofs.Names.{told_apart}
use Rattle.audit_model.proofs.Supers.{one_of_name, super_fresh, super_has, super_there}

-- files hold one list of rows
abbrev pub HeldOnce : Type 0
HeldOnce = (m : Contents) (written : List Written) (ks : List Container) (xs ys : List Stamped) → HoldsRows m written ks xs → HoldsRows m written ks ys → xs ≡ ys

-- the files of a projection hold rows, and what is judged of them is good
abbrev pub HasGood : Contents → Catalogue → kept.Table → Projection → Type 0
HasGood m c t p = (held : List Stamped) × Holds m p held × All (IsGoodRow t p) (judged c held)

good_held : (m : Contents) (c : Catalogue) (t : kept.Table) (p : Projection) → All (IsGoodPlace m c) (places_in t p) → HasGood m c t p
good_held m c t p all = by (joined m p (IsGood c t p) p.containers (all_unmapped (IsGoodPlace m c) (place t p) p.containers all))
  where
    by : (held : List Stamped) × HoldsRows m (written_of p) p.containers held × All (IsGood c t p) held → HasGood m c t p
    by (held, holds, good) = (held, holds, each_judged c t p held good)

pub table_good : (m : Contents) (c : Catalogue) (t : kept.Table) → All (IsGoodPlace m c) (places_of t) → All (HasGood m c t) t.projections
table_good m c t all =
    All-weaker (λ p. All (IsGoodPlace m c) (places_in t p)) (HasGood m c t) (λ p. good_held m c t p) t.projections (all_parts (IsGoodPlace m c) (places_in t) t.projections all)

-- ---- a table

-- the places of the table's columns in a projection that has all of them
abbrev whole : kept.Table → Projection → List ℕ
whole t s = map (place_in (ordinals s)) (range_with_len 0 (length t.columns))

abbrev made_table : Catalogue → kept.Table → Projection → List Stamped → db.Table
made_table c t s xs = record { name = t.name; columns = t.columns; rows = map (on_columns (whole t s)) xs; shapes = map (λ p. moved_shape (least_lge c) (shape_of p)) t.projections }

below_itself : (n : ℕ) → n ≤ n
below_itself n = omega arith

-- the table's rows in a projection's columns are the super projection's
rows_in : (c : Catalogue) (t : kept.Table) (s p : Projection) (held : List Stamped) → All (λ i. i < length t.columns) (ordinals p)
    → map (on_columns (ordinals p)) (retained c.ahm (made_table c t s (judged c held)).rows) ≡ in_columns s p (judged c held)
rows_in c t s p held below =
    ap (map (on_columns (ordinals p))) (retained_columns (whole t s) c.ahm (judged c held) ∙ ap (map (on_columns (whole t s))) (retained_later c.ahm c.ahm (cut_rows (least_lge c) held) (below_itself c.ahm)))
    ∙ rows_whole (place_in (ordinals s)) (length t.columns) (ordinals p) (judged c held) below

there_below : (xs : List Column) (i : ℕ) (Q : Column → Type 0) → IsSomeAnd (slice_get xs i) Q → i < length xs
there_below xs i Q there = by xs i there
  where
    by : (ys : List Column) (j : ℕ) → IsSomeAnd (slice_get ys j) Q → j < length ys
    by [] j there = absurd there
    by (y ∷ ys) zero there = omega arith
    by (y ∷ ys) (suc j) there = let rest = by ys j there in omega (arith, rest)

pub ordinals_below : (columns : List Column) (ks : List ProjColumn) → All (IsProjColumn columns) ks → All (λ i. i < length columns) (map (λ k. k.ordinal) ks)
ordinals_below columns ks all = All-map (λ i. i < length columns) (λ k. k.ordinal) ks (λ n d lt. there_below columns (slice_index_or ks n d).ordinal _ (all n d lt))

history : HeldOnce → (m : Contents) (c : Catalogue) (t : kept.Table) (s p : Projection) (held : List Stamped) → IsProjection c t p → Holds m s held → All (IsGoodRow t s) (judged c held) → HasGood m c t p
    → (bytes_eq p.name s.name ≡ true → p ≡ s) → (is_other s p ≡ true → IsSamePair m c (pair t s p)) → p.fresh ≡ true → HoldsHistory m c.ahm (least_lge c) (made_table c t s (judged c held)).rows p
history once m c t s p held valid holds good (own, owns, fits) named same fresh =
    (own, owns, subst (SameBag (judged c own)) (sym (rows_in c t s p held (ordinals_below t.columns p.columns valid.columns))) (by (bytes_eq p.name s.name) refl))
  where
    itself : (q : Projection) (rows : List Stamped) → q ≡ s → Holds m q rows → IsProjection c t q → SameBag (judged c rows) (in_columns s q (judged c held))
    itself q rows is also ok =
        let one : rows ≡ held = once m (written_of s) s.containers rows held (subst (λ (x : Projection). Holds m x rows) is also) holds in
        let back : in_columns s s (judged c held) ≡ judged c held = rows_themselves s.columns (judged c held) (subst (λ (x : Projection). IsProjection c t x) is ok).columns_once (All-weaker (IsGoodRow t s) (λ x. length x.row ≡ length s.columns) (λ x. good_long t s x) (judged c held) good) in
        subst (λ (x : Projection). SameBag (judged c rows) (in_columns s x (judged c held))) (sym is)
        (subst (SameBag (judged c rows)) (ap (judged c) one ∙ sym back) (bag_refl (judged c rows)))

    other : IsSamePair m c (pair t s p) → SameBag (judged c own) (in_columns s p (judged c held))
    other (xs, ys, (a, first, is), (b, second, are), bag) =
        let one : a ≡ held = once m (written_of s) s.containers a held first holds in
        let two : b ≡ own = once m (written_of p) p.containers b own second owns in
        bag_sym (in_columns s p (judged c held)) (judged c own)
        (subst (λ (zs : List Stamped). SameBag (in_columns s p zs) (judged c own)) (is ∙ ap (judged c) one) (subst (SameBag (in_columns s p xs)) (are ∙ ap (judged c) two) bag))

    by : (b : Bool) → bytes_eq p.name s.name ≡ b → SameBag (judged c own) (in_columns s p (judged c held))
    by true is = itself p own (named is) owns valid
    by false is = other (same (ap₂ (λ (x y : Bool). x && not y) fresh is))

on_fresh : (b : Bool) {P : Type 0} → (b ≡ true → P) → OnTrue b P
on_fresh true h = h refl
on_fresh false h = tt

-- ---- it is sound

shape_sound : (d : db.Database) (epoch : ℕ) (p : Projection) → d.last ≡ epoch → d.ahm ≤ epoch → sound.IsSoundShape d (moved_shape epoch (shape_of p))
shape_sound d epoch p last mark = by p.fresh refl
  where
    closed : epoch ≤ d.last
    closed = omega (arith, last)

    moved : (b : Bool) → OnTrue b (sound.ReachesMark d (record (shape_of p) { lge = epoch }))
    moved true = record { mark = mark; closed = closed }
    moved false = tt

    still : (b : Bool) → b ≡ false → OnTrue b (sound.ReachesMark d (shape_of p))
    still true is = absurd cc
    still false is = tt

    by : (b : Bool) → p.fresh ≡ b → sound.IsSoundShape d (cond b (record (shape_of p) { lge = epoch }) (shape_of p))
    by true is = moved p.fresh
    by false is = still p.fresh is

has_shape : (ks : List ProjColumn) (i : ℕ) → list_any (λ (c : ℕ × Encoding). c.0 == i) (map (λ c. (c.ordinal, c.encoding)) ks) ≡ has (map (λ c. c.ordinal) ks) i
has_shape [] i = refl
has_shape (k ∷ ks) i = ap (λ (b : Bool). (k.ordinal == i) || b) (has_shape ks i)

super_shape : (c : Catalogue) (t : kept.Table) (s : Projection) (u : db.Table) → u.columns ≡ t.columns → s.fresh ≡ true → ((i : ℕ) → i < length t.columns → has (ordinals s) i ≡ true)
    → db.is_super u (moved_shape (least_lge c) (shape_of s)) ≡ true
super_shape c t s u columns fresh all =
    ap (λ (b : Bool). db.is_super u (cond b (record (shape_of s) { lge = least_lge c }) (shape_of s))) fresh
    ∙ ap₂ (λ (a b : Bool). a && b) fresh (list_all-from_AllPass test (db.ordinals u) (λ k d lt.
    let long : k < length u.columns = omega (arith, lt, length-map (enumerate_from 0 u.columns) (λ (e : ℕ × Column). e.0), length-enumerate_from 0 u.columns) in
    let place : get_or (db.ordinals u) k d ≡ k = at k d long in
    ap test place ∙ has_shape s.columns k ∙ all k (omega (arith, long, ap length columns))))
  where
    test : ℕ → Bool
    test i = list_any (λ (c : ℕ × Encoding). c.0 == i) (map (λ c. (c.ordinal, c.encoding)) s.columns)

    at : (k d : ℕ) → k < length u.columns → get_or (db.ordinals u) k d ≡ k
    at k d long = numbered 0 u.columns k d long ∙ omega arith
      where
        numbered : (from : ℕ) (xs : List Column) (i e : ℕ) → i < length xs → get_or (map (λ (x : ℕ × Column). x.0) (enumerate_from from xs)) i e ≡ from + i
        numbered from [] i e lt = absurd (omega (arith, lt))
        numbered from (x ∷ xs) zero e lt = omega arith
        numbered from (x ∷ xs) (suc i) e lt = let rest = numbered (from + 1) xs i e (omega (arith, lt)) in omega (arith, rest)

found_any : (p : db.Shape → Bool) (f : Projection → db.Shape) (test : Projection → Bool) (ps : List Projection) (s : Projection) → find test ps ≡ Some s → p (f s) ≡ true → list_any p (map f ps) ≡ true
found_any p f test [] s found passes = absurd (let never : None ≡ Some s = found in cc)
found_any p f test (x ∷ ps) s found passes = by (test x) found (λ is. found_any p f test ps s is passes)
  where
    or_right : (a b : Bool) → b ≡ true → (a || b) ≡ true
    or_right true b is = refl
    or_right false b is = is

    by : (b : Bool) → cond b (Some x) (find test ps) ≡ Some s → (find test ps ≡ Some s → list_any p (map f ps) ≡ true) → (p (f x) || list_any p (map f ps)) ≡ true
    by true is later = let same : x ≡ s = cc in ap (λ (b : Bool). b || list_any p (map f ps)) (ap (λ (y : Projection). p (f y)) same ∙ passes)
    by false is later = or_right (p (f x)) (list_any p (map f ps)) (later is)

table_sound : (m : Contents) (c : Catalogue) (t : kept.Table) (s : Projection) (held : List Stamped) (d : db.Database) → IsValid c → IsProjection c t s → super_of t ≡ Some s → Holds m s held
    → All (IsGoodRow t s) (judged c held) → d.last ≡ least_lge c → d.ahm ≡ c.ahm → sound.IsSoundTable d (made_table c t s (judged c held))
table_sound m c t s held d valid is found holds good last mark =
    let all = super_has t s found in
    record {
      rows = All-map (λ r. sound.RowFits t.columns r.row) (on_columns (whole t s)) (judged c held)
          (All-weaker (IsGoodRow t s) (λ x. sound.RowFits t.columns (on_columns (whole t s) x).row) (λ x. fits_whole t s x all) (judged c held) good);
      epochs = All-map (sound.HasEpochs d.last) (on_columns (whole t s)) (judged c held)
          (All-weaker (sound.HasEpochs (least_lge c)) (λ x. sound.HasEpochs d.last (on_columns (whole t s) x)) (λ x has_. moved x has_) (judged c held)
          (judged_epochs c t s held (rows_late m (written_of s) c.next (length s.columns) s.lge s.containers held is.containers holds) good));
      shapes = All-map (sound.IsSoundShape d) (λ p. moved_shape (least_lge c) (shape_of p)) t.projections
          (λ k e lt. shape_sound d (least_lge c) (slice_index_or t.projections k e) last (omega (arith, mark, mark_reached c valid)));
      super = found_any (db.is_super (made_table c t s (judged c held))) (λ p. moved_shape (least_lge c) (shape_of p)) (is_super t) t.projections s found
          (super_shape c t s (made_table c t s (judged c held)) refl (super_fresh t s found) all);
    }
  where
    moved : (x : Stamped) → sound.HasEpochs (least_lge c) x → sound.HasEpochs d.last (on_columns (whole t s) x)
    moved x h = subst (λ (n : ℕ). sound.HasEpochs n (on_columns (whole t s) x)) (sym last) (record { first = h.first; inserted = h.inserted; deleted = h.deleted })

-- ---- one table after the other

shape_names : (epoch : ℕ) (ps : List Projection) → map (λ s. s.name) (map (λ p. moved_shape epoch (shape_of p)) ps) ≡ map (λ p. p.name) ps
shape_names epoch [] = refl
shape_names epoch (p ∷ ps) = ap₂ (λ (n : List ℕ) (ns : List (List ℕ)). n ∷ ns) (one p.fresh) (shape_names epoch ps)
  where
    one : (b : Bool) → (cond b (record (shape_of p) { lge = epoch }) (shape_of p)).name ≡ p.name
    one true = refl
    one false = refl

-- a table of the database that the folder reopens to
pub record Made (m : Contents) (c : Catalogue) (t : kept.Table) : Type 0 where
  pub table : db.Table
  pub at : IsTableAt m c.ahm (least_lge c) t table
  pub names : sound.names_of table ≡ names_of t
  pub sound : (d : db.Database) → d.last ≡ least_lge c → d.ahm ≡ c.ahm → sound.IsSoundTable d table

made : HeldOnce → (m : Contents) (c : Catalogue) (t : kept.Table) → IsValid c → IsTable c t → All (IsGoodPlace m c) (places_of t) → All (IsSamePair m c) (pairs_with t (super_of t)) → Made m c t
made once m c t valid is rows same = by (super_there t is.super)
  where
    goods : All (HasGood m c t) t.projections
    goods = table_good m c t rows

    with_super : (s : Projection) → super_of t ≡ Some s → HasGood m c t s → Made m c t
    with_super s found (held, holds, good) =
        let others : All (λ p. is_other s p ≡ true → IsSamePair m c (pair t s p)) t.projections =
        kept_all (λ p. IsSamePair m c (pair t s p)) (is_other s) t.projections (all_unmapped (IsSamePair m c) (pair t s) (filter (is_other s) t.projections) (subst (λ (o : Option Projection). All (IsSamePair m c) (pairs_with t o)) found same)) in
        let named = one_of_name (is_super t) t.projections s is.ascending found in
        record {
          table = made_table c t s (judged c held);
          at = record {
            name = refl;
            columns = refl;
            shapes = refl;
            rows = λ k d lt. on_fresh (slice_index_or t.projections k d).fresh (history once m c t s (slice_index_or t.projections k d) held (is.projections k d lt) holds good (goods k d lt) (named k d lt) (others k d lt));
          };
          names = ap (λ (ns : List (List ℕ)). t.name ∷ ns) (shape_names (least_lge c) t.projections);
          sound = λ d last mark. table_sound m c t s held d valid (found_has (IsProjection c t) (is_super t) t.projections s found is.projections) found holds good last mark;
        }

    by : (s : Projection) × (super_of t ≡ Some s) → Made m c t
    by (s, found) = with_super s found (found_has (HasGood m c t) (is_super t) t.projections s found goods)

pub record AllMade (m : Contents) (c : Catalogue) (ts : List kept.Table) : Type 0 where
  pub tables : List db.Table
  pub at : AllZip (IsTableAt m c.ahm (least_lge c)) ts tables
  pub names : sound.all_names tables ≡ flat_map names_of ts
  pub sound : (d : db.Database) → d.last ≡ least_lge c → d.ahm ≡ c.ahm → All (sound.IsSoundTable d) tables

all_made : (m : Contents) (c : Catalogue) (ts : List kept.Table) → All (Made m c) ts → AllMade m c ts
all_made m c [] all = record { tables = []; at = tt; names = refl; sound = λ d last mark. All-nil (sound.IsSoundTable d) }
all_made m c (t ∷ ts) all =
    let here = All-head (Made m c) t ts all in
    let rest = all_made m c ts (All-tail (Made m c) t ts all) in
    record {
      tables = here.table ∷ rest.tables;
      at = (here.at, rest.at);
      names = ap₂ (λ (a b : List (List ℕ)). a ++ b) here.names rest.names;
      sound = λ d last mark. All-cons (sound.IsSoundTable d) here.table rest.tables (here.sound d last mark) (rest.sound d last mark);
    }

pub passing_reopens : HeldOnce → (m : Contents) (v : ℕ) (c : Catalogue) → IsRoot m v c → PassesAudit m c → (d : db.Database) × Reopens m d × (d.last ≡ least_lge c) × (d.ahm ≡ c.ahm)
passing_reopens once m v c root passes =
    let rows = all_parts (IsGoodPlace m c) places_of c.tables passes.rows in
    let same = all_parts (IsSamePair m c) (λ t. pairs_with t (super_of t)) c.tables passes.pairs in
    let made_ = all_made m c c.tables (λ k d lt. made once m c (slice_index_or c.tables k d) root.valid (root.valid.tables k d lt) (rows k d lt) (same k d lt)) in
    let d : db.Database = record { tables = made_.tables; last = least_lge c; ahm = c.ahm } in (
      d,
      record {
        root = Root v c;
        opens = root;
        is_cut = record { last = refl; ahm = refl; tables = made_.at };
        sound = record {
          names = subst (AllPairs (λ m n. bytes_eq m n ≡ false)) (sym made_.names) (told_apart (flat_map names_of c.tables) root.valid.names_once);
          tables = made_.sound d refl refl;
          mark = mark_reached c root.valid;
        };
      },
      refl,
      refl,
    )
