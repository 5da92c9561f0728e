-- A folder that reopens to a database passes.
use Rattle.std.proofs.Common.{◌≡◌, ◌<◌, ◌≤◌, ℕ, List, [], ◌∷◌, length, map, Bool, true, false, refl, sym, arith, subst}
use Rattle.std.specs.Prelude.{not, filter, slice_index_or, bytes_eq, Option, Some, None, IfSome}
use Rattle.std.specs.Bool.{OnTrue, OnFalse}
use Rattle.std.specs.List.{All, AllZip}
use Rattle.std.proofs.lemmas.List.{length-map}
use Rattle.std.proofs.lemmas.List.Elements.{All-nil, All-cons, All-head, All-tail, All-map, All-weaker, All-filter}
use Rattle.common_laws.specs.Bags.{SameBag}
use Rattle.common_laws.specs.Maps.{Contents}
use Rattle.common_laws.proofs.BagLaws.{bag_map, bag_sym, bag_trans}
use Rattle.common_laws.proofs.Truths.{and_true}
use Rattle.catalog_types.specs.declared.catalogue.Projection.{Projection}
use Rattle.catalog_types.specs.declared.catalogue.Table as kept
use Rattle.catalog_types.specs.declared.catalogue.Catalogue.{Catalogue}
use Rattle.catalog_types.specs.Parts.{FitsColumn, IsProjection, IsTable, takes_kind}
use Rattle.catalog_types.specs.Reached.{least_lge}
use Rattle.catalog_types.specs.Valid.{IsValid}
use Rattle.catalog_root.specs.Root.{IsRoot, Opens}
use Rattle.catalog_root.specs.declared.found.Found.{Found}
use Rattle.catalog_root.specs.declared.found.Found.TheVariants.{Fresh, Root}
use Rattle.catalog_root.proofs.Roots.{one_root, not_fresh}
use Rattle.col_value.specs.declared.column.Column.{Column}
use Rattle.col_value.specs.declared.row.Stamped.{Stamped}
use Rattle.db_model.specs.Database.{Database, Table}
use Rattle.db_model.specs.Sound.{IsSoundTable, RowFits}
use Rattle.row_history.specs.History.{is_retained, on_columns, retained}
use Rattle.folder_model.specs.Projections.{ordinals, HoldsHistory}
use Rattle.folder_model.specs.Reopening.{IsTableAt, IsCutOf, ReopensBy, Reopens}
use Rattle.audit_model.specs.Listed.{Place, file, files, files_in, parts, place, places, places_in, places_of, IsSpelled}
use Rattle.audit_model.specs.Pairs.{in_columns, is_other, pair, pairs_with, places_among, super_of, is_super, IsSamePair}
use Rattle.audit_model.specs.Rows.{judged, IsGood, IsGoodPlace, IsGoodRow}
use Rattle.audit_model.specs.Verdicts.{PassesAudit}
use Rattle.audit_model.proofs.Building.{parts_there}
use Rattle.audit_model.proofs.Columns.{has, rows_again}
use Rattle.audit_model.proofs.Good.{good_in}
use Rattle.audit_model.proofs.HeldRows.{apart, judged_each}
use Rattle.audit_model.proofs.Lists.{all_flat, all_kept, found_has}
use Rattle.bag_difference.proofs.Orders.{all_of_bag}
use Rattle.audit_model.proofs.Supers.{super_fresh, super_has}
use Rattle.audit_model.proofs.Yes.{ordinals_below}

-- ---- the rows

later_only : (ins last : ℕ) (del : Option ℕ) → IfSome del (λ d. (ins < d) × (d ≤ last)) → IfSome del (λ d. ins < d)
later_only ins last None told = tt
later_only ins last (Some d) told = told.0

abbrev rows_of : Catalogue → Projection → Table → List Stamped
rows_of c p u = map (on_columns (ordinals p)) (retained c.ahm u.rows)

table_rows_good : (c : Catalogue) (t : kept.Table) (p : Projection) (u : Table) (d : Database) → IsProjection c t p → u.columns ≡ t.columns → IsSoundTable d u → All (IsGoodRow t p) (rows_of c p u)
table_rows_good c t p u d valid columns sound =
    All-map (IsGoodRow t p) (on_columns (ordinals p)) (retained c.ahm u.rows) (All-filter (is_retained c.ahm) (λ s. IsGoodRow t p (on_columns (ordinals p) s)) u.rows (λ k e lt.
    let s = slice_index_or u.rows k e in
    let fits : RowFits t.columns s.row = subst (λ (cs : List Column). RowFits cs s.row) columns (sound.rows k e lt) in
    good_in t p (λ x column. (takes_kind x.encoding column.kind ≡ true) × IfSome x.default (FitsColumn column)) s valid.columns fits (later_only s.ins d.last s.del (sound.epochs k e lt).deleted)))

places_good : (m : Contents) (c : Catalogue) (t : kept.Table) (p : Projection) (u : Table) (d : Database) → IsProjection c t p → u.columns ≡ t.columns → IsSoundTable d u
    → OnTrue p.fresh (HoldsHistory m c.ahm (least_lge c) u.rows p) → All (IsGoodPlace m c) (places_in t p)
places_good m c t p u d valid columns sound held = by p.fresh held valid.stale
  where
    by : (b : Bool) → OnTrue b (HoldsHistory m c.ahm (least_lge c) u.rows p) → OnFalse b ((p.lge ≡ 0) × (p.born ≡ 0) × (length p.containers ≡ 0)) → All (IsGoodPlace m c) (places_in t p)
    by true (own, owns, bag) stale =
        All-map (IsGoodPlace m c) (place t p) p.containers
        (apart m p (IsGood c t p) p.containers own owns (judged_each c t p own
        (all_of_bag (IsGoodRow t p) (rows_of c p u) (judged c own) (bag_sym (judged c own) (rows_of c p u) bag) (table_rows_good c t p u d valid columns sound))))
    by false held stale = λ k e lt. absurd (omega (arith, lt, length-map p.containers (place t p), stale.2))

-- ---- the pairs

ordinals_had : (t : kept.Table) (s : Projection) (ns : List ℕ) → super_of t ≡ Some s → All (λ i. i < length t.columns) ns → All (λ i. has (ordinals s) i ≡ true) ns
ordinals_had t s ns found below = All-weaker (λ i. i < length t.columns) (λ i. has (ordinals s) i ≡ true) (λ i lt. super_has t s found i lt) ns below

pair_same : (m : Contents) (c : Catalogue) (t : kept.Table) (s q : Projection) (u : Table) → super_of t ≡ Some s → IsProjection c t q → HoldsHistory m c.ahm (least_lge c) u.rows s → HoldsHistory m c.ahm (least_lge c) u.rows q
    → IsSamePair m c (pair t s q)
pair_same m c t s q u found valid (own, owns, is) (other, others, are) = (
  judged c own,
  judged c other,
  (own, owns, refl),
  (other, others, refl),
  bag_trans (in_columns s q (judged c own)) (rows_of c q u) (judged c other)
      (subst (SameBag (in_columns s q (judged c own))) (rows_again (ordinals s) (ordinals q) (retained c.ahm u.rows) (ordinals_had t s (ordinals q) found (ordinals_below t.columns q.columns valid.columns)))
      (bag_map (on_columns (places_among s q)) (judged c own) (rows_of c s u) is))
      (bag_sym (judged c other) (rows_of c q u) are),
)

when_on : (b : Bool) {P : Type 0} → b ≡ true → OnTrue b P → P
when_on true is p = p
when_on false is p = absurd cc

pairs_same : (m : Contents) (c : Catalogue) (t : kept.Table) (u : Table) → IsTable c t → All (λ p. OnTrue p.fresh (HoldsHistory m c.ahm (least_lge c) u.rows p)) t.projections → All (IsSamePair m c) (pairs_with t (super_of t))
pairs_same m c t u valid rows = by (super_of t) refl
  where
    by : (o : Option Projection) → super_of t ≡ o → All (IsSamePair m c) (pairs_with t o)
    by None found = All-nil (IsSamePair m c)
    by (Some s) found =
        let first = when_on s.fresh (super_fresh t s found) (found_has (λ p. OnTrue p.fresh (HoldsHistory m c.ahm (least_lge c) u.rows p)) (is_super t) t.projections s found rows) in
        All-map (IsSamePair m c) (pair t s) (filter (is_other s) t.projections)
        (all_kept (λ q. IsSamePair m c (pair t s q)) (is_other s) t.projections (λ k e lt other.
        let q = slice_index_or t.projections k e in
        pair_same m c t s q u found (valid.projections k e lt) first (when_on q.fresh (and_true q.fresh (not (bytes_eq q.name s.name)) other).0 (rows k e lt))))

-- ---- tables

pub record Good (m : Contents) (c : Catalogue) (t : kept.Table) : Type 0 where
  pub rows : All (IsGoodPlace m c) (places_of t)
  pub pairs : All (IsSamePair m c) (pairs_with t (super_of t))

table_good : (m : Contents) (c : Catalogue) (t : kept.Table) (u : Table) (d : Database) → IsTable c t → IsTableAt m c.ahm (least_lge c) t u → IsSoundTable d u → Good m c t
table_good m c t u d valid is sound = record {
  rows = all_flat (IsGoodPlace m c) (places_in t) t.projections (λ k e lt. places_good m c t (slice_index_or t.projections k e) u d (valid.projections k e lt) is.columns sound (is.rows k e lt));
  pairs = pairs_same m c t u valid is.rows;
}

tables_good : (m : Contents) (c : Catalogue) (d : Database) (ts : List kept.Table) (us : List Table) → All (IsTable c) ts → AllZip (IsTableAt m c.ahm (least_lge c)) ts us → All (IsSoundTable d) us → All (Good m c) ts
tables_good m c d [] us valid are sound = All-nil (Good m c)
tables_good m c d (t ∷ ts) [] valid are sound = absurd are
tables_good m c d (t ∷ ts) (u ∷ us) valid (is, are) sound =
    All-cons (Good m c) t ts (table_good m c t u d (All-head (IsTable c) t ts valid) is (All-head (IsSoundTable d) u us sound))
    (tables_good m c d ts us (All-tail (IsTable c) t ts valid) are (All-tail (IsSoundTable d) u us sound))

-- where rows are held the files are their spelling
pub files_spelled : (m : Contents) (c : Catalogue) → All (IsGoodPlace m c) (places c) → All (IsSpelled m) (files c)
files_spelled m c rows = all_flat (IsSpelled m) files_in (places c) (λ k e lt. one (slice_index_or (places c) k e) (rows k e lt))
  where
    one : (x : Place) → IsGoodPlace m c x → All (IsSpelled m) (files_in x)
    one x (here, held, good) = All-map (IsSpelled m) (file x.projection x.container) (parts x.container) (parts_there m x.projection x.container here held)

pub cut_passes : (m : Contents) (c : Catalogue) (d : Database) → IsValid c → IsCutOf m c d → All (IsSoundTable d) d.tables → PassesAudit m c
cut_passes m c d valid is sound =
    let good = tables_good m c d c.tables d.tables valid.tables is.tables sound in
    let rows = all_flat (IsGoodPlace m c) places_of c.tables (λ k e lt. (good k e lt).rows) in
    record {
      files = files_spelled m c rows;
      rows = rows;
      pairs = all_flat (IsSamePair m c) (λ t. pairs_with t (super_of t)) c.tables (λ k e lt. (good k e lt).pairs);
    }

-- by what the folder opens to
pub cut_by_root : (m : Contents) (v : ℕ) (c : Catalogue) (d : Database) → IsRoot m v c → Reopens m d → IsCutOf m c d
cut_by_root m v c d root reopens = by reopens.root reopens.opens reopens.is_cut
  where
    by : (f : Found) → Opens m f → ReopensBy m f d → IsCutOf m c d
    by Fresh opens is = absurd (not_fresh m v c root opens)
    by (Root w r) opens is = subst (λ (x : Catalogue). IsCutOf m x d) (sym (one_root m v w c r root opens).1) is

pub reopening_passes : (m : Contents) (v : ℕ) (c : Catalogue) (d : Database) → IsRoot m v c → Reopens m d → PassesAudit m c
reopening_passes m v c d root reopens = cut_passes m c d root.valid (cut_by_root m v c d root reopens) reopens.sound.tables
