-- The database to which a folder reopens stays where files change that its catalogue doesn't list.
use Rattle.std.proofs.Common.{ℕ, ◌≤◌, ◌<◌, List, [], ◌∷◌, length, Option, Some, None, refl, arith}
use Rattle.std.specs.Bool.{OnTrue}
use Rattle.std.specs.List.{All, AllZip, flat_map}
use Rattle.std.specs.Option.{IfSome}
use Rattle.std.proofs.lemmas.List.Elements.{All-head, All-tail, All-cons, All-nil, All-weaker, All-contains}
use Rattle.common_laws.specs.Maps.{Contents}
use Rattle.col_disk.specs.Moved.{Changed}
use Rattle.col_value.specs.declared.row.Stamped.{Stamped}
use Rattle.catalog_types.specs.declared.span.Span.{Span}
use Rattle.catalog_types.specs.declared.catalogue.Container.{Container}
use Rattle.catalog_types.specs.declared.catalogue.Projection.{Projection}
use Rattle.catalog_types.specs.declared.catalogue.Table as kept
use Rattle.catalog_types.specs.declared.catalogue.Catalogue.{Catalogue}
use Rattle.catalog_types.specs.Numbers.{files, span_of, mark, container_spans, projection_spans, table_spans}
use Rattle.catalog_types.specs.Parts.{IsContainer, IsProjection, IsTable}
use Rattle.catalog_types.specs.Valid.{IsValid}
use Rattle.catalog_types.specs.Reached.{least_lge}
use Rattle.catalog_types.proofs.Pairs.{all_flat}
use Rattle.catalog_root.specs.declared.found.Found.TheVariants.{Root}
use Rattle.catalog_root.specs.Root.{data_file, Opens}
use Rattle.catalog_root.specs.Listed.{IsListed}
use Rattle.catalog_root.specs.Quiet.{IsSpare, IsUseless}
use Rattle.catalog_root.proofs.Quieting.{root_stays, listed_stay}
use Rattle.db_model.specs.Database.{Database, Table}
use Rattle.stored_rows.specs.Listed.{SameEntry}
use Rattle.stored_rows.proofs.KeptRows.{entry_kept}
use Rattle.folder_model.specs.Projections.{HoldsHistory}
use Rattle.folder_model.specs.Reopening.{IsTableAt, IsCutOf}
use Rattle.folder_model.proofs.ListedFiles.{SameTables, tables_same}
use Rattle.cut_model.proofs.Cutting.{on_same}

entries_stay : (m x : Contents) (mark epoch : ℕ) (rows : List Stamped) (ps : List Projection) → All (SameEntry m x) ps → All (λ p. OnTrue p.fresh (HoldsHistory m mark epoch rows p)) ps
    → All (λ p. OnTrue p.fresh (HoldsHistory x mark epoch rows p)) ps
entries_stay m x mark epoch rows [] same held = All-nil (λ p. OnTrue p.fresh (HoldsHistory x mark epoch rows p))
entries_stay m x mark epoch rows (p ∷ ps) same held =
    let here = All-head (SameEntry m x) p ps same in
    All-cons (λ q. OnTrue q.fresh (HoldsHistory x mark epoch rows q)) p ps
    (on_same p.fresh p.fresh {P = HoldsHistory m mark epoch rows p} refl (λ h. (h.0, entry_kept m x p h.0 here h.1, h.2)) (All-head (λ q. OnTrue q.fresh (HoldsHistory m mark epoch rows q)) p ps held))
    (entries_stay m x mark epoch rows ps (All-tail (SameEntry m x) p ps same) (All-tail (λ q. OnTrue q.fresh (HoldsHistory m mark epoch rows q)) p ps held))

pub tables_stay : (m x : Contents) (mark epoch : ℕ) (ts : List kept.Table) (us : List Table) → SameTables m x ts → AllZip (IsTableAt m mark epoch) ts us → AllZip (IsTableAt x mark epoch) ts us
tables_stay m x mark epoch [] [] same at = tt
tables_stay m x mark epoch [] (u ∷ us) same at = absurd at
tables_stay m x mark epoch (t ∷ ts) [] same at = absurd at
tables_stay m x mark epoch (t ∷ ts) (u ∷ us) same (here, more) = (
  record {
    name = here.name;
    columns = here.columns;
    shapes = here.shapes;
    rows = entries_stay m x mark epoch u.rows t.projections (All-head (λ y. All (SameEntry m x) y.projections) t ts same) here.rows;
  },
  tables_stay m x mark epoch ts us (All-tail (λ y. All (SameEntry m x) y.projections) t ts same) more,
)

pub cut_stays : (m x : Contents) (v : ℕ) (c : Catalogue) (d : Database) → Changed (IsSpare (Root v c)) (IsUseless (Root v c)) m x → IsCutOf m c d → IsCutOf x c d
cut_stays m x v c d changed is = record {
  last = is.last;
  ahm = is.ahm;
  tables =
      tables_stay m x c.ahm (least_lge c) c.tables d.tables
      (tables_same m x c (λ k listed. listed_stay (IsSpare (Root v c)) (IsUseless (Root v c)) m x v c (λ q w. w) (λ q r. r) changed k listed)) is.tables;
}

pub opens_stay : (m x : Contents) (v : ℕ) (c : Catalogue) → Changed (IsSpare (Root v c)) (IsUseless (Root v c)) m x → Opens m (Root v c) → Opens x (Root v c)
opens_stay m x v c changed root = root_stays (IsSpare (Root v c)) (IsUseless (Root v c)) m x v c (λ q w. w) (λ q r. r) changed root

-- ---- numbers that weren't drawn

mark_below : (next : ℕ) (o : Option ℕ) → IfSome o (λ m. (1 ≤ m) × (m < next)) → All (λ s. s.end ≤ next) (mark o)
mark_below next None is = All-nil (λ s. s.end ≤ next)
mark_below next (Some n) (some, lt) = All-cons (λ s. s.end ≤ next) (span_of n) [] (omega (arith, lt)) (All-nil (λ s. s.end ≤ next))

container_below : (next columns lge : ℕ) (k : Container) → IsContainer next columns lge k → All (λ s. s.end ≤ next) (container_spans k)
container_below next columns lge k is = All-cons (λ s. s.end ≤ next) (files k) (mark k.marks) is.files.1 (mark_below next k.marks is.vector)

entry_below : (c : Catalogue) (t : kept.Table) (p : Projection) → IsProjection c t p → All (λ s. s.end ≤ c.next) (projection_spans p)
entry_below c t p is =
    (all_flat (λ s. s.end ≤ c.next) container_spans p.containers).1
    (All-weaker (IsContainer c.next (length p.columns) p.lge) (λ k. All (λ s. s.end ≤ c.next) (container_spans k))
    (λ k h. container_below c.next (length p.columns) p.lge k h) p.containers is.containers)

table_below : (c : Catalogue) (t : kept.Table) → IsTable c t → All (λ s. s.end ≤ c.next) (table_spans t)
table_below c t is =
    (all_flat (λ s. s.end ≤ c.next) projection_spans t.projections).1
    (All-weaker (IsProjection c t) (λ p. All (λ s. s.end ≤ c.next) (projection_spans p)) (λ p h. entry_below c t p h) t.projections is.projections)

all_below : (c : Catalogue) → IsValid c → All (λ s. s.end ≤ c.next) (flat_map table_spans c.tables)
all_below c valid =
    (all_flat (λ s. s.end ≤ c.next) table_spans c.tables).1
    (All-weaker (IsTable c) (λ t. All (λ s. s.end ≤ c.next) (table_spans t)) (λ t h. table_below c t h) c.tables valid.tables)

pub undrawn_unlisted : (n : ℕ) (c : Catalogue) → IsValid c → c.next ≤ n → IsListed c n → ⊥
undrawn_unlisted n c valid from (k, s, lt, is, (first, last)) =
    let below : s.end ≤ c.next = All-contains (λ (x : Span). x.end ≤ c.next) (flat_map table_spans c.tables) s (all_below c valid) (k, lt, is) in
    omega (arith, from, last, below)

pub undrawn_spare : (v n : ℕ) (c : Catalogue) → IsValid c → c.next ≤ n → IsSpare (Root v c) (data_file n)
undrawn_spare v n c valid from = (n, refl, undrawn_unlisted n c valid from)
