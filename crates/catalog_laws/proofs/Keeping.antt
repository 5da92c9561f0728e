-- What is so of a table in a catalogue is so in a later one.
use Rattle.std.proofs.Common.{◌≡◌, ℕ, ◌<◌, ◌≤◌, Bool, true, false, List, length, arith}
use Rattle.std.specs.Prelude.{Option, Some, None, IfSome}
use Rattle.std.specs.Bool.{OnTrue}
use Rattle.std.specs.List.{All, slice_index_or}
use Rattle.std.proofs.lemmas.List.Elements.{All-weaker}
use Rattle.catalog_types.specs.declared.catalogue.Container.{Container}
use Rattle.catalog_types.specs.declared.catalogue.Projection.{Projection}
use Rattle.catalog_types.specs.declared.catalogue.Table.{Table}
use Rattle.catalog_types.specs.declared.catalogue.Catalogue.{Catalogue}
use Rattle.catalog_types.specs.Parts.{HasReached, IsContainer, IsProjection, IsTable}

some_below : (next after : ℕ) (o : Option ℕ) → next ≤ after → IfSome o (λ m. (1 ≤ m) × (m < next)) → IfSome o (λ m. (1 ≤ m) × (m < after))
some_below next after None le has = tt
some_below next after (Some m) le has = (has.0, omega (arith, has.1, le))

container_kept : (next after columns lge : ℕ) (k : Container) → next ≤ after → IsContainer next columns lge k → IsContainer after columns lge k
container_kept next after columns lge k le is = record {
  rows = is.rows;
  least = is.least;
  order = is.order;
  reached = is.reached;
  marks = is.marks;
  marked = is.marked;
  files = (is.files.0, omega (arith, is.files.1, le));
  stored = is.stored;
  vector = some_below next after k.marks le is.vector;
}

pub projection_kept : (c n : Catalogue) (t : Table) (p : Projection) → c.next ≤ n.next → HasReached n p → IsProjection c t p → IsProjection n t p
projection_kept c n t p le reached is = record {
  name = is.name;
  some = is.some;
  columns = is.columns;
  columns_once = is.columns_once;
  sorted = is.sorted;
  sort = is.sort;
  sort_once = is.sort_once;
  reached = reached;
  stale = is.stale;
  containers = All-weaker (IsContainer c.next (length p.columns) p.lge) (IsContainer n.next (length p.columns) p.lge) (λ k one. container_kept c.next n.next (length p.columns) p.lge k le one) p.containers is.containers;
  sorted_stored = is.sorted_stored;
  defaults = is.defaults;
  levels = is.levels;
  born = omega (arith, is.born, le);
}

pub table_kept : (c n : Catalogue) (t : Table) → c.next ≤ n.next → All (HasReached n) t.projections → IsTable c t → IsTable n t
table_kept c n t le reached is = record {
  name = is.name;
  some = is.some;
  most = is.most;
  columns = is.columns;
  columns_once = is.columns_once;
  projections_most = is.projections_most;
  projections = λ k d lt. projection_kept c n t (slice_index_or t.projections k d) le (reached k d lt) (is.projections k d lt);
  ascending = is.ascending;
  super = is.super;
}

pub tables_kept : (c n : Catalogue) (tables : List Table) → c.next ≤ n.next → All (λ t. All (HasReached n) t.projections) tables → All (IsTable c) tables → All (IsTable n) tables
tables_kept c n tables le reached all = λ k d lt. table_kept c n (slice_index_or tables k d) le (reached k d lt) (all k d lt)

-- a later last epoch, over the same mark
pub reached_later : (c n : Catalogue) (p : Projection) → c.last ≤ n.last → n.ahm ≡ c.ahm → HasReached c p → HasReached n p
reached_later c n p le same has = by p.fresh has
  where
    by : (b : Bool) → OnTrue b ((c.ahm ≤ p.lge) × (p.lge ≤ c.last)) → OnTrue b ((n.ahm ≤ p.lge) × (p.lge ≤ n.last))
    by true (mark, last) = (omega (arith, mark, same), omega (arith, last, le))
    by false none = tt

pub all_reached_later : (c n : Catalogue) (tables : List Table) → c.last ≤ n.last → n.ahm ≡ c.ahm → All (IsTable c) tables → All (λ t. All (HasReached n) t.projections) tables
all_reached_later c n tables le same all = λ k d lt j e below. reached_later c n (slice_index_or (slice_index_or tables k d).projections j e) le same ((all k d lt).projections j e below).reached

-- another mark, which each up-to-date one has reached
reached_mark : (c n : Catalogue) (p : Projection) → c.last ≤ n.last → OnTrue p.fresh (n.ahm ≤ p.lge) → HasReached c p → HasReached n p
reached_mark c n p le mark has = by p.fresh mark has
  where
    by : (b : Bool) → OnTrue b (n.ahm ≤ p.lge) → OnTrue b ((c.ahm ≤ p.lge) × (p.lge ≤ c.last)) → OnTrue b ((n.ahm ≤ p.lge) × (p.lge ≤ n.last))
    by true mark has = (mark, omega (arith, has.1, le))
    by false mark has = tt

pub all_reached_mark : (c n : Catalogue) (tables : List Table) → c.last ≤ n.last → All (λ t. All (λ p. OnTrue p.fresh (n.ahm ≤ p.lge)) t.projections) tables → All (IsTable c) tables
    → All (λ t. All (HasReached n) t.projections) tables
all_reached_mark c n tables le mark all = λ k d lt j e below. reached_mark c n (slice_index_or (slice_index_or tables k d).projections j e) le (mark k d lt j e below) ((all k d lt).projections j e below).reached
