-- How many numbers the files of a catalogue have.
use Rattle.std.proofs.Common.{◌≡◌, ℕ, ◌+◌, ◌≤◌, ◌<◌, List, [], ◌∷◌, length, refl, arith}
use Rattle.std.specs.Prelude.{Option, Some, None, IfSome, sum_by}
use Rattle.std.specs.List.{All, flat_map}
use Rattle.std.proofs.lemmas.List.Elements.{All-nil, All-cons, All-weaker}
use Rattle.std.proofs.lemmas.List.Sums.{sum_by-cons, sum_by-append}
use Rattle.std.specs.Option.{option_map_or}
use Rattle.catalog_types.specs.declared.catalogue.Container.{Container}
use Rattle.catalog_types.specs.declared.catalogue.Projection.{Projection}
use Rattle.catalog_types.specs.declared.catalogue.Table.{Table}
use Rattle.catalog_types.specs.declared.catalogue.Catalogue.{Catalogue}
use Rattle.catalog_types.specs.declared.span.Span.{Span}
use Rattle.catalog_types.specs.Numbers.{files, file_count, span_of, mark, container_spans, projection_spans, table_spans, container_count, number_count, store_count, HasNumbersOnce}
use Rattle.catalog_types.specs.Parts.{IsContainer, IsProjection, IsTable}
use Rattle.catalog_types.proofs.Pairs.{all_flat}
use Rattle.catalog_laws.proofs.Fitting.{width, IsInside, fits}

sums_flat : {X : Type 0} (f : X → List Span) (g : X → ℕ) → ((x : X) → sum_by width (f x) ≡ g x) → (xs : List X) → sum_by width (flat_map f xs) ≡ sum_by g xs
sums_flat f g one [] = refl
sums_flat f g one (x ∷ xs) = omega (arith, sum_by-append width (f x) (flat_map f xs), sum_by-cons g x xs, one x, sums_flat f g one xs)

container_sum : (k : Container) → sum_by width (container_spans k) ≡ container_count k
container_sum k = by k.marks
  where
    by : (o : Option ℕ) → sum_by width (files k ∷ mark o) ≡ file_count k.stored + option_map_or (λ _. 1) o 0
    by None = omega (arith, sum_by-cons width (files k) [])
    by (Some m) = omega (arith, sum_by-cons width (files k) (span_of m ∷ []), sum_by-cons width (span_of m) [])

pub store_sum : (tables : List Table) → sum_by width (flat_map table_spans tables) ≡ sum_by (λ t. sum_by number_count t.projections) tables
store_sum tables = sums_flat table_spans (λ t. sum_by number_count t.projections) (λ t. sums_flat projection_spans number_count (λ p. sums_flat container_spans container_count container_sum p.containers) t.projections) tables

-- ---- they lie below the next one

container_inside : (next columns lge : ℕ) (k : Container) → IsContainer next columns lge k → All (IsInside 0 next) (container_spans k)
container_inside next columns lge k is = by k.marks is.vector
  where
    by : (o : Option ℕ) → IfSome o (λ m. (1 ≤ m) × (m < next)) → All (IsInside 0 next) (files k ∷ mark o)
    by None has = All-cons (IsInside 0 next) (files k) [] (omega arith, omega arith, is.files.1) (All-nil (IsInside 0 next))
    by (Some m) has = All-cons (IsInside 0 next) (files k) (span_of m ∷ []) (omega arith, omega arith, is.files.1) (All-cons (IsInside 0 next) (span_of m) [] (omega arith, omega arith, omega (arith, has.1)) (All-nil (IsInside 0 next)))

pub projection_inside : (c : Catalogue) (t : Table) (p : Projection) → IsProjection c t p → All (IsInside 0 c.next) (projection_spans p)
projection_inside c t p is =
    (all_flat (IsInside 0 c.next) container_spans p.containers).1
    (All-weaker (IsContainer c.next (length p.columns) p.lge) (λ k. All (IsInside 0 c.next) (container_spans k)) (container_inside c.next (length p.columns) p.lge) p.containers is.containers)

table_inside : (c : Catalogue) (t : Table) → IsTable c t → All (IsInside 0 c.next) (table_spans t)
table_inside c t is =
    (all_flat (IsInside 0 c.next) projection_spans t.projections).1
    (All-weaker (IsProjection c t) (λ p. All (IsInside 0 c.next) (projection_spans p)) (projection_inside c t) t.projections is.projections)

pub all_inside : (c : Catalogue) (tables : List Table) → All (IsTable c) tables → All (IsInside 0 c.next) (flat_map table_spans tables)
all_inside c tables all = (all_flat (IsInside 0 c.next) table_spans tables).1 (All-weaker (IsTable c) (λ t. All (IsInside 0 c.next) (table_spans t)) (table_inside c) tables all)

-- so there are no more than the next one says
pub numbers_below : (c : Catalogue) → All (IsTable c) c.tables → HasNumbersOnce c.tables → store_count c ≤ c.next
numbers_below c all once =
    let le = fits (length (flat_map table_spans c.tables)) (flat_map table_spans c.tables) 0 c.next (omega arith) (omega arith) (all_inside c c.tables all) once in
    omega (arith, le, store_sum c.tables)
