-- The files that a catalogue lists, projection by projection.
use Rattle.std.proofs.Common.{◌≡◌, ℕ, ◌+◌, List, [], ◌∷◌, length, Option, Some, None, refl, sym, subst, inl, inr, arith}
use Rattle.std.specs.FinMap.{get}
use Rattle.std.specs.List.{All, Any, flat_map}
use Rattle.std.proofs.lemmas.List.Concat.{flat_map-cons}
use Rattle.std.proofs.lemmas.List.Elements.{All-cons, All-nil}
use Rattle.common_laws.specs.Maps.{Contents}
use Rattle.common_laws.proofs.Lists.{any_left, any_right}
use Rattle.catalog_types.specs.declared.span.Span.{Span}
use Rattle.catalog_types.specs.declared.catalogue.Container.{Container}
use Rattle.catalog_types.specs.declared.catalogue.Projection.{Projection}
use Rattle.catalog_types.specs.declared.catalogue.Table as kept
use Rattle.catalog_types.specs.declared.catalogue.Catalogue.{Catalogue}
use Rattle.catalog_types.specs.Numbers.{files, span_of, mark, container_spans, projection_spans, table_spans}
use Rattle.catalog_root.specs.Root.{data_file}
use Rattle.catalog_root.specs.Listed.{IsIn, IsListed}
use Rattle.stored_rows.specs.Listed.{IsVectorFile, SameFiles, SameEntry}

-- files of numbers within some spans are in both the same
abbrev pub SameIn : Contents → Contents → List Span → Type 0
SameIn m n spans = (k : ℕ) → Any (IsIn k) spans → get n (data_file k) ≡ get m (data_file k)

vector_same : (m n : Contents) (k : Container) (o : Option ℕ) → SameIn m n (files k ∷ mark o) → (q : ℕ) → IsVectorFile o q → get n q ≡ get m q
vector_same m n k None same q is = absurd is
vector_same m n k (Some v) same q is = subst (λ (x : ℕ). get n x ≡ get m x) (sym is) (same v (1, span_of v, omega arith, refl, (omega arith, omega arith)))

container_same : (m n : Contents) (k : Container) → SameIn m n (container_spans k) → SameFiles m n k
container_same m n k same q (inl (j, small, is)) =
    subst (λ (x : ℕ). get n x ≡ get m x) (sym is) (same (k.base + j) (0, files k, omega arith, refl, (omega arith, omega (arith, small))))
container_same m n k same q (inr is) = vector_same m n k k.marks same q is

-- what is the same in all spans is so in those of each part
each_same : {X : Type 0} (m n : Contents) (spans : X → List Span) (P : X → Type 0) → ((x : X) → SameIn m n (spans x) → P x) → (xs : List X) → SameIn m n (flat_map spans xs) → All P xs
each_same m n spans P one [] same = All-nil P
each_same m n spans P one (x ∷ xs) same =
    All-cons P x xs
    (one x (λ k any. same k (subst (Any (IsIn k)) (sym (flat_map-cons spans x xs)) (any_left (IsIn k) (spans x) (flat_map spans xs) any))))
    (each_same m n spans P one xs (λ k any. same k (subst (Any (IsIn k)) (sym (flat_map-cons spans x xs)) (any_right (IsIn k) (spans x) (flat_map spans xs) any))))

entry_same : (m n : Contents) (p : Projection) → SameIn m n (projection_spans p) → SameEntry m n p
entry_same m n p same = each_same m n container_spans (SameFiles m n) (container_same m n) p.containers same

abbrev pub SameTables : Contents → Contents → List kept.Table → Type 0
SameTables m n ts = All (λ t. All (SameEntry m n) t.projections) ts

pub tables_same : (m n : Contents) (c : Catalogue) → ((k : ℕ) → IsListed c k → get n (data_file k) ≡ get m (data_file k)) → SameTables m n c.tables
tables_same m n c same =
    each_same m n table_spans (λ t. All (SameEntry m n) t.projections) (λ t here. each_same m n projection_spans (SameEntry m n) (entry_same m n) t.projections here) c.tables same
