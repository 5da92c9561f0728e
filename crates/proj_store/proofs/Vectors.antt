-- The delete vectors that are kept, and entries that can be loaded.
use Rattle.std.proofs.Common.{◌<◌, ◌≤◌, ◌^◌, ℕ, List, [], ◌∷◌, get_or, arith}
use Rattle.std.specs.Prelude.{Option, Some, None, IfSome}
use Rattle.std.specs.List.{AllZip}
use Rattle.common_laws.specs.Maps.{Contents}
use Rattle.col_value.specs.declared.row.Stamped.{Stamped}
use Rattle.catalog_types.specs.declared.catalogue.Catalogue.{Catalogue}
use Rattle.catalog_types.specs.declared.catalogue.Container.{Container}
use Rattle.catalog_types.specs.declared.catalogue.Projection.{Projection}
use Rattle.catalog_types.specs.declared.catalogue.Table.{Table}
use Rattle.catalog_types.specs.Parts.{IsProjection}
use Rattle.ros_container.specs.Encodings.{Written, written_of}
use Rattle.stored_rows.specs.Held.{HoldsVector}
use Rattle.stored_rows.specs.Stored.{Beside, Projected, StoresRows, Stores, IsUnmarked, IsLoaded}
use Rattle.proj_store.specs.Sound.{IsLoadable}
use Rattle.proj_store.specs.Reading.{HasVectors}
use Rattle.proj_store.proofs.Listed.{valid_of_columns}

loaded_each : (m : Contents) (ks : List Container) (bs : List Beside) → AllZip (IsUnmarked m) ks bs → AllZip (λ k b. HoldsVector m k b.held) ks bs
loaded_each m [] [] all = tt
loaded_each m [] (b ∷ bs) all = absurd all
loaded_each m (k ∷ ks) [] all = absurd all
loaded_each m (k ∷ ks) (b ∷ bs) ((vector, none), rest) = (vector, loaded_each m ks bs rest)

pub loaded_vectors : (m : Contents) (p : Projected) → IsLoaded m p → HasVectors m p
loaded_vectors m p loaded = loaded_each m p.entry.containers p.beside loaded.beside

stored_each : (m : Contents) (es : List Written) (ks : List Container) (bs : List Beside) (rows : List Stamped) → StoresRows m es ks bs rows → AllZip (λ k b. HoldsVector m k b.held) ks bs
stored_each m es [] [] rows stores = tt
stored_each m es [] (b ∷ bs) rows stores = absurd stores
stored_each m es (k ∷ ks) [] rows stores = absurd stores
stored_each m es (k ∷ ks) (b ∷ bs) rows (here, more, vector, marked, rest, is) = (vector, stored_each m es ks bs more rest)

pub stored_vectors : (m : Contents) (p : Projected) (rows : List Stamped) → Stores m p rows → HasVectors m p
stored_vectors m p rows (saved, stores, is) = stored_each m (written_of p.entry) p.entry.containers p.beside saved stores

below : (next : ℕ) (o : Option ℕ) → next < 2 ^ 62 → IfSome o (λ n. (1 ≤ n) × (n < next)) → IfSome o (λ n. n < 2 ^ 62)
below next None lt is = tt
below next (Some n) lt is = omega (arith, lt, is.1)

pub valid_loads : (c : Catalogue) (t : Table) (p : Projection) → IsProjection c t p → c.next < 2 ^ 62 → IsLoadable p
valid_loads c t p valid lt = record {
  files = λ i d at. let files = (valid.containers i d at).files in record { of_columns = valid_of_columns c t p valid i d at; numbers = omega (arith, lt, files.1) };
  vectors = λ i d at. below c.next (get_or p.containers i d).marks lt (valid.containers i d at).vector;
  sort = valid.sort;
}
