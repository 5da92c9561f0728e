-- A store, as its fields are seen.
use Rattle.std.specs.Prelude.{ℕ, ◌≡◌, List, map}
use Rattle.catalog_types.specs.declared.catalogue.Catalogue.{Catalogue}
use Rattle.catalog_types.specs.Valid.{IsValid}
use Rattle.stored_rows.specs.Stored.{Projected}
use Rattle.store_commit.specs.Seen.{Seen}
use Rattle.proj_store.specs.Loaded.{Loaded}

-- the catalogue with the newest closed epoch
abbrev pub at_epoch : ℕ → Catalogue → Catalogue
at_epoch last root = record root { last = last }

abbrev pub projections_of : List Loaded → List Projected
projections_of ps = map (λ p. p.stored) ps

abbrev pub seen_of : Catalogue → ℕ → List (List Loaded) → Seen
seen_of root last tables = record { catalogue = at_epoch last root; stores = map projections_of tables }

-- the catalogue is valid, and each of its projections has its entry there
pub record IsHeld (root : Catalogue) (tables : List (List Loaded)) : Type 0 where
  pub valid : IsValid root
  pub entries : map (λ ps. map (λ p. p.entry) ps) (map projections_of tables) ≡ map (λ t. t.projections) root.tables
