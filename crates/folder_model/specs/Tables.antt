-- That a catalogue and the stores of its projections stand for a database.
use Rattle.std.specs.Prelude.{ℕ, ◌≡◌, List, [], ◌∷◌, map}
use Rattle.std.specs.List.{All}
use Rattle.common_laws.specs.Maps.{Contents}
use Rattle.catalog_types.specs.declared.catalogue.Table as kept
use Rattle.catalog_types.specs.declared.catalogue.Catalogue.{Catalogue}
use Rattle.db_model.specs.Database.{Database, Table}
use Rattle.stored_rows.specs.Stored.{Projected}
use Rattle.folder_model.specs.Projections.{shape_of, HasRows}

-- a table of the catalogue, with its projections in their places, stands for this one
pub record StandsForTable (m : Contents) (mark : ℕ) (t : kept.Table) (ps : List Projected) (u : Table) : Type 0 where
  pub name : u.name ≡ t.name
  pub columns : u.columns ≡ t.columns
  pub shapes : u.shapes ≡ map shape_of t.projections
  pub entries : map (λ p. p.entry) ps ≡ t.projections
  pub rows : All (HasRows m mark u.rows) ps

-- each table of the catalogue stands for the one at its place
abbrev pub StandForTables : Contents → ℕ → List kept.Table → List (List Projected) → List Table → Type 0
StandForTables m mark [] [] [] = Unit {0}
StandForTables m mark [] [] (u ∷ us) = ⊥
StandForTables m mark [] (ps ∷ pss) us = ⊥
StandForTables m mark (t ∷ ts) [] us = ⊥
StandForTables m mark (t ∷ ts) (ps ∷ pss) [] = ⊥
StandForTables m mark (t ∷ ts) (ps ∷ pss) (u ∷ us) = StandsForTable m mark t ps u × StandForTables m mark ts pss us

-- over these files, the catalogue and the stores of its projections, in the catalogue's order, are this database
pub record AreDatabase (m : Contents) (c : Catalogue) (stores : List (List Projected)) (d : Database) : Type 0 where
  pub last : d.last ≡ c.last
  pub ahm : d.ahm ≡ c.ahm
  pub tables : StandForTables m c.ahm c.tables stores d.tables
