-- The shapes of a database are those of the catalogue that stands for it.
use Rattle.std.proofs.Common.{◌≡◌, ℕ, ◌++◌, List, [], ◌∷◌, map, filter, refl, sym, ◌∙◌, ap, ap₂}
use Rattle.std.proofs.lemmas.List.{map-append}
use Rattle.std.proofs.lemmas.List.Concat.{flat_map-cons}
use Rattle.common_laws.specs.Maps.{Contents}
use Rattle.catalog_types.specs.declared.catalogue.Table as kept
use Rattle.catalog_types.specs.declared.catalogue.Catalogue.{Catalogue}
use Rattle.stored_rows.specs.Stored.{Projected}
use Rattle.db_model.specs.Database.{Shape, Table, Database, is_behind}
use Rattle.db_model.specs.Epochs.{all_shapes}
use Rattle.db_model.specs.Mover.{behind}
use Rattle.folder_model.specs.Projections.{shape_of}
use Rattle.folder_model.specs.Tables.{StandForTables, AreDatabase}
use Rattle.mover_policy.specs.First.{all_projections, behind_in}

shapes_are : (m : Contents) (mark : ℕ) (ts : List kept.Table) (pss : List (List Projected)) (us : List Table) → StandForTables m mark ts pss us → all_shapes us ≡ map shape_of (all_projections ts)
shapes_are m mark [] [] [] stand = refl
shapes_are m mark [] [] (u ∷ us) stand = absurd stand
shapes_are m mark [] (ps ∷ pss) us stand = absurd stand
shapes_are m mark (t ∷ ts) [] us stand = absurd stand
shapes_are m mark (t ∷ ts) (ps ∷ pss) [] stand = absurd stand
shapes_are m mark (t ∷ ts) (ps ∷ pss) (u ∷ us) (here, more) =
    flat_map-cons (λ (v : Table). v.shapes) u us
    ∙ ap₂ (λ (xs ys : List Shape). xs ++ ys) here.shapes (shapes_are m mark ts pss us more)
    ∙ sym (ap (map shape_of) (flat_map-cons (λ (v : kept.Table). v.projections) t ts) ∙ map-append shape_of t.projections (all_projections ts))

pub behind_are : (m : Contents) (c : Catalogue) (stores : List (List Projected)) (d : Database) → AreDatabase m c stores d → behind d ≡ behind_in c.last (all_projections c.tables)
behind_are m c stores d are =
    ap₂ (λ (last : ℕ) (ss : List Shape). filter (is_behind last) ss) are.last (shapes_are m c.ahm c.tables stores d.tables are.tables)
