-- Entries, tables and catalogues that are cut between two moments of a disk.
use Rattle.std.specs.Prelude.{ℕ, List}
use Rattle.std.specs.List.{AllZip}
use Rattle.common_laws.specs.Maps.{Contents}
use Rattle.catalog_types.specs.declared.catalogue.Projection.{Projection}
use Rattle.catalog_types.specs.declared.catalogue.Table.{Table}
use Rattle.catalog_types.specs.declared.catalogue.Catalogue.{Catalogue}
use Rattle.cut_model.specs.Cut.{IsCutEntry, IsCutTable, IsCutRoot}

-- whatever the mark is, the entry is that of the projection, cut
abbrev pub CutsProjection : ℕ → Projection → Projection → Contents → Contents → Type 0
CutsProjection epoch p q m n = (mark : ℕ) → IsCutEntry m n mark epoch p q

abbrev pub CutsProjections : ℕ → List Projection → List Projection → Contents → Contents → Type 0
CutsProjections epoch ps qs m n = AllZip (λ p q. CutsProjection epoch p q m n) ps qs

abbrev pub CutsTable : ℕ → Table → Table → Contents → Contents → Type 0
CutsTable epoch t u m n = (mark : ℕ) → IsCutTable m n mark epoch t u

abbrev pub CutsTables : ℕ → List Table → List Table → Contents → Contents → Type 0
CutsTables epoch ts us m n = AllZip (λ t u. CutsTable epoch t u m n) ts us

abbrev pub CutsCatalogue : Catalogue → Catalogue → Contents → Contents → Type 0
CutsCatalogue c r m n = IsCutRoot m n c r
