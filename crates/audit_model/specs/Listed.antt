-- The files that a catalogue lists, in the order in which they are judged, and when a file is its spelling.
use Rattle.std.specs.Prelude.{ℕ, List, [], ◌∷◌, ◌++◌, map, Option, Some, None}
use Rattle.std.specs.List.{All, flat_map, range_with_len}
use Rattle.common_laws.specs.Maps.{Contents}
use Rattle.catalog_types.specs.declared.catalogue.Container.{Container}
use Rattle.catalog_types.specs.declared.catalogue.Projection.{Projection}
use Rattle.catalog_types.specs.declared.catalogue.Table.{Table}
use Rattle.catalog_types.specs.declared.catalogue.Catalogue.{Catalogue}
use Rattle.col_value.specs.declared.kinds.Encoding.TheVariants.{Auto}
use Rattle.col_value.specs.declared.value.Value.{Value}
use Rattle.col_file.specs.Held.{HoldsColumn, IsIndexFile}
use Rattle.ros_container.specs.Encodings.{encoding_at, written_of}
use Rattle.ros_container.specs.Files.{body_of, index_of}
use Rattle.ros_container.specs.Rows.{IsEpochOf}
use Rattle.del_vector.specs.declared.mark.Mark.{Mark}
use Rattle.stored_rows.specs.Listed.{vector_file}
use Rattle.stored_rows.specs.Held.{HoldsVectorAt}

-- a container with its table and its projection
pub record Place : Type 0 where
  pub table : Table
  pub projection : Projection
  pub container : Container

abbrev pub place : Table → Projection → Container → Place
place t p k = record { table = t; projection = p; container = k }

abbrev pub places_in : Table → Projection → List Place
places_in t p = map (place t p) p.containers

abbrev pub places_of : Table → List Place
places_of t = flat_map (places_in t) t.projections

-- all containers: tables, projections and containers as they are listed; a projection that isn't up to date has none
abbrev pub places : Catalogue → List Place
places c = flat_map places_of c.tables

-- a file of a container: the index and the body of a column that it stores, the index and the body of the epochs, or the delete vector
pub data Part : Type 0 where
  Index : ℕ → Part
  Body : ℕ → Part
  EpochIndex : Part
  EpochBody : Part
  Vector : ℕ → Part

-- of each column the index before the body
abbrev pub column_parts : ℕ → List Part
column_parts i = Part.Index i ∷ Part.Body i ∷ []

abbrev pub vector_parts : Option ℕ → List Part
vector_parts None = []
vector_parts (Some n) = Part.Vector n ∷ []

-- the files of a container: the columns in their order, then the epochs, last the delete vector
abbrev pub parts : Container → List Part
parts k = flat_map column_parts (range_with_len 0 k.stored) ++ Part.EpochIndex ∷ Part.EpochBody ∷ vector_parts k.marks

-- what the file is called
abbrev pub name_of : Container → Part → ℕ
name_of k (Part.Index i) = index_of k.base i
name_of k (Part.Body i) = body_of k.base i
name_of k Part.EpochIndex = index_of k.base k.stored
name_of k Part.EpochBody = body_of k.base k.stored
name_of k (Part.Vector n) = vector_file n

-- The file is its spelling: an index of the container's rows; with its index a column, as the projection says; the epochs, each within those of
-- the entry; or marks of the container.
abbrev pub IsPart : Contents → Projection → Container → Part → Type 0
IsPart m p k (Part.Index i) = IsIndexFile (index_of k.base i) k.rows m
IsPart m p k (Part.Body i) = (vs : List Value) × HoldsColumn (encoding_at (written_of p) i) (body_of k.base i) (index_of k.base i) k.rows m vs
IsPart m p k Part.EpochIndex = IsIndexFile (index_of k.base k.stored) k.rows m
IsPart m p k Part.EpochBody = (vs : List Value) × HoldsColumn Auto (body_of k.base k.stored) (index_of k.base k.stored) k.rows m vs × All (IsEpochOf k) vs
IsPart m p k (Part.Vector n) = (marks : List Mark) × HoldsVectorAt m k (Some n) marks

-- a file that the catalogue lists
pub record File : Type 0 where
  pub projection : Projection
  pub container : Container
  pub part : Part

abbrev pub file : Projection → Container → Part → File
file p k part = record { projection = p; container = k; part = part }

abbrev pub files_in : Place → List File
files_in x = map (file x.projection x.container) (parts x.container)

abbrev pub files : Catalogue → List File
files c = flat_map files_in (places c)

abbrev pub file_name : File → ℕ
file_name f = name_of f.container f.part

abbrev pub IsSpelled : Contents → File → Type 0
IsSpelled m f = IsPart m f.projection f.container f.part
