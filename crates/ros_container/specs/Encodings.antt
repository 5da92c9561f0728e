-- How the columns of a container are written, and what those are that it doesn't store.
use Rattle.std.specs.Prelude.{ℕ, List, map, slice_index_or, Option, None, unwrap_or}
use Rattle.catalog_types.specs.declared.catalogue.ProjColumn.{ProjColumn}
use Rattle.catalog_types.specs.declared.catalogue.Projection.{Projection}
use Rattle.col_value.specs.declared.kinds.Encoding.{Encoding}
use Rattle.col_value.specs.declared.kinds.Encoding.TheVariants.{Auto}
use Rattle.col_value.specs.declared.value.Value.{Value}
use Rattle.col_value.specs.declared.value.Value.TheVariants.{Null}

-- how a column is written, and its value in the rows of a container that doesn't store it
pub record Written : Type 0 where
  pub encoding : Encoding
  pub default : Option Value

abbrev pub written_as : ProjColumn → Written
written_as c = record { encoding = c.encoding; default = c.default }

-- how the columns of a projection are written
abbrev pub written_of : Projection → List Written
written_of shape = map written_as shape.columns

-- how the epochs are written, which stand behind the columns
abbrev pub as_epochs : Written
as_epochs = record { encoding = Auto; default = None }

-- the encoding of column i: as the projection says, and of the epochs behind its columns AUTO
abbrev pub encoding_at : List Written → ℕ → Encoding
encoding_at written i = (slice_index_or written i as_epochs).encoding

-- the default of column i
abbrev pub default_at : List Written → ℕ → Value
default_at written i = unwrap_or (slice_index_or written i as_epochs).default Null
