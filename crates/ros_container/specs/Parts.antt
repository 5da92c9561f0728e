-- What the calls inside `rows` and `write_one` make.
use Rattle.std.specs.Prelude.{◌≡◌, ◌<◌, ◌≤◌, ℕ, List, [], ◌∷◌, ◌++◌, map, replicate}
use Rattle.std.specs.List.{zip}
use Rattle.catalog_types.specs.declared.catalogue.Container.{Container}
use Rattle.common_laws.specs.Maps.{Contents}
use Rattle.col_file.specs.Held.{HoldsColumn}
use Rattle.col_value.specs.declared.row.Asked.{Asked}
use Rattle.col_value.specs.declared.value.Value.{Value}
use Rattle.ros_container.specs.Encodings.{Written, encoding_at, default_at}
use Rattle.ros_container.specs.Files.{body_of, index_of}

-- a row with one value more, and rows with one value more each
abbrev pub with_value : Asked → Value → Asked
with_value a v = record a { row = a.row ++ v ∷ [] }

abbrev pub with_values : List Asked → List Value → List Asked
with_values rows values = map (λ p. with_value p.0 p.1) (zip rows values)

-- column i has these values: in its files, or where it isn't stored its default in each row
pub record HasValues (m : Contents) (written : List Written) (k : Container) (i : ℕ) (vs : List Value) : Type 0 where
  pub stored : i < k.stored → HoldsColumn (encoding_at written i) (body_of k.base i) (index_of k.base i) k.rows m vs
  pub default : k.stored ≤ i → vs ≡ replicate k.rows (default_at written i)
