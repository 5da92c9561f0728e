-- What a walk over some files finds: each is its spelling, or the first that isn't.
use Rattle.std.specs.Prelude.{ℕ, ◌≡◌, ◌<◌, ◌+◌, ◌*◌, ◌^◌, List, map, Option, Some, IfSome, Result, Ok, Err}
use Rattle.std.specs.List.{All, flat_map}
use Rattle.common_laws.specs.Maps.{Contents}
use Rattle.catalog_types.specs.declared.catalogue.Container.{Container}
use Rattle.catalog_types.specs.declared.catalogue.Projection.{Projection}
use Rattle.catalog_types.specs.declared.catalogue.Table.{Table}
use Rattle.col_disk.specs.declared.disk.StoreFault.{StoreFault}
use Rattle.col_disk.specs.declared.disk.StoreFault.TheVariants.{Disk, Damaged, Memory}
use Rattle.audit_model.specs.First.{IsFirst}
use Rattle.audit_model.specs.Listed.{File, file, file_name, column_parts, parts, IsSpelled}

-- the first of some files that isn't its spelling has this name
pub record HasFirst (m : Contents) (fs : List File) (name : ℕ) : Type 0 where
  pub file : File
  pub first : IsFirst (IsSpelled m) fs file
  pub named : name ≡ file_name file

-- a Damaged names the first that isn't its spelling; no other fault says anything
abbrev pub Faults : Option Contents → List File → StoreFault → Type 0
Faults holds fs Disk = Unit {0}
Faults holds fs (Damaged name) = (m : Contents) → holds ≡ Some m → HasFirst m fs name
Faults holds fs Memory = Unit {0}

-- where a disk tells its contents, each file is its spelling, or the fault is so
abbrev pub Judges : Option Contents → List File → Result (Unit {0}) StoreFault → Type 0
Judges holds fs (Ok done) = (m : Contents) → holds ≡ Some m → All (IsSpelled m) fs
Judges holds fs (Err fault) = Faults holds fs fault

-- the files of a column, of a container, of a projection and of a table
abbrev pub column_files : Projection → Container → ℕ → List File
column_files p k i = map (file p k) (column_parts i)

abbrev pub container_files : Projection → Container → List File
container_files p k = map (file p k) (parts k)

abbrev pub projection_files : Projection → List File
projection_files p = flat_map (container_files p) p.containers

abbrev pub table_files : Table → List File
table_files t = flat_map projection_files t.projections

-- the files of a container have names
pub record IsNamed (k : Container) : Type 0 where
  pub columns : k.base + 2 * k.stored + 1 < 2 ^ 62
  pub vector : IfSome k.marks (λ n. n < 2 ^ 62)

abbrev pub AreNamed : Projection → Type 0
AreNamed p = All IsNamed p.containers

abbrev pub AreAllNamed : Table → Type 0
AreAllNamed t = All AreNamed t.projections
