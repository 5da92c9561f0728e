-- What is always so of a projection in memory, whatever a disk holds.
use Rattle.std.specs.Prelude.{◌<◌, ◌^◌, List, length, IfSome}
use Rattle.std.specs.List.{All, AllZip}
use Rattle.catalog_types.specs.declared.catalogue.Container.{Container}
use Rattle.catalog_types.specs.declared.catalogue.Projection.{Projection}
use Rattle.ros_container.specs.Readable.{IsReadable}
use Rattle.del_vector.specs.declared.mark.Mark.{Mark}
use Rattle.stored_rows.specs.Stored.{Beside}

-- the number of a container's delete vector is below 2 ^ 62
abbrev pub HasVectorNumber : Container → Type 0
HasVectorNumber k = IfSome k.marks (λ n. n < 2 ^ 62)

-- an entry that can be loaded: its containers can be read, its files have names, and it is sorted by columns of its own
pub record IsLoadable (p : Projection) : Type 0 where
  pub files : All (IsReadable p.columns) p.containers
  pub vectors : All HasVectorNumber p.containers
  pub sort : All (λ i. i < length p.columns) p.sort

-- marks of rows that a container has
abbrev pub AreInside : Container → List Mark → Type 0
AreInside k marks = All (λ e. e.position < k.rows) marks

pub record MarksItsRows (k : Container) (b : Beside) : Type 0 where
  pub held : AreInside k b.held
  pub fresh : AreInside k b.fresh

-- for each container what is kept of it
pub record IsSound (p : Projection) (beside : List Beside) : Type 0 where
  pub loadable : IsLoadable p
  pub kept : AllZip MarksItsRows p.containers beside
