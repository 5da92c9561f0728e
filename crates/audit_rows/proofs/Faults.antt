-- A blamed file keeps a container from holding rows.
use Rattle.std.proofs.Common.{◌≡◌, ℕ, List, subst}
use Rattle.std.specs.Prelude.{Option, Some, None}
use Rattle.common_laws.specs.Maps.{Contents}
use Rattle.catalog_types.specs.declared.catalogue.Container.{Container}
use Rattle.catalog_types.specs.declared.catalogue.Projection.{Projection}
use Rattle.col_disk.specs.declared.disk.StoreFault.{StoreFault}
use Rattle.col_disk.specs.declared.disk.StoreFault.TheVariants.{Disk, Damaged, Memory}
use Rattle.del_vector.specs.declared.mark.Mark.{Mark}
use Rattle.ros_container.specs.Encodings.{written_of}
use Rattle.ros_container.specs.Held.{BlamesContainer}
use Rattle.ros_container.proofs.Blames.{blamed_holds_none}
use Rattle.stored_rows.specs.Held.{HoldsVectorAt}
use Rattle.vector_files.specs.Blamed.{IsNoVectorAt, BlamesVector}
use Rattle.audit_rows.specs.Blocks.{BlamesHere}

pub container_blamed : (p : Projection) (k : Container) (holds : Option Contents) (fault : StoreFault) → BlamesContainer (written_of p) k holds fault → BlamesHere holds p k fault
container_blamed p k holds Disk is = tt
container_blamed p k holds Memory is = tt
container_blamed p k holds (Damaged q) is = λ m told rows here. blamed_holds_none (written_of p) k holds (Damaged q) is m told here.2.0 here.2.1

no_vector : (k : Container) (holds : Option Contents) (q : ℕ) (o : Option ℕ) → IsNoVectorAt k holds q o → (m : Contents) → holds ≡ Some m → (marks : List Mark) → HoldsVectorAt m k o marks → ⊥
no_vector k holds q None is m told marks held = is
no_vector k holds q (Some v) is m told marks held = is.1 m told marks held

pub vector_blamed : (p : Projection) (k : Container) (holds : Option Contents) (fault : StoreFault) → BlamesVector k holds fault → BlamesHere holds p k fault
vector_blamed p k holds Disk is = tt
vector_blamed p k holds Memory is = tt
vector_blamed p k holds (Damaged q) is = λ m told rows here. no_vector k holds q k.marks is m told here.0 here.1

pub blames_same : (p : Projection) (k : Container) (now found : Option Contents) (fault : StoreFault) → now ≡ found → BlamesHere now p k fault → BlamesHere found p k fault
blames_same p k now found fault same is = subst (λ (h : Option Contents). BlamesHere h p k fault) same is
