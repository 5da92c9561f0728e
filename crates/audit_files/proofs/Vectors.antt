-- The delete vector of a container, judged.
use Rattle.std.proofs.Common.{ℕ, List, [], map, refl}
use Rattle.std.specs.Prelude.{Option, Some, None}
use Rattle.std.specs.List.{All}
use Rattle.std.proofs.lemmas.List.Elements.{All-nil, All-cons}
use Rattle.common_laws.specs.Maps.{Contents}
use Rattle.catalog_types.specs.declared.catalogue.Container.{Container}
use Rattle.catalog_types.specs.declared.catalogue.Projection.{Projection}
use Rattle.col_disk.specs.declared.disk.StoreFault.{StoreFault}
use Rattle.col_disk.specs.declared.disk.StoreFault.TheVariants.{Disk, Damaged, Memory}
use Rattle.del_vector.specs.declared.mark.Mark.{Mark}
use Rattle.stored_rows.specs.Held.{HoldsVectorAt}
use Rattle.vector_files.specs.Blamed.{IsNoVectorAt, BlamesVector}
use Rattle.audit_model.specs.Listed.{Part, file, vector_parts, IsSpelled}
use Rattle.audit_files.specs.Walks.{Faults}

pub vector_spelled : (m : Contents) (p : Projection) (k : Container) (o : Option ℕ) (marks : List Mark) → HoldsVectorAt m k o marks → All (IsSpelled m) (map (file p k) (vector_parts o))
vector_spelled m p k None marks held = All-nil (IsSpelled m)
vector_spelled m p k (Some n) marks held = All-cons (IsSpelled m) (file p k (Part.Vector n)) [] (marks, held) (All-nil (IsSpelled m))

no_vector : (p : Projection) (k : Container) (holds : Option Contents) (name : ℕ) (o : Option ℕ) → IsNoVectorAt k holds name o → Faults holds (map (file p k) (vector_parts o)) (Damaged name)
no_vector p k holds name None none = absurd none
no_vector p k holds name (Some n) none = λ m told. record {
  file = file p k (Part.Vector n);
  first = record {
    before = [];
    after = [];
    is = refl;
    good = All-nil (IsSpelled m);
    bad = λ is. none.1 m told is.0 is.1;
  };
  named = none.0;
}

pub vector_blamed : (p : Projection) (k : Container) (holds : Option Contents) (fault : StoreFault) → BlamesVector k holds fault → Faults holds (map (file p k) (vector_parts k.marks)) fault
vector_blamed p k holds Disk given = tt
vector_blamed p k holds (Damaged name) given = no_vector p k holds name k.marks given
vector_blamed p k holds Memory given = tt
