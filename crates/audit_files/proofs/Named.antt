-- The containers that a valid catalogue lists have names for their files.
use Rattle.std.proofs.Common.{ℕ, ◌^◌, ◌<◌, ◌≤◌, arith}
use Rattle.std.specs.Prelude.{Option, Some, None, IfSome}
use Rattle.std.specs.List.{All}
use Rattle.catalog_types.specs.declared.catalogue.Catalogue.{Catalogue}
use Rattle.catalog_types.specs.declared.catalogue.Container.{Container}
use Rattle.catalog_types.specs.Parts.{IsContainer}
use Rattle.catalog_types.specs.Valid.{IsValid}
use Rattle.audit_files.specs.Walks.{IsNamed, AreAllNamed}

vector_named : (next : ℕ) (o : Option ℕ) → next < 2 ^ 62 → IfSome o (λ n. (1 ≤ n) × (n < next)) → IfSome o (λ n. n < 2 ^ 62)
vector_named next None low is = tt
vector_named next (Some n) low is = omega (arith, low, is.1)

is_named : (next columns lge : ℕ) (k : Container) → next < 2 ^ 62 → IsContainer next columns lge k → IsNamed k
is_named next columns lge k low is = record {
  columns = (let end = is.files.1 in omega (arith, low, end));
  vector = vector_named next k.marks low is.vector;
}

pub all_named : (c : Catalogue) → IsValid c → All AreAllNamed c.tables
all_named c valid = λ i t in_tables j p in_table l k in_projection.
    is_named c.next _ _ _ valid.next (((valid.tables i t in_tables).projections j p in_table).containers l k in_projection)
