-- An index of other rows.
use Rattle.std.proofs.Common.{ℕ, ◌≡◌, List, Result, Ok, Err, IfErr}
use Rattle.col_disk.specs.declared.disk.StoreFault.{StoreFault}
use Rattle.col_disk.specs.declared.disk.StoreFault.TheVariants.{Damaged, Disk, Memory}
use Rattle.col_file.specs.Read.{Blames, SpellsIndex}
use Rattle.col_file.proofs.Found.{other_rows}
use Rattle.pos_index.specs.declared.index.PosIndex.{PosIndex}
use Rattle.proj_store.specs.Kept.{IsParsed}

blames_more : (name : ℕ) (P Q : Type 0) → (P → Q) → (f : StoreFault) → Blames name P f → Blames name Q f
blames_more name P Q more (Damaged n) (same, p) = (same, more p)
blames_more name P Q more Disk b = tt
blames_more name P Q more Memory b = tt

-- bytes that are an index of other rows are none of these
pub rows_blamed : {A : Type 0} (name rows : ℕ) (bytes : List ℕ) (x : PosIndex) → IsParsed bytes x → (r : Result A StoreFault) → IfErr r (Blames name (x.rows ≡ rows → ⊥)) → IfErr r (Blames name (SpellsIndex rows bytes → ⊥))
rows_blamed name rows bytes x is (Ok a) b = tt
rows_blamed name rows bytes x is (Err f) b = blames_more name (x.rows ≡ rows → ⊥) (SpellsIndex rows bytes → ⊥) (other_rows rows bytes x is.0 is.1 is.2) f b
