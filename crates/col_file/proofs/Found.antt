-- What was read is the index that the bytes are, or they are none.
use Rattle.std.proofs.Common.{◌≡◌, ℕ, List, ap, sym, ◌∙◌}
use Rattle.pos_index.specs.declared.index.PosIndex.{PosIndex}
use Rattle.pos_index.specs.Index.{index_spelling, IsIndex, Fits}
use Rattle.pos_index.proofs.Reading.{one_spelling}
use Rattle.col_file.specs.Read.{SpellsIndex}

-- an index of other rows was read, so the bytes are no index of these rows
pub other_rows : (rows : ℕ) (bytes : List ℕ) (x : PosIndex) → IsIndex x → Fits x → bytes ≡ index_spelling x → (x.rows ≡ rows → ⊥) → SpellsIndex rows bytes → ⊥
other_rows rows bytes x is fit spelled other (y, also, fits, so_many, same) = other (ap (λ (z : PosIndex). z.rows) (one_spelling x y is also fit fits (sym spelled ∙ same)) ∙ so_many)

pub no_index : (rows : ℕ) (bytes : List ℕ) → ((x : PosIndex) → IsIndex x → Fits x → bytes ≡ index_spelling x → ⊥) → SpellsIndex rows bytes → ⊥
no_index rows bytes none (y, is, fit, so_many, spelled) = none y is fit spelled
