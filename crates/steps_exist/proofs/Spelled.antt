-- What symbols spell is decided.
use Rattle.std.proofs.Common.{◌≡◌, ◌≤◌, ℕ, ◌+◌, ◌-◌, inl, inr, List, [], ◌∷◌, length, refl, arith}
use Rattle.std.specs.Prelude.{◌⊎◌}
use Rattle.sql_words.specs.Symbols.{Symbol}
use Rattle.sql_tree.specs.declared.statement.Statement.{Statement}
use Rattle.sql_tree.specs.Phrases.{IsPlace}
use Rattle.sql_tree.specs.Spells.{Spells}
use Rattle.sql_phrases.specs.Readings.{Read}
use Rattle.sql_phrases.specs.Readers.{reads}
use Rattle.sql_reader.proofs.Closing.{spelled_whole, place_behind, place_stopped, left_behind, left_stopped}

-- they spell a statement, or there is the place of the first with which none goes on
abbrev pub SpellOrStop : List Symbol → Type 0
SpellOrStop ts = ((s : Statement) × Spells ts s) ⊎ ((place : ℕ) × IsPlace Spells ts place)

by_reading : (ts : List Symbol) (r : Read Symbol Statement) → reads ts ≡ r → SpellOrStop ts
by_reading ts (Read.Took s []) is = inl (s, spelled_whole ts [] s is refl)
by_reading ts (Read.Took s (t ∷ rest)) is =
    let left : length (t ∷ rest) ≤ length ts = left_behind ts (t ∷ rest) s is in
    inr (length ts + 1 - length (t ∷ rest), place_behind ts (t ∷ rest) s (length ts + 1 - length (t ∷ rest)) is (omega arith) (omega (arith, left)))
by_reading ts (Read.Stopped rest) is =
    let left : length rest ≤ length ts = left_stopped ts rest is in
    inr (length ts + 1 - length rest, place_stopped ts rest (length ts + 1 - length rest) is (omega (arith, left)))

pub spelled_or_stopped : (ts : List Symbol) → SpellOrStop ts
spelled_or_stopped ts = by_reading ts (reads ts) refl
