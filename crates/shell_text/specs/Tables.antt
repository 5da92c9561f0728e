-- Rows of cells, each as wide as its column.
use Rattle.std.specs.Prelude.{ℕ, ◌+◌, ◌-◌, not, if◌then◌else◌, Bool, List, [], ◌∷◌, ◌++◌, count_by, replicate, zip}
use Rattle.std.specs.List.{flat_map}
use Rattle.shell_text.specs.declared.tables.Shape.{Shape}
use Rattle.shell_text.specs.Excerpts.{goes_on}

-- how many letters a cell has
abbrev pub width_of : List ℕ → ℕ
width_of cell = count_by (λ b. not (goes_on b)) cell

-- spaces up to a width
abbrev pub gap_of : ℕ → List ℕ → List ℕ
gap_of width cell = replicate (width - width_of cell) 32

-- a cell in its column: its letters are all there, and spaces on one side
abbrev pub padded : Shape → List ℕ → List ℕ
padded shape cell = if shape.right then gap_of shape.width cell ++ cell else cell ++ gap_of shape.width cell

-- a cell behind a bar
abbrev pub cell_text : Shape × List ℕ → List ℕ
cell_text at = 124 ∷ 32 ∷ [] ++ (padded at.0 at.1 ++ 32 ∷ [])

-- a row: its cells in order, each in its column
abbrev pub row_line : List Shape → List (List ℕ) → List ℕ
row_line shapes cells = flat_map cell_text (zip shapes cells) ++ (124 ∷ 10 ∷ [])

-- a column of the rule below the heads
abbrev pub rule_part : Shape → List ℕ
rule_part shape = 124 ∷ [] ++ (replicate shape.width 45 ++ 45 ∷ 45 ∷ [])

-- the rule below the heads
abbrev pub rule_line : List Shape → List ℕ
rule_line shapes = flat_map rule_part shapes ++ (124 ∷ 10 ∷ [])
