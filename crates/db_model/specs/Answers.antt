-- Printed lines.
use Rattle.std.specs.Prelude.{ℕ, ◌++◌, List, length, codes}
use Rattle.std.specs.List.{flat_map}
use Rattle.std.specs.Fmt.{decimal}
use Rattle.col_value.specs.declared.wide.Wide.{Wide}
use Rattle.col_value.specs.Prints.{row_text}

-- `(n rows)`
abbrev pub count_line : ℕ → List ℕ
count_line n = codes "(" ++ (decimal n ++ codes " rows)\n")

-- a line for each row, and their number
abbrev pub listing_text : List (List Wide) → List ℕ
listing_text rows = flat_map row_text rows ++ count_line (length rows)

-- `INSERT n`
abbrev pub insert_line : ℕ → List ℕ
insert_line n = codes "INSERT " ++ (decimal n ++ codes "\n")

-- `COMMIT EPOCH e`
abbrev pub commit_line : ℕ → List ℕ
commit_line epoch = codes "COMMIT EPOCH " ++ (decimal epoch ++ codes "\n")

-- `EPOCH n`
abbrev pub epoch_line : ℕ → List ℕ
epoch_line epoch = codes "EPOCH " ++ (decimal epoch ++ codes "\n")
