-- The generated script, and the load that it copies from the name `@gen`.
use Rattle.std.specs.Prelude.{ℕ, zero, suc, ◌+◌, ◌*◌, ◌^◌, ◌/◌, ◌%◌, ◌==◌, if◌then◌else◌, List, [], ◌++◌, Option, Some, None, bytes_eq, codes, decimal}

-- its eight statements, with a line feed behind each line
abbrev pub generated_script : List ℕ
generated_script =
    codes "CREATE TABLE orders (id INTEGER NOT NULL, region VARCHAR(8), qty INTEGER, price INTEGER);\nCREATE PROJECTION orders_region (region ENCODING RLE, qty, price)\n  AS SELECT region, qty, price FROM orders ORDER BY region, qty;\nCOPY orders FROM '@gen';\nSELECT DO_TM_TASK('moveout');\nDELETE FROM orders WHERE qty = 0;\nCOMMIT;\nSELECT region, COUNT(*), SUM(qty * price) FROM orders GROUP BY region;\nAT EPOCH 1 SELECT COUNT(*) FROM orders;\n"

-- the number that follows x
abbrev pub number_after : ℕ → ℕ
number_after x = (6364136223846793005 * x + 1442695040888963407) % 2 ^ 64

-- what of a number its line is made of
abbrev pub drawn : ℕ → ℕ
drawn x = x / 2 ^ 33

abbrev pub region : ℕ → List ℕ
region n = if n == 0 then codes "north" else (if n == 1 then codes "south" else (if n == 2 then codes "east" else codes "west"))

-- line i: its number, the region, the quantity and the price
abbrev pub generated_line : ℕ → ℕ → List ℕ
generated_line i y = decimal i ++ codes "|" ++ region (y % 4) ++ codes "|" ++ decimal (y / 4 % 10) ++ codes "|" ++ decimal (y / 40 % 10000) ++ codes "\n"

-- so many lines, from line i on, where x is the number before
abbrev pub lines_from : ℕ → ℕ → ℕ → List ℕ
lines_from zero i x = []
lines_from (suc more) i x = generated_line i (drawn (number_after x)) ++ lines_from more (i + 1) (number_after x)

abbrev pub generated_load : ℕ → ℕ → List ℕ
generated_load lines seed = lines_from lines 1 seed

-- the name `@gen` has the load, and no other name has anything
abbrev pub generated_files : ℕ → ℕ → List ℕ → Option (List ℕ)
generated_files lines seed name = if bytes_eq name (codes "@gen") then Some (generated_load lines seed) else None
