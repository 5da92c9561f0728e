-- A literal that isn't refused for its size is a value of a table.
use Rattle.std.proofs.Common.{◌≡◌, ◌≤◌, ℕ, ℤ, pos, negsuc, min, false, List, length, arith}
use Rattle.std.specs.Prelude.{not, nat_lt}
use Rattle.std.proofs.lemmas.Bool.Decides.{nat_tests}
use Rattle.std.proofs.lemmas.Int.{ints}
use Rattle.col_value.specs.declared.column.Column.{Column}
use Rattle.col_value.specs.declared.kinds.ColType.{ColType}
use Rattle.col_value.specs.declared.wide.Wide.{Wide}
use Rattle.col_value.specs.declared.wide.Wide.TheVariants as wide
use Rattle.col_value.specs.Days.{IsDay}
use Rattle.col_value.specs.Order.{IsValue}
use Rattle.sql_binding.specs.Inserts.{is_out_of_range, is_too_long, is_stored_day, is_stored_number, width_of, narrowed}

stored_number : (n : ℤ) → not (is_stored_number n) ≡ false → IsValue (narrowed (wide.Int n))
stored_number (pos n) h = grind (arith, nat_tests, ints)
stored_number (negsuc n) h = grind (arith, nat_tests, ints)

stored_day : (d : ℕ) → not (is_stored_day d) ≡ false → IsDay d
stored_day d h = grind (arith, nat_tests)

stored_text : (k : ColType) (t : List ℕ) → nat_lt (width_of k) (length t) ≡ false → length t ≤ 65000
stored_text ColType.Integer t h = let le : length t ≤ 0 = grind (arith, nat_tests) in omega (arith, le)
stored_text ColType.Boolean t h = let le : length t ≤ 0 = grind (arith, nat_tests) in omega (arith, le)
stored_text ColType.Date t h = let le : length t ≤ 0 = grind (arith, nat_tests) in omega (arith, le)
stored_text (ColType.Varchar n) t h = let le : length t ≤ min n 65000 = grind (arith, nat_tests) in omega (arith, le)

pub stored_value : (c : Column) (w : Wide) → is_out_of_range (c, w) ≡ false → is_too_long (c, w) ≡ false → IsValue (narrowed w)
stored_value c wide.Null r l = tt
stored_value c (wide.Bool b) r l = tt
stored_value c (wide.Int n) r l = stored_number n r
stored_value c (wide.Date d) r l = stored_day d r
stored_value c (wide.Text t) r l = stored_text c.kind t l
