-- Literals that nothing refuses are values of a table.
use Rattle.std.proofs.Common.{◌≡◌, sym, ◌∙◌, refl, ℕ, ℤ, pos, negsuc, min, ◌≤◌, ◌&&◌, cond, List, [], ◌∷◌, ◌++◌, length, get_or, map, Bool, true, false, Option, None, Some, arith}
use Rattle.std.specs.Prelude.{zip, find, not, ◌==◌, nat_lt, option_map}
use Rattle.std.specs.Option.{option_or}
use Rattle.std.specs.List.{All, list_all}
use Rattle.std.proofs.lemmas.Bool.{ltb-false}
use Rattle.std.proofs.lemmas.Bool.Decides.{nat_tests}
use Rattle.std.proofs.lemmas.List.Elements.{All-cons, All-map}
use Rattle.std.proofs.lemmas.List.Folds.{list_all-append, find-append}
use Rattle.std.proofs.lemmas.Int.{ints}
use Rattle.col_value.specs.Days.{IsDay}
use Rattle.col_value.specs.Order.{IsValue, IsRow}
use Rattle.col_value.specs.declared.kinds.ColType.{ColType}
use Rattle.col_value.specs.declared.wide.Wide.{Wide}
use Rattle.col_value.specs.declared.wide.Wide.TheVariants as wide
use Rattle.sql_tree.specs.declared.refusal.Refusal.{Refusal}
use Rattle.sql_tree.specs.declared.statement.AddColumn.{AddColumn}
use Rattle.sql_tree.specs.declared.statement.Insert.{Insert}
use Rattle.col_value.specs.declared.column.Column.{Column}
use Rattle.sql_bound.specs.declared.expr.Kind.{Kind}
use Rattle.sql_bound.specs.Kinds.{serves, kind_of_column}
use Rattle.sql_binding.specs.Firsts.{first_of, first_given, refused_where}
use Rattle.sql_binding.specs.Additions.{added_pair, default_refusal, default_value}
use Rattle.sql_binding.specs.Inserts.{pairs, wrong_count, is_of_column, is_out_of_range, is_too_long, is_stored_number, is_stored_day, width_of, narrowed, whole_refusal, first_such, is_refused_null}
use Rattle.change_binder.specs.Flaws.{AreStored}

-- literals beside their columns, none of another kind, out of range or too long
pub record Fits (ps : List (Column × Wide)) : Type 0 where
  pub kinds : list_all is_of_column ps ≡ true
  pub ranges : find is_out_of_range ps ≡ None
  pub lengths : find is_too_long ps ≡ None

stored_number : (n : ℤ) → not (is_stored_number n) ≡ false → IsValue (narrowed (wide.Int n))
stored_number (pos n) h = grind (arith, nat_tests, ints)
stored_number (negsuc n) h = grind (arith, nat_tests, ints)

stored_day : (d : ℕ) → not (is_stored_day d) ≡ false → IsDay d
stored_day d h = grind (arith, nat_tests)

stored_text : (k : ColType) (t : List ℕ) → nat_lt (width_of k) (length t) ≡ false → length t ≤ 65000
stored_text ColType.Integer t l = omega (arith, ltb-false 0 (length t) l)
stored_text ColType.Boolean t l = omega (arith, ltb-false 0 (length t) l)
stored_text ColType.Date t l = omega (arith, ltb-false 0 (length t) l)
stored_text (ColType.Varchar n) t l = omega (arith, ltb-false (min n 65000) (length t) l)

stored_literal : (c : Column) (w : Wide) → is_out_of_range (c, w) ≡ false → is_too_long (c, w) ≡ false → IsValue (narrowed w)
stored_literal c wide.Null r l = tt
stored_literal c (wide.Bool b) r l = tt
stored_literal c (wide.Int n) r l = stored_number n r
stored_literal c (wide.Date d) r l = stored_day d r
stored_literal c (wide.Text t) r l = stored_text c.kind t l

-- what is found nowhere is neither at the front nor behind it
found_nowhere : {X : Type 0} (b : Bool) (x : X) (o : Option X) → cond b (Some x) o ≡ None → (b ≡ false) × (o ≡ None)
found_nowhere true x o e = cc
found_nowhere false x o e = (refl, e)

both_true : (a b : Bool) → (a && b) ≡ true → (a ≡ true) × (b ≡ true)
both_true true b e = (refl, e)
both_true false b e = cc

fits_first : (c : Column) (w : Wide) (ps : List (Column × Wide)) → Fits ((c, w) ∷ ps) → IsValue (narrowed w) × Fits ps
fits_first c w ps f =
    let k = both_true (is_of_column (c, w)) (list_all is_of_column ps) f.kinds in
    let r = found_nowhere (is_out_of_range (c, w)) (c, w) (find is_out_of_range ps) f.ranges in
    let l = found_nowhere (is_too_long (c, w)) (c, w) (find is_too_long ps) f.lengths in
    (stored_literal c w r.0 l.0, record { kinds = k.1; ranges = r.1; lengths = l.1 })

-- a row of as many literals as there are columns
fits_row : (columns : List Column) (row : List Wide) → length row ≡ length columns → Fits (zip columns row) → AreStored row
fits_row columns [] e f = λ k d h. absurd (omega (arith, h))
fits_row [] (w ∷ row) e f = absurd (omega (arith, e))
fits_row (c ∷ columns) (w ∷ row) e f =
    let both = fits_first c w (zip columns row) f in
    let same : length row ≡ length columns = omega (arith, e) in
    All-cons (λ v. IsValue (narrowed v)) w row both.0 (fits_row columns row same both.1)

or_none : {X : Type 0} (a b : Option X) → option_or a b ≡ None → (a ≡ None) × (b ≡ None)
or_none None b e = (refl, e)
or_none (Some x) b e = cc

fits_parts : (xs ys : List (Column × Wide)) → Fits (xs ++ ys) → Fits xs × Fits ys
fits_parts xs ys f =
    let k = both_true (list_all is_of_column xs) (list_all is_of_column ys) (sym (list_all-append is_of_column xs ys) ∙ f.kinds) in
    let r = or_none (find is_out_of_range xs) (find is_out_of_range ys) (sym (find-append is_out_of_range xs ys) ∙ f.ranges) in
    let l = or_none (find is_too_long xs) (find is_too_long ys) (sym (find-append is_too_long xs ys) ∙ f.lengths) in
    (record { kinds = k.0; ranges = r.0; lengths = l.0 }, record { kinds = k.1; ranges = r.1; lengths = l.1 })

right_count : (b : Bool) (n m : ℕ) (o : Option (ℕ × ℕ)) → first_of (cond b None (Some (n, m))) o ≡ None → (b ≡ true) × (o ≡ None)
right_count true n m o e = (refl, e)
right_count false n m o e = cc

fits_rows : (columns : List Column) (rows : List (List Wide)) → first_given (wrong_count columns) rows ≡ None → Fits (pairs columns rows) → All AreStored rows
fits_rows columns [] e f = λ k d h. absurd (omega (arith, h))
fits_rows columns (row ∷ rows) e f =
    let n = right_count (length row == length columns) (length row) (length columns) (first_given (wrong_count columns) rows) e in
    let both = fits_parts (zip columns row) (pairs columns rows) f in
    All-cons AreStored row rows (fits_row columns row (grind (arith, nat_tests, n.0)) both.0) (fits_rows columns rows n.1 both.1)

neither : {X : Type 0} (a b : Option X) → first_of a b ≡ None → (a ≡ None) × (b ≡ None)
neither None b e = (refl, e)
neither (Some x) b e = cc

none_mapped : {X Y : Type 0} (g : X → Y) (o : Option X) → option_map g o ≡ None → o ≡ None
none_mapped g None e = refl
none_mapped g (Some x) e = cc

not_refused : (b : Bool) (r : Refusal) → refused_where (not b) r ≡ None → b ≡ true
not_refused true r e = refl
not_refused false r e = cc

-- the literals of an INSERT that isn't refused
pub stored_rows : (columns : List Column) (i : Insert) → whole_refusal (Some columns) i ≡ None → All AreStored i.rows
stored_rows columns i e =
    let ps = pairs columns i.rows in
    let counted = option_map (λ (c : ℕ × ℕ). Refusal.Arity c.0 c.1) (first_given (wrong_count columns) i.rows) in
    let kinds = refused_where (not (list_all is_of_column ps)) Refusal.TypeMismatch in
    let range = option_map Refusal.IntegerOutOfRange (first_such is_out_of_range ps) in
    let width = option_map Refusal.TextTooLong (first_such is_too_long ps) in
    let null = option_map Refusal.NullRefused (first_such is_refused_null ps) in
    let halves = neither (first_of counted kinds) (first_of range (first_of width null)) e in
    let front = neither counted kinds halves.0 in
    let back = neither range (first_of width null) halves.1 in
    let last = neither width null back.1 in
    fits_rows columns i.rows (none_mapped (λ (c : ℕ × ℕ). Refusal.Arity c.0 c.1) (first_given (wrong_count columns) i.rows) front.0)
    (record {
      kinds = not_refused (list_all is_of_column ps) Refusal.TypeMismatch front.1;
      ranges = none_mapped (λ (x : Column × Wide). x.0.name) (find is_out_of_range ps) (none_mapped Refusal.IntegerOutOfRange (first_such is_out_of_range ps) back.0);
      lengths = none_mapped (λ (x : Column × Wide). x.0.name) (find is_too_long ps) (none_mapped Refusal.TextTooLong (first_such is_too_long ps) last.0);
    })

-- literals that are stored make rows of a table
pub narrowed_rows : (rows : List (List Wide)) → All AreStored rows → All IsRow (map (map narrowed) rows)
narrowed_rows rows h = All-map IsRow (map narrowed) rows (λ k d l. All-map IsValue narrowed (get_or rows k d) (h k d l))

-- a default that nothing refuses is a value of a table
none_such : (p : Column × Wide → Bool) (x : Column × Wide) (named : List ℕ → Refusal) → option_map named (first_such p (x ∷ [])) ≡ None → p x ≡ false
none_such p x named e = by (p x) e
  where
    by : (b : Bool) → option_map named (option_map (λ (y : Column × Wide). y.0.name) (cond b (Some x) None)) ≡ None → b ≡ false
    by true e = cc
    by false e = refl

pub stored_default : (a : AddColumn) → default_refusal a ≡ None → IsValue (default_value a)
stored_default a e =
    let ps = added_pair a ∷ [] in
    let range = option_map Refusal.IntegerOutOfRange (first_such is_out_of_range ps) in
    let width = option_map Refusal.TextTooLong (first_such is_too_long ps) in
    let null = option_map Refusal.NullRefused (first_such is_refused_null ps) in
    let front = neither range (first_of width null) e in
    let back = neither width null front.1 in
    stored_literal a.column a.default (none_such is_out_of_range (added_pair a) Refusal.IntegerOutOfRange front.0)
    (none_such is_too_long (added_pair a) Refusal.TextTooLong back.0)
