-- The rows of an INSERT that isn't refused fit the columns.
use Rattle.std.proofs.Common.{◌≡◌, ◌≤◌, ◌++◌, ℕ, Bool, true, false, cond, List, [], ◌∷◌, length, map, refl, subst, arith, min}
use Rattle.std.specs.Prelude.{◌&&◌, ◌==◌, not, nat_lt, zip, find, Option, Some, None, option_map}
use Rattle.std.specs.List.{All, AllZip, list_all, flat_map}
use Rattle.std.proofs.lemmas.List.Concat.{flat_map-cons}
use Rattle.std.proofs.lemmas.List.Elements.{All-head, All-tail, All-nil, All-cons}
use Rattle.std.proofs.lemmas.Bool.Decides.{nat_tests}
use Rattle.col_value.specs.declared.wide.Wide.{Wide}
use Rattle.col_value.specs.declared.wide.Wide.TheVariants as wide
use Rattle.col_value.specs.declared.kinds.ColType.{ColType}
use Rattle.col_value.specs.declared.column.Column.{Column}
use Rattle.col_value.specs.Order.{IsRow}
use Rattle.sql_tree.specs.declared.refusal.Refusal.{Refusal}
use Rattle.sql_tree.specs.declared.statement.Insert.{Insert}
use Rattle.sql_bound.specs.declared.expr.Kind.{Kind}
use Rattle.sql_bound.specs.Kinds.{kind_of_column, kind_of_value, serves}
use Rattle.sql_binding.specs.Firsts.{first_of, first_given, refused_where}
use Rattle.sql_binding.specs.Inserts.{pairs, wrong_count, is_of_column, is_out_of_range, is_too_long, is_refused_null, first_such, width_of, narrowed, inserted_rows}
use Rattle.db_model.specs.Sound.{TextFits, ValueFits, RowFits}
use Rattle.sound_laws.proofs.Pairs.{all_front, all_back}
use Rattle.state_laws.specs.Rows.{AreStored}

-- what a refusal's absence tells of each pair of a column and a literal
pub record Stored (p : Column × Wide) : Type 0 where
  pub kind : is_of_column p ≡ true
  pub width : is_too_long p ≡ false
  pub null : is_refused_null p ≡ false

-- ---- one value

number_fits : (kind : ColType) → serves Kind.Number (kind_of_column kind) ≡ true → kind ≡ ColType.Integer
number_fits ColType.Integer is = refl
number_fits (ColType.Varchar n) is = cc
number_fits ColType.Boolean is = cc
number_fits ColType.Date is = cc

truth_fits : (kind : ColType) → serves Kind.Truth (kind_of_column kind) ≡ true → kind ≡ ColType.Boolean
truth_fits ColType.Integer is = cc
truth_fits (ColType.Varchar n) is = cc
truth_fits ColType.Boolean is = refl
truth_fits ColType.Date is = cc

date_fits : (kind : ColType) → serves Kind.Date (kind_of_column kind) ≡ true → kind ≡ ColType.Date
date_fits ColType.Integer is = cc
date_fits (ColType.Varchar n) is = cc
date_fits ColType.Boolean is = cc
date_fits ColType.Date is = refl

within : (n long : ℕ) → nat_lt (min n 65000) long ≡ false → long ≤ n
within n long is = let to : long ≤ min n 65000 = grind (arith, nat_tests) in omega (arith, to)

text_fits : (kind : ColType) (t : List ℕ) → serves (kind_of_value (wide.Text t)) (kind_of_column kind) ≡ true → nat_lt (width_of kind) (length t) ≡ false → TextFits kind t
text_fits ColType.Integer t is short = cc
text_fits (ColType.Varchar n) t is short = within n (length t) short
text_fits ColType.Boolean t is short = cc
text_fits ColType.Date t is short = cc

pub value_fits : (c : Column) (w : Wide) → Stored (c, w) → ValueFits c (narrowed w)
value_fits c wide.Null s = s.null
value_fits c (wide.Bool b) s = truth_fits c.kind s.kind
value_fits c (wide.Int n) s = number_fits c.kind s.kind
value_fits c (wide.Date d) s = date_fits c.kind s.kind
value_fits c (wide.Text t) s = text_fits c.kind t s.kind s.width

-- ---- one row

row_fits : (columns : List Column) (row : List Wide) → length row ≡ length columns → All Stored (zip columns row) → AllZip ValueFits columns (map narrowed row)
row_fits [] [] same all = tt
row_fits [] (w ∷ row) same all = absurd (cc)
row_fits (c ∷ columns) [] same all = absurd (cc)
row_fits (c ∷ columns) (w ∷ row) same all =
    (value_fits c w (All-head Stored (c, w) (zip columns row) all), row_fits columns row (omega (arith, same)) (All-tail Stored (c, w) (zip columns row) all))

-- ---- all rows

first_none : {X : Type 0} (a b : Option X) → first_of a b ≡ None → (a ≡ None) × (b ≡ None)
first_none None b is = (refl, is)
first_none (Some x) b is = absurd (cc)

pub mapped_none : {X Y : Type 0} (f : X → Y) (o : Option X) → option_map f o ≡ None → o ≡ None
mapped_none f None is = refl
mapped_none f (Some x) is = absurd (cc)

pub none_such : {X : Type 0} (p : X → Bool) (xs : List X) → find p xs ≡ None → All (λ x. p x ≡ false) xs
none_such p [] none = All-nil (λ x. p x ≡ false)
none_such p (x ∷ xs) none = by (p x) refl (λ rest. none_such p xs rest) none
  where
    by : (b : Bool) → p x ≡ b → (find p xs ≡ None → All (λ y. p y ≡ false) xs) → cond b (Some x) (find p xs) ≡ None → All (λ y. p y ≡ false) (x ∷ xs)
    by true is more some = absurd (cc)
    by false is more rest = All-cons (λ y. p y ≡ false) x xs is (more rest)

all_such : {X : Type 0} (p : X → Bool) (xs : List X) → list_all p xs ≡ true → All (λ x. p x ≡ true) xs
all_such p [] is = All-nil (λ x. p x ≡ true)
all_such p (x ∷ xs) is = by (p x) refl (λ rest. all_such p xs rest) is
  where
    by : (b : Bool) → p x ≡ b → (list_all p xs ≡ true → All (λ y. p y ≡ true) xs) → (b && list_all p xs) ≡ true → All (λ y. p y ≡ true) (x ∷ xs)
    by true here more rest = All-cons (λ y. p y ≡ true) x xs here (more rest)
    by false here more rest = absurd (cc)

pub not_wrong : (wrong : Bool) (r : Refusal) → refused_where wrong r ≡ None → wrong ≡ false
not_wrong true r is = absurd (cc)
not_wrong false r is = refl

pub right : (b : Bool) → not b ≡ false → b ≡ true
right true is = refl
right false is = cc

counted : (columns : List Column) (row : List Wide) → wrong_count columns row ≡ None → length row ≡ length columns
counted columns row is = by (length row == length columns) refl is
  where
    by : (b : Bool) → (length row == length columns) ≡ b → cond {A = Option (ℕ × ℕ)} b None (Some (length row, length columns)) ≡ None → length row ≡ length columns
    by true same none = grind (arith, same)
    by false other some = absurd (cc)

all_counted : (columns : List Column) (rows : List (List Wide)) → first_given (wrong_count columns) rows ≡ None → All (λ row. length row ≡ length columns) rows
all_counted columns [] none = All-nil (λ row. length row ≡ length columns)
all_counted columns (row ∷ rows) none =
    let both = first_none (wrong_count columns row) (first_given (wrong_count columns) rows) none in
    All-cons (λ r. length r ≡ length columns) row rows (counted columns row both.0) (all_counted columns rows both.1)

all_fit : (columns : List Column) (rows : List (List Wide)) → All (λ row. length row ≡ length columns) rows → All Stored (pairs columns rows) → All IsRow (map (map narrowed) rows) → All (RowFits columns) (map (map narrowed) rows)
all_fit columns [] long all values = All-nil (RowFits columns)
all_fit columns (row ∷ rows) long all values =
    let both : All Stored (zip columns row ++ flat_map (zip columns) rows) = subst (All Stored) (flat_map-cons (zip columns) row rows) all in
    All-cons (RowFits columns) (map narrowed row) (map (map narrowed) rows)
    (record { values = All-head IsRow (map narrowed row) (map (map narrowed) rows) values; each = row_fits columns row (All-head (λ r. length r ≡ length columns) row rows long) (all_front Stored (zip columns row) (flat_map (zip columns) rows) both) })
    (all_fit columns rows (All-tail (λ r. length r ≡ length columns) row rows long) (all_back Stored (zip columns row) (flat_map (zip columns) rows) both) (All-tail IsRow (map narrowed row) (map (map narrowed) rows) values))

pub inserted_fit : (columns : List Column) (i : Insert) → AreStored columns i → All IsRow (inserted_rows i) → All (RowFits columns) (inserted_rows i)
inserted_fit columns i stored values =
    let ps = pairs columns i.rows in
    let literal = first_none (option_map (λ c. Refusal.Arity c.0 c.1) (first_given (wrong_count columns) i.rows)) (refused_where (not (list_all is_of_column ps)) Refusal.TypeMismatch) stored.0 in
    let range = first_none (option_map Refusal.IntegerOutOfRange (first_such is_out_of_range ps)) (first_of (option_map Refusal.TextTooLong (first_such is_too_long ps)) (option_map Refusal.NullRefused (first_such is_refused_null ps))) stored.1 in
    let texts = first_none (option_map Refusal.TextTooLong (first_such is_too_long ps)) (option_map Refusal.NullRefused (first_such is_refused_null ps)) range.1 in
    let kinds : All (λ p. is_of_column p ≡ true) ps = all_such is_of_column ps (right (list_all is_of_column ps) (not_wrong (not (list_all is_of_column ps)) Refusal.TypeMismatch literal.1)) in
    let widths : All (λ p. is_too_long p ≡ false) ps = none_such is_too_long ps (mapped_none (λ x. x.0.name) (find is_too_long ps) (mapped_none Refusal.TextTooLong (first_such is_too_long ps) texts.0)) in
    let nulls : All (λ p. is_refused_null p ≡ false) ps = none_such is_refused_null ps (mapped_none (λ x. x.0.name) (find is_refused_null ps) (mapped_none Refusal.NullRefused (first_such is_refused_null ps) texts.1)) in
    all_fit columns i.rows (all_counted columns i.rows (mapped_none (λ c. Refusal.Arity c.0 c.1) (first_given (wrong_count columns) i.rows) literal.0)) (λ k x lt. record { kind = kinds k x lt; width = widths k x lt; null = nulls k x lt }) values
