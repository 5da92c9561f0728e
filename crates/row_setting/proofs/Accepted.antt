-- What isn't refused of what an UPDATE sets, and the rows that it makes.
use Rattle.std.proofs.Common.{◌≡◌, ◌≤◌, ◌<◌, ◌+◌, ◌++◌, ℕ, zero, suc, ℤ, pos, negsuc, min, Bool, true, false, cond, List, [], ◌∷◌, length, get_or, drop, map, filter, set, Option, Some, None, refl, sym, ◌∙◌, ap, subst, arith}
use Rattle.std.specs.Prelude.{◌==◌, not, nat_lt, find, option_map}
use Rattle.std.specs.List.{All, enumerate_from, flat_map}
use Rattle.std.proofs.lemmas.Bool.Decides.{nat_tests}
use Rattle.std.proofs.lemmas.Int.{ints}
use Rattle.std.proofs.lemmas.List.{at_drop_more}
use Rattle.std.proofs.lemmas.List.Concat.{flat_map-cons}
use Rattle.std.proofs.lemmas.List.Elements.{All-head, All-tail, All-cons, All-nil, All-set}
use Rattle.col_value.specs.declared.column.Column.{Column}
use Rattle.col_value.specs.declared.kinds.ColType.{ColType}
use Rattle.col_value.specs.declared.value.Value.{Value}
use Rattle.col_value.specs.declared.wide.Wide.{Wide}
use Rattle.col_value.specs.declared.wide.Wide.TheVariants as wide
use Rattle.col_value.specs.Days.{IsDay}
use Rattle.col_value.specs.Order.{IsRow, IsValue}
use Rattle.sql_tree.specs.declared.refusal.Refusal.{Refusal}
use Rattle.sql_bound.specs.declared.expr.Expr.{Expr}
use Rattle.sql_bound.specs.Values.{of_row, value_of}
use Rattle.sql_binding.specs.Firsts.{first_of}
use Rattle.sql_binding.specs.Inserts.{first_such, is_out_of_range, is_too_long, is_refused_null, is_stored_day, is_stored_number, width_of, narrowed}
use Rattle.db_model.specs.Events.{set_row, set_values}
use Rattle.db_model.specs.Refusals.{all_pairs, pairs_refusal, set_pairs}
use Rattle.sound_laws.proofs.Storable.{stored_value}
use Rattle.row_setting.specs.Storing.{AreStorable}
use Rattle.row_setting.proofs.Flawed.{worth_in}

-- what the absence of a refusal tells of a value beside its column
pub record Stored (p : Column × Wide) : Type 0 where
  pub range : is_out_of_range p ≡ false
  pub width : is_too_long p ≡ false
  pub null : is_refused_null p ≡ false

first_none : {X : Type 0} (a b : Option X) → first_of a b ≡ None → (a ≡ None) × (b ≡ None)
first_none None b is = (refl, is)
first_none (Some x) b is = absurd (cc)

pub mapped_none : {X Y : Type 0} (f : X → Y) (o : Option X) → option_map f o ≡ None → o ≡ None
mapped_none f None is = refl
mapped_none f (Some x) is = absurd (cc)

none_such : {X : Type 0} (p : X → Bool) (xs : List X) → find p xs ≡ None → All (λ x. p x ≡ false) xs
none_such p [] none = All-nil (λ x. p x ≡ false)
none_such p (x ∷ xs) none = by (p x) refl (λ rest. none_such p xs rest) none
  where
    by : (b : Bool) → p x ≡ b → (find p xs ≡ None → All (λ y. p y ≡ false) xs) → cond b (Some x) (find p xs) ≡ None → All (λ y. p y ≡ false) (x ∷ xs)
    by true is more some = absurd (cc)
    by false is more rest = All-cons (λ y. p y ≡ false) x xs is (more rest)

no_first : (p : Column × Wide → Bool) (f : List ℕ → Refusal) (ps : List (Column × Wide)) → option_map f (first_such p ps) ≡ None → All (λ x. p x ≡ false) ps
no_first p f ps none = none_such p ps (mapped_none (λ (x : Column × Wide). x.0.name) (find p ps) (mapped_none f (first_such p ps) none))

pub all_stored : (ps : List (Column × Wide)) → pairs_refusal ps ≡ None → All Stored ps
all_stored ps none =
    let null = option_map Refusal.NullRefused (first_such is_refused_null ps) in
    let width = option_map Refusal.TextTooLong (first_such is_too_long ps) in
    let first = first_none (option_map Refusal.IntegerOutOfRange (first_such is_out_of_range ps)) (first_of width null) none in
    let rest = first_none width null first.1 in
    let ranges : All (λ p. is_out_of_range p ≡ false) ps = no_first is_out_of_range Refusal.IntegerOutOfRange ps first.0 in
    let widths : All (λ p. is_too_long p ≡ false) ps = no_first is_too_long Refusal.TextTooLong ps rest.0 in
    let nulls : All (λ p. is_refused_null p ≡ false) ps = no_first is_refused_null Refusal.NullRefused ps rest.1 in
    λ k p lt. record { range = ranges k p lt; width = widths k p lt; null = nulls k p lt }

-- ---- each value that is set stands among them

front : {X : Type 0} (P : X → Type 0) (xs ys : List X) → All P (xs ++ ys) → All P xs
front P [] ys all = All-nil P
front P (x ∷ xs) ys all = All-cons P x xs (All-head P x (xs ++ ys) all) (front P xs ys (All-tail P x (xs ++ ys) all))

back : {X : Type 0} (P : X → Type 0) (xs ys : List X) → All P (xs ++ ys) → All P ys
back P [] ys all = all
back P (x ∷ xs) ys all = back P xs ys (All-tail P x (xs ++ ys) all)

-- of a numbered list, at each place
at_numbers : {X Y : Type 0} (P : Y → Type 0) (f : ℕ × X → List Y) (n : ℕ) (xs : List X) → All P (flat_map f (enumerate_from n xs)) → (i : ℕ) (d : X) → i < length xs → All P (f (n + i, get_or xs i d))
at_numbers P f n [] all i d lt = absurd (omega (arith, lt))
at_numbers {X} {Y} P f n (x ∷ xs) all i d lt = at (λ rest k below. at_numbers P f (n + 1) xs rest k d below) i lt
  where
    both : All P (f (n, x) ++ flat_map f (enumerate_from (n + 1) xs))
    both = subst (All P) (flat_map-cons f (n, x) (enumerate_from (n + 1) xs)) all

    at : (All P (flat_map f (enumerate_from (n + 1) xs)) → (k : ℕ) → k < length xs → All P (f (n + 1 + k, get_or xs k d))) → (k : ℕ) → k < length (x ∷ xs) → All P (f (n + k, get_or (x ∷ xs) k d))
    at more zero below = subst (λ (m : ℕ). All P (f (m, x))) (omega arith) (front P (f (n, x)) (flat_map f (enumerate_from (n + 1) xs)) both)
    at more (suc k) below = subst (λ (m : ℕ). All P (f (m, get_or xs k d))) (omega arith) (more (back P (f (n, x)) (flat_map f (enumerate_from (n + 1) xs)) both) k (omega (arith, below)))

-- of a filtered list, where the test holds
at_filtered : {X Y : Type 0} (P : Y → Type 0) (q : X → Bool) (f : X → List Y) (xs : List X) → All P (flat_map f (filter q xs)) → All (λ x. q x ≡ true → All P (f x)) xs
at_filtered P q f [] all = All-nil (λ x. q x ≡ true → All P (f x))
at_filtered P q f (x ∷ xs) all = by (q x) refl (λ rest. at_filtered P q f xs rest) all
  where
    by : (b : Bool) → q x ≡ b → (All P (flat_map f (filter q xs)) → All (λ y. q y ≡ true → All P (f y)) xs) → All P (flat_map f (cond b (x ∷ filter q xs) (filter q xs))) → All (λ y. q y ≡ true → All P (f y)) (x ∷ xs)
    by true is more some =
        let both : All P (f x ++ flat_map f (filter q xs)) = subst (All P) (flat_map-cons f x (filter q xs)) some in
        All-cons (λ y. q y ≡ true → All P (f y)) x xs (λ on. front P (f x) (flat_map f (filter q xs)) both) (more (back P (f x) (flat_map f (filter q xs)) both))
    by false is more rest = All-cons (λ y. q y ≡ true → All P (f y)) x xs (λ on. absurd (cc)) (more rest)

of_mapped : {X Y : Type 0} (P : Y → Type 0) (f : X → Y) (xs : List X) → All P (map f xs) → All (λ x. P (f x)) xs
of_mapped P f [] all = All-nil (λ x. P (f x))
of_mapped P f (x ∷ xs) all = All-cons (λ y. P (f y)) x xs (All-head P (f x) (map f xs) all) (of_mapped P f xs (All-tail P (f x) (map f xs) all))

-- what a setting sets its column to in each row
abbrev pub IsSetTo : (Column × Wide → Type 0) → List Column → List (List Value) → ℕ × Expr → Type 0
IsSetTo P columns rows s = (d : Column) → All (λ row. P (worth_in (get_or columns s.0 d) s row)) rows

pub set_to : (P : Column × Wide → Type 0) (sets : List (ℕ × Expr)) (rows : List (List Value)) (columns : List Column) → All P (all_pairs sets rows columns) → All (λ s. s.0 < length columns) sets → All (IsSetTo P columns rows) sets
set_to P sets rows columns all places k s lt d =
    let set = get_or sets k s in
    let at : set.0 < length columns = places k s lt in
    let column = get_or columns set.0 d in
    let from_0 : 0 + set.0 ≡ set.0 = omega arith in
    let own : All P (set_pairs sets rows (set.0, column)) = subst (λ (m : ℕ). All P (set_pairs sets rows (m, column))) from_0 (at_numbers P (set_pairs sets rows) 0 columns all set.0 d at) in
    let same : (set.0 == set.0) ≡ true = grind (arith, nat_tests) in
    of_mapped P (worth_in column set) rows (at_filtered P (λ x. x.0 == set.0) (λ x. map (worth_in column x) rows) sets own k s lt same)

-- ---- rows of a table

-- values that nothing refuses can be stored, in each row
pub all_storable : (sets : List (ℕ × Expr)) (rows : List (List Value)) (columns : List Column) → pairs_refusal (all_pairs sets rows columns) ≡ None → All (λ s. s.0 < length columns) sets → All (AreStorable sets) rows
all_storable sets rows columns none places i row below k s lt =
    let all = set_to Stored sets rows columns (all_stored (all_pairs sets rows columns) none) places in
    let set = get_or sets k s in
    let c = get_or columns set.0 blank in
    let is : Stored (c, value_of (of_row (get_or rows i row)) set.1) = all k s lt blank i row below in
    stored_value c (value_of (of_row (get_or rows i row)) set.1) is.range is.width
  where
    blank : Column
    blank = record { name = []; kind = ColType.Integer; not_null = false }

-- such rows are rows of a table
row_set : (sets : List (ℕ × Expr)) (old row : List Value) → AreStorable sets old → IsRow row → IsRow (set_values sets old row)
row_set [] old row are is = is
row_set (s ∷ sets) old row are is =
    let value = narrowed (value_of (of_row old) s.1) in
    row_set sets old (set row s.0 value) (All-tail (λ x. IsValue (narrowed (value_of (of_row old) x.1))) s sets are)
    (All-set IsValue row s.0 value (All-head (λ x. IsValue (narrowed (value_of (of_row old) x.1))) s sets are) is)

pub rows_set : (sets : List (ℕ × Expr)) (rows : List (List Value)) → All (AreStorable sets) rows → All IsRow rows → All IsRow (map (set_row sets) rows)
rows_set sets [] are is = All-nil IsRow
rows_set sets (row ∷ rows) are is =
    All-cons IsRow (set_row sets row) (map (set_row sets) rows) (row_set sets row row (All-head (AreStorable sets) row rows are) (All-head IsRow row rows is))
    (rows_set sets rows (All-tail (AreStorable sets) row rows are) (All-tail IsRow row rows is))

-- ---- one setting after the other

set_next : (sets : List (ℕ × Expr)) (old row : List Value) (i : ℕ) (s : ℕ × Expr) → i < length sets → s ≡ get_or sets i s
    → set_values (drop i sets) old row ≡ set_values (drop (i + 1) sets) old (set row s.0 (narrowed (value_of (of_row old) s.1)))
set_next sets old row i s lt is =
    at_drop_more (λ (xs : List (ℕ × Expr)). set_values xs old row) sets i s lt
    ∙ ap (λ (x : ℕ × Expr). set_values (drop (i + 1) sets) old (set row x.0 (narrowed (value_of (of_row old) x.1)))) (sym is)

pub set_so_far : (sets : List (ℕ × Expr)) (old row next : List Value) (i : ℕ) (s : ℕ × Expr) (v : Value) → i < length sets → s ≡ get_or sets i s → v ≡ narrowed (value_of (of_row old) s.1) → next ≡ set row s.0 v
    → set_values (drop i sets) old row ≡ set_row sets old → set_values (drop (i + 1) sets) old next ≡ set_row sets old
set_so_far sets old row next i s v lt is value put so_far =
    ap (λ (x : List Value). set_values (drop (i + 1) sets) old x) (put ∙ ap (λ (x : Value). set row s.0 x) value) ∙ sym (set_next sets old row i s lt is) ∙ so_far
