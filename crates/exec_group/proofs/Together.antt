-- Rows at places of columns, taken together.
use Rattle.std.proofs.Common.{◌≡◌, ℕ, ℤ, pos, zero, suc, ◌+◌, ◌-◌, ◌<◌, ◌≤◌, ◌++◌, Bool, if◌then◌else◌, List, [], ◌∷◌, length, get_or, map, replicate, set, take, drop, Option, Some, None, refl, sym, ap, ap₂, ◌∙◌, arith, subst}
use Rattle.std.specs.List.{All}
use Rattle.std.proofs.lemmas.List.{append_assoc, append-nil, length-append, length-drop, length-take, take_all, take_more}
use Rattle.std.proofs.Math.Seq.{take-add}
use Rattle.std.proofs.lemmas.List.Elements.{All-drop, All-head, All-push, All-tail}
use Rattle.col_value.specs.declared.value.Value.{Value}
use Rattle.col_value.specs.declared.wide.Wide.{Wide}
use Rattle.col_value.specs.declared.wide.Wide.TheVariants as wide
use Rattle.sql_bound.specs.declared.query.Aggregate.{Aggregate}
use Rattle.sql_bound.specs.Values.{is_null, number_in}
use Rattle.exec_group.specs.Accumulators.{accumulated, argument_in, taken}
use Rattle.exec_group.specs.Columns.{each_put, padded, put_at, put_each, row_of, taken_at, IsRaised}
use Rattle.exec_group.specs.declared.accumulator.Accumulator.{Accumulator}
use Rattle.exec_group.specs.declared.accumulator.Accumulator.TheVariants as accumulator

abbrev pub Columns : Type 0
Columns = List (Option (List Value))

-- ---- one aggregate

-- a count of rows is raised by each
raised_once : (b : Bool) (n : ℕ) → (if b then accumulator.Rows (n + 1) else accumulator.Rows (n + 1)) ≡ accumulator.Rows (n + 1)
raised_once b n = elim b as (λ x. (if x then accumulator.Rows (n + 1) else accumulator.Rows (n + 1)) ≡ accumulator.Rows (n + 1)) [
  | Bool.true ↦ refl
  | Bool.false ↦ refl
]

rows_taken : (columns : Columns) (a : Aggregate) (places : List ℕ) (n : ℕ) → accumulator.Rows (n + length places) ≡ taken_at columns a places (accumulator.Rows n)
rows_taken columns a [] n = let same : n + 0 ≡ n = omega arith in ap accumulator.Rows same
rows_taken columns a (p ∷ places) n =
    let same : n + suc (length places) ≡ (n + 1) + length places = omega arith in
    ap accumulator.Rows same ∙ rows_taken columns a places (n + 1)
    ∙ ap (taken_at columns a places) (sym (raised_once (is_null (argument_in a.arg (row_of columns p))) n))

pub raised_taken : (columns : Columns) (a : Aggregate) (places : List ℕ) (count : ℕ) (old new : Accumulator) → count ≡ length places → IsRaised count old new → new ≡ taken_at columns a places old
raised_taken columns a places count old new is (n, was, now) =
    now ∙ ap (λ (k : ℕ). accumulator.Rows (n + k)) is ∙ rows_taken columns a places n ∙ ap (taken_at columns a places) (sym was)

abbrev number_or : Option ℤ → ℤ
number_or None = pos 0
number_or (Some n) = n

abbrev first_number : List (Option ℤ) → Option ℤ
first_number [] = None
first_number (o ∷ os) = o

abbrev rest_numbers : List (Option ℤ) → List (Option ℤ)
rest_numbers [] = []
rest_numbers (o ∷ os) = os

-- ---- a column of groups

abbrev pub Column : Type 0
Column = List Accumulator

pub pad_more : (count : ℕ) (x : Accumulator) (column : Column) → length column < count → padded count x (column ++ x ∷ []) ≡ padded count x column
pad_more count x column h =
    let left : count - length column ≡ suc (count - length (column ++ x ∷ [])) = omega (arith, h, length-append column (x ∷ [])) in
    append_assoc column (x ∷ []) (replicate (count - length (column ++ x ∷ [])) x) ∙ ap (λ (n : ℕ). column ++ replicate n x) (sym left)

pub pad_done : (count : ℕ) (x : Accumulator) (column : Column) → count ≤ length column → padded count x column ≡ column
pad_done count x column h =
    let none : count - length column ≡ 0 = omega (arith, h) in ap (λ (n : ℕ). column ++ replicate n x) none ∙ append-nil column

-- a row more in its group
pub put_next : {X : Type 0} (f : X → Wide) (gs : List ℕ) (xs : List X) (column : Column) (i : ℕ) (d : X) → i < length gs → i < length xs
    → put_at (put_each f (take i gs) (take i xs) column) (get_or gs i 0) (f (get_or xs i d)) ≡ put_each f (take (suc i) gs) (take (suc i) xs) column
put_next f [] xs column i d h l = absurd (omega (arith, h))
put_next f (g ∷ gs) [] column i d h l = absurd (omega (arith, l))
put_next f (g ∷ gs) (x ∷ xs) column zero d h l = refl
put_next f (g ∷ gs) (x ∷ xs) column (suc i) d h l = put_next f gs xs (put_at column g (f x)) i d (omega (arith, h)) (omega (arith, l))

pub put_whole : {X : Type 0} (f : X → Wide) (gs : List ℕ) (xs : List X) (column : Column) (i : ℕ) → length gs ≡ length xs → length xs ≤ i → put_each f (take i gs) (take i xs) column ≡ put_each f gs xs column
put_whole f gs xs column i long past = ap₂ (λ hs ys. put_each f hs ys column) (take_all i gs (omega (arith, long, past))) (take_all i xs past)

set_same : (ts : Column) (i : ℕ) (d : Accumulator) → set ts i (get_or ts i d) ≡ ts
set_same [] i d = refl
set_same (t ∷ ts) zero d = refl
set_same (t ∷ ts) (suc i) d = ap (λ (xs : Column). t ∷ xs) (set_same ts i d)

set_again : (ts : Column) (i : ℕ) (x d : Accumulator) (f : Accumulator → Accumulator) → set (set ts i x) i (f (get_or (set ts i x) i d)) ≡ set ts i (f x)
set_again [] i x d f = refl
set_again (t ∷ ts) zero x d f = refl
set_again (t ∷ ts) (suc i) x d f = ap (λ (xs : Column). t ∷ xs) (set_again ts i x d f)

-- rows of one group go there together
pub run_put : (columns : Columns) (a : Aggregate) (g : ℕ) (gs places : List ℕ) (column : Column) → length gs ≡ length places → All (λ h. h ≡ g) gs
    → set column g (taken_at columns a places (get_or column g accumulator.TooGreat)) ≡ put_each (λ p. argument_in a.arg (row_of columns p)) gs places column
run_put columns a g [] [] column long same = set_same column g accumulator.TooGreat
run_put columns a g [] (p ∷ places) column long same = absurd (omega (arith, long))
run_put columns a g (h ∷ gs) [] column long same = absurd (omega (arith, long))
run_put columns a g (h ∷ gs) (p ∷ places) column long same =
    let w = argument_in a.arg (row_of columns p) in
    let here : g ≡ h = sym (All-head (λ h. h ≡ g) h gs same) in
    sym (set_again column g (taken (get_or column g accumulator.TooGreat) w) accumulator.TooGreat (taken_at columns a places))
    ∙ run_put columns a g gs places (put_at column g w) (omega (arith, long)) (All-tail (λ h. h ≡ g) h gs same)
    ∙ ap (λ (k : ℕ). put_each (λ p. argument_in a.arg (row_of columns p)) gs places (put_at column k w)) here

is_number : (w : Wide) (n : ℤ) → Some n ≡ number_in w → wide.Int n ≡ w
is_number wide.Null n e = absurd (cc)
is_number (wide.Bool b) n e = absurd (cc)
is_number (wide.Int m) n e = ap (λ (o : Option ℤ). wide.Int (number_or o)) e
is_number (wide.Date d) n e = absurd (cc)
is_number (wide.Text t) n e = absurd (cc)

-- numbers that the rows are worth
pub numbers_put : (columns : Columns) (a : Aggregate) (gs places : List ℕ) (numbers : List ℤ) (column : Column) → map Some numbers ≡ map (λ i. number_in (argument_in a.arg (row_of columns i))) places
    → put_each (λ n. wide.Int n) gs numbers column ≡ put_each (λ p. argument_in a.arg (row_of columns p)) gs places column
numbers_put columns a [] places numbers column is = refl
numbers_put columns a (g ∷ gs) [] [] column is = refl
numbers_put columns a (g ∷ gs) [] (n ∷ numbers) column is = absurd cc
numbers_put columns a (g ∷ gs) (p ∷ places) [] column is = absurd cc
numbers_put columns a (g ∷ gs) (p ∷ places) (n ∷ numbers) column is =
    ap (λ (w : Wide). put_each (λ n. wide.Int n) gs numbers (put_at column g w)) (is_number (argument_in a.arg (row_of columns p)) n (ap first_number is))
    ∙ numbers_put columns a gs places numbers (put_at column g (argument_in a.arg (row_of columns p))) (ap rest_numbers is)

-- ---- the columns of all aggregates

-- the next aggregate takes the rows
pub next_put : {X : Type 0} (row : X → List Value) (count : ℕ) (gs : List ℕ) (xs : List X) (aggs : List Aggregate) (columns : List Column) (i : ℕ) (a : Aggregate) → i < length aggs → a ≡ get_or aggs i a
    → set (each_put row count gs xs (take i aggs) columns) i (put_each (λ x. argument_in a.arg (row x)) gs xs (padded count (accumulated a.kind 0 []) (get_or (each_put row count gs xs (take i aggs) columns) i []))) ≡ each_put row count gs xs (take (suc i) aggs) columns
next_put row count gs xs [] columns i a h is = absurd (omega arith)
next_put row count gs xs (b ∷ aggs) [] zero a h is = refl
next_put row count gs xs (b ∷ aggs) [] (suc i) a h is = refl
next_put row count gs xs (b ∷ aggs) (c ∷ cs) zero a h is = ap (λ (z : Aggregate). put_each (λ x. argument_in z.arg (row x)) gs xs (padded count (accumulated z.kind 0 []) c) ∷ cs) is
next_put row count gs xs (b ∷ aggs) (c ∷ cs) (suc i) a h is = ap (λ (ds : List Column). put_each (λ x. argument_in b.arg (row x)) gs xs (padded count (accumulated b.kind 0 []) c) ∷ ds) (next_put row count gs xs aggs cs i a (omega arith) is)

-- ---- places

-- one place more
pub all_next : (P : ℕ → Type 0) (xs : List ℕ) (n x : ℕ) → n < length xs → x ≡ get_or xs n 0 → All P (take n xs) → P x → All P (take (n + 1) xs)
all_next P xs n x h is all here = subst (λ (l : List ℕ). All P l) (sym (take_more xs n 0 h)) (All-push P (take n xs) (get_or xs n 0) all (subst P is here))

-- those from a place on
abbrev pub places_from : List ℕ → ℕ → List ℕ
places_from places at = take (length places - at) (drop at places)

pub all_from : (places : List ℕ) (at : ℕ) → places_from places at ≡ drop at places
all_from places at = take_all (length places - at) (drop at places) (omega (arith, length-drop at places))

pub rows_from : (P : ℕ → Type 0) (places : List ℕ) (at : ℕ) → All P places → All P (places_from places at)
rows_from P places at all = subst (All P) (sym (all_from places at)) (All-drop P at places all)

pub some_from : (places : List ℕ) (at : ℕ) → at < length places → 0 < length (places_from places at)
some_from places at h = omega (arith, ap length (all_from places at), length-drop at places)

pub within_more : (places : List ℕ) (at n : ℕ) → at ≤ length places → n ≤ length (places_from places at) → at + n ≤ length places
within_more places at n h k = omega (arith, h, k, ap length (all_from places at), length-drop at places)

pub long_from : (gs places : List ℕ) (at : ℕ) → length gs ≡ length places → length (places_from gs at) ≡ length (places_from places at)
long_from gs places at long =
    omega (arith, long, ap length (all_from gs at), ap length (all_from places at), length-drop at gs, length-drop at places)

put_apart : {X : Type 0} (f : X → Wide) (gs hs : List ℕ) (xs ys : List X) (column : Column) → length gs ≡ length xs → put_each f (gs ++ hs) (xs ++ ys) column ≡ put_each f hs ys (put_each f gs xs column)
put_apart f [] hs [] ys column long = refl
put_apart f [] hs (x ∷ xs) ys column long = absurd (omega (arith, long))
put_apart f (g ∷ gs) hs [] ys column long = absurd (omega (arith, long))
put_apart f (g ∷ gs) hs (x ∷ xs) ys column long = put_apart f gs hs xs ys (put_at column g (f x)) (omega (arith, long))

-- more rows of those that stand from a place on
pub put_further : (f : ℕ → Wide) (gs places : List ℕ) (at n : ℕ) (first now next : Column) → length gs ≡ length places → at ≤ length places → now ≡ put_each f (take at gs) (take at places) first
    → next ≡ put_each f (take n (places_from gs at)) (take n (places_from places at)) now → next ≡ put_each f (take (at + n) gs) (take (at + n) places) first
put_further f gs places at n first now next long within was is =
    let here : length (take at gs) ≡ length (take at places) = omega (arith, long, length-take at gs, length-take at places) in
    is ∙ ap₂ (λ (hs ps : List ℕ). put_each f (take n hs) (take n ps) now) (all_from gs at) (all_from places at)
    ∙ ap (put_each f (take n (drop at gs)) (take n (drop at places))) was
    ∙ sym (put_apart f (take at gs) (take n (drop at gs)) (take at places) (take n (drop at places)) first here)
    ∙ sym (ap₂ (λ (hs ps : List ℕ). put_each f hs ps first) (take-add at n gs) (take-add at n places))
