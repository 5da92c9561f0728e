-- Operations over lanes of numbers.
use Rattle.std.proofs.Common.{◌≡◌, ℕ, suc, ◌+◌, ◌<◌, ◌≤◌, ℤ, pos, neg_ℤ, ◌+ℤ◌, ◌*ℤ◌, ◌++◌, Bool, true, false, if◌then◌else◌, List, [], ◌∷◌, length, get_or, map, take, set, fold, replicate, unsigned_abs, Option, Some, None, refl, sym, ap, ap₂, ◌∙◌, arith, inl, inr}
use Rattle.std.proofs.lemmas.Bool.{cases_lt}
use Rattle.std.proofs.lemmas.List.{get_or-map, get_or-set_other, get_or-set_same, length-map, length-set, map-append, take_more}
use Rattle.std.proofs.lemmas.List.Sums.{fold-append}
use Rattle.col_value.specs.declared.wide.Wide.{Wide}
use Rattle.col_value.specs.declared.wide.Wide.TheVariants as wide
use Rattle.sql_bound.specs.declared.expr.BoundTerm.{BoundTerm}
use Rattle.sql_bound.specs.declared.expr.Expr.{Expr}
use Rattle.sql_bound.specs.declared.expr.Expr.TheFolds.{fold_out-BoundTerm}
use Rattle.sql_bound.specs.Values.{Scope, negated, number_in, of_both, of_row, term_step, value_of, value_step}
use Rattle.expr_value.specs.Terms.{added, multiplied, term_value}
use Rattle.exec_group.specs.Columns.{row_of, IsTotalOf}
use Rattle.exec_group.proofs.Together.{Columns}
use Rattle.exec_group.proofs.Totals.{total_all, total_more}

abbrev pub Lane : Type 0
Lane = List ℤ

abbrev pub at : Lane → ℕ → ℤ
at lane k = get_or lane k (pos 0)

-- numbers before place i were changed by those of another lane, the others are as they were
pub record OpUpto (f : ℤ → ℤ → ℤ) (part : Lane) (i : ℕ) (old new : Lane) : Type 0 where
  pub long : length new ≡ length old
  pub done : (j : ℕ) → j < i → at new j ≡ f (at old j) (at part j)
  pub rest : (j : ℕ) → i ≤ j → at new j ≡ at old j

pub op_none : (f : ℤ → ℤ → ℤ) (part lane : Lane) → OpUpto f part 0 lane lane
op_none f part lane = record {
  long = refl;
  done = λ j lt. absurd (omega (arith, lt));
  rest = λ j from. refl;
}

pub op_more : (f : ℤ → ℤ → ℤ) (part : Lane) (i : ℕ) (old now : Lane) (v : ℤ) → i < length now → v ≡ f (at now i) (at part i) → OpUpto f part i old now → OpUpto f part (i + 1) old (set now i v)
op_more f part i old now v lt is upto = record {
  long = length-set now i v ∙ upto.long;
  done = λ j below.
      elim (cases_lt j i) [
        | inl front ↦ get_or-set_other now i j v (pos 0) (λ same. omega (arith, same, front)) ∙ upto.done j front
        | inr past ↦
            let same : j ≡ i = omega (arith, past, below) in
            ap (λ (k : ℕ). at (set now i v) k) same ∙ get_or-set_same now i v (pos 0) lt ∙ is ∙ ap (λ (a : ℤ). f a (at part i)) (upto.rest i (omega arith)) ∙ ap (λ (k : ℕ). f (at old k) (at part k)) (sym same)
      ];
  rest = λ j from. get_or-set_other now i j v (pos 0) (λ same. omega (arith, same, from)) ∙ upto.rest j (omega (arith, from));
}

-- ---- lanes and what they are the numbers of

pub number_there : (f : ℕ → Option ℤ) (places : List ℕ) (lane : Lane) (k : ℕ) → map Some lane ≡ map f places → k < length lane → f (get_or places k 0) ≡ Some (at lane k)
number_there f places lane k is h =
    let long : length lane ≡ length places = sym (length-map lane Some) ∙ ap (λ (l : List (Option ℤ)). length l) is ∙ length-map places f in
    sym (get_or-map f places k 0 None (omega (arith, h, long))) ∙ sym (ap (λ (l : List (Option ℤ)). get_or l k None) is) ∙ get_or-map Some lane k (pos 0) None h

pub numbers_all : (f : ℕ → Option ℤ) (places : List ℕ) (lane : Lane) → length lane ≡ length places → ((k : ℕ) → k < length places → f (get_or places k 0) ≡ Some (at lane k)) → map Some lane ≡ map f places
numbers_all f [] [] long each = refl
numbers_all f [] (n ∷ lane) long each = absurd (omega (arith, long))
numbers_all f (p ∷ places) [] long each = absurd (omega (arith, long))
numbers_all f (p ∷ places) (n ∷ lane) long each =
    ap₂ (λ (x : Option ℤ) (l : List (Option ℤ)). x ∷ l) (sym (each 0 (omega arith))) (numbers_all f places lane (omega (arith, long)) (λ k h. each (suc k) (omega (arith, h))))

pub lane_long : (f : ℕ → Option ℤ) (places : List ℕ) (lane : Lane) → map Some lane ≡ map f places → length lane ≡ length places
lane_long f places lane is = sym (length-map lane Some) ∙ ap (λ (l : List (Option ℤ)). length l) is ∙ length-map places f

-- a lane of one number
pub repeated_lane : (f : ℕ → Option ℤ) (places : List ℕ) (n : ℤ) → ((p : ℕ) → f p ≡ Some n) → map Some (replicate (length places) n) ≡ map f places
repeated_lane f [] n each = refl
repeated_lane f (p ∷ places) n each = ap₂ (λ (x : Option ℤ) (l : List (Option ℤ)). x ∷ l) (sym (each p)) (repeated_lane f places n each)

abbrev pub signed : Bool → ℤ → ℤ
signed minus n = if minus then neg_ℤ n else n

-- ---- sums and products, with one part more

abbrev number_or : Option ℤ → ℤ
number_or None = pos 0
number_or (Some n) = n

pub is_number : (w : Wide) (n : ℤ) → number_in w ≡ Some n → w ≡ wide.Int n
is_number wide.Null n e = absurd (cc)
is_number (wide.Bool b) n e = absurd (cc)
is_number (wide.Int m) n e = ap (λ (o : Option ℤ). wide.Int (number_or o)) e
is_number (wide.Date d) n e = absurd (cc)
is_number (wide.Text t) n e = absurd (cc)

negated_number : (w : Wide) (n : ℤ) → number_in w ≡ Some n → number_in (negated w) ≡ Some (neg_ℤ n)
negated_number w n e = ap (λ (v : Wide). number_in (negated v)) (is_number w n e)

turned_number : (minus : Bool) (w : Wide) (n : ℤ) → number_in w ≡ Some n → number_in (if minus then negated w else w) ≡ Some (signed minus n)
turned_number true w n e = negated_number w n e
turned_number false w n e = e

term_number : (s : Scope) (term : BoundTerm) (n : ℤ) → number_in (value_of s term.part) ≡ Some n → number_in (term_value s term) ≡ Some (signed term.minus n)
term_number s term n is = ap number_in (fold_out-BoundTerm Wide Wide (value_step s) term_step term) ∙ turned_number term.minus (value_of s term.part) n is

pub sum_next : (s : Scope) (terms : List BoundTerm) (k : ℕ) (term : BoundTerm) (x n : ℤ) → k < length terms → term ≡ get_or terms k term → added (map (term_value s) (take k terms)) ≡ Some x → number_in (value_of s term.part) ≡ Some n
    → added (map (term_value s) (take (k + 1) terms)) ≡ Some (x +ℤ signed term.minus n)
sum_next s terms k term x n h is before here =
    let f = term_value s in
    let whole : map number_in (map f (take (k + 1) terms)) ≡ map number_in (map f (take k terms)) ++ number_in (f term) ∷ [] =
    ap (λ (l : List BoundTerm). map number_in (map f l)) (take_more terms k term h ∙ ap (λ (t : BoundTerm). take k terms ++ t ∷ []) (sym is))
    ∙ ap (map number_in) (map-append f (take k terms) (term ∷ [])) ∙ map-append number_in (map f (take k terms)) (f term ∷ []) in
    ap (fold (of_both ◌+ℤ◌) (Some (pos 0))) whole ∙ fold-append (of_both ◌+ℤ◌) (Some (pos 0)) (map number_in (map f (take k terms))) (number_in (f term) ∷ [])
    ∙ ap₂ (of_both ◌+ℤ◌) before (term_number s term n here)

pub product_next : (s : Scope) (parts : List Expr) (k : ℕ) (part : Expr) (x n : ℤ) → k < length parts → part ≡ get_or parts k part → multiplied (map (value_of s) (take k parts)) ≡ Some x → number_in (value_of s part) ≡ Some n
    → multiplied (map (value_of s) (take (k + 1) parts)) ≡ Some (x *ℤ n)
product_next s parts k part x n h is before here =
    let f = value_of s in
    let whole : map number_in (map f (take (k + 1) parts)) ≡ map number_in (map f (take k parts)) ++ number_in (f part) ∷ [] =
    ap (λ (l : List Expr). map number_in (map f l)) (take_more parts k part h ∙ ap (λ (e : Expr). take k parts ++ e ∷ []) (sym is))
    ∙ ap (map number_in) (map-append f (take k parts) (part ∷ [])) ∙ map-append number_in (map f (take k parts)) (f part ∷ []) in
    ap (fold (of_both ◌*ℤ◌) (Some (pos 1))) whole ∙ fold-append (of_both ◌*ℤ◌) (Some (pos 1)) (map number_in (map f (take k parts))) (number_in (f part) ∷ [])
    ∙ ap₂ (of_both ◌*ℤ◌) before here

pub sums_more : (columns : Columns) (places : List ℕ) (terms : List BoundTerm) (k : ℕ) (term : BoundTerm) (old new part : Lane) → k < length terms → term ≡ get_or terms k term
    → map Some old ≡ map (λ i. added (map (term_value (of_row (row_of columns i))) (take k terms))) places → map Some part ≡ map (λ i. number_in (value_of (of_row (row_of columns i)) term.part)) places → length new ≡ length old
    → ((j : ℕ) → j < length old → at new j ≡ at old j +ℤ signed term.minus (at part j)) → map Some new ≡ map (λ i. added (map (term_value (of_row (row_of columns i))) (take (k + 1) terms))) places
sums_more columns places terms k term old new part h is before here long each =
    let f = λ (i : ℕ). added (map (term_value (of_row (row_of columns i))) (take k terms)) in
    let g = λ (i : ℕ). number_in (value_of (of_row (row_of columns i)) term.part) in
    let old_long = lane_long f places old before in
    let part_long = lane_long g places part here in
    numbers_all (λ i. added (map (term_value (of_row (row_of columns i))) (take (k + 1) terms))) places new (long ∙ old_long) (λ j lt.
    let a : j < length old = omega (arith, lt, old_long) in
    let b : j < length part = omega (arith, lt, part_long) in
    sum_next (of_row (row_of columns (get_or places j 0))) terms k term (at old j) (at part j) h is (number_there f places old j before a) (number_there g places part j here b) ∙ ap Some (sym (each j a)))

pub products_more : (columns : Columns) (places : List ℕ) (parts : List Expr) (k : ℕ) (e : Expr) (old new part : Lane) → k < length parts → e ≡ get_or parts k e
    → map Some old ≡ map (λ i. multiplied (map (value_of (of_row (row_of columns i))) (take k parts))) places → map Some part ≡ map (λ i. number_in (value_of (of_row (row_of columns i)) e)) places → length new ≡ length old
    → ((j : ℕ) → j < length old → at new j ≡ at old j *ℤ at part j) → map Some new ≡ map (λ i. multiplied (map (value_of (of_row (row_of columns i))) (take (k + 1) parts))) places
products_more columns places parts k e old new part h is before here long each =
    let f = λ (i : ℕ). multiplied (map (value_of (of_row (row_of columns i))) (take k parts)) in
    let g = λ (i : ℕ). number_in (value_of (of_row (row_of columns i)) e) in
    let old_long = lane_long f places old before in
    let part_long = lane_long g places part here in
    numbers_all (λ i. multiplied (map (value_of (of_row (row_of columns i))) (take (k + 1) parts))) places new (long ∙ old_long) (λ j lt.
    let a : j < length old = omega (arith, lt, old_long) in
    let b : j < length part = omega (arith, lt, part_long) in
    product_next (of_row (row_of columns (get_or places j 0))) parts k e (at old j) (at part j) h is (number_there f places old j before a) (number_there g places part j here b) ∙ ap Some (sym (each j a)))

-- a total over a lane, with one number more
pub lane_more : (columns : Columns) (e : Expr) (places : List ℕ) (lane : Lane) (i : ℕ) (sum more : ℤ) (size greater : ℕ) → map Some lane ≡ map (λ i. number_in (value_of (of_row (row_of columns i)) e)) places → i < length lane → more ≡ sum +ℤ at lane i
    → greater ≡ size + unsigned_abs (at lane i) → IsTotalOf columns e (take i places) sum size → IsTotalOf columns e (take (i + 1) places) more greater
lane_more columns e places lane i sum more size greater is h more_is greater_is before =
    let f = λ (k : ℕ). number_in (value_of (of_row (row_of columns k)) e) in
    let long = lane_long f places lane is in
    total_more columns e places i (at lane i) sum more size greater (omega (arith, h, long))
    (is_number (value_of (of_row (row_of columns (get_or places i 0))) e) (at lane i) (number_there f places lane i is h)) more_is greater_is before

pub lane_done : (columns : Columns) (e : Expr) (places : List ℕ) (lane : Lane) (i : ℕ) (sum : ℤ) (size : ℕ) → map Some lane ≡ map (λ i. number_in (value_of (of_row (row_of columns i)) e)) places → length lane ≤ i → IsTotalOf columns e (take i places) sum size
    → IsTotalOf columns e places sum size
lane_done columns e places lane i sum size is past total =
    let long = lane_long (λ (k : ℕ). number_in (value_of (of_row (row_of columns k)) e)) places lane is in
    total_all columns e places i sum size (omega (arith, past, long)) total
