-- The hull of bounds, and where one of some conditions is true.
use Rattle.std.proofs.Common.{◌≡◌, ◌⊎◌, inl, inr, ℕ, ◌+◌, ◌-◌, ◌<◌, ◌++◌, Bool, true, false, List, [], ◌∷◌, length, get_or, map, take, drop, fold, Option, Some, None, refl, sym, ap, ◌∙◌, subst, arith}
use Rattle.std.specs.Prelude.{◌&&◌, ◌||◌}
use Rattle.std.specs.List.{All, list_any, slice_index_or}
use Rattle.std.specs.Option.{option_map_or}
use Rattle.std.specs.Ordering.{is_le, is_lt, is_gt, ordering_reverse}
use Rattle.std.specs.declared.cmp.Ordering.{Ordering}
use Rattle.std.specs.declared.cmp.Ordering.TheVariants.{Less, Equal, Greater}
use Rattle.std.proofs.lemmas.Cmp.{upto}
use Rattle.std.proofs.lemmas.Grind.{get_or_after_one}
use Rattle.std.proofs.lemmas.List.{get_or-take, take_more}
use Rattle.std.proofs.Math.Bool.{or-true}
use Rattle.std.proofs.lemmas.List.Elements.{All-head, All-tail, All-push}
use Rattle.std.proofs.lemmas.List.Folds.{list_all-append, list_any-append}
use Rattle.std.proofs.lemmas.List.Sums.{AllPass-from_list_all}
use Rattle.col_value.specs.Laws.{value_total}
use Rattle.col_value.specs.Order.{value_cmp}
use Rattle.col_value.specs.declared.value.Value.{Value}
use Rattle.col_value.specs.declared.value.Value.TheVariants as value
use Rattle.col_value.specs.declared.wide.Wide.{Wide}
use Rattle.sql_bound.specs.declared.expr.Expr.{Expr}
use Rattle.sql_bound.specs.declared.expr.Expr.TheFolds.{fold-roll-Expr}
use Rattle.sql_bound.specs.declared.expr.Expr.TheOpen.{Expr-F}
use Rattle.sql_bound.specs.declared.expr.Expr.TheVariants as expr
use Rattle.sql_bound.specs.Values.{is_true, of_row, one_holds, some_of, term_step, truth_in, value_of, value_step}
use Rattle.row_bounds.specs.declared.bound.Bound.{Bound}
use Rattle.row_bounds.specs.Bounds.{lies_in, within}
use Rattle.row_bounds.proofs.Parts.{truth_told, told_true}

-- ---- the order of values

not_gt : (o : Ordering) → is_le o ≡ true → is_gt o ≡ false
not_gt Less e = refl
not_gt Equal e = refl
not_gt Greater e = absurd cc

le_of : (o : Ordering) → is_gt o ≡ false → is_le o ≡ true
le_of Less e = refl
le_of Equal e = refl
le_of Greater e = absurd cc

le_of_lt : (o : Ordering) → is_lt o ≡ true → is_le o ≡ true
le_of_lt Less e = refl
le_of_lt Equal e = absurd cc
le_of_lt Greater e = absurd cc

le_turned : (o : Ordering) → is_lt o ≡ false → is_le (ordering_reverse o) ≡ true
le_turned Less e = absurd cc
le_turned Equal e = refl
le_turned Greater e = refl

pub up_to : (a b c : Value) → is_le (value_cmp a b) ≡ true → is_le (value_cmp b c) ≡ true → is_le (value_cmp a c) ≡ true
up_to a b c first second = le_of (value_cmp a c) (upto value_total a b c (not_gt (value_cmp a b) first) (not_gt (value_cmp b c) second))

pub up_to_lesser : (a b v : Value) → is_lt (value_cmp b a) ≡ true → is_le (value_cmp a v) ≡ true → is_le (value_cmp b v) ≡ true
up_to_lesser a b v less up = up_to b a v (le_of_lt (value_cmp b a) less) up

pub up_to_other : (a b v : Value) → is_lt (value_cmp b a) ≡ false → is_le (value_cmp b v) ≡ true → is_le (value_cmp a v) ≡ true
up_to_other a b v not_less up = up_to a b v (ap is_le (value_total.antisymm a b) ∙ le_turned (value_cmp b a) not_less) up

pub from_greater : (a b v : Value) → is_lt (value_cmp a b) ≡ true → is_le (value_cmp v a) ≡ true → is_le (value_cmp v b) ≡ true
from_greater a b v less up = up_to v a b up (le_of_lt (value_cmp a b) less)

pub from_other : (a b v : Value) → is_lt (value_cmp a b) ≡ false → is_le (value_cmp v b) ≡ true → is_le (value_cmp v a) ≡ true
from_other a b v not_less up = up_to v b a up (ap is_le (value_total.antisymm b a) ∙ le_turned (value_cmp a b) not_less)

-- ---- hulls

both_are : (a b : Bool) → (a && b) ≡ true → (a ≡ true) × (b ≡ true)
both_are true true e = (refl, refl)
both_are true false e = absurd cc
both_are false b e = absurd cc

and_of : (a b : Bool) → a ≡ true → b ≡ true → (a && b) ≡ true
and_of true true p q = refl
and_of true false p q = absurd cc
and_of false b p q = absurd cc

abbrev From : Option Value → Value → Bool
From o v = option_map_or (λ least. is_le (value_cmp least v)) o true

abbrev Upto : Option Value → Value → Bool
Upto o v = option_map_or (λ greatest. is_le (value_cmp v greatest)) o true

pub in_hull : (b : Bound) (column : ℕ) (least greatest : Option Value) → ((v : Value) → From b.least v ≡ true → From least v ≡ true) → ((v : Value) → Upto b.greatest v ≡ true → Upto greatest v ≡ true) → (v : Value) → lies_in b v ≡ true
    → lies_in (record { column = column; least = least; greatest = greatest }) v ≡ true
in_hull b column least greatest low high v e =
    let ends = both_are (From b.least v) (Upto b.greatest v) e in
    and_of (From least v) (Upto greatest v) (low v ends.0) (high v ends.1)

-- the hull of a bound among some holds what lies within them all
pub hull_within : (others : List Bound) (i : ℕ) (other hull : Bound) → i < length others → other ≡ get_or others i other → hull.column ≡ other.column → ((v : Value) → lies_in other v ≡ true → lies_in hull v ≡ true)
    → (row : List Value) → within others row ≡ true → lies_in hull (slice_index_or row hull.column value.Null) ≡ true
hull_within others i other hull lt is column wider row all =
    let p = λ (b : Bound). lies_in b (slice_index_or row b.column value.Null) in
    let here : p other ≡ true = ap p is ∙ AllPass-from_list_all p others all i other lt in
    wider (slice_index_or row hull.column value.Null) (ap (λ (n : ℕ). lies_in other (slice_index_or row n value.Null)) column ∙ here)

pub within_both : (bounds more : List Bound) (row : List Value) → within bounds row ≡ true → within more row ≡ true → within (bounds ++ more) row ≡ true
within_both bounds more row first second = list_all-append _ bounds more ∙ and_of (within bounds row) (within more row) first second

-- ---- one bound after the other

abbrev Own : ℕ → List Bound → Type 0
Own n bounds = All (λ b. b.column < n) bounds

pub own_rest : (n : ℕ) (b : Bound) (was rest : List Bound) → was ≡ b ∷ rest → Own n was → Own n rest
own_rest n b was rest is all = All-tail (λ (x : Bound). x.column < n) b rest (subst (Own n) is all)

pub own_more : (n : ℕ) (b hull : Bound) (was rest out next : List Bound) → was ≡ b ∷ rest → next ≡ out ++ hull ∷ [] → hull.column ≡ b.column → Own n was → Own n out → Own n next
own_more n b hull was rest out next is next_is column all before =
    subst (Own n) (sym next_is)
    (All-push (λ (x : Bound). x.column < n) out hull before (subst (λ (k : ℕ). k < n) (sym column) (All-head (λ (x : Bound). x.column < n) b rest (subst (Own n) is all))))

pub rest_within : (b : Bound) (was rest : List Bound) (row : List Value) → was ≡ b ∷ rest → within was row ≡ true → (lies_in b (slice_index_or row b.column value.Null) ≡ true) × (within rest row ≡ true)
rest_within b was rest row is all = both_are (lies_in b (slice_index_or row b.column value.Null)) (within rest row) (sym (ap (λ (bs : List Bound). within bs row) is) ∙ all)

pub within_more : (hull : Bound) (out next : List Bound) (row : List Value) → next ≡ out ++ hull ∷ [] → within out row ≡ true → lies_in hull (slice_index_or row hull.column value.Null) ≡ true → within next row ≡ true
within_more hull out next row is before here =
    ap (λ (bs : List Bound). within bs row) is ∙ within_both out (hull ∷ []) row before (and_of (lies_in hull (slice_index_or row hull.column value.Null)) true here refl)

-- ---- where an OR is true, so is a part of it

one_true : (a b : Option Bool) → one_holds a b ≡ Some true → (a ≡ Some true) ⊎ (b ≡ Some true)
one_true (Some true) b e = inl refl
one_true (Some false) b e = inr e
one_true None None e = absurd cc
one_true None (Some true) e = inr refl
one_true None (Some false) e = absurd cc

some_told : (so_far : Option Bool) (ws : List Wide) → fold one_holds so_far (map truth_in ws) ≡ Some true → (so_far ≡ Some true) ⊎ (list_any is_true ws ≡ true)
some_told so_far [] e = inl e
some_told so_far (w ∷ ws) e = by (some_told (one_holds so_far (truth_in w)) ws e)
  where
    here : (so_far ≡ Some true) ⊎ (truth_in w ≡ Some true) → (so_far ≡ Some true) ⊎ (list_any is_true (w ∷ ws) ≡ true)
    here (inl was) = inl was
    here (inr now) = inr (ap (λ (b : Bool). b || list_any is_true ws) (told_true w now))

    by : (one_holds so_far (truth_in w) ≡ Some true) ⊎ (list_any is_true ws ≡ true) → (so_far ≡ Some true) ⊎ (list_any is_true (w ∷ ws) ≡ true)
    by (inl first) = here (one_true so_far (truth_in w) first)
    by (inr more) = inr (ap (λ (b : Bool). is_true w || b) more ∙ or-true (is_true w))

any_mapped : (f : Expr → Wide) (parts : List Expr) → list_any is_true (map f parts) ≡ list_any (λ e. is_true (f e)) parts
any_mapped f [] = refl
any_mapped f (x ∷ parts) = ap (λ (b : Bool). is_true (f x) || b) (any_mapped f parts)

some_part : (row : List Value) (parts : List Expr) → is_true (some_of (map (value_of (of_row row)) parts)) ≡ true → list_any (λ e. is_true (value_of (of_row row) e)) parts ≡ true
some_part row parts e = sym (any_mapped (value_of (of_row row)) parts) ∙ by (some_told (Some false) (map (value_of (of_row row)) parts) (truth_told _ e))
  where
    by : (Some false ≡ Some true) ⊎ (list_any is_true (map (value_of (of_row row)) parts) ≡ true) → list_any is_true (map (value_of (of_row row)) parts) ≡ true
    by (inl none) = absurd cc
    by (inr some) = some

or_value : (row : List Value) (parts : List Expr) → value_of (of_row row) (expr.Or parts) ≡ some_of (map (value_of (of_row row)) parts)
or_value row parts = ap (value_of (of_row row)) (sym (expr.rolls-Or parts)) ∙ fold-roll-Expr Wide Wide (value_step (of_row row)) term_step (Expr-F.Or parts)

pub or_holds : (row : List Value) (e : Expr) (parts : List Expr) → e ≡ expr.Or parts → is_true (value_of (of_row row) e) ≡ true → list_any (λ e. is_true (value_of (of_row row) e)) parts ≡ true
or_holds row e parts is told = some_part row parts (ap is_true (sym (or_value row parts)) ∙ ap (λ (x : Expr). is_true (value_of (of_row row) x)) (sym is) ∙ told)

-- ---- one part after the other

-- a row on which one of some parts is true lies within the bounds
abbrev pub Shares : List Expr → List Bound → Type 0
Shares parts bounds = (row : List Value) → list_any (λ e. is_true (value_of (of_row row) e)) parts ≡ true → within bounds row ≡ true

or_cases : (a b : Bool) → (a || (b || false)) ≡ true → (a ≡ true) ⊎ (b ≡ true)
or_cases true b e = inl refl
or_cases false true e = inr refl
or_cases false false e = absurd cc

pub shares_more : (parts : List Expr) (i : ℕ) (part : Expr) (bounds others next : List Bound) → i < length parts → part ≡ get_or parts i part → Shares (take i parts) bounds
    → ((row : List Value) → is_true (value_of (of_row row) part) ≡ true → within others row ≡ true)
    → ((row : List Value) → within bounds row ≡ true → within next row ≡ true) → ((row : List Value) → within others row ≡ true → within next row ≡ true) → Shares (take (i + 1) parts) next
shares_more parts i part bounds others next lt is was here first second row e = by (or_cases (list_any p (take i parts)) (p part) (sym split ∙ e))
  where
    p : Expr → Bool
    p x = is_true (value_of (of_row row) x)

    split : list_any p (take (i + 1) parts) ≡ (list_any p (take i parts) || (p part || false))
    split = ap (list_any p) (take_more parts i part lt ∙ ap (λ (x : Expr). take i parts ++ x ∷ []) (sym is)) ∙ list_any-append p (take i parts) (part ∷ [])

    by : (list_any p (take i parts) ≡ true) ⊎ (p part ≡ true) → within next row ≡ true
    by (inl earlier) = first row (was row earlier)
    by (inr now) = second row (here row now)

-- a part behind the first one
pub later_at : (parts : List Expr) (i : ℕ) (part : Expr) → i + 1 < length parts → part ≡ get_or (take (length parts - 1) (drop 1 parts)) i part → part ≡ get_or parts (i + 1) part
later_at parts i part lt is =
    let up : 1 + i ≡ i + 1 = omega arith in
    is ∙ get_or-take (length parts - 1) (drop 1 parts) i part (omega (arith, lt)) ∙ get_or_after_one parts i part ∙ ap (λ (n : ℕ). get_or parts n part) up
