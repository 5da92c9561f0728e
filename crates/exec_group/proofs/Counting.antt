-- Counts of rows, group by group.
use Rattle.std.proofs.Common.{◌≡◌, ℕ, zero, suc, ◌+◌, ◌<◌, ◌++◌, Bool, if◌then◌else◌, List, [], ◌∷◌, length, get_or, map, set, fold, take, drop, refl, sym, ap, ◌∙◌, arith}
use Rattle.std.specs.List.{All}
use Rattle.std.proofs.Math.Seq.{take-add}
use Rattle.std.proofs.lemmas.List.{length-map, map-append}
use Rattle.std.proofs.lemmas.List.Elements.{All-head, All-tail}
use Rattle.std.proofs.lemmas.List.Sums.{fold-append}
use Rattle.col_value.specs.declared.wide.Wide.{Wide}
use Rattle.sql_bound.specs.Values.{is_null}
use Rattle.exec_group.specs.Columns.{padded, put_at, put_each}
use Rattle.exec_group.specs.Counted.{counted_at, counted_each, counts_as}
use Rattle.exec_group.specs.Groups.{kept_at}
use Rattle.exec_group.specs.declared.accumulator.Accumulator.{Accumulator}
use Rattle.exec_group.specs.declared.accumulator.Accumulator.TheVariants as accumulator
use Rattle.exec_group.proofs.Together.{all_from, pad_more, places_from}

raised : (b : Bool) (n : ℕ) → (if b then accumulator.Rows (n + 1) else accumulator.Rows (n + 1)) ≡ accumulator.Rows (n + 1)
raised b n = elim b as (λ x. (if x then accumulator.Rows (n + 1) else accumulator.Rows (n + 1)) ≡ accumulator.Rows (n + 1)) [
  | Bool.true ↦ refl
  | Bool.false ↦ refl
]

-- a row more in a group, whatever it is worth
pub one_counted : (counts : List ℕ) (g : ℕ) (w : Wide) → counts_as (counted_at counts g) ≡ put_at (counts_as counts) g w
one_counted [] g w = refl
one_counted (n ∷ counts) zero w = ap (λ (x : Accumulator). x ∷ counts_as counts) (sym (raised (is_null w) n))
one_counted (n ∷ counts) (suc g) w = ap (λ (xs : List Accumulator). accumulator.Rows n ∷ xs) (one_counted counts g w)

pub each_counted : {X : Type 0} (f : X → Wide) (groups : List ℕ) (xs : List X) (counts : List ℕ) → length groups ≡ length xs → counts_as (counted_each groups counts) ≡ put_each f groups xs (counts_as counts)
each_counted f [] xs counts long = refl
each_counted f (g ∷ groups) [] counts long = absurd (omega (arith, long))
each_counted f (g ∷ groups) (x ∷ xs) counts long = each_counted f groups xs (counted_at counts g) (omega (arith, long)) ∙ ap (put_each f groups xs) (one_counted counts g (f x))

pub pad_more_counts : (count : ℕ) (counts more : List ℕ) → more ≡ counts ++ 0 ∷ [] → length counts < count → padded count (accumulator.Rows 0) (counts_as more) ≡ padded count (accumulator.Rows 0) (counts_as counts)
pad_more_counts count counts more is left =
    ap (λ (ns : List ℕ). padded count (accumulator.Rows 0) (counts_as ns)) is
    ∙ ap (padded count (accumulator.Rows 0)) (map-append accumulator.Rows counts (0 ∷ []))
    ∙ pad_more count (accumulator.Rows 0) (counts_as counts) (omega (arith, left, length-map counts accumulator.Rows))

-- ---- many rows of one group

none_at : (counts : List ℕ) (g : ℕ) → counts ≡ set counts g (get_or counts g 0 + 0)
none_at [] g = refl
none_at (n ∷ counts) zero = let same : n ≡ n + 0 = omega arith in ap (λ (m : ℕ). m ∷ counts) same
none_at (n ∷ counts) (suc g) = ap (λ (ns : List ℕ). n ∷ ns) (none_at counts g)

more_at : (counts : List ℕ) (g many : ℕ) → set (counted_at counts g) g (get_or (counted_at counts g) g 0 + many) ≡ set counts g (get_or counts g 0 + suc many)
more_at [] g many = refl
more_at (n ∷ counts) zero many = let same : (n + 1) + many ≡ n + suc many = omega arith in ap (λ (m : ℕ). m ∷ counts) same
more_at (n ∷ counts) (suc g) many = ap (λ (ns : List ℕ). n ∷ ns) (more_at counts g many)

pub many_counted : (g : ℕ) (groups counts : List ℕ) → All (λ h. h ≡ g) groups → set counts g (get_or counts g 0 + length groups) ≡ counted_each groups counts
many_counted g [] counts same = sym (none_at counts g)
many_counted g (h ∷ groups) counts same =
    let here : h ≡ g = All-head (λ k. k ≡ g) h groups same in
    sym (more_at counts g (length groups)) ∙ many_counted g groups (counted_at counts g) (All-tail (λ k. k ≡ g) h groups same) ∙ sym (ap (λ (k : ℕ). counted_each groups (counted_at counts k)) here)

-- more rows of those that stand from a place on
pub counted_further : (groups : List ℕ) (at n : ℕ) (first now next : List ℕ) → now ≡ counted_each (take at groups) first → next ≡ counted_each (take n (places_from groups at)) now → next ≡ counted_each (take (at + n) groups) first
counted_further groups at n first now next was is =
    is ∙ ap (λ (gs : List ℕ). counted_each (take n gs) now) (all_from groups at) ∙ ap (counted_each (take n (drop at groups))) was
    ∙ sym (fold-append counted_at first (take at groups) (take n (drop at groups))) ∙ sym (ap (λ (gs : List ℕ). counted_each gs first) (take-add at n groups))

pub no_count_is_great : (counts : List ℕ) (g : ℕ) → kept_at (counts_as counts) g ≡ accumulator.TooGreat → ⊥
no_count_is_great [] g e = cc
no_count_is_great (n ∷ counts) zero e = cc
no_count_is_great (n ∷ counts) (suc g) e = no_count_is_great counts g e
