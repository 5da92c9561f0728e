-- Rows seen at an epoch, from a mark on, cut, and with some of their columns.
use Rattle.std.proofs.Common.{◌≡◌, ℕ, ◌≤◌, ◌<◌, ◌++◌, not, Bool, true, false, cond, List, [], ◌∷◌, map, filter, Option, Some, None, refl, sym, ap, ◌∙◌, arith}
use Rattle.std.specs.Prelude.{nat_le, nat_lt, ◌&&◌}
use Rattle.std.specs.Option.{option_map_or}
use Rattle.std.specs.List.{All}
use Rattle.std.proofs.lemmas.Bool.Decides.{nat_tests}
use Rattle.std.proofs.lemmas.List.{map-append}
use Rattle.std.proofs.lemmas.List.Elements.{filter-append, All-head, All-tail}
use Rattle.common_laws.specs.Bags.{SameBag}
use Rattle.common_laws.proofs.BagLaws.{bag_map, bag_filter}
use Rattle.col_value.specs.declared.value.Value.{Value}
use Rattle.col_value.specs.declared.row.Stamped.{Stamped}
use Rattle.col_value.specs.Order.{projected}
use Rattle.row_history.specs.History.{is_visible, visible, is_retained, retained, cut_delete, cut_row, cut_rows, on_columns}

false_when : (a b : Bool) → (a ≡ true → b ≡ true) → b ≡ false → a ≡ false
false_when false b h is = refl
false_when true b h is = let t : b ≡ true = h refl in cc

-- a narrower test after a wider one
pub filter_twice : {X : Type 0} (p q : X → Bool) → ((x : X) → p x ≡ true → q x ≡ true) → (xs : List X) → filter p (filter q xs) ≡ filter p xs
filter_twice p q h [] = refl
filter_twice {X} p q h (x ∷ xs) = by (q x) refl (filter_twice p q h xs)
  where
    by : (b : Bool) → q x ≡ b → filter p (filter q xs) ≡ filter p xs → filter p (cond b (x ∷ filter q xs) (filter q xs)) ≡ cond (p x) (x ∷ filter p xs) (filter p xs)
    by true is rest = ap (λ (ys : List X). cond (p x) (x ∷ ys) ys) rest
    by false is rest = rest ∙ sym (ap (λ (b : Bool). cond b (x ∷ filter p xs) (filter p xs)) (false_when (p x) (q x) (h x) is))

-- two tests in either order
pub filter_either : {X : Type 0} (p q : X → Bool) (xs : List X) → filter p (filter q xs) ≡ filter q (filter p xs)
filter_either p q [] = refl
filter_either {X} p q (x ∷ xs) = by (p x) (q x) refl refl (filter_either p q xs)
  where
    by : (a b : Bool) → p x ≡ a → q x ≡ b → filter p (filter q xs) ≡ filter q (filter p xs) → filter p (cond b (x ∷ filter q xs) (filter q xs)) ≡ filter q (cond a (x ∷ filter p xs) (filter p xs))
    by true true is_p is_q rest =
        ap (λ (b : Bool). cond b (x ∷ filter p (filter q xs)) (filter p (filter q xs))) is_p ∙ ap (λ (ys : List X). x ∷ ys) rest
        ∙ sym (ap (λ (b : Bool). cond b (x ∷ filter q (filter p xs)) (filter q (filter p xs))) is_q)
    by true false is_p is_q rest = rest ∙ sym (ap (λ (b : Bool). cond b (x ∷ filter q (filter p xs)) (filter q (filter p xs))) is_q)
    by false true is_p is_q rest = ap (λ (b : Bool). cond b (x ∷ filter p (filter q xs)) (filter p (filter q xs))) is_p ∙ rest
    by false false is_p is_q rest = rest

pub filter_same : {X : Type 0} (p q : X → Bool) → ((x : X) → p x ≡ q x) → (xs : List X) → filter p xs ≡ filter q xs
filter_same p q h [] = refl
filter_same {X} p q h (x ∷ xs) =
    ap (λ (b : Bool). cond b (x ∷ filter p xs) (filter p xs)) (h x) ∙ ap (λ (ys : List X). cond (q x) (x ∷ ys) ys) (filter_same p q h xs)

pub filter_mapped : {X Y : Type 0} (p : Y → Bool) (f : X → Y) (xs : List X) → filter p (map f xs) ≡ map f (filter (λ x. p (f x)) xs)
filter_mapped p f [] = refl
filter_mapped {X} {Y} p f (x ∷ xs) = by (p (f x)) (filter_mapped p f xs)
  where
    by : (b : Bool) → filter p (map f xs) ≡ map f (filter (λ (z : X). p (f z)) xs) → cond b (f x ∷ filter p (map f xs)) (filter p (map f xs)) ≡ map f (cond b (x ∷ filter (λ (z : X). p (f z)) xs) (filter (λ (z : X). p (f z)) xs))
    by true rest = ap (λ (ys : List Y). f x ∷ ys) rest
    by false rest = rest

pub map_mapped : {X Y Z : Type 0} (g : Y → Z) (f : X → Y) (xs : List X) → map g (map f xs) ≡ map (λ x. g (f x)) xs
map_mapped g f [] = refl
map_mapped {X} {Y} {Z} g f (x ∷ xs) = ap (λ (zs : List Z). g (f x) ∷ zs) (map_mapped g f xs)

-- what is seen at an epoch from the mark on is retained
visible_kept : (mark epoch ins : ℕ) (del : Option ℕ) → mark ≤ epoch → (nat_le ins epoch && not (option_map_or (λ e. nat_le e epoch) del false)) ≡ true → option_map_or (λ e. nat_lt mark e) del true ≡ true
visible_kept mark epoch ins None le is = refl
visible_kept mark epoch ins (Some d) le is = by (nat_le ins epoch) (nat_le d epoch) refl is
  where
    by : (a b : Bool) → nat_le d epoch ≡ b → (a && not b) ≡ true → nat_lt mark d ≡ true
    by true true later none = absurd (cc)
    by true false later seen = grind (arith, nat_tests)
    by false b later none = absurd (cc)

pub visible_retained : (mark epoch : ℕ) (rows : List Stamped) → mark ≤ epoch → visible epoch (retained mark rows) ≡ visible epoch rows
visible_retained mark epoch rows le = ap (map (λ (s : Stamped). s.row)) (filter_twice (is_visible epoch) (is_retained mark) (λ s. visible_kept mark epoch s.ins s.del le) rows)

-- columns don't matter to epochs
pub visible_columns : (columns : List ℕ) (epoch : ℕ) (rows : List Stamped) → visible epoch (map (on_columns columns) rows) ≡ map (λ row. projected row columns) (visible epoch rows)
visible_columns columns epoch rows =
    ap (map (λ (s : Stamped). s.row)) (filter_mapped (is_visible epoch) (on_columns columns) rows)
    ∙ map_mapped (λ (s : Stamped). s.row) (on_columns columns) (filter (is_visible epoch) rows)
    ∙ sym (map_mapped (λ (row : List Value). projected row columns) (λ (s : Stamped). s.row) (filter (is_visible epoch) rows))

pub retained_columns : (columns : List ℕ) (mark : ℕ) (rows : List Stamped) → retained mark (map (on_columns columns) rows) ≡ map (on_columns columns) (retained mark rows)
retained_columns columns mark rows = filter_mapped (is_retained mark) (on_columns columns) rows

pub cut_columns : (columns : List ℕ) (epoch : ℕ) (rows : List Stamped) → cut_rows epoch (map (on_columns columns) rows) ≡ map (on_columns columns) (cut_rows epoch rows)
cut_columns columns epoch rows =
    ap (map (cut_row epoch)) (filter_mapped (λ s. nat_le s.ins epoch) (on_columns columns) rows)
    ∙ map_mapped (cut_row epoch) (on_columns columns) (filter (λ s. nat_le s.ins epoch) rows)
    ∙ sym (map_mapped (on_columns columns) (cut_row epoch) (filter (λ s. nat_le s.ins epoch) rows))

-- from the mark on, cut at an epoch from the mark on
cut_kept : (mark epoch : ℕ) (del : Option ℕ) → mark ≤ epoch → option_map_or (λ e. nat_lt mark e) (cut_delete epoch del) true ≡ option_map_or (λ e. nat_lt mark e) del true
cut_kept mark epoch None le = refl
cut_kept mark epoch (Some d) le = by (nat_le d epoch) refl
  where
    by : (b : Bool) → nat_le d epoch ≡ b → option_map_or (λ e. nat_lt mark e) (cond b (Some d) None) true ≡ nat_lt mark d
    by true is = refl
    by false is = grind (arith, nat_tests)

pub retained_cut : (mark epoch : ℕ) (rows : List Stamped) → mark ≤ epoch → retained mark (cut_rows epoch rows) ≡ cut_rows epoch (retained mark rows)
retained_cut mark epoch rows le =
    filter_mapped (is_retained mark) (cut_row epoch) (filter (λ s. nat_le s.ins epoch) rows)
    ∙ ap (map (cut_row epoch))
    (filter_same (λ s. is_retained mark (cut_row epoch s)) (is_retained mark) (λ s. cut_kept mark epoch s.del le) (filter (λ s. nat_le s.ins epoch) rows)
    ∙ filter_either (is_retained mark) (λ s. nat_le s.ins epoch) rows)

-- a later mark retains less
later_kept : (mark later : ℕ) (del : Option ℕ) → mark ≤ later → option_map_or (λ e. nat_lt later e) del true ≡ true → option_map_or (λ e. nat_lt mark e) del true ≡ true
later_kept mark later None le is = refl
later_kept mark later (Some d) le is = grind (arith, nat_tests)

pub retained_later : (mark later : ℕ) (rows : List Stamped) → mark ≤ later → retained later (retained mark rows) ≡ retained later rows
retained_later mark later rows le = filter_twice (is_retained later) (is_retained mark) (λ s. later_kept mark later s.del le) rows

pub cut_append : (epoch : ℕ) (xs ys : List Stamped) → cut_rows epoch (xs ++ ys) ≡ cut_rows epoch xs ++ cut_rows epoch ys
cut_append epoch xs ys = ap (map (cut_row epoch)) (filter-append (λ s. nat_le s.ins epoch) xs ys) ∙ map-append (cut_row epoch) (filter (λ s. nat_le s.ins epoch) xs) (filter (λ s. nat_le s.ins epoch) ys)

-- bags
pub bag_visible : (epoch : ℕ) (xs ys : List Stamped) → SameBag xs ys → SameBag (visible epoch xs) (visible epoch ys)
bag_visible epoch xs ys same = bag_map (λ s. s.row) (filter (is_visible epoch) xs) (filter (is_visible epoch) ys) (bag_filter (is_visible epoch) xs ys same)

pub bag_retained : (mark : ℕ) (xs ys : List Stamped) → SameBag xs ys → SameBag (retained mark xs) (retained mark ys)
bag_retained mark xs ys same = bag_filter (is_retained mark) xs ys same

pub bag_cut : (epoch : ℕ) (xs ys : List Stamped) → SameBag xs ys → SameBag (cut_rows epoch xs) (cut_rows epoch ys)
bag_cut epoch xs ys same = bag_map (cut_row epoch) (filter (λ s. nat_le s.ins epoch) xs) (filter (λ s. nat_le s.ins epoch) ys) (bag_filter (λ s. nat_le s.ins epoch) xs ys same)

-- rows after the epoch are cut away
pub cut_none : (epoch : ℕ) (rows : List Stamped) → All (λ s. epoch < s.ins) rows → cut_rows epoch rows ≡ []
cut_none epoch [] later = refl
cut_none epoch (s ∷ rows) later = by (nat_le s.ins epoch) refl (All-head (λ t. epoch < t.ins) s rows later) (cut_none epoch rows (All-tail (λ t. epoch < t.ins) s rows later))
  where
    by : (b : Bool) → nat_le s.ins epoch ≡ b → epoch < s.ins → cut_rows epoch rows ≡ [] → map (cut_row epoch) (cond b (s ∷ filter (λ t. nat_le t.ins epoch) rows) (filter (λ t. nat_le t.ins epoch) rows)) ≡ []
    by true is lt rest = absurd (grind (arith, nat_tests))
    by false is lt rest = rest
