-- Rows without those that are deleted.
use Rattle.std.proofs.Common.{◌≡◌, ℕ, zero, suc, ◌+◌, ◌-◌, ◌≤◌, ◌++◌, Bool, true, false, not, cond, List, [], ◌∷◌, map, refl, sym, ap, ◌∙◌, arith, subst}
use Rattle.std.specs.Prelude.{count_by}
use Rattle.std.specs.List.{All}
use Rattle.std.specs.Ordering.{is_eq}
use Rattle.std.proofs.lemmas.List.{map-append}
use Rattle.std.proofs.lemmas.List.Elements.{All-cons, All-head, All-nil, All-push, All-tail, All-weaker}
use Rattle.common_laws.specs.Bags.{SameBag}
use Rattle.common_laws.proofs.BagLaws.{bag_cancel, bag_map, bag_refl, bag_sym, bag_trans, count_append, count_cons}
use Rattle.col_value.specs.declared.row.Asked.{Asked}
use Rattle.col_value.specs.declared.value.Value.{Value}
use Rattle.col_value.specs.Order.{row_cmp}
use Rattle.db_model.specs.State.{without, without_one}
use Rattle.wanted_rows.specs.Wanted.{is_same, one_of, tally, Tries}
use Rattle.wanted_rows.proofs.Counting.{same_exact, same_itself}
use Rattle.wanted_rows.proofs.Whole.{bag_of_tally}
use Rattle.store_query.specs.Lessening.{asked, times, AreGone, IsLess, Keeps}

abbrev Rows : Type 0
Rows = List (List Value)

abbrev one_if : Bool → ℕ
one_if b = cond b 1 0

row_of_asked : (xs : Rows) → map (λ (a : Asked). a.row) (map asked xs) ≡ xs
row_of_asked [] = refl
row_of_asked (x ∷ xs) = ap (λ (ys : Rows). x ∷ ys) (row_of_asked xs)

pub tally_push : (q : Asked) (xs : Rows) (x : List Value) → tally q (map asked (xs ++ x ∷ [])) ≡ tally q (map asked xs) + one_of (asked x) q
tally_push q xs x =
    let join : map asked (xs ++ x ∷ []) ≡ map asked xs ++ asked x ∷ [] = map-append asked xs (x ∷ []) in
    let none : tally q [] ≡ 0 = refl in
    ap (λ (ys : List Asked). tally q ys) join ∙ omega (arith, count_append (λ (a : Asked). is_same a q) (map asked xs) (asked x ∷ []), count_cons (λ (a : Asked). is_same a q) (asked x) [], none)

pub all_front : {X : Type 0} (P : X → Type 0) (xs : List X) (x : X) → All P (xs ++ x ∷ []) → All P xs
all_front P [] x all = All-nil P
all_front P (y ∷ ys) x all = All-cons P y ys (All-head P y (ys ++ x ∷ []) all) (all_front P ys x (All-tail P y (ys ++ x ∷ []) all))

-- ---- rows that are taken, one after the other

-- What is left and what was kept are the rows without those that aren't wanted any more, of so many at first; and nothing that was kept is
-- wanted still.
pub record Lessens (first : Asked → ℕ) (rows : Rows) (need : Asked → ℕ) (left out : Rows) : Type 0 where
  pub counts : (q : Asked) → tally q (map asked rows) + need q ≡ tally q (map asked left) + (tally q (map asked out) + first q)
  pub none : All (λ r. need (asked r) ≡ 0) out

pub lessens_none : (rows left out : Rows) (need : Asked → ℕ) → left ≡ rows → out ≡ [] → Lessens need rows need left out
lessens_none rows left out need whole is =
    let empty : (q : Asked) → tally q (map asked out) ≡ 0 = λ q. ap (λ (xs : Rows). tally q (map asked xs)) is in
    let same : (q : Asked) → tally q (map asked left) ≡ tally q (map asked rows) = λ q. ap (λ (xs : Rows). tally q (map asked xs)) whole in
    record {
      counts = λ q. omega (arith, empty q, same q);
      none = subst (λ (xs : Rows). All (λ r. need (asked r) ≡ 0) xs) (sym is) (All-nil (λ r. need (asked r) ≡ 0));
    }

pub lessens_next : (first : Asked → ℕ) (rows left rest out next : Rows) (row : List Value) (need less : Asked → ℕ) → left ≡ rest ++ row ∷ [] → Keeps row out next need less → Lessens first rows need left out → Lessens first rows less rest next
lessens_next first rows left rest out next row need less is (taken, tries, made) was = by taken tries made
  where
    counted : (q : Asked) → tally q (map asked left) ≡ tally q (map asked rest) + one_of (asked row) q
    counted q = ap (λ (xs : Rows). tally q (map asked xs)) is ∙ tally_push q rest row

    by : (b : Bool) → Tries b (asked row) need less → next ≡ cond b out (out ++ row ∷ []) → Lessens first rows less rest next
    by true step kept =
        let fewer : (q : Asked) → need q ≡ one_of (asked row) q + less q = step.took in
        record {
          counts = λ q. omega (arith, was.counts q, counted q, fewer q, ap (λ (xs : Rows). tally q (map asked xs)) kept);
          none = subst (λ (xs : Rows). All (λ r. less (asked r) ≡ 0) xs) (sym kept)
              (All-weaker (λ r. need (asked r) ≡ 0) (λ r. less (asked r) ≡ 0) (λ r zero. omega (arith, fewer (asked r), zero)) out was.none);
        }
    by false step kept =
        let same : (q : Asked) → less q ≡ need q = step.same in
        let here : need (asked row) ≡ 0 = step.none in
        record {
          counts = λ q. omega (arith, was.counts q, counted q, same q, ap (λ (xs : Rows). tally q (map asked xs)) kept, tally_push q out row);
          none = subst (λ (xs : Rows). All (λ r. less (asked r) ≡ 0) xs) (sym kept)
              (All-push (λ r. less (asked r) ≡ 0) out row (All-weaker (λ r. need (asked r) ≡ 0) (λ r. less (asked r) ≡ 0) (λ r zero. same (asked r) ∙ zero) out was.none) (same (asked row) ∙ here));
        }

-- what stands among rows of which none is wanted isn't wanted
none_needed : (need : Asked → ℕ) (q : Asked) (out : Rows) → All (λ r. need (asked r) ≡ 0) out → 1 ≤ tally q (map asked out) → need q ≡ 0
none_needed need q [] none some = absurd (omega (arith, some))
none_needed need q (r ∷ out) none some =
    by (is_same (asked r) q) refl (none_needed need q out (All-tail (λ x. need (asked x) ≡ 0) r out none)) (count_cons (λ (a : Asked). is_same a q) (asked r) (map asked out))
  where
    by : (b : Bool) → is_same (asked r) q ≡ b → (1 ≤ tally q (map asked out) → need q ≡ 0) → tally q (map asked (r ∷ out)) ≡ cond b 1 0 + tally q (map asked out) → need q ≡ 0
    by true is more at = ap need (sym (same_exact (asked r) q is)) ∙ All-head (λ x. need (asked x) ≡ 0) r out none
    by false is more at = more (omega (arith, some, at))

pub lessens_all : (rows left out : Rows) (first need : Asked → ℕ) → left ≡ [] → Lessens first rows need left out → AreGone first rows out
lessens_all rows left out first need is was = λ q. by q (need q) refl
  where
    empty : (q : Asked) → tally q (map asked left) ≡ 0
    empty q = ap (λ (xs : Rows). tally q (map asked xs)) is

    by : (q : Asked) (n : ℕ) → need q ≡ n → times q out ≡ times q rows - first q
    by q zero none = omega (arith, was.counts q, empty q, none)
    by q (suc n) some = absent (times q out) refl
      where
        absent : (k : ℕ) → times q out ≡ k → times q out ≡ times q rows - first q
        absent zero out_is = omega (arith, was.counts q, empty q, out_is)
        absent (suc k) out_is = let none : need q ≡ 0 = none_needed need q out was.none (omega (arith, out_is)) in absurd (omega (arith, some, none))

-- ---- rows by how often they stand somewhere

pub bag_of_times : (xs ys : Rows) → ((q : Asked) → times q xs ≡ times q ys) → SameBag xs ys
bag_of_times xs ys same =
    let bags : SameBag (map asked xs) (map asked ys) = bag_of_tally (map asked xs) (map asked ys) same in
    subst (λ (rows : Rows). SameBag rows ys) (row_of_asked xs) (subst (SameBag (map (λ (a : Asked). a.row) (map asked xs))) (row_of_asked ys) (bag_map (λ (a : Asked). a.row) (map asked xs) (map asked ys) bags))

pub times_of_bag : (q : Asked) (xs ys : Rows) → SameBag xs ys → times q xs ≡ times q ys
times_of_bag q xs ys bag = (bag_map asked xs ys bag).counts (λ (a : Asked). is_same a q)

pub times_both : (q : Asked) (xs ys : Rows) → times q (xs ++ ys) ≡ times q xs + times q ys
times_both q xs ys = ap (λ (found : List Asked). tally q found) (map-append asked xs ys) ∙ count_append (λ (a : Asked). is_same a q) (map asked xs) (map asked ys)

times_cons : (q : Asked) (x : List Value) (xs : Rows) → times q (x ∷ xs) ≡ one_of (asked x) q + times q xs
times_cons q x xs = count_cons (λ (a : Asked). is_same a q) (asked x) (map asked xs)

-- where rows are the gone ones and some others, these are left
pub less_rest : (gone rows less rest : Rows) → IsLess gone rows less → SameBag rows (gone ++ rest) → SameBag less rest
less_rest gone rows less rest is bag = bag_of_times less rest (λ q. omega (arith, is q, times_of_bag q rows (gone ++ rest) bag, times_both q gone rest))

-- what all of some rows are, each is that stands among them
of_all : (P : List Value → Type 0) (ys : Rows) (x : List Value) → All P ys → 1 ≤ times (asked x) ys → P x
of_all P [] x all some = absurd (omega (arith, some))
of_all P (y ∷ ys) x all some = by (is_same (asked y) (asked x)) refl (of_all P ys x (All-tail P y ys all)) (times_cons (asked x) y ys)
  where
    by : (b : Bool) → is_same (asked y) (asked x) ≡ b → (1 ≤ times (asked x) ys → P x) → times (asked x) (y ∷ ys) ≡ cond (is_same (asked y) (asked x)) 1 0 + times (asked x) ys → P x
    by true is more at = subst P (ap (λ (a : Asked). a.row) (same_exact (asked y) (asked x) is)) (All-head P y ys all)
    by false is more at =
        let none : one_if (is_same (asked y) (asked x)) ≡ 0 = ap one_if is in
        more (omega (arith, some, at, none))

pub all_by_times : (P : List Value → Type 0) (xs ys : Rows) → ((q : Asked) → times q xs ≤ times q ys) → All P ys → All P xs
all_by_times P [] ys fewer all = All-nil P
all_by_times P (x ∷ xs) ys fewer all =
    let itself : one_if (is_same (asked x) (asked x)) ≡ 1 = ap one_if (same_itself (asked x)) in
    All-cons P x xs (of_all P ys x all (omega (arith, fewer (asked x), times_cons (asked x) x xs, itself)))
    (all_by_times P xs ys (λ q. omega (arith, fewer q, times_cons q x xs)) all)

-- ---- the same in the words of a database

row_itself : (row : List Value) → is_eq (row_cmp row row) ≡ true
row_itself row = same_itself (asked row)

row_same : (a b : List Value) → is_eq (row_cmp a b) ≡ true → a ≡ b
row_same a b is = ap (λ (x : Asked). x.row) (same_exact (asked a) (asked b) is)

abbrev like : List Value → List Value → Bool
like g row = is_eq (row_cmp row g)

one_out : (g : List Value) (rows : Rows) → 1 ≤ count_by (like g) rows → SameBag rows (g ∷ without_one g rows)
one_out g [] some = absurd (omega (arith, some))
one_out g (row ∷ rows) some = by (like g row) refl (one_out g rows) (count_cons (like g) row rows)
  where
    by : (b : Bool) → like g row ≡ b → (1 ≤ count_by (like g) rows → SameBag rows (g ∷ without_one g rows)) → count_by (like g) (row ∷ rows) ≡ cond b 1 0 + count_by (like g) rows
        → SameBag (row ∷ rows) (g ∷ cond b rows (row ∷ without_one g rows))
    by true is more at = subst (λ (x : List Value). SameBag (row ∷ rows) (x ∷ rows)) (row_same row g is) (bag_refl (row ∷ rows))
    by false is more at =
        let bag = more (omega (arith, some, at)) in
        record {
          counts = λ p.
              omega (arith, count_cons p row rows, count_cons p g (row ∷ without_one g rows), count_cons p row (without_one g rows), count_cons p g (without_one g rows), bag.counts p);
        }

-- where rows are the gone ones and some others, in whatever order, these are the others
abbrev pub IsRest : Rows → Rows → Rows → Type 0
IsRest gone rows less = (rest : Rows) → SameBag rows (gone ++ rest) → SameBag less rest

pub without_less : (gone rows : Rows) → IsRest gone rows (without gone rows)
without_less [] rows = λ rest bag. bag
without_less (g ∷ gone) rows = λ rest bag.
    let own : like g g ≡ true = row_itself g in
    let here : one_if (like g g) ≡ one_if true = ap one_if own in
    let some : 1 ≤ count_by (like g) rows = omega (arith, bag.counts (like g), count_cons (like g) g (gone ++ rest), here) in
    let out = one_out g rows some in
    let behind : SameBag (without_one g rows) (gone ++ rest) = bag_cancel (g ∷ []) (without_one g rows) (gone ++ rest) (bag_trans (g ∷ without_one g rows) rows (g ∷ (gone ++ rest)) (bag_sym rows (g ∷ without_one g rows) out) bag) in
    without_less gone (without_one g rows) rest behind

-- how often a row is left
times_less_one : (q : Asked) (g : List Value) (rows : Rows) → times q (without_one g rows) ≡ times q rows - one_of (asked g) q
times_less_one q g [] = omega arith
times_less_one q g (row ∷ rows) = by (like g row) refl (times_less_one q g rows)
  where
    by : (b : Bool) → like g row ≡ b → times q (without_one g rows) ≡ times q rows - one_of (asked g) q → times q (cond b rows (row ∷ without_one g rows)) ≡ times q (row ∷ rows) - one_of (asked g) q
    by true is more =
        let same : one_of (asked row) q ≡ one_of (asked g) q = ap (λ (x : List Value). one_of (asked x) q) (row_same row g is) in
        omega (arith, times_cons q row rows, same)
    by false is more = ends (is_same (asked g) q) refl
      where
        ends : (b : Bool) → is_same (asked g) q ≡ b → times q (row ∷ without_one g rows) ≡ times q (row ∷ rows) - one_of (asked g) q
        ends false other =
            let none : one_of (asked g) q ≡ 0 = ap one_if other in
            omega (arith, more, none, times_cons q row rows, times_cons q row (without_one g rows))
        ends true same = apart (is_same (asked row) q) refl
          where
            apart : (b : Bool) → is_same (asked row) q ≡ b → times q (row ∷ without_one g rows) ≡ times q (row ∷ rows) - one_of (asked g) q
            apart false other =
                let none : one_of (asked row) q ≡ 0 = ap one_if other in
                omega (arith, more, none, times_cons q row rows, times_cons q row (without_one g rows))
            apart true too =
                let equal : row ≡ g = ap (λ (a : Asked). a.row) (same_exact (asked row) q too ∙ sym (same_exact (asked g) q same)) in
                let yes : like g row ≡ true = ap (λ (x : List Value). like g x) equal ∙ row_itself g in
                absurd cc

pub times_without : (gone rows : Rows) → IsLess gone rows (without gone rows)
times_without [] rows = λ q. omega arith
times_without (g ∷ gone) rows = λ q. omega (arith, times_without gone (without_one g rows) q, times_less_one q g rows, times_cons q g gone)

-- ---- all of a bag

passes_none : {X : Type 0} (p : X → Bool) (xs : List X) → All (λ x. p x ≡ true) xs → count_by (λ x. not (p x)) xs ≡ 0
passes_none p [] all = refl
passes_none p (x ∷ xs) all =
    let here : one_if (not (p x)) ≡ one_if false = ap (λ (b : Bool). one_if (not b)) (All-head (λ y. p y ≡ true) x xs all) in
    omega (arith, count_cons (λ y. not (p y)) x xs, here, passes_none p xs (All-tail (λ y. p y ≡ true) x xs all))

none_passes : {X : Type 0} (p : X → Bool) (xs : List X) → count_by (λ x. not (p x)) xs ≡ 0 → All (λ x. p x ≡ true) xs
none_passes p [] none = All-nil (λ x. p x ≡ true)
none_passes p (x ∷ xs) none =
    let at = count_cons (λ y. not (p y)) x xs in
    All-cons (λ y. p y ≡ true) x xs (by (p x) refl at) (none_passes p xs (omega (arith, at, none)))
  where
    by : (b : Bool) → p x ≡ b → count_by (λ y. not (p y)) (x ∷ xs) ≡ cond (not (p x)) 1 0 + count_by (λ y. not (p y)) xs → p x ≡ true
    by true is at = is
    by false is at =
        let one : one_if (not (p x)) ≡ one_if true = ap (λ (k : Bool). one_if (not k)) is in
        absurd (omega (arith, at, one, none))

-- what all of a bag pass, all pass of the same bag
pub all_of_bag : {X : Type 0} (p : X → Bool) (xs ys : List X) → SameBag xs ys → All (λ x. p x ≡ true) xs → All (λ x. p x ≡ true) ys
all_of_bag p xs ys bag all = none_passes p ys (sym (bag.counts (λ x. not (p x))) ∙ passes_none p xs all)
