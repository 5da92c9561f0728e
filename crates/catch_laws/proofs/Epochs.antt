-- What one more epoch makes of a table's history.
use Rattle.std.proofs.Common.{◌≡◌, ◌+◌, ◌≤◌, ◌<◌, ◌++◌, not, ℕ, Bool, true, false, cond, List, [], ◌∷◌, map, filter, Option, Some, None, refl, sym, ap, ◌∙◌, arith, subst}
use Rattle.std.specs.Prelude.{nat_le, nat_lt, count_by, ◌==◌}
use Rattle.std.specs.List.{All}
use Rattle.std.specs.Option.{option_map_or, IfSome}
use Rattle.std.proofs.lemmas.Bool.Decides.{nat_tests}
use Rattle.std.proofs.lemmas.List.Elements.{filter-append, All-head, All-tail}
use Rattle.common_laws.specs.Bags.{SameBag}
use Rattle.common_laws.proofs.BagLaws.{bag_filter, bag_map, count_append, count_cons}
use Rattle.col_value.specs.declared.value.Value.{Value}
use Rattle.col_value.specs.declared.row.Asked.{Asked}
use Rattle.col_value.specs.declared.row.Stamped.{Stamped}
use Rattle.row_history.specs.History.{cut_delete, cut_row, cut_rows, inserted_at, is_retained, mark_all, retained, stamped, Within}
use Rattle.row_history.proofs.Taking.{mark_takes, takes_retained}
use Rattle.catch_model.specs.Added.{asked_of, deleted_in, inserted_in, is_deleted_in, is_inserted_in}

-- a row is deleted later than it was inserted
abbrev pub IsLater : Stamped → Type 0
IsLater s = IfSome s.del (λ d. s.ins < d)

abbrev make : List Value → ℕ → Option ℕ → Stamped
make row ins del = record { row = row; ins = ins; del = del }

-- how often a test holds of a row that is there or isn't
abbrev weight : (Stamped → Bool) → Bool → Stamped → ℕ
weight p there s = cond there (cond (p s) 1 0) 0

count_if : (p : Stamped → Bool) (there : Bool) (s : Stamped) (ss : List Stamped) → count_by p (cond there (s ∷ ss) ss) ≡ weight p there s + count_by p ss
count_if p true s ss = count_cons p s ss
count_if p false s ss = omega arith

-- ---- a row by itself

abbrev gone : ℕ → Stamped → Stamped
gone k s = stamped (Some k) (asked_of s)

abbrev was : Stamped → Stamped
was s = stamped None (asked_of s)

row_balanced : (p : Stamped → Bool) (n : ℕ) (row : List Value) (ins : ℕ) (del : Option ℕ) → IfSome del (λ d. ins < d)
    → weight p (option_map_or (λ e. e == (n + 1)) del false) (make row ins (Some (n + 1))) + weight p (nat_le ins n) (make row ins (cut_delete n del)) + weight p (ins == (n + 1)) (make row (n + 1) None)
    ≡ weight p (option_map_or (λ e. e == (n + 1)) del false) (make row ins None) + weight p (nat_le ins (n + 1)) (make row ins (cut_delete (n + 1) del))
row_balanced p n row ins None later = by (nat_le ins n) (ins == (n + 1)) (nat_le ins (n + 1)) refl refl refl
  where
    by : (b c d : Bool) → nat_le ins n ≡ b → (ins == (n + 1)) ≡ c → nat_le ins (n + 1) ≡ d
        → 0 + weight p b (make row ins None) + weight p c (make row (n + 1) None) ≡ 0 + weight p d (make row ins None)
    by true false true one two three = omega arith
    by false true true one two three = let same : ins ≡ n + 1 = grind (arith, nat_tests) in subst (λ (i : ℕ). 0 + 0 + cond (p (make row i None)) 1 0 ≡ 0 + cond (p (make row ins None)) 1 0) same (omega arith)
    by false false false one two three = refl
    by true true d one two three = absurd (grind (arith, nat_tests))
    by true false false one two three = absurd (grind (arith, nat_tests))
    by false true false one two three = absurd (grind (arith, nat_tests))
    by false false true one two three = absurd (grind (arith, nat_tests))
row_balanced p n row ins (Some del) later = by (nat_le ins n) (ins == (n + 1)) (nat_le ins (n + 1)) (del == (n + 1)) (nat_le del n) (nat_le del (n + 1)) refl refl refl refl refl refl
  where
    by : (b c d x y z : Bool) → nat_le ins n ≡ b → (ins == (n + 1)) ≡ c → nat_le ins (n + 1) ≡ d → (del == (n + 1)) ≡ x → nat_le del n ≡ y → nat_le del (n + 1) ≡ z
        → weight p x (make row ins (Some (n + 1))) + weight p b (make row ins (cond y (Some del) None)) + weight p c (make row (n + 1) None)
        ≡ weight p x (make row ins None) + weight p d (make row ins (cond z (Some del) None))
    by true false true false true true e1 e2 e3 e4 e5 e6 = omega arith
    by true false true true false true e1 e2 e3 e4 e5 e6 =
        let same : del ≡ n + 1 = grind (arith, nat_tests) in
        subst (λ (i : ℕ). cond (p (make row ins (Some i))) 1 0 + cond (p (make row ins None)) 1 0 + 0 ≡ cond (p (make row ins None)) 1 0 + cond (p (make row ins (Some del))) 1 0) same (omega arith)
    by true false true false false false e1 e2 e3 e4 e5 e6 = omega arith
    by false true true false false false e1 e2 e3 e4 e5 e6 =
        let same : ins ≡ n + 1 = grind (arith, nat_tests) in
        subst (λ (i : ℕ). 0 + 0 + cond (p (make row i None)) 1 0 ≡ 0 + cond (p (make row ins None)) 1 0) same (omega arith)
    by false false false false y z e1 e2 e3 e4 e5 e6 = refl
    by true true d x y z e1 e2 e3 e4 e5 e6 = absurd (grind (arith, nat_tests))
    by true false false x y z e1 e2 e3 e4 e5 e6 = absurd (grind (arith, nat_tests))
    by true false true true true z e1 e2 e3 e4 e5 e6 = absurd (grind (arith, nat_tests))
    by true false true true false false e1 e2 e3 e4 e5 e6 = absurd (grind (arith, nat_tests))
    by true false true false true false e1 e2 e3 e4 e5 e6 = absurd (grind (arith, nat_tests))
    by true false true false false true e1 e2 e3 e4 e5 e6 = absurd (grind (arith, nat_tests))
    by false true false x y z e1 e2 e3 e4 e5 e6 = absurd (grind (arith, nat_tests))
    by false true true true y z e1 e2 e3 e4 e5 e6 = absurd (grind (arith, nat_tests))
    by false true true false true z e1 e2 e3 e4 e5 e6 = absurd (grind (arith, nat_tests))
    by false true true false false true e1 e2 e3 e4 e5 e6 = absurd (grind (arith, nat_tests))
    by false false true x y z e1 e2 e3 e4 e5 e6 = absurd (grind (arith, nat_tests))
    by false false false true y z e1 e2 e3 e4 e5 e6 = absurd (grind (arith, nat_tests))

-- ---- all rows

abbrev gone_in : ℕ → List Stamped → List Stamped
gone_in k ys = map (stamped (Some k)) (deleted_in k ys)

abbrev was_in : ℕ → List Stamped → List Stamped
was_in k ys = map (stamped None) (deleted_in k ys)

abbrev came_in : ℕ → List Stamped → List Stamped
came_in k ys = map (inserted_at k) (inserted_in k ys)

count_gone : (p : Stamped → Bool) (d : Option ℕ) (k : ℕ) (y : Stamped) (ys : List Stamped) → count_by p (map (stamped d) (deleted_in k (y ∷ ys))) ≡ weight p (is_deleted_in k y) (stamped d (asked_of y)) + count_by p (map (stamped d) (deleted_in k ys))
count_gone p d k y ys = by (is_deleted_in k y)
  where
    by : (b : Bool) → count_by p (map (stamped d) (map asked_of (cond b (y ∷ filter (is_deleted_in k) ys) (filter (is_deleted_in k) ys)))) ≡ weight p b (stamped d (asked_of y)) + count_by p (map (stamped d) (deleted_in k ys))
    by true = count_cons p (stamped d (asked_of y)) (map (stamped d) (deleted_in k ys))
    by false = omega arith

count_came : (p : Stamped → Bool) (k : ℕ) (y : Stamped) (ys : List Stamped) → count_by p (came_in k (y ∷ ys)) ≡ weight p (is_inserted_in k y) (inserted_at k y.row) + count_by p (came_in k ys)
count_came p k y ys = by (is_inserted_in k y)
  where
    by : (b : Bool) → count_by p (map (inserted_at k) (map (λ s. s.row) (cond b (y ∷ filter (is_inserted_in k) ys) (filter (is_inserted_in k) ys)))) ≡ weight p b (inserted_at k y.row) + count_by p (came_in k ys)
    by true = count_cons p (inserted_at k y.row) (came_in k ys)
    by false = omega arith

count_cut : (p : Stamped → Bool) (k : ℕ) (y : Stamped) (ys : List Stamped) → count_by p (cut_rows k (y ∷ ys)) ≡ weight p (nat_le y.ins k) (cut_row k y) + count_by p (cut_rows k ys)
count_cut p k y ys = by (nat_le y.ins k)
  where
    by : (b : Bool) → count_by p (map (cut_row k) (cond b (y ∷ filter (λ s. nat_le s.ins k) ys) (filter (λ s. nat_le s.ins k) ys))) ≡ weight p b (cut_row k y) + count_by p (cut_rows k ys)
    by true = count_cons p (cut_row k y) (cut_rows k ys)
    by false = omega arith

balanced : (p : Stamped → Bool) (n : ℕ) (ys : List Stamped) → All IsLater ys
    → count_by p (gone_in (n + 1) ys) + count_by p (cut_rows n ys) + count_by p (came_in (n + 1) ys) ≡ count_by p (was_in (n + 1) ys) + count_by p (cut_rows (n + 1) ys)
balanced p n [] later = refl
balanced p n (y ∷ ys) later =
    let rest = balanced p n ys (All-tail IsLater y ys later) in
    let here : weight p (is_deleted_in (n + 1) y) (stamped (Some (n + 1)) (asked_of y)) + weight p (nat_le y.ins n) (cut_row n y) + weight p (is_inserted_in (n + 1) y) (inserted_at (n + 1) y.row)
    ≡ weight p (is_deleted_in (n + 1) y) (stamped None (asked_of y)) + weight p (nat_le y.ins (n + 1)) (cut_row (n + 1) y) = row_balanced p n y.row y.ins y.del (All-head IsLater y ys later) in
    let one = count_gone p (Some (n + 1)) (n + 1) y ys in
    let two = count_cut p n y ys in
    let three = count_came p (n + 1) y ys in
    let four = count_gone p None (n + 1) y ys in
    let five = count_cut p (n + 1) y ys in
    omega (arith, rest, here, one, two, three, four, five)

-- Behind one more epoch the rows are those before it, where those that it deleted have their delete epoch, and those that it inserted.
pub one_epoch : (n : ℕ) (ys : List Stamped) → All IsLater ys → SameBag (gone_in (n + 1) ys ++ (cut_rows n ys ++ came_in (n + 1) ys)) (was_in (n + 1) ys ++ cut_rows (n + 1) ys)
one_epoch n ys later = record {
  counts = λ p.
      omega (arith, balanced p n ys later, count_append p (gone_in (n + 1) ys) (cut_rows n ys ++ came_in (n + 1) ys), count_append p (cut_rows n ys) (came_in (n + 1) ys), count_append p (was_in (n + 1) ys) (cut_rows (n + 1) ys));
}

-- ---- what an epoch deletes is there before it

abbrev stays : ℕ → Stamped → Bool
stays k s = not (is_deleted_in k s)

row_within : (p : Stamped → Bool) (n : ℕ) (row : List Value) (ins : ℕ) (del : Option ℕ) → IfSome del (λ d. ins < d)
    → weight p (nat_le ins n) (make row ins (cut_delete n del))
    ≡ weight p (option_map_or (λ e. e == (n + 1)) del false) (make row ins None) + cond (not (option_map_or (λ e. e == (n + 1)) del false)) (weight p (nat_le ins n) (make row ins (cut_delete n del))) 0
row_within p n row ins None later = omega arith
row_within p n row ins (Some del) later = by (nat_le ins n) (del == (n + 1)) (nat_le del n) refl refl refl
  where
    by : (b x y : Bool) → nat_le ins n ≡ b → (del == (n + 1)) ≡ x → nat_le del n ≡ y
        → weight p b (make row ins (cond y (Some del) None)) ≡ weight p x (make row ins None) + cond (not x) (weight p b (make row ins (cond y (Some del) None))) 0
    by b false y one two three = omega arith
    by true true false one two three = omega arith
    by true true true one two three = absurd (grind (arith, nat_tests))
    by false true y one two three = absurd (grind (arith, nat_tests))

count_left : (p : Stamped → Bool) (n k : ℕ) (y : Stamped) (ys : List Stamped) → count_by p (cut_rows n (filter (stays k) (y ∷ ys))) ≡ cond (stays k y) (weight p (nat_le y.ins n) (cut_row n y)) 0 + count_by p (cut_rows n (filter (stays k) ys))
count_left p n k y ys = by (stays k y)
  where
    by : (b : Bool) → count_by p (cut_rows n (cond b (y ∷ filter (stays k) ys) (filter (stays k) ys))) ≡ cond b (weight p (nat_le y.ins n) (cut_row n y)) 0 + count_by p (cut_rows n (filter (stays k) ys))
    by true = count_cut p n y (filter (stays k) ys)
    by false = omega arith

split : (p : Stamped → Bool) (n : ℕ) (ys : List Stamped) → All IsLater ys → count_by p (cut_rows n ys) ≡ count_by p (was_in (n + 1) ys) + count_by p (cut_rows n (filter (stays (n + 1)) ys))
split p n [] later = refl
split p n (y ∷ ys) later =
    let rest = split p n ys (All-tail IsLater y ys later) in
    let here : weight p (nat_le y.ins n) (cut_row n y) ≡ weight p (is_deleted_in (n + 1) y) (stamped None (asked_of y)) + cond (stays (n + 1) y) (weight p (nat_le y.ins n) (cut_row n y)) 0 =
    row_within p n y.row y.ins y.del (All-head IsLater y ys later) in
    let one = count_cut p n y ys in
    let two = count_gone p None (n + 1) y ys in
    let three = count_left p n (n + 1) y ys in
    omega (arith, rest, here, one, two, three)

pub within_before : (n : ℕ) (ys : List Stamped) → All IsLater ys → SameBag (cut_rows n ys) (was_in (n + 1) ys ++ cut_rows n (filter (stays (n + 1)) ys))
within_before n ys later = record { counts = λ p. omega (arith, split p n ys later, count_append p (was_in (n + 1) ys) (cut_rows n (filter (stays (n + 1)) ys))) }

-- ---- from a mark on

kept_undeleted : (mark : ℕ) (asked : List Asked) → retained mark (map (stamped None) asked) ≡ map (stamped None) asked
kept_undeleted mark [] = refl
kept_undeleted mark (a ∷ asked) = ap (λ (ss : List Stamped). stamped None a ∷ ss) (kept_undeleted mark asked)

kept_new : (mark k : ℕ) (rows : List (List Value)) → retained mark (map (inserted_at k) rows) ≡ map (inserted_at k) rows
kept_new mark k [] = refl
kept_new mark k (row ∷ rows) = ap (λ (ss : List Stamped). inserted_at k row ∷ ss) (kept_new mark k rows)

kept_deleted : (mark k : ℕ) (asked : List Asked) → mark < k → retained mark (map (stamped (Some k)) asked) ≡ map (stamped (Some k)) asked
kept_deleted mark k [] lt = refl
kept_deleted mark k (a ∷ asked) lt =
    let test : nat_lt mark k ≡ true = grind (arith, nat_tests) in
    ap (λ (b : Bool). cond b (stamped (Some k) a ∷ retained mark (map (stamped (Some k)) asked)) (retained mark (map (stamped (Some k)) asked))) test
    ∙ ap (λ (ss : List Stamped). stamped (Some k) a ∷ ss) (kept_deleted mark k asked lt)

-- all rows are those that are retained and the others
kept_or_not : (mark : ℕ) (xs : List Stamped) → SameBag xs (retained mark xs ++ filter (λ s. not (is_retained mark s)) xs)
kept_or_not mark xs = record { counts = λ p. omega (arith, both p xs, count_append p (retained mark xs) (filter (λ s. not (is_retained mark s)) xs)) }
  where
    both : (p : Stamped → Bool) (ss : List Stamped) → count_by p ss ≡ count_by p (retained mark ss) + count_by p (filter (λ s. not (is_retained mark s)) ss)
    both p [] = refl
    both p (s ∷ ss) = by (is_retained mark s) (both p ss)
      where
        by : (b : Bool) → count_by p ss ≡ count_by p (retained mark ss) + count_by p (filter (λ t. not (is_retained mark t)) ss)
            → count_by p (s ∷ ss) ≡ count_by p (cond b (s ∷ retained mark ss) (retained mark ss)) + count_by p (cond (not b) (s ∷ filter (λ t. not (is_retained mark t)) ss) (filter (λ t. not (is_retained mark t)) ss))
        by true rest = omega (arith, rest, count_cons p s ss, count_cons p s (retained mark ss))
        by false rest = omega (arith, rest, count_cons p s ss, count_cons p s (filter (λ t. not (is_retained mark t)) ss))

-- what an epoch deletes of the one lies within the rows of another that tells the same up to the epoch before
pub deletes_within : (mark n : ℕ) (xs ys : List Stamped) (dels : List Asked) → All IsLater ys → SameBag (retained mark xs) (retained mark (cut_rows n ys)) → SameBag dels (deleted_in (n + 1) ys) → Within dels xs
deletes_within mark n xs ys dels later same deletes =
    let left : List Stamped = cut_rows n (filter (stays (n + 1)) ys) in
    let lost : List Stamped = filter (λ s. not (is_retained mark s)) xs in
    let kept : retained mark (was_in (n + 1) ys ++ left) ≡ was_in (n + 1) ys ++ retained mark left =
    filter-append (is_retained mark) (was_in (n + 1) ys) left ∙ ap (λ (ss : List Stamped). ss ++ retained mark left) (kept_undeleted mark (deleted_in (n + 1) ys)) in
    let cut : SameBag (retained mark (cut_rows n ys)) (was_in (n + 1) ys ++ retained mark left) =
    subst (SameBag (retained mark (cut_rows n ys))) kept (bag_filter (is_retained mark) (cut_rows n ys) (was_in (n + 1) ys ++ left) (within_before n ys later)) in
    let asked : SameBag (map (stamped None) dels) (was_in (n + 1) ys) = bag_map (stamped None) dels (deleted_in (n + 1) ys) deletes in
    let all = kept_or_not mark xs in
    let rest : List Stamped = retained mark left ++ lost in
    (rest, record { counts = λ p. omega (arith, all.counts p, same.counts p, cut.counts p, asked.counts p, count_append p (retained mark xs) lost, count_append p (was_in (n + 1) ys) (retained mark left), count_append p (map (stamped None) dels) rest, count_append p (retained mark left) lost) })

-- Where one tells the same as another up to an epoch, it does so up to the next behind a commit of what that inserted and deleted.
pub replayed : (mark n : ℕ) (xs ys : List Stamped) (rows : List (List Value)) (dels : List Asked) → mark ≤ n → All IsLater ys → SameBag (retained mark xs) (retained mark (cut_rows n ys))
    → SameBag rows (inserted_in (n + 1) ys) → SameBag dels (deleted_in (n + 1) ys)
    → SameBag (retained mark (mark_all (n + 1) dels xs ++ map (inserted_at (n + 1)) rows)) (retained mark (cut_rows (n + 1) ys))
replayed mark n xs ys rows dels le later same inserts deletes =
    let k : ℕ = n + 1 in
    let lt : mark < n + 1 = omega (arith, le) in
    let new : List Stamped = mark_all (n + 1) dels xs in
    let gone_now : List Stamped = map (stamped (Some (n + 1))) dels in
    let was_now : List Stamped = map (stamped None) dels in
    let came_now : List Stamped = map (inserted_at (n + 1)) rows in
    let takes : SameBag (gone_now ++ retained mark xs) (was_now ++ retained mark new) = takes_retained mark (n + 1) dels xs new lt (mark_takes (n + 1) dels xs (deletes_within mark n xs ys dels later same deletes)) in
    let gone_same : SameBag gone_now (gone_in (n + 1) ys) = bag_map (stamped (Some (n + 1))) dels (deleted_in (n + 1) ys) deletes in
    let was_same : SameBag was_now (was_in (n + 1) ys) = bag_map (stamped None) dels (deleted_in (n + 1) ys) deletes in
    let came_same : SameBag came_now (came_in (n + 1) ys) = bag_map (inserted_at (n + 1)) rows (inserted_in (n + 1) ys) inserts in
    let old : List Stamped = cut_rows n ys in
    let all : SameBag (retained mark (gone_in (n + 1) ys ++ (old ++ came_in (n + 1) ys))) (retained mark (was_in (n + 1) ys ++ cut_rows (n + 1) ys)) = bag_filter (is_retained mark) (gone_in (n + 1) ys ++ (old ++ came_in (n + 1) ys)) (was_in (n + 1) ys ++ cut_rows (n + 1) ys) (one_epoch n ys later) in
    let first : retained mark (gone_in (n + 1) ys ++ (old ++ came_in (n + 1) ys)) ≡ gone_in (n + 1) ys ++ (retained mark old ++ came_in (n + 1) ys) =
    filter-append (is_retained mark) (gone_in (n + 1) ys) (old ++ came_in (n + 1) ys)
    ∙ ap (λ (ss : List Stamped). ss ++ retained mark (old ++ came_in (n + 1) ys)) (kept_deleted mark (n + 1) (deleted_in (n + 1) ys) lt)
    ∙ ap (λ (ss : List Stamped). gone_in (n + 1) ys ++ ss) (filter-append (is_retained mark) old (came_in (n + 1) ys) ∙ ap (λ (ss : List Stamped). retained mark old ++ ss) (kept_new mark (n + 1) (inserted_in (n + 1) ys))) in
    let second : retained mark (was_in (n + 1) ys ++ cut_rows (n + 1) ys) ≡ was_in (n + 1) ys ++ retained mark (cut_rows (n + 1) ys) =
    filter-append (is_retained mark) (was_in (n + 1) ys) (cut_rows (n + 1) ys) ∙ ap (λ (ss : List Stamped). ss ++ retained mark (cut_rows (n + 1) ys)) (kept_undeleted mark (deleted_in (n + 1) ys)) in
    let goal : retained mark (new ++ came_now) ≡ retained mark new ++ came_now =
    filter-append (is_retained mark) new came_now ∙ ap (λ (ss : List Stamped). retained mark new ++ ss) (kept_new mark (n + 1) rows) in
    let sums : SameBag (gone_in (n + 1) ys ++ (retained mark old ++ came_in (n + 1) ys)) (was_in (n + 1) ys ++ retained mark (cut_rows (n + 1) ys)) =
    subst (λ (ss : List Stamped). SameBag ss (was_in (n + 1) ys ++ retained mark (cut_rows (n + 1) ys))) first (subst (SameBag (retained mark (gone_in (n + 1) ys ++ (old ++ came_in (n + 1) ys)))) second all) in
    subst (λ (ss : List Stamped). SameBag ss (retained mark (cut_rows (n + 1) ys))) (sym goal)
    (record {
      counts = λ p. omega (
        arith,
        takes.counts p,
        gone_same.counts p,
        was_same.counts p,
        came_same.counts p,
        same.counts p,
        sums.counts p,
        count_append p gone_now (retained mark xs),
        count_append p was_now (retained mark new),
        count_append p (gone_in (n + 1) ys) (retained mark old ++ came_in (n + 1) ys),
        count_append p (retained mark old) (came_in (n + 1) ys),
        count_append p (was_in (n + 1) ys) (retained mark (cut_rows (n + 1) ys)),
        count_append p (retained mark new) came_now,
      );
    })
