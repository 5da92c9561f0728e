-- What a query makes of the rows of its FROM items is what it makes of them without those on which no tuple is kept.
use Rattle.std.proofs.Common.{◌≡◌, ℕ, ◌+◌, ◌++◌, List, [], ◌∷◌, length, map, filter, refl, sym, ap, ap₂, ◌∙◌, subst}
use Rattle.std.specs.List.{All, flat_map}
use Rattle.std.specs.List.Sorted.{IsPermutation}
use Rattle.std.proofs.lemmas.Grind.{flat_map-append}
use Rattle.std.proofs.lemmas.List.{append_assoc, append-nil, length-append, map-append, map-id}
use Rattle.std.proofs.lemmas.List.Concat.{flat_map-cons}
use Rattle.std.proofs.lemmas.List.Elements.{All-head, All-tail, filter-append}
use Rattle.std.proofs.lemmas.List.Sorted.{IsPermutation-trans}
use Rattle.col_value.specs.declared.value.Value.{Value}
use Rattle.col_value.specs.declared.wide.Wide.{Wide}
use Rattle.sql_bound.specs.declared.expr.Expr.{Expr}
use Rattle.sql_bound.specs.declared.query.FromItem.{FromItem}
use Rattle.sql_bound.specs.declared.query.BoundQuery.{BoundQuery}
use Rattle.sql_bound.specs.Outputs.{is_kept, kept, output, tuples, HasGreatSum, IsSumTooGreat}
use Rattle.sql_bound.specs.Printed.{IsPrinted}
use Rattle.query_laws.specs.Laws.{ArePermuted}
use Rattle.query_laws.proofs.AnyOrder.{output_permuted}
use Rattle.query_laws.proofs.Great.{fails_the_same}
use Rattle.alike_laws.proofs.Permutes.{rows_permuted}
use Rattle.query_cover.specs.Enough.{AreEnoughFrom, IsOut}
use Rattle.query_cover.proofs.Less.{none_of}
use Rattle.query_cover.proofs.Permuted.{permuted_back}
use Rattle.query_cover.proofs.Same.{outputs}

abbrev Rows : Type 0
Rows = List (List Value)

-- the kept tuples that begin with these values, and go on with a row of each of these items
abbrev begun : List Expr → List Value → List Rows → Rows
begun keep before inputs = filter (is_kept keep) (map (λ rest. before ++ rest) (tuples inputs))

joined_again : (before row : List Value) (rests : Rows) → map (λ rest. before ++ rest) (map (λ rest. row ++ rest) rests) ≡ map (λ rest. (before ++ row) ++ rest) rests
joined_again before row [] = refl
joined_again before row (rest ∷ rests) = ap₂ (λ (x : List Value) (xs : Rows). x ∷ xs) (sym (append_assoc before row rest)) (joined_again before row rests)

-- they go on with the first row, or with the second one, and so on
begun_with : (keep : List Expr) (before : List Value) (rows : Rows) (more : List Rows) → begun keep before (rows ∷ more) ≡ flat_map (λ row. begun keep (before ++ row) more) rows
begun_with keep before [] more = refl
begun_with keep before (row ∷ rows) more =
    let on = map (λ (rest : List Value). before ++ rest) in
    let with_row = map (λ (rest : List Value). row ++ rest) (tuples more) in
    let others = tuples (rows ∷ more) in
    ap (λ (xs : Rows). filter (is_kept keep) (on xs)) (flat_map-cons (λ (x : List Value). map (λ (rest : List Value). x ++ rest) (tuples more)) row rows)
    ∙ ap (filter (is_kept keep)) (map-append (λ (rest : List Value). before ++ rest) with_row others)
    ∙ filter-append (is_kept keep) (on with_row) (on others)
    ∙ ap₂ (λ (xs ys : Rows). xs ++ ys) (ap (filter (is_kept keep)) (joined_again before row (tuples more))) (begun_with keep before rows more)
    ∙ sym (flat_map-cons (λ (x : List Value). begun keep (before ++ x) more) row rows)

-- none goes on with a row on which no tuple is kept
none_begun : (q : BoundQuery) (first : ℕ) (before : List Value) (more : List Rows) (out : Rows) → length before ≡ first → All (IsOut q first) out → flat_map (λ row. begun q.keep (before ++ row) more) out ≡ []
none_begun q first before more [] long all = refl
none_begun q first before more (row ∷ out) long all =
    flat_map-cons (λ (x : List Value). begun q.keep (before ++ x) more) row out
    ∙ ap₂ (λ (xs ys : Rows). xs ++ ys)
    (none_of q.keep (before ++ row) (tuples more) (λ rest. ap (is_kept q.keep) (append_assoc before row rest) ∙ All-head (IsOut q first) row out all before rest long))
    (none_begun q first before more out long (All-tail (IsOut q first) row out all))

same_over : (P : List Value → Type 0) (f g : List Value → Rows) (rows : Rows) → All P rows → ((row : List Value) → P row → f row ≡ g row) → flat_map f rows ≡ flat_map g rows
same_over P f g [] all same = refl
same_over P f g (row ∷ rows) all same =
    flat_map-cons f row rows ∙ ap₂ (λ (xs ys : Rows). xs ++ ys) (same row (All-head P row rows all)) (same_over P f g rows (All-tail P row rows all) same) ∙ sym (flat_map-cons g row rows)

-- The rows in another order, of which the same tuples are kept as of some of them, behind any rows of the items before.
record Whole (q : BoundQuery) (first : ℕ) (some rows : List Rows) : Type 0 where
  all : List Rows
  permuted : ArePermuted rows all
  same : (before : List Value) → length before ≡ first → begun q.keep before all ≡ begun q.keep before some

whole : (q : BoundQuery) (first : ℕ) (fs : List FromItem) (some rows : List Rows) → AreEnoughFrom q first fs some rows → Whole q first some rows
whole q first [] [] [] are = record { all = []; permuted = tt; same = λ before long. refl }
whole q first [] [] (r ∷ rows) are = absurd are
whole q first [] (s ∷ some) rows are = absurd are
whole q first (f ∷ fs) [] rows are = absurd are
whole q first (f ∷ fs) (s ∷ some) [] are = absurd are
whole q first (f ∷ fs) (s ∷ some) (r ∷ rows) (here, later) =
    let rest = whole q (first + f.columns) fs some rows later in
    record {
      all = (s ++ here.passed) ∷ rest.all;
      permuted = (rows_permuted r (s ++ here.passed) here.parts, rest.permuted);
      same = λ before long.
          let long_with : (row : List Value) → length row ≡ f.columns → length (before ++ row) ≡ first + f.columns = λ row wide. length-append before row ∙ ap₂ (λ (m n : ℕ). m + n) long wide in
          let with_all = λ (row : List Value). begun q.keep (before ++ row) rest.all in
          let with_some = λ (row : List Value). begun q.keep (before ++ row) some in
          begun_with q.keep before (s ++ here.passed) rest.all
          ∙ flat_map-append with_all s here.passed
          ∙ ap₂ (λ (xs ys : Rows). xs ++ ys)
          (same_over (λ row. length row ≡ f.columns) with_all with_some s here.wide (λ row wide. rest.same (before ++ row) (long_with row wide)))
          (none_begun q first before rest.all here.passed long here.out)
          ∙ append-nil (flat_map with_some s)
          ∙ sym (begun_with q.keep before s some);
    }

kept_same : (q : BoundQuery) (some rows : List Rows) (w : Whole q 0 some rows) → kept q w.all ≡ kept q some
kept_same q some rows w = sym (ap (filter (is_kept q.keep)) (map-id (tuples w.all))) ∙ w.same [] refl ∙ ap (filter (is_kept q.keep)) (map-id (tuples some))

pub printed_enough : (q : BoundQuery) (some rows : List Rows) (listed : List (List Wide)) → AreEnoughFrom q 0 q.sources some rows
    → IsPrinted q.order q.limit (output q some) listed → IsPrinted q.order q.limit (output q rows) listed
printed_enough q some rows listed are printed =
    let w = whole q 0 q.sources some rows are in
    record {
      sorted = printed.sorted;
      same = IsPermutation-trans (output q rows) (output q w.all) printed.sorted (output_permuted q rows w.all w.permuted)
          (subst (λ (tuples : Rows). IsPermutation (outputs q tuples) printed.sorted) (sym (kept_same q some rows w)) printed.same);
      ascending = printed.ascending;
      front = printed.front;
    }

pub great_enough : (q : BoundQuery) (some rows : List Rows) → AreEnoughFrom q 0 q.sources some rows → IsSumTooGreat q some → IsSumTooGreat q rows
great_enough q some rows are great =
    let w = whole q 0 q.sources some rows are in
    fails_the_same q w.all rows (permuted_back rows w.all w.permuted) (subst (HasGreatSum q) (sym (kept_same q some rows w)) great)

pub not_great_enough : (q : BoundQuery) (some rows : List Rows) → AreEnoughFrom q 0 q.sources some rows → IsSumTooGreat q rows → IsSumTooGreat q some
not_great_enough q some rows are great =
    let w = whole q 0 q.sources some rows are in
    subst (HasGreatSum q) (kept_same q some rows w) (fails_the_same q rows w.all w.permuted great)
