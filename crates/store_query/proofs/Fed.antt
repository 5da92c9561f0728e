-- Rows that went to a run of a query.
use Rattle.std.proofs.Common.{◌≡◌, ℕ, ◌+◌, ◌<◌, ◌≤◌, ◌++◌, true, false, List, [], ◌∷◌, length, map, take, get_or, refl, sym, ap, ◌∙◌, arith, subst}
use Rattle.std.specs.Prelude.{IsSomeAnd, Option, Some}
use Rattle.std.specs.List.{slice_get}
use Rattle.std.proofs.lemmas.List.{append_assoc, append-nil, map-append, take_all, take_more}
use Rattle.std.proofs.lemmas.List.Elements.{All-append, All-nil, All-push, All-weaker}
use Rattle.common_laws.proofs.BagLaws.{count_append}
use Rattle.common_laws.specs.Maps.{Contents}
use Rattle.col_value.specs.declared.row.Asked.{Asked}
use Rattle.col_value.specs.declared.row.Stamped.{Stamped}
use Rattle.col_value.specs.declared.value.Value.{Value}
use Rattle.row_history.specs.History.{visible}
use Rattle.stored_rows.specs.Stored.{Projected, Stores}
use Rattle.sql_bound.specs.declared.query.BoundQuery.{BoundQuery}
use Rattle.query_cover.specs.Seen.{placed}
use Rattle.query_run.specs.Runs.{HasTaken, IsRunOf}
use Rattle.query_run.specs.declared.run.Run.{Run}
use Rattle.row_bounds.specs.declared.bound.Bound.{Bound}
use Rattle.exec_scan.specs.Batches.{Shown}
use Rattle.exec_scan.specs.Scanning.{AreLeft, Gives, Place, start}
use Rattle.exec_scan.proofs.Gathered.{row_next}
use Rattle.wanted_rows.specs.Wanted.{is_same, one_of, tally, Tries}
use Rattle.store_query.specs.Feeding.{Feeds, HasFed, TakesLess, TakesRows}
use Rattle.store_query.specs.Lessening.{asked, cleared, AreGone}
use Rattle.store_query.proofs.Gathered.{gathered_all, gathered_more, gathered_none, Asks, Gathered}
use Rattle.store_query.proofs.Lessens.{lessens_all, tally_push, Lessens}

abbrev Rows : Type 0
Rows = List (List Value)

-- ---- one row

-- a row that is taken out
pub gone_feeds : (q : BoundQuery) (row : List Value) (need less : Asked → ℕ) (r : Run) → Tries true (asked row) need less → Feeds q (row ∷ []) need r less r
gone_feeds q row need less r tries = λ more first came was.
    let fewer : (a : Asked) → need a ≡ one_of (asked row) a + less a = tries.took in
    record {
      out = was.out;
      taken = was.taken;
      counts = λ a. omega (arith, was.counts a, tally_push a came row, fewer a);
      none = All-weaker (λ x. need (asked x) ≡ 0) (λ x. less (asked x) ≡ 0) (λ x zero. omega (arith, fewer (asked x), zero)) was.out was.none;
    }

-- a row that the run takes
pub kept_feeds : (q : BoundQuery) (row : List Value) (need less : Asked → ℕ) (old new : Run) → Tries false (asked row) need less → TakesRows q (row ∷ []) old new → Feeds q (row ∷ []) need old less new
kept_feeds q row need less old new tries takes = λ more first came was.
    let same : (a : Asked) → less a ≡ need a = tries.same in
    let here : need (asked row) ≡ 0 = tries.none in
    record {
      out = was.out ++ row ∷ [];
      taken = takes more was.out was.taken;
      counts = λ a. omega (arith, was.counts a, tally_push a came row, tally_push a was.out row, same a);
      none =
          All-push (λ x. less (asked x) ≡ 0) was.out row (All-weaker (λ x. need (asked x) ≡ 0) (λ x. less (asked x) ≡ 0) (λ x zero. same (asked x) ∙ zero) was.out was.none)
          (same (asked row) ∙ here);
    }

-- rows that the run takes together, where none is to be taken out
pub all_feed : (q : BoundQuery) (rows : Rows) (need : Asked → ℕ) (old new : Run) → ((a : Asked) → need a ≡ 0) → TakesRows q rows old new → Feeds q rows need old need new
all_feed q rows need old new zero takes = λ more first came was. record {
  out = was.out ++ rows;
  taken = takes more was.out was.taken;
  counts = λ a. omega (arith, was.counts a, tally_both a came, tally_both a was.out);
  none = All-append (λ x. need (asked x) ≡ 0) was.out rows was.none (λ k d h. zero (asked (get_or rows k d)));
}
  where
    tally_both : (a : Asked) (xs : Rows) → tally a (map asked (xs ++ rows)) ≡ tally a (map asked xs) + tally a (map asked rows)
    tally_both a xs = ap (λ (ys : List Asked). tally a ys) (map-append asked xs rows) ∙ count_append (λ (x : Asked). is_same x a) (map asked xs) (map asked rows)

pub made_feed : (q : BoundQuery) (rows made : Rows) (need : Asked → ℕ) (old new : Run) → made ≡ rows → ((a : Asked) → need a ≡ 0) → TakesRows q made old new → Feeds q rows need old need new
made_feed q rows made need old new is zero takes = all_feed q rows need old new zero (subst (λ (rs : Rows). TakesRows q rs old new) is takes)

-- a run that takes rows stays one of the query
pub takes_run : (q : BoundQuery) (rows : Rows) (old new : Run) → TakesRows q rows old new → IsRunOf q old → IsRunOf q new
takes_run q rows old new takes (more, taken, has) = (more, taken ++ rows, takes more taken has)

-- ---- the rows of a batch

pub feeds_none : (q : BoundQuery) (rows : Rows) (need : Asked → ℕ) (r : Run) → rows ≡ [] → Feeds q rows need r need r
feeds_none q rows need r is = λ more first came was.
    subst (λ (xs : Rows). HasFed q more first xs need r) (sym (ap (λ (xs : Rows). came ++ xs) is ∙ append-nil came)) was

pub feeds_next : (q : BoundQuery) (batch : Rows) (i : ℕ) (row : List Value) (first need less : Asked → ℕ) (old now next : Run) → i < length batch → IsSomeAnd (slice_get batch i) (λ (x : List Value). row ≡ x)
    → Feeds q (take i batch) first old need now → Feeds q (row ∷ []) need now less next → Feeds q (take (i + 1) batch) first old less next
feeds_next q batch i row first need less old now next lt at was goes = λ more wanted came has.
    subst (λ (xs : Rows). HasFed q more wanted xs less next)
    (row_next came (came ++ take i batch) ((came ++ take i batch) ++ row ∷ []) batch i row row lt at refl refl refl) (goes more wanted (came ++ take i batch) (was more wanted came has))

pub feeds_all : (q : BoundQuery) (batch : Rows) (i : ℕ) (need less : Asked → ℕ) (old new : Run) → length batch ≤ i → Feeds q (take i batch) need old less new → Feeds q batch need old less new
feeds_all q batch i need less old new le was = subst (λ (xs : Rows). Feeds q xs need old less new) (take_all i batch le) was

-- ---- rows that a run takes

pub takes_none : (q : BoundQuery) (rows : Rows) (r : Run) → rows ≡ [] → TakesRows q rows r r
takes_none q rows r is = λ more taken has. subst (λ (xs : Rows). HasTaken q more xs r) (sym (ap (λ (xs : Rows). taken ++ xs) is ∙ append-nil taken)) has

pub takes_next : (q : BoundQuery) (rows : Rows) (i : ℕ) (row : List Value) (old now next : Run) → i < length rows → row ≡ get_or rows i row → TakesRows q (take i rows) old now → TakesRows q (row ∷ []) now next
    → TakesRows q (take (i + 1) rows) old next
takes_next q rows i row old now next lt is was goes = λ more taken has.
    let joined : (taken ++ take i rows) ++ row ∷ [] ≡ taken ++ take (i + 1) rows =
    append_assoc taken (take i rows) (row ∷ []) ∙ ap (λ (xs : Rows). taken ++ xs) (ap (λ (x : List Value). take i rows ++ x ∷ []) is ∙ sym (take_more rows i row lt)) in
    subst (λ (xs : Rows). HasTaken q more xs next) joined (goes more (taken ++ take i rows) (was more taken has))

pub takes_all : (q : BoundQuery) (rows : Rows) (i : ℕ) (old new : Run) → length rows ≤ i → TakesRows q (take i rows) old new → TakesRows q rows old new
takes_all q rows i old new le was = subst (λ (xs : Rows). TakesRows q xs old new) (take_all i rows le) was

-- ---- the rows of a scan

-- The first rows of a scan are done: some of them came, and a run took those but for the ones that were taken out.
pub record Streamed (q : BoundQuery) (m : Contents) (p : Projected) (epoch : ℕ) (places : List (Option ℕ)) (bounds : List Bound) (s : Place) (rows : List Stamped) (first need : Asked → ℕ) (old now : Run) : Type 0 where
  pub came : Rows
  pub gathered : Gathered m p epoch places bounds s rows came
  pub fed : (more : List Rows) → HasTaken q more [] old → HasFed q more first came need now

pub streamed_none : (q : BoundQuery) (m : Contents) (p : Projected) (epoch : ℕ) (places : List (Option ℕ)) (bounds : List Bound) (s : Place) (rows : List Stamped) (need : Asked → ℕ) (r : Run) → s ≡ start epoch places bounds false → Stores m p rows
    → Streamed q m p epoch places bounds s rows need need r r
streamed_none q m p epoch places bounds s rows need r is stores = record {
  came = [];
  gathered = gathered_none m p epoch places bounds s rows [] is refl stores;
  fed = λ more has. record { out = []; taken = has; counts = λ a. refl; none = All-nil (λ x. need (asked x) ≡ 0) };
}

pub streamed_more : (q : BoundQuery) (m : Contents) (p : Projected) (epoch : ℕ) (places : List (Option ℕ)) (bounds : List Bound) (s new : Place) (batch : Shown) (rows : List Stamped) (first need less : Asked → ℕ) (old now next : Run)
    → Asks epoch places bounds s → ((left : List Stamped) → AreLeft m p s left → Gives m p s new left (Some batch)) → Feeds q batch.rows need now less next → Streamed q m p epoch places bounds s rows first need old now
    → Streamed q m p epoch places bounds new rows first less old next
streamed_more q m p epoch places bounds s new batch rows first need less old now next asks gives goes was = record {
  came = was.came ++ batch.rows;
  gathered = gathered_more m p epoch places bounds s new batch rows was.came (was.came ++ batch.rows) refl asks gives was.gathered;
  fed = λ more has. goes more first was.came (was.fed more has);
}

fed_less : (q : BoundQuery) (more : List Rows) (first need : Asked → ℕ) (rows : Rows) (r : Run) (fed : HasFed q more first rows need r) → AreGone first rows fed.out
fed_less q more first need rows r fed =
    let empty : (a : Asked) → tally a (map asked []) ≡ 0 = λ a. refl in
    let lessens : Lessens first rows need [] fed.out = record { counts = λ a. omega (arith, fed.counts a, empty a); none = fed.none } in
    lessens_all rows [] fed.out first need refl lessens

pub streamed_all : (q : BoundQuery) (m : Contents) (p : Projected) (epoch : ℕ) (places : List (Option ℕ)) (bounds : List Bound) (s : Place) (rows : List Stamped) (first need : Asked → ℕ) (old now : Run)
    → ((left : List Stamped) → AreLeft m p s left → left ≡ []) → Streamed q m p epoch places bounds s rows first need old now
    → TakesLess q bounds (length places) first (map (placed places) (visible epoch rows)) old now
streamed_all q m p epoch places bounds s rows first need old now ends was = λ more has.
    let fed = was.fed more has in (
      was.came,
      fed.out,
      gathered_all m p epoch places bounds s rows was.came ends was.gathered,
      fed_less q more first need was.came now fed,
      fed.taken,
    )

-- ---- what is to be taken out

pub gone_counted : (places : List (Option ℕ)) (deletes : List Asked) → map asked (map (λ a. cleared places a.row) deletes) ≡ map (λ a. asked (cleared places a.row)) deletes
gone_counted places [] = refl
gone_counted places (a ∷ deletes) = ap (λ (xs : List Asked). asked (cleared places a.row) ∷ xs) (gone_counted places deletes)
