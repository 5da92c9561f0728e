-- Rows that match, without those that are taken out.
use Rattle.std.proofs.Common.{◌≡◌, ℕ, zero, suc, ◌+◌, ◌≤◌, ◌<◌, ◌++◌, Bool, true, false, cond, List, [], ◌∷◌, length, map, filter, take, drop, get_or, refl, sym, ap, ap₂, ◌∙◌, arith, subst}
use Rattle.std.specs.Prelude.{IsSomeAnd, Option, Some, None}
use Rattle.std.specs.List.{All, slice_get}
use Rattle.std.proofs.lemmas.List.{append_assoc, append-nil, map-append, take_more}
use Rattle.std.proofs.lemmas.List.Elements.{All-cons, All-head, All-nil, All-push, All-tail, All-weaker, filter-append}
use Rattle.common_laws.specs.Bags.{SameBag}
use Rattle.common_laws.specs.Maps.{Contents}
use Rattle.common_laws.proofs.BagLaws.{bag_filter, bag_map, count_append, count_cons}
use Rattle.col_value.specs.declared.row.Asked.{Asked}
use Rattle.col_value.specs.declared.row.Stamped.{Stamped}
use Rattle.col_value.specs.declared.value.Value.{Value}
use Rattle.row_history.specs.History.{is_visible}
use Rattle.sql_bound.specs.declared.expr.Expr.{Expr}
use Rattle.sql_bound.specs.Outputs.{is_kept}
use Rattle.stored_rows.specs.Stored.{Projected, Stores}
use Rattle.wanted_rows.specs.Wanted.{is_same, one_of, tally, Tries}
use Rattle.wanted_rows.proofs.Counting.{same_exact}
use Rattle.wanted_rows.proofs.Whole.{bag_of_tally}
use Rattle.row_bounds.specs.Bounds.{within}
use Rattle.row_bounds.specs.declared.bound.Bound.{Bound}
use Rattle.query_cover.specs.Seen.{placed}
use Rattle.exec_scan.specs.Batches.{Shown}
use Rattle.exec_scan.specs.Scanning.{AreLeft, Gives, Place, Shows, start}
use Rattle.exec_scan.specs.Opened.{Opening}
use Rattle.exec_scan.proofs.Stepping.{passed_none}
use Rattle.row_matching.specs.Seeing.{AreOthers, asked, Keeps, matches, seen_row, seen_rows, Sifted, Sifts, SiftsMore, told_rows}

-- ---- counts of rows that match

abbrev one_if : Bool → ℕ
one_if b = cond b 1 0

tally_join : (q : Asked) (xs ys : List Asked) → tally q (xs ++ ys) ≡ tally q xs + tally q ys
tally_join q xs ys = count_append (λ (a : Asked). is_same a q) xs ys

tally_push : (q : Asked) (xs : List Asked) (x : Asked) → tally q (xs ++ x ∷ []) ≡ tally q xs + one_of x q
tally_push q xs x =
    let none : tally q [] ≡ 0 = refl in
    omega (arith, count_append (λ (a : Asked). is_same a q) xs (x ∷ []), count_cons (λ (a : Asked). is_same a q) x [], none)

-- a row that matches stands as often among those that match
tally_kept : (keep : List Expr) (q : Asked) (xs : List Asked) → matches keep q ≡ true → tally q (filter (matches keep) xs) ≡ tally q xs
tally_kept keep q [] on = refl
tally_kept keep q (x ∷ xs) on = by (matches keep x) refl (is_same x q) refl (tally_kept keep q xs on)
  where
    by : (b : Bool) → matches keep x ≡ b → (s : Bool) → is_same x q ≡ s → tally q (filter (matches keep) xs) ≡ tally q xs → tally q (cond b (x ∷ filter (matches keep) xs) (filter (matches keep) xs)) ≡ tally q (x ∷ xs)
    by true is s same rest = omega (arith, rest, count_cons (λ (a : Asked). is_same a q) x (filter (matches keep) xs), count_cons (λ (a : Asked). is_same a q) x xs)
    by false off true same rest = let on_x : matches keep x ≡ true = ap (matches keep) (same_exact x q same) ∙ on in absurd (cc)
    by false off false same rest =
        let none : one_if (is_same x q) ≡ one_if false = ap one_if same in
        omega (arith, rest, count_cons (λ (a : Asked). is_same a q) x xs, none)

-- and another one doesn't stand among them
tally_none : (keep : List Expr) (q : Asked) (xs : List Asked) → matches keep q ≡ false → All (λ r. matches keep r ≡ true) xs → tally q xs ≡ 0
tally_none keep q [] off all = refl
tally_none keep q (x ∷ xs) off all = by (is_same x q) refl (tally_none keep q xs off (All-tail (λ r. matches keep r ≡ true) x xs all))
  where
    by : (s : Bool) → is_same x q ≡ s → tally q xs ≡ 0 → tally q (x ∷ xs) ≡ 0
    by true same rest =
        let on : matches keep q ≡ true = ap (matches keep) (sym (same_exact x q same)) ∙ All-head (λ r. matches keep r ≡ true) x xs all in
        absurd (cc)
    by false same rest =
        let none : one_if (is_same x q) ≡ one_if false = ap one_if same in
        omega (arith, count_cons (λ (a : Asked). is_same a q) x xs, none, rest)

all_kept : (keep : List Expr) (xs : List Asked) → All (λ r. matches keep r ≡ true) (filter (matches keep) xs)
all_kept keep [] = All-nil (λ r. matches keep r ≡ true)
all_kept keep (x ∷ xs) = by (matches keep x) refl (all_kept keep xs)
  where
    by : (b : Bool) → matches keep x ≡ b → All (λ r. matches keep r ≡ true) (filter (matches keep) xs) → All (λ r. matches keep r ≡ true) (cond b (x ∷ filter (matches keep) xs) (filter (matches keep) xs))
    by true is rest = All-cons (λ r. matches keep r ≡ true) x (filter (matches keep) xs) is rest
    by false off rest = rest

-- ---- one row more

sifted_keeps : (keep : List Expr) (first : Asked → ℕ) (seen out next : List Asked) (a : Asked) (need less : Asked → ℕ) → matches keep a ≡ true → Keeps a out next need less → Sifted keep first seen need out → Sifted keep first (seen ++ a ∷ []) less next
sifted_keeps keep first seen out next a need less on (taken, tries, made) was = by taken tries made
  where
    more : (q : Asked) → tally q (filter (matches keep) (seen ++ a ∷ [])) ≡ tally q (filter (matches keep) seen) + one_of a q
    more q =
        ap (tally q) (filter-append (matches keep) seen (a ∷ []) ∙ ap (λ (b : Bool). filter (matches keep) seen ++ cond b (a ∷ []) []) on) ∙ tally_push q (filter (matches keep) seen) a

    by : (b : Bool) → Tries b a need less → next ≡ cond b out (out ++ a ∷ []) → Sifted keep first (seen ++ a ∷ []) less next
    by true step so =
        let fewer : (q : Asked) → need q ≡ one_of a q + less q = step.took in
        record {
          counts = λ q. omega (arith, was.counts q, more q, fewer q, ap (λ (xs : List Asked). tally q xs) so);
          kept = subst (λ (xs : List Asked). All (λ r. matches keep r ≡ true) xs) (sym so) was.kept;
          none = subst (λ (xs : List Asked). All (λ r. less r ≡ 0) xs) (sym so)
              (All-weaker (λ r. need r ≡ 0) (λ r. less r ≡ 0) (λ r zero. omega (arith, fewer r, zero)) out was.none);
        }
    by false step so =
        let same : (q : Asked) → less q ≡ need q = step.same in
        let here : need a ≡ 0 = step.none in
        record {
          counts = λ q. omega (arith, was.counts q, more q, same q, ap (λ (xs : List Asked). tally q xs) so, tally_push q out a);
          kept = subst (λ (xs : List Asked). All (λ r. matches keep r ≡ true) xs) (sym so) (All-push (λ r. matches keep r ≡ true) out a was.kept on);
          none = subst (λ (xs : List Asked). All (λ r. less r ≡ 0) xs) (sym so)
              (All-push (λ r. less r ≡ 0) out a (All-weaker (λ r. need r ≡ 0) (λ r. less r ≡ 0) (λ r zero. same r ∙ zero) out was.none) (same a ∙ here));
        }

sifted_passes : (keep : List Expr) (first : Asked → ℕ) (seen out next : List Asked) (a : Asked) (need less : Asked → ℕ) → matches keep a ≡ false → next ≡ out → ((q : Asked) → less q ≡ need q) → Sifted keep first seen need out
    → Sifted keep first (seen ++ a ∷ []) less next
sifted_passes keep first seen out next a need less off so same was =
    let none : filter (matches keep) (seen ++ a ∷ []) ≡ filter (matches keep) seen =
    filter-append (matches keep) seen (a ∷ []) ∙ ap (λ (b : Bool). filter (matches keep) seen ++ cond b (a ∷ []) []) off ∙ append-nil (filter (matches keep) seen) in
    record {
      counts = λ q. omega (arith, was.counts q, ap (tally q) none, same q, ap (λ (xs : List Asked). tally q xs) so);
      kept = subst (λ (xs : List Asked). All (λ r. matches keep r ≡ true) xs) (sym so) was.kept;
      none = subst (λ (xs : List Asked). All (λ r. less r ≡ 0) xs) (sym so) (All-weaker (λ r. need r ≡ 0) (λ r. less r ≡ 0) (λ r zero. same r ∙ zero) out was.none);
    }

sifted_one : (keep : List Expr) (first : Asked → ℕ) (seen out next : List Asked) (a : Asked) (need less : Asked → ℕ) → Sifts (matches keep a) a out next need less → Sifted keep first seen need out → Sifted keep first (seen ++ a ∷ []) less next
sifted_one keep first seen out next a need less step was = by (matches keep a) refl step
  where
    by : (b : Bool) → matches keep a ≡ b → Sifts b a out next need less → Sifted keep first (seen ++ a ∷ []) less next
    by true on keeps = sifted_keeps keep first seen out next a need less on keeps was
    by false off (same, stays) = sifted_passes keep first seen out next a need less off same stays was

pub sifts_on : (b : Bool) (a : Asked) (out next : List Asked) (need less : Asked → ℕ) → b ≡ true → Keeps a out next need less → Sifts b a out next need less
sifts_on true a out next need less is keeps = keeps
sifts_on false a out next need less is keeps = absurd (cc)

pub sifts_off : (b : Bool) (a : Asked) (out : List Asked) (need : Asked → ℕ) → b ≡ false → Sifts b a out out need need
sifts_off true a out need is = absurd (cc)
sifts_off false a out need is = (refl, λ q. refl)

-- ---- the rows of a batch, one after the other

pub told_long : (rows : List (List Value)) (es : List ℕ) → length (told_rows rows es) ≡ length rows
told_long [] es = refl
told_long (r ∷ rows) es = ap suc (told_long rows (drop 1 es))

epoch_next : (es : List ℕ) (i : ℕ) → get_or (drop 1 es) i 0 ≡ get_or es (suc i) 0
epoch_next [] i = refl
epoch_next (e ∷ es) i = refl

told_at : (rows : List (List Value)) (es : List ℕ) (i : ℕ) (row : List Value) (d : Asked) → slice_get rows i ≡ Some row → get_or (told_rows rows es) i d ≡ asked row (get_or es i 0)
told_at [] es i row d is = absurd (cc)
told_at (r ∷ rows) es zero row d is = let same : r ≡ row = cc in ap (λ (x : List Value). asked x (get_or es 0 0)) same
told_at (r ∷ rows) es (suc i) row d is = told_at rows (drop 1 es) i row d is ∙ ap (asked row) (epoch_next es i)

pub sifts_none : (keep : List Expr) (rows : List (List Value)) (es : List ℕ) (need : Asked → ℕ) (out : List Asked) → SiftsMore keep (take 0 (told_rows rows es)) need out need out
sifts_none keep rows es need out first seen was = subst (λ (xs : List Asked). Sifted keep first xs need out) (sym (append-nil seen)) was

pub sifts_next : (keep : List Expr) (batch : Shown) (i : ℕ) (row : List Value) (ins : ℕ) (begun need less : Asked → ℕ) (old out next : List Asked) → i < length batch.rows → IsSomeAnd (slice_get batch.rows i) (λ (r : List Value). row ≡ r)
    → ins ≡ get_or batch.inserted i 0 → Sifts (is_kept keep row) (asked row ins) out next need less → SiftsMore keep (take i (told_rows batch.rows batch.inserted)) begun old need out
    → SiftsMore keep (take (i + 1) (told_rows batch.rows batch.inserted)) begun old less next
sifts_next keep batch i row ins begun need less old out next lt at told step was first seen before = by (slice_get batch.rows i) refl at
  where
    all : List Asked
    all = told_rows batch.rows batch.inserted

    by : (q : Option (List Value)) → slice_get batch.rows i ≡ q → IsSomeAnd q (λ (r : List Value). row ≡ r) → Sifted keep first (seen ++ take (i + 1) all) less next
    by None is none = absurd none
    by (Some r) is same =
        let one : get_or all i (asked row ins) ≡ asked row ins =
        told_at batch.rows batch.inserted i r (asked row ins) is ∙ ap₂ (λ (x : List Value) (n : ℕ). asked x n) (sym same) (sym told) in
        let more : take (i + 1) all ≡ take i all ++ asked row ins ∷ [] = take_more all i (asked row ins) (omega (arith, lt, told_long batch.rows batch.inserted)) ∙ ap (λ (x : Asked). take i all ++ x ∷ []) one in
        subst (λ (xs : List Asked). Sifted keep first xs less next) (append_assoc seen (take i all) (asked row ins ∷ []) ∙ ap (λ (xs : List Asked). seen ++ xs) (sym more))
        (sifted_one keep first (seen ++ take i all) out next (asked row ins) need less step (was first seen before))

-- ---- a batch

told_is : (epoch : ℕ) (places : List (Option ℕ)) (came : List Stamped) → told_rows (map (placed places) (map (λ (s : Stamped). s.row) came)) (map (λ (s : Stamped). s.ins) came) ≡ map (seen_row places) came
told_is epoch places [] = refl
told_is epoch places (s ∷ came) = ap (λ (xs : List Asked). seen_row places s ∷ xs) (told_is epoch places came)

seen_join : (epoch : ℕ) (places : List (Option ℕ)) (xs ys : List Stamped) → seen_rows epoch places (xs ++ ys) ≡ seen_rows epoch places xs ++ seen_rows epoch places ys
seen_join epoch places xs ys = ap (map (seen_row places)) (filter-append (is_visible epoch) xs ys) ∙ map-append (seen_row places) (filter (is_visible epoch) xs) (filter (is_visible epoch) ys)

abbrev pub Bounded : List Expr → List Bound → Type 0
Bounded keep bounds = (row : List Value) → is_kept keep row ≡ true → within bounds row ≡ true

-- rows out of the bounds don't match
none_match : (keep : List Expr) (bounds : List Bound) (epoch : ℕ) (places : List (Option ℕ)) (passed : List Stamped) → Bounded keep bounds → All (λ a. within bounds (placed places a.row) ≡ false) passed
    → filter (matches keep) (seen_rows epoch places passed) ≡ []
none_match keep bounds epoch places [] bounded out = refl
none_match keep bounds epoch places (s ∷ passed) bounded out =
    by (is_visible epoch s) (is_kept keep (placed places s.row)) refl (none_match keep bounds epoch places passed bounded (All-tail (λ a. within bounds (placed places a.row) ≡ false) s passed out))
  where
    off : is_kept keep (placed places s.row) ≡ true → ⊥
    off on =
        let in_it = bounded (placed places s.row) on in
        let not_in : within bounds (placed places s.row) ≡ false = All-head (λ a. within bounds (placed places a.row) ≡ false) s passed out in
        absurd (cc)

    by : (b k : Bool) → is_kept keep (placed places s.row) ≡ k → filter (matches keep) (seen_rows epoch places passed) ≡ []
        → filter (matches keep) (map (seen_row places) (cond b (s ∷ filter (is_visible epoch) passed) (filter (is_visible epoch) passed))) ≡ []
    by false k is rest = rest
    by true true on rest = absurd (off on)
    by true false is rest = ap (λ (b : Bool). cond b (seen_row places s ∷ filter (matches keep) (seen_rows epoch places passed)) (filter (matches keep) (seen_rows epoch places passed))) is ∙ rest

-- how often each row is to be taken out
abbrev pub Wanted : List Asked → Asked → ℕ
Wanted gone q = tally q gone

-- Of some rows the first were looked at, and the others are left.
pub record Sought (m : Contents) (p : Projected) (keep : List Expr) (epoch : ℕ) (places : List (Option ℕ)) (first : Asked → ℕ) (s : Place) (rows : List Stamped) (need : Asked → ℕ) (out : List Asked) : Type 0 where
  pub done : List Stamped
  pub rest : List Stamped
  pub all : rows ≡ done ++ rest
  pub left : AreLeft m p s rest
  pub sifted : Sifted keep first (seen_rows epoch places done) need out

abbrev no_opening : Option Opening
no_opening = None

pub sought_none : (m : Contents) (p : Projected) (keep : List Expr) (epoch : ℕ) (places : List (Option ℕ)) (bounds : List Bound) (stamps : Bool) (s : Place) (rows : List Stamped) (first need : Asked → ℕ) (out : List Asked)
    → ((q : Asked) → need q ≡ first q) → s ≡ start epoch places bounds stamps → out ≡ [] → Stores m p rows → Sought m p keep epoch places first s rows need out
sought_none m p keep epoch places bounds stamps s rows first need out wanted is none stores =
    let begun : AreLeft m p (start epoch places bounds stamps) rows =
    record {
      saved = stores.0;
      stored = stores.1;
      at_hand = tt;
      left = stores.2 ∙ ap (λ (n : ℕ). drop n stores.0 ++ p.unsaved) (sym (passed_none p.entry epoch places bounds stamps 0 no_opening 0));
    } in
    let empty : (q : Asked) → tally q out ≡ 0 = λ q. ap (λ (xs : List Asked). tally q xs) none in
    let zero_of : (q : Asked) → tally q [] ≡ 0 = λ q. refl in
    record {
      done = [];
      rest = rows;
      all = refl;
      left = subst (λ (x : Place). AreLeft m p x rows) (sym is) begun;
      sifted = record {
        counts = λ q. omega (arith, empty q, zero_of q, wanted q);
        kept = subst (λ (xs : List Asked). All (λ r. matches keep r ≡ true) xs) (sym none) (All-nil (λ r. matches keep r ≡ true));
        none = subst (λ (xs : List Asked). All (λ r. need r ≡ 0) xs) (sym none) (All-nil (λ r. need r ≡ 0));
      };
    }

told_came : (s : Place) (epoch : ℕ) (places : List (Option ℕ)) (next : List Stamped) (b : Shown) (shows : Shows s next b) → s.epoch ≡ epoch → s.places ≡ places → s.stamps ≡ true
    → told_rows b.rows b.inserted ≡ seen_rows epoch places shows.came
told_came s epoch places next b shows at are stamps =
    ap₂ told_rows shows.rows (shows.inserted stamps) ∙ told_is s.epoch s.places (filter (is_visible s.epoch) shows.came)
    ∙ ap₂ (λ (e : ℕ) (ps : List (Option ℕ)). seen_rows e ps shows.came) at are

pub sought_more : (m : Contents) (p : Projected) (keep : List Expr) (epoch : ℕ) (places : List (Option ℕ)) (bounds : List Bound) (first : Asked → ℕ) (s new : Place) (rows : List Stamped) (need less : Asked → ℕ) (out next : List Asked) (batch : Shown)
    → Bounded keep bounds → s.epoch ≡ epoch → s.places ≡ places → s.bounds ≡ bounds → s.stamps ≡ true → ((left : List Stamped) → AreLeft m p s left → Gives m p s new left (Some batch))
    → SiftsMore keep (told_rows batch.rows batch.inserted) need out less next → Sought m p keep epoch places first s rows need out → Sought m p keep epoch places first new rows less next
sought_more m p keep epoch places bounds first s new rows need less out next batch bounded at are bounds_are stamps gives more was =
    let given = gives was.rest was.left in
    let some = given.0 in
    let others = given.1 in
    let shows = given.3 in
    let done = was.done in
    let out_of : All (λ a. within bounds (placed places a.row) ≡ false) shows.passed =
    subst (λ (ps : List (Option ℕ)). All (λ a. within bounds (placed ps a.row) ≡ false) shows.passed) are (subst (λ (w : List Bound). All (λ a. within w (placed s.places a.row) ≡ false) shows.passed) bounds_are shows.out) in
    let sifted = more first (seen_rows epoch places done) was.sifted in
    let bag = bag_filter (matches keep) (seen_rows epoch places some) (seen_rows epoch places (shows.came ++ shows.passed))
    (bag_map (seen_row places) (filter (is_visible epoch) some) (filter (is_visible epoch) (shows.came ++ shows.passed)) (bag_filter (is_visible epoch) some (shows.came ++ shows.passed) shows.parts)) in
    let two : filter (matches keep) (seen_rows epoch places (shows.came ++ shows.passed)) ≡ filter (matches keep) (seen_rows epoch places shows.came) =
    ap (filter (matches keep)) (seen_join epoch places shows.came shows.passed) ∙ filter-append (matches keep) (seen_rows epoch places shows.came) (seen_rows epoch places shows.passed)
    ∙ ap (λ (xs : List Asked). filter (matches keep) (seen_rows epoch places shows.came) ++ xs) (none_match keep bounds epoch places shows.passed bounded out_of)
    ∙ append-nil (filter (matches keep) (seen_rows epoch places shows.came)) in
    let now : (q : Asked) → tally q (filter (matches keep) (seen_rows epoch places (done ++ some))) ≡ tally q (filter (matches keep) (seen_rows epoch places done ++ told_rows batch.rows batch.inserted)) =
    λ q.
    let left_side : tally q (filter (matches keep) (seen_rows epoch places (done ++ some))) ≡ tally q (filter (matches keep) (seen_rows epoch places done)) + tally q (filter (matches keep) (seen_rows epoch places some)) =
    ap (λ (xs : List Asked). tally q (filter (matches keep) xs)) (seen_join epoch places done some) ∙ ap (tally q) (filter-append (matches keep) (seen_rows epoch places done) (seen_rows epoch places some))
    ∙ tally_join q (filter (matches keep) (seen_rows epoch places done)) (filter (matches keep) (seen_rows epoch places some)) in
    let right_side : tally q (filter (matches keep) (seen_rows epoch places done ++ told_rows batch.rows batch.inserted)) ≡ tally q (filter (matches keep) (seen_rows epoch places done)) + tally q (filter (matches keep) (told_rows batch.rows batch.inserted)) =
    ap (tally q) (filter-append (matches keep) (seen_rows epoch places done) (told_rows batch.rows batch.inserted))
    ∙ tally_join q (filter (matches keep) (seen_rows epoch places done)) (filter (matches keep) (told_rows batch.rows batch.inserted)) in
    let came : tally q (filter (matches keep) (seen_rows epoch places some)) ≡ tally q (filter (matches keep) (told_rows batch.rows batch.inserted)) =
    bag.counts (λ (a : Asked). is_same a q) ∙ ap (tally q) two ∙ ap (λ (xs : List Asked). tally q (filter (matches keep) xs)) (sym (told_came s epoch places some batch shows at are stamps)) in
    left_side ∙ ap (λ (n : ℕ). tally q (filter (matches keep) (seen_rows epoch places done)) + n) came ∙ sym right_side in
    record {
      done = done ++ some;
      rest = others;
      all = was.all ∙ ap (λ (xs : List Stamped). done ++ xs) given.2 ∙ sym (append_assoc done some others);
      left = given.4;
      sifted = record {
        counts = λ q. ap (λ (n : ℕ). n + less q) (now q) ∙ sifted.counts q;
        kept = sifted.kept;
        none = sifted.none;
      };
    }

-- ---- all of them

-- what stands among rows of which none is wanted isn't wanted
none_needed : (need : Asked → ℕ) (q : Asked) (out : List Asked) → All (λ r. need r ≡ 0) out → 1 ≤ tally q out → need q ≡ 0
none_needed need q [] none some = absurd (omega (arith, some))
none_needed need q (r ∷ out) none some =
    by (is_same r q) refl (none_needed need q out (All-tail (λ x. need x ≡ 0) r out none)) (count_cons (λ (a : Asked). is_same a q) r out)
  where
    by : (b : Bool) → is_same r q ≡ b → (1 ≤ tally q out → need q ≡ 0) → tally q (r ∷ out) ≡ cond b 1 0 + tally q out → need q ≡ 0
    by true is more at = ap need (sym (same_exact r q is)) ∙ All-head (λ x. need x ≡ 0) r out none
    by false is more at = more (omega (arith, some, at))

others_of : (keep : List Expr) (gone rows out : List Asked) (first need : Asked → ℕ) → ((q : Asked) → first q ≡ tally q gone) → Sifted keep first rows need out → AreOthers keep gone rows out
others_of keep gone rows out first need are was = λ rest bag. bag_of_tally out (filter (matches keep) rest) (λ q. by rest bag q (matches keep q) refl)
  where
    spent : (q : Asked) (n : ℕ) → need q ≡ n → need q ≤ tally q out → need q ≡ 0
    spent q zero is le = is
    spent q (suc n) is le = none_needed need q out was.none (omega (arith, is, le))

    by : (rest : List Asked) → SameBag rows (gone ++ rest) → (q : Asked) (b : Bool) → matches keep q ≡ b → tally q out ≡ tally q (filter (matches keep) rest)
    by rest bag q true on =
        let sum : tally q rows ≡ tally q gone + tally q rest = bag.counts (λ (a : Asked). is_same a q) ∙ count_append (λ (a : Asked). is_same a q) gone rest in
        let seen = tally_kept keep q rows on in
        let kept = tally_kept keep q rest on in
        let none : need q ≡ 0 = spent q (need q) refl (omega (arith, was.counts q, sum, seen, are q)) in
        omega (arith, was.counts q, sum, seen, kept, none, are q)
    by rest bag q false off = tally_none keep q out off was.kept ∙ sym (tally_none keep q (filter (matches keep) rest) off (all_kept keep rest))

pub sought_all : (m : Contents) (p : Projected) (keep : List Expr) (epoch : ℕ) (places : List (Option ℕ)) (gone : List Asked) (need : Asked → ℕ) (s : Place) (rows : List Stamped) (out : List Asked)
    → ((left : List Stamped) → AreLeft m p s left → left ≡ []) → Sought m p keep epoch places (Wanted gone) s rows need out → AreOthers keep gone (seen_rows epoch places rows) out
sought_all m p keep epoch places gone need s rows out ends was =
    let whole : was.done ≡ rows = sym (was.all ∙ ap (λ (xs : List Stamped). was.done ++ xs) (ends was.rest was.left) ∙ append-nil was.done) in
    others_of keep gone (seen_rows epoch places rows) out (Wanted gone) need (λ q. refl) (subst (λ (xs : List Stamped). Sifted keep (Wanted gone) (seen_rows epoch places xs) need out) whole was.sifted)
