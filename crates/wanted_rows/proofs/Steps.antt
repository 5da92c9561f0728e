-- One place more of those that are looked at.
use Rattle.std.proofs.Common.{◌≡◌, ◌+◌, ◌<◌, ◌≤◌, ◌∷◌, ◌++◌, [], ℕ, Bool, true, false, cond, List, length, get_or, nat_lt, refl, sym, ap, ◌∙◌, subst, arith}
use Rattle.std.specs.Prelude.{Option, None, ◌==◌, ◌||◌}
use Rattle.std.specs.List.{All}
use Rattle.std.proofs.lemmas.Bool.Decides.{nat_tests}
use Rattle.std.proofs.lemmas.List.{map-append}
use Rattle.std.proofs.lemmas.List.Folds.{list_any-append}
use Rattle.std.proofs.lemmas.List.Elements.{All-append, All-head, All-tail, All-cons}
use Rattle.common_laws.proofs.BagLaws.{count_cons, count_append}
use Rattle.col_value.specs.declared.row.Asked.{Asked}
use Rattle.wanted_rows.specs.Wanted.{is_same, tally, Adds}
use Rattle.write_store.specs.Memory.{is_in}
use Rattle.wanted_rows.specs.Picked.{blank, at_places, Rise, IsUndeleted, TriesPlace, PicksBefore, Picks}

pub all_none : {X : Type 0} (P : X → Type 0) → All P []
all_none P i d lt = absurd (omega (arith, lt))

all_one : {X : Type 0} (P : X → Type 0) (x : X) → P x → All P (x ∷ [])
all_one P x h = All-cons P x [] h (all_none P)

all_to : {X : Type 0} (P Q : X → Type 0) (xs : List X) → ((x : X) → P x → Q x) → All P xs → All Q xs
all_to P Q xs f all i d lt = f (get_or xs i d) (all i d lt)

rise_more : (ps : List ℕ) (i : ℕ) → Rise ps → All (λ p. p < i) ps → Rise (ps ++ i ∷ [])
rise_more [] i rise before = (all_none (λ q. i < q), tt)
rise_more (p ∷ ps) i rise before = (
  All-append (λ q. p < q) ps (i ∷ []) rise.0 (all_one (λ q. p < q) i (All-head (λ q. q < i) p ps before)),
  rise_more ps i rise.1 (All-tail (λ q. q < i) p ps before),
)

in_more : (i j : ℕ) (ps : List ℕ) → is_in j (ps ++ i ∷ []) ≡ (is_in j ps || ((i == j) || false))
in_more i j ps = list_any-append (λ p. p == j) ps (i ∷ [])

neither : (a b : Bool) → (a || (b || false)) ≡ false → (a ≡ false) × (b ≡ false)
neither true b is = absurd (cc)
neither false true is = absurd (cc)
neither false false is = (refl, refl)

pub picks_none : (mark : ℕ → Option ℕ) (rows : List Asked) (f : Asked → ℕ) → PicksBefore 0 mark rows [] f f
picks_none mark rows f = record {
  rise = tt;
  before = all_none (λ p. p < 0);
  live = all_none (IsUndeleted mark rows);
  taken = λ q. omega arith;
  none = λ j lt. absurd (omega (arith, lt));
}

pub picks_skip : (i : ℕ) (mark : ℕ → Option ℕ) (rows : List Asked) (places : List ℕ) (old new newer : Asked → ℕ) → PicksBefore i mark rows places old new
    → ((q : Asked) → newer q ≡ new q) → (mark i ≡ None → newer (get_or rows i blank) ≡ 0) → PicksBefore (i + 1) mark rows places old newer
picks_skip i mark rows places old new newer was same here = record {
  rise = was.rise;
  before = all_to (λ p. p < i) (λ p. p < i + 1) places (λ p lt. omega (arith, lt)) was.before;
  live = was.live;
  taken = λ q. omega (arith, was.taken q, same q);
  none = λ j lt in_rows live out. by j lt in_rows live out (j == i) refl;
}
  where
    by : (j : ℕ) → j < i + 1 → j < length rows → mark j ≡ None → is_in j places ≡ false → (b : Bool) → (j == i) ≡ b → newer (get_or rows j blank) ≡ 0
    by j lt in_rows live out true e =
        let is : i ≡ j = grind (arith, nat_tests) in
        subst (λ (k : ℕ). newer (get_or rows k blank) ≡ 0) is (here (ap mark is ∙ live))
    by j lt in_rows live out false e =
        let less : j < i = grind (arith, nat_tests) in
        same (get_or rows j blank) ∙ was.none j less in_rows live out

pub picks_take : (i : ℕ) (mark : ℕ → Option ℕ) (rows : List Asked) (places : List ℕ) (old new newer : Asked → ℕ) → PicksBefore i mark rows places old new
    → i < length rows → mark i ≡ None → Adds (get_or rows i blank) newer new → PicksBefore (i + 1) mark rows (places ++ i ∷ []) old newer
picks_take i mark rows places old new newer was here live adds = record {
  rise = rise_more places i was.rise was.before;
  before = All-append (λ p. p < i + 1) places (i ∷ []) (all_to (λ p. p < i) (λ p. p < i + 1) places (λ p lt. omega (arith, lt)) was.before) (all_one (λ p. p < i + 1) i (omega arith));
  live = All-append (IsUndeleted mark rows) places (i ∷ []) was.live (all_one (IsUndeleted mark rows) i (record { here = here; live = live }));
  taken = λ q.
      let joined : at_places rows (places ++ i ∷ []) ≡ at_places rows places ++ get_or rows i blank ∷ [] = map-append (λ p. get_or rows p blank) places (i ∷ []) in
      let counted : tally q (at_places rows (places ++ i ∷ [])) ≡ tally q (at_places rows places ++ get_or rows i blank ∷ []) = ap (tally q) joined in
      omega (arith, was.taken q, adds q, counted, count_append (λ a. is_same a q) (at_places rows places) (get_or rows i blank ∷ []), count_cons (λ a. is_same a q) (get_or rows i blank) []);
  none = λ j lt in_rows live_j out. by j lt in_rows live_j (neither (is_in j places) (i == j) (sym (in_more i j places) ∙ out));
}
  where
    by : (j : ℕ) → j < i + 1 → j < length rows → mark j ≡ None → (is_in j places ≡ false) × ((i == j) ≡ false) → newer (get_or rows j blank) ≡ 0
    by j lt in_rows live_j (out, other) =
        let less : j < i = grind (arith, nat_tests) in
        omega (arith, was.none j less in_rows live_j out, adds (get_or rows j blank))

-- rows that aren't wanted are passed over
pub picks_past : (i j : ℕ) (mark : ℕ → Option ℕ) (rows : List Asked) (places : List ℕ) (old new : Asked → ℕ) → PicksBefore i mark rows places old new → i ≤ j
    → ((p : ℕ) → i ≤ p → p < j → p < length rows → new (get_or rows p blank) ≡ 0) → PicksBefore j mark rows places old new
picks_past i j mark rows places old new was le nought = record {
  rise = was.rise;
  before = all_to (λ p. p < i) (λ p. p < j) places (λ p lt. omega (arith, lt, le)) was.before;
  live = was.live;
  taken = was.taken;
  none = λ p lt in_rows live out. by p lt in_rows live out (nat_lt p i) refl;
}
  where
    by : (p : ℕ) → p < j → p < length rows → mark p ≡ None → is_in p places ≡ false → (b : Bool) → nat_lt p i ≡ b → new (get_or rows p blank) ≡ 0
    by p lt in_rows live out true e = let less : p < i = grind (arith, nat_tests) in was.none p less in_rows live out
    by p lt in_rows live out false e = let from : i ≤ p = grind (arith, nat_tests) in nought p from lt in_rows

pub picks_all : (i : ℕ) (mark : ℕ → Option ℕ) (rows : List Asked) (places : List ℕ) (old new : Asked → ℕ) → PicksBefore i mark rows places old new
    → length rows ≤ i → Picks mark rows places old new
picks_all i mark rows places old new was past = record {
  rise = was.rise;
  before = all_to (IsUndeleted mark rows) (λ p. p < length rows) places (λ p l. l.here) was.live;
  live = was.live;
  taken = was.taken;
  none = λ j lt in_rows live out. was.none j (omega (arith, lt, past)) in_rows live out;
}

pub picks_step : (i : ℕ) (mark : ℕ → Option ℕ) (rows : List Asked) (row : Asked) (places next : List ℕ) (old new newer : Asked → ℕ) (taken : Bool) → PicksBefore i mark rows places old new
    → i < length rows → row ≡ get_or rows i blank → TriesPlace taken (mark i) row new newer → next ≡ cond taken (places ++ i ∷ []) places → PicksBefore (i + 1) mark rows next old newer
picks_step i mark rows row places next old new newer true was here is tries places_are =
    subst (λ (ps : List ℕ). PicksBefore (i + 1) mark rows ps old newer) (sym places_are)
    (picks_take i mark rows places old new newer was here tries.live (subst (λ (r : Asked). Adds r newer new) is tries.took))
picks_step i mark rows row places next old new newer false was here is tries places_are =
    subst (λ (ps : List ℕ). PicksBefore (i + 1) mark rows ps old newer) (sym places_are)
    (picks_skip i mark rows places old new newer was tries.same (subst (λ (r : Asked). mark i ≡ None → newer r ≡ 0) is tries.none))
