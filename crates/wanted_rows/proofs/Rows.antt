-- One row more of those that are looked at.
use Rattle.std.proofs.Common.{◌≡◌, ◌+◌, ◌<◌, ◌≤◌, ◌∷◌, ◌++◌, [], ℕ, Bool, true, false, cond, List, length, get_or, refl, sym, ap, ◌∙◌, subst, arith, true≢false}
use Rattle.std.specs.Prelude.{Option, Some, None, IfSome}
use Rattle.std.specs.List.{All}
use Rattle.std.proofs.lemmas.List.{get_or_default, get_or-map, length-map}
use Rattle.std.proofs.lemmas.List.Elements.{All-append, All-cons, All-nil}
use Rattle.col_value.specs.declared.row.Asked.{Asked}
use Rattle.write_store.specs.declared.held.Held.{Held}
use Rattle.write_store.specs.declared.held.Inserted.{Inserted}
use Rattle.wanted_rows.specs.Wanted.{asked_in, Tries}
use Rattle.wanted_rows.specs.Picked.{blank, asked_of, del_at, TriesPlace, TriesSome, PicksBefore, Picks, StandFrom}
use Rattle.wanted_rows.proofs.Steps.{picks_none, picks_skip, picks_step, picks_all}

-- a row that isn't deleted is tried
pub tries_undeleted : (taken : Bool) (del : Option ℕ) (a : Asked) (old new : Asked → ℕ) → del ≡ None → Tries taken a old new → TriesPlace taken del a old new
tries_undeleted true del a old new live tries = record { live = live; took = tries.took; same = tt; none = tt }
tries_undeleted false del a old new live tries = record { live = tt; took = tt; same = tries.same; none = λ _. tries.same a ∙ tries.none }

-- the row at a place is tried
pub pick_held : (held : List Held) (i : ℕ) (row : Held) (places next : List ℕ) (start new newer : Asked → ℕ) (taken : Bool) → PicksBefore i (del_at held) (asked_of held) places start new
    → i < length held → row ≡ get_or held i row → TriesPlace taken row.del (asked_in row.inserted) new newer → next ≡ cond taken (places ++ i ∷ []) places → PicksBefore (i + 1) (del_at held) (asked_of held) next start newer
pick_held held i row places next start new newer taken was lt is tries next_is =
    let del_is : del_at held i ≡ row.del = get_or-map (λ h. h.del) held i row None lt ∙ ap (λ (h : Held). h.del) (sym is) in
    let row_is : asked_in row.inserted ≡ get_or (asked_of held) i blank = sym (get_or-map (λ h. asked_in h.inserted) held i row blank lt ∙ ap (λ (h : Held). asked_in h.inserted) (sym is)) in
    picks_step i (del_at held) (asked_of held) (asked_in row.inserted) places next start new newer taken was (omega (arith, lt, length-map held (λ h. asked_in h.inserted))) row_is
    (subst (λ (d : Option ℕ). TriesPlace taken d (asked_in row.inserted) new newer) (sym del_is) tries) next_is

pub pick_all_held : (held : List Held) (i : ℕ) (places : List ℕ) (start new : Asked → ℕ) → PicksBefore i (del_at held) (asked_of held) places start new → length held ≤ i → Picks (del_at held) (asked_of held) places start new
pick_all_held held i places start new was past = picks_all i (del_at held) (asked_of held) places start new was (omega (arith, past, length-map held (λ h. asked_in h.inserted)))

pub pick_none_yet : (held : List Held) (none : List ℕ) (start : Asked → ℕ) → none ≡ [] → PicksBefore 0 (del_at held) (asked_of held) none start start
pick_none_yet held none start is = subst (λ (ps : List ℕ). PicksBefore 0 (del_at held) (asked_of held) ps start start) (sym is) (picks_none (del_at held) (asked_of held) start)

-- the candidate for a place is tried
pub pick_some : (first : ℕ) (mark : ℕ → Option ℕ) (all : List Asked) (some : List (Option Inserted)) (i : ℕ) (row : Option Inserted) (places next : List ℕ) (start need new newer : Asked → ℕ) (taken : Bool)
    → StandFrom first mark all need some → PicksBefore (first + i) mark all places start new → ((q : Asked) → new q ≤ need q) → i < length some → row ≡ get_or some i row → TriesSome taken row new newer
    → next ≡ cond taken (places ++ (first + i) ∷ []) places → PicksBefore (first + (i + 1)) mark all next start newer
pick_some first mark all some i row places next start need new newer taken stand was fewer lt is tries next_is =
    let far : (first + i) + 1 ≡ first + (i + 1) = omega arith in
    let inside : first + i < length all = omega (arith, lt, stand.within) in
    let here : get_or some i None ≡ row = get_or_default some i None row lt ∙ sym is in
    subst (λ (n : ℕ). PicksBefore n mark all next start newer) far
    (by row taken tries next_is inside (subst (λ (o : Option Inserted). IfSome o (λ r. (asked_in r ≡ get_or all (first + i) blank) × (mark (first + i) ≡ None))) here (stand.there i lt))
    (λ none live. omega (arith, fewer (get_or all (first + i) blank), stand.rest i lt (here ∙ none) live)))
  where
    by : (row : Option Inserted) (taken : Bool) → TriesSome taken row new newer → next ≡ cond taken (places ++ (first + i) ∷ []) places → first + i < length all
        → IfSome row (λ r. (asked_in r ≡ get_or all (first + i) blank) × (mark (first + i) ≡ None)) → (row ≡ None → mark (first + i) ≡ None → new (get_or all (first + i) blank) ≡ 0)
        → PicksBefore ((first + i) + 1) mark all next start newer
    by (Some r) taken tries next_is inside (row_is, live) rest =
        picks_step (first + i) mark all (asked_in r) places next start new newer taken was inside row_is (tries_undeleted taken (mark (first + i)) (asked_in r) new newer live tries) next_is
    by None true tries next_is inside there rest = absurd (true≢false tries.0)
    by None false tries next_is inside there rest =
        subst (λ (ps : List ℕ). PicksBefore ((first + i) + 1) mark all ps start newer) (sym next_is)
        (picks_skip (first + i) mark all places start new newer was tries.1 (λ live. tries.1 (get_or all (first + i) blank) ∙ rest refl live))

-- none of them yet
pub pick_start : (first : ℕ) (mark : ℕ → Option ℕ) (all : List Asked) (places : List ℕ) (start new : Asked → ℕ) → PicksBefore first mark all places start new → PicksBefore (first + 0) mark all places start new
pick_start first mark all places start new was = let same : first ≡ first + 0 = omega arith in subst (λ (n : ℕ). PicksBefore n mark all places start new) same was

-- all of them
pub pick_end : (first i : ℕ) (some : List (Option Inserted)) (mark : ℕ → Option ℕ) (all : List Asked) (places : List ℕ) (start new : Asked → ℕ) → i ≤ length some → length some ≤ i → PicksBefore (first + i) mark all places start new
    → PicksBefore (first + length some) mark all places start new
pick_end first i some mark all places start new le past was = let same : i ≡ length some = omega (arith, le, past) in subst (λ (n : ℕ). PicksBefore (first + n) mark all places start new) same was

inside_by : (taken : Bool) (first i n : ℕ) (places next : List ℕ) → next ≡ cond taken (places ++ (first + i) ∷ []) places → first + (i + 1) ≤ n → All (λ p. p < n) places → All (λ p. p < n) next
inside_by true first i n places next is le all =
    subst (All (λ p. p < n)) (sym is) (All-append (λ p. p < n) places ((first + i) ∷ []) all (All-cons (λ p. p < n) (first + i) [] (omega (arith, le)) (All-nil (λ p. p < n))))
inside_by false first i n places next is le all = subst (All (λ p. p < n)) (sym is) all

pub inside_more : (taken : Bool) (first i : ℕ) (old places next : List ℕ) → next ≡ cond taken (places ++ (first + i) ∷ []) places → ((n : ℕ) → first + i ≤ n → All (λ p. p < n) old → All (λ p. p < n) places)
    → (n : ℕ) → first + (i + 1) ≤ n → All (λ p. p < n) old → All (λ p. p < n) next
inside_more taken first i old places next is was n le all = inside_by taken first i n places next is le (was n (omega (arith, le)) all)

pub fewer_more : (taken : Bool) (row : Option Inserted) (need old new : Asked → ℕ) → TriesSome taken row old new → ((q : Asked) → old q ≤ need q) → (q : Asked) → new q ≤ need q
fewer_more taken None need old new tries was q = omega (arith, was q, tries.1 q)
fewer_more true (Some r) need old new tries was q = omega (arith, was q, tries.took q)
fewer_more false (Some r) need old new tries was q = omega (arith, was q, tries.same q)
