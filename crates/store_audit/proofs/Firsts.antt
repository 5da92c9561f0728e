-- What is found of pairs one after the other.
use Rattle.std.proofs.Common.{◌≡◌, ◌≤◌, ◌<◌, ◌+◌, ◌++◌, ℕ, List, [], ◌∷◌, Bool, true, false, cond, length, get_or, drop, map, refl, sym, ap, ◌∙◌, subst}
use Rattle.std.specs.Prelude.{Option, Some, None, filter, Result, Ok, Err, IfOk}
use Rattle.std.specs.List.{All, flat_map}
use Rattle.std.proofs.lemmas.List.{append_assoc, at_drop_more, at_drop_all}
use Rattle.std.proofs.lemmas.List.Elements.{All-nil, All-cons, All-contains, All-head, All-append}
use Rattle.common_laws.specs.Maps.{Contents}
use Rattle.catalog_types.specs.declared.catalogue.Projection.{Projection}
use Rattle.catalog_types.specs.declared.catalogue.Table.{Table}
use Rattle.audit_model.specs.Pairs.{Pair, is_other, pair, pairs_with, super_of, IsSamePairIn}
use Rattle.audit_model.specs.declared.verdict.Verdict.{Verdict}
use Rattle.audit_model.proofs.Lists.{all_left, all_right}
use Rattle.store_audit.specs.Passes.{HasBothOf, JudgesAll, JudgesPair, pairs_beside, pairs_of, super_pairs}

-- what is found of the one list is what is found of the other
abbrev pub FoundAhead : Option Contents → ℕ → ℕ → List Pair → List Pair → Type 0
FoundAhead holds epoch mark xs ys = (o : Option Verdict) → JudgesAll holds epoch mark xs o → JudgesAll holds epoch mark ys o

-- ---- one pair

pub one_judged : (holds : Option Contents) (epoch mark : ℕ) (x : Pair) (o : Option Verdict) → JudgesPair holds epoch mark x o → JudgesAll holds epoch mark (x ∷ []) o
one_judged holds epoch mark x None judged = λ m told all.
    All-cons (IsSamePairIn m epoch mark) x [] (judged m told (All-head (HasBothOf m epoch mark) x [] all)) (All-nil (IsSamePairIn m epoch mark))
one_judged holds epoch mark x (Some verdict) judged = λ m told all.
    let found = judged m told (All-head (HasBothOf m epoch mark) x [] all) in
    record {
      at = x;
      first = record { before = []; after = []; is = refl; good = All-nil (IsSamePairIn m epoch mark); bad = found.differ };
      apart = found;
    }

pub none_judged : (holds : Option Contents) (epoch mark : ℕ) → JudgesAll holds epoch mark [] None
none_judged holds epoch mark = λ m told all. All-nil (IsSamePairIn m epoch mark)

-- with or without the pair
pub beside_judged : (holds : Option Contents) (epoch mark : ℕ) (t : Table) (p q : Projection) (o : Option Verdict) → is_other p q ≡ true → JudgesPair holds epoch mark (pair t p q) o → JudgesAll holds epoch mark (pairs_beside t p q) o
beside_judged holds epoch mark t p q o is judged =
    subst (λ (b : Bool). JudgesAll holds epoch mark (cond b (pair t p q ∷ []) []) o) (sym is) (one_judged holds epoch mark (pair t p q) o judged)

pub beside_none : (holds : Option Contents) (epoch mark : ℕ) (t : Table) (p q : Projection) → is_other p q ≡ false → JudgesAll holds epoch mark (pairs_beside t p q) None
beside_none holds epoch mark t p q is =
    subst (λ (b : Bool). JudgesAll holds epoch mark (cond b (pair t p q ∷ []) []) None) (sym is) (none_judged holds epoch mark)

-- ---- two lists

front_passed : (holds : Option Contents) (epoch mark : ℕ) (us vs : List Pair) → JudgesAll holds epoch mark us None → FoundAhead holds epoch mark vs (us ++ vs)
front_passed holds epoch mark us vs passed None = λ judged m told all.
    All-append (IsSamePairIn m epoch mark) us vs (passed m told (all_left (HasBothOf m epoch mark) us vs all)) (judged m told (all_right (HasBothOf m epoch mark) us vs all))
front_passed holds epoch mark us vs passed (Some verdict) = λ judged m told all.
    let found = judged m told (all_right (HasBothOf m epoch mark) us vs all) in
    record {
      at = found.at;
      first = record {
        before = us ++ found.first.before;
        after = found.first.after;
        is = ap (λ (xs : List Pair). us ++ xs) found.first.is ∙ sym (append_assoc us found.first.before (found.at ∷ found.first.after));
        good = All-append (IsSamePairIn m epoch mark) us found.first.before (passed m told (all_left (HasBothOf m epoch mark) us vs all)) found.first.good;
        bad = found.first.bad;
      };
      apart = found.apart;
    }

front_told : (holds : Option Contents) (epoch mark : ℕ) (us vs : List Pair) (verdict : Verdict) → JudgesAll holds epoch mark us (Some verdict) → JudgesAll holds epoch mark (us ++ vs) (Some verdict)
front_told holds epoch mark us vs verdict judged = λ m told all.
    let found = judged m told (all_left (HasBothOf m epoch mark) us vs all) in
    record {
      at = found.at;
      first = record {
        before = found.first.before;
        after = found.first.after ++ vs;
        is = ap (λ (xs : List Pair). xs ++ vs) found.first.is ∙ append_assoc found.first.before (found.at ∷ found.first.after) vs;
        good = found.first.good;
        bad = found.first.bad;
      };
      apart = found.apart;
    }

-- ---- a loop

-- each element has some pairs
pub record IsInTurn {X : Type 0} (each : X → List Pair) (whole : List X → List Pair) : Type 0 where
  pub none : whole [] ≡ []
  pub more : (x : X) (xs : List X) → whole (x ∷ xs) ≡ each x ++ whole xs

pub tables_in_turn : IsInTurn super_pairs (flat_map super_pairs)
tables_in_turn = record { none = refl; more = λ t ts. refl }

pub others_in_turn : (t : Table) (p : Projection) → IsInTurn (pairs_beside t p) (pairs_of t p)
others_in_turn t p = record { none = refl; more = λ q qs. by (is_other p q) q qs }
  where
    by : (b : Bool) (q : Projection) (qs : List Projection) → map (pair t p) (cond b (q ∷ filter (is_other p) qs) (filter (is_other p) qs)) ≡ cond b (pair t p q ∷ []) [] ++ map (pair t p) (filter (is_other p) qs)
    by true q qs = refl
    by false q qs = refl

at_turn : {X : Type 0} (each : X → List Pair) (whole : List X → List Pair) → IsInTurn each whole → (xs : List X) (i : ℕ) (x : X) → i < length xs → x ≡ get_or xs i x → whole (drop i xs) ≡ each x ++ whole (drop (i + 1) xs)
at_turn each whole turn xs i x lt is =
    at_drop_more whole xs i x lt ∙ ap (λ (y : _). whole (y ∷ drop (i + 1) xs)) (sym is) ∙ turn.more x (drop (i + 1) xs)

pub passed_more : {X : Type 0} (each : X → List Pair) (whole : List X → List Pair) → IsInTurn each whole → (holds now : Option Contents) (epoch mark : ℕ) (xs : List X) (i : ℕ) (x : X) (o : Option Verdict) → i < length xs → x ≡ get_or xs i x
    → now ≡ holds → o ≡ None → FoundAhead holds epoch mark (whole (drop i xs)) (whole xs) → JudgesAll now epoch mark (each x) o → FoundAhead holds epoch mark (whole (drop (i + 1) xs)) (whole xs)
passed_more each whole turn holds now epoch mark xs i x o lt is same none ahead passed p judged =
    let here : JudgesAll holds epoch mark (each x) None = subst (JudgesAll holds epoch mark (each x)) none (subst (λ (h : Option Contents). JudgesAll h epoch mark (each x) o) same passed) in
    ahead p (subst (λ (ys : List Pair). JudgesAll holds epoch mark ys p) (sym (at_turn each whole turn xs i x lt is)) (front_passed holds epoch mark (each x) (whole (drop (i + 1) xs)) here p judged))

pub told_here : {X : Type 0} (each : X → List Pair) (whole : List X → List Pair) → IsInTurn each whole → (holds now : Option Contents) (epoch mark : ℕ) (xs : List X) (i : ℕ) (x : X) (o : Option Verdict) (verdict : Verdict) → i < length xs → x ≡ get_or xs i x
    → now ≡ holds → o ≡ Some verdict → FoundAhead holds epoch mark (whole (drop i xs)) (whole xs) → JudgesAll now epoch mark (each x) o → JudgesAll holds epoch mark (whole xs) (Some verdict)
told_here each whole turn holds now epoch mark xs i x o verdict lt is same some ahead judged =
    let here : JudgesAll holds epoch mark (each x) (Some verdict) = subst (JudgesAll holds epoch mark (each x)) some (subst (λ (h : Option Contents). JudgesAll h epoch mark (each x) o) same judged) in
    ahead (Some verdict) (subst (λ (ys : List Pair). JudgesAll holds epoch mark ys (Some verdict)) (sym (at_turn each whole turn xs i x lt is)) (front_told holds epoch mark (each x) (whole (drop (i + 1) xs)) verdict here))

pub all_passed : {X : Type 0} (each : X → List Pair) (whole : List X → List Pair) → IsInTurn each whole → (holds : Option Contents) (epoch mark : ℕ) (xs : List X) (i : ℕ) → length xs ≤ i
    → FoundAhead holds epoch mark (whole (drop i xs)) (whole xs) → JudgesAll holds epoch mark (whole xs) None
all_passed each whole turn holds epoch mark xs i past ahead =
    ahead None (subst (λ (ys : List Pair). JudgesAll holds epoch mark ys None) (sym (at_drop_all whole xs i past ∙ turn.none)) (none_judged holds epoch mark))

-- ---- a table

pub judged_super : (holds : Option Contents) (epoch mark : ℕ) (t : Table) (s : Projection) (ps : List Projection) (o : Option Verdict) → super_of t ≡ Some s → ps ≡ t.projections → JudgesAll holds epoch mark (pairs_of t s ps) o → JudgesAll holds epoch mark (super_pairs t) o
judged_super holds epoch mark t s ps o found same judged =
    subst (λ (xs : List Pair). JudgesAll holds epoch mark xs o) (ap (pairs_of t s) same ∙ sym (ap (pairs_with t) found)) judged

-- ---- in general

pub weaker_ok : {T E : Type 0} (P Q : T → Type 0) (r : Result T E) → ((t : T) → P t → Q t) → IfOk r P → IfOk r Q
weaker_ok P Q (Ok t) f p = f t p
weaker_ok P Q (Err e) f p = tt

pub at_place : {X : Type 0} (P : X → Type 0) (xs : List X) (i : ℕ) (x : X) → i < length xs → x ≡ get_or xs i x → All P xs → P x
at_place P xs i x lt is all = All-contains P xs x all (i, lt, sym is)
