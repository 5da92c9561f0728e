-- The first of joined lists that lacks a property.
use Rattle.std.proofs.Common.{◌≡◌, ℕ, ◌+◌, ◌<◌, ◌++◌, List, [], ◌∷◌, length, refl, sym, ap, ◌∙◌, subst, arith, append_assoc}
use Rattle.std.specs.Prelude.{Option, Some, None}
use Rattle.std.specs.List.{All, range_with_len}
use Rattle.std.proofs.lemmas.List.{length-append, map-id}
use Rattle.std.proofs.lemmas.List.FromFn.{length-range_with_len, get_or-range_with_len, map-range_with_len_more}
use Rattle.std.proofs.lemmas.List.Elements.{All-nil, All-cons, All-append}
use Rattle.audit_model.specs.First.{IsFirst}
use Rattle.audit_rows.specs.Found.{FindsAt}

pub first_left : {X : Type 0} (P : X → Type 0) (xs ys : List X) (x : X) → IsFirst P xs x → IsFirst P (xs ++ ys) x
first_left P xs ys x first = record {
  before = first.before;
  after = first.after ++ ys;
  is = ap (λ (zs : List _). zs ++ ys) first.is ∙ append_assoc first.before (x ∷ first.after) ys;
  good = first.good;
  bad = first.bad;
}

pub first_right : {X : Type 0} (P : X → Type 0) (xs ys : List X) (x : X) → All P xs → IsFirst P ys x → IsFirst P (xs ++ ys) x
first_right P xs ys x all first = record {
  before = xs ++ first.before;
  after = first.after;
  is = ap (λ (zs : List _). xs ++ zs) first.is ∙ sym (append_assoc xs first.before (x ∷ first.after));
  good = All-append P xs first.before all first.good;
  bad = first.bad;
}

pub finds_here : {X : Type 0} (P : X → Type 0) (x : X) (xs : List X) (n : ℕ) → (P x → ⊥) → FindsAt P (x ∷ xs) n (Some n)
finds_here P x xs n lacks = record { item = x; is = record { before = []; after = xs; is = refl; good = All-nil P; bad = lacks }; pos_is = omega arith }

pub finds_left : {X : Type 0} (P : X → Type 0) (xs ys : List X) (n pos : ℕ) → FindsAt P xs n (Some pos) → FindsAt P (xs ++ ys) n (Some pos)
unfolding first_left
finds_left P xs ys n pos found = record { item = found.item; is = first_left P xs ys found.item found.is; pos_is = found.pos_is }

pub finds_right : {X : Type 0} (P : X → Type 0) (xs ys : List X) (n : ℕ) (r : Option ℕ) → All P xs → FindsAt P ys (n + length xs) r → FindsAt P (xs ++ ys) n r
unfolding first_right
finds_right P xs ys n None all found = All-append P xs ys all found
finds_right P xs ys n (Some pos) all found =
    record { item = found.item; is = first_right P xs ys found.item all found.is; pos_is = omega (arith, found.pos_is, length-append xs found.is.before) }

pub finds_next : {X : Type 0} (P : X → Type 0) (x : X) (xs : List X) (n : ℕ) (r : Option ℕ) → P x → FindsAt P xs (n + 1) r → FindsAt P (x ∷ xs) n r
finds_next P x xs n r good found = finds_right P (x ∷ []) xs n r (All-cons P x [] good (All-nil P)) found

-- ---- numbers of columns

pub range_more : (n : ℕ) (old next : List ℕ) → next ≡ old ++ n ∷ [] → old ≡ range_with_len 0 n → next ≡ range_with_len 0 (n + 1)
range_more n old next is was =
    let same : 0 + n ≡ n = omega arith in
    is ∙ ap (λ (xs : List ℕ). xs ++ n ∷ []) was ∙ ap (λ (xs : List ℕ). xs ++ n ∷ []) (sym (map-id (range_with_len 0 n)))
    ∙ sym (map-range_with_len_more (λ (x : ℕ). x) 0 n n same) ∙ map-id (range_with_len 0 (n + 1))

pub all_below : (n : ℕ) (columns : List ℕ) → columns ≡ range_with_len 0 n → All (λ c. c < n) columns
all_below n columns is =
    subst (All (λ c. c < n)) (sym is) (λ k d lt. let below : k < n = omega (arith, lt, length-range_with_len 0 n) in omega (arith, below, get_or-range_with_len 0 n k d below))
