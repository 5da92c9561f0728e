-- Containers that are parted, one after the other.
use Rattle.std.proofs.Common.{◌≡◌, ℕ, zero, suc, ◌+◌, ◌<◌, ◌++◌, List, [], ◌∷◌, inl, inr, length, take, drop, get_or, refl, sym, ap, ◌∙◌, arith, subst, append_assoc}
use Rattle.std.specs.Prelude.{Option, Some, None, IfSome, ◌-◌}
use Rattle.std.specs.List.{All, slice_get}
use Rattle.std.proofs.lemmas.List.{append-nil, length-drop, take_all, take_more}
use Rattle.std.proofs.lemmas.List.Elements.{All-append, All-cons, All-head, All-nil, All-tail}
use Rattle.std.proofs.lemmas.Option.{same_Some}
use Rattle.common_laws.specs.Maps.{Contents}
use Rattle.catalog_types.specs.declared.catalogue.Container.{Container}
use Rattle.stored_rows.specs.Listed.{SameFiles}
use Rattle.catch_files.specs.Parting.{AreParted, OnBoth, Parts, Turns}

pub parts_join : (xs ys s t a b : List Container) → Parts xs s a → Parts ys t b → Parts (xs ++ ys) (s ++ t) (a ++ b)
parts_join [] ys s t a b (none, empty) second =
    subst (λ (z : List Container). Parts ys (z ++ t) (a ++ b)) (sym none) (subst (λ (z : List Container). Parts ys t (z ++ b)) (sym empty) second)
parts_join (k ∷ xs) ys s t a b (inl (more, is, rest)) second = inl (more ++ t, ap (λ (z : List Container). z ++ t) is, parts_join xs ys more t a b rest second)
parts_join (k ∷ xs) ys s t a b (inr (more, is, rest)) second = inr (more ++ b, ap (λ (z : List Container). z ++ b) is, parts_join xs ys s t more b rest second)

pub parts_rest : (xs : List Container) → Parts xs [] xs
parts_rest [] = (refl, refl)
parts_rest (k ∷ xs) = inr (xs, refl, parts_rest xs)

pub parts_one : (k : Container) → Parts (k ∷ []) (k ∷ []) []
parts_one k = inl ([], refl, (refl, refl))

pub parts_all : (P : Container → Type 0) (xs s a : List Container) → Parts xs s a → All P xs → All P a
parts_all P [] s a (none, empty) all = subst (All P) (sym empty) (All-nil P)
parts_all P (k ∷ xs) s a (inl (more, is, rest)) all = parts_all P xs more a rest (All-tail P k xs all)
parts_all P (k ∷ xs) s a (inr (more, is, rest)) all = subst (All P) (sym is) (All-cons P k more (All-head P k xs all) (parts_all P xs s more rest (All-tail P k xs all)))

-- those gone over so far
pub record IsSplit (at from : Option Contents) (ks js rest behind ahead : List Container) : Type 0 where
  pub done : List Container
  pub shared : List Container
  pub is : js ≡ done ++ rest
  pub first : Parts ks shared behind
  pub second : Parts done shared ahead
  pub same : OnBoth at from (λ m n. All (SameFiles m n) shared)

pub none_split : (at from : Option Contents) (ks js behind ahead : List Container) → behind ≡ [] → ahead ≡ [] → IsSplit at from (take 0 ks) js js behind ahead
none_split at from ks js behind ahead none empty = record { done = []; shared = []; is = refl; first = (refl, none); second = (refl, empty); same = λ m n here there. All-nil (SameFiles m n) }

pub more_split : (at from now then : Option Contents) (ks js rest left behind ahead next further : List Container) (i : ℕ) (k : Container) → now ≡ at → then ≡ from → i < length ks → k ≡ get_or ks i k → IsSplit at from (take i ks) js rest behind ahead
    → Turns now then k rest left behind ahead next further → IsSplit at from (take (i + 1) ks) js left next further
more_split at from now then ks js rest left behind ahead next further i k same also lt k_is split turn =
    let longer : take (i + 1) ks ≡ take i ks ++ k ∷ [] = take_more ks i k lt ∙ ap (λ (x : Container). take i ks ++ x ∷ []) (sym k_is) in
    record {
      done = split.done ++ turn.gone;
      shared = split.shared ++ turn.shared;
      is = split.is ∙ ap (λ (z : List Container). split.done ++ z) turn.is ∙ sym (append_assoc split.done turn.gone left);
      first = subst (λ (z : List Container). Parts z (split.shared ++ turn.shared) next) (sym longer)
          (subst (Parts (take i ks ++ k ∷ []) (split.shared ++ turn.shared)) (sym turn.behind_is) (parts_join (take i ks) (k ∷ []) split.shared turn.shared behind turn.own split.first turn.first));
      second = subst (Parts (split.done ++ turn.gone) (split.shared ++ turn.shared)) (sym turn.ahead_is) (parts_join split.done turn.gone split.shared turn.shared ahead turn.other split.second turn.second);
      same = λ m n here there. All-append (SameFiles m n) split.shared turn.shared (split.same m n here there) (turn.same m n (same ∙ here) (also ∙ there));
    }

pub all_split : (at from : Option Contents) (ks js rest behind ahead further : List Container) (i : ℕ) → take i ks ≡ ks → further ≡ ahead ++ rest → IsSplit at from (take i ks) js rest behind ahead → AreParted at from ks js behind further
all_split at from ks js rest behind ahead further i all is split = record {
  shared = split.shared;
  first = subst (λ (z : List Container). Parts z split.shared behind) all split.first;
  second = subst (λ (z : List Container). Parts z split.shared further) (sym split.is)
      (subst (λ (z : List Container). Parts (split.done ++ rest) z further) (append-nil split.shared) (subst (Parts (split.done ++ rest) (split.shared ++ [])) (sym is) (parts_join split.done rest split.shared [] ahead rest split.second (parts_rest rest))));
  same = split.same;
}

-- ---- one turn

parts_at : (xs : List Container) (i : ℕ) (k : Container) → slice_get xs i ≡ Some k → xs ≡ (take i xs ++ k ∷ []) ++ drop (i + 1) xs
parts_at [] i k at = absurd (cc)
parts_at (x ∷ xs) zero k at = ap (λ (y : Container). y ∷ xs) (same_Some x k at)
parts_at (x ∷ xs) (suc i) k at =
    let next : suc i + 1 ≡ suc (i + 1) = omega arith in
    ap (λ (ys : List Container). x ∷ ys) (parts_at xs i k at) ∙ ap (λ (n : ℕ). (x ∷ take i xs ++ k ∷ []) ++ drop n (x ∷ xs)) (sym next)

pub turn_shared : (at from : Option Contents) (k : Container) (rest left behind ahead further : List Container) (i : ℕ) → slice_get rest i ≡ Some k → left ≡ drop (i + 1) rest → OnBoth at from (λ m n. SameFiles m n k) → further ≡ ahead ++ take i rest
    → Turns at from k rest left behind ahead behind further
turn_shared at from k rest left behind ahead further i there is same put = record {
  gone = take i rest ++ k ∷ [];
  shared = k ∷ [];
  own = [];
  other = take i rest;
  is = parts_at rest i k there ∙ ap (λ (z : List Container). (take i rest ++ k ∷ []) ++ z) (sym is);
  first = parts_one k;
  second = subst (Parts (take i rest ++ k ∷ []) (k ∷ [])) (append-nil (take i rest)) (parts_join (take i rest) (k ∷ []) [] (k ∷ []) (take i rest) [] (parts_rest (take i rest)) (parts_one k));
  same = λ m n one two. All-cons (SameFiles m n) k [] (same m n one two) (All-nil (SameFiles m n));
  behind_is = sym (append-nil behind);
  ahead_is = put;
}

pub turn_own : (at from : Option Contents) (k : Container) (rest behind ahead next : List Container) → next ≡ behind ++ k ∷ [] → Turns at from k rest rest behind ahead next ahead
turn_own at from k rest behind ahead next put = record {
  gone = [];
  shared = [];
  own = k ∷ [];
  other = [];
  is = refl;
  first = parts_rest (k ∷ []);
  second = (refl, refl);
  same = λ m n one two. All-nil (SameFiles m n);
  behind_is = put;
  ahead_is = sym (append-nil ahead);
}

pub rest_from : (i : ℕ) (xs : List Container) → take (length xs - i) (drop i xs) ≡ drop i xs
rest_from i xs = take_all (length xs - i) (drop i xs) (omega (arith, length-drop i xs))

pub at_some : {X : Type 0} (o : Option X) (x : X) (P : X → Type 0) → o ≡ Some x → IfSome o P → P x
at_some None x P is p = absurd (cc)
at_some (Some y) x P is p = subst P (same_Some y x is) p
