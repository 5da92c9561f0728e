-- Keys that are entered.
use Rattle.std.proofs.Common.{◌≡◌, ℕ, ◌+◌, ◌<◌, ◌++◌, Bool, true, false, if◌then◌else◌, List, [], ◌∷◌, length, get_or, map, position, take, Option, Some, None, refl, sym, ap, ap₂, ◌∙◌, arith}
use Rattle.std.proofs.lemmas.List.{map-append, take_more}
use Rattle.std.proofs.lemmas.List.Folds.{list_any_at, list_any_none}
use Rattle.std.proofs.lemmas.List.Quantifiers.{position-Some}
use Rattle.std.proofs.lemmas.List.Sums.{fold_push}
use Rattle.std.specs.List.{list_any}
use Rattle.col_value.specs.declared.value.Value.{Value}
use Rattle.row_keys.proofs.Apart.{same_itself}
use Rattle.row_keys.proofs.Places.{none_passes, place_pushed}
use Rattle.row_keys.specs.Keys.{first_of}
use Rattle.sql_bound.specs.Outputs.{same_keys}
use Rattle.exec_group.specs.Groups.{met, met_one, AreEntered}

abbrev pub Groups : Type 0
Groups = List (List Value)

pub known_met : (ks : Groups) (key : List Value) (g : ℕ) → position (λ k. same_keys k key) ks ≡ Some g → ks ≡ met_one ks key
known_met ks key g e =
    let at = position-Some (λ k. same_keys k key) ks g [] e in
    ap (λ (b : Bool). if b then ks else ks ++ key ∷ []) (sym (list_any_at (λ k. same_keys k key) ks g [] at.0 at.1))

pub new_met : (ks : Groups) (key : List Value) → position (λ k. same_keys k key) ks ≡ None → ks ++ key ∷ [] ≡ met_one ks key
new_met ks key e =
    let none : list_any (λ k. same_keys k key) ks ≡ false = list_any_none (λ k. same_keys k key) ks (λ i d l. none_passes (λ k. same_keys k key) ks i d e l) in
    ap (λ (b : Bool). if b then ks else ks ++ key ∷ []) (sym none)

pub new_there : (ks : Groups) (key : List Value) → position (λ k. same_keys k key) ks ≡ None → position (λ k. same_keys k key) (ks ++ key ∷ []) ≡ Some (length ks)
new_there ks key e =
    place_pushed (λ k. same_keys k key) ks key
    ∙ ap₂ (λ (o : Option ℕ) (b : Bool). first_of o (if b then Some (length ks) else None)) e (same_itself key)

pub there_stays : (ks : Groups) (key other : List Value) (g : ℕ) → position (λ k. same_keys k key) ks ≡ Some g → position (λ k. same_keys k key) (met_one ks other) ≡ Some g
there_stays ks key other g e = elim (list_any (λ k. same_keys k other) ks) as (λ b. position (λ k. same_keys k key) (if b then ks else ks ++ other ∷ []) ≡ Some g) [
  | true ↦ e
  | false ↦ place_pushed (λ k. same_keys k key) ks other ∙ ap (λ (o : Option ℕ). first_of o (if same_keys other key then Some (length ks) else None)) e
]

abbrev pub first : List (Option ℕ) → Option ℕ
first [] = None
first (o ∷ os) = o

abbrev pub rest : List (Option ℕ) → List (Option ℕ)
rest [] = []
rest (o ∷ os) = os

module _ (key : ℕ → List Value) where
  abbrev places_in : Groups → List ℕ → List (Option ℕ)
  places_in ks ps = map (λ p. position (λ k. same_keys k (key p)) ks) ps

  all_stay : (ks : Groups) (other : List Value) (ps gs : List ℕ) → map Some gs ≡ places_in ks ps → map Some gs ≡ places_in (met_one ks other) ps
  all_stay ks other [] gs e = e
  all_stay ks other (p ∷ ps) [] e = absurd cc
  all_stay ks other (p ∷ ps) (g ∷ gs) e =
      ap₂ (λ (o : Option ℕ) (os : List (Option ℕ)). o ∷ os) (sym (there_stays ks (key p) other g (sym (ap first e)))) (all_stay ks other ps gs (ap rest e))

  pub entered_none : (old : Groups) → AreEntered key [] old old []
  entered_none old = record { met = refl; there = refl }

  pub entered_more : (places : List ℕ) (i : ℕ) (old now next : Groups) (gs : List ℕ) (g : ℕ) → i < length places → next ≡ met_one now (key (get_or places i 0)) → position (λ k. same_keys k (key (get_or places i 0))) next ≡ Some g
      → AreEntered key (take i places) old now gs → AreEntered key (take (i + 1) places) old next (gs ++ g ∷ [])
  entered_more places i old now next gs g inside is there before =
      let p = get_or places i 0 in
      let all = take_more places i 0 inside in
      record {
        met =
            is ∙ ap (λ (ks : Groups). met_one ks (key p)) before.met ∙ sym (fold_push (λ (ks : Groups) (x : ℕ). met_one ks (key x)) old (take i places) p)
            ∙ ap (λ (ps : List ℕ). met key ps old) (sym all);
        there =
            map-append Some gs (g ∷ [])
            ∙ ap₂ (λ (a b : List (Option ℕ)). a ++ b) (all_stay now (key p) (take i places) gs before.there ∙ ap (λ (ks : Groups). places_in ks (take i places)) (sym is)) (ap (λ (o : Option ℕ). o ∷ []) (sym there))
            ∙ sym (map-append (λ x. position (λ k. same_keys k (key x)) next) (take i places) (p ∷ []))
            ∙ ap (places_in next) (sym all);
      }
