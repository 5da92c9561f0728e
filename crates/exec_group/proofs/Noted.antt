-- Groups that are noted for codes, and one group of all rows.
use Rattle.std.proofs.Common.{◌≡◌, ℕ, zero, suc, ◌<◌, ◌≤◌, List, [], ◌∷◌, length, get_or, map, position, replicate, set, Option, Some, None, inl, inr, refl, sym, ap, ap₂, ◌∙◌, arith, subst}
use Rattle.std.specs.Option.{IfSome}
use Rattle.std.proofs.lemmas.Bool.{cases_eq}
use Rattle.std.proofs.lemmas.List.{get_or-set_other, get_or-set_same}
use Rattle.col_value.specs.declared.value.Value.{Value}
use Rattle.sql_bound.specs.Outputs.{same_keys}
use Rattle.exec_group.specs.Codes.{AreNoted, Tells}
use Rattle.exec_group.specs.Groups.{met, met_one, AreEntered}
use Rattle.exec_group.proofs.Entering.{known_met, there_stays, Groups}
use Rattle.exec_group.proofs.Numbered.{if_some}

abbrev none_of : ℕ → List (Option ℕ)
none_of count = replicate count None

none_in : (count i : ℕ) → get_or (none_of count) i None ≡ None
none_in zero i = refl
none_in (suc count) zero = refl
none_in (suc count) (suc i) = none_in count i

module _ (key : ℕ → List Value) (code : ℕ → ℕ) where
  pub noted_none : (count : ℕ) (ks : Groups) → AreNoted key code (none_of count) ks
  noted_none count ks p = subst (λ (o : Option ℕ). IfSome o (λ g. position (λ k. same_keys k (key p)) ks ≡ Some g)) (sym (none_in count (code p))) tt

  pub noted_more : (noted : List (Option ℕ)) (ks next : Groups) (p g : ℕ) → Tells code key → code p < length noted → next ≡ met_one ks (key p) → position (λ k. same_keys k (key p)) next ≡ Some g
      → AreNoted key code noted ks → AreNoted key code (set noted (code p) (Some g)) next
  noted_more noted ks next p g tells inside is there before q = elim (cases_eq (code q) (code p)) [
    | inl same ↦
        let here : get_or (set noted (code p) (Some g)) (code q) None ≡ Some g =
        ap (λ (c : ℕ). get_or (set noted (code p) (Some g)) c None) same ∙ get_or-set_same noted (code p) (Some g) None inside in
        subst (λ (o : Option ℕ). IfSome o (λ h. position (λ k. same_keys k (key q)) next ≡ Some h)) (sym here) (ap (λ (x : List Value). position (λ k. same_keys k x) next) (tells q p same) ∙ there)
    | inr other ↦
        let stays : get_or (set noted (code p) (Some g)) (code q) None ≡ get_or noted (code q) None = get_or-set_other noted (code p) (code q) (Some g) None other in
        subst (λ (o : Option ℕ). IfSome o (λ h. position (λ k. same_keys k (key q)) next ≡ Some h)) (sym stays)
        (if_some (get_or noted (code q) None) (λ h. position (λ k. same_keys k (key q)) ks ≡ Some h) (λ h. position (λ k. same_keys k (key q)) next ≡ Some h)
        (λ h e. ap (position (λ k. same_keys k (key q))) is ∙ there_stays ks (key q) (key p) h e) (before q))
  ]

module _ (key : ℕ → List Value) (ks : Groups) (g : ℕ) (all : (p : ℕ) → position (λ k. same_keys k (key p)) ks ≡ Some g) where
  all_there : (ps : List ℕ) → map Some (replicate (length ps) g) ≡ map (λ p. position (λ k. same_keys k (key p)) ks) ps
  all_there [] = refl
  all_there (p ∷ ps) = ap₂ (λ (o : Option ℕ) (os : List (Option ℕ)). o ∷ os) (sym (all p)) (all_there ps)

  all_met : (ps : List ℕ) → ks ≡ met key ps ks
  all_met [] = refl
  all_met (p ∷ ps) = all_met ps ∙ ap (met key ps) (known_met ks (key p) g (all p))

-- rows of one key
pub one_entered : (key : ℕ → List Value) (ps : List ℕ) (old next : Groups) (g : ℕ) → 1 ≤ length ps → ((a b : ℕ) → key a ≡ key b) → next ≡ met_one old (key (get_or ps 0 0)) → position (λ k. same_keys k (key (get_or ps 0 0))) next ≡ Some g
    → AreEntered key ps old next (replicate (length ps) g)
one_entered key [] old next g some same is there = absurd (omega (arith, some))
one_entered key (p ∷ ps) old next g some same is there =
    let all : (q : ℕ) → position (λ k. same_keys k (key q)) next ≡ Some g = λ q. ap (λ (x : List Value). position (λ k. same_keys k x) next) (same q p) ∙ there in record {
      met = all_met key next g all ps ∙ ap (met key ps) is;
      there = all_there key next g all (p ∷ ps);
    }
