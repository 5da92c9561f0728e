-- The oldest containers of a level.
use Rattle.std.proofs.Common.{◌≡◌, ℕ, zero, suc, ◌+◌, ◌-◌, ◌<◌, ◌≤◌, ◌++◌, Bool, true, false, cond, List, [], ◌∷◌, length, filter, drop, get_or, refl, sym, ap, ◌∙◌, arith, subst, append_assoc}
use Rattle.std.specs.List.{All}
use Rattle.std.proofs.lemmas.Bool.{eqb-true}
use Rattle.std.proofs.lemmas.List.{append-nil}
use Rattle.std.proofs.lemmas.List.Elements.{All-nil, All-cons}
use Rattle.catalog_types.specs.declared.catalogue.Container.{Container}
use Rattle.merge_rows.specs.Inputs.{chosen}
use Rattle.mergeout_job.specs.Oldest.{is_level, oldest, HasFour, AreFour}

pub oldest_step : (left level : ℕ) (k : Container) (ks : List Container) → 0 < left → oldest left level (k ∷ ks) ≡ is_level level k ∷ oldest (cond (is_level level k) (left - 1) left) level ks
oldest_step zero level k ks some = absurd (omega (arith, some))
oldest_step (suc n) level k ks some = let one : suc n - 1 ≡ n = omega arith in ap (λ (x : ℕ). is_level level k ∷ oldest (cond (is_level level k) x (suc n)) level ks) (sym one)

pub oldest_end : (left level : ℕ) (ks : List Container) → ks ≡ [] → oldest left level ks ≡ []
oldest_end left level ks is = ap (oldest left level) is ∙ none left
  where
    none : (n : ℕ) → oldest n level [] ≡ []
    none zero = refl
    none (suc n) = refl

pub oldest_within : (n level : ℕ) (ks : List Container) → length (oldest n level ks) ≤ length ks
oldest_within zero level ks = omega arith
oldest_within (suc n) level [] = omega arith
oldest_within (suc n) level (k ∷ ks) = let rest = oldest_within (cond (is_level level k) n (suc n)) level ks in omega (arith, rest)

chosen_none : {X : Type 0} (xs : List X) → chosen [] xs ≡ []
chosen_none xs = refl

record Chooses (n level : ℕ) (ks : List Container) : Type 0 where
  count : length (chosen (oldest n level ks) ks) ≡ n
  all : All (λ k. k.level ≡ level) (chosen (oldest n level ks) ks)

chooses : (n level : ℕ) (ks : List Container) → n ≤ length (filter (is_level level) ks) → Chooses n level ks
chooses zero level ks le = record { count = refl; all = All-nil (λ k. k.level ≡ level) }
chooses (suc n) level [] le = absurd (omega (arith, le))
chooses (suc n) level (k ∷ ks) le = by (is_level level k) refl le (chooses n level ks) (chooses (suc n) level ks)
  where
    by : (b : Bool) → is_level level k ≡ b → suc n ≤ length (cond b (k ∷ filter (is_level level) ks) (filter (is_level level) ks))
        → (n ≤ length (filter (is_level level) ks) → Chooses n level ks) → (suc n ≤ length (filter (is_level level) ks) → Chooses (suc n) level ks) → Chooses (suc n) level (k ∷ ks)
    by true is some one other =
        let rest = one (omega (arith, some)) in
        let flags : oldest (suc n) level (k ∷ ks) ≡ true ∷ oldest n level ks = ap (λ (b : Bool). b ∷ oldest (cond b n (suc n)) level ks) is in
        let are : chosen (oldest (suc n) level (k ∷ ks)) (k ∷ ks) ≡ k ∷ chosen (oldest n level ks) ks = ap (λ (fs : List Bool). chosen fs (k ∷ ks)) flags in
        let here : k.level ≡ level = eqb-true k.level level is in
        record {
          count = ap length are ∙ (let c = rest.count in omega (arith, c));
          all = subst (All (λ x. x.level ≡ level)) (sym are) (All-cons (λ x. x.level ≡ level) k (chosen (oldest n level ks) ks) here rest.all);
        }
    by false is some one other =
        let rest = other some in
        let flags : oldest (suc n) level (k ∷ ks) ≡ false ∷ oldest (suc n) level ks = ap (λ (b : Bool). b ∷ oldest (cond b n (suc n)) level ks) is in
        let are : chosen (oldest (suc n) level (k ∷ ks)) (k ∷ ks) ≡ chosen (oldest (suc n) level ks) ks = ap (λ (fs : List Bool). chosen fs (k ∷ ks)) flags in
        record { count = ap length are ∙ rest.count; all = subst (All (λ x. x.level ≡ level)) (sym are) rest.all }

pub four_oldest : (level : ℕ) (ks : List Container) → HasFour level ks → AreFour level (oldest 4 level ks) ks
four_oldest level ks some = let is = chooses 4 level ks some in record { within = oldest_within 4 level ks; four = is.count; level = is.all }

pub four_chosen : (level : ℕ) (ks shown : List Container) (inputs : List Bool) → shown ≡ ks → inputs ≡ oldest 4 level shown → HasFour level ks → AreFour level inputs ks
four_chosen level ks shown inputs same is some = subst (λ (fs : List Bool). AreFour level fs ks) (sym (is ∙ ap (oldest 4 level) same)) (four_oldest level ks some)
