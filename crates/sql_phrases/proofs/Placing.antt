-- The place of a refusal, from the judge of a reader and from what it reads again.
use Rattle.std.proofs.Common.{◌≡◌, ℕ, zero, suc, ◌+◌, ◌-◌, ◌<◌, ◌≤◌, ◌⊎◌, inl, inr, Bool, List, [], ◌∷◌, ◌++◌, length, take, refl, sym, ◌∙◌, ap, subst, append_assoc, append-nil, arith, length-append}
use Rattle.sql_tree.specs.Phrases.{Opens, IsPlace}
use Rattle.sql_phrases.specs.Readings.{Read}
use Rattle.sql_phrases.proofs.Judges.{Takes, Stops, Judged, Judge}
use Rattle.sql_phrases.proofs.Agains.{Again}

take_front : {T : Type 0} (front rest : List T) → take (length front) (front ++ rest) ≡ front
take_front [] rest = refl
take_front (t ∷ ts) rest = ap (λ z. t ∷ z) (take_front ts rest)

longer : {T : Type 0} (u : T) (us : List T) (t : T) (r : List T) (n : ℕ) → (n ≤ length us) ⊎ ((s : List T) × (take n (us ++ (t ∷ r)) ≡ us ++ (t ∷ s))) → (suc n ≤ length (u ∷ us)) ⊎ ((s : List T) × (take (suc n) ((u ∷ us) ++ (t ∷ r)) ≡ (u ∷ us) ++ (t ∷ s)))
longer u us t r n (inl h) = inl (omega arith)
longer u us t r n (inr (s, e)) = inr (s, ap (λ z. u ∷ z) e)

-- a front is no longer than the first part, or has the first element of the second
fronts : {T : Type 0} (front : List T) (t : T) (r : List T) (n : ℕ) → (n ≤ length front) ⊎ ((s : List T) × (take n (front ++ (t ∷ r)) ≡ front ++ (t ∷ s)))
fronts [] t r zero = inl (omega arith)
fronts [] t r (suc n) = inr (take n r, refl)
fronts (u ∷ us) t r zero = inl (omega arith)
fronts (u ∷ us) t r (suc n) = longer u us t r n (fronts us t r n)

-- a whole that is spelled is taken whole
pub reads_whole : {T V : Type 0} (L : List T → V → Type 0) (more : T → Bool) (read : List T → Read T V) → Again L more read → (ts : List T) (v : V) → L ts v → read ts ≡ Read.Took v []
reads_whole L more read k ts v h = ap read (sym (append-nil ts)) ∙ k.reads ts v [] h tt

-- nothing spelled goes on with the element at which the reader stopped or ended
abbrev Beyond : {T V : Type 0} → (List T → Read T V) → List T → List T → Type 0
Beyond {T} {V} read front rest = (t : T) (r s : List T) → rest ≡ t ∷ r → (w : V) → read (front ++ (t ∷ s)) ≡ Read.Took w [] → ⊥

short : {T V : Type 0} (L : List T → V → Type 0) (more : T → Bool) (read : List T → Read T V) → Again L more read → (front : List T) (t : T) (r : List T) (n : ℕ) → Beyond read front (t ∷ r) → Opens L (take n (front ++ (t ∷ r))) → (n ≤ length front) ⊎ ((s : List T) × (take n (front ++ (t ∷ r)) ≡ front ++ (t ∷ s))) → n ≤ length front
short L more read k front t r n beyond o (inl h) = h
short L more read k front t r n beyond o (inr (s, e)) =
    let joined : take n (front ++ (t ∷ r)) ++ o.more ≡ front ++ (t ∷ (s ++ o.more)) = ap (λ z. z ++ o.more) e ∙ append_assoc front (t ∷ s) o.more in
    let spelled : L (front ++ (t ∷ (s ++ o.more))) o.value = subst (λ z. L z o.value) joined o.spelled in
    absurd (beyond t r (s ++ o.more) refl o.value (reads_whole L more read k (front ++ (t ∷ (s ++ o.more))) o.value spelled))

longest_front : {T V : Type 0} (L : List T → V → Type 0) (more : T → Bool) (read : List T → Read T V) → Again L more read → (front rest : List T) (n : ℕ) → n ≤ length (front ++ rest) → Beyond read front rest → Opens L (take n (front ++ rest)) → n ≤ length front
longest_front L more read k front [] n h beyond o = subst (λ z. n ≤ length z) (append-nil front) h
longest_front L more read k front (t ∷ r) n h beyond o = short L more read k front t r n beyond o (fronts front t r n)

placed : {T V : Type 0} (L : List T → V → Type 0) (more : T → Bool) (read : List T → Read T V) → Again L more read → (front rest : List T) (place : ℕ) → place ≡ length front + 1 → Opens L front → Beyond read front rest → ((w : V) → read (front ++ rest) ≡ Read.Took w [] → ⊥) → IsPlace L (front ++ rest) place
placed L more read k front rest place e o beyond whole =
    let before : place - 1 ≡ length front = omega arith in
    record {
      starts = omega arith;
      within = omega (arith, length-append front rest);
      opens = subst (λ z. Opens L z) (sym (ap (λ n. take n (front ++ rest)) before ∙ take_front front rest)) o;
      longest = λ n h p. let s : n ≤ length front = longest_front L more read k front rest n h beyond p in omega arith;
      unspelled = λ v h. whole v (reads_whole L more read k (front ++ rest) v h);
    }

-- the place of an element at which a reader stopped
pub placed_stopped : {T V : Type 0} (L : List T → V → Type 0) (more : T → Bool) (read : List T → Read T V) → Judge L read → Again L more read → (ts rest : List T) (place : ℕ) → read ts ≡ Read.Stopped rest → place + length rest ≡ length ts + 1 → IsPlace L ts place
placed_stopped {T = T} {V = V} L more read j k ts rest place e count =
    let stop : Stops L read ts rest = subst (λ q. Judged L read ts q) e (j.each ts) in
    let size : length ts ≡ length stop.front + length rest = ap length stop.is ∙ length-append stop.front rest in
    subst (λ z. IsPlace L z place) (sym stop.is)
    (placed L more read k stop.front rest place (omega arith) stop.opens
    (λ t r s h w g. let clash : Read.Stopped (t ∷ s) ≡ Read.Took w [] = sym (stop.same t r s h) ∙ g in cc)
    (λ w g. let clash : Read.Stopped rest ≡ Read.Took w [] = sym e ∙ ap read stop.is ∙ g in cc))

-- the place of the first element that is left behind what was taken
pub placed_rest : {T V : Type 0} (L : List T → V → Type 0) (more : T → Bool) (read : List T → Read T V) → Judge L read → Again L more read → (ts : List T) (v : V) (rest : List T) (place : ℕ) → read ts ≡ Read.Took v rest → 0 < length rest → place + length rest ≡ length ts + 1 → IsPlace L ts place
placed_rest {T = T} {V = V} L more read j k ts v [] place e left count = absurd (omega arith)
placed_rest {T = T} {V = V} L more read j k ts v (u ∷ us) place e left count =
    let took : Takes L read ts v (u ∷ us) = subst (λ q. Judged L read ts q) e (j.each ts) in
    let size : length ts ≡ length took.front + length (u ∷ us) = ap length took.is ∙ length-append took.front (u ∷ us) in
    let here : L (took.front ++ []) v = subst (λ z. L z v) (sym (append-nil took.front)) took.spelled in
    subst (λ z. IsPlace L z place) (sym took.is)
    (placed L more read k took.front (u ∷ us) place (omega arith) (record { more = []; value = v; spelled = here })
    (λ t r s h w g. let clash : Read.Took v (t ∷ s) ≡ Read.Took w [] = sym (took.same t r s h) ∙ g in cc)
    (λ w g. let clash : Read.Took v (u ∷ us) ≡ Read.Took w [] = sym e ∙ ap read took.is ∙ g in cc))

-- what was taken whole is spelled
pub found_whole : {T V : Type 0} (L : List T → V → Type 0) (read : List T → Read T V) → Judge L read → (ts : List T) (v : V) → read ts ≡ Read.Took v [] → L ts v
found_whole L read j ts v e =
    let took : Takes L read ts v [] = subst (λ q. Judged L read ts q) e (j.each ts) in
    subst (λ z. L z v) (sym (took.is ∙ append-nil took.front)) took.spelled

-- what is left is no longer than the whole
pub took_left : {T V : Type 0} (L : List T → V → Type 0) (read : List T → Read T V) → Judge L read → (ts : List T) (v : V) (rest : List T) → read ts ≡ Read.Took v rest → length rest ≤ length ts
took_left L read j ts v rest e =
    let took : Takes L read ts v rest = subst (λ q. Judged L read ts q) e (j.each ts) in
    let size : length ts ≡ length took.front + length rest = ap length took.is ∙ length-append took.front rest in
    omega arith

pub stopped_left : {T V : Type 0} (L : List T → V → Type 0) (read : List T → Read T V) → Judge L read → (ts rest : List T) → read ts ≡ Read.Stopped rest → length rest ≤ length ts
stopped_left L read j ts rest e =
    let stop : Stops L read ts rest = subst (λ q. Judged L read ts q) e (j.each ts) in
    let size : length ts ≡ length stop.front + length rest = ap length stop.is ∙ length-append stop.front rest in
    omega arith
