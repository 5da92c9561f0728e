-- The number that is read from groups is the number that was spelled.
use Rattle.std.proofs.Common.{◌≡◌, ℕ, zero, suc, ◌+◌, ◌-◌, ◌*◌, ◌/◌, ◌%◌, ◌^◌, ◌<◌, ◌≤◌, true, ltb, List, [], ◌∷◌, ◌++◌, Option, Some, None, refl, sym, ap, subst, ◌∙◌, arith, inl, inr, ◌↔◌}
use Rattle.std.proofs.Math.Nat.{pow-suc}
use Rattle.std.specs.Prelude.{option_and_then, nat_lt, if◌then◌else◌}
use Rattle.std.proofs.lemmas.Bool.{cases_lt, cases_Bool, ltb-true, ltb-false, lt-ltb, le-ltb}
use Rattle.std.proofs.lemmas.Option.{option_and_then_some}
use Rattle.col_bytes.specs.Spellings.{groups, vint, IsVint}
use Rattle.col_bytes.specs.Fronts.{joined, groups_at, vint_at}
use Rattle.col_bytes.proofs.Codecs.{IsBytes, IsBytes-rest, Takes, IsCodec, some_is}

pub one_group : (k n : ℕ) → n < 128 → groups (suc k) n ≡ n ∷ []
unfolding groups
one_group k n lt = rw (lt-ltb n 128 lt) refl

pub more_groups : (k n : ℕ) → 128 ≤ n → groups (suc k) n ≡ (128 + n % 128) ∷ groups k (n / 128)
unfolding groups
more_groups k n le = rw (le-ltb n 128 le) refl

-- a number that needs a second byte has room for it
pub room : (k n : ℕ) → n < 128 ^ suc k → 128 ≤ n → n / 128 < 128 ^ k
room k n lt le = omega (arith, pow-suc 128 k)

joined_again : (n : ℕ) (rest : List ℕ) → 128 ≤ n → n < 2 ^ 64 → joined (128 + n % 128) (n / 128, rest) ≡ Some (n, rest)
joined_again n rest le lt =
    let low : ltb 0 (n / 128) ≡ true = lt-ltb _ _ (omega arith) in
    let high : ltb (n / 128) (2 ^ 57) ≡ true = lt-ltb _ _ (omega arith) in
    let is : 128 + n % 128 - 128 + 128 * (n / 128) ≡ n = omega arith in
    rw (low, high, is) refl

groups_again : (k n : ℕ) (rest : List ℕ) → n < 128 ^ suc k → n < 2 ^ 64 → groups_at (suc k) (groups (suc k) n ++ rest) ≡ Some (n, rest)
unfolding groups_at
groups_again zero n rest short small = rw (one_group zero n (omega arith), lt-ltb n 128 (omega arith)) refl
groups_again (suc k) n rest short small =
    elim (cases_lt n 128) [
      | inl lt ↦ rw (one_group (suc k) n lt, lt-ltb n 128 lt) refl
      | inr le ↦ rw (more_groups (suc k) n le, le-ltb (128 + n % 128) 128 (omega arith), groups_again k (n / 128) rest (room (suc k) n short le) (omega arith)) (joined_again n rest le small)
    ]

joined_is : (b : ℕ) (high : ℕ × List ℕ) (x : ℕ × List ℕ) → joined b high ≡ Some x → (0 < high.0) × (high.0 < 2 ^ 57) × (b - 128 + 128 * high.0 ≡ x.0) × (high.1 ≡ x.1)
joined_is b high x e =
    let inner : Option (ℕ × List ℕ) = if nat_lt high.0 (2 ^ 57) then Some (b - 128 + 128 * high.0, high.1) else None in
    elim (cases_Bool (ltb 0 high.0)) [
      | inl p ↦
          elim (cases_Bool (ltb high.0 (2 ^ 57))) [
            | inl q ↦
                let made : ◌≡◌ {A = Option (ℕ × List ℕ)} (Some (b - 128 + 128 * high.0, high.1)) (Some x) = sym (rw (p, q) refl) ∙ e in
                let same = some_is (b - 128 + 128 * high.0, high.1) x made in
                (ltb-true _ _ p, ltb-true _ _ q, ap (λ (y : ℕ × List ℕ). y.0) same, ap (λ (y : ℕ × List ℕ). y.1) same)
            | inr q ↦ let made : ◌≡◌ {A = Option (ℕ × List ℕ)} None (Some x) = sym (rw (p, q) refl) ∙ e in absurd cc
          ]
      | inr p ↦ let made : ◌≡◌ {A = Option (ℕ × List ℕ)} None (Some x) = sym (rw p refl) ∙ e in absurd cc
    ]

-- the first byte of more than one, and the number behind it
last : (k b : ℕ) (rest : List ℕ) (x high : ℕ × List ℕ) → IsBytes (b ∷ rest) → 128 ≤ b → (0 < high.0) × (high.0 < 2 ^ 57) × (b - 128 + 128 * high.0 ≡ x.0) × (high.1 ≡ x.1)
    → Takes rest (groups k high.0) high.1 × (high.0 < 2 ^ 64) → Takes (b ∷ rest) (groups (suc k) x.0) x.1 × (x.0 < 2 ^ 64)
last k b rest x high fits le is taken =
    let byte : b < 256 = fits 0 in
    let large : 128 ≤ x.0 = omega (arith, is.0, is.2) in
    let first : 128 + x.0 % 128 ≡ b = omega (arith, is.2) in
    let others : x.0 / 128 ≡ high.0 = omega (arith, is.2) in
    let spelled : groups (suc k) x.0 ≡ b ∷ groups k high.0 = more_groups k x.0 large ∙ ap (λ (y : ℕ). y ∷ groups k (x.0 / 128)) first ∙ ap (λ (y : ℕ). b ∷ groups k y) others in
    let parts : b ∷ rest ≡ groups (suc k) x.0 ++ x.1 = ap (λ (r : List ℕ). b ∷ r) (taken.0.parts ∙ ap (λ (r : List ℕ). groups k high.0 ++ r) is.3) ∙ ap (λ (r : List ℕ). r ++ x.1) (sym spelled) in
    (record { parts = parts; rest_fits = subst IsBytes is.3 taken.0.rest_fits }, omega (arith, is.1, is.2))

groups_take : (k : ℕ) (bytes : List ℕ) (x : ℕ × List ℕ) → IsBytes bytes → groups_at k bytes ≡ Some x → Takes bytes (groups k x.0) x.1 × (x.0 < 2 ^ 64)
unfolding groups_at
groups_take zero bytes x fits e = absurd cc
groups_take (suc k) [] x fits e = absurd cc
groups_take (suc k) (b ∷ rest) x fits e =
    elim (cases_Bool (ltb b 128)) [
      | inl p ↦
          let made : ◌≡◌ {A = Option (ℕ × List ℕ)} (Some (b, rest)) (Some x) = sym (rw p refl) ∙ e in
          let same = some_is (b, rest) x made in
          subst (λ (y : ℕ × List ℕ). Takes (b ∷ rest) (groups (suc k) y.0) y.1 × (y.0 < 2 ^ 64)) same (record { parts = rw (one_group k b (ltb-true _ _ p)) refl; rest_fits = IsBytes-rest b rest fits }, let low : b < 128 = ltb-true _ _ p in omega arith)
      | inr p ↦
          let made : option_and_then (joined b) (groups_at k rest) ≡ Some x = sym (rw p refl) ∙ e in
          option_and_then_some (joined b) (groups_at k rest) x made (λ high is h. last k b rest x high fits (ltb-false _ _ p) (joined_is b high x h) (groups_take k rest high (IsBytes-rest b rest fits) is))
    ]

pub vint_codec : IsCodec vint (λ n. n < 2 ^ 64) vint_at
vint_codec = record {
  takes = λ bytes x fits e. groups_take 10 bytes x fits e;
  again = λ n rest small. groups_again 9 n rest (omega arith) small;
}

-- ---- the shortest form

behind : (b n : ℕ) (bytes : List ℕ) → 128 ≤ n → b ≡ 128 + n % 128 → IsVint bytes (n / 128) → IsVint (b ∷ bytes) n
behind b n [] le is h = absurd h
behind b n (c ∷ bytes) le is h = (omega arith, omega arith, n / 128, omega arith, omega arith, h)

groups_short : (k n : ℕ) → n < 128 ^ suc k → IsVint (groups (suc k) n) n
groups_short zero n short = rw (one_group zero n (omega arith)) (omega arith, refl)
groups_short (suc k) n short =
    elim (cases_lt n 128) [
      | inl lt ↦ rw (one_group (suc k) n lt) (lt, refl)
      | inr le ↦ rw (more_groups (suc k) n le) (behind (128 + n % 128) n (groups (suc k) (n / 128)) le refl (groups_short k (n / 128) (room (suc k) n short le)))
    ]

short_is : (k : ℕ) (bytes : List ℕ) (n : ℕ) → n < 128 ^ suc k → IsVint bytes n → bytes ≡ groups (suc k) n
short_is k [] n short h = absurd h
short_is k (b ∷ []) n short h = let lt : n < 128 = omega (arith, h.0, h.1) in ap (λ (x : ℕ). x ∷ []) (sym h.1) ∙ sym (one_group k n lt)
short_is zero (b ∷ c ∷ bytes) n short h = absurd (omega (arith, h.0, h.3, h.4))
short_is (suc k) (b ∷ c ∷ bytes) n short h =
    let large : 128 ≤ n = omega (arith, h.0, h.3, h.4) in
    let first : 128 + n % 128 ≡ b = omega (arith, h.0, h.1, h.4) in
    let high : n / 128 ≡ h.2 = omega (arith, h.0, h.1, h.4) in
    let fits : h.2 < 128 ^ suc k = let e = room (suc k) n short large in omega (arith, high, e) in
    ap (λ (x : List ℕ). b ∷ x) (short_is k (c ∷ bytes) h.2 fits h.5) ∙ ap (λ (x : ℕ). x ∷ groups (suc k) h.2) (sym first) ∙ ap (λ (x : ℕ). (128 + n % 128) ∷ groups (suc k) x) (sym high) ∙ sym (more_groups (suc k) n large)

pub is_shortest : (bytes : List ℕ) (n : ℕ) → n < 2 ^ 64 → IsVint bytes n ↔ (bytes ≡ vint n)
is_shortest bytes n small = (λ h. short_is 9 bytes n (omega arith) h, λ e. subst (λ (x : List ℕ). IsVint x n) (sym e) (groups_short 9 n (omega arith)))
