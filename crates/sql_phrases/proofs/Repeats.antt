-- The judge of a repetition and of turns in a state, and that their count of turns makes no difference.
use Rattle.std.proofs.Common.{◌≡◌, ℕ, zero, suc, ◌<◌, ◌≤◌, inl, inr, Bool, if◌then◌else◌, List, [], ◌∷◌, ◌++◌, length, refl, sym, ◌∙◌, ap, subst, append-nil, arith}
use Rattle.sql_tree.specs.Phrases.{Nothing, Then, Either, Many, Turns, Opens}
use Rattle.sql_phrases.specs.Readings.{Read, Shortens, after, nothing, both, head_is, choose, turn, many_within, many, turns_within, turns}
use Rattle.sql_phrases.proofs.Judges.{Judged, Judge, widen, judge_nothing, both_at, choose_at}

-- two readers take the same behind what a takes
after_same : {T X V : Type 0} (q : Read T X) (b c : X → List T → Read T V) → ((x : X) (rest : List T) → q ≡ Read.Took x rest → b x rest ≡ c x rest) → after q b ≡ after q c
after_same (Read.Took x rest) b c h = h x rest refl
after_same (Read.Stopped rest) b c h = refl

turn_same : {T V : Type 0} (p : T → Bool) (a : List T → Read T V) (m n : V → List T → Read T (List V)) (ts : List T) → ((v : V) (rest : List T) → a ts ≡ Read.Took v rest → m v rest ≡ n v rest) → turn p a m ts ≡ turn p a n ts
unfolding turn choose both
turn_same p a m n ts h = ap (λ q. if head_is p ts then q else nothing [] ts) (after_same (a ts) (λ v rest. after (m v rest) (λ vs. nothing (v ∷ vs))) (λ v rest. after (n v rest) (λ vs. nothing (v ∷ vs))) (λ v rest e. ap (λ q. after q (λ vs. nothing (v ∷ vs))) (h v rest e)))

-- nothing stands there: no turn is made
turn_none : {T V : Type 0} (p : T → Bool) (a : List T → Read T V) (m : V → List T → Read T (List V)) → turn p a m [] ≡ Read.Took [] []
unfolding turn choose nothing
turn_none p a m = refl

pub within_same : {T V : Type 0} (p : T → Bool) (a : List T → Read T V) → Shortens a → (m n : ℕ) (ts : List T) → length ts ≤ m → length ts ≤ n → many_within m p a ts ≡ many_within n p a ts
unfolding many_within nothing
within_same p a shorter zero zero ts h k = refl
within_same p a shorter zero (suc n) [] h k = sym (turn_none p a (λ v. many_within n p a))
within_same p a shorter zero (suc n) (t ∷ ts) h k = absurd (omega arith)
within_same p a shorter (suc m) zero [] h k = turn_none p a (λ v. many_within m p a)
within_same p a shorter (suc m) zero (t ∷ ts) h k = absurd (omega arith)
within_same p a shorter (suc m) (suc n) ts h k = turn_same p a (λ v. many_within m p a) (λ v. many_within n p a) ts (λ v rest e. within_same p a shorter m n rest (let s = shorter ts v rest e in omega arith) (let s = shorter ts v rest e in omega arith))

many_is_at : {T V : Type 0} (p : T → Bool) (a : List T → Read T V) → Shortens a → (ts : List T) (n : ℕ) → n ≡ length ts → many_within n p a ts ≡ turn p a (λ v. many p a) ts
unfolding many_within many nothing
many_is_at p a shorter [] zero e = sym (turn_none p a (λ v. many p a))
many_is_at p a shorter (t ∷ ts) zero e = absurd (omega arith)
many_is_at p a shorter ts (suc n) e = turn_same p a (λ v. many_within n p a) (λ v. many p a) ts (λ v rest h. within_same p a shorter n (length rest) rest (let s = shorter ts v rest h in omega arith) (omega arith))

-- a repetition is one turn, and behind it the repetition
pub many_is : {T V : Type 0} (p : T → Bool) (a : List T → Read T V) → Shortens a → (ts : List T) → many p a ts ≡ turn p a (λ v. many p a) ts
unfolding many
many_is p a shorter ts = many_is_at p a shorter ts (length ts) refl

-- the same for turns in a state

turns_within_same : {T S V : Type 0} (p : T → Bool) (a : S → List T → Read T V) (next : S → V → S) → ((s : S) → Shortens (a s)) → (m n : ℕ) (s : S) (ts : List T) → length ts ≤ m → length ts ≤ n → turns_within m p a next s ts ≡ turns_within n p a next s ts
unfolding turns_within nothing
turns_within_same p a next shorter zero zero s ts h k = refl
turns_within_same p a next shorter zero (suc n) s [] h k = sym (turn_none p (a s) (λ v. turns_within n p a next (next s v)))
turns_within_same p a next shorter zero (suc n) s (t ∷ ts) h k = absurd (omega arith)
turns_within_same p a next shorter (suc m) zero s [] h k = turn_none p (a s) (λ v. turns_within m p a next (next s v))
turns_within_same p a next shorter (suc m) zero s (t ∷ ts) h k = absurd (omega arith)
turns_within_same p a next shorter (suc m) (suc n) s ts h k = turn_same p (a s) (λ v. turns_within m p a next (next s v)) (λ v. turns_within n p a next (next s v)) ts (λ v rest e. turns_within_same p a next shorter m n (next s v) rest (let l = shorter s ts v rest e in omega arith) (let l = shorter s ts v rest e in omega arith))

turns_is_at : {T S V : Type 0} (p : T → Bool) (a : S → List T → Read T V) (next : S → V → S) → ((s : S) → Shortens (a s)) → (s : S) (ts : List T) (n : ℕ) → n ≡ length ts → turns_within n p a next s ts ≡ turn p (a s) (λ v. turns p a next (next s v)) ts
unfolding turns_within turns nothing
turns_is_at p a next shorter s [] zero e = sym (turn_none p (a s) (λ v. turns p a next (next s v)))
turns_is_at p a next shorter s (t ∷ ts) zero e = absurd (omega arith)
turns_is_at p a next shorter s ts (suc n) e = turn_same p (a s) (λ v. turns_within n p a next (next s v)) (λ v. turns p a next (next s v)) ts (λ v rest h. turns_within_same p a next shorter n (length rest) (next s v) rest (let l = shorter s ts v rest h in omega arith) (omega arith))

-- turns in a state are one turn, and behind it the turns in the state that it leaves
pub turns_is : {T S V : Type 0} (p : T → Bool) (a : S → List T → Read T V) (next : S → V → S) → ((s : S) → Shortens (a s)) → (s : S) (ts : List T) → turns p a next s ts ≡ turn p (a s) (λ v. turns p a next (next s v)) ts
unfolding turns
turns_is p a next shorter s ts = turns_is_at p a next shorter s ts (length ts) refl

-- one turn's phrase, with M behind A's value
abbrev pub Turn : {T V : Type 0} → (List T → V → Type 0) → (V → List T → List V → Type 0) → List T → List V → Type 0
Turn A M = Either (Then A (λ v. Then (M v) (λ vs. Nothing (v ∷ vs)))) (Nothing [])

many_of_turn : {T V : Type 0} (A : List T → V → Type 0) (front : List T) (vs : List V) → Turn A (λ v. Many A) front vs → Many A front vs
many_of_turn A front vs (inl (a, v, b, e, h, (c, ws, d, f, k, (g, is)))) =
    let whole : Many A front (v ∷ ws) = (a, c, e ∙ ap (λ z. a ++ z) (f ∙ ap (λ z. c ++ z) g ∙ append-nil c), h, k) in
    subst (λ z. Many A front z) (sym is) whole
many_of_turn A front vs (inr (e, is)) = subst (λ z. Many A front z) (sym is) e

turns_of_turn : {T S V : Type 0} (A : S → List T → V → Type 0) (next : S → V → S) (s : S) (front : List T) (vs : List V) → Turn (A s) (λ v. Turns A next (next s v)) front vs → Turns A next s front vs
turns_of_turn A next s front vs (inl (a, v, b, e, h, (c, ws, d, f, k, (g, is)))) =
    let whole : Turns A next s front (v ∷ ws) = (a, c, e ∙ ap (λ z. a ++ z) (f ∙ ap (λ z. c ++ z) g ∙ append-nil c), h, k) in
    subst (λ z. Turns A next s front z) (sym is) whole
turns_of_turn A next s front vs (inr (e, is)) = subst (λ z. Turns A next s front z) (sym is) e

many_some : {T V : Type 0} (A : List T → V → Type 0) → Opens (Many A) []
many_some A = record { more = []; value = []; spelled = refl }

-- M spells [] by nothing
turn_at : {T V : Type 0} (A : List T → V → Type 0) (M : V → List T → List V → Type 0) (p : T → Bool) (a : List T → Read T V) (m : V → List T → Read T (List V)) (ts : List T) → ((v : V) → M v [] []) → Judged A a ts (a ts) → ((v : V) (rest : List T) → a ts ≡ Read.Took v rest → Judged (M v) (m v) rest (m v rest)) → Judged (Turn A M) (turn p a m) ts (turn p a m ts)
unfolding turn
turn_at {V = V} A M p a m ts none k next =
    choose_at (Then A (λ v. Then (M v) (λ vs. Nothing (v ∷ vs)))) (Nothing []) p (both a (λ v. both (m v) (λ vs. nothing (v ∷ vs)))) (nothing []) ts
    (both_at A (λ v. Then (M v) (λ vs. Nothing (v ∷ vs))) a (λ v. both (m v) (λ vs. nothing (v ∷ vs))) ts (λ v. record { more = []; value = v ∷ []; spelled = ([], [], [], refl, none v, (refl, refl)) }) k
    (λ v rest e. both_at (M v) (λ vs. Nothing (v ∷ vs)) (m v) (λ vs. nothing (v ∷ vs)) rest (λ vs. (judge_nothing (v ∷ vs)).some) (next v rest e) (λ vs left g. (judge_nothing (v ∷ vs)).each left)))
    ((judge_nothing []).each ts)

many_within_judged : {T V : Type 0} (A : List T → V → Type 0) (p : T → Bool) (a : List T → Read T V) → Shortens a → Judge A a → (n : ℕ) (ts : List T) → length ts < n → Judged (Many A) (many p a) ts (many p a ts)
many_within_judged A p a shorter j zero ts h = absurd (omega arith)
many_within_judged A p a shorter j (suc n) ts h =
    let k = turn_at A (λ v. Many A) p a (λ v. many p a) ts (λ v. refl) (j.each ts) (λ v rest e. many_within_judged A p a shorter j n rest (let s = shorter ts v rest e in omega arith)) in
    let wide = widen (Turn A (λ v. Many A)) (Many A) (turn p a (λ v. many p a)) (many p a) ts (many_of_turn A) (λ f t r s e. many_is p a shorter (f ++ (t ∷ s))) (turn p a (λ v. many p a) ts) k in
    subst (λ q. Judged (Many A) (many p a) ts q) (sym (many_is p a shorter ts)) wide

pub judge_many : {T V : Type 0} {A : List T → V → Type 0} {a : List T → Read T V} (p : T → Bool) → Shortens a → Judge A a → Judge (Many A) (many p a)
judge_many {A = A} {a = a} p shorter j = record {
  some = many_some A;
  each = λ ts. many_within_judged A p a shorter j (suc (length ts)) ts (omega arith);
}

turns_within_judged : {T S V : Type 0} (A : S → List T → V → Type 0) (p : T → Bool) (a : S → List T → Read T V) (next : S → V → S) → ((s : S) → Shortens (a s)) → ((s : S) → Judge (A s) (a s)) → (n : ℕ) (s : S) (ts : List T) → length ts < n → Judged (Turns A next s) (turns p a next s) ts (turns p a next s ts)
turns_within_judged A p a next shorter j zero s ts h = absurd (omega arith)
turns_within_judged A p a next shorter j (suc n) s ts h =
    let k = turn_at (A s) (λ v. Turns A next (next s v)) p (a s) (λ v. turns p a next (next s v)) ts (λ v. refl) ((j s).each ts) (λ v rest e. turns_within_judged A p a next shorter j n (next s v) rest (let l = shorter s ts v rest e in omega arith)) in
    let wide = widen (Turn (A s) (λ v. Turns A next (next s v))) (Turns A next s) (turn p (a s) (λ v. turns p a next (next s v))) (turns p a next s) ts (turns_of_turn A next s) (λ f t r l e. turns_is p a next shorter s (f ++ (t ∷ l))) (turn p (a s) (λ v. turns p a next (next s v)) ts) k in
    subst (λ q. Judged (Turns A next s) (turns p a next s) ts q) (sym (turns_is p a next shorter s ts)) wide

pub judge_turns : {T S V : Type 0} {A : S → List T → V → Type 0} {a : S → List T → Read T V} (p : T → Bool) (next : S → V → S) → ((s : S) → Shortens (a s)) → ((s : S) → Judge (A s) (a s)) → (s : S) → Judge (Turns A next s) (turns p a next s)
judge_turns {A = A} {a = a} p next shorter j s = record {
  some = record { more = []; value = []; spelled = refl };
  each = λ ts. turns_within_judged A p a next shorter j (suc (length ts)) s ts (omega arith);
}
