-- The least value of some values is the same for every order of them.
use Rattle.std.proofs.Common.{◌≡◌, ℕ, ◌+◌, ◌<◌, if◌then◌else◌, Bool, true, false, cond, List, [], ◌∷◌, fold, refl, sym, ap, ◌∙◌, arith}
use Rattle.std.proofs.lemmas.Cmp.{tied_itself}
use Rattle.std.proofs.lemmas.List.Sums.{sum_by-cons}
use Rattle.std.specs.Cmp.{IsTotalOrder}
use Rattle.std.specs.FinMap.{IsAntisymmetric}
use Rattle.std.specs.List.{sum_by}
use Rattle.std.specs.Ordering.{is_eq, is_lt, ordering_reverse}
use Rattle.std.specs.declared.cmp.Ordering.{Ordering}
use Rattle.std.specs.declared.cmp.Ordering.TheVariants.{Less, Equal, Greater}
use Rattle.col_value.specs.Laws.{tie_told}
use Rattle.query_laws.proofs.Alike.{Alike}

less_told : (o : Ordering) → is_lt o ≡ true → o ≡ Less
less_told Less e = refl
less_told Equal e = cc
less_told Greater e = cc

tie : (o p : Ordering) → o ≡ ordering_reverse p → is_lt o ≡ false → is_lt p ≡ false → o ≡ Equal
tie o Less e a b = cc
tie o Equal e a b = e
tie o Greater e a b = let c : is_lt o ≡ true = ap is_lt e in cc

module _ {X : Type 0} (R : X → X → Ordering) where
  -- the lesser of two, the first where they tie
  abbrev pub best : X → X → X
  best a b = if is_lt (R b a) then b else a

  -- one of the list that no other is less than, by how many tie with it and how many are less
  record IsBest (m : X) (l : List X) : Type 0 where
    there : 0 < sum_by (λ v. cond (is_eq (R m v)) 1 0) l
    least : sum_by (λ v. cond (is_lt (R v m)) 1 0) l ≡ 0

-- where no element passes the one test, none passes a test that implies it
none_either : {X : Type 0} (p q : X → Bool) → ((x : X) → p x ≡ true → q x ≡ true) → (l : List X) → sum_by (λ v. cond (q v) 1 0) l ≡ 0 → sum_by (λ v. cond (p v) 1 0) l ≡ 0
none_either p q h [] e = refl
none_either {X} p q h (x ∷ l) e =
    let whole : sum_by (λ (v : X). cond (q v) 1 0) (x ∷ l) ≡ cond (q x) 1 0 + sum_by (λ (v : X). cond (q v) 1 0) l = sum_by-cons (λ (v : X). cond (q v) 1 0) x l in
    let rest : sum_by (λ (v : X). cond (p v) 1 0) l ≡ 0 = none_either p q h l (omega arith) in
    let here : cond {A = ℕ} (p x) 1 0 ≡ 0 =
    elim (p x) as (λ b. p x ≡ b → cond {A = ℕ} b 1 0 ≡ 0) [
      | true ↦ λ (k : p x ≡ true). let c : cond {A = ℕ} (q x) 1 0 ≡ 1 = ap (λ (b : Bool). cond {A = ℕ} b 1 0) (h x k) in absurd (omega arith)
      | false ↦ λ (k : p x ≡ false). refl
    ] refl in
    omega (arith, sum_by-cons (λ (v : X). cond (p v) 1 0) x l)

-- an element that passes the one test, where none passes the other
witness : {X : Type 0} (p q : X → Bool) (l : List X) → 0 < sum_by (λ v. cond (p v) 1 0) l → sum_by (λ v. cond (q v) 1 0) l ≡ 0 → (x : X) × (p x ≡ true) × (q x ≡ false)
witness p q [] h e = absurd (omega arith)
witness {X} p q (x ∷ l) h e =
    let wanted : sum_by (λ (v : X). cond (p v) 1 0) (x ∷ l) ≡ cond (p x) 1 0 + sum_by (λ (v : X). cond (p v) 1 0) l = sum_by-cons (λ (v : X). cond (p v) 1 0) x l in
    let other : sum_by (λ (v : X). cond (q v) 1 0) (x ∷ l) ≡ cond (q x) 1 0 + sum_by (λ (v : X). cond (q v) 1 0) l = sum_by-cons (λ (v : X). cond (q v) 1 0) x l in
    let none_here : cond {A = ℕ} (q x) 1 0 ≡ 0 = omega arith in
    let failed : q x ≡ false = elim (q x) as (λ b. cond {A = ℕ} b 1 0 ≡ 0 → b ≡ false) [ true ↦ λ (k : cond {A = ℕ} true 1 0 ≡ 0). absurd (omega arith) | false ↦ λ (k : cond {A = ℕ} false 1 0 ≡ 0). refl ] none_here in
    elim (p x) as (λ b. p x ≡ b → (y : X) × (p y ≡ true) × (q y ≡ false)) [
      | true ↦ λ (k : p x ≡ true). (x, k, failed)
      | false ↦ λ (k : p x ≡ false). let none : cond {A = ℕ} (p x) 1 0 ≡ 0 = ap (λ (b : Bool). cond {A = ℕ} b 1 0) k in witness p q l (omega arith) (omega arith)
    ] refl

module _ {X : Type 0} (R : X → X → Ordering) (o : IsTotalOrder R) where
  tied : (w : X) → cond {A = ℕ} (is_eq (R w w)) 1 0 ≡ 1
  tied w = ap (λ (r : Ordering). cond {A = ℕ} (is_eq r) 1 0) (tied_itself o w)

  not_less : (w : X) → cond {A = ℕ} (is_lt (R w w)) 1 0 ≡ 0
  not_less w = ap (λ (r : Ordering). cond {A = ℕ} (is_lt r) 1 0) (tied_itself o w)

  first_best : (w : X) → IsBest R w (w ∷ [])
  first_best w = record {
    there = omega (arith, sum_by-cons (λ (v : X). cond (is_eq (R w v)) 1 0) w [], tied w);
    least = let whole : sum_by (λ (v : X). cond (is_lt (R v w)) 1 0) (w ∷ []) ≡ cond (is_lt (R w w)) 1 0 + 0 = sum_by-cons (λ (v : X). cond (is_lt (R v w)) 1 0) w [] in omega (arith, not_less w);
  }

  next_best : (m : X) (l : List X) (v : X) → IsBest R m l → IsBest R (best R m v) (v ∷ l)
  next_best m l v b =
      elim (is_lt (R v m)) as (λ t. is_lt (R v m) ≡ t → IsBest R (if t then v else m) (v ∷ l)) [
        | true ↦ λ (h : is_lt (R v m) ≡ true). record {
          there = omega (arith, sum_by-cons (λ (u : X). cond (is_eq (R v u)) 1 0) v l, tied v);
          least =
              let rest : sum_by (λ (u : X). cond (is_lt (R u v)) 1 0) l ≡ 0 =
              none_either (λ u. is_lt (R u v)) (λ u. is_lt (R u m))
              (λ u k. ap is_lt (o.trans u v m (less_told (R u v) k) (less_told (R v m) h))) l b.least in
              omega (arith, sum_by-cons (λ (u : X). cond (is_lt (R u v)) 1 0) v l, not_less v);
        }
        | false ↦ λ (h : is_lt (R v m) ≡ false). record {
          there = omega (arith, sum_by-cons (λ (u : X). cond (is_eq (R m u)) 1 0) v l, b.there);
          least = let here : cond {A = ℕ} (is_lt (R v m)) 1 0 ≡ 0 = ap (λ (t : Bool). cond {A = ℕ} t 1 0) h in omega (arith, sum_by-cons (λ (u : X). cond (is_lt (R u m)) 1 0) v l, b.least);
        }
      ] refl

  all_best : (ws : List X) (m : X) (l : List X) → IsBest R m l → IsBest R (fold (best R) m ws) (fold (λ k v. v ∷ k) l ws)
  all_best [] m l b = b
  all_best (v ∷ ws) m l b = all_best ws (best R m v) (v ∷ l) (next_best m l v b)

  best_alike : (m : X) (l k : List X) → Alike l k → IsBest R m l → IsBest R m k
  best_alike m l k a b = record {
    there = omega (arith, a.sums (λ v. cond (is_eq (R m v)) 1 0), b.there);
    least = sym (a.sums (λ v. cond (is_lt (R v m)) 1 0)) ∙ b.least;
  }

  one_best : IsAntisymmetric R → (m n : X) (l : List X) → IsBest R m l → IsBest R n l → m ≡ n
  one_best exact m n l b c =
      let v = witness (λ u. is_eq (R n u)) (λ u. is_lt (R u m)) l c.there b.least in
      let u = witness (λ w. is_eq (R m w)) (λ w. is_lt (R w n)) l b.there c.least in
      let n_not : is_lt (R n m) ≡ false = ap (λ (x : X). is_lt (R x m)) (exact n v.0 (tie_told (R n v.0) v.1)) ∙ v.2 in
      let m_not : is_lt (R m n) ≡ false = ap (λ (x : X). is_lt (R x n)) (exact m u.0 (tie_told (R m u.0) u.1)) ∙ u.2 in
      exact m n (tie (R m n) (R n m) (o.antisymm m n) m_not n_not)

onto_sum : {X : Type 0} (f : X → ℕ) (ws l : List X) → sum_by f (fold (λ k v. v ∷ k) l ws) ≡ sum_by f l + sum_by f ws
onto_sum f [] l = omega arith
onto_sum f (v ∷ ws) l = omega (arith, onto_sum f ws (v ∷ l), sum_by-cons f v l, sum_by-cons f v ws)

turned : {X : Type 0} (w : X) (ws : List X) → Alike (fold (λ k v. v ∷ k) (w ∷ []) ws) (w ∷ ws)
turned w ws = record { sums = λ f. omega (arith, onto_sum f ws (w ∷ []), sum_by-cons f w [], sum_by-cons f w ws) }

pub same_best : {X : Type 0} (R : X → X → Ordering) → IsTotalOrder R → IsAntisymmetric R → (w : X) (ws : List X) (v : X) (vs : List X) → Alike (w ∷ ws) (v ∷ vs) → fold (best R) w ws ≡ fold (best R) v vs
same_best R o exact w ws v vs a =
    let left = best_alike R o (fold (best R) w ws) (fold (λ k u. u ∷ k) (w ∷ []) ws) (w ∷ ws) (turned w ws) (all_best R o ws w (w ∷ []) (first_best R o w)) in
    let right = best_alike R o (fold (best R) v vs) (fold (λ k u. u ∷ k) (v ∷ []) vs) (v ∷ vs) (turned v vs) (all_best R o vs v (v ∷ []) (first_best R o v)) in
    one_best R o exact (fold (best R) w ws) (fold (best R) v vs) (v ∷ vs) (best_alike R o (fold (best R) w ws) (w ∷ ws) (v ∷ vs) a left) right
