-- Bounds that conditions set are found, one condition after the other.
use Rattle.std.proofs.Common.{◌≡◌, ◌⊎◌, inl, inr, ℕ, ◌+◌, ◌<◌, ◌++◌, List, [], ◌∷◌, length, get_or, take, Option, Some, sym, ap, ◌∙◌, subst, arith}
use Rattle.std.specs.Prelude.{Contains}
use Rattle.std.proofs.lemmas.List.{take_more}
use Rattle.std.proofs.lemmas.List.Elements.{Contains-append_cases, Contains-append_left, Contains-push, Contains-push_cases}
use Rattle.col_value.specs.declared.value.Value.{Value}
use Rattle.sql_bound.specs.declared.expr.Expr.{Expr}
use Rattle.row_bounds.specs.declared.bound.Bound.{Bound}
use Rattle.row_bounds.specs.Setting.{between, set_bound, unmoved, IsSet}

-- what is among some bounds is among others
abbrev pub Stays : List Bound → List Bound → Type 0
Stays old new = (b : Bound) → Contains old b → Contains new b

-- the bounds that conditions set to the first columns are among some
abbrev pub AreFound : List Expr → ℕ → List Bound → Type 0
AreFound es columns out = (e : Expr) (b : Bound) → Contains es e → set_bound e ≡ Some b → b.column < columns → Contains out b

pub found_more : (parts : List Expr) (i : ℕ) (part : Expr) (columns : ℕ) (out next : List Bound) → i < length parts → part ≡ get_or parts i part → Stays out next
    → ((b : Bound) → set_bound part ≡ Some b → b.column < columns → Contains next b) → AreFound (take i parts) columns out → AreFound (take (i + 1) parts) columns next
found_more parts i part columns out next lt is stays here was = λ e b among sets fits. by e b sets fits (Contains-push_cases (take i parts) part e (subst (λ (es : List Expr). Contains es e) split among))
  where
    split : take (i + 1) parts ≡ take i parts ++ part ∷ []
    split = take_more parts i part lt ∙ ap (λ (x : Expr). take i parts ++ x ∷ []) (sym is)

    by : (e : Expr) (b : Bound) → set_bound e ≡ Some b → b.column < columns → Contains (take i parts) e ⊎ (part ≡ e) → Contains next b
    by e b sets fits (inl earlier) = stays b (was e b earlier sets fits)
    by e b sets fits (inr same) = here b (ap set_bound same ∙ sets) fits

-- each of some bounds of columns from a place on is among those that were moved, or among those that are left
abbrev pub AreMoved : ℕ → List Bound → List Bound → List Bound → Type 0
AreMoved first all out rest = (b : Bound) → Contains all (unmoved first b) → Contains out b ⊎ Contains rest (unmoved first b)

same_unmoved : (first : ℕ) (b moved : Bound) → unmoved first moved ≡ unmoved first b → moved ≡ b
same_unmoved first b moved is =
    let at : first + moved.column ≡ first + b.column = ap (λ (x : Bound). x.column) is in
    let column : moved.column ≡ b.column = omega (arith, at) in
    ap (λ (n : ℕ). between n moved.least moved.greatest) column
    ∙ ap (λ (o : Option Value). between b.column o moved.greatest) (ap (λ (x : Bound). x.least) is)
    ∙ ap (λ (o : Option Value). between b.column b.least o) (ap (λ (x : Bound). x.greatest) is)

pub unmoved_none : (b : Bound) → b ≡ unmoved 0 b
unmoved_none b = let at : b.column ≡ 0 + b.column = omega arith in ap (λ (n : ℕ). between n b.least b.greatest) at

first_or_later : (x z : Bound) (xs : List Bound) → Contains (x ∷ xs) z → (x ≡ z) ⊎ Contains xs z
first_or_later x z xs among = by (Contains-append_cases (x ∷ []) xs z among)
  where
    one : Contains (x ∷ []) z → x ≡ z
    one here = alone (Contains-push_cases [] x z here)
      where
        alone : Contains [] z ⊎ (x ≡ z) → x ≡ z
        alone (inl (k, lt, is)) = absurd (omega (arith, lt))
        alone (inr same) = same

    by : Contains (x ∷ []) z ⊎ Contains xs z → (x ≡ z) ⊎ Contains xs z
    by (inl here) = inl (one here)
    by (inr later) = inr later

-- one more was moved
pub moved_more : (first : ℕ) (all was rest out next : List Bound) (head moved : Bound) → was ≡ head ∷ rest → next ≡ out ++ moved ∷ [] → ((b : Bound) → head ≡ unmoved first b → moved ≡ b) → AreMoved first all out was
    → AreMoved first all next rest
moved_more first all was rest out next head moved was_is next_is step before = λ b among. by b (before b among)
  where
    within : (b : Bound) → Contains (out ++ moved ∷ []) b → Contains next b
    within b = subst (λ (bs : List Bound). Contains bs b) (sym next_is)

    by : (b : Bound) → Contains out b ⊎ Contains was (unmoved first b) → Contains next b ⊎ Contains rest (unmoved first b)
    by b (inl earlier) = inl (within b (Contains-append_left out (moved ∷ []) b earlier))
    by b (inr left) = ends (first_or_later head (unmoved first b) rest (subst (λ (bs : List Bound). Contains bs (unmoved first b)) was_is left))
      where
        ends : (head ≡ unmoved first b) ⊎ Contains rest (unmoved first b) → Contains next b ⊎ Contains rest (unmoved first b)
        ends (inl here) = inl (within b (subst (Contains (out ++ moved ∷ [])) (step b here) (Contains-push out moved)))
        ends (inr later) = inr later

-- one was left out, which is no bound of these columns
pub moved_past : (first : ℕ) (all was rest out : List Bound) (head : Bound) → was ≡ head ∷ rest → ((b : Bound) → head ≡ unmoved first b → ⊥) → AreMoved first all out was → AreMoved first all out rest
moved_past first all was rest out head was_is none before = λ b among. by b (before b among)
  where
    by : (b : Bound) → Contains out b ⊎ Contains was (unmoved first b) → Contains out b ⊎ Contains rest (unmoved first b)
    by b (inl earlier) = inl earlier
    by b (inr left) = ends (first_or_later head (unmoved first b) rest (subst (λ (bs : List Bound). Contains bs (unmoved first b)) was_is left))
      where
        ends : (head ≡ unmoved first b) ⊎ Contains rest (unmoved first b) → Contains out b ⊎ Contains rest (unmoved first b)
        ends (inl here) = absurd (none b here)
        ends (inr later) = inr later

-- all were moved
pub all_moved : (first : ℕ) (all out rest : List Bound) → rest ≡ [] → AreMoved first all out rest → (b : Bound) → Contains all (unmoved first b) → Contains out b
all_moved first all out rest none moved b among = by (moved b among)
  where
    by : Contains out b ⊎ Contains rest (unmoved first b) → Contains out b
    by (inl here) = here
    by (inr (k, lt, is)) = absurd (let long : length rest ≡ 0 = ap (λ (bs : List Bound). length bs) none in omega (arith, lt, long))

-- a bound that a condition sets to the columns from a place on, counted from the first column
pub set_unmoved : (keep : List Expr) (first columns end : ℕ) (b : Bound) → end ≡ first + columns → IsSet keep first columns b → IsSet keep 0 end (unmoved first b)
set_unmoved keep first columns end b is set =
    let fits : b.column < columns = set.0 in (omega (arith, fits, is), (set.1.0, set.1.1, set.1.2 ∙ ap Some (unmoved_none (unmoved first b))))
