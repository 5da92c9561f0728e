-- What is read above a base isn't below it, and a base that stands among such numbers is the least of them.
use Rattle.std.proofs.Common.{◌≡◌, ℕ, zero, suc, ◌-◌, ◌^◌, ℤ, pos, negsuc, ◌+ℤ◌, ◌≤ℤ◌, List, [], ◌∷◌, Option, Some, None, Bool, ◌||◌, true, false, map, subst, sym, ap, refl, arith, inl, inr, ◌∙◌}
use Rattle.std.specs.Prelude.{int_lt, option_map}
use Rattle.std.specs.Int.{int_min}
use Rattle.std.specs.List.{list_any}
use Rattle.std.specs.Option.{unwrap_or}
use Rattle.std.specs.Ordering.{int_eq}
use Rattle.std.proofs.lemmas.Bool.{cases_Bool}
use Rattle.std.proofs.lemmas.Bool.Decides.{Decides-int_eq}
use Rattle.std.proofs.lemmas.Int.{ints, clamps}
use Rattle.std.proofs.lemmas.Option.{option_and_then_some}
use Rattle.col_bytes.specs.Fronts.{vint_at}
use Rattle.col_bytes.specs.Parts.{many}
use Rattle.col_bytes.proofs.Codecs.{let_through, some_is}
use Rattle.col_bytes.proofs.Combine.{map_some}
use Rattle.col_value.specs.declared.value.Value.{Value}
use Rattle.col_value.specs.declared.value.Value.TheVariants as value
use Rattle.block_codec.specs.Held.{number_value}
use Rattle.enc_delta.proofs.Least.{below_first, below_second}
use Rattle.enc_delta.specs.Delta.{IsNotBelow, number, lesser, least, base_of}
use Rattle.enc_delta.specs.Fronts.{made_above, value_above, above_at}

both_low : (b : ℤ) (x y : Option ℤ) → IsNotBelow b x → IsNotBelow b y → IsNotBelow b (lesser x y)
both_low b None y one two = two
both_low b (Some m) None one two = one
both_low b (Some m) (Some n) one two = omega (arith, ints, clamps, one, two)

value_low : (base : ℤ) (d : ℕ) (v : Value) → value_above base d ≡ Some v → IsNotBelow base (number v)
value_low base zero v e = subst (λ (w : Value). IsNotBelow base (number w)) (some_is value.Null v e) tt
value_low base (suc k) v e =
    let n = base +ℤ pos k in
    let g = let_through (int_lt (pos (2 ^ 63 - 1)) n) (value.Int n) v e in
    let low : base ≤ℤ n = omega (arith, ints) in
    subst (λ (w : Value). IsNotBelow base (number w)) g.1 low

one_low : (base : ℤ) (bytes : List ℕ) (x : Value × List ℕ) → above_at base bytes ≡ Some x → IsNotBelow base (number x.0)
unfolding above_at
one_low base bytes x e =
    option_and_then_some (made_above base) (vint_at bytes) x e
    (λ d is h.
    let m = map_some (λ (v : Value). (v, d.1)) (value_above base d.0) x h in
    subst (λ (y : Value × List ℕ). IsNotBelow base (number y.0)) m.2 (value_low base d.0 m.0 m.1))

many_low : (base : ℤ) (n : ℕ) (bytes : List ℕ) (x : List Value × List ℕ) → many (above_at base) n bytes ≡ Some x → IsNotBelow base (least x.0)
unfolding many
many_low base zero bytes x e = subst (λ (y : List Value × List ℕ). IsNotBelow base (least y.0)) (some_is ([], bytes) x e) tt
many_low base (suc n) bytes x e =
    option_and_then_some (λ (a : Value × List ℕ). option_map (λ (y : List Value × List ℕ). (a.0 ∷ y.0, y.1)) (many (above_at base) n a.1)) (above_at base bytes) x e
    (λ a is h.
    let m = map_some (λ (y : List Value × List ℕ). (a.0 ∷ y.0, y.1)) (many (above_at base) n a.1) x h in
    subst (λ (z : List Value × List ℕ). IsNotBelow base (least z.0)) m.2
    (both_low base (number a.0) (least m.0.0) (one_low base bytes a is) (many_low base n a.1 m.0 m.1)))

pub values_low : (base : ℤ) (n : ℕ) (bytes : List ℕ) (vs : List Value) (rest : List ℕ) → many (above_at base) n bytes ≡ Some (vs, rest) → IsNotBelow base (least vs)
values_low base n bytes vs rest e = many_low base n bytes (vs, rest) e

least_here : (b : ℤ) (y : Option ℤ) → IsNotBelow b y → lesser (Some b) y ≡ Some b
least_here b None low = refl
least_here b (Some n) low = let m : int_min b n ≡ b = omega (arith, ints, clamps, low) in ap Some m

least_behind : (b : ℤ) (x : Option ℤ) → IsNotBelow b x → lesser x (Some b) ≡ Some b
least_behind b None low = refl
least_behind b (Some n) low = let m : int_min n b ≡ b = omega (arith, ints, clamps, low) in ap Some m

is_number : (n : ℤ) → negsuc (2 ^ 63 - 2) ≤ℤ n → number (number_value n) ≡ Some n
is_number n fit = let other : int_eq n (negsuc (2 ^ 63 - 1)) ≡ false = grind (arith, ints) in rw other refl

least_among : (base : ℤ) (ns : List ℤ) → negsuc (2 ^ 63 - 2) ≤ℤ base → IsNotBelow base (least (map number_value ns)) → list_any (λ m. int_eq m base) ns ≡ true
    → least (map number_value ns) ≡ Some base
least_among base [] fit low any = let no : false ≡ true = any in absurd cc
least_among base (n ∷ ns) fit low any =
    let first = below_first base (number (number_value n)) (least (map number_value ns)) low in
    let second = below_second base (number (number_value n)) (least (map number_value ns)) low in
    elim (cases_Bool (int_eq n base)) [
      | inl t ↦ let here : n ≡ base = (Decides-int_eq n base).0 t in
          subst (λ (m : ℤ). lesser (number (number_value m)) (least (map number_value ns)) ≡ Some base) (sym here)
          (ap (λ (x : Option ℤ). lesser x (least (map number_value ns))) (is_number base fit) ∙ least_here base (least (map number_value ns)) second)
      | inr f ↦ let rest : list_any (λ m. int_eq m base) ns ≡ true = subst (λ (b : Bool). (b || list_any (λ m. int_eq m base) ns) ≡ true) f any in
          ap (lesser (number (number_value n))) (least_among base ns fit second rest) ∙ least_behind base (number (number_value n)) first
    ]

pub among : (base : ℤ) (ns : List ℤ) → negsuc (2 ^ 63 - 2) ≤ℤ base → IsNotBelow base (least (map number_value ns)) → list_any (λ m. int_eq m base) ns ≡ true
    → base_of (map number_value ns) ≡ base
among base ns fit low any = ap (λ (x : Option ℤ). unwrap_or x (pos 0)) (least_among base ns fit low any)
