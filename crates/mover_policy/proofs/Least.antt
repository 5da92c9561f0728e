-- The least of some things under a total order, taken one after the other.
use Rattle.std.proofs.Common.{◌≡◌, not, Bool, true, false, cond, List, [], ◌∷◌, Option, Some, None, refl, sym, ap, ap₂, ◌∙◌}
use Rattle.std.specs.Prelude.{◌&&◌, find}
use Rattle.std.specs.Option.{option_map_or}
use Rattle.std.specs.List.{list_all}
use Rattle.std.specs.declared.cmp.Ordering.{Ordering}
use Rattle.std.specs.declared.cmp.Ordering.TheVariants.{Less, Equal, Greater}
use Rattle.std.specs.Ordering.{is_lt, ordering_reverse}
use Rattle.std.specs.Cmp.{IsTotalOrder, tied_itself, alike_right}

module _ {X : Type 0} (cmp : X → X → Ordering) (total : IsTotalOrder cmp) where
  abbrev lower : X → X → Bool
  lower a b = is_lt (cmp a b)

  -- the first than which none of them is lower
  abbrev pub least : List X → Option X
  least xs = find (λ s. list_all (λ other. not (lower other s)) xs) xs

  lt_less : (o : Ordering) → is_lt o ≡ true → o ≡ Less
  lt_less Less is = refl
  lt_less Equal is = absurd (cc)
  lt_less Greater is = absurd (cc)

  -- no thing is narrower than itself
  not_itself : (s : X) → lower s s ≡ false
  not_itself s = ap is_lt (tied_itself total s)

  -- narrower than a narrower one
  chained : (a b c : X) → lower a b ≡ true → lower b c ≡ true → lower a c ≡ true
  chained a b c first second = ap is_lt (total.trans a b c (lt_less (cmp a b) first) (lt_less (cmp b c) second))

  -- narrower than one that isn't wider than another
  widened : (a b c : X) → lower a b ≡ true → lower c b ≡ false → lower a c ≡ true
  widened a b c first other = by (cmp c b) refl
    where
      less : cmp a b ≡ Less
      less = lt_less (cmp a b) first

      by : (o : Ordering) → cmp c b ≡ o → lower a c ≡ true
      by Less is = let t : true ≡ false = sym (ap is_lt is) ∙ other in absurd (cc)
      by Equal is = ap is_lt (alike_right total c b a is ∙ less)
      by Greater is = ap is_lt (total.trans a b c less (total.antisymm b c ∙ ap ordering_reverse is))

  -- no one of these is narrower
  abbrev is_least : List X → X → Bool
  is_least shapes s = list_all (λ other. not (lower other s)) shapes

  abbrev pub least_from : Option X → List X → Option X
  least_from best [] = best
  least_from best (s ∷ ss) = least_from (cond (option_map_or (λ b. lower s b) best true) (Some s) best) ss

  find_same : (p q : X → Bool) → ((s : X) → p s ≡ q s) → (ss : List X) → find p ss ≡ find q ss
  find_same p q same [] = refl
  find_same p q same (s ∷ ss) = ap₂ (λ (b : Bool) (o : Option X). cond b (Some s) o) (same s) (find_same p q same ss)

  -- one that is wider than another of them is not the least
  drop_wider : (b y : X) (ss : List X) → lower y b ≡ true → least (b ∷ y ∷ ss) ≡ least (y ∷ ss)
  drop_wider b y ss wider =
      ap (λ (k : Bool). cond k (Some b) (find (is_least (b ∷ y ∷ ss)) (y ∷ ss))) out ∙ find_same (is_least (b ∷ y ∷ ss)) (is_least (y ∷ ss)) same (y ∷ ss)
    where
      hidden : (x k z : Bool) → k ≡ true → (x && (not k && z)) ≡ false
      hidden true true z is = refl
      hidden false true z is = refl
      hidden x false z is = absurd (cc)

      out : is_least (b ∷ y ∷ ss) b ≡ false
      out = hidden (not (lower b b)) (lower y b) (list_all (λ other. not (lower other b)) ss) wider

      same : (s : X) → is_least (b ∷ y ∷ ss) s ≡ is_least (y ∷ ss) s
      same s = by (lower b s) (lower y s) (list_all (λ other. not (lower other s)) ss) refl refl
        where
          by : (x k z : Bool) → lower b s ≡ x → lower y s ≡ k → (not x && (not k && z)) ≡ (not k && z)
          by false k z is that = refl
          by true true z is that = refl
          by true false z is that = let t : lower y s ≡ true = chained y b s wider is in absurd (cc)

  -- narrower than a narrower one's equal or lesser
  before : (b y x : X) → lower y b ≡ false → lower y x ≡ true → lower b x ≡ true
  before b y x later that = by (cmp y b) refl
    where
      by : (o : Ordering) → cmp y b ≡ o → lower b x ≡ true
      by Less is = let t : true ≡ false = sym (ap is_lt is) ∙ later in absurd (cc)
      by Equal is = ap is_lt (sym (total.congr y b x is) ∙ lt_less (cmp y x) that)
      by Greater is = ap is_lt (total.trans b y x (total.antisymm b y ∙ ap ordering_reverse is) (lt_less (cmp y x) that))

  -- a thing that isn't narrower than an earlier one changes no other's place
  skip_one : (b y s : X) (ss : List X) → lower y b ≡ false → is_least (b ∷ y ∷ ss) s ≡ is_least (b ∷ ss) s
  skip_one b y s ss later = by (lower b s) (lower y s) (list_all (λ other. not (lower other s)) ss) refl refl
    where
      by : (x k z : Bool) → lower b s ≡ x → lower y s ≡ k → (not x && (not k && z)) ≡ (not x && z)
      by true k z is that = refl
      by false false z is that = refl
      by false true z is that = let t : lower b s ≡ true = before b y s later that in absurd (cc)

  right_false : (k z : Bool) → z ≡ false → (k && z) ≡ false
  right_false true z is = is
  right_false false z is = refl

  -- where some one is narrower than the earlier one, it is narrower than the later one
  wider_still : (b y : X) (xs : List X) → lower y b ≡ false → list_all (λ other. not (lower other b)) xs ≡ false → list_all (λ other. not (lower other y)) xs ≡ false
  wider_still b y [] later is = absurd (cc)
  wider_still b y (x ∷ xs) later is = each (lower x b) refl is (λ none. wider_still b y xs later none)
    where
      each : (k : Bool) → lower x b ≡ k → (not k && list_all (λ other. not (lower other b)) xs) ≡ false
          → (list_all (λ other. not (lower other b)) xs ≡ false → list_all (λ other. not (lower other y)) xs ≡ false)
          → (not (lower x y) && list_all (λ other. not (lower other y)) xs) ≡ false
      each true that none rest = ap (λ (k : Bool). not k && list_all (λ other. not (lower other y)) xs) (widened x b y that later)
      each false that none rest = right_false (not (lower x y)) (list_all (λ other. not (lower other y)) xs) (rest none)

  -- where the earlier one isn't the least, the later one isn't
  not_second : (b y : X) (ss : List X) → lower y b ≡ false → is_least (b ∷ ss) b ≡ false → is_least (b ∷ ss) y ≡ false
  not_second b y ss later out = by (lower b y) refl
    where
      rest : list_all (λ other. not (lower other b)) ss ≡ false
      rest = ap (λ (k : Bool). not k && list_all (λ other. not (lower other b)) ss) (sym (not_itself b)) ∙ out

      by : (k : Bool) → lower b y ≡ k → (not k && list_all (λ other. not (lower other y)) ss) ≡ false
      by true is = refl
      by false is = wider_still b y ss later rest

  skip_later : (b y : X) (ss : List X) → lower y b ≡ false → least (b ∷ y ∷ ss) ≡ least (b ∷ ss)
  skip_later b y ss later = front (is_least (b ∷ ss) b) refl
    where
      front : (k : Bool) → is_least (b ∷ ss) b ≡ k → least (b ∷ y ∷ ss) ≡ least (b ∷ ss)
      front true is =
          ap (λ (k : Bool). cond k (Some b) (find (is_least (b ∷ y ∷ ss)) (y ∷ ss))) (skip_one b y b ss later ∙ is)
          ∙ sym (ap (λ (k : Bool). cond k (Some b) (find (is_least (b ∷ ss)) ss)) is)
      front false is =
          ap (λ (k : Bool). cond k (Some b) (find (is_least (b ∷ y ∷ ss)) (y ∷ ss))) (skip_one b y b ss later ∙ is)
          ∙ ap (λ (k : Bool). cond k (Some y) (find (is_least (b ∷ y ∷ ss)) ss)) (skip_one b y y ss later ∙ not_second b y ss later is)
          ∙ find_same (is_least (b ∷ y ∷ ss)) (is_least (b ∷ ss)) (λ s. skip_one b y s ss later) ss
          ∙ sym (ap (λ (k : Bool). cond k (Some b) (find (is_least (b ∷ ss)) ss)) is)

  one_alone : (b : X) → least (b ∷ []) ≡ Some b
  one_alone b = ap (λ (k : Bool). cond (not k && true) (Some b) None) (not_itself b)

  least_found : (b : X) (ss : List X) → least_from (Some b) ss ≡ least (b ∷ ss)
  least_found b [] = sym (one_alone b)
  least_found b (y ∷ ss) = by (lower y b) refl (λ s. least_found s ss)
    where
      by : (k : Bool) → lower y b ≡ k → ((s : X) → least_from (Some s) ss ≡ least (s ∷ ss)) → least_from (cond k (Some y) (Some b)) ss ≡ least (b ∷ y ∷ ss)
      by true is rest = rest y ∙ sym (drop_wider b y ss is)
      by false is rest = rest b ∙ sym (skip_later b y ss is)

  pub all_found : (ss : List X) → least_from None ss ≡ least ss
  all_found [] = refl
  all_found (s ∷ ss) = least_found s ss

  -- some thing is the least, where there is any
  is_there : (b : X) (xs : List X) → least_from (Some b) xs ≡ None → ⊥
  is_there b [] is = cc
  is_there b (x ∷ xs) is = by (lower x b) is (λ s e. is_there s xs e)
    where
      by : (k : Bool) → least_from (cond k (Some x) (Some b)) xs ≡ None → ((s : X) → least_from (Some s) xs ≡ None → ⊥) → ⊥
      by true e rest = rest x e
      by false e rest = rest b e

  pub some_least : (s : X) (ss : List X) → least (s ∷ ss) ≡ None → ⊥
  some_least s ss none = is_there s ss (least_found s ss ∙ none)
