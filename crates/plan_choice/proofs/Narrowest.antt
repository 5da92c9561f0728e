-- The narrowest of some projections, taken one after the other.
use Rattle.std.proofs.Common.{◌≡◌, not, Bool, true, false, cond, List, [], ◌∷◌, length, map, filter, Option, Some, None, refl, sym, ap, ap₂, ◌∙◌}
use Rattle.std.specs.Prelude.{◌&&◌, find, option_map}
use Rattle.std.specs.Option.{option_map_or}
use Rattle.std.specs.List.{list_all}
use Rattle.std.specs.declared.cmp.Ordering.{Ordering}
use Rattle.std.specs.declared.cmp.Ordering.TheVariants.{Less, Equal, Greater}
use Rattle.std.specs.Ordering.{is_lt, ordering_reverse, nat_cmp, on, then_cmp}
use Rattle.std.specs.Cmp.Lexicographic.{slice_cmp, nat_list_cmp_total}
use Rattle.std.specs.Cmp.{IsTotalOrder, nat_cmp_total, on_total, then_total, tied_itself, alike_right}
use Rattle.catalog_types.specs.declared.catalogue.Projection.{Projection}
use Rattle.db_model.specs.Database.{Shape}
use Rattle.db_model.specs.Choice.{is_narrower, narrowest}
use Rattle.folder_model.specs.Projections.{shape_of}
use Rattle.plan_choice.specs.Choosing.{is_better, best_from}

abbrev cmp : Shape → Shape → Ordering
cmp = then_cmp (on (λ x. length x.columns) nat_cmp) (on (λ x. x.name) (slice_cmp nat_cmp))

cmp_total : IsTotalOrder cmp
cmp_total = then_total (on_total (λ x. length x.columns) nat_cmp_total) (on_total (λ x. x.name) nat_list_cmp_total)

lt_less : (o : Ordering) → is_lt o ≡ true → o ≡ Less
lt_less Less is = refl
lt_less Equal is = absurd (cc)
lt_less Greater is = absurd (cc)

-- no projection is narrower than itself
not_itself : (s : Shape) → is_narrower s s ≡ false
not_itself s = ap is_lt (tied_itself cmp_total s)

-- narrower than a narrower one
chained : (a b c : Shape) → is_narrower a b ≡ true → is_narrower b c ≡ true → is_narrower a c ≡ true
chained a b c first second = ap is_lt (cmp_total.trans a b c (lt_less (cmp a b) first) (lt_less (cmp b c) second))

-- narrower than one that isn't wider than another
widened : (a b c : Shape) → is_narrower a b ≡ true → is_narrower c b ≡ false → is_narrower a c ≡ true
widened a b c first other = by (cmp c b) refl
  where
    less : cmp a b ≡ Less
    less = lt_less (cmp a b) first

    by : (o : Ordering) → cmp c b ≡ o → is_narrower a c ≡ true
    by Less is = let t : true ≡ false = sym (ap is_lt is) ∙ other in absurd (cc)
    by Equal is = ap is_lt (alike_right cmp_total c b a is ∙ less)
    by Greater is = ap is_lt (cmp_total.trans a b c less (cmp_total.antisymm b c ∙ ap ordering_reverse is))

-- no one of these is narrower
abbrev is_least : List Shape → Shape → Bool
is_least shapes s = list_all (λ other. not (is_narrower other s)) shapes

abbrev least_from : Option Shape → List Shape → Option Shape
least_from best [] = best
least_from best (s ∷ ss) = least_from (cond (option_map_or (λ b. is_narrower s b) best true) (Some s) best) ss

find_same : (p q : Shape → Bool) → ((s : Shape) → p s ≡ q s) → (ss : List Shape) → find p ss ≡ find q ss
find_same p q same [] = refl
find_same p q same (s ∷ ss) = ap₂ (λ (b : Bool) (o : Option Shape). cond b (Some s) o) (same s) (find_same p q same ss)

-- one that is wider than another of them is not the least
drop_wider : (b y : Shape) (ss : List Shape) → is_narrower y b ≡ true → narrowest (b ∷ y ∷ ss) ≡ narrowest (y ∷ ss)
drop_wider b y ss wider =
    ap (λ (k : Bool). cond k (Some b) (find (is_least (b ∷ y ∷ ss)) (y ∷ ss))) out ∙ find_same (is_least (b ∷ y ∷ ss)) (is_least (y ∷ ss)) same (y ∷ ss)
  where
    hidden : (x k z : Bool) → k ≡ true → (x && (not k && z)) ≡ false
    hidden true true z is = refl
    hidden false true z is = refl
    hidden x false z is = absurd (cc)

    out : is_least (b ∷ y ∷ ss) b ≡ false
    out = hidden (not (is_narrower b b)) (is_narrower y b) (list_all (λ other. not (is_narrower other b)) ss) wider

    same : (s : Shape) → is_least (b ∷ y ∷ ss) s ≡ is_least (y ∷ ss) s
    same s = by (is_narrower b s) (is_narrower y s) (list_all (λ other. not (is_narrower other s)) ss) refl refl
      where
        by : (x k z : Bool) → is_narrower b s ≡ x → is_narrower y s ≡ k → (not x && (not k && z)) ≡ (not k && z)
        by false k z is that = refl
        by true true z is that = refl
        by true false z is that = let t : is_narrower y s ≡ true = chained y b s wider is in absurd (cc)

-- narrower than a narrower one's equal or lesser
before : (b y x : Shape) → is_narrower y b ≡ false → is_narrower y x ≡ true → is_narrower b x ≡ true
before b y x later that = by (cmp y b) refl
  where
    by : (o : Ordering) → cmp y b ≡ o → is_narrower b x ≡ true
    by Less is = let t : true ≡ false = sym (ap is_lt is) ∙ later in absurd (cc)
    by Equal is = ap is_lt (sym (cmp_total.congr y b x is) ∙ lt_less (cmp y x) that)
    by Greater is = ap is_lt (cmp_total.trans b y x (cmp_total.antisymm b y ∙ ap ordering_reverse is) (lt_less (cmp y x) that))

-- a projection that isn't narrower than an earlier one changes no other's place
skip_one : (b y s : Shape) (ss : List Shape) → is_narrower y b ≡ false → is_least (b ∷ y ∷ ss) s ≡ is_least (b ∷ ss) s
skip_one b y s ss later = by (is_narrower b s) (is_narrower y s) (list_all (λ other. not (is_narrower other s)) ss) refl refl
  where
    by : (x k z : Bool) → is_narrower b s ≡ x → is_narrower y s ≡ k → (not x && (not k && z)) ≡ (not x && z)
    by true k z is that = refl
    by false false z is that = refl
    by false true z is that = let t : is_narrower b s ≡ true = before b y s later that in absurd (cc)

right_false : (k z : Bool) → z ≡ false → (k && z) ≡ false
right_false true z is = is
right_false false z is = refl

-- where some one is narrower than the earlier one, it is narrower than the later one
wider_still : (b y : Shape) (xs : List Shape) → is_narrower y b ≡ false → list_all (λ other. not (is_narrower other b)) xs ≡ false → list_all (λ other. not (is_narrower other y)) xs ≡ false
wider_still b y [] later is = absurd (cc)
wider_still b y (x ∷ xs) later is = each (is_narrower x b) refl is (λ none. wider_still b y xs later none)
  where
    each : (k : Bool) → is_narrower x b ≡ k → (not k && list_all (λ other. not (is_narrower other b)) xs) ≡ false
        → (list_all (λ other. not (is_narrower other b)) xs ≡ false → list_all (λ other. not (is_narrower other y)) xs ≡ false)
        → (not (is_narrower x y) && list_all (λ other. not (is_narrower other y)) xs) ≡ false
    each true that none rest = ap (λ (k : Bool). not k && list_all (λ other. not (is_narrower other y)) xs) (widened x b y that later)
    each false that none rest = right_false (not (is_narrower x y)) (list_all (λ other. not (is_narrower other y)) xs) (rest none)

-- where the earlier one isn't the least, the later one isn't
not_second : (b y : Shape) (ss : List Shape) → is_narrower y b ≡ false → is_least (b ∷ ss) b ≡ false → is_least (b ∷ ss) y ≡ false
not_second b y ss later out = by (is_narrower b y) refl
  where
    rest : list_all (λ other. not (is_narrower other b)) ss ≡ false
    rest = ap (λ (k : Bool). not k && list_all (λ other. not (is_narrower other b)) ss) (sym (not_itself b)) ∙ out

    by : (k : Bool) → is_narrower b y ≡ k → (not k && list_all (λ other. not (is_narrower other y)) ss) ≡ false
    by true is = refl
    by false is = wider_still b y ss later rest

skip_later : (b y : Shape) (ss : List Shape) → is_narrower y b ≡ false → narrowest (b ∷ y ∷ ss) ≡ narrowest (b ∷ ss)
skip_later b y ss later = front (is_least (b ∷ ss) b) refl
  where
    front : (k : Bool) → is_least (b ∷ ss) b ≡ k → narrowest (b ∷ y ∷ ss) ≡ narrowest (b ∷ ss)
    front true is =
        ap (λ (k : Bool). cond k (Some b) (find (is_least (b ∷ y ∷ ss)) (y ∷ ss))) (skip_one b y b ss later ∙ is)
        ∙ sym (ap (λ (k : Bool). cond k (Some b) (find (is_least (b ∷ ss)) ss)) is)
    front false is =
        ap (λ (k : Bool). cond k (Some b) (find (is_least (b ∷ y ∷ ss)) (y ∷ ss))) (skip_one b y b ss later ∙ is)
        ∙ ap (λ (k : Bool). cond k (Some y) (find (is_least (b ∷ y ∷ ss)) ss)) (skip_one b y y ss later ∙ not_second b y ss later is)
        ∙ find_same (is_least (b ∷ y ∷ ss)) (is_least (b ∷ ss)) (λ s. skip_one b y s ss later) ss
        ∙ sym (ap (λ (k : Bool). cond k (Some b) (find (is_least (b ∷ ss)) ss)) is)

one_alone : (b : Shape) → narrowest (b ∷ []) ≡ Some b
one_alone b = ap (λ (k : Bool). cond (not k && true) (Some b) None) (not_itself b)

least_found : (b : Shape) (ss : List Shape) → least_from (Some b) ss ≡ narrowest (b ∷ ss)
least_found b [] = sym (one_alone b)
least_found b (y ∷ ss) = by (is_narrower y b) refl (λ s. least_found s ss)
  where
    by : (k : Bool) → is_narrower y b ≡ k → ((s : Shape) → least_from (Some s) ss ≡ narrowest (s ∷ ss)) → least_from (cond k (Some y) (Some b)) ss ≡ narrowest (b ∷ y ∷ ss)
    by true is rest = rest y ∙ sym (drop_wider b y ss is)
    by false is rest = rest b ∙ sym (skip_later b y ss is)

all_found : (ss : List Shape) → least_from None ss ≡ narrowest ss
all_found [] = refl
all_found (s ∷ ss) = least_found s ss

-- ---- of projections that pass a test

better_is : (best : Option Projection) (p : Projection) → is_better best p ≡ option_map_or (λ b. is_narrower (shape_of p) b) (option_map shape_of best) true
better_is None p = refl
better_is (Some b) p = refl

map_cond : (k : Bool) (p : Projection) (best : Option Projection) → option_map shape_of (cond k (Some p) best) ≡ cond k (Some (shape_of p)) (option_map shape_of best)
map_cond true p best = refl
map_cond false p best = refl

best_least : (test : Projection → Bool) (of : Shape → Bool) → ((p : Projection) → test p ≡ of (shape_of p)) → (best : Option Projection) (ps : List Projection)
    → option_map shape_of (best_from test best ps) ≡ least_from (option_map shape_of best) (filter of (map shape_of ps))
best_least test of same best [] = refl
best_least test of same best (p ∷ ps) =
    best_least test of same (cond (test p && is_better best p) (Some p) best) ps ∙ by (of (shape_of p)) (same p)
  where
    rest : List Shape
    rest = filter of (map shape_of ps)

    by : (k : Bool) → test p ≡ k → least_from (option_map shape_of (cond (test p && is_better best p) (Some p) best)) rest ≡ least_from (option_map shape_of best) (cond k (shape_of p ∷ rest) rest)
    by true is =
        ap (λ (t : Bool). least_from (option_map shape_of (cond (t && is_better best p) (Some p) best)) rest) is
        ∙ ap (λ (o : Option Shape). least_from o rest) (map_cond (is_better best p) p best ∙ ap (λ (t : Bool). cond t (Some (shape_of p)) (option_map shape_of best)) (better_is best p))
    by false is = ap (λ (t : Bool). least_from (option_map shape_of (cond (t && is_better best p) (Some p) best)) rest) is

pub best_narrowest : (test : Projection → Bool) (of : Shape → Bool) → ((p : Projection) → test p ≡ of (shape_of p)) → (ps : List Projection)
    → option_map shape_of (best_from test None ps) ≡ narrowest (filter of (map shape_of ps))
best_narrowest test of same ps = best_least test of same None ps ∙ all_found (filter of (map shape_of ps))

-- some projection is the narrowest, where there is any
is_there : (b : Shape) (xs : List Shape) → least_from (Some b) xs ≡ None → ⊥
is_there b [] is = cc
is_there b (x ∷ xs) is = by (is_narrower x b) is (λ s e. is_there s xs e)
  where
    by : (k : Bool) → least_from (cond k (Some x) (Some b)) xs ≡ None → ((s : Shape) → least_from (Some s) xs ≡ None → ⊥) → ⊥
    by true e rest = rest x e
    by false e rest = rest b e

pub some_narrowest : (s : Shape) (ss : List Shape) → narrowest (s ∷ ss) ≡ None → ⊥
some_narrowest s ss none = is_there s ss (least_found s ss ∙ none)
