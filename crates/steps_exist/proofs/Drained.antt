-- A moveout of all that wasn't stopped leaves no projection behind: each of its jobs leaves at least one less.
use Rattle.std.proofs.Common.{◌≡◌, ◌≤◌, ◌&&◌, ℕ, zero, suc, nat_lt, inl, inr, Bool, true, false, cond, List, [], ◌∷◌, length, filter, map, refl, sym, ap, ◌∙◌, subst, arith}
use Rattle.std.specs.Prelude.{find, Option, Some, None, bytes_eq}
use Rattle.std.specs.Bool.{OnTrue}
use Rattle.std.specs.List.{All}
use Rattle.std.proofs.lemmas.Bool.Decides.{nat_tests}
use Rattle.std.proofs.lemmas.List.Elements.{All-cons, All-head, All-nil, All-tail, All-weaker}
use Rattle.std.proofs.lemmas.Slice.Eq.{bytes_eq-Decides}
use Rattle.db_laws.proofs.Goods.{shapes_joined}
use Rattle.db_model.specs.Database.{Database, Shape, is_behind}
use Rattle.db_model.specs.Epochs.{all_shapes}
use Rattle.db_model.specs.Mover.{behind, change_shape, change_shape_of, first_behind, given_up, reached_to, MovesFirst, MovesOut}
use Rattle.db_model.specs.Sound.{IsSoundShape, IsSoundTable, ReachesMark}
use Rattle.db_model.specs.State.{State}
use Rattle.steps_exist.specs.Exist.{MoveoutsReachTheLast}
use Rattle.steps_exist.proofs.Moves.{shapes_changed}

-- ---- one less

module _ (p : Shape → Bool) (f : Shape → Shape) (never : (s : Shape) → p (f s) ≡ false) where
  -- one that didn't pass doesn't pass when it is changed
  passes_not : (b : Bool) (s : Shape) → p s ≡ false → p (cond b (f s) s) ≡ false
  passes_not true s is = never s
  passes_not false s is = is

  none_more : (name : List ℕ) (ss : List Shape) → length (filter p (map (change_shape name f) ss)) ≤ length (filter p ss)
  none_more name [] = omega arith
  none_more name (s ∷ ss) = by (p s) refl (none_more name ss)
    where
      changed : Shape
      changed = cond (bytes_eq s.name name) (f s) s

      after : List Shape
      after = filter p (map (change_shape name f) ss)

      most : (b : Bool) → length (cond b (changed ∷ after) after) ≤ suc (length after)
      most true = omega arith
      most false = omega arith

      by : (b : Bool) → p s ≡ b → length after ≤ length (filter p ss) → length (cond (p changed) (changed ∷ after) after) ≤ length (cond b (s ∷ filter p ss) (filter p ss))
      by true is rest = let one = most (p changed) in omega (arith, one, rest)
      by false is rest = subst (λ (b : Bool). length (cond b (changed ∷ after) after) ≤ length (filter p ss)) (sym (passes_not (bytes_eq s.name name) s is)) rest

  one_fewer : (q : Shape → Bool) (s : Shape) (ss : List Shape) → find q (filter p ss) ≡ Some s → suc (length (filter p (map (change_shape s.name f) ss))) ≤ length (filter p ss)
  one_fewer q s [] found = absurd (cc)
  one_fewer q s (x ∷ ss) found = by (p x) refl (one_fewer q s ss) found
    where
      changed : Shape
      changed = cond (bytes_eq x.name s.name) (f x) x

      after : List Shape
      after = filter p (map (change_shape s.name f) ss)

      most : (b : Bool) → length (cond b (changed ∷ after) after) ≤ suc (length after)
      most true = omega arith
      most false = omega arith

      first : (find q (filter p ss) ≡ Some s → suc (length after) ≤ length (filter p ss)) → (b : Bool) → cond b (Some x) (find q (filter p ss)) ≡ Some s → suc (length (cond (p changed) (changed ∷ after) after)) ≤ suc (length (filter p ss))
      first later true is =
          let same : x ≡ s = cc in
          let named : bytes_eq x.name s.name ≡ true = ap (λ (y : Shape). bytes_eq y.name s.name) same ∙ (bytes_eq-Decides s.name s.name).1 refl in
          let gone : p changed ≡ false = ap (λ (b : Bool). p (cond b (f x) x)) named ∙ never x in
          let rest = none_more s.name ss in
          subst (λ (b : Bool). suc (length (cond b (changed ∷ after) after)) ≤ suc (length (filter p ss))) (sym gone) (omega (arith, rest))
      first later false is =
          let one = most (p changed) in
          let rest = later is in
          omega (arith, one, rest)

      by : (b : Bool) → p x ≡ b → (find q (filter p ss) ≡ Some s → suc (length after) ≤ length (filter p ss)) → find q (cond b (x ∷ filter p ss) (filter p ss)) ≡ Some s → suc (length (cond (p changed) (changed ∷ after) after)) ≤ length (cond b (x ∷ filter p ss) (filter p ss))
      by true is later at = first later (q x) at
      by false is later at =
          subst (λ (b : Bool). suc (length (cond b (changed ∷ after) after)) ≤ length (filter p ss)) (sym (passes_not (bytes_eq x.name s.name) x is)) (later at)

-- ---- until none is left

reached_not : (last : ℕ) (s : Shape) → is_behind last (reached_to last s) ≡ false
reached_not last s = by (nat_lt last last) refl
  where
    by : (b : Bool) → nat_lt last last ≡ b → b ≡ false
    by true at = absurd (grind (arith, nat_tests))
    by false at = refl

moved_fewer : (s : Shape) (d : Database) → first_behind d ≡ Some s → suc (length (filter (is_behind d.last) (all_shapes (map (change_shape_of s.name (reached_to d.last)) d.tables)))) ≤ length (behind d)
moved_fewer s d found =
    subst (λ (ss : List Shape). suc (length (filter (is_behind d.last) ss)) ≤ length (behind d)) (sym (shapes_changed s.name (reached_to d.last) d.tables))
    (one_fewer (is_behind d.last) (reached_to d.last) (reached_not d.last) _ s (all_shapes d.tables) found)

first_fewer : (o : Option Shape) (a b : State) → first_behind a.database ≡ o → MovesFirst o a b → suc (length (behind b.database)) ≤ length (behind a.database)
first_fewer None a b found is = absurd is
first_fewer (Some s) a b found is =
    subst (λ (x : State). suc (length (behind x.database)) ≤ length (behind a.database)) (sym is.same) (moved_fewer s a.database found)

none_left : (n : ℕ) (a b : State) → length (behind a.database) ≤ n → MovesOut n a false b → length (behind b.database) ≤ 0
none_left zero a b few (s_is, is) = subst (λ (x : State). length (behind x.database) ≤ 0) (sym is) few
none_left (suc n) a b few (inl (spent, s_is, is)) = absurd (cc)
none_left (suc n) a b few (inr (free, mid, one, more)) =
    let less = first_fewer (first_behind a.database) a mid refl one in
    none_left n mid b (omega (arith, few, less)) more

-- ---- so each has reached the newest epoch

-- a sound projection that isn't behind
reaches : (d : Database) (s : Shape) → is_behind d.last s ≡ false → IsSoundShape d s → s.fresh ≡ true → s.lge ≡ d.last
reaches d s still sound fresh =
    let within : ReachesMark d s = subst (λ (b : Bool). OnTrue b (ReachesMark d s)) fresh sound in
    let closed = within.closed in
    let test : nat_lt s.lge d.last ≡ false = sym (ap (λ (b : Bool). b && nat_lt s.lge d.last) fresh) ∙ still in
    by (nat_lt s.lge d.last) refl test closed
  where
    by : (b : Bool) → nat_lt s.lge d.last ≡ b → b ≡ false → s.lge ≤ d.last → s.lge ≡ d.last
    by true at is closed = absurd (cc)
    by false at is closed = grind (arith, nat_tests)

abbrev ReachesLast : Database → Shape → Type 0
ReachesLast d s = s.fresh ≡ true → s.lge ≡ d.last

all_reach : (d : Database) (ss : List Shape) → length (filter (is_behind d.last) ss) ≤ 0 → All (IsSoundShape d) ss → All (ReachesLast d) ss
all_reach d [] none sound = All-nil (ReachesLast d)
all_reach d (s ∷ ss) none sound =
    by (is_behind d.last s) refl (λ rest. all_reach d ss rest (All-tail (IsSoundShape d) s ss sound)) none
  where
    by : (b : Bool) → is_behind d.last s ≡ b → (length (filter (is_behind d.last) ss) ≤ 0 → All (ReachesLast d) ss) → length (cond b (s ∷ filter (is_behind d.last) ss) (filter (is_behind d.last) ss)) ≤ 0
        → All (ReachesLast d) (s ∷ ss)
    by true is later some = absurd (omega (arith, some))
    by false is later rest = All-cons (ReachesLast d) s ss (reaches d s is (All-head (IsSoundShape d) s ss sound)) (later rest)

pub moveouts_reach : MoveoutsReachTheLast
moveouts_reach old new moves sound =
    all_reach new.database (all_shapes new.database.tables) (none_left (length (behind old.database)) (given_up old) new (omega arith) moves.jobs)
    (shapes_joined (IsSoundShape new.database) new.database.tables (All-weaker (IsSoundTable new.database) (λ t. All (IsSoundShape new.database) t.shapes) (λ t is. is.shapes) new.database.tables sound.tables))
