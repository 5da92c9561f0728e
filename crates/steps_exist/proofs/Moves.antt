-- The mover has a step, and a moveout of all ends: each moveout leaves at least all but one of those that were behind.
use Rattle.std.proofs.Common.{◌≡◌, ◌<◌, ◌≤◌, not, ◌-◌, ◌++◌, ℕ, zero, suc, inl, inr, Bool, true, false, cond, List, [], ◌∷◌, length, filter, map, refl, sym, ap, ap₂, ◌∙◌, subst, arith}
use Rattle.std.specs.Prelude.{◌==◌, nat_lt, find, Option, Some, None, bytes_eq}
use Rattle.std.specs.List.{All, AllPairs, list_all}
use Rattle.std.specs.Cmp.{IsTotalOrder, nat_cmp_total, on_total, then_total}
use Rattle.std.specs.Cmp.Lexicographic.{slice_cmp, nat_list_cmp_total}
use Rattle.std.specs.Ordering.{nat_cmp, on, then_cmp}
use Rattle.std.specs.declared.cmp.Ordering.{Ordering}
use Rattle.std.proofs.lemmas.List.{map-append}
use Rattle.std.proofs.lemmas.List.Concat.{flat_map-cons}
use Rattle.std.proofs.lemmas.List.Elements.{All-head, All-tail, All-weaker}
use Rattle.std.proofs.lemmas.Slice.Eq.{bytes_eq-Decides}
use Rattle.db_model.specs.Database.{Database, Shape, Table, is_behind}
use Rattle.db_model.specs.Epochs.{all_shapes}
use Rattle.db_model.specs.Mover.{behind, change_shape, change_shape_of, first_behind, given_up, moved_one, moves_first, reached_to, GoesOn, MovesAll, MovesFirst, MovesOrBegins, MovesOut, MoverRuns, MoverSteps, StepsOn, StepsUnless}
use Rattle.db_model.specs.Numbers.{are_spent, IsDrawn}
use Rattle.db_model.specs.Sound.{all_names}
use Rattle.db_model.specs.State.{State}
use Rattle.mover_policy.proofs.Least.{some_least}
use Rattle.sound_laws.proofs.Created.{Differ, differ_turned}
use Rattle.sound_laws.proofs.Pairs.{pairs_head, pairs_tail}
use Rattle.state_laws.proofs.Reached.{all_names_still}
use Rattle.state_laws.proofs.Stale.{shape_names, shapes_apart}

-- ---- an event that draws no number

-- what an event makes, with the numbers of before
abbrev pub undrawn : State → State → State
undrawn old made = record made { next = old.next; parts = old.parts }

pub nothing_drawn : (old made : State) → IsDrawn old made (undrawn old made)
nothing_drawn old made = record { same = refl; drawn = record { from = omega arith; to = omega arith; parts = omega arith } }

-- ---- one moveout leaves the others behind

others_still : (name : List ℕ) (f : Shape → Shape) (ss : List Shape) → All (Differ name) (shape_names ss) → map (change_shape name f) ss ≡ ss
others_still name f [] apart = refl
others_still name f (s ∷ ss) apart =
    ap₂ (λ (b : Bool) (xs : List Shape). cond b (f s) s ∷ xs) (differ_turned name s.name (All-head (Differ name) s.name (shape_names ss) apart))
    (others_still name f ss (All-tail (Differ name) s.name (shape_names ss) apart))

abbrev pub passing : (Shape → Bool) → List Shape → List Shape
passing p ss = filter p ss

at_most_one : (b : Bool) (s : Shape) (ss : List Shape) → length (cond b (s ∷ ss) ss) ≤ suc (length ss)
at_most_one true s ss = omega arith
at_most_one false s ss = omega arith

no_fewer : (b : Bool) (s : Shape) (ss : List Shape) → length ss ≤ length (cond b (s ∷ ss) ss)
no_fewer true s ss = omega arith
no_fewer false s ss = omega arith

same_first : (b : Bool) (s : Shape) (ss ts : List Shape) → length ss ≤ suc (length ts) → length (cond b (s ∷ ss) ss) ≤ suc (length (cond b (s ∷ ts) ts))
same_first true s ss ts le = omega (arith, le)
same_first false s ss ts le = le

pub one_less : (p : Shape → Bool) (name : List ℕ) (f : Shape → Shape) (ss : List Shape) → AllPairs Differ (shape_names ss) → length (passing p ss) ≤ suc (length (passing p (map (change_shape name f) ss)))
one_less p name f [] apart = omega arith
one_less p name f (s ∷ ss) apart = by (bytes_eq s.name name) refl (one_less p name f ss (pairs_tail Differ s.name (shape_names ss) apart))
  where
    turned : bytes_eq s.name name ≡ true → All (Differ name) (shape_names ss)
    turned is = All-weaker (Differ s.name) (Differ name) (λ n other. as_named n other) (shape_names ss) (pairs_head Differ s.name (shape_names ss) apart)
      where
        as_named : (n : List ℕ) → Differ s.name n → Differ name n
        as_named n other = subst (λ (m : List ℕ). Differ m n) ((bytes_eq-Decides s.name name).0 is) other

    by : (b : Bool) → bytes_eq s.name name ≡ b → length (passing p ss) ≤ suc (length (passing p (map (change_shape name f) ss)))
        → length (passing p (s ∷ ss)) ≤ suc (length (passing p (map (change_shape name f) (s ∷ ss))))
    by true is rest =
        let still : map (change_shape name f) ss ≡ ss = others_still name f ss (turned is) in
        let less : length (passing p (s ∷ ss)) ≤ suc (length (passing p ss)) = at_most_one (p s) s (passing p ss) in
        let more : length (passing p ss) ≤ length (passing p (cond (bytes_eq s.name name) (f s) s ∷ ss)) =
        no_fewer (p (cond (bytes_eq s.name name) (f s) s)) (cond (bytes_eq s.name name) (f s) s) (passing p ss) in
        subst (λ (xs : List Shape). length (passing p (s ∷ ss)) ≤ suc (length (passing p (cond (bytes_eq s.name name) (f s) s ∷ xs)))) (sym still) (omega (arith, less, more))
    by false is rest =
        subst (λ (b : Bool). length (passing p (s ∷ ss)) ≤ suc (length (passing p (cond b (f s) s ∷ map (change_shape name f) ss)))) (sym is)
        (same_first (p s) s (passing p ss) (passing p (map (change_shape name f) ss)) rest)

-- ---- in all tables

pub shapes_changed : (name : List ℕ) (f : Shape → Shape) (ts : List Table) → all_shapes (map (change_shape_of name f) ts) ≡ map (change_shape name f) (all_shapes ts)
shapes_changed name f [] = refl
shapes_changed name f (t ∷ ts) =
    flat_map-cons (λ (u : Table). u.shapes) (change_shape_of name f t) (map (change_shape_of name f) ts)
    ∙ ap (λ (ss : List Shape). map (change_shape name f) t.shapes ++ ss) (shapes_changed name f ts)
    ∙ sym (ap (map (change_shape name f)) (flat_map-cons (λ (u : Table). u.shapes) t ts) ∙ map-append (change_shape name f) t.shapes (all_shapes ts))

-- a database of which no two tables or projections have one name
abbrev pub HasNames : Database → Type 0
HasNames d = AllPairs Differ (all_names d.tables)

one_less_behind : (s : Shape) (d : Database) → HasNames d → length (behind d) ≤ suc (length (passing (is_behind d.last) (all_shapes (map (change_shape_of s.name (reached_to d.last)) d.tables))))
one_less_behind s d apart =
    subst (λ (ss : List Shape). length (behind d) ≤ suc (length (passing (is_behind d.last) ss))) (sym (shapes_changed s.name (reached_to d.last) d.tables))
    (one_less (is_behind d.last) s.name (reached_to d.last) (all_shapes d.tables) (shapes_apart d.tables apart))

-- ---- the first that is behind

abbrev first_cmp : Shape → Shape → Ordering
first_cmp = then_cmp (on (λ s. s.lge) nat_cmp) (on (λ s. s.name) (slice_cmp nat_cmp))

first_total : IsTotalOrder first_cmp
first_total = then_total (on_total (λ s. s.lge) nat_cmp_total) (on_total (λ s. s.name) nat_list_cmp_total)

some_first : (d : Database) → 0 < length (behind d) → first_behind d ≡ None → ⊥
some_first d some = by (behind d) some
  where
    by : (ss : List Shape) → 0 < length ss → find (λ s. list_all (λ other. not (moves_first other s)) ss) ss ≡ None → ⊥
    by [] none is = omega (arith, none)
    by (s ∷ ss) some is = some_least first_cmp first_total s ss is

-- ---- so many moveouts

pub record MovedOut (n : ℕ) (old : State) : Type 0 where
  pub stopped : Bool
  pub new : State
  pub jobs : MovesOut n old stopped new
  pub next : new.next ≡ old.next
  pub parts : new.parts ≡ old.parts

abbrev of_first : ℕ → State → Type 0
of_first n old = (s : Shape) → MovedOut n (moved_one s old)

next_moved : (n : ℕ) (old : State) (spent : Bool) (first : Option Shape) → are_spent old ≡ spent → first_behind old.database ≡ first → (first ≡ None → ⊥) → of_first n old → MovedOut (suc n) old
next_moved n old true first is found some rest = record { stopped = true; new = old; jobs = inl (is, refl, refl); next = refl; parts = refl }
next_moved n old false None is found some rest = absurd (some refl)
next_moved n old false (Some s) is found some rest =
    let more = rest s in
    record {
      stopped = more.stopped;
      new = more.new;
      jobs = inr (is, moved_one s old, subst (λ (o : Option Shape). MovesFirst o old (moved_one s old)) (sym found) (record { same = refl; drawn = record { from = omega arith; to = omega arith; parts = omega arith } }), more.jobs);
      next = more.next;
      parts = more.parts;
    }

moved_out : (n : ℕ) (old : State) → n ≤ length (behind old.database) → HasNames old.database → MovedOut n old
moved_out zero old most apart = record { stopped = false; new = old; jobs = (refl, refl); next = refl; parts = refl }
moved_out (suc n) old most apart =
    next_moved n old (are_spent old) (first_behind old.database) refl refl (some_first old.database (omega (arith, most)))
    (λ s. let less = one_less_behind s old.database apart in
    moved_out n (moved_one s old) (omega (arith, most, less)) (subst (AllPairs Differ) (sym (all_names_still s.name old.database.last old.database.tables)) apart))

pub all_moved : (old : State) → HasNames old.database → (stopped : Bool) × (new : State) × MovesAll old stopped new
all_moved old apart =
    let moved = moved_out (length (behind old.database)) (given_up old) (omega arith) apart in
    let next = moved.next in
    let parts = moved.parts in
    (moved.stopped, moved.new, record { jobs = moved.jobs; drawn = record { from = omega (arith, next); to = omega (arith, next); parts = omega (arith, parts) } })

-- ---- a step of the mover

goes_on : (b : Bool) (old : State) → (new : State) × GoesOn b old new
goes_on true old = (undrawn old (given_up old), (given_up old, inl refl, nothing_drawn old (given_up old)))
goes_on false old = (record old { busy = old.busy - 1 }, refl)

-- a job of three steps may always begin
moves_or_begins : (o : Option Shape) (old : State) → (new : State) × MovesOrBegins o old new
moves_or_begins (Some s) old = (undrawn old (moved_one s old), nothing_drawn old (moved_one s old))
moves_or_begins None old = (undrawn old (record old { busy = 3 }), inr (3, omega arith, omega arith, nothing_drawn old (record old { busy = 3 })))

steps_on : (b : Bool) (old : State) → (new : State) × StepsOn b old new
steps_on true old = goes_on (old.busy == 1) old
steps_on false old = moves_or_begins (first_behind old.database) old

steps_unless : (b : Bool) (old : State) → (new : State) × StepsUnless b old new
steps_unless true old = (old, refl)
steps_unless false old = steps_on (nat_lt 0 old.busy) old

pub mover_steps : (old : State) → (new : State) × MoverSteps old new
mover_steps old = steps_unless (are_spent old) old

pub mover_runs : (n : ℕ) (old : State) → (new : State) × MoverRuns n old new
mover_runs zero old = (old, refl)
mover_runs (suc n) old =
    let (mid, first) = mover_steps old in
    let (new, rest) = mover_runs n mid in
    (new, (mid, first, rest))
