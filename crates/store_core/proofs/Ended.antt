-- After a moveout of all, all data is on disk up to the newest epoch.
use Rattle.std.proofs.Common.{◌≡◌, ◌≤◌, ◌+◌, inl, inr, ℕ, zero, suc, Bool, true, false, cond, List, [], ◌∷◌, length, filter, refl, sym, subst, arith}
use Rattle.std.specs.Prelude.{◌&&◌, nat_lt}
use Rattle.std.specs.List.{All}
use Rattle.std.proofs.lemmas.Bool.Decides.{nat_tests}
use Rattle.std.proofs.lemmas.List.Elements.{All-cons, All-nil}
use Rattle.db_model.specs.Database.{Database, Shape, Table, is_behind}
use Rattle.db_model.specs.Epochs.{all_shapes, last_good}
use Rattle.db_model.specs.Mover.{behind, first_behind, given_up, MovesAll, MovesOut}
use Rattle.db_model.specs.Sound.{IsSoundDatabase}
use Rattle.db_model.specs.State.{State}
use Rattle.db_laws.proofs.Goods.{Reaches, TableReaches, good_itself, good_least}
use Rattle.store_core.proofs.Placed.{count_moved, first_moved, joined, sound_moved}

-- how many are behind after so many moveouts
record Fewer (jobs : ℕ) (old new : Database) : Type 0 where
  left : length (behind new) + jobs ≡ length (behind old)
  sound : IsSoundDatabase new

fewer : (jobs : ℕ) (old new : State) → IsSoundDatabase old.database → MovesOut jobs old false new → Fewer jobs old.database new.database
fewer zero old new sound (is, same) = subst (λ (x : State). Fewer 0 old.database x.database) (sym same) (record { left = omega arith; sound = sound })
fewer (suc n) old new sound (inl (spent, stopped, same)) = absurd (cc)
fewer (suc n) old new sound (inr (free, mid, one, rest)) =
    let at = first_moved (first_behind old.database) old mid sound refl one in
    let more = fewer n mid new (sound_moved old.database mid.database at sound) rest in
    let left = more.left in
    let count = count_moved old.database mid.database at in
    record { left = omega (arith, left, count); sound = more.sound }

-- ---- where none is behind

reaches_here : (last : ℕ) (ss : List Shape) → length (filter (is_behind last) ss) ≡ 0 → All (Reaches last) ss
reaches_here last [] none = All-nil (Reaches last)
reaches_here last (s ∷ ss) none = by (is_behind last s) refl none (reaches_here last ss)
  where
    late : (b : Bool) → (b && nat_lt s.lge last) ≡ false → b ≡ true → last ≤ s.lge
    late true is fresh = grind (arith, nat_tests, is)
    late false is fresh = absurd (cc)

    by : (b : Bool) → is_behind last s ≡ b → length (cond b (s ∷ filter (is_behind last) ss) (filter (is_behind last) ss)) ≡ 0 → (length (filter (is_behind last) ss) ≡ 0 → All (Reaches last) ss) → All (Reaches last) (s ∷ ss)
    by true is some rest = absurd (omega (arith, some))
    by false is none rest = All-cons (Reaches last) s ss (λ fresh. late s.fresh is fresh) (rest none)

reaches_all : (last : ℕ) (ts : List Table) → length (filter (is_behind last) (all_shapes ts)) ≡ 0 → All (TableReaches last) ts
reaches_all last [] none = All-nil (TableReaches last)
reaches_all last (t ∷ ts) none =
    let parts = joined last t.shapes (all_shapes ts) in
    All-cons (TableReaches last) t ts (reaches_here last t.shapes (omega (arith, none, parts))) (reaches_all last ts (omega (arith, none, parts)))

none_left : (d : Database) → IsSoundDatabase d → length (behind d) ≡ 0 → last_good d ≡ d.last
none_left d sound none =
    let least = good_least d.last d (record { closed = omega arith; tables = reaches_all d.last d.tables none }) in
    let most = (good_itself d sound).closed in
    omega (arith, least, most)

pub all_reach : (old new : State) → IsSoundDatabase old.database → MovesAll old false new → last_good new.database ≡ new.database.last
all_reach old new sound moves =
    let few = fewer (length (behind old.database)) (given_up old) new sound moves.jobs in
    let left = few.left in
    none_left new.database few.sound (omega (arith, left))
