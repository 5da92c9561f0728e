-- What sessions hold: who keeps another from a table, and what goes together.
use Rattle.std.proofs.Common.{◌≡◌, ◌+◌, ◌-◌, ◌≤◌, ◌<◌, ℕ, zero, suc, Bool, true, false, cond, List, [], ◌∷◌, length, get_or, refl, sym, ◌∙◌, arith}
use Rattle.std.specs.Prelude.{◌==◌, ◌&&◌, ◌||◌, not, find, bytes_eq, Contains, Option, Some, None, option_map}
use Rattle.std.specs.List.{All, AllPairs, enumerate_from}
use Rattle.std.specs.Option.{option_map_or}
use Rattle.std.proofs.lemmas.List.Elements.{All-cons, All-nil, All-weaker, All-contains}
use Rattle.std.proofs.lemmas.Slice.Eq.{bytes_eq-Decides}
use Rattle.sql_tree.specs.declared.refusal.Refusal.{Refusal}
use Rattle.db_model.specs.Database.{Database}
use Rattle.db_model.specs.State.{State, Changes}
use Rattle.db_model.specs.Locks.{changes_on, excludes, conflict}
use Rattle.db_model.specs.Refusals.{locked}
use Rattle.db_model.specs.Sound.{ChangesFit, IsSoundSession, GoTogether}
use Rattle.sound_laws.proofs.Pairs.{pairs_head, pairs_tail}
use Rattle.sound_laws.proofs.Created.{Differ}
use Rattle.state_laws.proofs.Places.{AllBut, none_found}

-- ---- nothing keeps a session from a table

no_holder : (state : State) (name : List ℕ) (want : Bool) → locked state name want ≡ None → conflict state name want ≡ None
no_holder state name want free = by (conflict state name want) free
  where
    by : (o : Option ℕ) → option_map Refusal.Locked o ≡ None → o ≡ None
    by None is = refl
    by (Some h) is = absurd (cc)

and_right : (a b : Bool) → (a && b) ≡ false → a ≡ true → b ≡ false
and_right true b is on = is
and_right false b is on = cc

not_false : (b : Bool) → b ≡ false → not b ≡ true
not_false true is = cc
not_false false is = refl

other_place : (i k : ℕ) → (i ≡ k - 1 → ⊥) → 1 ≤ k → (1 + i == k) ≡ false
other_place i k other first = by (1 + i == k) refl
  where
    by : (b : Bool) → (1 + i == k) ≡ b → b ≡ false
    by false is = refl
    by true is = let same : 1 + i ≡ k = grind (arith, is) in absurd (other (omega (arith, same)))

-- then no other session excludes it
pub none_excludes : (state : State) (name : List ℕ) (want : Bool) → 1 ≤ state.current → locked state name want ≡ None → AllBut (λ changes. excludes name want changes ≡ false) (state.current - 1) state.sessions
none_excludes state name want first free i d lt other =
    let none : find (λ e. not (e.0 == state.current) && excludes name want e.1) (enumerate_from 1 state.sessions) ≡ None = found_none (find (λ e. not (e.0 == state.current) && excludes name want e.1) (enumerate_from 1 state.sessions)) (no_holder state name want free) in
    and_right (not (1 + i == state.current)) (excludes name want (get_or state.sessions i d))
    (none_found (λ e. not (e.0 == state.current) && excludes name want e.1) 1 state.sessions none i d lt) (not_false (1 + i == state.current) (other_place i state.current other first))
  where
    found_none : (o : Option (ℕ × List Changes)) → option_map (λ e. e.0) o ≡ None → o ≡ None
    found_none None is = refl
    found_none (Some e) is = absurd (cc)

-- ---- what a session holds on a table

-- a session that doesn't exclude one who wants mode X has no changes in the table
pub none_held : (name : List ℕ) (changes : List Changes) → excludes name true changes ≡ false → All (λ c. Differ c.table name) changes
none_held name [] free = All-nil (λ c. Differ c.table name)
none_held name (c ∷ changes) free = by (bytes_eq c.table name) refl (λ rest. none_held name changes rest) free
  where
    or_true : (b : Bool) → (b || true) ≡ true
    or_true true = refl
    or_true false = refl

    by : (b : Bool) → bytes_eq c.table name ≡ b → (excludes name true changes ≡ false → All (λ x. Differ x.table name) changes) → option_map_or (λ x. x.exclusive || true) (cond b (Some c) (changes_on name changes)) false ≡ false → All (λ x. Differ x.table name) (c ∷ changes)
    by true is more held = let on = or_true c.exclusive in absurd (cc)
    by false is more rest = All-cons (λ x. Differ x.table name) c changes is (more rest)

-- one that doesn't exclude one who wants mode I has no exclusive changes in it
pub none_exclusive : (name : List ℕ) (changes : List Changes) → AllPairs (λ c e. bytes_eq c.table e.table ≡ false) changes → excludes name false changes ≡ false → All (λ c. c.table ≡ name → c.exclusive ≡ false) changes
none_exclusive name [] once free = All-nil (λ c. c.table ≡ name → c.exclusive ≡ false)
none_exclusive name (c ∷ changes) once free =
    by (bytes_eq c.table name) refl (λ rest. none_exclusive name changes (pairs_tail (λ x e. bytes_eq x.table e.table ≡ false) c changes once) rest) free
  where
    or_false : (b : Bool) → (b || false) ≡ false → b ≡ false
    or_false true is = is
    or_false false is = refl

    by : (b : Bool) → bytes_eq c.table name ≡ b → (excludes name false changes ≡ false → All (λ x. x.table ≡ name → x.exclusive ≡ false) changes) → option_map_or (λ x. x.exclusive || false) (cond b (Some c) (changes_on name changes)) false ≡ false → All (λ x. x.table ≡ name → x.exclusive ≡ false) (c ∷ changes)
    by true is more held =
        let same : c.table ≡ name = (bytes_eq-Decides c.table name).0 is in
        All-cons (λ x. x.table ≡ name → x.exclusive ≡ false) c changes (λ at. or_false c.exclusive held)
        (All-weaker (λ e. bytes_eq c.table e.table ≡ false) (λ x. x.table ≡ name → x.exclusive ≡ false)
        (λ e off at. let on : bytes_eq c.table e.table ≡ true = (bytes_eq-Decides c.table e.table).1 (same ∙ sym at) in absurd (cc)) changes (pairs_head (λ x e. bytes_eq x.table e.table ≡ false) c changes once))
    by false is more rest =
        All-cons (λ x. x.table ≡ name → x.exclusive ≡ false) c changes
        (λ at. let on : bytes_eq c.table name ≡ true = (bytes_eq-Decides c.table name).1 at in absurd (cc))
        (more rest)

-- ---- what goes together

or_turned : (a b : Bool) → (a || b) ≡ (b || a)
or_turned true true = refl
or_turned true false = refl
or_turned false true = refl
or_turned false false = refl

pub together_turned : (one other : List Changes) → GoTogether one other → GoTogether other one
together_turned one other go c e in_other in_one same = or_turned c.exclusive e.exclusive ∙ go e c in_one in_other (sym same)

pub none_together : (other : List Changes) → GoTogether [] other
none_together other c e (k, lt, is) there same = absurd (omega (arith, lt))

-- changes of a table go with what a session holds
abbrev pub GoesWith : List Changes → List ℕ → Bool → Type 0
GoesWith other table exclusive = (e : Changes) → Contains other e → table ≡ e.table → (exclusive || e.exclusive) ≡ false

pub each_goes : (one other : List Changes) → GoTogether one other → All (λ c. GoesWith other c.table c.exclusive) one
each_goes one other go i d lt e there same = go (get_or one i d) e (i, lt, at one i d lt) there same
  where
    at : (xs : List Changes) (k : ℕ) (x : Changes) → k < length xs → get_or xs k (get_or xs k x) ≡ get_or xs k x
    at [] k x below = absurd (omega (arith, below))
    at (y ∷ ys) zero x below = refl
    at (y ∷ ys) (suc k) x below = at ys k x (omega (arith, below))

pub all_go : (one other : List Changes) → All (λ c. GoesWith other c.table c.exclusive) one → GoTogether one other
all_go one other all c e in_one there same = All-contains (λ x. GoesWith other x.table x.exclusive) one c all in_one e there same

-- ---- a database in the place of another

pub session_over : (d e : Database) (changes : List Changes) → ((c : Changes) → ChangesFit d c → ChangesFit e c) → IsSoundSession d changes → IsSoundSession e changes
session_over d e changes keeps s = record { each = All-weaker (ChangesFit d) (ChangesFit e) keeps changes s.each; once = s.once }
