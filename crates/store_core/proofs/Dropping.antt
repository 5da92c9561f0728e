-- The changes of all sessions dropped.
use Rattle.std.proofs.Common.{◌≡◌, ◌≤◌, ◌+◌, ◌-◌, ◌++◌, ℕ, zero, suc, List, [], ◌∷◌, length, map, take, drop, set, refl, sym, ◌∙◌, ap, ap₂, subst, append-nil, arith}
use Rattle.std.specs.List.{All, AllPairs}
use Rattle.std.proofs.lemmas.List.{drop_all, length-map, take_all}
use Rattle.std.proofs.lemmas.List.Elements.{All-cons, All-nil}
use Rattle.std.proofs.lemmas.List.Kept.{AllPairs-cons}
use Rattle.col_disk.specs.declared.disk.Disk.{Ghosts}
use Rattle.db_model.specs.Database.{Database}
use Rattle.db_model.specs.Run.{all_dropped}
use Rattle.db_model.specs.Sound.{GoTogether, IsSound, IsSoundSession}
use Rattle.db_model.specs.State.{Changes, State}
use Rattle.sound_laws.proofs.Pairs.{pairs_none}
use Rattle.state_laws.proofs.Events.{no_changes}
use Rattle.state_laws.proofs.Held.{none_together}
use Rattle.alike_laws.specs.Reordered.{AreAlikeSessions}
use Rattle.alike_laws.proofs.Changes.{as_many, none_alike, sessions_themselves}
use Rattle.store_core.specs.Running.{Running, IsState}
use Rattle.store_core.specs.Sessions.{eight_dropped, with_none}

-- no changes, for each of some sessions
abbrev pub no_changes_of : List (List Changes) → List (List Changes)
no_changes_of sessions = map (λ changes. []) sessions

-- the first of some sessions have no changes
abbrev pub dropped_to : ℕ → List (List Changes) → List (List Changes)
dropped_to k sessions = no_changes_of (take k sessions) ++ drop k sessions

abbrev no_change : List Changes
no_change = []

pub dropped_more : (k : ℕ) (sessions : List (List Changes)) → set (dropped_to k sessions) k no_change ≡ dropped_to (suc k) sessions
dropped_more zero [] = refl
dropped_more (suc k) [] = refl
dropped_more zero (s ∷ sessions) = refl
dropped_more (suc k) (s ∷ sessions) = ap (λ (ss : List (List Changes)). no_change ∷ ss) (dropped_more k sessions)

pub dropped_next : (n : ℕ) (old now after : List (List Changes)) → 1 ≤ n → now ≡ dropped_to (n - 1) old → after ≡ set now (n - 1) no_change → after ≡ dropped_to (n + 1 - 1) old
dropped_next n old now after some are is =
    let one_more : suc (n - 1) ≡ n + 1 - 1 = omega (arith, some) in
    is ∙ ap (λ (ss : List (List Changes)). set ss (n - 1) no_change) are ∙ dropped_more (n - 1) old ∙ ap (λ (k : ℕ). dropped_to k old) one_more

pub dropped_eight : (n : ℕ) (old now : List (List Changes)) → n ≡ 9 → now ≡ dropped_to (n - 1) old → now ≡ eight_dropped old
dropped_eight n old now is are =
    let eight : n - 1 ≡ 8 = omega (arith, is) in
    are ∙ ap (λ (k : ℕ). dropped_to k old) eight

-- ---- a state without changes is sound

none_sound : (d : Database) (sessions : List (List Changes)) → All (IsSoundSession d) (no_changes_of sessions)
none_sound d [] = All-nil (IsSoundSession d)
none_sound d (s ∷ sessions) = All-cons (IsSoundSession d) no_change (no_changes_of sessions) (no_changes d) (none_sound d sessions)

none_goes : (sessions : List (List Changes)) → All (GoTogether no_change) sessions
none_goes [] = All-nil (GoTogether no_change)
none_goes (s ∷ sessions) = All-cons (GoTogether no_change) s sessions (none_together s) (none_goes sessions)

none_apart : (sessions : List (List Changes)) → AllPairs GoTogether (no_changes_of sessions)
none_apart [] = pairs_none GoTogether
none_apart (s ∷ sessions) = AllPairs-cons GoTogether no_change (no_changes_of sessions) (none_goes (no_changes_of sessions)) (none_apart sessions)

abbrev no_names : List (List ℕ)
no_names = []

dropped_sound : (state : State) → IsSound state → IsSound (all_dropped state)
dropped_sound state sound = record {
  database = sound.database;
  eight = length-map state.sessions (λ (changes : List Changes). no_change) ∙ sound.eight;
  first = sound.first;
  current = sound.current;
  sessions = none_sound state.database state.sessions;
  apart = none_apart state.sessions;
  asked = sound.asked;
}

all_eight : (sessions : List (List Changes)) → length sessions ≡ 8 → no_changes_of sessions ≡ eight_dropped sessions
all_eight sessions eight =
    let whole : take 8 sessions ≡ sessions = take_all 8 sessions (omega (arith, eight)) in
    let rest : drop 8 sessions ≡ [] = drop_all 8 sessions (omega (arith, eight)) in
    sym (ap₂ (λ (xs ys : List (List Changes)). no_changes_of xs ++ ys) whole rest ∙ append-nil (no_changes_of sessions))

pub all_dropped_stands : {D : Type 0} (disk : Ghosts D) (r : Running) (now : D) (state : State) → IsState disk r now state → IsState disk (with_none r) now (all_dropped state)
all_dropped_stands disk r now state here = record {
  database = here.database;
  sessions =
      subst (λ (ss : List (List Changes)). AreAlikeSessions ss (no_changes_of state.sessions)) (all_eight r.sessions (as_many r.sessions state.sessions here.sessions ∙ here.sound.eight))
      (subst (AreAlikeSessions (no_changes_of r.sessions)) (none_alike r.sessions state.sessions here.sessions) (sessions_themselves (no_changes_of r.sessions)));
  current = here.current;
  asked = here.asked;
  next = here.next;
  busy = here.busy;
  parts = here.parts;
  work = here.work;
  sound = dropped_sound state here.sound;
}
