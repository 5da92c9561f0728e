-- A replay from its begin to its end.
use Rattle.std.proofs.Common.{◌≡◌, ◌+◌, ◌≤◌, ◌<◌, inl, inr, ℕ, zero, suc, true, false, List, [], ◌∷◌, filter, length, refl, sym, ap, ◌∙◌, arith, subst}
use Rattle.std.specs.Prelude.{max, nat_lt, ◌⊎◌, Result, Ok, Err, IsErrOf}
use Rattle.std.specs.List.{All, AllZip}
use Rattle.std.proofs.lemmas.Bool.Decides.{nat_tests}
use Rattle.std.proofs.lemmas.List.Elements.{All-filter, All-head, filter_passes}
use Rattle.common_laws.specs.Bags.{SameBag}
use Rattle.common_laws.specs.Maps.{Contents}
use Rattle.common_laws.proofs.Truths.{and_true}
use Rattle.col_disk.specs.Moved.{Leaves}
use Rattle.col_disk.specs.declared.disk.Disk.{Ghosts}
use Rattle.col_disk.proofs.Moving.{leaves_join, leaves_wider}
use Rattle.col_value.specs.declared.row.Stamped.{Stamped}
use Rattle.db_model.specs.Database.{Database, Shape, is_behind}
use Rattle.db_model.specs.Epochs.{all_shapes, cut, last_good}
use Rattle.db_model.specs.Mover.{behind, first_behind, MovesAll, MovesOut}
use Rattle.db_model.specs.Sound.{IsSound, IsSoundDatabase}
use Rattle.db_model.specs.State.{State}
use Rattle.db_laws.proofs.Goods.{good_itself, shapes_joined, Reaches}
use Rattle.folder_model.specs.Reopening.{Reopens}
use Rattle.store_core.proofs.Ended.{all_reach}
use Rattle.store_core.proofs.Placed.{count_moved, first_moved}
use Rattle.store_core.specs.Cuts.{IsKeptButJob}
use Rattle.store_core.specs.Moving.{IsKeptOrMoved}
use Rattle.store_core.specs.Events.{ReopensTo}
use Rattle.store_core.specs.Running.{Running, IsState}
use Rattle.store_core.specs.Sessions.{with_current}
use Rattle.catch_model.specs.Caught.{history, IsCaughtUp}
use Rattle.catch_model.specs.Refused.{is_gap, IsAccepted, NoEpoch}
use Rattle.catch_model.specs.declared.fault.LinkFault.{LinkFault}
use Rattle.catch_model.specs.declared.fault.LinkFault.TheVariants as link
use Rattle.catch_laws.specs.Replay.{IsAt}
use Rattle.catch_laws.proofs.Ends.{begins, ends}
use Rattle.catch_tables.specs.Keyed.{AreChangesOf, Changed}
use Rattle.catch_tables.specs.Told.{History}
use Rattle.buddy_link.specs.Linking.{HasEpochsOf, LeavesBehind, MayReplay, MovesBehind, MovesOrStops, Replays, ReopensBehindOrCaught}
use Rattle.buddy_link.specs.Replaying.{Comes, IsShortBehind, Setting}
use Rattle.buddy_link.proofs.Coming.{at_reopens, replayed_ok, still_leaves}
use Rattle.buddy_link.proofs.Moved.{all_still, caught_still, columns_still, good_either, history_still, kept_or_moved_still, kept_still, still_begins, still_moved, IsStill}
use Rattle.buddy_link.proofs.Telling.{all_ordered}

-- ---- the begin

max_below : (x y n : ℕ) → x ≤ n → y ≤ n → max x y ≤ n
max_below x y n one two = grind (arith)

mark_below : (mark after last : ℕ) (tables : List History) (a : State) (b : Database) → IsSound a → MayReplay mark after last tables a b → mark ≤ after
mark_below mark after last tables a b sound may =
    let own : a.database.ahm ≤ after = subst (λ (n : ℕ). a.database.ahm ≤ n) (sym may.after_is) sound.database.mark in
    subst (λ (m : ℕ). m ≤ after) (sym may.mark_is) (max_below a.database.ahm b.ahm after own may.accepted.ahead.mark)

pub setting_of : (mark after last : ℕ) (tables : List History) (a : State) (b : Database) (cs : List Changed) → IsSound a → MayReplay mark after last tables a b → AllZip (AreChangesOf after) tables cs → Setting mark after a.database b cs
setting_of mark after last tables a b cs sound may are =
    let le = mark_below mark after last tables a b sound may in
    record { sound = may.sound; ordered = all_ordered mark after b le b.tables tables cs may.sound.tables may.told are; mark_below = le; good = may.good }

at_begin : (mark after last : ℕ) (tables : List History) (a : State) (b : Database) → MayReplay mark after last tables a b → IsAt mark a.database b a.database.last a
at_begin mark after last tables a b may =
    subst (λ (m : ℕ). IsAt m a.database b a.database.last a) (sym may.mark_is) (begins b a (subst (IsAccepted a.database b) may.after_is may.accepted) may.idle)

-- session 1 is the current one
abbrev pub first_session : State → State
first_session a = record a { current = 1 }

pub at_start : (mark after last : ℕ) (tables : List History) (a : State) (b : Database) → MayReplay mark after last tables a b → IsAt mark a.database b after (first_session a)
at_start mark after last tables a b may =
    let at = at_begin mark after last tables a b may in
    subst (λ (n : ℕ). IsAt mark a.database b n (first_session a)) (sym may.after_is)
    (record { from = at.from; last = at.last; ahm = at.ahm; cuts = at.cuts; good = at.good; shapes = at.shapes; tables = at.tables; rows = at.rows; idle = at.idle })

-- ---- what is held on the way

epochs_of : (mark k : ℕ) (a : State) (b : Database) (s : State) → k ≤ b.last → IsAt mark a.database b k s → HasEpochsOf mark a b s
epochs_of mark k a b s le at = record {
  from = subst (λ (n : ℕ). a.database.last ≤ n) (sym at.last) at.from;
  upto = subst (λ (n : ℕ). n ≤ b.last) (sym at.last) le;
  tables = at.tables;
  rows = λ name. subst (λ (n : ℕ). SameBag (history mark name s.database) (history mark name (cut n b))) (sym at.last) (at.rows name);
  idle = at.idle;
}

abbrev pub failed : LinkFault → Result ℕ LinkFault
failed f = Err f

abbrev pub stopped : LinkFault → Result (Unit {0}) LinkFault
stopped f = Err f

-- where the epochs couldn't all be committed
pub stops_short : {D : Type 0} (disk : Ghosts D) (mark after last : ℕ) (a : State) (b : Database) (is : Running) (old new : D) (f : LinkFault) → last ≤ b.last → Comes disk mark a.database b after last is old new (stopped f) → Replays disk mark last is new (failed f) a b
stops_short {D} disk mark after last a b is old new f le comes = record { done = tt; left = by f comes.fault (λ wants. comes.short wants) }
  where
    by : (g : LinkFault) → IsShortBehind g → (IsErrOf (stopped g) link.Memory → (k : ℕ) × (after ≤ k) × (k ≤ last) × (s : State) × IsState disk is new s × IsAt mark a.database b k s) → LeavesBehind (IsState disk is new) mark a b g
    by (link.SchemaDiffers name) none short = none
    by (link.NotBehind behind ahead) none short = none
    by (link.HistoryGone at ahm) none short = none
    by (link.Differs table row) none short = none
    by (link.Gap n) none short = none
    by (link.TooMany n) none short = none
    by link.NumbersSpent none short = absurd none
    by link.BehindDisk ok short = tt
    by link.AheadDisk none short = none
    by (link.Damaged name) none short = none
    by link.Memory ok short = let (k, low, high, s, here, at) = short refl in (s, here, epochs_of mark k a b s (within k high) at)
      where
        within : (k : ℕ) → k ≤ last → k ≤ b.last
        within k high = omega (arith, high, le)

-- where it couldn't begin
pub stops_first : {D : Type 0} (disk : Ghosts D) (mark after last : ℕ) (tables : List History) (a : State) (b : Database) (is : Running) (now : D) → MayReplay mark after last tables a b → IsState disk is now (first_session a) → Replays disk mark last is now (failed link.Memory) a b
stops_first disk mark after last tables a b is now may here =
    record { done = tt; left = (first_session a, here, epochs_of mark after a b (first_session a) (subst (λ (n : ℕ). n ≤ b.last) (sym may.after_is) may.accepted.ahead.last) (at_start mark after last tables a b may)) }

-- ---- the moveout

still_at : (mark last : ℕ) (a : State) (b : Database) (s : State) → IsSound a → last_good a.database ≡ a.database.last → IsSound s → IsAt mark a.database b last s → IsStill a.database.last s s
still_at mark last a b s begun good sound at = still_begins a.database s begun.database good sound.database at.shapes

caught_at : (mark last : ℕ) (a : State) (b : Database) (s new : State) → last ≡ b.last → IsSoundDatabase b → IsSound s → IsAt mark a.database b last s → IsStill a.database.last s new → IsCaughtUp mark new.database b
caught_at mark last a b s new is ahead sound at still =
    caught_still a.database.last mark s new b sound.database still (ends mark a.database b s ahead (subst (λ (n : ℕ). IsAt mark a.database b n s) is at))

-- some projection is behind where a moveout of all stopped
still_behind : (n e : ℕ) (s old new : State) → IsStill e s old → MovesOut n old true new → n ≤ length (behind old.database) → 0 < length (behind new.database)
still_behind zero e s old new still (is, same) le = absurd (cc)
still_behind (suc n) e s old new still (inl (spent, is, same)) le = subst (λ (x : State). 0 < length (behind x.database)) (sym same) (omega (arith, le))
still_behind (suc n) e s old new still (inr (free, mid, first, rest)) le =
    let at = first_moved (first_behind old.database) old mid still.sound refl first in
    let count = count_moved old.database mid.database at in
    still_behind n e s mid new (still_moved e s old mid still first) rest (fewer (length (behind mid.database)) (length (behind old.database)) count le)
  where
    fewer : (x y : ℕ) → x + 1 ≡ y → suc n ≤ y → n ≤ x
    fewer x y is low = omega (arith, is, low)

-- then the last good epoch is that of the start
good_unmoved : (e : ℕ) (s new : State) → IsStill e s new → 0 < length (behind new.database) → last_good new.database ≡ e
good_unmoved e s new still some = by (good_either e s new still)
  where
    low : (ss : List Shape) → 0 < length (filter (is_behind new.database.last) ss) → All (Reaches (last_good new.database)) ss → last_good new.database < new.database.last
    low ss more all = first (filter (is_behind new.database.last) ss) more (All-filter (is_behind new.database.last) (Reaches (last_good new.database)) ss all) (filter_passes (is_behind new.database.last) ss)
      where
        first : (xs : List Shape) → 0 < length xs → All (Reaches (last_good new.database)) xs → All (λ x. is_behind new.database.last x ≡ true) xs → last_good new.database < new.database.last
        first [] none reach passes = absurd (omega (arith, none))
        first (x ∷ xs) one reach passes =
            let (fresh, less) = and_true x.fresh (nat_lt x.lge new.database.last) (All-head (λ y. is_behind new.database.last y ≡ true) x xs passes) in
            below x.lge (All-head (Reaches (last_good new.database)) x xs reach fresh) less
          where
            below : (m : ℕ) → last_good new.database ≤ m → nat_lt m new.database.last ≡ true → last_good new.database < new.database.last
            below m from less = grind (arith, nat_tests)

    by : (last_good new.database ≡ e) ⊎ (last_good new.database ≡ s.database.last) → last_good new.database ≡ e
    by (inl is) = is
    by (inr is) =
        let less = low (all_shapes new.database.tables) some (shapes_joined (Reaches (last_good new.database)) new.database.tables (good_itself new.database still.sound).tables) in
        absurd (never (last_good new.database) new.database.last s.database.last less still.last is)
      where
        never : (g m l : ℕ) → g < m → m ≡ l → g ≡ l → ⊥
        never g m l lt one two = omega (arith, lt, one, two)

abbrev pub moved_ok : Result (Unit {0}) LinkFault
moved_ok = Ok tt

abbrev pub replayed_to : ℕ → Result ℕ LinkFault
replayed_to n = Ok n

-- where all went to disk
pub ends_moved : {D : Type 0} (disk : Ghosts D) (mark last : ℕ) (a : State) (b : Database) (s : State) (is : Running) (old new : D) → IsSound a → last_good a.database ≡ a.database.last → last ≡ b.last → IsSoundDatabase b → IsSound s → IsAt mark a.database b last s → MovesBehind disk is old new moved_ok s
    → Replays disk mark last is new (replayed_to last) a b
ends_moved disk mark last a b s is old new begun good last_is ahead sound at moves =
    let (after, all, here) = moves.done in
    let still : IsStill a.database.last s after = all_still a.database.last s after false (still_at mark last a b s begun good sound at) all in
    record {
      done = (
        refl,
        after,
        here,
        record {
          caught = caught_at mark last a b s after last_is ahead sound at still;
          good = all_reach s after sound.database all ∙ still.last ∙ at.last ∙ last_is;
          idle = still.sessions ∙ at.idle;
        },
        ap (λ (d : Database). d.ahm) (still.cuts 0) ∙ at.ahm,
      );
      left = tt;
    }

-- where it didn't
pub stops_moving : {D : Type 0} (disk : Ghosts D) (mark last : ℕ) (a : State) (b : Database) (s : State) (is : Running) (old new : D) (f : LinkFault) → IsSound a → last_good a.database ≡ a.database.last → last ≡ b.last → IsSoundDatabase b → IsSound s → IsAt mark a.database b last s → MovesBehind disk is old new (stopped f) s
    → Replays disk mark last is new (failed f) a b
stops_moving {D} disk mark last a b s is old new f begun good last_is ahead sound at moves = record { done = tt; left = by f moves.fault (λ wants. moves.spent wants) (λ wants. moves.short wants) }
  where
    begun_still : IsStill a.database.last s s
    begun_still = still_at mark last a b s begun good sound at

    by : (g : LinkFault) → MovesOrStops true g → (IsErrOf (stopped g) link.NumbersSpent → (after : State) × MovesAll s true after × IsState disk is new after) → (IsErrOf (stopped g) link.Memory → (after : State) × IsKeptButJob s after × IsState disk is new after) → LeavesBehind (IsState disk is new) mark a b g
    by (link.SchemaDiffers name) none spent short = none
    by (link.NotBehind behind ahead) none spent short = none
    by (link.HistoryGone at ahm) none spent short = none
    by (link.Differs table row) none spent short = none
    by (link.Gap n) none spent short = none
    by (link.TooMany n) none spent short = none
    by link.NumbersSpent ok spent short =
        let (after, all, here) = spent refl in
        let still : IsStill a.database.last s after = all_still a.database.last s after true begun_still all in (
          after,
          here,
          record {
            caught = caught_at mark last a b s after last_is ahead sound at still;
            good = good_unmoved a.database.last s after still (stops after all) ∙ sym good;
            idle = still.sessions ∙ at.idle;
          },
        )
      where
        stops : (after : State) → MovesAll s true after → 0 < length (behind after.database)
        stops after all = still_behind (length (behind s.database)) a.database.last s (record s { busy = 0 }) after (record { cuts = begun_still.cuts; last = begun_still.last; sessions = begun_still.sessions; sound = begun_still.sound; ends = begun_still.ends }) all.jobs (omega arith)
    by link.BehindDisk ok spent short = tt
    by link.AheadDisk none spent short = none
    by (link.Damaged name) none spent short = none
    by link.Memory ok spent short =
        let (after, kept, here) = short refl in
        let still : IsStill a.database.last s after = kept_still a.database.last s after begun_still kept in
        let same : after.database.last ≡ b.last = still.last ∙ at.last ∙ last_is in (
          after,
          here,
          record {
            from = subst (λ (n : ℕ). a.database.last ≤ n) (sym (still.last ∙ at.last)) at.from;
            upto = subst (λ (n : ℕ). n ≤ b.last) (sym same) (omega arith);
            tables = λ name. columns_still a.database.last s after still name ∙ at.tables name;
            rows = λ name.
                subst (λ (xs : List Stamped). SameBag xs (history mark name (cut after.database.last b))) (sym (history_still a.database.last mark s after sound.database still name))
                (subst (λ (n : ℕ). SameBag (history mark name s.database) (history mark name (cut n b))) (sym (still.last ∙ at.last)) (at.rows name));
            idle = still.sessions ∙ at.idle;
          },
        )

-- ---- images

moved_image : (mark last : ℕ) (a : State) (b : Database) (s mid : State) (x : Contents) → IsSound a → last_good a.database ≡ a.database.last → last ≡ b.last → IsSoundDatabase b → IsSound s → IsAt mark a.database b last s → IsKeptOrMoved s mid → ReopensTo mid x → ReopensBehindOrCaught mark a b x
moved_image mark last a b s mid x begun good last_is ahead sound at kept reopens = by (good_either a.database.last s mid still)
  where
    still : IsStill a.database.last s mid
    still = kept_or_moved_still a.database.last s mid (still_at mark last a b s begun good sound at) kept

    by : (last_good mid.database ≡ a.database.last) ⊎ (last_good mid.database ≡ s.database.last) → ReopensBehindOrCaught mark a b x
    by (inl is) = inl (subst (Reopens x) (still.cuts a.database.last ∙ at.cuts a.database.last (omega arith)) (subst (λ (k : ℕ). Reopens x (cut k mid.database)) is reopens))
    by (inr is) = inr (mid, caught_at mark last a b s mid last_is ahead sound at still, subst (λ (k : ℕ). Reopens x (cut k mid.database)) (is ∙ at.last ∙ last_is) reopens)

pub comes_leaves : {D T : Type 0} (disk : Ghosts D) (mark after last : ℕ) (a : State) (b : Database) (is : Running) (old new : D) (result : Result T LinkFault) → Comes disk mark a.database b after last is old new result → Leaves disk (ReopensBehindOrCaught mark a b) old new
comes_leaves disk mark after last a b is old new result comes = leaves_wider disk (λ x reopens. inl reopens) comes.any_moment

pub moves_leaves : {D T : Type 0} (disk : Ghosts D) (mark last : ℕ) (a : State) (b : Database) (s : State) (is : Running) (old new : D) (result : Result T LinkFault) → IsSound a → last_good a.database ≡ a.database.last → last ≡ b.last → IsSoundDatabase b → IsSound s → IsAt mark a.database b last s
    → MovesBehind disk is old new result s → Leaves disk (ReopensBehindOrCaught mark a b) old new
moves_leaves disk mark last a b s is old new result begun good last_is ahead sound at moves =
    leaves_wider disk (λ x at_mid. moved_image mark last a b s at_mid.0 x begun good last_is ahead sound at at_mid.1 at_mid.2) moves.any_moment

-- where it couldn't begin
pub begins_leaves : {D : Type 0} (disk : Ghosts D) (mark after last : ℕ) (tables : List History) (a : State) (b : Database) (is : Running) (now : D) → MayReplay mark after last tables a b → IsState disk is now (first_session a) → Leaves disk (ReopensBehindOrCaught mark a b) now now
begins_leaves disk mark after last tables a b is now may here =
    leaves_wider disk (λ x reopens. inl (at_reopens mark after a.database b (first_session a) x (at_start mark after last tables a b may) may.good reopens)) (still_leaves disk is now (first_session a) here)

-- ---- over the calls

-- the law of a store whose session changes
abbrev pub Sessions : {D : Type 0} → Ghosts D → Type 0
Sessions {D} disk = (now : D) (r : Running) (state : State) (n : ℕ) → 1 ≤ n → n ≤ 8 → IsState disk r now state → IsState disk (with_current n r) now (record state { current = n })

pub started : {D : Type 0} (disk : Ghosts D) (now : D) → Sessions disk → (was is : Running) (a : State) → is ≡ with_current 1 was → IsState disk was now a → IsState disk is now (first_session a)
started disk now sessions was is a same here = subst (λ (r : Running). IsState disk r now (first_session a)) (sym same) (sessions now was a 1 (omega arith) (omega arith) here)

-- what the commits of the epochs make of a store
abbrev pub Commits : {D T : Type 0} → Ghosts D → ℕ → ℕ → List Changed → Running → Running → D → D → Result T LinkFault → Type 0
Commits disk after last cs was is old new result =
    (mark : ℕ) (start b : Database) (s : State) → after ≤ last → Setting mark after start b cs → NoEpoch (is_gap b) after last → IsAt mark start b after s → IsState disk was old s → Comes disk mark start b after last is old new result

pub upto_ahead : (mark after last : ℕ) (tables : List History) (a : State) (b : Database) → MayReplay mark after last tables a b → last ≤ b.last
upto_ahead mark after last tables a b may = let is = may.last_is in omega (arith, is)

pub commits_come : {D T : Type 0} (disk : Ghosts D) (mark after last : ℕ) (tables : List History) (a : State) (b : Database) (cs : List Changed) (was is : Running) (old new : D) (result : Result T LinkFault) → IsSound a → MayReplay mark after last tables a b → AllZip (AreChangesOf after) tables cs → IsState disk was old (first_session a)
    → Commits disk after last cs was is old new result → Comes disk mark a.database b after last is old new result
commits_come disk mark after last tables a b cs was is old new result sound may are here commits =
    commits mark a.database b (first_session a) above (setting_of mark after last tables a b cs sound may are) (subst (NoEpoch (is_gap b) after) (sym may.last_is) may.accepted.no_gap) (at_start mark after last tables a b may) here
  where
    above : after ≤ last
    above = let one = may.after_is in let two = may.last_is in let le = may.accepted.ahead.last in omega (arith, one, two, le)

-- what a moveout of all makes of a store
abbrev pub Moves : {D T : Type 0} → Ghosts D → Running → Running → D → D → Result T LinkFault → Type 0
Moves disk was is old new result = (s : State) → IsState disk was old s → MovesBehind disk is old new result s

-- behind the commits all went to disk
pub replays_all : {D : Type 0} (disk : Ghosts D) (mark after last : ℕ) (tables : List History) (a : State) (b : Database) (was is : Running) (old mid new : D) → IsSound a → MayReplay mark after last tables a b → Comes disk mark a.database b after last was old mid replayed_ok → Moves disk was is mid new moved_ok
    → Replays disk mark last is new (replayed_to last) a b
replays_all disk mark after last tables a b was is old mid new begun may comes moves =
    let (s, here, at) = comes.done in
    ends_moved disk mark last a b s is mid new begun may.good may.last_is may.sound here.sound at (moves s here)

-- behind the commits not all went to disk
pub replays_some : {D : Type 0} (disk : Ghosts D) (mark after last : ℕ) (tables : List History) (a : State) (b : Database) (was is : Running) (old mid new : D) (f : LinkFault) → IsSound a → MayReplay mark after last tables a b → Comes disk mark a.database b after last was old mid replayed_ok → Moves disk was is mid new (stopped f)
    → Replays disk mark last is new (failed f) a b
replays_some disk mark after last tables a b was is old mid new f begun may comes moves =
    let (s, here, at) = comes.done in
    stops_moving disk mark last a b s is mid new f begun may.good may.last_is may.sound here.sound at (moves s here)

-- whatever a crash leaves of both
pub replays_leave : {D T : Type 0} (disk : Ghosts D) (mark after last : ℕ) (tables : List History) (a : State) (b : Database) (was is : Running) (old mid new : D) (result : Result T LinkFault) → IsSound a → MayReplay mark after last tables a b → Comes disk mark a.database b after last was old mid replayed_ok → Moves disk was is mid new result
    → Leaves disk (ReopensBehindOrCaught mark a b) old new
replays_leave disk mark after last tables a b was is old mid new result begun may comes moves =
    let (s, here, at) = comes.done in
    leaves_join disk (comes_leaves disk mark after last a b was old mid replayed_ok comes) (moves_leaves disk mark last a b s is mid new result begun may.good may.last_is may.sound here.sound at (moves s here))
