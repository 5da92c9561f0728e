-- A moveout of all behind a replay: no row changes, and what is on disk reaches the epoch of the start or the newest one.
use Rattle.std.proofs.Common.{◌≡◌, ◌≤◌, inl, inr, ℕ, zero, suc, Bool, true, false, cond, List, [], ◌∷◌, map, filter, length, Option, Some, None, refl, sym, ap, ◌∙◌, arith, subst}
use Rattle.std.specs.Prelude.{min, fold, option_map, ◌⊎◌}
use Rattle.std.specs.Bool.{OnTrue}
use Rattle.std.specs.List.{All}
use Rattle.std.proofs.lemmas.List.Elements.{All-cons, All-head, All-nil, All-tail, All-weaker}
use Rattle.common_laws.specs.Bags.{SameBag}
use Rattle.col_value.specs.declared.row.Stamped.{Stamped}
use Rattle.db_model.specs.Database.{Database, Shape, Table, table_named}
use Rattle.db_model.specs.Epochs.{all_shapes, cut, cut_table, last_good, least_or}
use Rattle.db_model.specs.Mover.{behind, first_behind, given_up, reached_to, MovesAll, MovesFirst, MovesOut}
use Rattle.db_model.specs.Sound.{ReachesMark, IsSoundDatabase, IsSoundShape, IsSoundTable}
use Rattle.db_model.specs.State.{State}
use Rattle.db_laws.proofs.Goods.{good_itself, shapes_apart, shapes_joined, Reaches, TableReaches}
use Rattle.sound_laws.specs.Moves.{change_at, reached_in}
use Rattle.state_laws.proofs.Tables.{map_named}
use Rattle.store_core.proofs.Placed.{all_change, cut_moved, first_moved, moved_last, sound_moved, MovedAt}
use Rattle.store_core.specs.Cuts.{IsKeptButJob}
use Rattle.store_core.specs.Moving.{IsKeptOrMoved}
use Rattle.catch_model.specs.Caught.{columns_of, history, IsCaughtUp}
use Rattle.catch_laws.proofs.Committed.{whole_history}

-- ---- no row changes

-- a projection is up to date up to one of two epochs
abbrev pub ReachesEither : ℕ → ℕ → Shape → Type 0
ReachesEither e last s = s.fresh ≡ true → (s.lge ≡ e) ⊎ (s.lge ≡ last)

pub record IsStill (e : ℕ) (s new : State) : Type 0 where
  pub cuts : (k : ℕ) → cut k new.database ≡ cut k s.database
  pub last : new.database.last ≡ s.database.last
  pub sessions : new.sessions ≡ s.sessions
  pub sound : IsSoundDatabase new.database
  pub ends : All (ReachesEither e s.database.last) (all_shapes new.database.tables)

sessions_moved : (o : Option Shape) (old new : State) → MovesFirst o old new → new.sessions ≡ old.sessions
sessions_moved None old new moves = absurd moves
sessions_moved (Some s) old new moves = ap (λ (x : State). x.sessions) moves.same

ends_moved : (e last : ℕ) (d f : Database) → MovedAt d f → d.last ≡ last → All (ReachesEither e last) (all_shapes d.tables) → All (ReachesEither e last) (all_shapes f.tables)
ends_moved e last d f moved is all =
    subst (λ (x : Database). All (ReachesEither e last) (all_shapes x.tables)) (sym moved.is)
    (shapes_joined (ReachesEither e last) (change_at moved.table (reached_in d.last moved.place) d.tables)
    (all_change (λ t. All (ReachesEither e last) t.shapes) moved.table (reached_in d.last moved.place) d.tables
    (λ t here. all_change (ReachesEither e last) moved.place (reached_to d.last) t.shapes (λ s told. λ fresh. inr is) here) (shapes_apart (ReachesEither e last) d.tables all)))

pub still_moved : (e : ℕ) (s old new : State) → IsStill e s old → MovesFirst (first_behind old.database) old new → IsStill e s new
still_moved e s old new still moves =
    let at : MovedAt old.database new.database = first_moved (first_behind old.database) old new still.sound refl moves in
    record {
      cuts = λ k. cut_moved k old.database new.database at ∙ still.cuts k;
      last = moved_last old.database new.database at ∙ still.last;
      sessions = sessions_moved (first_behind old.database) old new moves ∙ still.sessions;
      sound = sound_moved old.database new.database at still.sound;
      ends = ends_moved e s.database.last old.database new.database at still.last still.ends;
    }

jobs_still : (n e : ℕ) (s old new : State) (stopped : Bool) → IsStill e s old → MovesOut n old stopped new → IsStill e s new
jobs_still zero e s old new stopped still (is, same) = subst (IsStill e s) (sym same) still
jobs_still (suc n) e s old new stopped still (inl (spent, is, same)) = subst (IsStill e s) (sym same) still
jobs_still (suc n) e s old new stopped still (inr (free, mid, first, rest)) = jobs_still n e s mid new stopped (still_moved e s old mid still first) rest

-- ---- at the begin all is on disk up to the newest epoch

reached_whole : (d : Database) → IsSoundDatabase d → last_good d ≡ d.last → All (λ s. s.fresh ≡ true → s.lge ≡ d.last) (all_shapes d.tables)
reached_whole d sound good = shapes_joined (λ s. s.fresh ≡ true → s.lge ≡ d.last) d.tables (by d.tables (good_itself d sound).tables sound.tables)
  where
    each : (s : Shape) (b : Bool) → s.fresh ≡ b → OnTrue b (ReachesMark d s) → (b ≡ true → last_good d ≤ s.lge) → b ≡ true → s.lge ≡ d.last
    each s false is told least fresh = absurd (cc)
    each s true is told least fresh = let closed = told.closed in let from = least refl in omega (arith, closed, from, good)

    shapes : (ss : List Shape) → All (Reaches (last_good d)) ss → All (IsSoundShape d) ss → All (λ s. s.fresh ≡ true → s.lge ≡ d.last) ss
    shapes [] least told = All-nil (λ s. s.fresh ≡ true → s.lge ≡ d.last)
    shapes (s ∷ ss) least told =
        All-cons (λ x. x.fresh ≡ true → x.lge ≡ d.last) s ss (each s s.fresh refl (All-head (IsSoundShape d) s ss told) (All-head (Reaches (last_good d)) s ss least)) (shapes ss (All-tail (Reaches (last_good d)) s ss least) (All-tail (IsSoundShape d) s ss told))

    by : (ts : List Table) → All (TableReaches (last_good d)) ts → All (IsSoundTable d) ts → All (λ t. All (λ s. s.fresh ≡ true → s.lge ≡ d.last) t.shapes) ts
    by [] least told = All-nil (λ t. All (λ s. s.fresh ≡ true → s.lge ≡ d.last) t.shapes)
    by (t ∷ ts) least told =
        All-cons (λ u. All (λ s. s.fresh ≡ true → s.lge ≡ d.last) u.shapes) t ts (shapes t.shapes (All-head (TableReaches (last_good d)) t ts least) (All-head (IsSoundTable d) t ts told).shapes)
        (by ts (All-tail (TableReaches (last_good d)) t ts least) (All-tail (IsSoundTable d) t ts told))

pub still_begins : (start : Database) (s : State) → IsSoundDatabase start → last_good start ≡ start.last → IsSoundDatabase s.database → all_shapes s.database.tables ≡ all_shapes start.tables → IsStill start.last s s
still_begins start s begun good sound shapes = record {
  cuts = λ k. refl;
  last = refl;
  sessions = refl;
  sound = sound;
  ends = subst (λ (ss : List Shape). All (ReachesEither start.last s.database.last) ss) (sym shapes)
      (All-weaker (λ x. x.fresh ≡ true → x.lge ≡ start.last) (ReachesEither start.last s.database.last) (λ x told. λ fresh. inl (told fresh)) (all_shapes start.tables) (reached_whole start begun good));
}

given_still : (e : ℕ) (s : State) → IsStill e s s → IsStill e s (given_up s)
given_still e s still = record { cuts = still.cuts; last = still.last; sessions = still.sessions; sound = still.sound; ends = still.ends }

pub all_still : (e : ℕ) (s new : State) (stopped : Bool) → IsStill e s s → MovesAll s stopped new → IsStill e s new
all_still e s new stopped still moves = jobs_still (length (behind s.database)) e s (given_up s) new stopped (given_still e s still) moves.jobs

pub kept_still : (e : ℕ) (s new : State) → IsStill e s s → IsKeptButJob s new → IsStill e s new
kept_still e s new still (inl same) = subst (IsStill e s) (sym same) still
kept_still e s new still (inr same) = subst (IsStill e s) (sym same) (given_still e s still)

pub kept_or_moved_still : (e : ℕ) (s new : State) → IsStill e s s → IsKeptOrMoved s new → IsStill e s new
kept_or_moved_still e s new still (inl kept) = kept_still e s new still kept
kept_or_moved_still e s new still (inr moves) = all_still e s new false still moves

-- ---- it has caught up still

columns_cut : (k : ℕ) (name : List ℕ) (d : Database) → columns_of name (cut k d) ≡ columns_of name d
columns_cut k name d = ap (λ (o : Option Table). option_map (λ t. t.columns) o) (map_named (cut_table k) name d.tables (λ t. refl)) ∙ by (table_named name d.tables)
  where
    by : (o : Option Table) → option_map (λ t. t.columns) (option_map (cut_table k) o) ≡ option_map (λ t. t.columns) o
    by None = refl
    by (Some t) = refl

pub columns_still : (e : ℕ) (s new : State) → IsStill e s new → (name : List ℕ) → columns_of name new.database ≡ columns_of name s.database
columns_still e s new still name = sym (columns_cut s.database.last name new.database) ∙ ap (columns_of name) (still.cuts s.database.last) ∙ columns_cut s.database.last name s.database

pub history_still : (e mark : ℕ) (s new : State) → IsSoundDatabase s.database → IsStill e s new → (name : List ℕ) → history mark name new.database ≡ history mark name s.database
history_still e mark s new sound still name =
    sym (whole_history mark name new.database still.sound) ∙ ap (λ (k : ℕ). history mark name (cut k new.database)) still.last ∙ ap (history mark name) (still.cuts s.database.last) ∙ whole_history mark name s.database sound

pub caught_still : (e mark : ℕ) (s new : State) (b : Database) → IsSoundDatabase s.database → IsStill e s new → IsCaughtUp mark s.database b → IsCaughtUp mark new.database b
caught_still e mark s new b sound still caught = record {
  last = still.last ∙ caught.last;
  tables = λ name. columns_still e s new still name ∙ caught.tables name;
  rows = λ name. subst (λ (xs : List Stamped). SameBag xs (history mark name b)) (sym (history_still e mark s new sound still name)) (caught.rows name);
}

-- ---- the last good epoch

least_either : (P : ℕ → Type 0) (other : ℕ) (ms : List ℕ) → P other → All P ms → P (least_or other ms)
least_either P other [] here all = here
least_either P other (m ∷ ms) here all = folded m ms (All-head P m ms all) (All-tail P m ms all)
  where
    one : (a n : ℕ) → P a → P n → P (min a n)
    one a n x y = by (which a n)
      where
        which : (c d : ℕ) → (min c d ≡ c) ⊎ (min c d ≡ d)
        which c d = grind (arith)

        by : (min a n ≡ a) ⊎ (min a n ≡ n) → P (min a n)
        by (inl is) = subst P (sym is) x
        by (inr is) = subst P (sym is) y

    folded : (a : ℕ) (ns : List ℕ) → P a → All P ns → P (fold min a ns)
    folded a [] x more = x
    folded a (n ∷ ns) x more = folded (min a n) ns (one a n x (All-head P n ns more)) (All-tail P n ns more)

fresh_ends : (e last : ℕ) (ss : List Shape) → All (ReachesEither e last) ss → All (λ m. (m ≡ e) ⊎ (m ≡ last)) (map (λ s. s.lge) (filter (λ s. s.fresh) ss))
fresh_ends e last [] all = All-nil (λ m. (m ≡ e) ⊎ (m ≡ last))
fresh_ends e last (s ∷ ss) all = by s.fresh refl (fresh_ends e last ss (All-tail (ReachesEither e last) s ss all))
  where
    by : (b : Bool) → s.fresh ≡ b → All (λ m. (m ≡ e) ⊎ (m ≡ last)) (map (λ x. x.lge) (filter (λ x. x.fresh) ss)) → All (λ m. (m ≡ e) ⊎ (m ≡ last)) (map (λ x. x.lge) (cond b (s ∷ filter (λ x. x.fresh) ss) (filter (λ x. x.fresh) ss)))
    by true is rest = All-cons (λ m. (m ≡ e) ⊎ (m ≡ last)) s.lge (map (λ x. x.lge) (filter (λ x. x.fresh) ss)) (All-head (ReachesEither e last) s ss all is) rest
    by false is rest = rest

-- the last good epoch is that of the start or the newest one
pub good_either : (e : ℕ) (s new : State) → IsStill e s new → (last_good new.database ≡ e) ⊎ (last_good new.database ≡ s.database.last)
good_either e s new still =
    least_either (λ m. (m ≡ e) ⊎ (m ≡ s.database.last)) new.database.last (map (λ x. x.lge) (filter (λ x. x.fresh) (all_shapes new.database.tables))) (inr still.last) (fresh_ends e s.database.last (all_shapes new.database.tables) still.ends)
