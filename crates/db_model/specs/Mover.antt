-- What the tuple mover makes of a state: no row changes, but what is on disk.
use Rattle.std.specs.Prelude.{ℕ, zero, suc, ◌≡◌, ◌⊎◌, ◌≤◌, ◌-◌, ◌==◌, not, nat_lt, if◌then◌else◌, Bool, true, false, List, [], ◌∷◌, map, filter, find, length, Contains, Option, Some, None, bytes_eq}
use Rattle.std.specs.List.{list_all}
use Rattle.std.specs.Option.{option_map_or}
use Rattle.std.specs.Ordering.{is_lt, nat_cmp, on, then_cmp}
use Rattle.std.specs.Cmp.Lexicographic.{slice_cmp}
use Rattle.db_model.specs.Database.{Shape, Table, Database, table_named, is_behind}
use Rattle.db_model.specs.State.{State}
use Rattle.db_model.specs.Epochs.{all_shapes}
use Rattle.db_model.specs.Numbers.{are_spent, DrawsWithin, IsDrawn}
use Rattle.db_model.specs.Events.{stale_names}

-- the projection of a name changed
abbrev pub change_shape : List ℕ → (Shape → Shape) → Shape → Shape
change_shape name change s = if bytes_eq s.name name then change s else s

abbrev pub change_shape_of : List ℕ → (Shape → Shape) → Table → Table
change_shape_of name change t = record t { shapes = map (change_shape name change) t.shapes }

abbrev pub with_change : List ℕ → (Shape → Shape) → Database → Database
with_change name change d = record d { tables = map (change_shape_of name change) d.tables }

-- all its data up to an epoch is on disk, and it is up to date
abbrev pub reached_to : ℕ → Shape → Shape
reached_to epoch s = record s { fresh = true; lge = epoch }

-- the up-to-date projections whose data isn't all on disk
abbrev pub behind : Database → List Shape
behind d = filter (is_behind d.last) (all_shapes d.tables)

-- first that of the least epoch, and of equal ones the least name
abbrev pub moves_first : Shape → Shape → Bool
moves_first s other = is_lt (then_cmp (on (λ x. x.lge) nat_cmp) (on (λ x. x.name) (slice_cmp nat_cmp)) s other)

abbrev pub first_behind : Database → Option Shape
first_behind d = find (λ s. list_all (λ other. not (moves_first other s)) (behind d)) (behind d)

-- a moveout: all data of one projection goes to disk
abbrev pub moved_one : Shape → State → State
moved_one s state = record state { database = with_change s.name (reached_to state.database.last) state.database }

-- a moveout of the first projection that is behind, where there is one
abbrev pub MovesFirst : Option Shape → State → State → Type 0
MovesFirst None old new = ⊥
MovesFirst (Some s) old new = IsDrawn old (moved_one s old) new

-- So many jobs of a statement, one after the other, up to one that would draw where the numbers are spent: there they stop.
abbrev pub Jobs : (State → State → Type 0) → ℕ → State → Bool → State → Type 0
Jobs Job zero old stopped new = (stopped ≡ false) × (new ≡ old)
Jobs Job (suc n) old stopped new =
    ((are_spent old ≡ true) × (stopped ≡ true) × (new ≡ old))
    ⊎ ((are_spent old ≡ false) × (mid : State) × Job old mid × Jobs Job n mid stopped new)

-- so many moveouts
abbrev pub MovesOut : ℕ → State → Bool → State → Type 0
MovesOut n old stopped new = Jobs (λ one other. MovesFirst (first_behind one.database) one other) n old stopped new

-- the mover's job is given up
abbrev pub given_up : State → State
given_up state = record state { busy = 0 }

-- A moveout of all projections that are behind, as one event; it may stop where the numbers are spent.
pub record MovesAll (old : State) (stopped : Bool) (new : State) : Type 0 where
  pub jobs : MovesOut (length (behind old.database)) (given_up old) stopped new
  pub drawn : DrawsWithin old new

-- The last step of a job may do one thing besides: the epoch up to which an up-to-date projection is on disk rises, or a stale projection
-- that was asked for becomes up to date.
pub record Rises (old : Database) (new : Database) : Type 0 where
  pub shape : Shape
  pub epoch : ℕ
  pub there : Contains (all_shapes old.tables) shape
  pub fresh : shape.fresh ≡ true
  pub from : shape.lge ≤ epoch
  pub to : epoch ≤ old.last
  pub same : new ≡ with_change shape.name (reached_to epoch) old

abbrev pub refreshed : List ℕ → State → State
refreshed name state = record state {
  database = with_change name (reached_to state.database.last) state.database;
  asked = filter (λ n. not (bytes_eq n name)) state.asked;
}

-- Jobs of a statement that each raise the epoch up to which one of these projections is on disk. How many there are, the containers
-- decide.
abbrev pub RaisesOne : (Shape → Bool) → State → State → Type 0
RaisesOne meant old new = (d : Database) × (r : Rises old.database d) × (meant r.shape ≡ true) × IsDrawn old (record old { database = d }) new

pub record RaisesAll (meant : Shape → Bool) (old : State) (stopped : Bool) (new : State) : Type 0 where
  pub count : ℕ
  pub jobs : Jobs (RaisesOne meant) count (given_up old) stopped new
  pub drawn : DrawsWithin old new

-- Jobs of a statement that make the projections of a table up to date that aren't, each in its turn.
abbrev pub stale_of : List ℕ → Database → List (List ℕ)
stale_of table d = stale_names (option_map_or (λ t. t.shapes) (table_named table d.tables) [])

abbrev pub RefreshesFirst : List (List ℕ) → State → State → Type 0
RefreshesFirst [] old new = ⊥
RefreshesFirst (name ∷ names) old new = IsDrawn old (refreshed name old) new

pub record RefreshesAll (table : List ℕ) (old : State) (stopped : Bool) (new : State) : Type 0 where
  pub jobs : Jobs (λ one other. RefreshesFirst (stale_of table one.database) one other) (length (stale_of table old.database)) (given_up old) stopped new
  pub drawn : DrawsWithin old new

-- what a job makes of a state besides its numbers
abbrev pub Installs : State → State → Type 0
Installs old made =
    (made ≡ old)
    ⊎ (((d : Database) × Rises old.database d × (made ≡ record old { database = d }))
    ⊎ ((name : List ℕ) × Contains old.asked name × (made ≡ refreshed name old)))

-- a step of the job in flight, its last one or not
abbrev pub GoesOn : Bool → State → State → Type 0
GoesOn true old new = (made : State) × Installs (given_up old) made × IsDrawn old made new
GoesOn false old new = new ≡ record old { busy = old.busy - 1 }

-- A job of 3 to 66 steps may begin; where a projection is asked for, one does.
abbrev pub MayBegin : State → State → Type 0
MayBegin old new =
    ((old.asked ≡ []) × (new ≡ old))
    ⊎ ((steps : ℕ) × (3 ≤ steps) × (steps ≤ 66) × IsDrawn old (record old { busy = steps }) new)

abbrev pub MovesOrBegins : Option Shape → State → State → Type 0
MovesOrBegins (Some s) old new = IsDrawn old (moved_one s old) new
MovesOrBegins None old new = MayBegin old new

-- the first of these that applies: the job in flight goes on, a projection is moved out, a job begins
abbrev pub StepsOn : Bool → State → State → Type 0
StepsOn true old new = GoesOn (old.busy == 1) old new
StepsOn false old new = MovesOrBegins (first_behind old.database) old new

-- where the numbers are spent the mover does nothing
abbrev pub StepsUnless : Bool → State → State → Type 0
StepsUnless true old new = new ≡ old
StepsUnless false old new = StepsOn (nat_lt 0 old.busy) old new

-- a step of the mover
abbrev pub MoverSteps : State → State → Type 0
MoverSteps old new = StepsUnless (are_spent old) old new

-- so many steps of the mover
abbrev pub MoverRuns : ℕ → State → State → Type 0
MoverRuns zero old new = new ≡ old
MoverRuns (suc n) old new = (mid : State) × MoverSteps old mid × MoverRuns n mid new
