-- The ancient history mark of a sound state may rise up to the last good epoch.
use Rattle.std.proofs.Common.{◌≡◌, ◌≤◌, ℕ, Bool, true, false, None, refl, arith}
use Rattle.std.specs.Prelude.{◌||◌, nat_lt}
use Rattle.std.proofs.lemmas.Bool.Decides.{nat_tests}
use Rattle.std.proofs.lemmas.List.Elements.{All-weaker}
use Rattle.sql_tree.specs.declared.refusal.Refusal.{Refusal}
use Rattle.sql_binding.specs.Firsts.{first_of, refused_where}
use Rattle.db_model.specs.Database.{Database, Shape, Table}
use Rattle.db_model.specs.Epochs.{last_good}
use Rattle.db_model.specs.Events.{mark_raised}
use Rattle.db_model.specs.Refusals.{mark_refusal, raise_refusal}
use Rattle.db_model.specs.Sound.{ChangesFit, IsSound, IsSoundDatabase, IsStale}
use Rattle.db_model.specs.State.{State, Changes}
use Rattle.db_laws.proofs.Goods.{Reaches, TableReaches, good_itself}
use Rattle.sound_laws.proofs.Marked.{marked_sound}
use Rattle.state_laws.proofs.Events.{database_sound, first_none}

changes_still : (d : Database) (mark : ℕ) (c : Changes) → ChangesFit d c → ChangesFit (record d { ahm = mark }) c
changes_still d mark c fit = record { table = fit.table; there = fit.there; rows = fit.rows; deletes = fit.deletes; shared = fit.shared }

shape_reaches : (mark later : ℕ) → mark ≤ later → (s : Shape) → Reaches later s → Reaches mark s
shape_reaches mark later le s reach fresh = let far = reach fresh in omega (arith, le, far)

table_reaches : (mark later : ℕ) → mark ≤ later → (t : Table) → TableReaches later t → TableReaches mark t
table_reaches mark later le t reach = All-weaker (Reaches later) (Reaches mark) (shape_reaches mark later le) t.shapes reach

-- a mark that isn't refused is no later than the last good epoch
unrefused : (b : Bool) (r : Refusal) → refused_where b r ≡ None → b ≡ false
unrefused true r is = absurd (cc)
unrefused false r is = refl

not_past : (a b : Bool) → (a || b) ≡ false → b ≡ false
not_past true b is = absurd (cc)
not_past false b is = is

pub allowed_mark : (mark : ℕ) (state : State) → first_of (mark_refusal mark state.database) (raise_refusal mark state) ≡ None → mark ≤ last_good state.database
allowed_mark mark state none =
    let d = state.database in
    let (own, raise) = first_none (mark_refusal mark d) (raise_refusal mark state) none in
    let within : nat_lt (last_good d) mark ≡ false = not_past (nat_lt mark d.ahm) (nat_lt (last_good d) mark) (unrefused (nat_lt mark d.ahm || nat_lt (last_good d) mark) (Refusal.BadMark mark d.ahm (last_good d)) own) in
    grind (arith, nat_tests)

pub raised_database : (d : Database) (mark : ℕ) → mark ≤ last_good d → IsSoundDatabase d → IsSoundDatabase (record d { ahm = mark })
raised_database d mark le sound =
    let good = good_itself d sound in
    let closed = good.closed in
    marked_sound d mark (omega (arith, le, closed)) (All-weaker (TableReaches (last_good d)) (TableReaches mark) (table_reaches mark (last_good d) le) d.tables good.tables) sound

pub raised_state : (state : State) (mark : ℕ) → mark ≤ last_good state.database → IsSound state → IsSound (mark_raised mark state)
raised_state state mark le sound =
    let d = state.database in
    let e = record d { ahm = mark } in
    database_sound state e (All-weaker (IsStale d) (IsStale e) (λ n is. record { table = is.table; shape = is.shape; there = is.there; of = is.of; named = is.named; stale = is.stale }) state.asked sound.asked)
    (changes_still d mark) (raised_database d mark le sound.database) sound
