-- Two runs of a script, each with its own steps of the mover.
use Rattle.std.proofs.Common.{◌≡◌, ℕ, zero, suc, ◌≤◌, ◌++◌, ◌||◌, Bool, true, false, cond, List, [], ◌∷◌, map, refl, sym, ap, ap₂, ◌∙◌, subst, arith, inl, inr}
use Rattle.std.specs.Prelude.{◌==◌, ◌⊎◌, nat_le, nat_lt, Option, Some, None, bytes_eq, is_some}
use Rattle.std.specs.List.{All}
use Rattle.std.proofs.lemmas.List.Elements.{All-head, All-tail}
use Rattle.sql_words.specs.Symbols.{symbols_of}
use Rattle.sql_words.specs.Texts.{statement_texts}
use Rattle.sql_tree.specs.declared.refusal.Refusal.{Refusal}
use Rattle.sql_tree.specs.declared.statement.Function.{Function}
use Rattle.sql_tree.specs.declared.statement.Statement.{Statement}
use Rattle.sql_tree.specs.Spells.{Spells}
use Rattle.db_model.specs.Database.{Database, Shape, Table}
use Rattle.db_model.specs.Leaving.{CallLeaves, RefusedCallLeaves}
use Rattle.db_model.specs.Loading.{Files}
use Rattle.db_model.specs.Mover.{GoesOn, Installs, Jobs, MayBegin, MoverRuns, MoverSteps, MovesAll, MovesFirst, MovesOrBegins, RaisesAll, RaisesOne, RefreshesAll, RefreshesFirst, StepsOn, StepsUnless, change_shape, change_shape_of, first_behind, given_up, moved_one, reached_to, refreshed, stale_of, with_change}
use Rattle.db_model.specs.Numbers.{IsDrawn, are_spent}
use Rattle.db_model.specs.Printing.{CallPrints, Prints}
use Rattle.db_model.specs.Run.{EndsUnless, Run, RunTexts, Setting, all_dropped}
use Rattle.db_model.specs.State.{Changes, State}
use Rattle.db_model.specs.Step.{Decides, Effect, Reads, RefusesForm, Step}
use Rattle.one_text.specs.Movers.{IsBlind, IsSameButMoved, JobsHaveOneText, MoversHaveOneText, unmoved, unmoved_shape, unmoved_table, with_steps}
use Rattle.one_text.specs.OneText.{AsksForJobs, HasJobs}
use Rattle.one_text.specs.Scripts.{AsksNoMover, IsSameButNumbers}
use Rattle.one_text.proofs.Lasting.{mover_draws, step_draws}
use Rattle.one_text.proofs.Numbered.{IsOther, left_before, same_step}
use Rattle.one_text.proofs.OneScript.{ends_grow}
use Rattle.one_text.proofs.OneStep.{OneList, OneReading, read_once}
use Rattle.one_text.proofs.Stilled.{Unmoves, step_still}
use Rattle.one_text.proofs.Unmoved.{still}

-- ---- what the mover makes of a state is still the same

reached_still : (name : List ℕ) (e : ℕ) (ss : List Shape) → map unmoved_shape (map (change_shape name (reached_to e)) ss) ≡ map unmoved_shape ss
reached_still name e [] = refl
reached_still name e (s ∷ ss) = ap₂ (λ (one : Shape) (more : List Shape). one ∷ more) (by (bytes_eq s.name name)) (reached_still name e ss)
  where
    by : (b : Bool) → unmoved_shape (cond b (reached_to e s) s) ≡ unmoved_shape s
    by true = refl
    by false = refl

raised_still : (name : List ℕ) (e : ℕ) (ts : List Table) → map unmoved_table (map (change_shape_of name (reached_to e)) ts) ≡ map unmoved_table ts
raised_still name e [] = refl
raised_still name e (t ∷ ts) =
    ap₂ (λ (ss : List Shape) (more : List Table). record t { shapes = ss } ∷ more) (reached_still name e t.shapes) (raised_still name e ts)

-- a state with another database that is unmoved the same
database_still : (a : State) (d : Database) → unmoved d ≡ unmoved a.database → still (record a { database = d }) ≡ still a
database_still a d same = ap (λ (e : Database). record (still a) { database = e }) same

with_change_still : (name : List ℕ) (e : ℕ) (d : Database) → unmoved (with_change name (reached_to e) d) ≡ unmoved d
with_change_still name e d = ap (λ (ts : List Table). record d { tables = ts }) (raised_still name e d.tables)

drawn_still : (old made new : State) → IsDrawn old made new → still new ≡ still made
drawn_still old made new drawn = ap still drawn.same

moved_still : (s : Shape) (old new : State) → IsDrawn old (moved_one s old) new → still new ≡ still old
moved_still s old new drawn =
    drawn_still old (moved_one s old) new drawn
    ∙ database_still old (with_change s.name (reached_to old.database.last) old.database) (with_change_still s.name old.database.last old.database)

refreshed_still : (name : List ℕ) (old : State) → still (refreshed name old) ≡ still old
refreshed_still name old = database_still old (with_change name (reached_to old.database.last) old.database) (with_change_still name old.database.last old.database)

jobs_still : (Job : State → State → Type 0) → ((one other : State) → Job one other → still other ≡ still one) → (n : ℕ) (old : State) (stopped : Bool) (new : State) → Jobs Job n old stopped new → still new ≡ still old
jobs_still Job keeps zero old stopped new (s_is, is) = ap still is
jobs_still Job keeps (suc n) old stopped new (inl (spent, s_is, is)) = ap still is
jobs_still Job keeps (suc n) old stopped new (inr (free, mid, one, more)) = jobs_still Job keeps n mid stopped new more ∙ keeps old mid one

first_still : (o : Option Shape) (one other : State) → MovesFirst o one other → still other ≡ still one
first_still None one other is = absurd is
first_still (Some s) one other is = moved_still s one other is

all_still : (old : State) (stopped : Bool) (new : State) → MovesAll old stopped new → still new ≡ still old
all_still old stopped new moves = jobs_still _ (λ one other is. first_still (first_behind one.database) one other is) _ (given_up old) stopped new moves.jobs

raises_still : (meant : Shape → Bool) (old : State) (stopped : Bool) (new : State) → RaisesAll meant old stopped new → still new ≡ still old
raises_still meant old stopped new raises = jobs_still (RaisesOne meant) one raises.count (given_up old) stopped new raises.jobs
  where
    one : (a b : State) → RaisesOne meant a b → still b ≡ still a
    one a b (d, rises, is, drawn) =
        drawn_still a (record a { database = d }) b drawn ∙ database_still a d (ap unmoved rises.same ∙ with_change_still rises.shape.name rises.epoch a.database)

stale_still : (names : List (List ℕ)) (one other : State) → RefreshesFirst names one other → still other ≡ still one
stale_still [] one other is = absurd is
stale_still (name ∷ names) one other is = drawn_still one (refreshed name one) other is ∙ refreshed_still name one

refreshes_still : (table : List ℕ) (old : State) (stopped : Bool) (new : State) → RefreshesAll table old stopped new → still new ≡ still old
refreshes_still table old stopped new refreshes = jobs_still _ (λ one other is. stale_still (stale_of table one.database) one other is) _ (given_up old) stopped new refreshes.jobs

installs_still : (old made : State) → Installs old made → still made ≡ still old
installs_still old made (inl is) = ap still is
installs_still old made (inr (inl (d, rises, is))) = ap still is ∙ database_still old d (ap unmoved rises.same ∙ with_change_still rises.shape.name rises.epoch old.database)
installs_still old made (inr (inr (name, there, is))) = ap still is ∙ refreshed_still name old

goes_still : (b : Bool) (old new : State) → GoesOn b old new → still new ≡ still old
goes_still true old new (made, installs, drawn) = drawn_still old made new drawn ∙ installs_still (given_up old) made installs
goes_still false old new is = ap still is

begins_still : (old new : State) → MayBegin old new → still new ≡ still old
begins_still old new (inl (none, is)) = ap still is
begins_still old new (inr (steps, least, most, drawn)) = drawn_still old (record old { busy = steps }) new drawn

or_still : (o : Option Shape) (old new : State) → MovesOrBegins o old new → still new ≡ still old
or_still (Some s) old new drawn = moved_still s old new drawn
or_still None old new begins = begins_still old new begins

on_still : (b : Bool) (old new : State) → StepsOn b old new → still new ≡ still old
on_still true old new goes = goes_still (old.busy == 1) old new goes
on_still false old new moves = or_still (first_behind old.database) old new moves

unless_still : (b : Bool) (old new : State) → StepsUnless b old new → still new ≡ still old
unless_still true old new is = ap still is
unless_still false old new steps = on_still (nat_lt 0 old.busy) old new steps

mover_still : (old new : State) → MoverSteps old new → still new ≡ still old
mover_still old new steps = unless_still (are_spent old) old new steps

runs_still : (n : ℕ) (old new : State) → MoverRuns n old new → still new ≡ still old
runs_still zero old new is = ap still is
runs_still (suc n) old new (mid, one, more) = runs_still n mid new more ∙ mover_still old mid one

runs_grow : (n : ℕ) (old new : State) → MoverRuns n old new → old.next ≤ new.next
runs_grow zero old new is = let at : new.next ≡ old.next = ap (λ (s : State). s.next) is in omega (arith, at)
runs_grow (suc n) old new (mid, one, more) =
    let here = (mover_draws old mid one).from in
    let behind = runs_grow n mid new more in
    omega (arith, here, behind)

-- ---- statements that ask the mover for something

abbrev is_job : Function → Bool
is_job Function.Moveout = true
is_job Function.Mergeout = true
is_job (Function.Purge table) = true
is_job (Function.Refresh table) = true
is_job f = false

abbrev asks : Statement → Bool
asks Statement.Step = true
asks (Statement.Call f) = is_job f
asks s = false

job_is : (f : Function) → HasJobs f → is_job f ≡ true
job_is Function.Lge jobs = absurd jobs
job_is Function.Ahm jobs = absurd jobs
job_is Function.Current jobs = absurd jobs
job_is Function.MakeAhmNow jobs = absurd jobs
job_is (Function.SetAhm mark) jobs = absurd jobs
job_is Function.Moveout jobs = refl
job_is Function.Mergeout jobs = refl
job_is (Function.Purge table) jobs = refl
job_is (Function.Refresh table) jobs = refl
job_is Function.StartRefresh jobs = absurd jobs

other_where : (s : Statement) → asks s ≡ false → IsOther s
other_where s is = record {
  no_jobs = λ f jobs same. let never : true ≡ false = sym (job_is f jobs) ∙ sym (ap asks same) ∙ is in absurd (cc);
  no_step = λ same. let never : true ≡ false = sym (ap asks same) ∙ is in absurd (cc);
}

-- the text says what a statement does that asks for nothing
quiet_text : OneReading → (text : List ℕ) (read : Option Statement) → Reads text read → Unmoves read → AsksNoMover text
quiet_text reading text None reads quiet = record { no_jobs = λ (f, jobs, spells). reads (Statement.Call f) spells; no_step = λ spells. reads Statement.Step spells }
quiet_text reading text (Some s) reads quiet = record {
  no_jobs = λ (f, jobs, spells). quiet.other.no_jobs f jobs (reading (symbols_of text) s (Statement.Call f) reads spells);
  no_step = λ spells. quiet.other.no_step (reading (symbols_of text) s Statement.Step reads spells);
}

-- ---- a step over both

abbrev base_of : Database → List (List Changes) → ℕ → State
base_of d sessions current = record { database = d; sessions = sessions; current = current; asked = []; next = 1; busy = 0; parts = 0 }

same_still : (a b : State) → IsSameButMoved a b → still a ≡ still b
same_still a b same =
    ap (λ (d : Database). base_of d a.sessions a.current) same.database ∙ ap (λ (ss : List (List Changes)). base_of (unmoved b.database) ss a.current) same.sessions
    ∙ ap (λ (c : ℕ). base_of (unmoved b.database) b.sessions c) same.current

still_same : (a b : State) → still a ≡ still b → IsSameButMoved a b
still_same a b same = record {
  database = ap (λ (s : State). s.database) same;
  sessions = ap (λ (s : State). s.sessions) same;
  current = ap (λ (s : State). s.current) same;
}

numbers_still : (m n : State) → IsSameButNumbers m n → still m ≡ still n
numbers_still m n same = same_still m n (record { database = ap unmoved same.database; sessions = same.sessions; current = same.current })

unspent_first : (s : State) → s.next ≡ 1 → are_spent s ≡ false
unspent_first s first = ap (λ (n : ℕ). nat_le 1152921504606846976 n) first

abbrev Alike : List ℕ → List ℕ → Option Refusal → Option Refusal → State → State → Type 0
Alike p q why also x y = (p ≡ q) × (why ≡ also) × (still x ≡ still y)

quiet_steps : OneReading → OneList → (serves : Statement → Bool) (a b : State) (files : Files) (text p q : List ℕ) (why also : Option Refusal) (x y : State) → still a ≡ still b → are_spent a ≡ false → are_spent b ≡ false
    → (first : Step serves a files text p why x) → Step serves b files text q also y → Unmoves first.read → Alike p q why also x y
quiet_steps reading list serves a b files text p q why also x y alike left_a left_b first second quiet =
    let same : first.read ≡ second.read = read_once reading text first.read second.read first.reads second.reads in
    let one = step_still serves a files text p why x left_a first quiet in
    let two = step_still serves b files text q also y left_b second (subst Unmoves same quiet) in
    let over : Step serves (still a) files text q also two.left = subst (λ (s : State). Step serves s files text q also two.left) (sym alike) two.leaves in
    let both =
    same_step reading list serves (still a) (still a) files text p q why also one.left two.left (quiet_text reading text first.read first.reads quiet)
    (record { database = refl; sessions = refl; current = refl; asked = refl }) (unspent_first one.left one.first) (unspent_first two.left two.first) one.leaves over in
    (both.0, both.1, sym one.same ∙ numbers_still one.left two.left both.2 ∙ two.same)

call_moves : (a : State) (f : Function) (x : State) → is_job f ≡ true → CallLeaves a f x → still x ≡ still a
call_moves a Function.Lge x is leaves = absurd (cc)
call_moves a Function.Ahm x is leaves = absurd (cc)
call_moves a Function.Current x is leaves = absurd (cc)
call_moves a Function.MakeAhmNow x is leaves = absurd (cc)
call_moves a (Function.SetAhm mark) x is leaves = absurd (cc)
call_moves a Function.Moveout x is leaves = all_still a false x leaves
call_moves a Function.Mergeout x is leaves = raises_still _ a false x leaves
call_moves a (Function.Purge table) x is leaves = raises_still _ a false x leaves
call_moves a (Function.Refresh table) x is leaves = refreshes_still table a false x leaves
call_moves a Function.StartRefresh x is leaves = absurd (cc)

refused_call_moves : (a : State) (f : Function) (x : State) → is_job f ≡ true → RefusedCallLeaves a f x → still x ≡ still a
refused_call_moves a Function.Lge x is leaves = absurd (cc)
refused_call_moves a Function.Ahm x is leaves = absurd (cc)
refused_call_moves a Function.Current x is leaves = absurd (cc)
refused_call_moves a Function.MakeAhmNow x is leaves = absurd (cc)
refused_call_moves a (Function.SetAhm mark) x is leaves = absurd (cc)
refused_call_moves a Function.Moveout x is (inl same) = ap still same
refused_call_moves a Function.Moveout x is (inr moves) = all_still a true x moves
refused_call_moves a Function.Mergeout x is (inl same) = ap still same
refused_call_moves a Function.Mergeout x is (inr raises) = raises_still _ a true x raises
refused_call_moves a (Function.Purge table) x is (inl same) = ap still same
refused_call_moves a (Function.Purge table) x is (inr raises) = raises_still _ a true x raises
refused_call_moves a (Function.Refresh table) x is (inl same) = ap still same
refused_call_moves a (Function.Refresh table) x is (inr refreshes) = refreshes_still table a true x refreshes
refused_call_moves a Function.StartRefresh x is leaves = absurd (cc)

asked_moves : (a : State) (files : Files) (s : Statement) (why : Option Refusal) (text : List ℕ) (x : State) → asks s ≡ true → Effect a files (Some s) why text x → still x ≡ still a
asked_moves a files (Statement.CreateTable name columns) why text x is effect = absurd (cc)
asked_moves a files (Statement.CreateProjection q) why text x is effect = absurd (cc)
asked_moves a files (Statement.DropTable name) why text x is effect = absurd (cc)
asked_moves a files (Statement.DropProjection name) why text x is effect = absurd (cc)
asked_moves a files (Statement.Insert i) why text x is effect = absurd (cc)
asked_moves a files (Statement.Delete d) why text x is effect = absurd (cc)
asked_moves a files (Statement.Update u) why text x is effect = absurd (cc)
asked_moves a files (Statement.AddColumn c) why text x is effect = absurd (cc)
asked_moves a files (Statement.Copy table file) why text x is effect = absurd (cc)
asked_moves a files Statement.Commit why text x is effect = absurd (cc)
asked_moves a files Statement.Rollback why text x is effect = absurd (cc)
asked_moves a files (Statement.Select at q) why text x is effect = absurd (cc)
asked_moves a files (Statement.Explain q) why text x is effect = absurd (cc)
asked_moves a files (Statement.Call f) (Some refusal) text x is (printed, leaves) = refused_call_moves a f x is leaves
asked_moves a files (Statement.Call f) None text x is (printed, leaves) = call_moves a f x is leaves
asked_moves a files (Statement.Session m) why text x is effect = absurd (cc)
asked_moves a files Statement.Step (Some refusal) text x is (printed, leaves) = ap still leaves
asked_moves a files Statement.Step None text x is (printed, leaves) = mover_still a x leaves

call_tells : (a b : State) (f : Function) (p q : List ℕ) → is_job f ≡ true → CallPrints a f p → CallPrints b f q → p ≡ q
call_tells a b Function.Lge p q is first second = absurd (cc)
call_tells a b Function.Ahm p q is first second = absurd (cc)
call_tells a b Function.Current p q is first second = absurd (cc)
call_tells a b Function.MakeAhmNow p q is first second = absurd (cc)
call_tells a b (Function.SetAhm mark) p q is first second = absurd (cc)
call_tells a b Function.Moveout p q is first second = first ∙ sym second
call_tells a b Function.Mergeout p q is first second = first ∙ sym second
call_tells a b (Function.Purge table) p q is first second = first ∙ sym second
call_tells a b (Function.Refresh table) p q is first second = first ∙ sym second
call_tells a b Function.StartRefresh p q is first second = absurd (cc)

asked_tells : (a b : State) (files : Files) (s : Statement) (p q : List ℕ) → asks s ≡ true → Prints a files s p → Prints b files s q → p ≡ q
asked_tells a b files (Statement.CreateTable name columns) p q is first second = absurd (cc)
asked_tells a b files (Statement.CreateProjection projection) p q is first second = absurd (cc)
asked_tells a b files (Statement.DropTable name) p q is first second = absurd (cc)
asked_tells a b files (Statement.DropProjection name) p q is first second = absurd (cc)
asked_tells a b files (Statement.Insert i) p q is first second = absurd (cc)
asked_tells a b files (Statement.Delete d) p q is first second = absurd (cc)
asked_tells a b files (Statement.Update u) p q is first second = absurd (cc)
asked_tells a b files (Statement.AddColumn c) p q is first second = absurd (cc)
asked_tells a b files (Statement.Copy table file) p q is first second = absurd (cc)
asked_tells a b files Statement.Commit p q is first second = absurd (cc)
asked_tells a b files Statement.Rollback p q is first second = absurd (cc)
asked_tells a b files (Statement.Select at query) p q is first second = absurd (cc)
asked_tells a b files (Statement.Explain query) p q is first second = absurd (cc)
asked_tells a b files (Statement.Call f) p q is first second = call_tells a b f p q is first second
asked_tells a b files (Statement.Session m) p q is first second = absurd (cc)
asked_tells a b files Statement.Step p q is first second = first ∙ sym second

-- a function of several jobs is refused in neither step
abbrev Goes : Statement → Option Refusal → Option Refusal → Type 0
Goes s why also = (f : Function) → HasJobs f → s ≡ Statement.Call f → (why ≡ None) × (also ≡ None)

call_cause : (f : Function) (why also : Option Refusal) → is_job f ≡ true → Goes (Statement.Call f) why also → why ≡ also
call_cause Function.Lge why also is goes = absurd (cc)
call_cause Function.Ahm why also is goes = absurd (cc)
call_cause Function.Current why also is goes = absurd (cc)
call_cause Function.MakeAhmNow why also is goes = absurd (cc)
call_cause (Function.SetAhm mark) why also is goes = absurd (cc)
call_cause Function.Moveout why also is goes = let (one, two) = goes Function.Moveout tt refl in one ∙ sym two
call_cause Function.Mergeout why also is goes = let (one, two) = goes Function.Mergeout tt refl in one ∙ sym two
call_cause (Function.Purge table) why also is goes = let (one, two) = goes (Function.Purge table) tt refl in one ∙ sym two
call_cause (Function.Refresh table) why also is goes = let (one, two) = goes (Function.Refresh table) tt refl in one ∙ sym two
call_cause Function.StartRefresh why also is goes = absurd (cc)

step_cause : (a b : State) (files : Files) (served : Bool) (why also : Option Refusal) → RefusesForm a files Statement.Step served why → RefusesForm b files Statement.Step served also → why ≡ also
step_cause a b files true why also first second = first ∙ sym second
step_cause a b files false why also first second = first ∙ sym second

asked_cause : (serves : Statement → Bool) (a b : State) (files : Files) (text : List ℕ) (s : Statement) (why also : Option Refusal) → asks s ≡ true → Goes s why also
    → Decides serves a files text (Some s) why → Decides serves b files text (Some s) also → why ≡ also
asked_cause serves a b files text (Statement.CreateTable name columns) why also is goes first second = absurd (cc)
asked_cause serves a b files text (Statement.CreateProjection q) why also is goes first second = absurd (cc)
asked_cause serves a b files text (Statement.DropTable name) why also is goes first second = absurd (cc)
asked_cause serves a b files text (Statement.DropProjection name) why also is goes first second = absurd (cc)
asked_cause serves a b files text (Statement.Insert i) why also is goes first second = absurd (cc)
asked_cause serves a b files text (Statement.Delete d) why also is goes first second = absurd (cc)
asked_cause serves a b files text (Statement.Update u) why also is goes first second = absurd (cc)
asked_cause serves a b files text (Statement.AddColumn c) why also is goes first second = absurd (cc)
asked_cause serves a b files text (Statement.Copy table file) why also is goes first second = absurd (cc)
asked_cause serves a b files text Statement.Commit why also is goes first second = absurd (cc)
asked_cause serves a b files text Statement.Rollback why also is goes first second = absurd (cc)
asked_cause serves a b files text (Statement.Select at q) why also is goes first second = absurd (cc)
asked_cause serves a b files text (Statement.Explain q) why also is goes first second = absurd (cc)
asked_cause serves a b files text (Statement.Call f) why also is goes first second = call_cause f why also is goes
asked_cause serves a b files text (Statement.Session m) why also is goes first second = absurd (cc)
asked_cause serves a b files text Statement.Step why also is goes first second = step_cause a b files (serves Statement.Step) why also first second

effects_tell : (a b : State) (files : Files) (s : Statement) (why : Option Refusal) (p q : List ℕ) (x y : State) → asks s ≡ true → Effect a files (Some s) why p x → Effect b files (Some s) why q y → p ≡ q
effects_tell a b files s (Some refusal) p q x y is (first, leaves) (second, leaves_too) = first ∙ sym second
effects_tell a b files s None p q x y is (first, leaves) (second, leaves_too) = asked_tells a b files s p q is first second

asked_steps : (serves : Statement → Bool) (a b : State) (files : Files) (text p q : List ℕ) (why also : Option Refusal) (x y : State) (s : Statement) → still a ≡ still b → asks s ≡ true → Goes s why also
    → Decides serves a files text (Some s) why → Decides serves b files text (Some s) also → Effect a files (Some s) why p x → Effect b files (Some s) also q y → Alike p q why also x y
asked_steps serves a b files text p q why also x y s alike is goes decided decided_too effect effect_too =
    let cause : why ≡ also = asked_cause serves a b files text s why also is goes decided decided_too in
    let over : Effect a files (Some s) also p x = subst (λ (r : Option Refusal). Effect a files (Some s) r p x) cause effect in
    (effects_tell a b files s also p q x y is over effect_too, cause, asked_moves a files s why p x is effect ∙ alike ∙ sym (asked_moves b files s also q y is effect_too))

-- functions of several jobs that the text calls for go through in both
abbrev GoesThrough : List ℕ → Option Refusal → Option Refusal → Type 0
GoesThrough text why also = AsksForJobs text → (why ≡ None) × (also ≡ None)

spelled_steps : OneReading → OneList → (serves : Statement → Bool) (a b : State) (files : Files) (text p q : List ℕ) (why also : Option Refusal) (x y : State) → IsBlind text → GoesThrough text why also
    → still a ≡ still b → are_spent a ≡ false → are_spent b ≡ false → (first : Step serves a files text p why x) → (second : Step serves b files text q also y) → (s : Statement) → first.read ≡ Some s
    → (b' : Bool) → asks s ≡ b' → Alike p q why also x y
spelled_steps reading list serves a b files text p q why also x y blind through alike left_a left_b first second s is false other =
    let spells : Reads text (Some s) = subst (Reads text) is first.reads in
    let quiet : Unmoves (Some s) = record { other = other_where s other; blind = λ looks. blind s looks spells } in
    quiet_steps reading list serves a b files text p q why also x y alike left_a left_b first second (subst Unmoves (sym is) quiet)
spelled_steps reading list serves a b files text p q why also x y blind through alike left_a left_b first second s is true job =
    let spells : Reads text (Some s) = subst (Reads text) is first.reads in
    let also_is : second.read ≡ Some s = read_once reading text second.read (Some s) second.reads spells in
    let goes : Goes s why also = λ f jobs same. through (f, jobs, subst (λ (t : Statement). Spells (symbols_of text) t) same spells) in
    asked_steps serves a b files text p q why also x y s alike job goes (subst (λ (r : Option Statement). Decides serves a files text r why) is first.decided)
    (subst (λ (r : Option Statement). Decides serves b files text r also) also_is second.decided) (subst (λ (r : Option Statement). Effect a files r why p x) is first.effect)
    (subst (λ (r : Option Statement). Effect b files r also q y) also_is second.effect)

read_steps : OneReading → OneList → (serves : Statement → Bool) (a b : State) (files : Files) (text p q : List ℕ) (why also : Option Refusal) (x y : State) → IsBlind text → GoesThrough text why also
    → still a ≡ still b → are_spent a ≡ false → are_spent b ≡ false → (first : Step serves a files text p why x) → (second : Step serves b files text q also y) → (read : Option Statement) → first.read ≡ read
    → Alike p q why also x y
read_steps reading list serves a b files text p q why also x y blind through alike left_a left_b first second None is =
    quiet_steps reading list serves a b files text p q why also x y alike left_a left_b first second (subst Unmoves (sym is) tt)
read_steps reading list serves a b files text p q why also x y blind through alike left_a left_b first second (Some s) is =
    spelled_steps reading list serves a b files text p q why also x y blind through alike left_a left_b first second s is (asks s) refl

-- ---- texts one after the other

-- no text calls for a function of several jobs, or no statement is refused
abbrev GoThrough : List (List ℕ) → Bool → Bool → Type 0
GoThrough texts r s = All (λ text. AsksForJobs text → ⊥) texts ⊎ ((r ≡ false) × (s ≡ false))

unrefused : (why : Option Refusal) (later : Bool) → (is_some why || later) ≡ false → why ≡ None
unrefused None later is = refl
unrefused (Some r) later is = absurd (cc)

none_later : (b later : Bool) → (b || later) ≡ false → later ≡ false
none_later true later is = absurd (cc)
none_later false later is = is

goes_here : (text : List ℕ) (more : List (List ℕ)) (r s : Bool) (why also : Option Refusal) (later later' : Bool) → GoThrough (text ∷ more) r s → r ≡ (is_some why || later) → s ≡ (is_some also || later') → GoesThrough text why also
goes_here text more r s why also later later' (inl none) r_is s_is calls = absurd (All-head (λ (t : List ℕ). AsksForJobs t → ⊥) text more none calls)
goes_here text more r s why also later later' (inr (r_no, s_no)) r_is s_is calls = (unrefused why later (sym r_is ∙ r_no), unrefused also later' (sym s_is ∙ s_no))

goes_later : (text : List ℕ) (more : List (List ℕ)) (r s : Bool) (why also : Option Refusal) (later later' : Bool) → GoThrough (text ∷ more) r s → r ≡ (is_some why || later) → s ≡ (is_some also || later') → GoThrough more later later'
goes_later text more r s why also later later' (inl none) r_is s_is = inl (All-tail (λ (t : List ℕ). AsksForJobs t → ⊥) text more none)
goes_later text more r s why also later later' (inr (r_no, s_no)) r_is s_is = inr (none_later (is_some why) later (sym r_is ∙ r_no), none_later (is_some also) later' (sym s_is ∙ s_no))

texts_grow : (setting : Setting) (texts : List (List ℕ)) (a : State) (p : List ℕ) (r : Bool) (x : State) → RunTexts setting a texts p r x → a.next ≤ x.next
texts_grow setting [] a p r x (p_is, r_is, is) = let at : x.next ≡ a.next = ap (λ (s : State). s.next) is in omega (arith, at)
texts_grow setting (text ∷ more) a p r x (first, why, mid, rest, later, passes, ran, p_is, r_is) =
    let here = (step_draws setting.serves a setting.files text first why passes.answered passes.step).from in
    let then = runs_grow setting.steps passes.answered mid passes.mover in
    let behind = texts_grow setting more mid rest later x ran in
    omega (arith, here, then, behind)

texts_both : OneReading → OneList → (setting : Setting) (steps : ℕ) (texts : List (List ℕ)) (a b : State) (p q : List ℕ) (r s : Bool) (x y : State) → All IsBlind texts → GoThrough texts r s → still a ≡ still b
    → are_spent x ≡ false → are_spent y ≡ false → RunTexts setting a texts p r x → RunTexts (with_steps steps setting) b texts q s y → (p ≡ q) × (r ≡ s) × (still x ≡ still y)
texts_both reading list setting steps [] a b p q r s x y blind through alike left_x left_y (p_is, r_is, x_is) (q_is, s_is, y_is) =
    (p_is ∙ sym q_is, r_is ∙ sym s_is, ap still x_is ∙ alike ∙ sym (ap still y_is))
texts_both reading list setting steps (text ∷ more) a b p q r s x y blind through alike left_x left_y (first, why, mid, rest, later, passes, ran, p_is, r_is) (first', why', mid', rest', later', passes', ran', q_is, s_is) =
    let left_a : are_spent a ≡ false = left_before a.next x.next (texts_grow setting (text ∷ more) a p r x (first, why, mid, rest, later, passes, ran, p_is, r_is)) left_x in
    let left_b : are_spent b ≡ false =
    left_before b.next y.next (texts_grow (with_steps steps setting) (text ∷ more) b q s y (first', why', mid', rest', later', passes', ran', q_is, s_is)) left_y in
    let here =
    read_steps reading list setting.serves a b setting.files text first first' why why' passes.answered passes'.answered (All-head IsBlind text more blind)
    (goes_here text more r s why why' later later' through r_is s_is) alike left_a left_b passes.step passes'.step passes.step.read refl in
    let moved : still mid ≡ still mid' = runs_still setting.steps passes.answered mid passes.mover ∙ here.2 ∙ sym (runs_still steps passes'.answered mid' passes'.mover) in
    let behind =
    texts_both reading list setting steps more mid mid' rest rest' later later' x y (All-tail IsBlind text more blind) (goes_later text more r s why why' later later' through r_is s_is) moved left_x left_y ran ran' in
    let texts : first ++ rest ≡ first' ++ rest' = ap₂ (λ (t u : List ℕ). t ++ u) here.0 behind.0 in
    let flags : (is_some why || later) ≡ (is_some why' || later') = ap₂ (λ (o : Option Refusal) (t : Bool). is_some o || t) here.1 behind.1 in
    (p_is ∙ texts ∙ sym q_is, r_is ∙ flags ∙ sym s_is, behind.2)

ends_both : (halts : Bool) (a b x y : State) → still a ≡ still b → EndsUnless halts a x → EndsUnless halts b y → still x ≡ still y
ends_both true a b x y alike x_is y_is = ap still x_is ∙ alike ∙ sym (ap still y_is)
ends_both false a b x y alike (stopped, first) (halted, second) =
    all_still (all_dropped a) stopped x first ∙ ap (λ (s : State). all_dropped s) alike ∙ sym (all_still (all_dropped b) halted y second)

scripts_both : OneReading → OneList → (setting : Setting) (steps : ℕ) (start begin : State) (script p q : List ℕ) (r s : Bool) (new left : State) → All IsBlind (statement_texts script)
    → GoThrough (statement_texts script) r s → IsSameButMoved start begin → Run setting start script p r new → Run (with_steps steps setting) begin script q s left → are_spent new ≡ false → are_spent left ≡ false
    → (p ≡ q) × (r ≡ s) × IsSameButMoved new left
scripts_both reading list setting steps start begin script p q r s new left blind through same (mid, ran, ends) (mid', ran', ends') left_new left_left =
    let left_mid : are_spent mid ≡ false = left_before mid.next new.next (ends_grow setting.halts mid new ends) left_new in
    let left_mid' : are_spent mid' ≡ false = left_before mid'.next left.next (ends_grow setting.halts mid' left ends') left_left in
    let both = texts_both reading list setting steps (statement_texts script) start begin p q r s mid mid' blind through (same_still start begin same) left_mid left_mid' ran ran' in
    (both.0, both.1, still_same new left (ends_both setting.halts mid mid' new left both.2 ends ends'))

pub movers_once : OneReading → OneList → MoversHaveOneText
movers_once reading list setting steps start begin script printed other refused also new left blind none same ran again left_new left_left =
    scripts_both reading list setting steps start begin script printed other refused also new left blind (inl none) same ran again left_new left_left

pub jobs_once : OneReading → OneList → JobsHaveOneText
jobs_once reading list setting steps start begin script printed other new left blind same ran again left_new left_left =
    let both = scripts_both reading list setting steps start begin script printed other false false new left blind (inr (refl, refl)) same ran again left_new left_left in
    (both.0, both.2)
