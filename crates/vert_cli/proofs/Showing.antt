-- What the folder shows of the work of a run's last statement.
use Rattle.std.proofs.Common.{ℕ, ◌≡◌, ◌+◌, ◌<◌, ◌≤◌, ◌∙◌, ◌||◌, ◌++◌, Bool, true, false, List, [], ◌∷◌, take, map, length, get_or, sym, ap, subst, refl, arith}
use Rattle.std.specs.Prelude.{Option, Some, None, Result, Ok, Err, IfOk, is_some}
use Rattle.std.proofs.lemmas.List.{get_or-map, length-map, take_all, take_more}
use Rattle.common_laws.specs.Maps.{Contents}
use Rattle.common_laws.proofs.Telling.{appends_join}
use Rattle.col_disk.specs.Moved.{ImageOf}
use Rattle.col_disk.specs.declared.disk.Disk.{Ghosts}
use Rattle.sql_words.specs.Symbols.{Symbol, symbols_of}
use Rattle.sql_tree.specs.declared.refusal.Refusal.{Refusal}
use Rattle.sql_tree.specs.declared.statement.Function.{Function}
use Rattle.sql_tree.specs.declared.statement.Statement.{Statement}
use Rattle.sql_tree.specs.Spells.{Spells}
use Rattle.db_model.specs.Events.{is_of_table}
use Rattle.db_model.specs.Loading.{Files}
use Rattle.db_model.specs.Mover.{RaisesAll}
use Rattle.db_model.specs.Run.{Setting}
use Rattle.db_model.specs.State.{State}
use Rattle.db_model.specs.Step.{Effect, Reads, Step}
use Rattle.db_model.specs.Leaving.{StatementLeaves}
use Rattle.store_step.specs.Forms.{is_served}
use Rattle.store_step.specs.Running.{IsState, Running}
use Rattle.store_step.specs.Steps.{Steps}
use Rattle.store_step.specs.Works.{Works, WorksOf}
use Rattle.store_step.specs.declared.answer.Answer.{Answer}
use Rattle.store_step.proofs.Shown.{merged_shown, purged_shown, still_named}
use Rattle.vert_cli.specs.declared.faults.Outcome.{Outcome}
use Rattle.vert_cli.specs.declared.faults.RunFault.{RunFault}
use Rattle.vert_cli.specs.Runs.{RanText}
use Rattle.vert_cli.specs.Shown.{IsShown, Shows, ShowsLast, ShowsLastOf, ShowsOf}
use Rattle.vert_cli.specs.Statements.{outcome_of, refusal_in}
use Rattle.vert_cli.specs.Statuses.{status_of, status_of_end, status_of_run}
use Rattle.vert_cli.proofs.Executing.{none_where_done}
use Rattle.vert_cli.proofs.Running.{RanWhole}

-- ---- one statement

-- no symbols spell two statements
abbrev pub OneReading : Type 0
OneReading = (ts : List Symbol) (s t : Statement) → Spells ts s → Spells ts t → s ≡ t

abbrev purge : List ℕ → Statement
purge name = Statement.Call (Function.Purge name)

-- the jobs of a PURGE_TABLE that wasn't refused
raised : OneReading → (files : Files) (text printed : List ℕ) (name : List ℕ) (old new : State) → Spells (symbols_of text) (purge name) → Step is_served old files text printed None new
    → RaisesAll (λ s. is_of_table name old.database.tables s.name) old false new
raised one files text printed name old new spelled step = by step.read step.reads step.effect
  where
    by : (read : Option Statement) → Reads text read → Effect old files read None printed new → RaisesAll (λ s. is_of_table name old.database.tables s.name) old false new
    by None reads effect = absurd effect
    by (Some s) reads (prints, leaves) = subst (λ (t : Statement). StatementLeaves old files t new) (one (symbols_of text) s (purge name) reads spelled) leaves

text_shown : {D : Type 0} (disk : Ghosts D) → OneReading → (files : Files) (text printed : List ℕ) (was is : Running) (old now : D) (state new : State) → IsState disk was old state → Step is_served state files text printed None new
    → IsState disk is now new → WorksOf text was is → (x : Contents) → ImageOf disk now x → ShowsOf text x
text_shown disk one files text printed was is old now state new here step stands works x image s spelled = by s spelled (works s spelled)
  where
    by : (s : Statement) → Spells (symbols_of text) s → Works s was is → Shows s x
    by (Statement.Call Function.Mergeout) spelled work = merged_shown disk is now new stands work x image
    by (Statement.Call (Function.Purge name)) spelled (place, named, purged) =
        purged_shown disk is now new place name stands
        (still_named disk was old state new (λ s. is_of_table name state.database.tables s.name) place name here named (raised one files text printed name state new spelled step)) purged x image
    by s spelled work = tt

-- a statement text that was answered
pub step_shown : {D : Type 0} (disk : Ghosts D) → OneReading → (files : Files) (text : List ℕ) (was is : Running) (old now : D) (a : Answer) (outcome : Outcome) (state : State) → outcome ≡ outcome_of a.refusal → IsState disk was old state
    → Steps disk files text is old now (Ok a) state → (a.refusal ≡ None → (s : State) → IsState disk was old s → WorksOf text was is) → outcome ≡ Outcome.Done → IsShown disk text now
step_shown disk one files text was is old now a outcome state told here steps works done =
    let none = none_where_done a.refusal (sym told ∙ done) in
    let (new, step, stands) = steps.done in
    let stood = stands.database in
    let each = text_shown disk one files text a.text.items was is old now state new here (subst (λ (why : Option Refusal). Step is_served state files text a.text.items why new) none step) stands (works none state here) in
    record {
      files = stood.files;
      told = stood.quiet.told_is;
      shows = each stood.files (disk.laws.shows now stood.files stood.quiet.told_is);
      left = each;
    }

outcome_done : (outcome : Outcome) → is_some (refusal_in outcome) ≡ false → outcome ≡ Outcome.Done
outcome_done Outcome.Done none = refl
outcome_done (Outcome.Refused why) none = absurd (cc)

-- and no step of the mover behind it
pub text_left : {D : Type 0} (disk : Ghosts D) (text : List ℕ) (outcome : Outcome) (refused : Bool) (mid now : D) → refused ≡ is_some (refusal_in outcome) → now ≡ mid → (outcome ≡ Outcome.Done → IsShown disk text mid)
    → refused ≡ false → IsShown disk text now
text_left disk text outcome refused mid now told same shown none = subst (IsShown disk text) (sym same) (shown (outcome_done outcome (sym told ∙ none)))

-- ---- the last of some texts

not_nothing : {X : Type 0} (xs : List X) (x : X) → [] ≡ xs ++ x ∷ [] → ⊥
not_nothing [] x is = absurd (cc)
not_nothing (y ∷ xs) x is = absurd (cc)

front_same : {X : Type 0} (xs ys : List X) (x y : X) → xs ++ x ∷ [] ≡ ys ++ y ∷ [] → xs ≡ ys
front_same [] [] x y is = refl
front_same [] (z ∷ ys) x y is = absurd (not_nothing ys y (cc))
front_same (z ∷ xs) [] x y is = absurd (not_nothing xs x (cc))
front_same {X} (z ∷ xs) (w ∷ ys) x y is =
    let head : z ≡ w = cc in
    ap (λ (l : List X). z ∷ l) (front_same xs ys x y (cc)) ∙ ap (λ (h : X). h ∷ ys) head

last_same : {X : Type 0} (xs ys : List X) (x y : X) → xs ++ x ∷ [] ≡ ys ++ y ∷ [] → x ≡ y
last_same [] [] x y is = cc
last_same [] (z ∷ ys) x y is = absurd (not_nothing ys y (cc))
last_same (z ∷ xs) [] x y is = absurd (not_nothing xs x (cc))
last_same (z ∷ xs) (w ∷ ys) x y is = last_same xs ys x y (cc)

pub none_last : {D : Type 0} (disk : Ghosts D) (setting : Setting) (start : State) (refused : Bool) (now : D) (before after : Option (List ℕ)) → ShowsLastOf disk setting start [] refused now before after
none_last disk setting start refused now before after first text is = absurd (not_nothing first text is)

-- a text behind others that ran
one_last : {D : Type 0} (disk : Ghosts D) (setting : Setting) (start mid : State) (is : Running) (first : List (List ℕ)) (text : List ℕ) (old now : D) (refused told was : Bool) (before between after : Option (List ℕ)) → told ≡ (refused || was)
    → RanWhole setting start first refused mid before between → RanText disk setting text is old now (Ok was) mid between after → (was ≡ false → IsShown disk text now) → ShowsLast disk setting start first text told now before after
one_last disk setting start mid is first text old now refused told was before between after told_is whole ran shown =
    let (why, next, answer, passes, taken, here, was_is) = ran.done in
    record {
      printed = whole.printed;
      earlier = refused;
      mid = mid;
      ran = whole.ran;
      answer = answer;
      why = why;
      new = next;
      passes = passes;
      taken = appends_join before between after whole.printed answer whole.taken taken;
      refused_is = told_is ∙ ap (λ (b : Bool). refused || b) was_is;
      shown = λ none. shown (was_is ∙ ap is_some none);
    }

-- of the texts of some spans the next one ran
pub next_last : {D : Type 0} (disk : Ghosts D) {X : Type 0} (f : X → List ℕ) (spans : List X) (i : ℕ) (d : X) (setting : Setting) (is : Running) (start mid : State) (old now : D) (refused told was : Bool) (before between after : Option (List ℕ))
    → i < length spans → told ≡ (refused || was) → RanWhole setting start (take i (map f spans)) refused mid before between → RanText disk setting (f (get_or spans i d)) is old now (Ok was) mid between after
    → (was ≡ false → IsShown disk (f (get_or spans i d)) now) → ShowsLastOf disk setting start (take (i + 1) (map f spans)) told now before after
next_last disk f spans i d setting is start mid old now refused told was before between after below told_is whole ran shown first text texts_are =
    let texts = take i (map f spans) in
    let inside : i < length (map f spans) = subst (λ (n : ℕ). i < n) (sym (length-map spans f)) below in
    let next : take (i + 1) (map f spans) ≡ texts ++ f (get_or spans i d) ∷ [] = take_more (map f spans) i (f d) inside ∙ ap (λ (t : List ℕ). texts ++ t ∷ []) (get_or-map f spans i d (f d) below) in
    let same : texts ++ f (get_or spans i d) ∷ [] ≡ first ++ text ∷ [] = sym next ∙ texts_are in
    subst (λ (ts : List (List ℕ)). ShowsLast disk setting start ts text told now before after) (front_same texts first (f (get_or spans i d)) text same)
    (subst (λ (t : List ℕ). ShowsLast disk setting start texts t told now before after) (last_same texts first (f (get_or spans i d)) text same)
    (one_last disk setting start mid is texts (f (get_or spans i d)) old now refused told was before between after told_is whole ran shown))

pub all_last : {D : Type 0} (disk : Ghosts D) {X : Type 0} (f : X → List ℕ) (spans : List X) (i : ℕ) (setting : Setting) (start : State) (refused : Bool) (now : D) (before after : Option (List ℕ)) → length spans ≤ i
    → ShowsLastOf disk setting start (take i (map f spans)) refused now before after → ShowsLastOf disk setting start (map f spans) refused now before after
all_last disk f spans i setting start refused now before after all shown =
    subst (λ (texts : List (List ℕ)). ShowsLastOf disk setting start texts refused now before after) (take_all i (map f spans) (omega (arith, all, length-map spans f))) shown

-- ---- a run

same_refused : (was refused : Bool) → status_of_run was ≡ status_of_run refused → was ≡ refused
same_refused true true is = refl
same_refused true false is = absurd (cc)
same_refused false true is = absurd (cc)
same_refused false false is = refl

-- a run that stopped didn't come to its end
pub never_ran : (fault : RunFault) (refused : Bool) → status_of fault ≡ status_of_run refused → ⊥
never_ran RunFault.Sink true is = absurd (cc)
never_ran RunFault.Sink false is = absurd (cc)
never_ran RunFault.Disk true is = absurd (cc)
never_ran RunFault.Disk false is = absurd (cc)
never_ran (RunFault.Damaged q) true is = absurd (cc)
never_ran (RunFault.Damaged q) false is = absurd (cc)
never_ran RunFault.Memory true is = absurd (cc)
never_ran RunFault.Memory false is = absurd (cc)
never_ran RunFault.Read true is = absurd (cc)
never_ran RunFault.Read false is = absurd (cc)
never_ran RunFault.Halted true is = absurd (cc)
never_ran RunFault.Halted false is = absurd (cc)

pub run_shown : (ended : Result Bool RunFault) (Left : Bool → Type 0) → IfOk ended Left → (refused : Bool) → status_of_end ended ≡ status_of_run refused → Left refused
run_shown (Ok was) Left shown refused is = subst Left (same_refused was refused is) shown
run_shown (Err fault) Left shown refused is = absurd (never_ran fault refused is)
