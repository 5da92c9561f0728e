-- Two steps of one text over one state print the same, and are refused for the same cause.
use Rattle.std.proofs.Common.{ℕ, ◌≡◌, ◌∙◌, ◌-◌, Bool, true, false, List, length, sym, ap, subst, refl, arith, inl, inr}
use Rattle.std.specs.Prelude.{Option, Some, None, is_some}
use Rattle.std.proofs.lemmas.List.Sorted.{IsPermutation-refl}
use Rattle.col_value.specs.declared.value.Value.{Value}
use Rattle.col_value.specs.declared.wide.Wide.{Wide}
use Rattle.sql_words.specs.Symbols.{Symbol, symbols_of}
use Rattle.sql_tree.specs.declared.statement.Function.{Function}
use Rattle.sql_tree.specs.declared.statement.Statement.{Statement}
use Rattle.sql_tree.specs.declared.refusal.Refusal.{Refusal}
use Rattle.sql_tree.specs.Phrases.{IsPlace}
use Rattle.sql_tree.specs.Spells.{Spells}
use Rattle.sql_bound.specs.declared.query.BoundQuery.{BoundQuery}
use Rattle.sql_bound.specs.Outputs.{output}
use Rattle.sql_binding.specs.Firsts.{refused_where}
use Rattle.query_order.specs.OneList.{HasOnePrintedList}
use Rattle.db_model.specs.Answers.{listing_text}
use Rattle.db_model.specs.Database.{Table}
use Rattle.db_model.specs.Loading.{Files, Load}
use Rattle.db_model.specs.Printing.{CallPrints, CopyPrints, Prints, copy_text}
use Rattle.db_model.specs.Refusals.{CallRefuses, CopyRefuses, FileRefuses, JobsRefuse, LoadRefuses, Refuses, SumRefuses, TableJobsRefuse, UnlockedRefuses, is_large_file, load_refusal, locked, query_refusal_in, unknown_table_refusal}
use Rattle.db_model.specs.Refusing.{epoch_refusal}
use Rattle.db_model.specs.State.{State}
use Rattle.db_model.specs.Events.{is_of_table, rows_pending}
use Rattle.db_model.specs.Mover.{MovesAll, RaisesAll, RefreshesAll}
use Rattle.db_model.specs.Step.{Decides, Effect, Reads, RefusesForm, Step}
use Rattle.db_model.specs.Views.{bound_in, inputs, table_found}
use Rattle.sql_binding.specs.Firsts.{first_of}
use Rattle.one_text.specs.OneText.{AsksForJobs, HasJobs, StatementsHaveOneText, StepsOfOneFate}
use Rattle.one_text.proofs.OneLoad.{load_once, rows_loaded_once}

-- no symbols spell two statements
abbrev pub OneReading : Type 0
OneReading = (symbols : List Symbol) (s t : Statement) → Spells symbols s → Spells symbols t → s ≡ t

-- rows have one printed list, in whatever order they come
abbrev pub OneList : Type 0
OneList = (order : List (ℕ × Bool)) (limit : Option ℕ) → HasOnePrintedList order limit

abbrev pub Cause : Type 0
Cause = Option Refusal

-- ---- what is printed

copy_printed : (state : State) (found : Option (ℕ × Table)) (held : Option (List ℕ)) (p q : List ℕ) → CopyPrints state found held p → CopyPrints state found held q → p ≡ q
copy_printed state None held p q first second = absurd first
copy_printed state (Some e) None p q first second = absurd first
copy_printed state (Some e) (Some bytes) p q (rs, rows, p_is) (qs, others, q_is) =
    p_is ∙ ap (λ (xs : List (List Value)). copy_text (rows_pending e.1.name xs state) (length xs)) (rows_loaded_once e.1.columns bytes rs qs rows others) ∙ sym q_is

call_printed : (state : State) (f : Function) (p q : List ℕ) → CallPrints state f p → CallPrints state f q → p ≡ q
call_printed state Function.Lge p q first second = first ∙ sym second
call_printed state Function.Ahm p q first second = first ∙ sym second
call_printed state Function.Current p q first second = first ∙ sym second
call_printed state Function.MakeAhmNow p q first second = first ∙ sym second
call_printed state (Function.SetAhm n) p q first second = first ∙ sym second
call_printed state Function.Moveout p q first second = first ∙ sym second
call_printed state Function.Mergeout p q first second = first ∙ sym second
call_printed state (Function.Purge table) p q first second = first ∙ sym second
call_printed state (Function.Refresh table) p q first second = first ∙ sym second
call_printed state Function.StartRefresh p q first second = first ∙ sym second

pub printed_once : OneList → (state : State) (files : Files) (s : Statement) (p q : List ℕ) → Prints state files s p → Prints state files s q → p ≡ q
printed_once one state files (Statement.CreateTable name columns) p q first second = first ∙ sym second
printed_once one state files (Statement.CreateProjection projection) p q first second = first ∙ sym second
printed_once one state files (Statement.DropTable name) p q first second = first ∙ sym second
printed_once one state files (Statement.DropProjection name) p q first second = first ∙ sym second
printed_once one state files (Statement.Insert i) p q first second = first ∙ sym second
printed_once one state files (Statement.Delete d) p q first second = first ∙ sym second
printed_once one state files (Statement.Update u) p q first second = first ∙ sym second
printed_once one state files (Statement.AddColumn a) p q first second = first ∙ sym second
printed_once one state files (Statement.Copy table file) p q first second = copy_printed state (table_found table state.database.tables) (files file) p q first second
printed_once one state files Statement.Commit p q first second = first ∙ sym second
printed_once one state files Statement.Rollback p q first second = first ∙ sym second
printed_once one state files (Statement.Select at query) p q (xs, xs_list, p_is) (ys, ys_list, q_is) =
    let rows : List (List Wide) = output (bound_in state query) (inputs at state query) in
    p_is ∙ ap (λ (rows : List (List Wide)). listing_text rows) (one (bound_in state query).order query.limit rows rows xs ys (IsPermutation-refl rows) xs_list ys_list) ∙ sym q_is
printed_once one state files (Statement.Explain query) p q first second = first ∙ sym second
printed_once one state files (Statement.Call function) p q first second = call_printed state function p q first second
printed_once one state files (Statement.Session n) p q first second = first ∙ sym second
printed_once one state files Statement.Step p q first second = first ∙ sym second

-- ---- why a statement is refused

load_refused : (state : State) (e : ℕ × Table) (bytes : List ℕ) (large : Bool) (why also : Cause) → LoadRefuses state e bytes large why → LoadRefuses state e bytes large also → why ≡ also
load_refused state e bytes true why also first second = first ∙ sym second
load_refused state e bytes false why also (load, loads, why_is) (other, reads, also_is) =
    why_is ∙ ap (λ (x : Load). load_refusal state e.1.name x) (load_once e.1.columns bytes load other loads reads) ∙ sym also_is

file_refused : (state : State) (e : ℕ × Table) (held : Option (List ℕ)) (why also : Cause) → FileRefuses state e held why → FileRefuses state e held also → why ≡ also
file_refused state e None why also first second = first ∙ sym second
file_refused state e (Some bytes) why also first second = load_refused state e bytes (is_large_file bytes) why also first second

unlocked_refused : (before : Cause) (state : State) (e : ℕ × Table) (held : Option (List ℕ)) (why also : Cause) → UnlockedRefuses before state e held why → UnlockedRefuses before state e held also → why ≡ also
unlocked_refused (Some refusal) state e held why also first second = first ∙ sym second
unlocked_refused None state e held why also first second = file_refused state e held why also first second

copy_refused : (state : State) (table : List ℕ) (found : Option (ℕ × Table)) (held : Option (List ℕ)) (why also : Cause) → CopyRefuses state table found held why → CopyRefuses state table found held also → why ≡ also
copy_refused state table None held why also first second = first ∙ sym second
copy_refused state table (Some e) held why also first second = unlocked_refused (locked state table false) state e held why also first second

sum_refused : (before : Cause) (q : BoundQuery) (rows : List (List (List Value))) (why also : Cause) → SumRefuses before q rows why → SumRefuses before q rows also → why ≡ also
sum_refused (Some refusal) q rows why also first second = first ∙ sym second
sum_refused None q rows why also (inl (great, why_is)) (inl (same, also_is)) = why_is ∙ sym also_is
sum_refused None q rows why also (inl (great, why_is)) (inr (small, also_is)) = absurd (small great)
sum_refused None q rows why also (inr (small, why_is)) (inl (great, also_is)) = absurd (small great)
sum_refused None q rows why also (inr (small, why_is)) (inr (same, also_is)) = why_is ∙ sym also_is

-- of several jobs it may be open whether they stop, and nothing else
stopped_alike : (a b : Bool) (why also : Cause) → why ≡ refused_where a Refusal.NumbersSpent → also ≡ refused_where b Refusal.NumbersSpent → is_some why ≡ is_some also → why ≡ also
stopped_alike true true why also why_is also_is fate = why_is ∙ sym also_is
stopped_alike true false why also why_is also_is fate = absurd (cc)
stopped_alike false true why also why_is also_is fate = absurd (cc)
stopped_alike false false why also why_is also_is fate = why_is ∙ sym also_is

pub jobs_refused : (Run Other : Bool → State → Type 0) (why also : Cause) → JobsRefuse Run why → JobsRefuse Other also → is_some why ≡ is_some also → why ≡ also
jobs_refused Run Other why also (a, new, ran, why_is) (b, other, ran_too, also_is) fate = stopped_alike a b why also why_is also_is fate

pub table_jobs_refused : (before : Cause) (Run Other : Bool → State → Type 0) (why also : Cause) → TableJobsRefuse before Run why → TableJobsRefuse before Other also → is_some why ≡ is_some also → why ≡ also
table_jobs_refused (Some refusal) Run Other why also first second fate = first ∙ sym second
table_jobs_refused None Run Other why also first second fate = jobs_refused Run Other why also first second fate

-- where the statement is a function of several jobs, it is refused in both or in neither
abbrev OfOneFate : Statement → Cause → Cause → Type 0
OfOneFate s why also = (f : Function) → HasJobs f → s ≡ Statement.Call f → is_some why ≡ is_some also

call_refused : (state : State) (f : Function) (why also : Cause) → CallRefuses state f why → CallRefuses state f also → OfOneFate (Statement.Call f) why also → why ≡ also
call_refused state Function.Lge why also first second fate = first ∙ sym second
call_refused state Function.Ahm why also first second fate = first ∙ sym second
call_refused state Function.Current why also first second fate = first ∙ sym second
call_refused state Function.MakeAhmNow why also first second fate = first ∙ sym second
call_refused state (Function.SetAhm n) why also first second fate = first ∙ sym second
call_refused state Function.Moveout why also first second fate = jobs_refused (MovesAll state) (MovesAll state) why also first second (fate Function.Moveout tt refl)
call_refused state Function.Mergeout why also first second fate =
    jobs_refused (RaisesAll (λ s. true) state) (RaisesAll (λ s. true) state) why also first second (fate Function.Mergeout tt refl)
call_refused state (Function.Purge table) why also first second fate =
    let Run : Bool → State → Type 0 = RaisesAll (λ s. is_of_table table state.database.tables s.name) state in
    table_jobs_refused (unknown_table_refusal state table) Run Run why also first second (fate (Function.Purge table) tt refl)
call_refused state (Function.Refresh table) why also first second fate =
    table_jobs_refused (unknown_table_refusal state table) (RefreshesAll table state) (RefreshesAll table state) why also first second (fate (Function.Refresh table) tt refl)
call_refused state Function.StartRefresh why also first second fate = first ∙ sym second

refused_once : (state : State) (files : Files) (s : Statement) (why also : Cause) → Refuses state files s why → Refuses state files s also → OfOneFate s why also → why ≡ also
refused_once state files (Statement.CreateTable name columns) why also first second fate = first ∙ sym second
refused_once state files (Statement.CreateProjection projection) why also first second fate = first ∙ sym second
refused_once state files (Statement.DropTable name) why also first second fate = first ∙ sym second
refused_once state files (Statement.DropProjection name) why also first second fate = first ∙ sym second
refused_once state files (Statement.Insert i) why also first second fate = first ∙ sym second
refused_once state files (Statement.Delete d) why also first second fate = first ∙ sym second
refused_once state files (Statement.Update u) why also first second fate = first ∙ sym second
refused_once state files (Statement.AddColumn a) why also first second fate = first ∙ sym second
refused_once state files (Statement.Copy table file) why also first second fate = copy_refused state table (table_found table state.database.tables) (files file) why also first second
refused_once state files Statement.Commit why also first second fate = first ∙ sym second
refused_once state files Statement.Rollback why also first second fate = first ∙ sym second
refused_once state files (Statement.Select at query) why also first second fate =
    sum_refused (first_of (query_refusal_in state query) (epoch_refusal state.database.ahm state.database.last at)) (bound_in state query) (inputs at state query) why also first second
refused_once state files (Statement.Explain query) why also first second fate = first ∙ sym second
refused_once state files (Statement.Call function) why also first second fate = call_refused state function why also first second fate
refused_once state files (Statement.Session n) why also first second fate = first ∙ sym second
refused_once state files Statement.Step why also first second fate = first ∙ sym second

form_refused : (state : State) (files : Files) (s : Statement) (served : Bool) (why also : Cause) → RefusesForm state files s served why → RefusesForm state files s served also → OfOneFate s why also → why ≡ also
form_refused state files s true why also first second fate = refused_once state files s why also first second fate
form_refused state files s false why also first second fate = first ∙ sym second

-- ---- what a text says, and why it is refused

pub read_once : OneReading → (text : List ℕ) (a b : Option Statement) → Reads text a → Reads text b → a ≡ b
read_once one text None None first second = refl
read_once one text None (Some t) first second = absurd (first t second)
read_once one text (Some s) None first second = absurd (second s first)
read_once one text (Some s) (Some t) first second = ap (λ (x : Statement). Some x) (one (symbols_of text) s t first second)

-- the place at which a text is refused is one
place_once : (symbols : List Symbol) (p q : ℕ) → IsPlace Spells symbols p → IsPlace Spells symbols q → p ≡ q
place_once symbols p q first second =
    let after = second.longest (p - 1) (omega (arith, first.within)) first.opens in
    let before = first.longest (q - 1) (omega (arith, second.within)) second.opens in
    omega (arith, after, before, first.starts, second.starts)

abbrev pub JobsOfOneFate : List ℕ → Cause → Cause → Type 0
JobsOfOneFate text why also = AsksForJobs text → is_some why ≡ is_some also

pub decided_once : (serves : Statement → Bool) (old : State) (files : Files) (text : List ℕ) (read : Option Statement) (why also : Cause) → Reads text read
    → Decides serves old files text read why → Decides serves old files text read also → JobsOfOneFate text why also → why ≡ also
decided_once serves old files text None why also reads (p, first, why_is) (q, second, also_is) fate =
    why_is ∙ ap (λ (place : ℕ). Some (Refusal.Syntax place)) (place_once (symbols_of text) p q first second) ∙ sym also_is
decided_once serves old files text (Some s) why also reads first second fate =
    form_refused old files s (serves s) why also first second (λ f jobs is. fate (f, jobs, subst (λ (t : Statement). Spells (symbols_of text) t) is reads))

effect_once : OneList → (old : State) (files : Files) (read : Option Statement) (why : Cause) (p q : List ℕ) (m n : State) → Effect old files read why p m → Effect old files read why q n → p ≡ q
effect_once one old files read (Some refusal) p q m n (p_is, m_is) (q_is, n_is) = p_is ∙ sym q_is
effect_once one old files (Some s) None p q m n (p_is, m_is) (q_is, n_is) = printed_once one old files s p q p_is q_is
effect_once one old files None None p q m n first second = absurd first

pub step_once : OneReading → OneList → (serves : Statement → Bool) (old : State) (files : Files) (text p q : List ℕ) (why also : Cause) (m n : State)
    → Step serves old files text p why m → Step serves old files text q also n → JobsOfOneFate text why also → (p ≡ q) × (why ≡ also)
step_once reading list serves old files text p q why also m n first second fate =
    let same : first.read ≡ second.read = read_once reading text first.read second.read first.reads second.reads in
    let refused : why ≡ also =
    decided_once serves old files text second.read why also second.reads (subst (λ (r : Option Statement). Decides serves old files text r why) same first.decided) second.decided fate in
    let here : Effect old files second.read also p m =
    subst (λ (r : Cause). Effect old files second.read r p m) refused (subst (λ (r : Option Statement). Effect old files r why p m) same first.effect) in
    (effect_once list old files second.read also p q m n here second.effect, refused)

pub statements_once : OneReading → OneList → StatementsHaveOneText
statements_once reading list serves old files text p q why also m n first second other = step_once reading list serves old files text p q why also m n first second (λ jobs. absurd (other jobs))

pub of_one_fate : OneReading → OneList → StepsOfOneFate
of_one_fate reading list serves old files text p q why also m n first second fate = step_once reading list serves old files text p q why also m n first second (λ jobs. fate)
