-- COPY, over a running store.
use Rattle.std.proofs.Common.{◌≡◌, ◌≤◌, ◌<◌, ◌-◌, ◌+◌, ℕ, suc, Bool, true, false, cond, not, List, [], ◌∷◌, ◌++◌, length, map, refl, sym, ◌∙◌, ap, ap₂, subst, arith, get_or-set_same}
use Rattle.std.specs.Prelude.{◌||◌, Option, Some, None, Result, Err, IfOk, IsSomeAnd, option_map, find, bytes_eq, codes, IfSome}
use Rattle.std.specs.List.{All, slice_get, enumerate_from}
use Rattle.std.specs.Fmt.{decimal}
use Rattle.std.proofs.lemmas.Bool.Decides.{nat_tests}
use Rattle.std.proofs.lemmas.Option.{same_Some, slice_get_within}
use Rattle.std.proofs.lemmas.Slice.Eq.{bytes_eq-Decides}
use Rattle.col_disk.specs.declared.disk.Disk.{Ghosts}
use Rattle.col_disk.specs.declared.disk.StoreFault.{StoreFault}
use Rattle.col_io.specs.Files.{Finds}
use Rattle.col_io.specs.declared.reading.Got.{Got}
use Rattle.col_io.specs.declared.reading.Got.TheVariants.{Absent, Whole, TooLong}
use Rattle.col_value.specs.declared.column.Column.{Column}
use Rattle.col_value.specs.declared.value.Value.{Value}
use Rattle.catalog_types.specs.declared.catalogue.Table as kept
use Rattle.sql_tree.specs.declared.refusal.Refusal.{Refusal}
use Rattle.sql_tree.specs.declared.statement.Statement.{Statement}
use Rattle.sql_tree.specs.Spells.{Spells}
use Rattle.sql_words.specs.Symbols.{symbols_of}
use Rattle.db_model.specs.Database.{Table, table_named}
use Rattle.db_model.specs.State.{State, has_changes, is_empty, own_changes, with_rows}
use Rattle.db_model.specs.Sound.{IsSound, IsSoundDatabase}
use Rattle.db_model.specs.Epochs.{last_good}
use Rattle.db_model.specs.Events.{rows_loaded, rows_pending}
use Rattle.db_model.specs.Loading.{load_column, Files, Load, Loads}
use Rattle.load_reader.specs.declared.fields.LoadColumn.{LoadColumn}
use Rattle.load_reader.specs.Load.{FileLoad, LoadsFile}
use Rattle.col_value.specs.Order.{IsRow}
use Rattle.db_model.specs.Printing.{copy_text, CopyPrints}
use Rattle.db_model.specs.Refusals.{is_large_file, load_refusal, locked, CopyRefuses, FileRefuses, LoadRefuses, Refuses, UnlockedRefuses}
use Rattle.db_model.specs.Step.{RefusesForm}
use Rattle.db_model.specs.Views.{table_found}
use Rattle.db_model.specs.Leaving.{CopyLeaves}
use Rattle.db_laws.proofs.Goods.{IsGood, good_itself, good_committed}
use Rattle.alike_laws.proofs.Changes.{as_many, has_alike}
use Rattle.statement_plan.specs.Bare.{bare_table}
use Rattle.statement_plan.specs.Places.{table_place}
use Rattle.statement_plan.proofs.Filled.{filled_changes}
use Rattle.store_core.specs.Running.{Running, IsState, frame_of}
use Rattle.store_core.specs.Sessions.{own_of}
use Rattle.store_core.proofs.Sessions.{own_alike}
use Rattle.store_step.specs.declared.answer.Answer.{Answer}
use Rattle.store_step.specs.declared.answer.StepFault.{StepFault}
use Rattle.store_step.specs.declared.answer.StepFault.TheVariants as step
use Rattle.store_step.specs.Arms.{of_memory, of_text}
use Rattle.store_step.specs.Forms.{is_served}
use Rattle.store_step.specs.Loading.{IsLoadable}
use Rattle.store_step.specs.Steps.{Steps, TextMayLeave}
use Rattle.store_step.specs.Texts.{Refused, Says}
use Rattle.store_step.proofs.Answered.{memory_answers, refused_holds, still_leaves, Event, Images}
use Rattle.store_step.proofs.Held.{named_from, second}
use Rattle.store_step.proofs.Stepped.{steps_of}

-- ---- the table

abbrev pub with_columns : ℕ × Table → ℕ × List Column
with_columns e = (e.0, e.1.columns)

is_called : (name : List ℕ) (i : ℕ) (ts : List Table) (e : ℕ × Table) → find (λ (x : ℕ × Table). bytes_eq x.1.name name) (enumerate_from i ts) ≡ Some e → e.1.name ≡ name
is_called name i [] e is = absurd (cc)
is_called name i (t ∷ ts) e is = by (bytes_eq t.name name) refl (is_called name (i + 1) ts e) is
  where
    Rest : Option (ℕ × Table)
    Rest = find (λ (x : ℕ × Table). bytes_eq x.1.name name) (enumerate_from (i + 1) ts)

    by : (b : Bool) → bytes_eq t.name name ≡ b → (Rest ≡ Some e → e.1.name ≡ name) → cond b (Some (i, t)) Rest ≡ Some e → e.1.name ≡ name
    by true here more found = sym (ap (λ (x : ℕ × Table). x.1.name) (same_Some (i, t) e found)) ∙ (bytes_eq-Decides t.name name).0 here
    by false other more found = more found

pub called : (name : List ℕ) (tables : List Table) (e : ℕ × Table) → table_found name tables ≡ Some e → e.1.name ≡ name
called name tables e is = is_called name 0 tables e is

pub named : (name : List ℕ) (tables : List Table) (e : ℕ × Table) → table_found name tables ≡ Some e → table_named name tables ≡ Some e.1
named name tables e is = named_from name 0 tables ∙ ap (option_map second) is

bare_at : (name : List ℕ) (i : ℕ) (ts : List kept.Table) (place : ℕ) → option_map (λ (e : ℕ × Table). e.0) (find (λ (e : ℕ × Table). bytes_eq e.1.name name) (enumerate_from i (map bare_table ts))) ≡ Some place
    → (k : ℕ) × (place ≡ i + k) × IsSomeAnd (slice_get ts k) (λ t. find (λ (e : ℕ × Table). bytes_eq e.1.name name) (enumerate_from i (map bare_table ts)) ≡ Some (place, bare_table t))
bare_at name i [] place is = absurd (cc)
bare_at name i (t ∷ ts) place is = by (bytes_eq t.name name) (bare_at name (i + 1) ts place) is
  where
    Rest : Option (ℕ × Table)
    Rest = find (λ (e : ℕ × Table). bytes_eq e.1.name name) (enumerate_from (i + 1) (map bare_table ts))

    by : (b : Bool) → (option_map (λ (e : ℕ × Table). e.0) Rest ≡ Some place → (k : ℕ) × (place ≡ (i + 1) + k) × IsSomeAnd (slice_get ts k) (λ u. Rest ≡ Some (place, bare_table u)))
        → option_map (λ (e : ℕ × Table). e.0) (cond b (Some (i, bare_table t)) Rest) ≡ Some place
        → (k : ℕ) × (place ≡ i + k) × IsSomeAnd (slice_get (t ∷ ts) k) (λ u. cond b (Some (i, bare_table t)) Rest ≡ Some (place, bare_table u))
    by true more at =
        let same : i ≡ place = cc in
        (0, omega (arith, same), ap (λ (n : ℕ). Some (n, bare_table t)) same)
    by false more at = let (k, there, found) = more at in (suc k, omega (arith, there), found)

-- the table that stands at the place of a name in a catalogue
pub bare_found : (name : List ℕ) (ts : List kept.Table) (place : ℕ) → table_place name (map bare_table ts) ≡ Some place → IsSomeAnd (slice_get ts place) (λ t. table_found name (map bare_table ts) ≡ Some (place, bare_table t))
bare_found name ts place is =
    let (k, at, there) = bare_at name 0 ts place is in
    let same : k ≡ place = omega (arith, at) in
    subst (λ (n : ℕ). IsSomeAnd (slice_get ts n) (λ t. table_found name (map bare_table ts) ≡ Some (place, bare_table t))) same there

-- it is one of them
some_within : (P : kept.Table → Type 0) (ts : List kept.Table) (k : ℕ) (o : Option kept.Table) → slice_get ts k ≡ o → IsSomeAnd o P → k < length ts
some_within P ts k None is some = absurd some
some_within P ts k (Some t) is some = slice_get_within ts k t is

pub is_within : (name : List ℕ) (ts : List kept.Table) (place : ℕ) → table_place name (map bare_table ts) ≡ Some place → place < length ts
is_within name ts place is = some_within (λ t. table_found name (map bare_table ts) ≡ Some (place, bare_table t)) ts place (slice_get ts place) refl (bare_found name ts place is)

paired : (o : Option (ℕ × Table)) (p : ℕ × List Column) → Some p ≡ option_map with_columns o → (e : ℕ × Table) × (o ≡ Some e) × (e.1.columns ≡ p.1)
paired None p is = absurd (cc)
paired (Some e) p is = (e, refl, sym (ap (λ (x : ℕ × List Column). x.1) (same_Some p (with_columns e) is)))

-- the columns of the table of a name, over a store and in its state
abbrev SameColumns : Running → State → List ℕ → Type 0
SameColumns r state name = option_map with_columns (table_found name (frame_of r).database.tables) ≡ option_map with_columns (table_found name state.database.tables)

pub columns_in : (r : Running) (state : State) (name : List ℕ) (place : ℕ) (tables : List kept.Table) (columns : List LoadColumn) → tables ≡ r.seen.catalogue.tables → table_place name (frame_of r).database.tables ≡ Some place
    → IsSomeAnd (slice_get tables place) (λ t. columns ≡ map load_column t.columns) → SameColumns r state name → (e : ℕ × Table) × (table_found name state.database.tables ≡ Some e) × (columns ≡ map load_column e.1.columns)
columns_in r state name place tables columns all at read same = by (slice_get ts place) (bare_found name ts place at) (subst (λ (us : List kept.Table). IsSomeAnd (slice_get us place) (λ t. columns ≡ map load_column t.columns)) all read)
  where
    ts : List kept.Table
    ts = r.seen.catalogue.tables

    by : (o : Option kept.Table) → IsSomeAnd o (λ t. table_found name (map bare_table ts) ≡ Some (place, bare_table t)) → IsSomeAnd o (λ t. columns ≡ map load_column t.columns)
        → (e : ℕ × Table) × (table_found name state.database.tables ≡ Some e) × (columns ≡ map load_column e.1.columns)
    by None found told = absurd found
    by (Some t) found told =
        let (e, there, same_columns) = paired (table_found name state.database.tables) (place, t.columns) (sym (ap (option_map with_columns) found) ∙ same) in
        (e, there, told ∙ ap (map load_column) (sym same_columns))

-- the rows that are read are rows of a table
pub rows_in : (tables : List kept.Table) (place : ℕ) (columns : List LoadColumn) (bytes : List ℕ) (rows : List (List Value)) → IsSomeAnd (slice_get tables place) (λ t. columns ≡ map load_column t.columns) → LoadsFile columns bytes (FileLoad.Rows rows)
    → ((cs : List Column) (bs : List ℕ) (rs : List (List Value)) → Loads cs bs (Load.Rows rs) → All IsRow rs) → All IsRow rows
rows_in tables place columns bytes rows is loads law = by (slice_get tables place) is
  where
    by : (o : Option kept.Table) → IsSomeAnd o (λ t. columns ≡ map load_column t.columns) → All IsRow rows
    by None told = absurd told
    by (Some t) told = law t.columns bytes rows (subst (λ (cs : List LoadColumn). LoadsFile cs bytes (FileLoad.Rows rows)) told loads)

some_too : (o p : Option (ℕ × Table)) (place : ℕ) → option_map (λ (e : ℕ × Table). e.0) o ≡ Some place → option_map with_columns o ≡ option_map with_columns p → (e : ℕ × Table) × (p ≡ Some e)
some_too None p place is same = absurd (cc)
some_too (Some e) None place is same = absurd (cc)
some_too (Some e) (Some f) place is same = (f, refl)

pub is_found : (r : Running) (state : State) (name : List ℕ) (place : ℕ) → table_place name (frame_of r).database.tables ≡ Some place → SameColumns r state name → (e : ℕ × Table) × (table_found name state.database.tables ≡ Some e)
is_found r state name place is same = some_too (table_found name (frame_of r).database.tables) (table_found name state.database.tables) place is same

-- ---- why a COPY is refused

-- behind the lock, the file decides
file_decided : (state : State) (files : Files) (table file : List ℕ) (e : ℕ × Table) (why : Option Refusal) → table_found table state.database.tables ≡ Some e → locked state table false ≡ None → FileRefuses state e (files file) why
    → Refuses state files (Statement.Copy table file) why
file_decided state files table file e why found free refuses =
    subst (λ (o : Option (ℕ × Table)). CopyRefuses state table o (files file) why) (sym found)
    (subst (λ (before : Option Refusal). UnlockedRefuses before state e (files file) why) (sym free) refuses)

pub decided_absent : (state : State) (files : Files) (table file : List ℕ) (e : ℕ × Table) → table_found table state.database.tables ≡ Some e → locked state table false ≡ None → files file ≡ None → Refuses state files (Statement.Copy table file) (Some Refusal.NoFile)
decided_absent state files table file e found free none =
    file_decided state files table file e (Some Refusal.NoFile) found free (subst (λ (held : Option (List ℕ)). FileRefuses state e held (Some Refusal.NoFile)) (sym none) refl)

pub decided_large : (state : State) (files : Files) (table file bytes : List ℕ) (e : ℕ × Table) → table_found table state.database.tables ≡ Some e → locked state table false ≡ None → files file ≡ Some bytes → is_large_file bytes ≡ true
    → Refuses state files (Statement.Copy table file) (Some Refusal.FileTooLarge)
decided_large state files table file bytes e found free held large =
    file_decided state files table file e (Some Refusal.FileTooLarge) found free
    (subst (λ (h : Option (List ℕ)). FileRefuses state e h (Some Refusal.FileTooLarge)) (sym held)
    (subst (λ (b : Bool). LoadRefuses state e bytes b (Some Refusal.FileTooLarge)) (sym large) refl))

pub decided_load : (state : State) (files : Files) (table file bytes : List ℕ) (e : ℕ × Table) (load : Load) (why : Option Refusal) → IsLoadable state files table file bytes e → Loads e.1.columns bytes load → why ≡ load_refusal state table load
    → Refuses state files (Statement.Copy table file) why
decided_load state files table file bytes e load why is loads told =
    file_decided state files table file e why is.found is.free
    (subst (λ (h : Option (List ℕ)). FileRefuses state e h why) (sym is.held)
    (subst (λ (b : Bool). LoadRefuses state e bytes b why) (sym is.small)
    (load, loads, told ∙ ap (λ (n : List ℕ). load_refusal state n load) (sym (called table state.database.tables e is.found)))))

-- what a store's frame tells of the rows
pub load_told : {D : Type 0} (disk : Ghosts D) (r : Running) (now : D) (state : State) (name : List ℕ) (rows slice : List (List Value)) (frame : State) (why : Option Refusal) → frame ≡ frame_of r → slice ≡ rows → IsState disk r now state
    → (length frame.sessions ≡ 8 → why ≡ load_refusal frame name (Load.Rows slice)) → load_refusal (frame_of r) name (Load.Rows rows) ≡ load_refusal state name (Load.Rows rows) → why ≡ load_refusal state name (Load.Rows rows)
load_told disk r now state name rows slice frame why is all here told same =
    told (ap (λ (s : State). length s.sessions) is ∙ as_many r.sessions state.sessions here.sessions ∙ here.sound.eight)
    ∙ ap₂ (λ (s : State) (rs : List (List Value)). load_refusal s name (Load.Rows rs)) is all ∙ same

-- ---- what it prints and leaves

pub loaded_event : (state : State) (files : Files) (table file bytes : List ℕ) (e : ℕ × Table) (rows : List (List Value)) → IsLoadable state files table file bytes e → Loads e.1.columns bytes (Load.Rows rows)
    → load_refusal state table (Load.Rows rows) ≡ None → IsSound state → IsSound (rows_loaded table rows state)
    → Event state files (Statement.Copy table file) (copy_text (rows_pending table rows state) (length rows)) (λ new. new ≡ rows_loaded table rows state)
loaded_event state files table file bytes e rows is loads accepted sound made = record {
  answer = λ new same. record { decided = decided_load state files table file bytes e (Load.Rows rows) None is loads (sym accepted); effect = (prints, leaves new same) };
  sound = λ new same. subst (λ (s : State). IsSoundDatabase s.database) (sym same) made.database;
  good = λ new same. subst (λ (s : State). IsGood (last_good state.database) s.database) (sym same) (good_committed (last_good state.database) (rows_pending table rows state) (good_itself state.database sound.database));
}
  where
    name : e.1.name ≡ table
    name = called table state.database.tables e is.found

    text : List ℕ
    text = copy_text (rows_pending table rows state) (length rows)

    prints : CopyPrints state (table_found table state.database.tables) (files file) text
    prints =
        subst (λ (o : Option (ℕ × Table)). CopyPrints state o (files file) text) (sym is.found)
        (subst (λ (h : Option (List ℕ)). CopyPrints state (Some e) h text) (sym is.held)
        (rows, loads, ap (λ (n : List ℕ). copy_text (rows_pending n rows state) (length rows)) (sym name)))

    leaves : (new : State) → new ≡ rows_loaded table rows state → CopyLeaves state (table_found table state.database.tables) (files file) new
    leaves new same =
        subst (λ (o : Option (ℕ × Table)). CopyLeaves state o (files file) new) (sym is.found)
        (subst (λ (h : Option (List ℕ)). CopyLeaves state (Some e) h new) (sym is.held)
        (rows, loads, same ∙ ap (λ (n : List ℕ). rows_loaded n rows state) (sym name)))

-- the text that was made over a store
abbrev pub made_text : ℕ → ℕ → Bool → List ℕ
made_text n last commits = codes "COPY " ++ (decimal n ++ (cond commits (codes " EPOCH " ++ (decimal (last + 1) ++ codes "\n")) (codes "\n")))

there : (state : State) → IsSound state → state.current - 1 < length state.sessions
there state sound =
    let eight = sound.eight in
    let first = sound.first in
    let last = sound.current in
    omega (arith, eight, first, last)

own_pending : (state : State) (table : List ℕ) (rows : List (List Value)) → IsSound state → own_changes (rows_pending table rows state) ≡ with_rows table rows (own_changes state)
own_pending state table rows sound = get_or-set_same state.sessions (state.current - 1) (with_rows table rows (own_changes state)) [] (there state sound)

pub copy_says : {D : Type 0} (disk : Ghosts D) (r : Running) (now : D) (state : State) (a : Answer) (table : List ℕ) (rows : List (List Value)) (commits : Bool) → IsState disk r now state → commits ≡ (not (is_empty rows) || has_changes (own_of r))
    → Says (made_text (length rows) r.seen.catalogue.last commits) a → Says (copy_text (rows_pending table rows state) (length rows)) a
copy_says disk r now state a table rows commits here is says =
    let own : has_changes (own_of r) ≡ has_changes (own_changes state) = has_alike (own_of r) (own_changes state) (own_alike disk r now state here) in
    let all : commits ≡ has_changes (own_changes (rows_pending table rows state)) =
    is ∙ ap (λ (b : Bool). not (is_empty rows) || b) own ∙ sym (filled_changes table rows (own_changes state)) ∙ ap has_changes (sym (own_pending state table rows here.sound)) in
    let last : r.seen.catalogue.last ≡ state.database.last = sym here.database.are.last in
    subst (λ (t : List ℕ). Says t a) (ap₂ (λ (n : ℕ) (b : Bool). made_text (length rows) n b) last all) says

-- ---- what a file says

pub found_by : (content : Option (List ℕ → Option (List ℕ))) (files : Files) (name file : List ℕ) (most : ℕ) (got : Got) → content ≡ Some files → name ≡ file → IfSome content (λ map. Finds (map name) most got) → Finds (files file) most got
found_by content files name file most got told named_so found =
    subst (λ (n : List ℕ). Finds (files n) most got) named_so (subst (λ (o : Option (List ℕ → Option (List ℕ))). IfSome o (λ map. Finds (map name) most got)) told found)

pub nothing_there : (o : Option (List ℕ)) (most : ℕ) → Finds o most Absent → o ≡ None
nothing_there None most finds = refl
nothing_there (Some held) most finds = absurd finds

pub all_there : (o : Option (List ℕ)) (most : ℕ) (bytes : _) → Finds o most (Whole bytes) → (o ≡ Some bytes.items) × (length bytes.items ≤ most)
all_there None most bytes finds = absurd finds
all_there (Some held) most bytes finds = let same = finds.0 in (ap (λ (h : List ℕ). Some h) (sym same), subst (λ (h : List ℕ). length h ≤ most) (sym same) finds.1)

pub more_there : (o : Option (List ℕ)) (most : ℕ) → Finds o most TooLong → (held : List ℕ) × (o ≡ Some held) × (most < length held)
more_there None most finds = absurd finds
more_there (Some held) most finds = (held, refl, finds)

pub is_large : (bytes : List ℕ) → 67108864 < length bytes → is_large_file bytes ≡ true
is_large bytes long = grind (arith, nat_tests, long)

pub is_small : (bytes : List ℕ) → length bytes ≤ 67108864 → is_large_file bytes ≡ false
is_small bytes short = grind (arith, nat_tests, short)

-- ---- a statement text

pub refused_steps : {D E : Type 0} (disk : Ghosts D) (files : Files) (text : List ℕ) (s : Statement) (is : Running) (now : D) (why : Refusal) (r : Result Answer E) (made : Result Answer StoreFault) (result : Result Answer StepFault) (state : State)
    → Spells (symbols_of text) s → result ≡ of_text made → made ≡ of_memory r → IfOk r (Refused why) → RefusesForm state files s (is_served s) (Some why) → IsState disk is now state → Images disk now state → Steps disk files text is now now result state
refused_steps disk files text s is now why r made result state spelled told from refused decided here images =
    subst (λ (o : Result Answer StepFault). Steps disk files text is now now o state) (sym told)
    (steps_of disk files text s is made state spelled
    (memory_answers disk files s s is now r made state refl from here.sound.database images (refused_holds disk files s is now why r state refused decided here)))

abbrev pub not_read : Result Answer StepFault
not_read = Err step.Read

pub failed_steps : {D : Type 0} (disk : Ghosts D) (files : Files) (text table file : List ℕ) (is : Running) (now : D) (state : State)
    → Spells (symbols_of text) (Statement.Copy table file) → IsState disk is now state → Images disk now state → Steps disk files text is now now not_read state
failed_steps disk files text table file is now state spelled here images = record {
  done = tt;
  undone = λ wants. absurd (cc);
  unread = λ failed. ((table, file, spelled), here);
  unblamed = tt;
  any_moment = still_leaves disk now state (TextMayLeave files text state) here.sound.database images;
}
