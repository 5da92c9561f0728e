-- A commit of what an epoch changed.
use Rattle.std.proofs.Common.{◌≡◌, ◌+◌, ◌≤◌, ◌<◌, ◌++◌, ◌||◌, ℕ, Bool, true, false, cond, List, [], ◌∷◌, map, filter, Option, Some, None, refl, sym, ap, ap₂, ◌∙◌, arith, subst}
use Rattle.std.specs.Prelude.{nat_le, bytes_eq, option_map, ◌&&◌}
use Rattle.std.specs.List.{All, list_any}
use Rattle.std.specs.Option.{option_map_or, IfSome}
use Rattle.std.proofs.lemmas.Bool.Decides.{nat_tests}
use Rattle.std.proofs.lemmas.Option.{same_Some}
use Rattle.std.proofs.lemmas.List.Concat.{flat_map-cons}
use Rattle.std.proofs.lemmas.List.Elements.{filter-append, All-head, All-tail, All-nil, All-weaker}
use Rattle.common_laws.specs.Bags.{SameBag}
use Rattle.common_laws.proofs.BagLaws.{bag_refl}
use Rattle.col_value.specs.declared.row.Stamped.{Stamped}
use Rattle.col_value.specs.declared.value.Value.{Value}
use Rattle.row_history.specs.History.{cut_delete, cut_row, cut_rows, inserted_at, mark_all, retained}
use Rattle.db_model.specs.Database.{Database, Shape, Table, has_columns, is_super, ordinals, table_named}
use Rattle.db_model.specs.Epochs.{all_shapes, cut, cut_table, last_good, least_or}
use Rattle.db_model.specs.Sound.{HasEpochs, IsSoundDatabase, IsSoundSession, IsSoundTable}
use Rattle.db_model.specs.State.{Changes, committed, pending_deletes, pending_rows}
use Rattle.sound_laws.specs.Commits.{commit_table}
use Rattle.sound_laws.proofs.Changes.{changes_committed}
use Rattle.state_laws.proofs.Tables.{map_named, named_so}
use Rattle.catch_model.specs.Added.{deleted_in, inserted_in}
use Rattle.catch_model.specs.Caught.{columns_of, history, rows_of, HaveSameHistory, HaveSameTables}
use Rattle.catch_laws.proofs.Epochs.{IsLater, replayed}

-- ---- tables by their names

pub found_sound : (P : Table → Type 0) (name : List ℕ) (ts : List Table) (t : Table) → All P ts → table_named name ts ≡ Some t → P t
found_sound P name [] t all none = absurd (cc)
found_sound P name (u ∷ us) t all there = by (bytes_eq u.name name) (λ rest. found_sound P name us t (All-tail P u us all) rest) there
  where
    by : (b : Bool) → (table_named name us ≡ Some t → P t) → cond b (Some u) (table_named name us) ≡ Some t → P t
    by true more here = subst P (same_Some u t here) (All-head P u us all)
    by false more rest = more rest

pub rows_cut : (k : ℕ) (name : List ℕ) (d : Database) → rows_of name (cut k d) ≡ cut_rows k (rows_of name d)
rows_cut k name d = ap (λ (o : Option Table). option_map_or (λ t. t.rows) o []) (map_named (cut_table k) name d.tables (λ t. refl)) ∙ by (table_named name d.tables)
  where
    by : (o : Option Table) → option_map_or (λ t. t.rows) (option_map (cut_table k) o) [] ≡ cut_rows k (option_map_or (λ t. t.rows) o [])
    by None = refl
    by (Some t) = refl

later_rows : (last : ℕ) (rows : List Stamped) → All (HasEpochs last) rows → All IsLater rows
later_rows last rows all = All-weaker (HasEpochs last) IsLater (λ s has. by s.ins s.del has.deleted) rows all
  where
    by : (n : ℕ) (o : Option ℕ) → IfSome o (λ d. (n < d) × (d ≤ last)) → IfSome o (λ d. n < d)
    by n None has = tt
    by n (Some d) (lt, le) = lt

-- the rows of a table of a sound database are deleted later than they were inserted
pub rows_later : (name : List ℕ) (d : Database) → IsSoundDatabase d → All IsLater (rows_of name d)
rows_later name d sound = by (table_named name d.tables) refl
  where
    by : (o : Option Table) → table_named name d.tables ≡ o → All IsLater (option_map_or (λ t. t.rows) o [])
    by None is = All-nil IsLater
    by (Some t) is = later_rows d.last t.rows (found_sound (IsSoundTable d) name d.tables t sound.tables is).epochs

-- cut at its last epoch a sound database has all its rows
whole_rows : (last : ℕ) (rows : List Stamped) → All (HasEpochs last) rows → cut_rows last rows ≡ rows
whole_rows last [] all = refl
whole_rows last (s ∷ rows) all =
    let has : HasEpochs last s = All-head (HasEpochs last) s rows all in
    let in_time = has.inserted in
    let test : nat_le s.ins last ≡ true = grind (arith, nat_tests) in
    ap (λ (b : Bool). map (cut_row last) (cond b (s ∷ filter (λ t. nat_le t.ins last) rows) (filter (λ t. nat_le t.ins last) rows))) test
    ∙ ap₂ (λ (x : Stamped) (xs : List Stamped). x ∷ xs) (ap (λ (o : Option ℕ). make s.row s.ins o) (del_whole s.ins s.del has.deleted)) (whole_rows last rows (All-tail (HasEpochs last) s rows all))
  where
    make : List Value → ℕ → Option ℕ → Stamped
    make row ins del = record { row = row; ins = ins; del = del }

    del_whole : (n : ℕ) (o : Option ℕ) → IfSome o (λ d. (n < d) × (d ≤ last)) → cut_delete last o ≡ o
    del_whole n None h = refl
    del_whole n (Some d) (lt, le) = let test : nat_le d last ≡ true = grind (arith, nat_tests) in ap (λ (b : Bool). cond b (Some d) None) test

pub whole_history : (mark : ℕ) (name : List ℕ) (d : Database) → IsSoundDatabase d → history mark name (cut d.last d) ≡ history mark name d
whole_history mark name d sound = ap (retained mark) (rows_cut d.last name d ∙ by (table_named name d.tables) refl)
  where
    by : (o : Option Table) → table_named name d.tables ≡ o → cut_rows d.last (option_map_or (λ t. t.rows) o []) ≡ option_map_or (λ t. t.rows) o []
    by None is = refl
    by (Some t) is = whole_rows d.last t.rows (found_sound (IsSoundTable d) name d.tables t sound.tables is).epochs

-- ---- what a commit makes of each table

committed_named : (name : List ℕ) (cs : List Changes) (d : Database) → IsSoundDatabase d → IsSoundSession d cs → table_named name (committed cs d).tables ≡ option_map (commit_table (d.last + 1) cs) (table_named name d.tables)
committed_named name cs d sound session =
    ap (λ (ts : List Table). table_named name ts) (changes_committed (d.last + 1) d cs sound session) ∙ map_named (commit_table (d.last + 1) cs) name d.tables (λ t. refl)

pub columns_committed : (name : List ℕ) (cs : List Changes) (d : Database) → IsSoundDatabase d → IsSoundSession d cs → columns_of name (committed cs d) ≡ columns_of name d
columns_committed name cs d sound session = ap (λ (o : Option Table). option_map (λ t. t.columns) o) (committed_named name cs d sound session) ∙ by (table_named name d.tables)
  where
    by : (o : Option Table) → option_map (λ t. t.columns) (option_map (commit_table (d.last + 1) cs) o) ≡ option_map (λ t. t.columns) o
    by None = refl
    by (Some t) = refl

none_there : (b : Database) (name : List ℕ) → None ≡ columns_of name b → rows_of name b ≡ []
none_there b name same = by (table_named name b.tables) same
  where
    by : (o : Option Table) → None ≡ option_map (λ t. t.columns) o → option_map_or (λ t. t.rows) o [] ≡ []
    by None is = refl
    by (Some t) is = absurd (cc)

-- Behind the commit of what an epoch changed the history is that of the database ahead, cut at that epoch.
pub history_committed : (mark n : ℕ) (a b : Database) (cs : List Changes) → IsSoundDatabase a → IsSoundDatabase b → IsSoundSession a cs → a.last ≡ n → mark ≤ n → HaveSameTables a b → HaveSameHistory mark a (cut n b)
    → ((name : List ℕ) → SameBag (pending_rows name cs) (inserted_in (n + 1) (rows_of name b))) → ((name : List ℕ) → SameBag (pending_deletes name cs) (deleted_in (n + 1) (rows_of name b)))
    → HaveSameHistory mark (committed cs a) (cut (n + 1) b)
history_committed mark n a b cs sound ahead session last le tables same inserts deletes name =
    subst (λ (ys : List Stamped). SameBag (history mark name (committed cs a)) (retained mark ys)) (sym (rows_cut (n + 1) name b))
    (subst (λ (o : Option Table). SameBag (retained mark (option_map_or (λ t. t.rows) o [])) (retained mark (cut_rows (n + 1) (rows_of name b)))) (sym (committed_named name cs a sound session))
    (by (table_named name a.tables) refl))
  where
    before : SameBag (history mark name a) (retained mark (cut_rows n (rows_of name b)))
    before = subst (λ (ys : List Stamped). SameBag (history mark name a) (retained mark ys)) (rows_cut n name b) (same name)

    by : (o : Option Table) → table_named name a.tables ≡ o → SameBag (retained mark (option_map_or (λ t. t.rows) (option_map (commit_table (a.last + 1) cs) o) [])) (retained mark (cut_rows (n + 1) (rows_of name b)))
    by None is =
        subst (λ (ys : List Stamped). SameBag [] (retained mark (cut_rows (n + 1) ys))) (sym (none_there b name (ap (λ (o : Option Table). option_map (λ t. t.columns) o) (sym is) ∙ tables name))) (bag_refl [])
    by (Some t) is =
        let called : t.name ≡ name = named_so name a.tables t is in
        let here : SameBag (retained mark t.rows) (retained mark (cut_rows n (rows_of name b))) =
        subst (λ (o : Option Table). SameBag (retained mark (option_map_or (λ u. u.rows) o [])) (retained mark (cut_rows n (rows_of name b)))) is before in
        subst (λ (k : ℕ). SameBag (retained mark (mark_all (k + 1) (pending_deletes t.name cs) t.rows ++ map (inserted_at (k + 1)) (pending_rows t.name cs))) (retained mark (cut_rows (n + 1) (rows_of name b)))) (sym last)
        (subst (λ (m : List ℕ). SameBag (retained mark (mark_all (n + 1) (pending_deletes m cs) t.rows ++ map (inserted_at (n + 1)) (pending_rows m cs))) (retained mark (cut_rows (n + 1) (rows_of name b)))) (sym called)
        (replayed mark n t.rows (rows_of name b) (pending_rows name cs) (pending_deletes name cs) le (rows_later name b ahead) here (inserts name) (deletes name)))

-- ---- as much is on disk

abbrev fresh_lges : List Table → List ℕ
fresh_lges ts = map (λ s. s.lge) (filter (λ s. s.fresh) (all_shapes ts))

shapes_committed : (epoch : ℕ) (cs : List Changes) (ts : List Table) → all_shapes (map (commit_table epoch cs) ts) ≡ all_shapes ts
shapes_committed epoch cs [] = refl
shapes_committed epoch cs (t ∷ ts) =
    flat_map-cons (λ u. u.shapes) (commit_table epoch cs t) (map (commit_table epoch cs) ts) ∙ ap (λ (ss : List Shape). t.shapes ++ ss) (shapes_committed epoch cs ts) ∙ sym (flat_map-cons (λ u. u.shapes) t ts)

-- some list that isn't empty
abbrev pub IsSomeList : {X : Type 0} → List X → Type 0
IsSomeList [] = ⊥
IsSomeList (x ∷ xs) = Unit {0}

some_fresh : (t : Table) (ss more : List Shape) → list_any (is_super t) ss ≡ true → IsSomeList (map (λ s. s.lge) (filter (λ s. s.fresh) ss ++ more))
some_fresh t [] more none = absurd (cc)
some_fresh t (s ∷ ss) more some = by s.fresh refl some (λ rest. some_fresh t ss more rest)
  where
    by : (b : Bool) → s.fresh ≡ b → (is_super t s || list_any (is_super t) ss) ≡ true → (list_any (is_super t) ss ≡ true → IsSomeList (map (λ x. x.lge) (filter (λ x. x.fresh) ss ++ more)))
        → IsSomeList (map (λ x. x.lge) (cond b (s ∷ filter (λ x. x.fresh) ss) (filter (λ x. x.fresh) ss) ++ more))
    by true is any rest = tt
    by false is any rest = rest (left any)
      where
        left : (is_super t s || list_any (is_super t) ss) ≡ true → list_any (is_super t) ss ≡ true
        left e = let off : is_super t s ≡ false = ap (λ (x : Bool). x && has_columns s (ordinals t)) is in sym (ap (λ (x : Bool). x || list_any (is_super t) ss) off) ∙ e

fresh_there : (d : Database) (t : Table) (ts : List Table) → All (IsSoundTable d) (t ∷ ts) → IsSomeList (fresh_lges (t ∷ ts))
fresh_there d t ts sound =
    subst (λ (ss : List Shape). IsSomeList (map (λ s. s.lge) (filter (λ s. s.fresh) ss))) (sym (flat_map-cons (λ u. u.shapes) t ts))
    (subst (λ (ss : List Shape). IsSomeList (map (λ s. s.lge) ss)) (sym (filter-append (λ s. s.fresh) t.shapes (all_shapes ts)))
    (some_fresh t t.shapes (filter (λ s. s.fresh) (all_shapes ts)) (All-head (IsSoundTable d) t ts sound).super))

least_same : (m n : ℕ) (ns : List ℕ) → IsSomeList ns → least_or m ns ≡ least_or n ns
least_same m n [] some = absurd some
least_same m n (x ∷ xs) some = refl

pub shapes_still : (cs : List Changes) (d : Database) → IsSoundDatabase d → IsSoundSession d cs → all_shapes (committed cs d).tables ≡ all_shapes d.tables
shapes_still cs d sound session = ap all_shapes (changes_committed (d.last + 1) d cs sound session) ∙ shapes_committed (d.last + 1) cs d.tables

-- a database with a table has as much on disk behind a commit as before it
pub good_still : (cs : List Changes) (d : Database) → IsSoundDatabase d → IsSoundSession d cs → IsSomeList d.tables → last_good (committed cs d) ≡ last_good d
good_still cs d sound session some =
    ap (λ (ts : List Table). least_or (d.last + 1) (fresh_lges ts)) (changes_committed (d.last + 1) d cs sound session)
    ∙ ap (λ (ss : List Shape). least_or (d.last + 1) (map (λ s. s.lge) (filter (λ s. s.fresh) ss))) (shapes_committed (d.last + 1) cs d.tables)
    ∙ least_same (d.last + 1) d.last (fresh_lges d.tables) (by d.tables some sound.tables)
  where
    by : (ts : List Table) → IsSomeList ts → All (IsSoundTable d) ts → IsSomeList (fresh_lges ts)
    by [] none all = absurd none
    by (t ∷ ts) one all = fresh_there d t ts all
