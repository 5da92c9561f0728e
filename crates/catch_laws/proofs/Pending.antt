-- What an epoch changed, pending table by table, and then committed.
use Rattle.std.proofs.Common.{◌≡◌, ◌+◌, ◌-◌, ◌≤◌, ◌<◌, ◌++◌, not, ◌||◌, ℕ, zero, suc, Bool, true, false, cond, List, [], ◌∷◌, map, filter, length, get_or, set, Option, Some, None, refl, sym, ap, ◌∙◌, arith, subst}
use Rattle.std.specs.Prelude.{bytes_eq, option_map}
use Rattle.std.specs.List.{All, list_any}
use Rattle.std.specs.Option.{option_map_or}
use Rattle.std.proofs.lemmas.Option.{same_Some}
use Rattle.std.proofs.lemmas.List.{get_or-set_same, get_or-set_other, set-get_or}
use Rattle.std.proofs.lemmas.List.Elements.{All-head, All-tail, All-cons, All-nil, All-append, All-weaker}
use Rattle.std.proofs.lemmas.List.Kept.{AllPairs-cons}
use Rattle.std.proofs.lemmas.List.Sorted.{All-permutation}
use Rattle.std.proofs.lemmas.Slice.Eq.{bytes_eq-Decides}
use Rattle.common_laws.specs.Bags.{SameBag}
use Rattle.common_laws.proofs.BagLaws.{bag_length, bag_refl, bag_sym}
use Rattle.col_value.specs.declared.column.Column.{Column}
use Rattle.col_value.specs.declared.row.Asked.{Asked}
use Rattle.col_value.specs.declared.row.Stamped.{Stamped}
use Rattle.col_value.specs.declared.value.Value.{Value}
use Rattle.row_history.specs.History.{cut_rows, retained}
use Rattle.db_model.specs.Database.{Database, Table, table_named}
use Rattle.db_model.specs.Events.{change_of, changes_committed, changes_dropped, untouched}
use Rattle.db_model.specs.Sound.{ChangesFit, GoTogether, IsSound, IsSoundDatabase, IsSoundSession, IsSoundTable, RowFits}
use Rattle.db_model.specs.State.{Changes, State, committed, has_changes, idle_sessions, is_empty, own_changes, pending_deletes, pending_rows, with_changes}
use Rattle.db_laws.proofs.Cuts.{commit_unseen}
use Rattle.sound_laws.proofs.Pairs.{pairs_none, pairs_join, Across}
use Rattle.sound_laws.proofs.Changes.{found_all, names_differ}
use Rattle.state_laws.proofs.Held.{none_together, together_turned}
use Rattle.state_laws.proofs.Places.{but_all, AllBut}
use Rattle.state_laws.proofs.Events.{own_is_sound, own_sound}
use Rattle.state_laws.proofs.Tables.{named_itself}
use Rattle.alike_laws.proofs.Permutes.{rows_permuted}
use Rattle.catch_model.specs.Added.{asked_of, deleted_in, has_change, inserted_in, is_changed_in, is_deleted_in, is_inserted_in}
use Rattle.catch_model.specs.Caught.{columns_of, history, HaveSameTables}
use Rattle.catch_laws.specs.Replay.{given, rows_in, with_given, IsAt, Pends}
use Rattle.catch_laws.proofs.Epochs.{IsLater, deletes_within}
use Rattle.catch_laws.proofs.Committed.{IsSomeList, columns_committed, found_sound, good_still, history_committed, rows_cut, rows_later, shapes_still}

-- ---- sessions

idle_at : (i : ℕ) (d : List Changes) → i < 8 → get_or idle_sessions i d ≡ []
idle_at zero d lt = refl
idle_at (suc zero) d lt = refl
idle_at (suc (suc zero)) d lt = refl
idle_at (suc (suc (suc zero))) d lt = refl
idle_at (suc (suc (suc (suc zero)))) d lt = refl
idle_at (suc (suc (suc (suc (suc zero))))) d lt = refl
idle_at (suc (suc (suc (suc (suc (suc zero)))))) d lt = refl
idle_at (suc (suc (suc (suc (suc (suc (suc zero))))))) d lt = refl
idle_at (suc (suc (suc (suc (suc (suc (suc (suc i)))))))) d lt = absurd (omega (arith, lt))

place_below : (s : State) → IsSound s → s.current - 1 < length s.sessions
place_below s sound = let eight = sound.eight in let first = sound.first in let last = sound.current in omega (arith, eight, first, last)

pub own_of_changed : (changes : List Changes) (s : State) → IsSound s → own_changes (with_changes changes s) ≡ changes
own_of_changed changes s sound = get_or-set_same s.sessions (s.current - 1) changes [] (place_below s sound)

-- where the session's changes are dropped and none is left, the others have none
others_idle : (s : State) → IsSound s → (changes_dropped s).sessions ≡ idle_sessions → (i : ℕ) (d : List Changes) → i < length s.sessions → (i ≡ s.current - 1 → ⊥) → get_or s.sessions i d ≡ []
others_idle s sound idle i d lt other =
    sym (get_or-set_other s.sessions (s.current - 1) i [] d other)
    ∙ ap (λ (ss : List (List Changes)). get_or ss i d) idle ∙ idle_at i d (let eight = sound.eight in omega (arith, lt, eight))

-- ---- changes at the end

abbrev Apart : List ℕ → List Changes → Type 0
Apart name cs = All (λ c. bytes_eq c.table name ≡ false) cs

change_last : (name : List ℕ) (f : Changes → Changes) (cs : List Changes) → Apart name cs → change_of name f cs ≡ cs ++ f (untouched name) ∷ []
change_last name f [] apart = refl
change_last name f (c ∷ cs) apart =
    ap (λ (b : Bool). cond b (f c ∷ cs) (c ∷ change_of name f cs)) (All-head (λ x. bytes_eq x.table name ≡ false) c cs apart)
    ∙ ap (λ (xs : List Changes). c ∷ xs) (change_last name f cs (All-tail (λ x. bytes_eq x.table name ≡ false) c cs apart))

rows_last : (name : List ℕ) (cs more : List Changes) → Apart name cs → pending_rows name (cs ++ more) ≡ pending_rows name more
rows_last name [] more apart = refl
rows_last name (c ∷ cs) more apart =
    ap (λ (b : Bool). cond b c.rows (pending_rows name (cs ++ more))) (All-head (λ x. bytes_eq x.table name ≡ false) c cs apart) ∙ rows_last name cs more (All-tail (λ x. bytes_eq x.table name ≡ false) c cs apart)

deletes_last : (name : List ℕ) (cs more : List Changes) → Apart name cs → pending_deletes name (cs ++ more) ≡ pending_deletes name more
deletes_last name [] more apart = refl
deletes_last name (c ∷ cs) more apart =
    ap (λ (b : Bool). cond b c.deletes (pending_deletes name (cs ++ more))) (All-head (λ x. bytes_eq x.table name ≡ false) c cs apart) ∙ deletes_last name cs more (All-tail (λ x. bytes_eq x.table name ≡ false) c cs apart)

rows_before : (name : List ℕ) (c : Changes) (cs : List Changes) → bytes_eq c.table name ≡ false → pending_rows name (cs ++ c ∷ []) ≡ pending_rows name cs
rows_before name c [] off = ap (λ (b : Bool). cond b c.rows []) off
rows_before name c (x ∷ cs) off = ap (λ (rs : List (List Value)). cond (bytes_eq x.table name) x.rows rs) (rows_before name c cs off)

deletes_before : (name : List ℕ) (c : Changes) (cs : List Changes) → bytes_eq c.table name ≡ false → pending_deletes name (cs ++ c ∷ []) ≡ pending_deletes name cs
deletes_before name c [] off = ap (λ (b : Bool). cond b c.deletes []) off
deletes_before name c (x ∷ cs) off = ap (λ (rs : List Asked). cond (bytes_eq x.table name) x.deletes rs) (deletes_before name c cs off)

-- ---- tables at the end

named_last : (name : List ℕ) (done : List Table) (t : Table) → table_named name done ≡ None → table_named name (done ++ t ∷ []) ≡ table_named name (t ∷ [])
named_last name [] t none = refl
named_last name (u ∷ us) t none = by (bytes_eq u.name name) none (λ rest. named_last name us t rest)
  where
    by : (b : Bool) → cond b (Some u) (table_named name us) ≡ None → (table_named name us ≡ None → table_named name (us ++ t ∷ []) ≡ table_named name (t ∷ [])) → cond b (Some u) (table_named name (us ++ t ∷ [])) ≡ table_named name (t ∷ [])
    by true some more = absurd (cc)
    by false rest more = more rest

named_before : (name : List ℕ) (done : List Table) (t : Table) → bytes_eq t.name name ≡ false → table_named name (done ++ t ∷ []) ≡ table_named name done
named_before name [] t off = ap (λ (b : Bool). cond b (Some t) None) off
named_before name (u ∷ us) t off = ap (λ (o : Option Table). cond (bytes_eq u.name name) (Some u) o) (named_before name us t off)

-- the rows of the last table, or of those before it
rows_in_last : (t : Table) (done : List Table) → table_named t.name done ≡ None → rows_in t.name (done ++ t ∷ []) ≡ t.rows
rows_in_last t done none =
    ap (λ (o : Option Table). option_map_or (λ u. u.rows) o []) (named_last t.name done t none)
    ∙ ap (λ (b : Bool). option_map_or (λ u. u.rows) (cond b (Some t) None) []) (named_itself t.name)

rows_in_before : (name : List ℕ) (t : Table) (done : List Table) → bytes_eq t.name name ≡ false → rows_in name (done ++ t ∷ []) ≡ rows_in name done
rows_in_before name t done off = ap (λ (o : Option Table). option_map_or (λ u. u.rows) o []) (named_before name done t off)

no_name_more : (name : List ℕ) (t : Table) (done : List Table) → table_named name (done ++ t ∷ []) ≡ None → (table_named name done ≡ None) × (bytes_eq t.name name ≡ false)
no_name_more name t [] none = by (bytes_eq t.name name) refl none
  where
    by : (b : Bool) → bytes_eq t.name name ≡ b → cond b (Some t) None ≡ None → (table_named name [] ≡ None) × (bytes_eq t.name name ≡ false)
    by true is some = absurd (cc)
    by false is rest = (refl, is)
no_name_more name t (u ∷ us) none = by (bytes_eq u.name name) none (λ rest. no_name_more name t us rest)
  where
    by : (b : Bool) → cond b (Some u) (table_named name (us ++ t ∷ [])) ≡ None → (table_named name (us ++ t ∷ []) ≡ None → (table_named name us ≡ None) × (bytes_eq t.name name ≡ false))
        → (cond b (Some u) (table_named name us) ≡ None) × (bytes_eq t.name name ≡ false)
    by true some more = absurd (cc)
    by false rest more = more rest

-- ---- the table behind

-- the table of the same name in the state, with the same columns, which tells the same up to the epoch
record IsTwin (mark epoch : ℕ) (s : State) (t : Table) : Type 0 where
  pub twin : Table
  pub there : table_named t.name s.database.tables ≡ Some twin
  pub columns : twin.columns ≡ t.columns
  pub rows : SameBag (retained mark twin.rows) (retained mark (cut_rows epoch t.rows))

twin_of : (mark : ℕ) (start b : Database) (epoch : ℕ) (s : State) (t : Table) → IsAt mark start b epoch (changes_dropped s) → table_named t.name b.tables ≡ Some t → IsTwin mark epoch s t
twin_of mark start b epoch s t at there = by (table_named t.name s.database.tables) refl
  where
    columns_there : columns_of t.name s.database ≡ Some t.columns
    columns_there = at.tables t.name ∙ ap (λ (o : Option Table). option_map (λ u. u.columns) o) there

    rows_there : SameBag (history mark t.name s.database) (retained mark (cut_rows epoch t.rows))
    rows_there =
        subst (λ (ys : List Stamped). SameBag (history mark t.name s.database) (retained mark (cut_rows epoch ys))) (ap (λ (o : Option Table). option_map_or (λ u. u.rows) o []) there)
        (subst (λ (ys : List Stamped). SameBag (history mark t.name s.database) (retained mark ys)) (rows_cut epoch t.name b) (at.rows t.name))

    by : (o : Option Table) → table_named t.name s.database.tables ≡ o → IsTwin mark epoch s t
    by None is = absurd (no (ap (λ (x : Option Table). option_map (λ u. u.columns) x) (sym is) ∙ columns_there))
      where
        no : None ≡ Some t.columns → ⊥
        no e = cc
    by (Some u) is = record {
      twin = u;
      there = is;
      columns = same_Some u.columns t.columns (ap (λ (x : Option Table). option_map (λ v. v.columns) x) (sym is) ∙ columns_there);
      rows = subst (λ (x : Option Table). SameBag (retained mark (option_map_or (λ v. v.rows) x [])) (retained mark (cut_rows epoch t.rows))) is rows_there;
    }

rows_fit : (columns : List Column) (n : ℕ) (rows : List Stamped) → All (λ s. RowFits columns s.row) rows → All (RowFits columns) (inserted_in n rows)
rows_fit columns n [] all = All-nil (RowFits columns)
rows_fit columns n (s ∷ rows) all = by (is_inserted_in n s) (rows_fit columns n rows (All-tail (λ x. RowFits columns x.row) s rows all))
  where
    by : (b : Bool) → All (RowFits columns) (inserted_in n rows) → All (RowFits columns) (map (λ x. x.row) (cond b (s ∷ filter (is_inserted_in n) rows) (filter (is_inserted_in n) rows)))
    by true rest = All-cons (RowFits columns) s.row (inserted_in n rows) (All-head (λ x. RowFits columns x.row) s rows all) rest
    by false rest = rest

abbrev made_of : List ℕ → List (List Value) → List Asked → Changes
made_of name rows dels = record { table = name; exclusive = true; rows = rows; deletes = dels }

made_fits : (mark : ℕ) (start b : Database) (epoch : ℕ) (s : State) (t : Table) (rows : List (List Value)) (dels : List Asked) → IsSoundDatabase b → IsAt mark start b epoch (changes_dropped s) → table_named t.name b.tables ≡ Some t
    → SameBag rows (inserted_in (epoch + 1) t.rows) → SameBag dels (deleted_in (epoch + 1) t.rows) → ChangesFit s.database (made_of t.name rows dels)
made_fits mark start b epoch s t rows dels sound at there inserts deletes =
    let twin = twin_of mark start b epoch s t at there in
    let ok : IsSoundTable b t = found_sound (IsSoundTable b) t.name b.tables t sound.tables there in
    let fit : All (RowFits t.columns) rows = All-permutation (RowFits t.columns) (inserted_in (epoch + 1) t.rows) rows (rows_permuted (inserted_in (epoch + 1) t.rows) rows (bag_sym rows (inserted_in (epoch + 1) t.rows) inserts)) (rows_fit t.columns (epoch + 1) t.rows ok.rows) in
    let later : All IsLater t.rows = subst (λ (o : Option Table). All IsLater (option_map_or (λ u. u.rows) o [])) there (rows_later t.name b sound) in
    record {
      table = twin.twin;
      there = twin.there;
      rows = subst (λ (columns : List Column). All (RowFits columns) rows) (sym twin.columns) fit;
      deletes = deletes_within mark epoch twin.twin.rows t.rows dels later twin.rows deletes;
      shared = λ is. absurd (cc);
    }

-- ---- one table more

apart_pairs : (name : List ℕ) (c : Changes) (cs : List Changes) → c.table ≡ name → Apart name cs → Across (λ x e. bytes_eq x.table e.table ≡ false) cs (c ∷ [])
apart_pairs name c cs is apart =
    All-weaker (λ x. bytes_eq x.table name ≡ false) (λ x. All (λ e. bytes_eq x.table e.table ≡ false) (c ∷ []))
    (λ x off. All-cons (λ e. bytes_eq x.table e.table ≡ false) c [] (subst (λ (n : List ℕ). bytes_eq x.table n ≡ false) (sym is) off) (All-nil (λ e. bytes_eq x.table e.table ≡ false))) cs apart

given_sound : (s : State) (name : List ℕ) (rows : List (List Value)) (dels : List Asked) → IsSound s → (changes_dropped s).sessions ≡ idle_sessions → Apart name (own_changes s) → ChangesFit s.database (made_of name rows dels)
    → IsSound (with_given name rows dels s)
given_sound s name rows dels sound idle apart fits =
    let own = own_is_sound s sound in
    let c : Changes = made_of name rows dels in
    let mine : List Changes = own_changes s ++ c ∷ [] in
    let session : IsSoundSession s.database mine = record {
      each = All-append (ChangesFit s.database) (own_changes s) (c ∷ []) own.each (All-cons (ChangesFit s.database) c [] fits (All-nil (ChangesFit s.database)));
      once = pairs_join (λ x e. bytes_eq x.table e.table ≡ false) (own_changes s) (c ∷ []) own.once (AllPairs-cons (λ x e. bytes_eq x.table e.table ≡ false) c [] (All-nil (λ e. bytes_eq c.table e.table ≡ false)) (pairs_none (λ x e. bytes_eq x.table e.table ≡ false))) (apart_pairs name c (own_changes s) refl apart);
    } in
    let go : AllBut (GoTogether mine) (s.current - 1) s.sessions = λ i d lt other. subst (GoTogether mine) (sym (others_idle s sound idle i d lt other)) (together_turned [] mine (none_together mine)) in
    subst (λ (cs : List Changes). IsSound (with_changes cs s)) (sym (change_last name (given rows dels) (own_changes s) apart))
    (own_sound s s.database mine sound.asked sound.database session (but_all (IsSoundSession s.database) (s.current - 1) s.sessions sound.sessions) go sound)

dropped_again : (cs : List Changes) (s : State) → IsSound s → (changes_dropped (with_changes cs s)).sessions ≡ (changes_dropped s).sessions
dropped_again cs s sound = set_twice s.sessions (s.current - 1) cs []
  where
    set_twice : (xs : List (List Changes)) (k : ℕ) (x y : List Changes) → set (set xs k x) k y ≡ set xs k y
    set_twice [] zero x y = refl
    set_twice [] (suc k) x y = refl
    set_twice (z ∷ zs) zero x y = refl
    set_twice (z ∷ zs) (suc k) x y = ap (λ (ws : List (List Changes)). z ∷ ws) (set_twice zs k x y)

at_again : (mark : ℕ) (start b : Database) (epoch : ℕ) (cs : List Changes) (s : State) → IsSound s → IsAt mark start b epoch (changes_dropped s) → IsAt mark start b epoch (changes_dropped (with_changes cs s))
at_again mark start b epoch cs s sound at = record { from = at.from; last = at.last; ahm = at.ahm; cuts = at.cuts; good = at.good; shapes = at.shapes; tables = at.tables; rows = at.rows; idle = dropped_again cs s sound ∙ at.idle }

pub pends_more : (mark : ℕ) (start b : Database) (epoch : ℕ) (done : List Table) (s : State) (t : Table) (rows : List (List Value)) (dels : List Asked) → IsSound s → IsSoundDatabase b → Pends mark start b epoch done s
    → table_named t.name b.tables ≡ Some t → table_named t.name done ≡ None → SameBag rows (inserted_in (epoch + 1) t.rows) → SameBag dels (deleted_in (epoch + 1) t.rows)
    → IsSound (with_given t.name rows dels s) × Pends mark start b epoch (done ++ t ∷ []) (with_given t.name rows dels s)
pends_more mark start b epoch done s t rows dels sound ahead pends there fresh inserts deletes = (
  given_sound s t.name rows dels sound pends.at.idle apart (made_fits mark start b epoch s t rows dels ahead pends.at there inserts deletes),
  record {
    at = at_again mark start b epoch (change_of t.name (given rows dels) (own_changes s)) s sound pends.at;
    rows = λ name. subst (λ (cs : List Changes). SameBag (pending_rows name cs) (inserted_in (epoch + 1) (rows_in name (done ++ t ∷ [])))) (sym own) (rows_by name (bytes_eq t.name name) refl);
    deletes = λ name. subst (λ (cs : List Changes). SameBag (pending_deletes name cs) (deleted_in (epoch + 1) (rows_in name (done ++ t ∷ [])))) (sym own) (deletes_by name (bytes_eq t.name name) refl);
    others = λ name none. subst (Apart name) (sym own) (let parts = no_name_more name t done none in All-append (λ c. bytes_eq c.table name ≡ false) mine (made ∷ []) (pends.others name parts.0) (All-cons (λ c. bytes_eq c.table name ≡ false) made [] parts.1 (All-nil (λ c. bytes_eq c.table name ≡ false))));
  },
)
  where
    mine : List Changes
    mine = own_changes s

    made : Changes
    made = made_of t.name rows dels

    apart : Apart t.name mine
    apart = pends.others t.name fresh

    own : own_changes (with_given t.name rows dels s) ≡ mine ++ made ∷ []
    own = own_of_changed (change_of t.name (given rows dels) mine) s sound ∙ change_last t.name (given rows dels) mine apart

    rows_by : (name : List ℕ) (x : Bool) → bytes_eq t.name name ≡ x → SameBag (pending_rows name (mine ++ made ∷ [])) (inserted_in (epoch + 1) (rows_in name (done ++ t ∷ [])))
    rows_by name true is =
        let same : t.name ≡ name = (bytes_eq-Decides t.name name).0 is in
        subst (λ (n : List ℕ). SameBag (pending_rows n (mine ++ made ∷ [])) (inserted_in (epoch + 1) (rows_in n (done ++ t ∷ [])))) same
        (subst (λ (ys : List Stamped). SameBag (pending_rows t.name (mine ++ made ∷ [])) (inserted_in (epoch + 1) ys)) (sym (rows_in_last t done fresh))
        (subst (λ (rs : List (List Value)). SameBag rs (inserted_in (epoch + 1) t.rows)) (sym (rows_last t.name mine (made ∷ []) apart ∙ ap (λ (b : Bool). cond b rows []) (named_itself t.name))) inserts))
    rows_by name false off =
        subst (λ (ys : List Stamped). SameBag (pending_rows name (mine ++ made ∷ [])) (inserted_in (epoch + 1) ys)) (sym (rows_in_before name t done off))
        (subst (λ (rs : List (List Value)). SameBag rs (inserted_in (epoch + 1) (rows_in name done))) (sym (rows_before name made mine off)) (pends.rows name))

    deletes_by : (name : List ℕ) (x : Bool) → bytes_eq t.name name ≡ x → SameBag (pending_deletes name (mine ++ made ∷ [])) (deleted_in (epoch + 1) (rows_in name (done ++ t ∷ [])))
    deletes_by name true is =
        let same : t.name ≡ name = (bytes_eq-Decides t.name name).0 is in
        subst (λ (n : List ℕ). SameBag (pending_deletes n (mine ++ made ∷ [])) (deleted_in (epoch + 1) (rows_in n (done ++ t ∷ [])))) same
        (subst (λ (ys : List Stamped). SameBag (pending_deletes t.name (mine ++ made ∷ [])) (deleted_in (epoch + 1) ys)) (sym (rows_in_last t done fresh))
        (subst (λ (rs : List Asked). SameBag rs (deleted_in (epoch + 1) t.rows)) (sym (deletes_last t.name mine (made ∷ []) apart ∙ ap (λ (b : Bool). cond b dels []) (named_itself t.name))) deletes))
    deletes_by name false off =
        subst (λ (ys : List Stamped). SameBag (pending_deletes name (mine ++ made ∷ [])) (deleted_in (epoch + 1) ys)) (sym (rows_in_before name t done off))
        (subst (λ (rs : List Asked). SameBag rs (deleted_in (epoch + 1) (rows_in name done))) (sym (deletes_before name made mine off)) (pends.deletes name))

-- where the epoch changed nothing in a table, nothing has to be pending
pub pends_skip : (mark : ℕ) (start b : Database) (epoch : ℕ) (done : List Table) (s : State) (t : Table) → Pends mark start b epoch done s → table_named t.name done ≡ None
    → inserted_in (epoch + 1) t.rows ≡ [] → deleted_in (epoch + 1) t.rows ≡ [] → Pends mark start b epoch (done ++ t ∷ []) s
pends_skip mark start b epoch done s t pends fresh inserts deletes = record {
  at = pends.at;
  rows = λ name. rows_by name (bytes_eq t.name name) refl;
  deletes = λ name. deletes_by name (bytes_eq t.name name) refl;
  others = λ name none. pends.others name (no_name_more name t done none).0;
}
  where
    mine : List Changes
    mine = own_changes s

    no_rows : (name : List ℕ) (cs : List Changes) → Apart name cs → pending_rows name cs ≡ []
    no_rows name [] apart = refl
    no_rows name (c ∷ cs) apart = ap (λ (b : Bool). cond b c.rows (pending_rows name cs)) (All-head (λ x. bytes_eq x.table name ≡ false) c cs apart) ∙ no_rows name cs (All-tail (λ x. bytes_eq x.table name ≡ false) c cs apart)

    no_deletes : (name : List ℕ) (cs : List Changes) → Apart name cs → pending_deletes name cs ≡ []
    no_deletes name [] apart = refl
    no_deletes name (c ∷ cs) apart = ap (λ (b : Bool). cond b c.deletes (pending_deletes name cs)) (All-head (λ x. bytes_eq x.table name ≡ false) c cs apart) ∙ no_deletes name cs (All-tail (λ x. bytes_eq x.table name ≡ false) c cs apart)

    rows_by : (name : List ℕ) (x : Bool) → bytes_eq t.name name ≡ x → SameBag (pending_rows name mine) (inserted_in (epoch + 1) (rows_in name (done ++ t ∷ [])))
    rows_by name true is =
        let same : t.name ≡ name = (bytes_eq-Decides t.name name).0 is in
        subst (λ (n : List ℕ). SameBag (pending_rows n mine) (inserted_in (epoch + 1) (rows_in n (done ++ t ∷ [])))) same
        (subst (λ (ys : List Stamped). SameBag (pending_rows t.name mine) (inserted_in (epoch + 1) ys)) (sym (rows_in_last t done fresh))
        (subst (λ (rs : List (List Value)). SameBag (pending_rows t.name mine) rs) (no_rows t.name mine (pends.others t.name fresh) ∙ sym inserts) (bag_refl (pending_rows t.name mine))))
    rows_by name false off = subst (λ (ys : List Stamped). SameBag (pending_rows name mine) (inserted_in (epoch + 1) ys)) (sym (rows_in_before name t done off)) (pends.rows name)

    deletes_by : (name : List ℕ) (x : Bool) → bytes_eq t.name name ≡ x → SameBag (pending_deletes name mine) (deleted_in (epoch + 1) (rows_in name (done ++ t ∷ [])))
    deletes_by name true is =
        let same : t.name ≡ name = (bytes_eq-Decides t.name name).0 is in
        subst (λ (n : List ℕ). SameBag (pending_deletes n mine) (deleted_in (epoch + 1) (rows_in n (done ++ t ∷ [])))) same
        (subst (λ (ys : List Stamped). SameBag (pending_deletes t.name mine) (deleted_in (epoch + 1) ys)) (sym (rows_in_last t done fresh))
        (subst (λ (rs : List Asked). SameBag (pending_deletes t.name mine) rs) (no_deletes t.name mine (pends.others t.name fresh) ∙ sym deletes) (bag_refl (pending_deletes t.name mine))))
    deletes_by name false off = subst (λ (ys : List Stamped). SameBag (pending_deletes name mine) (deleted_in (epoch + 1) ys)) (sym (rows_in_before name t done off)) (pends.deletes name)

-- at the begin of an epoch nothing is pending
pub pends_none : (mark : ℕ) (start b : Database) (epoch : ℕ) (s : State) → IsSound s → IsAt mark start b epoch s → Pends mark start b epoch [] s
pends_none mark start b epoch s sound at = record {
  at = record { from = at.from; last = at.last; ahm = at.ahm; cuts = at.cuts; good = at.good; shapes = at.shapes; tables = at.tables; rows = at.rows; idle = ap (λ (x : List Changes). set s.sessions (s.current - 1) x) (sym none) ∙ set-get_or s.sessions (s.current - 1) [] ∙ at.idle };
  rows = λ name. subst (λ (cs : List Changes). SameBag (pending_rows name cs) []) (sym none) (bag_refl []);
  deletes = λ name. subst (λ (cs : List Changes). SameBag (pending_deletes name cs) []) (sym none) (bag_refl []);
  others = λ name is. subst (Apart name) (sym none) (All-nil (λ c. bytes_eq c.table name ≡ false));
}
  where
    none : own_changes s ≡ []
    none = ap (λ (ss : List (List Changes)). get_or ss (s.current - 1) []) at.idle ∙ idle_at (s.current - 1) [] (let first = sound.first in let last = sound.current in omega (arith, first, last))

-- ---- the commit

none_of : {X : Type 0} (xs : List X) → length xs ≡ 0 → xs ≡ []
none_of [] none = refl
none_of (x ∷ xs) none = absurd (cc)

-- a session without changes has none pending
nothing_pending : (name : List ℕ) (cs : List Changes) → has_changes cs ≡ false → (pending_rows name cs ≡ []) × (pending_deletes name cs ≡ [])
nothing_pending name [] none = (refl, refl)
nothing_pending name (c ∷ cs) none = by c.rows c.deletes (bytes_eq c.table name) none (λ rest. nothing_pending name cs rest)
  where
    by : (rows : List (List Value)) (dels : List Asked) (b : Bool) → ((not (is_empty rows) || not (is_empty dels)) || has_changes cs) ≡ false → (has_changes cs ≡ false → (pending_rows name cs ≡ []) × (pending_deletes name cs ≡ []))
        → (cond b rows (pending_rows name cs) ≡ []) × (cond b dels (pending_deletes name cs) ≡ [])
    by [] [] true rest more = (refl, refl)
    by [] [] false rest more = more rest
    by [] (d ∷ dels) b some more = absurd (cc)
    by (r ∷ rows) dels b some more = absurd (cc)

unchanged : (n : ℕ) (rows : List Stamped) → inserted_in n rows ≡ [] → deleted_in n rows ≡ [] → list_any (λ s. is_inserted_in n s || is_deleted_in n s) rows ≡ false
unchanged n [] inserts deletes = refl
unchanged n (s ∷ rows) inserts deletes = by (is_inserted_in n s) (is_deleted_in n s) inserts deletes (λ i d. unchanged n rows i d)
  where
    by : (x y : Bool) → map (λ r. r.row) (cond x (s ∷ filter (is_inserted_in n) rows) (filter (is_inserted_in n) rows)) ≡ [] → map asked_of (cond y (s ∷ filter (is_deleted_in n) rows) (filter (is_deleted_in n) rows)) ≡ []
        → (inserted_in n rows ≡ [] → deleted_in n rows ≡ [] → list_any (λ r. is_inserted_in n r || is_deleted_in n r) rows ≡ false) → ((x || y) || list_any (λ r. is_inserted_in n r || is_deleted_in n r) rows) ≡ false
    by true y some d more = absurd (cc)
    by false true i some more = absurd (cc)
    by false false i d more = more i d

all_false : {X : Type 0} (p : X → Bool) (xs : List X) → All (λ x. p x ≡ false) xs → list_any p xs ≡ false
all_false p [] all = refl
all_false p (x ∷ xs) all = ap (λ (b : Bool). b || list_any p xs) (All-head (λ y. p y ≡ false) x xs all) ∙ all_false p xs (All-tail (λ y. p y ≡ false) x xs all)

-- an epoch that changed something leaves something pending
has_pending : (mark : ℕ) (start b : Database) (epoch : ℕ) (s : State) → IsSoundDatabase b → Pends mark start b epoch b.tables s → has_change b (epoch + 1) ≡ true → has_changes (own_changes s) ≡ true
has_pending mark start b epoch s sound pends some = by (has_changes (own_changes s)) refl
  where
    each : has_changes (own_changes s) ≡ false → (u : Table) → table_named u.name b.tables ≡ Some u → is_changed_in (epoch + 1) u ≡ false
    each none u there =
        let left = nothing_pending u.name (own_changes s) none in
        let rows : rows_in u.name b.tables ≡ u.rows = ap (λ (o : Option Table). option_map_or (λ t. t.rows) o []) there in
        let inserts : length (inserted_in (epoch + 1) u.rows) ≡ 0 =
        sym (ap (λ (ys : List Stamped). length (inserted_in (epoch + 1) ys)) rows) ∙ sym (bag_length (pending_rows u.name (own_changes s)) (inserted_in (epoch + 1) (rows_in u.name b.tables)) (pends.rows u.name)) ∙ ap (λ (xs : List (List Value)). length xs) left.0 in
        let deletes : length (deleted_in (epoch + 1) u.rows) ≡ 0 =
        sym (ap (λ (ys : List Stamped). length (deleted_in (epoch + 1) ys)) rows) ∙ sym (bag_length (pending_deletes u.name (own_changes s)) (deleted_in (epoch + 1) (rows_in u.name b.tables)) (pends.deletes u.name)) ∙ ap (λ (xs : List Asked). length xs) left.1 in
        unchanged (epoch + 1) u.rows (none_of (inserted_in (epoch + 1) u.rows) inserts) (none_of (deleted_in (epoch + 1) u.rows) deletes)

    by : (x : Bool) → has_changes (own_changes s) ≡ x → x ≡ true
    by true is = refl
    by false none =
        let quiet : has_change b (epoch + 1) ≡ false =
        all_false (is_changed_in (epoch + 1)) b.tables (All-weaker (λ u. table_named u.name b.tables ≡ Some u) (λ u. is_changed_in (epoch + 1) u ≡ false) (each none) b.tables (found_all b.tables (names_differ b sound))) in
        absurd (cc)

-- then both have tables
some_table : (n : ℕ) (s : State) (b : Database) → HaveSameTables s.database b → has_change b n ≡ true → IsSomeList s.database.tables
some_table n s b same some = by s.database.tables b.tables same some
  where
    by : (ss bs : List Table) → ((name : List ℕ) → option_map (λ t. t.columns) (table_named name ss) ≡ option_map (λ t. t.columns) (table_named name bs)) → list_any (is_changed_in n) bs ≡ true → IsSomeList ss
    by ss [] columns none = absurd (cc)
    by [] (t ∷ bs) columns one =
        let both : None ≡ option_map (λ u. u.columns) (cond (bytes_eq t.name t.name) (Some t) (table_named t.name bs)) = columns t.name in
        let here : None ≡ Some t.columns = both ∙ ap (λ (x : Bool). option_map (λ u. u.columns) (cond x (Some t) (table_named t.name bs))) (named_itself t.name) in
        absurd (cc)
    by (u ∷ ss) (t ∷ bs) columns one = tt

-- Behind the commit the state has come to the epoch.
pub pends_commit : (mark : ℕ) (start b : Database) (epoch : ℕ) (s : State) → IsSound s → IsSoundDatabase b → mark ≤ epoch → Pends mark start b epoch b.tables s → has_change b (epoch + 1) ≡ true
    → IsAt mark start b (epoch + 1) (changes_committed s)
pends_commit mark start b epoch s sound ahead le pends some =
    subst (λ (x : Bool). IsAt mark start b (epoch + 1) (with_changes [] (cond x (record s { database = committed (own_changes s) s.database }) s))) (sym (has_pending mark start b epoch s ahead pends some)) (record {
      from = let from = at.from in omega (arith, from);
      last = ap (λ (n : ℕ). n + 1) at.last;
      ahm = at.ahm;
      cuts = λ k below. commit_unseen k (own_changes s) s.database (let from = at.from in let last = at.last in omega (arith, below, from, last)) ∙ at.cuts k below;
      good = good_still (own_changes s) s.database sound.database session (some_table (epoch + 1) s b at.tables some) ∙ at.good;
      shapes = shapes_still (own_changes s) s.database sound.database session ∙ at.shapes;
      tables = λ name. columns_committed name (own_changes s) s.database sound.database session ∙ at.tables name;
      rows = history_committed mark epoch s.database b (own_changes s) sound.database ahead session at.last le at.tables at.rows pends.rows pends.deletes;
      idle = at.idle;
    })
  where
    at : IsAt mark start b epoch (changes_dropped s)
    at = pends.at

    session : IsSoundSession s.database (own_changes s)
    session = own_is_sound s sound
