-- A session's changes, committed.
use Rattle.std.proofs.Common.{◌≡◌, ℕ, ◌+◌, ◌≤◌, ◌<◌, ◌++◌, Bool, true, false, cond, List, [], ◌∷◌, map, refl, sym, ◌∙◌, ap, subst, arith}
use Rattle.std.specs.Prelude.{Option, Some, None, bytes_eq}
use Rattle.std.specs.Bool.{OnTrue}
use Rattle.std.specs.List.{All, AllPairs}
use Rattle.std.specs.Option.{IfSome}
use Rattle.std.proofs.lemmas.List.Concat.{flat_map-cons}
use Rattle.std.proofs.lemmas.List.Elements.{All-head, All-tail, All-cons, All-nil, All-append, All-weaker}
use Rattle.col_value.specs.declared.value.Value.{Value}
use Rattle.col_value.specs.declared.column.Column.{Column}
use Rattle.col_value.specs.declared.row.Asked.{Asked}
use Rattle.col_value.specs.declared.row.Stamped.{Stamped}
use Rattle.row_history.specs.History.{is_asked, inserted_at, mark_one, mark_all}
use Rattle.db_model.specs.Database.{Database, Table}
use Rattle.db_model.specs.State.{Changes, pending_rows, pending_deletes, commit_changes, committed}
use Rattle.db_model.specs.Sound.{RowFits, HasEpochs, ReachesMark, IsSoundShape, IsSoundTable, names_of, all_names, IsSoundDatabase, IsSoundSession}
use Rattle.sound_laws.specs.Commits.{commit_table}
use Rattle.sound_laws.proofs.Changes.{HasFitting, changes_committed, names_differ, found_all, all_fit}

-- ---- rows

row_later : (last : ℕ) (s : Stamped) → HasEpochs last s → HasEpochs (last + 1) s
row_later last s has = let to = has.inserted in record { first = has.first; inserted = omega (arith, to); deleted = later s.del has.deleted }
  where
    later : (o : Option ℕ) → IfSome o (λ d. (s.ins < d) × (d ≤ last)) → IfSome o (λ d. (s.ins < d) × (d ≤ last + 1))
    later None is = tt
    later (Some d) (after, closed) = (after, omega (arith, closed))

-- marks keep what a mark of a row keeps
marked_one : (Q : Stamped → Type 0) (epoch : ℕ) → ((s : Stamped) → Q s → Q (record s { del = Some epoch })) → (a : Asked) (rows : List Stamped) → All Q rows → All Q (mark_one epoch a rows)
marked_one Q epoch keeps a [] all = All-nil Q
marked_one Q epoch keeps a (s ∷ rows) all = by (is_asked a s) (marked_one Q epoch keeps a rows (All-tail Q s rows all))
  where
    by : (b : Bool) → All Q (mark_one epoch a rows) → All Q (cond b (record s { del = Some epoch } ∷ rows) (s ∷ mark_one epoch a rows))
    by true rest = All-cons Q (record s { del = Some epoch }) rows (keeps s (All-head Q s rows all)) (All-tail Q s rows all)
    by false rest = All-cons Q s (mark_one epoch a rows) (All-head Q s rows all) rest

marked_all : (Q : Stamped → Type 0) (epoch : ℕ) → ((s : Stamped) → Q s → Q (record s { del = Some epoch })) → (asked : List Asked) (rows : List Stamped) → All Q rows → All Q (mark_all epoch asked rows)
marked_all Q epoch keeps [] rows all = all
marked_all Q epoch keeps (a ∷ asked) rows all = marked_all Q epoch keeps asked (mark_one epoch a rows) (marked_one Q epoch keeps a rows all)

-- a row that was inserted before, whether it is deleted now or not
abbrev Earlier : ℕ → Stamped → Type 0
Earlier last s = (s.ins ≤ last) × HasEpochs (last + 1) s

earlier_marked : (last : ℕ) (s : Stamped) → Earlier last s → Earlier last (record s { del = Some (last + 1) })
earlier_marked last s (to, has) = (to, record { first = has.first; inserted = has.inserted; deleted = (omega (arith, to), omega arith) })

epochs_marked : (last : ℕ) (asked : List Asked) (rows : List Stamped) → All (HasEpochs last) rows → All (HasEpochs (last + 1)) (mark_all (last + 1) asked rows)
epochs_marked last asked rows all =
    All-weaker (Earlier last) (HasEpochs (last + 1)) (λ s is. is.1) (mark_all (last + 1) asked rows)
    (marked_all (Earlier last) (last + 1) (earlier_marked last) asked rows (All-weaker (HasEpochs last) (Earlier last) (λ s has. (has.inserted, row_later last s has)) rows all))

new_epochs : (last : ℕ) (rows : List (List Value)) → All (HasEpochs (last + 1)) (map (inserted_at (last + 1)) rows)
new_epochs last [] = All-nil (HasEpochs (last + 1))
new_epochs last (row ∷ rows) =
    All-cons (HasEpochs (last + 1)) (inserted_at (last + 1) row) (map (inserted_at (last + 1)) rows) (record { first = omega arith; inserted = omega arith; deleted = tt }) (new_epochs last rows)

new_fit : (columns : List Column) (epoch : ℕ) (rows : List (List Value)) → All (RowFits columns) rows → All (λ s. RowFits columns s.row) (map (inserted_at epoch) rows)
new_fit columns epoch [] all = All-nil (λ s. RowFits columns s.row)
new_fit columns epoch (row ∷ rows) all =
    All-cons (λ s. RowFits columns s.row) (inserted_at epoch row) (map (inserted_at epoch) rows) (All-head (RowFits columns) row rows all) (new_fit columns epoch rows (All-tail (RowFits columns) row rows all))

-- ---- tables

on_same : (b : Bool) {P Q : Type 0} → (P → Q) → OnTrue b P → OnTrue b Q
on_same true h p = h p
on_same false h p = tt

table_sound : (d e : Database) (changes : List Changes) (u : Table) → e.last ≡ d.last + 1 → e.ahm ≡ d.ahm → IsSoundTable d u → HasFitting d changes u → IsSoundTable e (commit_table (d.last + 1) changes u)
table_sound d e changes u last ahm sound fit = record {
  rows =
      All-append (λ s. RowFits u.columns s.row) (mark_all (d.last + 1) (pending_deletes u.name changes) u.rows) (map (inserted_at (d.last + 1)) (pending_rows u.name changes))
      (marked_all (λ s. RowFits u.columns s.row) (d.last + 1) (λ s is. is) (pending_deletes u.name changes) u.rows sound.rows) (new_fit u.columns (d.last + 1) (pending_rows u.name changes) fit);
  epochs =
      subst (λ (n : ℕ). All (HasEpochs n) (commit_table (d.last + 1) changes u).rows) (sym last)
      (All-append (HasEpochs (d.last + 1)) (mark_all (d.last + 1) (pending_deletes u.name changes) u.rows) (map (inserted_at (d.last + 1)) (pending_rows u.name changes))
      (epochs_marked d.last (pending_deletes u.name changes) u.rows sound.epochs) (new_epochs d.last (pending_rows u.name changes)));
  shapes = All-weaker (IsSoundShape d) (IsSoundShape e)
      (λ s is. on_same s.fresh {P = ReachesMark d s}
      (λ r. let closed = r.closed in record { mark = subst (λ (n : ℕ). n ≤ s.lge) (sym ahm) r.mark; closed = omega (arith, closed, last) }) is) u.shapes sound.shapes;
  super = sound.super;
}

tables_sound : (d e : Database) (changes : List Changes) (us : List Table) → e.last ≡ d.last + 1 → e.ahm ≡ d.ahm → All (IsSoundTable d) us → All (HasFitting d changes) us → All (IsSoundTable e) (map (commit_table (d.last + 1) changes) us)
tables_sound d e changes [] last ahm sound fit = All-nil (IsSoundTable e)
tables_sound d e changes (u ∷ us) last ahm sound fit =
    All-cons (IsSoundTable e) (commit_table (d.last + 1) changes u) (map (commit_table (d.last + 1) changes) us) (table_sound d e changes u last ahm (All-head (IsSoundTable d) u us sound) (All-head (HasFitting d changes) u us fit))
    (tables_sound d e changes us last ahm (All-tail (IsSoundTable d) u us sound) (All-tail (HasFitting d changes) u us fit))

names_kept : (epoch : ℕ) (changes : List Changes) (us : List Table) → all_names (map (commit_table epoch changes) us) ≡ all_names us
names_kept epoch changes [] = refl
names_kept epoch changes (u ∷ us) = flat_map-cons names_of (commit_table epoch changes u) (map (commit_table epoch changes) us) ∙ ap (λ (ns : List (List ℕ)). names_of u ++ ns) (names_kept epoch changes us) ∙ sym (flat_map-cons names_of u us)

pub committed_sound : (d : Database) (changes : List Changes) → IsSoundDatabase d → IsSoundSession d changes → IsSoundDatabase (committed changes d)
committed_sound d changes sound session = record {
  names = subst (AllPairs (λ m n. bytes_eq m n ≡ false)) (sym (names_kept (d.last + 1) changes d.tables) ∙ sym (ap all_names same)) sound.names;
  tables =
      subst (All (IsSoundTable (committed changes d))) (sym same)
      (tables_sound d (committed changes d) changes d.tables refl refl sound.tables (all_fit d changes d.tables (found_all d.tables (names_differ d sound)) session.each));
  mark = let below = sound.mark in omega (arith, below);
}
  where
    same : commit_changes (d.last + 1) changes d.tables ≡ map (commit_table (d.last + 1) changes) d.tables
    same = changes_committed (d.last + 1) d changes sound session
