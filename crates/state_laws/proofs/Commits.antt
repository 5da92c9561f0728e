-- A sound state stays sound in a commit.
use Rattle.std.proofs.Common.{◌≡◌, ◌+◌, ◌-◌, ◌<◌, ◌++◌, ℕ, Bool, true, false, cond, List, [], ◌∷◌, length, get_or, map, refl, sym, ◌∙◌, ap, ap₂, subst}
use Rattle.std.specs.Prelude.{◌||◌, bytes_eq, Contains, option_map}
use Rattle.std.specs.List.{All}
use Rattle.std.proofs.lemmas.List.{append-nil}
use Rattle.std.proofs.lemmas.List.Elements.{All-head, All-tail, All-contains_itself, All-weaker}
use Rattle.std.proofs.lemmas.Slice.Eq.{bytes_eq-Decides}
use Rattle.common_laws.proofs.BagLaws.{bag_refl}
use Rattle.col_value.specs.declared.value.Value.{Value}
use Rattle.col_value.specs.declared.row.Asked.{Asked}
use Rattle.col_value.specs.declared.row.Stamped.{Stamped}
use Rattle.row_history.specs.History.{Within, inserted_at, mark_all}
use Rattle.db_model.specs.Database.{Database, Table, table_named}
use Rattle.db_model.specs.State.{State, Changes, own_changes, with_changes, pending_rows, pending_deletes, has_changes, committed}
use Rattle.db_model.specs.Events.{changes_committed}
use Rattle.db_model.specs.Sound.{ChangesFit, IsSoundDatabase, IsSoundSession, GoTogether, IsSound, IsStale}
use Rattle.sound_laws.specs.Commits.{commit_table}
use Rattle.sound_laws.proofs.Created.{Differ}
use Rattle.sound_laws.proofs.Changes as own
use Rattle.sound_laws.proofs.Committed.{committed_sound}
use Rattle.state_laws.proofs.Tables.{map_named, named_so}
use Rattle.state_laws.proofs.Stale.{stale_mapped}
use Rattle.state_laws.proofs.Held.{none_together}
use Rattle.state_laws.proofs.Events.{own_sound, own_is_sound, own_with, dropped_changes, no_changes}

-- nothing is pending in a table in which there are no changes
none_pending : (name : List ℕ) (changes : List Changes) → All (λ c. Differ c.table name) changes → (pending_rows name changes ≡ []) × (pending_deletes name changes ≡ [])
none_pending name [] apart = (refl, refl)
none_pending name (c ∷ changes) apart =
    let other : bytes_eq c.table name ≡ false = All-head (λ x. Differ x.table name) c changes apart in
    let rest = none_pending name changes (All-tail (λ x. Differ x.table name) c changes apart) in (
      ap (λ (b : Bool). cond b c.rows (pending_rows name changes)) other ∙ rest.0,
      ap (λ (b : Bool). cond b c.deletes (pending_deletes name changes)) other ∙ rest.1,
    )

abbrev with_pending : ℕ → Table → List (List Value) → List Asked → Table
with_pending epoch u rows deletes = record u { rows = mark_all epoch deletes u.rows ++ map (inserted_at epoch) rows }

-- a commit leaves such a table as it is
still_table : (epoch : ℕ) (changes : List Changes) (u : Table) → All (λ c. Differ c.table u.name) changes → commit_table epoch changes u ≡ u
still_table epoch changes u apart =
    let none = none_pending u.name changes apart in
    ap₂ (with_pending epoch u) none.0 none.1 ∙ ap (λ (rs : List Stamped). record u { rows = rs }) (append-nil u.rows)

-- what goes with an exclusive change is in other tables
none_beside : (one other : List Changes) (c : Changes) → GoTogether one other → Contains other c → c.exclusive ≡ true → All (λ e. Differ e.table c.table) one
none_beside one other c go there exclusive = All-weaker (Contains one) (λ e. Differ e.table c.table) each one (All-contains_itself one)
  where
    or_on : (a b : Bool) → b ≡ true → (a || b) ≡ true
    or_on true b is = refl
    or_on false b is = is

    each : (e : Changes) → Contains one e → Differ e.table c.table
    each e in_one = by (bytes_eq e.table c.table) refl
      where
        by : (b : Bool) → bytes_eq e.table c.table ≡ b → b ≡ false
        by false is = refl
        by true is =
            let off : (e.exclusive || c.exclusive) ≡ false = go e c in_one there ((bytes_eq-Decides e.table c.table).0 is) in
            let on : (e.exclusive || c.exclusive) ≡ true = or_on e.exclusive c.exclusive exclusive in
            absurd (cc)

-- a session's changes in a table, beside another's that are committed
within_committed : (epoch : ℕ) (changes other : List Changes) (c : Changes) (u : Table) → u.name ≡ c.table → GoTogether changes other → Contains other c → Within c.deletes u.rows → (c.exclusive ≡ false → c.deletes ≡ [])
    → Within c.deletes (commit_table epoch changes u).rows
within_committed epoch changes other c u named go there within shared = by c.exclusive refl
  where
    by : (b : Bool) → c.exclusive ≡ b → Within c.deletes (commit_table epoch changes u).rows
    by true is =
        let apart : All (λ e. Differ e.table u.name) changes = subst (λ (n : List ℕ). All (λ e. Differ e.table n) changes) (sym named) (none_beside changes other c go there is) in
        subst (λ (t : Table). Within c.deletes t.rows) (sym (still_table epoch changes u apart)) within
    by false is = subst (λ (deletes : List Asked). Within deletes (commit_table epoch changes u).rows) (sym (shared is)) ((commit_table epoch changes u).rows, bag_refl (commit_table epoch changes u).rows)

committed_fit : (d : Database) (changes other : List Changes) (c : Changes) → IsSoundDatabase d → IsSoundSession d changes → GoTogether changes other → Contains other c → ChangesFit d c → ChangesFit (committed changes d) c
committed_fit d changes other c sound session go there fit = record {
  table = commit_table (d.last + 1) changes fit.table;
  there =
      ap (table_named c.table) (own.changes_committed (d.last + 1) d changes sound session)
      ∙ (map_named (commit_table (d.last + 1) changes) c.table d.tables (λ t. refl) ∙ ap (option_map (commit_table (d.last + 1) changes)) fit.there);
  rows = fit.rows;
  deletes = within_committed (d.last + 1) changes other c fit.table (named_so c.table d.tables fit.table fit.there) go there fit.deletes fit.shared;
  shared = fit.shared;
}

pub committed_state : (state : State) → IsSound state → IsSound (changes_committed state)
committed_state state sound = by (has_changes (own_changes state))
  where
    d : Database
    d = state.database

    changes : List Changes
    changes = own_changes state

    rest : (i : ℕ) (x : List Changes) → i < length state.sessions → (i ≡ state.current - 1 → ⊥) → IsSoundSession (committed changes d) (get_or state.sessions i x)
    rest i x lt at =
        let session = sound.sessions i x lt in
        record {
          each = All-weaker (λ c. Contains (get_or state.sessions i x) c × ChangesFit d c) (ChangesFit (committed changes d))
              (λ c both. committed_fit d changes (get_or state.sessions i x) c sound.database (own_is_sound state sound) (own_with state sound i x lt at) both.0 both.1) (get_or state.sessions i x)
              (λ k y below. (All-contains_itself (get_or state.sessions i x) k y below, session.each k y below));
          once = session.once;
        }

    -- each table has the projections that it had
    stale : All (IsStale (committed changes d)) state.asked
    stale =
        All-weaker (IsStale d) (IsStale (committed changes d))
        (λ n is. stale_mapped d (committed changes d) (commit_table (d.last + 1) changes) n (own.changes_committed (d.last + 1) d changes sound.database (own_is_sound state sound))
        (λ t has. record { shape = has.shape; of = has.of; named = has.named; stale = has.stale }) is) state.asked sound.asked

    by : (b : Bool) → IsSound (with_changes [] (cond b (record state { database = committed changes d }) state))
    by true =
        own_sound state (committed changes d) [] stale (committed_sound d changes sound.database (own_is_sound state sound)) (no_changes (committed changes d)) rest
        (λ i x lt at. none_together (get_or state.sessions i x)) sound
    by false = dropped_changes state sound
