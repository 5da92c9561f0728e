-- Alike changes, committed.
use Rattle.std.proofs.Common.{ℕ, ◌+◌, ◌++◌, List, [], ◌∷◌, map, refl, sym, subst}
use Rattle.std.specs.Prelude.{None, Some}
use Rattle.std.specs.List.{All, AllZip}
use Rattle.std.proofs.lemmas.List.Elements.{All-head, All-tail}
use Rattle.common_laws.specs.Bags.{SameBag}
use Rattle.common_laws.proofs.BagLaws.{bag_append, bag_cancel, bag_map, bag_refl, bag_sym, bag_trans}
use Rattle.col_value.specs.declared.row.Asked.{Asked}
use Rattle.col_value.specs.declared.row.Stamped.{Stamped}
use Rattle.row_history.specs.History.{inserted_at, mark_all, stamped, Within}
use Rattle.row_history.proofs.Taking.{mark_takes}
use Rattle.db_model.specs.Database.{Database, Table}
use Rattle.db_model.specs.Sound.{IsSoundDatabase, IsSoundSession}
use Rattle.db_model.specs.State.{Changes, commit_changes, committed, pending_deletes, pending_rows}
use Rattle.sound_laws.specs.Commits.{commit_table}
use Rattle.sound_laws.proofs.Changes.{all_within, changes_committed, found_all, names_differ}
use Rattle.alike_laws.specs.Reordered.{IsReordered, IsReorderedTable}
use Rattle.alike_laws.proofs.Changes.{Alike, deletes_alike, pending_alike}
use Rattle.alike_laws.proofs.Sound.{session_alike, within_alike}

-- whichever of equal rows is marked, and in which order, the marked rows are one bag
pub marked_alike : (epoch : ℕ) (asked others : List Asked) (rows : List Stamped) → SameBag asked others → Within asked rows → SameBag (mark_all epoch asked rows) (mark_all epoch others rows)
marked_alike epoch asked others rows same within =
    let gone : List Asked → List Stamped = λ xs. map (stamped (Some epoch)) xs in
    let was : List Asked → List Stamped = λ xs. map (stamped None) xs in
    let one = mark_takes epoch asked rows within in
    let other = mark_takes epoch others rows (within_alike asked others rows same within) in
    let begun : SameBag (gone asked ++ rows) (gone others ++ rows) = bag_append (gone asked) rows (gone others) rows (bag_map (stamped (Some epoch)) asked others same) (bag_refl rows) in
    let ended : SameBag (was others ++ mark_all epoch others rows) (was asked ++ mark_all epoch others rows) =
    bag_append (was others) (mark_all epoch others rows) (was asked) (mark_all epoch others rows) (bag_sym (was asked) (was others) (bag_map (stamped None) asked others same)) (bag_refl (mark_all epoch others rows)) in
    bag_cancel (was asked) (mark_all epoch asked rows) (mark_all epoch others rows)
    (bag_trans (was asked ++ mark_all epoch asked rows) (gone asked ++ rows) (was asked ++ mark_all epoch others rows) (bag_sym (gone asked ++ rows) (was asked ++ mark_all epoch asked rows) one)
    (bag_trans (gone asked ++ rows) (gone others ++ rows) (was asked ++ mark_all epoch others rows) begun
    (bag_trans (gone others ++ rows) (was others ++ mark_all epoch others rows) (was asked ++ mark_all epoch others rows) other ended)))

table_alike : (epoch : ℕ) (cs es : List Changes) (u : Table) → Alike cs es → Within (pending_deletes u.name cs) u.rows → IsReorderedTable (commit_table epoch cs u) (commit_table epoch es u)
table_alike epoch cs es u alike within = record {
  name = refl;
  columns = refl;
  shapes = refl;
  rows =
      bag_append (mark_all epoch (pending_deletes u.name cs) u.rows) (map (inserted_at epoch) (pending_rows u.name cs)) (mark_all epoch (pending_deletes u.name es) u.rows) (map (inserted_at epoch) (pending_rows u.name es))
      (marked_alike epoch (pending_deletes u.name cs) (pending_deletes u.name es) u.rows (deletes_alike u.name cs es alike) within)
      (bag_map (inserted_at epoch) (pending_rows u.name cs) (pending_rows u.name es) (pending_alike u.name cs es alike));
}

tables_alike : (epoch : ℕ) (cs es : List Changes) (us : List Table) → Alike cs es → All (λ u. Within (pending_deletes u.name cs) u.rows) us → AllZip IsReorderedTable (map (commit_table epoch cs) us) (map (commit_table epoch es) us)
tables_alike epoch cs es [] alike within = tt
tables_alike epoch cs es (u ∷ us) alike within = (
  table_alike epoch cs es u alike (All-head (λ v. Within (pending_deletes v.name cs) v.rows) u us within),
  tables_alike epoch cs es us alike (All-tail (λ v. Within (pending_deletes v.name cs) v.rows) u us within),
)

pub committed_alike : (d : Database) (cs es : List Changes) → IsSoundDatabase d → IsSoundSession d cs → Alike cs es → IsReordered (committed cs d) (committed es d)
committed_alike d cs es sound session alike = record {
  last = refl;
  ahm = refl;
  tables =
      subst (λ (ts : List Table). AllZip IsReorderedTable ts (commit_changes (d.last + 1) es d.tables)) (sym (changes_committed (d.last + 1) d cs sound session))
      (subst (λ (ts : List Table). AllZip IsReorderedTable (map (commit_table (d.last + 1) cs) d.tables) ts) (sym (changes_committed (d.last + 1) d es sound (session_alike d cs es alike session)))
      (tables_alike (d.last + 1) cs es d.tables alike (all_within d cs d.tables (found_all d.tables (names_differ d sound)) session.each)));
}
