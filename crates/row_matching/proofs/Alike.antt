-- Of alike changes the same rows match.
use Rattle.std.proofs.Common.{◌≡◌, ◌++◌, ℕ, List, map, filter, refl}
use Rattle.std.specs.Prelude.{Option, Some, None, IsSomeAnd}
use Rattle.std.specs.List.{All, slice_get}
use Rattle.common_laws.specs.Bags.{SameBag}
use Rattle.common_laws.proofs.BagLaws.{bag_append, bag_filter, bag_refl, bag_sym, bag_trans}
use Rattle.col_value.specs.declared.row.Asked.{Asked}
use Rattle.col_value.specs.declared.row.Stamped.{Stamped}
use Rattle.col_value.specs.declared.value.Value.{Value}
use Rattle.row_history.specs.History.{is_visible, Within}
use Rattle.sql_bound.specs.declared.expr.Expr.{Expr}
use Rattle.sql_bound.specs.Outputs.{is_kept}
use Rattle.db_model.specs.Database.{Database, Table}
use Rattle.db_model.specs.State.{Changes, pending_deletes, pending_rows}
use Rattle.db_model.specs.Sound.{HasEpochs, IsSoundDatabase, IsSoundSession, IsSoundTable}
use Rattle.db_model.specs.Views.{asked_of, committed_view, less}
use Rattle.sound_laws.proofs.Changes.{all_within, found_all, names_differ}
use Rattle.alike_laws.proofs.Changes.{Alike, deletes_alike, pending_alike}
use Rattle.row_matching.specs.Matching.{AreMatches, AreMatchesIn, committed_matches, pending_matches}
use Rattle.row_matching.proofs.Bags.{all_at, deletes_apart}
use Rattle.row_matching.proofs.Lessens.{less_is_less}

-- the committed rows that a session sees
pub view_alike : (last : ℕ) (cs es : List Changes) (t : Table) → Alike cs es → All (HasEpochs last) t.rows → Within (pending_deletes t.name cs) t.rows → SameBag (committed_view last cs t) (committed_view last es t)
view_alike last cs es t alike epochs within =
    let gone = pending_deletes t.name cs in
    let out = pending_deletes t.name es in
    let seen = map asked_of (filter (is_visible last) t.rows) in
    let (others, apart) = deletes_apart last gone t.rows epochs within in
    let again : SameBag seen (out ++ others) = bag_trans seen (gone ++ others) (out ++ others) apart (bag_append gone others out others (deletes_alike t.name cs es alike) (bag_refl others)) in
    bag_trans (less gone seen) others (less out seen) (less_is_less gone seen others apart) (bag_sym (less out seen) others (less_is_less out seen others again))

matches_alike : (keep : List Expr) (last : ℕ) (cs es : List Changes) (t : Table) (committed : List Asked) (pending : List (List Value)) → Alike cs es → All (HasEpochs last) t.rows → Within (pending_deletes t.name cs) t.rows
    → AreMatchesIn keep last cs t committed pending → AreMatchesIn keep last es t committed pending
matches_alike keep last cs es t committed pending alike epochs within are = record {
  committed_are =
      bag_trans committed (committed_matches keep last cs t) (committed_matches keep last es t) are.committed_are
      (bag_filter (λ a. is_kept keep a.row) (committed_view last cs t) (committed_view last es t) (view_alike last cs es t alike epochs within));
  pending_are =
      bag_trans pending (pending_matches keep cs t) (pending_matches keep es t) are.pending_are (bag_filter (is_kept keep) (pending_rows t.name cs) (pending_rows t.name es) (pending_alike t.name cs es alike));
}

pub found_alike : (keep : List Expr) (d : Database) (cs es : List Changes) (i : ℕ) (committed : List Asked) (pending : List (List Value)) → IsSoundDatabase d → IsSoundSession d cs → Alike cs es → AreMatches keep d cs i committed pending → AreMatches keep d es i committed pending
found_alike keep d cs es i committed pending sound session alike are = by (slice_get d.tables i) refl are
  where
    within : All (λ u. Within (pending_deletes u.name cs) u.rows) d.tables
    within = all_within d cs d.tables (found_all d.tables (names_differ d sound)) session.each

    by : (o : Option Table) → slice_get d.tables i ≡ o → IsSomeAnd o (λ t. AreMatchesIn keep d.last cs t committed pending) → IsSomeAnd o (λ t. AreMatchesIn keep d.last es t committed pending)
    by None is none = none
    by (Some t) is there =
        matches_alike keep d.last cs es t committed pending alike (all_at (IsSoundTable d) d.tables i t sound.tables is).epochs
        (all_at (λ u. Within (pending_deletes u.name cs) u.rows) d.tables i t within is) there
