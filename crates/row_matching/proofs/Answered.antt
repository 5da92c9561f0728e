-- What is answered of a store that stands for a database.
use Rattle.std.proofs.Common.{◌≡◌, ◌<◌, ℕ, true, ltb, List, length, map, filter, get_or, sym, ◌∙◌, ap, subst}
use Rattle.std.specs.Prelude.{Option, Some, option_map, IsSomeAnd}
use Rattle.std.specs.List.{All, slice_get}
use Rattle.std.specs.Option.{IfSome}
use Rattle.std.proofs.lemmas.List.{length-map}
use Rattle.std.proofs.lemmas.Option.{slice_get-get_or, slice_get-map}
use borrow.Author.Tests.{ltb-true}
use Rattle.common_laws.specs.Maps.{Contents}
use Rattle.col_disk.specs.declared.disk.Disk.{Ghosts}
use Rattle.col_disk.specs.declared.disk.StoreFault.{StoreFault}
use Rattle.catalog_types.specs.declared.catalogue.ProjColumn.{ProjColumn}
use Rattle.catalog_types.specs.declared.catalogue.Table as kept
use Rattle.col_value.specs.declared.row.Asked.{Asked}
use Rattle.col_value.specs.declared.row.Stamped.{Stamped}
use Rattle.col_value.specs.declared.value.Value.{Value}
use Rattle.sql_bound.specs.declared.expr.Expr.{Expr}
use Rattle.sql_bound.specs.Outputs.{is_kept}
use Rattle.db_model.specs.Database.{Database}
use Rattle.db_model.specs.State.{Changes, pending_deletes, pending_rows}
use Rattle.stored_rows.specs.Stored.{Projected, Stores}
use Rattle.folder_model.specs.Projections.{ordinals}
use Rattle.proj_store.specs.Loaded.{Loaded}
use Rattle.store_commit.specs.Seen.{Seen}
use Rattle.col_disk.specs.Faults.{IsUnblamed}
use Rattle.exec_scan.specs.Scanning.{AreOwn}
use Rattle.row_matching.specs.Matching.{AreMatches, CanMatch}
use Rattle.row_matching.specs.Seeing.{AreFound, AreOthers, IsSource, seen_rows}
use Rattle.row_matching.proofs.Bags.{OneList, matches_are, source_stores}
use Rattle.row_matching.proofs.Placed.{own_places}

pub got_at : {X : Type 0} (xs : List X) (i : ℕ) (x : X) → true ≡ ltb i (length xs) → x ≡ get_or xs i x → slice_get xs i ≡ Some x
got_at {X} xs i x within is = slice_get-get_or xs i x (ltb-true i (length xs) (sym within)) ∙ ap (λ (y : X). Some y) (sym is)

abbrev stored_of : List Loaded → List Projected
stored_of ps = map (λ p. p.stored) ps

-- a projection that was found, in its place
pub record IsAt (s : Seen) (i place count : ℕ) (places : List (Option ℕ)) (t : kept.Table) (parts : List Loaded) (store : Loaded) : Type 0 where
  pub table : slice_get s.catalogue.tables i ≡ Some t
  pub beside : slice_get s.stores i ≡ Some (stored_of parts)
  pub part : slice_get parts place ≡ Some store
  pub source : IsSomeAnd (slice_get parts place) (λ p. IsSource count places p.stored)
  pub many : count ≡ length t.columns

pub stored_at : (parts : List Loaded) (place : ℕ) (store : Loaded) → slice_get parts place ≡ Some store → slice_get (stored_of parts) place ≡ Some store.stored
stored_at parts place store is = slice_get-map (λ (x : Loaded). x.stored) parts place ∙ ap (λ (o : Option Loaded). option_map (λ x. x.stored) o) is

pub source_of : (s : Seen) (i place count : ℕ) (places : List (Option ℕ)) (t : kept.Table) (parts : List Loaded) (store : Loaded) → IsAt s i place count places t parts store → IsSource (length t.columns) places store.stored
source_of s i place count places t parts store at =
    subst (λ (n : ℕ). IsSource n places store.stored) at.many (subst (λ (o : Option Loaded). IsSomeAnd o (λ p. IsSource count places p.stored)) at.part at.source)

pub answered : OneList → {D : Type 0} (disk : Ghosts D) (now : D) (s : Seen) (changes : List Changes) (keep : List Expr) (i place count epoch : ℕ) (places : List (Option ℕ)) (name : List ℕ) (t : kept.Table) (parts : List Loaded) (store : Loaded) (gone committed : List Asked)
    (pending : List (List Value)) (d : Database) → IsAt s i place count places t parts store → name ≡ t.name → epoch ≡ s.catalogue.last → gone ≡ pending_deletes name changes
    → ((m : Contents) → disk.holds now ≡ Some m → (rows : List Stamped) → Stores m store.stored rows → AreOthers keep gone (seen_rows epoch places rows) committed) → pending ≡ filter (is_kept keep) (pending_rows name changes)
    → CanMatch disk s now changes d → AreMatches keep d changes i committed pending
answered one disk now s changes keep i place count epoch places name t parts store gone committed pending d at named last deletes found waiting can =
    let files = can.stands.files in
    let source = source_of s i place count places t parts store at in
    let stored = stored_at parts place store at.part in
    let (rows, are) = source_stores files s.catalogue s.stores d i place (length t.columns) t (stored_of parts) store.stored places can.stands.are at.table at.beside stored source in
    let here : AreFound keep epoch places rows changes name committed pending = record {
      committed_are = subst (λ (xs : List Asked). AreOthers keep xs (seen_rows epoch places rows) committed) deletes (found files can.stands.quiet.told_is rows are);
      pending_are = waiting;
    } in
    matches_are one files s.catalogue s.stores d changes keep i place t (stored_of parts) store.stored places rows committed pending can.stands.are can.stands.sound can.session at.table at.beside stored source are
    (subst (λ (n : List ℕ). AreFound keep s.catalogue.last places rows changes n committed pending) named (subst (λ (n : ℕ). AreFound keep n places rows changes name committed pending) last here))

pub none_blamed : {D : Type 0} (disk : Ghosts D) (now : D) (s : Seen) (changes : List Changes) (i place count : ℕ) (places : List (Option ℕ)) (t : kept.Table) (parts : List Loaded) (store : Loaded) (fault : StoreFault) (d : Database)
    → IsAt s i place count places t parts store → ((m : Contents) → disk.holds now ≡ Some m → (rows : List Stamped) → Stores m store.stored rows → IsUnblamed fault) → CanMatch disk s now changes d → IsUnblamed fault
none_blamed disk now s changes i place count places t parts store fault d at unblamed can =
    let files = can.stands.files in
    let source = source_of s i place count places t parts store at in
    let (rows, are) = source_stores files s.catalogue s.stores d i place (length t.columns) t (stored_of parts) store.stored places can.stands.are at.table at.beside (stored_at parts place store at.part) source in
    unblamed files can.stands.quiet.told_is rows are

-- the places that were found are the projection's own
pub own_of : (parts : List Loaded) (place count : ℕ) (places : List (Option ℕ)) (store : Loaded) → slice_get parts place ≡ Some store → IsSomeAnd (slice_get parts place) (λ p. IsSource count places p.stored) → AreOwn store.stored.entry places
own_of parts place count places store is source =
    let here : IsSource count places store.stored = subst (λ (o : Option Loaded). IsSomeAnd o (λ p. IsSource count places p.stored)) is source in
    let long : length (ordinals store.stored.entry) ≡ length store.stored.entry.columns = length-map store.stored.entry.columns (λ (c : ProjColumn). c.ordinal) in
    subst (λ (n : ℕ). All (λ o. IfSome o (λ i. i < n)) places) long (own_places (ordinals store.stored.entry) count places here.own)
