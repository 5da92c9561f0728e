-- What two stores tell of a table, over the databases that they stand for.
use Rattle.std.proofs.Common.{◌≡◌, ◌≤◌, ℕ, List, [], map, length, Option, Some, refl, sym, ◌∙◌, arith, subst}
use Rattle.std.specs.Prelude.{IsSomeAnd}
use Rattle.std.specs.List.{slice_get}
use Rattle.common_laws.specs.Bags.{SameBag}
use Rattle.common_laws.specs.Maps.{Contents}
use Rattle.col_disk.specs.declared.disk.Disk.{Ghosts}
use Rattle.catalog_types.specs.declared.catalogue.ProjColumn.{ProjColumn}
use Rattle.col_value.specs.declared.row.Stamped.{Stamped}
use Rattle.row_history.specs.History.{retained}
use Rattle.catch_model.specs.declared.fault.LinkFault.{LinkFault}
use Rattle.catch_files.specs.Parting.{IsShort}
use Rattle.db_model.specs.Database.{Database, Table}
use Rattle.proj_store.specs.Loaded.{Loaded}
use Rattle.proj_store.specs.Reading.{HasVectors}
use Rattle.stored_rows.specs.Stored.{Projected, Stores}
use Rattle.store_commit.specs.Seen.{Seen, Stands}
use Rattle.row_matching.specs.Seeing.{ArePlaces, IsSource}
use Rattle.row_matching.proofs.Bags.{OneList}
use Rattle.catch_rows.specs.Sharing.{AreRests, HasParts, IsAlike, IsPair, IsPairIn, ShareAt, SharesRows, ShortOverBoth}
use Rattle.catch_rows.proofs.Shared.{shares, HeldOn, OneHeld}
use Rattle.catch_rows.proofs.Told.{found_of, told_of}

abbrev pub Vectors : Type 0
Vectors = (m : Contents) (p : Projected) (rows : List Stamped) → Stores m p rows → HasVectors m p

-- the other projection has the columns at the same places
other_source : (count : ℕ) (places : List (Option ℕ)) (p q : Projected) → IsAlike p q → IsSource count places p → IsSource count places q
other_source count places p q alike source = record {
  fresh = alike.fresh;
  own = subst (λ (cs : List ProjColumn). ArePlaces (map (λ c. c.ordinal) cs) count places) alike.columns source.own;
}

at_both : (mark table : ℕ) (behind ahead : List Stamped) (a b : Database) (t u : Table) → slice_get a.tables table ≡ Some t → slice_get b.tables table ≡ Some u → SharesRows mark t.rows u.rows behind ahead
    → IsSomeAnd (slice_get a.tables table) (λ x. IsSomeAnd (slice_get b.tables table) (λ y. SharesRows mark x.rows y.rows behind ahead))
at_both mark table behind ahead a b t u first second shared =
    subst (λ (o : Option Table). IsSomeAnd o (λ x. IsSomeAnd (slice_get b.tables table) (λ y. SharesRows mark x.rows y.rows behind ahead))) (sym first)
    (subst (λ (o : Option Table). IsSomeAnd o (λ y. SharesRows mark t.rows y.rows behind ahead)) (sym second) shared)

pub pair_shares : OneList → Vectors → OneHeld → HeldOn → {A B : Type 0} (behind : Ghosts A) (ahead : Ghosts B) (at : A) (from : B) (r s : Seen) (a b : Database) (table mark : ℕ) (places : List (Option ℕ)) (p q : Loaded) (xs ys : List Stamped)
    → IsPair r s table places p q → AreRests (behind.holds at) (ahead.holds from) mark places p.stored q.stored xs ys → Stands behind r at a → Stands ahead s from b → ShareAt mark table xs ys a b
pair_shares one vectors held on behind ahead at from r s a b table mark places p q xs ys pair rests here there low also =
    let (m, is, t, first, old) = told_of one vectors behind at r a table mark (length pair.old.columns) places pair.old p pair.first refl pair.source pair.alike.first here low in
    let (n, is_too, u, second, new) = told_of one vectors ahead from s b table mark (length pair.old.columns) places pair.new q pair.second pair.many (other_source (length pair.old.columns) places p.stored q.stored pair.alike pair.source) pair.alike.second there also in
    at_both mark table xs ys a b t u first second (shares held on (behind.holds at) (ahead.holds from) m n mark places p.stored q.stored t.rows u.rows xs ys is is_too pair.alike.columns old new rests)

-- over databases no file is blamed
pub pair_short : OneList → Vectors → {A B : Type 0} (behind : Ghosts A) (ahead : Ghosts B) (at : A) (from : B) (r s : Seen) (a b : Database) (table : ℕ) (places : List (Option ℕ)) (p q : Loaded) (fault : LinkFault) → IsPair r s table places p q
    → ShortOverBoth (behind.holds at) (ahead.holds from) p.stored.entry q.stored.entry fault → Stands behind r at a → Stands ahead s from b → IsShort fault
pair_short one vectors behind ahead at from r s a b table places p q fault pair short here there =
    let (m, is, t, first, old) = told_of one vectors behind at r a table a.ahm (length pair.old.columns) places pair.old p pair.first refl pair.source pair.alike.first here (omega arith) in
    let (n, is_too, u, second, new) = told_of one vectors ahead from s b table b.ahm (length pair.old.columns) places pair.new q pair.second pair.many (other_source (length pair.old.columns) places p.stored q.stored pair.alike pair.source) pair.alike.second there (omega arith) in
    short m n old.stored new.stored is is_too pair.source.fresh pair.alike.fresh old.held new.held

-- where nothing is left out
pub whole_shares : (mark table : ℕ) (xs ys : List Stamped) (a b : Database) → (a.ahm ≤ mark → IsSomeAnd (slice_get a.tables table) (λ t. SameBag xs (retained mark t.rows))) → (b.ahm ≤ mark → IsSomeAnd (slice_get b.tables table) (λ t. SameBag ys (retained mark t.rows)))
    → ShareAt mark table xs ys a b
whole_shares mark table xs ys a b first second low also =
    let (t, is, old) = found_of (slice_get a.tables table) (λ v. SameBag xs (retained mark v.rows)) (first low) in
    let (u, is_too, new) = found_of (slice_get b.tables table) (λ v. SameBag ys (retained mark v.rows)) (second also) in
    at_both mark table xs ys a b t u is is_too (record { common = []; first = old; second = new })

pub pair_found : (r s : Seen) (table old new : ℕ) (first second : List Loaded) (places : List (Option ℕ)) (p q : Loaded) → HasParts r table old first → HasParts s table new second → IsPairIn old new first second places p q → IsPair r s table places p q
pair_found r s table old new first second places p q here there pair = record {
  old = here.t;
  new = there.t;
  first = record { parts = first; place = pair.place; table_is = here.is; parts_are = here.parts_are; is = pair.is };
  second = record { parts = second; place = pair.other; table_is = there.is; parts_are = there.parts_are; is = pair.other_is };
  many = there.many ∙ pair.many ∙ sym here.many;
  source = subst (λ (n : ℕ). IsSource n places p.stored) (sym here.many) pair.source;
  alike = pair.alike;
}
