-- A commit's rows and deletes, in a table and in each of its projections.
use Rattle.std.proofs.Common.{◌≡◌, ℕ, ◌<◌, ◌++◌, Bool, true, false, cond, List, [], ◌∷◌, map, filter, refl, sym, ap, ap₂, ◌∙◌, arith, subst, append_assoc}
use Rattle.std.specs.Prelude.{Option, Some, None, IsSomeAnd, count_by, not}
use Rattle.std.specs.Bool.{OnTrue, OnFalse}
use Rattle.std.specs.List.{All, AllZip}
use Rattle.std.proofs.lemmas.List.Elements.{All-head, All-tail, All-cons, All-nil}
use Rattle.common_laws.specs.Bags.{SameBag}
use Rattle.common_laws.specs.Maps.{Contents}
use Rattle.common_laws.proofs.BagLaws.{bag_refl, bag_trans, bag_append, bag_map, bag_filter, count_cons, count_append}
use Rattle.col_value.specs.declared.value.Value.{Value}
use Rattle.col_value.specs.Order.{projected}
use Rattle.col_value.specs.declared.row.Asked.{Asked}
use Rattle.col_value.specs.declared.row.Stamped.{Stamped}
use Rattle.row_history.specs.History.{is_retained, retained, on_columns, asked_on, stamped, inserted_at, mark_all, Within}
use Rattle.row_history.proofs.Taking.{taken_alike, mark_takes}
use Rattle.catalog_types.specs.declared.catalogue.Projection.{Projection}
use Rattle.catalog_types.specs.declared.catalogue.Table as kept
use Rattle.db_model.specs.Database.{Table}
use Rattle.stored_rows.specs.Stored.{Projected, with_rows}
use Rattle.proj_store.specs.Marking.{with_marks, IsPrepared, Places}
use Rattle.proj_store.proofs.Marked.{prepared_takes}
use Rattle.proj_store.proofs.Above.{marks_above}
use Rattle.folder_model.specs.Projections.{ordinals, HasHistory, IsBare, HasRows}
use Rattle.folder_model.specs.Tables.{StandsForTable}
use Rattle.folder_model.proofs.Inserting.{history_inserted}
use Rattle.table_store.specs.Changing.{Ready, AreFound, IsReadyWith, IsReady, applied, all_applied, deleted_from}

-- what a test keeps, and the rest
bag_parted : {X : Type 0} (p : X → Bool) (xs : List X) → SameBag xs (filter p xs ++ filter (λ x. not (p x)) xs)
bag_parted p [] = bag_refl []
bag_parted {X} p (x ∷ xs) = record { counts = λ q. by q (p x) ((bag_parted p xs).counts q) }
  where
    out : List X
    out = filter (λ y. not (p y)) xs

    by : (q : X → Bool) (b : Bool) → count_by q xs ≡ count_by q (filter p xs ++ out) → count_by q (x ∷ xs) ≡ count_by q (cond b (x ∷ filter p xs) (filter p xs) ++ cond (not b) (x ∷ out) out)
    by q true rest = omega (arith, rest, count_cons q x xs, count_cons q x (filter p xs ++ out))
    by q false rest = omega (arith, rest, count_cons q x xs, count_append q (filter p xs) (x ∷ out), count_cons q x out, count_append q (filter p xs) out)

-- undeleted rows are retained
kept_undeleted : (mark : ℕ) (asked : List Asked) (rest : List Stamped) → retained mark (map (stamped None) asked ++ rest) ≡ map (stamped None) asked ++ retained mark rest
kept_undeleted mark [] rest = refl
kept_undeleted mark (a ∷ asked) rest = ap (λ (ss : List Stamped). stamped None a ∷ ss) (kept_undeleted mark asked rest)

on_undeleted : (columns : List ℕ) (asked : List Asked) (rest : List Stamped)
    → map (on_columns columns) (map (stamped None) asked ++ rest) ≡ map (stamped None) (map (asked_on columns) asked) ++ map (on_columns columns) rest
on_undeleted columns [] rest = refl
on_undeleted columns (a ∷ asked) rest = ap (λ (ss : List Stamped). stamped None (asked_on columns a) ∷ ss) (on_undeleted columns asked rest)

-- Undeleted rows of a table are those of a projection that has its columns.
within_columns : (columns : List ℕ) (mark : ℕ) (stored rows : List Stamped) (asked : List Asked) → SameBag (retained mark stored) (map (on_columns columns) (retained mark rows)) → Within asked rows
    → Within (map (asked_on columns) asked) stored
within_columns columns mark stored rows asked history (rest, bag) =
    let front : List Stamped = map (stamped None) (map (asked_on columns) asked) in
    let behind : List Stamped = map (on_columns columns) (retained mark rest) in
    let gone : List Stamped = filter (λ s. not (is_retained mark s)) stored in
    let kept : SameBag (retained mark rows) (map (stamped None) asked ++ retained mark rest) =
    subst (SameBag (retained mark rows)) (kept_undeleted mark asked rest) (bag_filter (is_retained mark) rows (map (stamped None) asked ++ rest) bag) in
    let mapped : SameBag (map (on_columns columns) (retained mark rows)) (front ++ behind) =
    subst (SameBag (map (on_columns columns) (retained mark rows))) (on_undeleted columns asked (retained mark rest)) (bag_map (on_columns columns) _ _ kept) in
    let here : SameBag (retained mark stored) (front ++ behind) = bag_trans _ _ _ history mapped in
    let whole : SameBag stored ((front ++ behind) ++ gone) = bag_trans _ _ _ (bag_parted (is_retained mark) stored) (bag_append (retained mark stored) gone (front ++ behind) gone here (bag_refl gone)) in
    (behind ++ gone, subst (SameBag stored) (append_assoc front behind gone) whole)

-- ---- one projection

found_has : (m : Contents) (mark epoch : ℕ) (rows : List Stamped) (deletes : List Asked) (p : Projected) (places : Places) → mark < epoch → p.entry.lge < epoch → Within deletes rows
    → IsPrepared m p (map (asked_on (ordinals p.entry)) deletes) places → HasHistory m mark rows p → HasHistory m mark (mark_all epoch deletes rows) (with_marks epoch places p)
found_has m mark epoch rows deletes p places lt later within found has =
    let (now, stores, takes) = prepared_takes m epoch p (map (asked_on (ordinals p.entry)) deletes) places has.stored found has.are (within_columns (ordinals p.entry) mark has.stored rows deletes has.history within) in
    record {
      stored = now;
      are = stores;
      history = taken_alike (ordinals p.entry) mark epoch deletes has.stored now rows (mark_all epoch deletes rows) lt has.history takes (mark_takes epoch deletes rows within);
      above = marks_above p.entry.lge epoch p places has.above later;
    }

none_deleted : (columns : List ℕ) (deletes : List Asked) → map (asked_on columns) deletes ≡ [] → deletes ≡ []
none_deleted columns [] none = refl
none_deleted columns (a ∷ deletes) none = absurd (cc)

deleted_has : (m : Contents) (mark epoch : ℕ) (rows : List Stamped) (deletes : List Asked) (p : Projected) (o : Option Places) → mark < epoch → p.entry.lge < epoch → Within deletes rows
    → AreFound m p (map (asked_on (ordinals p.entry)) deletes) o → HasHistory m mark rows p → HasHistory m mark (mark_all epoch deletes rows) (deleted_from epoch o p)
deleted_has m mark epoch rows deletes p None lt later within found has = subst (λ (ds : List Asked). HasHistory m mark (mark_all epoch ds rows) p) (sym (none_deleted (ordinals p.entry) deletes found)) has
deleted_has m mark epoch rows deletes p (Some places) lt later within found has = found_has m mark epoch rows deletes p places lt later within found has

inserted_has : (m : Contents) (mark epoch : ℕ) (rows : List Stamped) (new : List (List Value)) (p : Projected) (o : Option Places) → p.entry.lge < epoch → HasHistory m mark rows (deleted_from epoch o p)
    → HasHistory m mark (rows ++ map (inserted_at epoch) new) (with_rows (map (inserted_at epoch) (map (λ row. projected row (ordinals p.entry)) new)) (deleted_from epoch o p))
inserted_has m mark epoch rows new p None later has = history_inserted m mark epoch rows new p later has
inserted_has m mark epoch rows new p (Some places) later has = history_inserted m mark epoch rows new (with_marks epoch places p) later has

committed_has : (m : Contents) (mark epoch : ℕ) (rows : List Stamped) (new : List (List Value)) (deletes : List Asked) (p : Projected) (r : Ready) → mark < epoch → p.entry.lge < epoch → Within deletes rows
    → IsReadyWith m new deletes p r → HasHistory m mark rows p → HasHistory m mark (mark_all epoch deletes rows ++ map (inserted_at epoch) new) (applied epoch (Some r) p)
committed_has m mark epoch rows new deletes p r lt later within ready has =
    subst (λ (ss : List (List Value)). HasHistory m mark (mark_all epoch deletes rows ++ map (inserted_at epoch) new) (with_rows (map (inserted_at epoch) ss) (deleted_from epoch r.marks p))) (sym ready.rows_are)
    (inserted_has m mark epoch (mark_all epoch deletes rows) new p r.marks later (deleted_has m mark epoch rows deletes p r.marks lt later within ready.marks_are has))

entry_kept : (epoch : ℕ) (o : Option Ready) (p : Projected) → (applied epoch o p).entry ≡ p.entry
entry_kept epoch None p = refl
entry_kept epoch (Some r) p = by r.marks
  where
    by : (o : Option Places) → (deleted_from epoch o p).entry ≡ p.entry
    by None = refl
    by (Some places) = refl

part_committed : (m : Contents) (mark epoch : ℕ) (rows : List Stamped) (new : List (List Value)) (deletes : List Asked) (p : Projected) (o : Option Ready) → mark < epoch → (p.entry.fresh ≡ true → p.entry.lge < epoch) → Within deletes rows
    → IsReady m new deletes p o → HasRows m mark rows p → HasRows m mark (mark_all epoch deletes rows ++ map (inserted_at epoch) new) (applied epoch o p)
part_committed m mark epoch rows new deletes p o lt later within ready has = by p.entry.fresh refl o ready.fresh ready.stale has.fresh has.stale
  where
    after : List Stamped
    after = mark_all epoch deletes rows ++ map (inserted_at epoch) new

    on : (b : Bool) (P : Type 0) → b ≡ true → P → OnTrue b P
    on true P is p = p
    on false P is p = tt

    off : (b : Bool) (P : Type 0) → b ≡ true → OnFalse b P
    off true P is = tt
    off false P is = absurd (cc)

    nothing : (b : Bool) (P : Type 0) → b ≡ false → OnTrue b P
    nothing true P is = absurd (cc)
    nothing false P is = tt

    also : (b : Bool) (P : Type 0) → b ≡ false → P → OnFalse b P
    also true P is p = tt
    also false P is p = p

    same : (q : Option Ready) → q ≡ None → applied epoch q p ≡ p
    same q is = ap (λ (r : Option Ready). applied epoch r p) is

    now : (r : Ready) → p.entry.fresh ≡ true → (applied epoch (Some r) p).entry.fresh ≡ true
    now r is = ap (λ (e : Projection). e.fresh) (entry_kept epoch (Some r) p) ∙ is

    by : (b : Bool) → p.entry.fresh ≡ b → (q : Option Ready) → OnTrue b (IsSomeAnd q (IsReadyWith m new deletes p)) → OnFalse b (q ≡ None) → OnTrue b (HasHistory m mark rows p) → OnFalse b (IsBare p) → HasRows m mark after (applied epoch q p)
    by true is None there none history bare = absurd there
    by true is (Some r) there none history bare = record {
      fresh = on (applied epoch (Some r) p).entry.fresh (HasHistory m mark after (applied epoch (Some r) p)) (now r is) (committed_has m mark epoch rows new deletes p r lt (later is) within there history);
      stale = off (applied epoch (Some r) p).entry.fresh (IsBare (applied epoch (Some r) p)) (now r is);
    }
    by false is q there none history bare =
        subst (HasRows m mark after) (sym (same q none)) (record { fresh = nothing p.entry.fresh (HasHistory m mark after p) is; stale = also p.entry.fresh (IsBare p) is bare })

-- ---- a table

entries_kept : (m : Contents) (epoch : ℕ) (new : List (List Value)) (deletes : List Asked) (ps : List Projected) (os : List (Option Ready)) → AllZip (IsReady m new deletes) ps os
    → map (λ p. p.entry) (all_applied epoch os ps) ≡ map (λ p. p.entry) ps
entries_kept m epoch new deletes [] [] ready = refl
entries_kept m epoch new deletes [] (o ∷ os) ready = absurd ready
entries_kept m epoch new deletes (p ∷ ps) [] ready = absurd ready
entries_kept m epoch new deletes (p ∷ ps) (o ∷ os) ready = ap₂ (λ (e : Projection) (es : List Projection). e ∷ es) (entry_kept epoch o p) (entries_kept m epoch new deletes ps os ready.1)

parts_committed : (m : Contents) (mark epoch : ℕ) (rows : List Stamped) (new : List (List Value)) (deletes : List Asked) (ps : List Projected) (os : List (Option Ready)) → mark < epoch → All (λ p. p.entry.fresh ≡ true → p.entry.lge < epoch) ps
    → Within deletes rows → AllZip (IsReady m new deletes) ps os → All (HasRows m mark rows) ps → All (HasRows m mark (mark_all epoch deletes rows ++ map (inserted_at epoch) new)) (all_applied epoch os ps)
parts_committed m mark epoch rows new deletes [] [] lt later within ready all = All-nil _
parts_committed m mark epoch rows new deletes [] (o ∷ os) lt later within ready all = absurd ready
parts_committed m mark epoch rows new deletes (p ∷ ps) [] lt later within ready all = absurd ready
parts_committed m mark epoch rows new deletes (p ∷ ps) (o ∷ os) lt later within ready all =
    All-cons (HasRows m mark (mark_all epoch deletes rows ++ map (inserted_at epoch) new)) (applied epoch o p) (all_applied epoch os ps)
    (part_committed m mark epoch rows new deletes p o lt (All-head (λ x. x.entry.fresh ≡ true → x.entry.lge < epoch) p ps later) within ready.0 (All-head (HasRows m mark rows) p ps all))
    (parts_committed m mark epoch rows new deletes ps os lt (All-tail (λ x. x.entry.fresh ≡ true → x.entry.lge < epoch) p ps later) within ready.1 (All-tail (HasRows m mark rows) p ps all))

-- a table and all its projections
pub table_committed : (m : Contents) (mark epoch : ℕ) (t : kept.Table) (ps : List Projected) (u : Table) (new : List (List Value)) (deletes : List Asked) (os : List (Option Ready)) → mark < epoch
    → All (λ p. p.entry.fresh ≡ true → p.entry.lge < epoch) ps → Within deletes u.rows → AllZip (IsReady m new deletes) ps os → StandsForTable m mark t ps u
    → StandsForTable m mark t (all_applied epoch os ps) (record u { rows = mark_all epoch deletes u.rows ++ map (inserted_at epoch) new })
table_committed m mark epoch t ps u new deletes os lt later within ready stands = record {
  name = stands.name;
  columns = stands.columns;
  shapes = stands.shapes;
  entries = entries_kept m epoch new deletes ps os ready ∙ stands.entries;
  rows = parts_committed m mark epoch u.rows new deletes ps os lt later within ready stands.rows;
}
