-- What is ready for a projection, and for each table, made one table after the other.
use Rattle.std.proofs.Common.{◌≡◌, ℕ, ◌+◌, ◌<◌, ◌≤◌, ◌++◌, Bool, true, false, List, [], ◌∷◌, cond, length, map, take, get_or, refl, sym, ◌∙◌, ap, subst, arith}
use Rattle.std.specs.Prelude.{Option, Some, None, bytes_eq}
use Rattle.std.specs.Option.{option_map_or}
use Rattle.std.specs.List.{AllZip}
use Rattle.std.proofs.lemmas.Bool.{OnTrue_from, OnFalse_from}
use Rattle.std.proofs.lemmas.List.{take_more, take_all, get_or-map, length-map}
use Rattle.common_laws.specs.Maps.{Contents}
use Rattle.col_value.specs.declared.value.Value.{Value}
use Rattle.col_value.specs.Order.{projected}
use Rattle.col_value.specs.declared.row.Asked.{Asked}
use Rattle.row_history.specs.History.{asked_on}
use Rattle.catalog_types.specs.declared.catalogue.Table as kept
use Rattle.db_model.specs.State.{Changes, pending_rows, pending_deletes}
use Rattle.db_model.specs.Locks.{changes_on}
use Rattle.stored_rows.specs.Stored.{Projected}
use Rattle.folder_model.specs.Projections.{ordinals}
use Rattle.table_store.specs.Changing.{Ready, IsReady, IsReadyWith, AreFound}
use Rattle.table_store.specs.Committing.{AreReady}

-- ---- a projection

pub part_ready : (m : Contents) (rows : List (List Value)) (deletes : List Asked) (p q : Projected) (r : Ready) → p.entry.fresh ≡ true → q ≡ p → r.rows ≡ map (λ row. projected row (ordinals q.entry)) rows
    → AreFound m p (map (asked_on (ordinals p.entry)) deletes) r.marks → IsReady m rows deletes p (Some r)
part_ready m rows deletes p q r fresh same come found = record {
  fresh = OnTrue_from p.entry.fresh (IsReadyWith m rows deletes p r) (λ is. record { rows_are = come ∙ ap (λ (x : Projected). map (λ row. projected row (ordinals x.entry)) rows) same; marks_are = found });
  stale = OnFalse_from p.entry.fresh (Some r ≡ None) (λ is. absurd (cc));
}

-- ---- what is pending in a table

abbrev pub deletes_in : Option Changes → List Asked
deletes_in o = option_map_or (λ c. c.deletes) o []

pub deletes_on : (name : List ℕ) (changes : List Changes) → deletes_in (changes_on name changes) ≡ pending_deletes name changes
deletes_on name [] = refl
deletes_on name (c ∷ changes) = by (bytes_eq c.table name) (deletes_on name changes)
  where
    by : (b : Bool) → deletes_in (changes_on name changes) ≡ pending_deletes name changes → deletes_in (cond b (Some c) (changes_on name changes)) ≡ cond b c.deletes (pending_deletes name changes)
    by true rest = refl
    by false rest = rest

-- ---- one table more

ready_push : (m : Contents) (changes : List Changes) (ts : List kept.Table) (pss : List (List Projected)) (made : List (List (Option Ready))) (t : kept.Table) (ps : List Projected) (os : List (Option Ready))
    → AreReady m changes ts pss made → AllZip (IsReady m (pending_rows t.name changes) (pending_deletes t.name changes)) ps os → AreReady m changes (ts ++ t ∷ []) (pss ++ ps ∷ []) (made ++ os ∷ [])
ready_push m changes [] [] [] t ps os ready one = (one, tt)
ready_push m changes [] [] (o ∷ made) t ps os ready one = absurd ready
ready_push m changes [] (qs ∷ pss) made t ps os ready one = absurd ready
ready_push m changes (s ∷ ts) [] made t ps os ready one = absurd ready
ready_push m changes (s ∷ ts) (qs ∷ pss) [] t ps os ready one = absurd ready
ready_push m changes (s ∷ ts) (qs ∷ pss) (o ∷ made) t ps os (here, more) one = (here, ready_push m changes ts pss made t ps os more one)

pub ready_more : {X : Type 0} (m : Contents) (changes : List Changes) (f : X → List Projected) (ts : List kept.Table) (old : List X) (i : ℕ) (t : kept.Table) (x : X) (made : List (List (Option Ready))) (os : List (Option Ready))
    → i < length ts → i < length old → t ≡ get_or ts i t → x ≡ get_or old i x → AreReady m changes (take i ts) (take i (map f old)) made
    → AllZip (IsReady m (pending_rows t.name changes) (pending_deletes t.name changes)) (f x) os → AreReady m changes (take (i + 1) ts) (take (i + 1) (map f old)) (made ++ os ∷ [])
ready_more {X} m changes f ts old i t x made os lt also t_is x_is ready one =
    let ts_next : take (i + 1) ts ≡ take i ts ++ t ∷ [] = take_more ts i t lt ∙ ap (λ (y : kept.Table). take i ts ++ y ∷ []) (sym t_is) in
    let there : get_or (map f old) i (f x) ≡ f x = get_or-map f old i x (f x) also ∙ ap f (sym x_is) in
    let next : take (i + 1) (map f old) ≡ take i (map f old) ++ f x ∷ [] = take_more (map f old) i (f x) (omega (arith, also, length-map old f)) ∙ ap (λ (p : List Projected). take i (map f old) ++ p ∷ []) there in
    subst (λ (ss : List kept.Table). AreReady m changes ss (take (i + 1) (map f old)) (made ++ os ∷ [])) (sym ts_next)
    (subst (λ (ps : List (List Projected)). AreReady m changes (take i ts ++ t ∷ []) ps (made ++ os ∷ [])) (sym next)
    (ready_push m changes (take i ts) (take i (map f old)) made t (f x) os ready one))

pub all_ready : (m : Contents) (changes : List Changes) (ts : List kept.Table) (pss : List (List Projected)) (made : List (List (Option Ready))) (i : ℕ) → length ts ≤ i → length pss ≤ i
    → AreReady m changes (take i ts) (take i pss) made → AreReady m changes ts pss made
all_ready m changes ts pss made i past also ready =
    subst (λ (ss : List kept.Table). AreReady m changes ss pss made) (take_all i ts past) (subst (λ (ps : List (List Projected)). AreReady m changes (take i ts) ps made) (take_all i pss also) ready)
