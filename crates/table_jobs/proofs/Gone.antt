-- Whether a projection at a place has rows that are to be purged.
use Rattle.std.proofs.Common.{◌≡◌, ◌<◌, ◌≤◌, ℕ, Bool, false, List, length, map, get_or, refl, sym, ◌∙◌, ap, subst, arith}
use Rattle.std.specs.Prelude.{◌↔◌, Option, Some, None, IfSome, IsFalse}
use Rattle.std.specs.Option.{option_map}
use Rattle.std.specs.List.{slice_get}
use Rattle.std.proofs.lemmas.List.{length-map}
use Rattle.std.proofs.lemmas.Option.{slice_get-get_or, slice_get-map, slice_get_past}
use Rattle.stored_rows.specs.Stored.{Projected}
use Rattle.proj_store.specs.Loaded.{Loaded}
use Rattle.purge_job.specs.Purging.{IsKeptWhole}
use Rattle.table_store.specs.Held.{projections_of}
use Rattle.table_jobs.specs.Purged.{IsKeptWholeAt, IsKeptWholeIn}

-- ---- in a table

pub no_place : (mark j : ℕ) (ps : List Loaded) → length ps ≤ j → IsFalse false ↔ IsKeptWholeIn mark j (projections_of ps)
no_place mark j ps past = ((λ no_one. subst (λ (o : Option Projected). IfSome o (IsKeptWhole mark)) (sym none) tt), (λ whole. refl))
  where
    none : slice_get (projections_of ps) j ≡ None
    none = slice_get_past (projections_of ps) j (omega (arith, past, length-map ps (λ (x : Loaded). x.stored)))

pub whole_in : (mark j : ℕ) (ps : List Loaded) (p : Loaded) (answer : Bool) → j < length ps → p ≡ get_or ps j p → IsFalse answer ↔ IsKeptWhole mark p.stored → IsFalse answer ↔ IsKeptWholeIn mark j (projections_of ps)
whole_in mark j ps p answer below is both = (
  (λ no_one. subst (λ (o : Option Projected). IfSome o (IsKeptWhole mark)) (sym here) (both.0 no_one)),
  (λ whole. both.1 (subst (λ (o : Option Projected). IfSome o (IsKeptWhole mark)) here whole)),
)
  where
    here : slice_get (projections_of ps) j ≡ Some p.stored
    here = slice_get-map (λ (x : Loaded). x.stored) ps j ∙ ap (option_map (λ (x : Loaded). x.stored)) (slice_get-get_or ps j p below ∙ ap (λ (x : Loaded). Some x) (sym is))

-- ---- in a store

pub no_table : (mark i j : ℕ) (ts : List (List Loaded)) (stores : List (List Projected)) → map projections_of ts ≡ stores → length ts ≤ i → IsFalse false ↔ IsKeptWholeAt mark i j stores
no_table mark i j ts stores are past = ((λ no_one. subst (λ (o : Option (List Projected)). IfSome o (IsKeptWholeIn mark j)) (sym none) tt), (λ whole. refl))
  where
    none : slice_get stores i ≡ None
    none = subst (λ (ss : List (List Projected)). slice_get ss i ≡ None) are (slice_get_past (map projections_of ts) i (omega (arith, past, length-map ts projections_of)))

pub whole_at : (mark i j : ℕ) (ts : List (List Loaded)) (stores : List (List Projected)) (ps qs : List Loaded) (answer : Bool) → map projections_of ts ≡ stores → i < length ts → ps ≡ get_or ts i ps → qs ≡ ps → IsFalse answer ↔ IsKeptWholeIn mark j (projections_of qs)
    → IsFalse answer ↔ IsKeptWholeAt mark i j stores
whole_at mark i j ts stores ps qs answer are lt is same both = (
  (λ no_one. subst (λ (o : Option (List Projected)). IfSome o (IsKeptWholeIn mark j)) (sym here) (both.0 no_one)),
  (λ whole. both.1 (subst (λ (o : Option (List Projected)). IfSome o (IsKeptWholeIn mark j)) here whole)),
)
  where
    one : slice_get ts i ≡ Some qs
    one = slice_get-get_or ts i ps lt ∙ ap (λ (xs : List Loaded). Some xs) (sym is ∙ sym same)

    here : slice_get stores i ≡ Some (projections_of qs)
    here = subst (λ (ss : List (List Projected)). slice_get ss i ≡ Some (projections_of qs)) are (slice_get-map projections_of ts i ∙ ap (option_map projections_of) one)
