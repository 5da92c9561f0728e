-- What is ready for each table, done to one table after the other from the last one on, with its pending rows.
use Rattle.std.proofs.Common.{◌≡◌, ℕ, suc, ◌<◌, ◌≤◌, ◌++◌, Bool, true, false, List, [], ◌∷◌, length, map, set, get_or, refl, sym, ◌∙◌, ap, ap₂, subst, arith}
use Rattle.std.specs.Prelude.{Option, bytes_eq}
use Rattle.std.specs.List.{AllZip}
use Rattle.std.specs.Ordering.{is_eq}
use Rattle.std.proofs.lemmas.List.{length-append}
use Rattle.std.proofs.lemmas.Map.Text.{is_eq-slice_cmp}
use Rattle.std.proofs.lemmas.Slice.Eq.{bytes_eq-Decides}
use Rattle.col_value.specs.declared.value.Value.{Value}
use Rattle.catalog_types.specs.declared.catalogue.Table as kept
use Rattle.catalog_types.specs.Lists.{Pairwise}
use Rattle.catalog_types.specs.Names.{IsBelow}
use Rattle.db_model.specs.State.{Changes, pending_rows}
use Rattle.stored_rows.specs.Stored.{Projected}
use Rattle.proj_store.specs.Loaded.{Loaded}
use Rattle.txn_core.specs.Marking.{without_rows}
use Rattle.txn_core.proofs.Taken.{others_pending}
use Rattle.table_store.specs.declared.parts.ReadyTable.{ReadyTable}
use Rattle.table_store.specs.Held.{projections_of}
use Rattle.table_store.specs.Changing.{Ready, CanApply, all_coming, all_applied, tables_applied}
use Rattle.table_store.specs.Committing.{ready_with}
use Rattle.table_store.proofs.Loops.{Fronts, fronts_long, fronts_last, fronts_set, used}

-- what is ready for a table, with its pending rows
abbrev pub of_table : List Changes → kept.Table → ReadyTable → List (Option Ready)
of_table changes t y = all_coming y.taker (pending_rows t.name changes) y.parts

pub ready_last : (changes : List Changes) (ts : List kept.Table) (ys : List ReadyTable) (y : ReadyTable) (t : kept.Table) → t ≡ get_or ts (length ys) t → length ys < length ts
    → ready_with changes ts (ys ++ y ∷ []) ≡ ready_with changes ts ys ++ of_table changes t y ∷ []
ready_last changes [] ys y t is lt = absurd (omega (arith, lt))
ready_last changes (u ∷ ts) [] y t is lt = ap (λ (v : kept.Table). of_table changes v y ∷ []) (sym is)
ready_last changes (u ∷ ts) (z ∷ ys) y t is lt = ap (λ (oss : List (List (Option Ready))). of_table changes u z ∷ oss) (ready_last changes ts ys y t is (omega (arith, lt)))

ready_long : (changes : List Changes) (ts : List kept.Table) (ys : List ReadyTable) → length ys ≤ length ts → length (ready_with changes ts ys) ≡ length ys
ready_long changes ts [] le = refl
ready_long changes [] (y ∷ ys) le = absurd (omega (arith, le))
ready_long changes (u ∷ ts) (y ∷ ys) le = ap suc (ready_long changes ts ys (omega (arith, le)))

-- a name that stands above another one is not that
above_differs : (m n : List ℕ) → IsBelow m n → bytes_eq n m ≡ false
above_differs m n below = by (bytes_eq n m) refl
  where
    apart : bytes_eq m n ≡ false
    apart = sym (is_eq-slice_cmp m n) ∙ ap is_eq below

    by : (b : Bool) → bytes_eq n m ≡ b → b ≡ false
    by true is =
        let yes : bytes_eq m n ≡ true = (bytes_eq-Decides m n).1 (sym ((bytes_eq-Decides n m).0 is)) in
        let no_such : bytes_eq m n ≡ false = apart in
        absurd (cc)
    by false is = refl

-- the rows that the table behind some takes are none of theirs
ready_still : (changes : List Changes) (ts : List kept.Table) (ys : List ReadyTable) (t : kept.Table) → t ≡ get_or ts (length ys) t → length ys < length ts → Pairwise (λ u v. IsBelow u.name v.name) ts
    → ready_with (without_rows t.name changes) ts ys ≡ ready_with changes ts ys
ready_still changes ts [] t is lt apart = refl
ready_still changes [] (y ∷ ys) t is lt apart = absurd (omega (arith, lt))
ready_still changes (u ∷ ts) (y ∷ ys) t is lt apart =
    let less : length ys < length ts = omega (arith, lt) in
    let below : IsBelow u.name t.name = subst (λ (v : kept.Table). IsBelow u.name v.name) (sym is) (apart.0 (length ys) t less) in
    ap₂ (λ (os : List (Option Ready)) (oss : List (List (Option Ready))). os ∷ oss)
    (ap (λ (rows : List (List Value)). all_coming y.taker rows y.parts) (others_pending t.name u.name changes (above_differs u.name t.name below)))
    (ready_still changes ts ys t is less apart.1)

pub shorter : {Y : Type 0} (zs ys : List Y) (y : Y) (n : ℕ) → zs ≡ ys ++ y ∷ [] → length zs ≤ n → length ys < n
shorter {Y} zs ys y n is le = let long : length zs ≡ length (ys ++ y ∷ []) = ap (λ (xs : List Y). length xs) is in omega (arith, long, le, length-append ys (y ∷ []))

-- The tables xs, with what is ready for them in zs, of which y at place i comes last; t is the entry of its table.
pub record IsLast (changes : List Changes) (ts : List kept.Table) (xs : List (List Loaded)) (zs ys : List ReadyTable) (y : ReadyTable) (i : ℕ) (t : kept.Table) : Type 0 where
  pub items : zs ≡ ys ++ y ∷ []
  pub at : i ≡ length ys
  pub entry : t ≡ get_or ts i t
  pub short : length zs ≤ length ts
  pub room : Fronts (AllZip CanApply) (ready_with changes ts zs) xs

module _ (changes : List Changes) (ts : List kept.Table) (xs : List (List Loaded)) (zs ys : List ReadyTable) (y : ReadyTable) (i : ℕ) (t : kept.Table) (last : IsLast changes ts xs zs ys y i t) where
  abbrev pub front : List (List (Option Ready))
  front = ready_with changes ts ys

  less : length ys < length ts
  less = shorter zs ys y (length ts) last.items last.short

  entry_is : t ≡ get_or ts (length ys) t
  entry_is = last.entry ∙ ap (λ (n : ℕ). get_or ts n t) last.at

  split : ready_with changes ts zs ≡ front ++ of_table changes t y ∷ []
  split = ap (ready_with changes ts) last.items ∙ ready_last changes ts ys y t entry_is less

  place : i ≡ length front
  place = last.at ∙ sym (ready_long changes ts ys (omega (arith, less)))

  room : Fronts (AllZip CanApply) (front ++ of_table changes t y ∷ []) xs
  room = subst (λ (oss : List (List (Option Ready))). Fronts (AllZip CanApply) oss xs) split last.room

  pub last_below : i < length xs
  last_below = omega (arith, place, fronts_long (AllZip CanApply) front (of_table changes t y) xs room)

  pub last_fits : (old : List Loaded) → old ≡ get_or xs i old → AllZip CanApply (of_table changes t y) old
  last_fits old is = fronts_last (AllZip CanApply) front (of_table changes t y) xs old (is ∙ ap (λ (n : ℕ). get_or xs n old) place) room

  pub front_left : (left : List Changes) → left ≡ without_rows t.name changes → Pairwise (λ u v. IsBelow u.name v.name) ts → front ≡ ready_with left ts ys
  front_left left is apart = sym (ap (λ (cs : List Changes). ready_with cs ts ys) is ∙ ready_still changes ts ys t entry_is less apart)

  pub front_fits : (new : List Loaded) → Fronts (AllZip CanApply) front (set xs i new)
  front_fits new = subst (λ (n : ℕ). Fronts (AllZip CanApply) front (set xs n new)) (sym place) (fronts_set (AllZip CanApply) front (of_table changes t y) xs new room)

  pub front_used : (epoch : ℕ) (old new : List Loaded) (whole : List (List Projected)) → old ≡ get_or xs i old → projections_of new ≡ all_applied epoch (of_table changes t y) (projections_of old)
      → tables_applied epoch (ready_with changes ts zs) (map projections_of xs) ≡ whole → tables_applied epoch front (map projections_of (set xs i new)) ≡ whole
  front_used epoch old new whole is one was =
      subst (λ (n : ℕ). tables_applied epoch front (map projections_of (set xs n new)) ≡ whole) (sym place)
      (used projections_of (all_applied epoch) front (of_table changes t y) xs old new whole (fronts_long (AllZip CanApply) front (of_table changes t y) xs room) (is ∙ ap (λ (n : ℕ). get_or xs n old) place) one
      (sym (ap (λ (oss : List (List (Option Ready))). tables_applied epoch oss (map projections_of xs)) split) ∙ was))
