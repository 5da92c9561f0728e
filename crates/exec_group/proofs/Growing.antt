-- What is held of the groups at first, and at the end.
use Rattle.std.proofs.Common.{◌≡◌, ℕ, ◌+◌, ◌<◌, ◌≤◌, ◌==◌, ◌++◌, true, List, [], ◌∷◌, length, get_or, map, take, refl, sym, ap, ap₂, ◌∙◌, arith, subst, zero, suc}
use Rattle.std.proofs.lemmas.Bool.Decides.{nat_tests}
use Rattle.std.proofs.lemmas.List.{get_or-map, get_or_default, length-map, map-append, take_all, take_more}
use Rattle.std.proofs.lemmas.List.Elements.{All-contains, All-head, All-push, All-tail}
use Rattle.std.specs.List.{All, Contains}
use Rattle.col_value.specs.declared.value.Value.{Value}
use Rattle.col_value.specs.declared.wide.Wide.{Wide}
use Rattle.sql_bound.specs.declared.query.Aggregate.{Aggregate}
use Rattle.sql_bound.specs.declared.query.BoundQuery.{BoundQuery}
use Rattle.sql_bound.specs.Outputs.{aggregate_over, group_keys, members, IsGreatSum}
use Rattle.exec_group.specs.Accumulators.{accumulated, accumulated_over, worth_or_null}
use Rattle.exec_group.specs.Columns.{padded}
use Rattle.exec_group.specs.Groups.{AreGroups, DoneGroups, FitsAt, HasGreatSum, Held, HoldsGroups, IsGreatAt, kept_at, kept_in, one_group, worths_at, worths_upto}
use Rattle.exec_group.specs.declared.accumulator.Accumulator.{Accumulator}
use Rattle.exec_group.specs.declared.accumulator.Accumulator.TheVariants as accumulator
use Rattle.exec_group.specs.declared.accumulator.Accumulator.TheVariants.{TooGreat}
use Rattle.exec_group.proofs.Together.{Column}
use Rattle.exec_group.proofs.Entering.{Groups}
use Rattle.exec_group.proofs.More.{great_over, is_great, no_values, worth_over}

pub empty_list : (ks : List ℕ) → (length ks == 0) ≡ true → ks ≡ []
empty_list [] e = refl
empty_list (k ∷ ks) e = grind (arith, nat_tests)

no_groups : (keys : List ℕ) → (keys ≡ [] → ⊥) → group_keys keys [] ≡ []
no_groups [] some = absurd (some refl)
no_groups (k ∷ ks) some = refl

none_kept : (keys : List ℕ) (aggs : List Aggregate) → map (λ a. padded 0 (accumulated a.kind 0 []) []) aggs ≡ map (kept_in keys [] []) aggs
none_kept keys [] = refl
none_kept keys (a ∷ aggs) = ap (λ (cs : List Column). [] ∷ cs) (none_kept keys aggs)

pub none_held : (q : BoundQuery) → (q.keys ≡ [] → ⊥) → HoldsGroups q [] (record { keys = []; columns = map (λ a. padded 0 (accumulated a.kind 0 []) []) q.aggs })
none_held q some = record {
  keys = sym (no_groups q.keys some);
  columns = none_kept q.keys q.aggs ∙ ap (λ (ks : Groups). map (kept_in q.keys [] ks) q.aggs) (sym (no_groups q.keys some));
}

one_kept : (keys : List ℕ) (aggs : List Aggregate) → map (λ a. accumulated a.kind 0 [] ∷ []) aggs ≡ map (kept_in keys [] ([] ∷ [])) aggs
one_kept keys [] = refl
one_kept keys (a ∷ aggs) =
    ap₂ (λ (x : Accumulator) (cs : List Column). (x ∷ []) ∷ cs) (ap (accumulated a.kind 0) (sym (no_values a.arg))) (one_kept keys aggs)

pub one_held : (q : BoundQuery) → q.keys ≡ [] → HoldsGroups q [] (one_group q.aggs)
one_held q none =
    let keys : group_keys q.keys [] ≡ [] ∷ [] = ap (λ (ks : List ℕ). group_keys ks []) none in record {
      keys = sym keys;
      columns = one_kept q.keys q.aggs ∙ ap (λ (ks : Groups). map (kept_in q.keys [] ks) q.aggs) (sym keys);
    }

module _ (q : BoundQuery) (rows : Groups) (groups : Groups) where
  abbrev columns_of : List Aggregate → List Column
  columns_of aggs = map (kept_in q.keys rows groups) aggs

  abbrev mine : ℕ → Groups
  mine g = members q.keys (get_or groups g []) rows

  kept_there : (a : Aggregate) (g : ℕ) → g < length groups → kept_at (kept_in q.keys rows groups a) g ≡ accumulated_over (mine g) a
  kept_there a g inside = get_or-map (λ group. accumulated_over (members q.keys group rows) a) groups g [] (kept_at [] g) inside

  worths_there : (g : ℕ) → g < length groups → (aggs : List Aggregate) → FitsAt (columns_of aggs) g → worths_at (columns_of aggs) g ≡ map (aggregate_over (mine g)) aggs
  worths_there g inside [] fits = refl
  worths_there g inside (a ∷ aggs) fits =
      let is = kept_there a g inside in
      let fits_here : accumulated_over (mine g) a ≡ TooGreat → ⊥ = λ e. All-head (λ c. kept_at c g ≡ TooGreat → ⊥) (kept_in q.keys rows groups a) (columns_of aggs) fits (is ∙ e) in
      ap₂ (λ (w : Wide) (ws : List Wide). w ∷ ws) (ap worth_or_null is ∙ worth_over (mine g) a fits_here)
      (worths_there g inside aggs (All-tail (λ c. kept_at c g ≡ TooGreat → ⊥) (kept_in q.keys rows groups a) (columns_of aggs) fits))

  abbrev done : List Aggregate → List Value → List Wide
  done aggs group = map (aggregate_over (members q.keys group rows)) aggs

  worths_first : (aggs : List Aggregate) (n : ℕ) → n ≤ length groups → ((g : ℕ) → g < n → FitsAt (columns_of aggs) g) → worths_upto (columns_of aggs) n ≡ map (done aggs) (take n groups)
  worths_first aggs zero h fits = refl
  worths_first aggs (suc n) h fits =
      let inside : n < length groups = omega (arith, h) in
      let next : suc n ≡ n + 1 = omega arith in
      ap₂ (λ (ws : List (List Wide)) (w : List Wide). ws ++ w ∷ []) (worths_first aggs n (omega (arith, h)) (λ g l. fits g (omega (arith, l)))) (worths_there n inside aggs (fits n (omega arith)))
      ∙ sym (map-append (done aggs) (take n groups) (get_or groups n [] ∷ []))
      ∙ ap (map (done aggs)) (sym (ap (λ (k : ℕ). take k groups) next ∙ take_more groups n [] inside))

  great_there : (g : ℕ) → g < length groups → (aggs : List Aggregate) (j : ℕ) (c : Column) → j < length (columns_of aggs) → kept_at (get_or (columns_of aggs) j c) g ≡ TooGreat → (a : Aggregate) × Contains aggs a × IsGreatSum (mine g) a
  great_there g inside [] j c h e = absurd (omega (arith, h))
  great_there g inside (a ∷ aggs) zero c h e = (a, (0, omega arith, refl), great_over (mine g) a (sym (kept_there a g inside) ∙ e))
  great_there g inside (a ∷ aggs) (suc j) c h e = let (b, (k, below, is), great) = great_there g inside aggs j c (omega (arith, h)) e in (b, (suc k, omega (arith, below), is), great)

-- what holds of each of the mapped items holds of each item
all_mapped : {X Y : Type 0} (f : X → Y) (P : Y → Type 0) (xs : List X) (y : Y) → All P (map f xs) → All (λ x. P (f x)) xs
all_mapped f P xs y all = λ k d h. subst P (get_or-map f xs k d y h) (all k y (subst (λ n. k < n) (sym (length-map xs f)) h))

module _ (q : BoundQuery) (rows : Groups) (h : Held) (held : HoldsGroups q rows h) where
  abbrev found : Groups
  found = group_keys q.keys rows

  pub groups_done : (g : DoneGroups) → g.keys ≡ h.keys → g.aggs ≡ worths_upto h.columns (length h.keys) → ((i : ℕ) → i < length h.keys → FitsAt h.columns i) → AreGroups q rows g
  groups_done g keys aggs fits = record {
    keys = keys ∙ held.keys;
    aggs =
        aggs ∙ ap₂ (λ (cs : List Column) (ks : Groups). worths_upto cs (length ks)) held.columns held.keys
        ∙ worths_first q rows found q.aggs (length found) (omega arith) (λ i l. subst (λ (cs : List Column). FitsAt cs i) held.columns (fits i (subst (λ (ks : Groups). i < length ks) (sym held.keys) l)))
        ∙ ap (map (done q rows found q.aggs)) (take_all (length found) found (omega arith));
  }

  pub none_great : ((i : ℕ) → i < length h.keys → FitsAt h.columns i) → HasGreatSum q rows → ⊥
  none_great fits (group, a, (i, inside, is), there, great) =
      let here : FitsAt (map (kept_in q.keys rows found) q.aggs) i = subst (λ (cs : List Column). FitsAt cs i) held.columns (fits i (subst (λ (ks : Groups). i < length ks) (sym held.keys) inside)) in
      let aggs = all_mapped (kept_in q.keys rows found) (λ c. kept_at c i ≡ TooGreat → ⊥) q.aggs [] here in
      let same : get_or found i [] ≡ group = get_or_default found i [] group inside ∙ is in
      All-contains (λ x. kept_at (kept_in q.keys rows found x) i ≡ TooGreat → ⊥) q.aggs a aggs there
      (kept_there q rows found a i inside ∙ ap (λ (k : List Value). accumulated_over (members q.keys k rows) a) same ∙ is_great (members q.keys group rows) a great)

  pub some_great : (g : ℕ) → g < length h.keys → IsGreatAt h.columns g → HasGreatSum q rows
  some_great g below (column, (j, within, is), great) =
      let inside : g < length found = subst (λ (ks : Groups). g < length ks) held.keys below in
      let columns = map (kept_in q.keys rows found) q.aggs in
      let at : get_or columns j column ≡ column = ap (λ (cs : List Column). get_or cs j column) (sym held.columns) ∙ is in
      let (a, there, big) = great_there q rows found g inside q.aggs j column (subst (λ (cs : List Column). j < length cs) held.columns within) (ap (λ (c : Column). kept_at c g) at ∙ great) in
      (get_or found g [], a, (g, inside, get_or_default found g (get_or found g []) [] inside), there, big)

-- the value of the next aggregate in a group
pub worths_next : (columns : List Column) (i g : ℕ) (before after : List Wide) → i < length columns → after ≡ before ++ worth_or_null (kept_at (get_or columns i []) g) ∷ [] → before ≡ worths_at (take i columns) g → after ≡ worths_at (take (i + 1) columns) g
worths_next columns i g before after inside is so_far =
    is ∙ ap (λ (ws : List Wide). ws ++ worth_or_null (kept_at (get_or columns i []) g) ∷ []) so_far
    ∙ sym (map-append (λ c. worth_or_null (kept_at c g)) (take i columns) (get_or columns i [] ∷ []))
    ∙ ap (λ (cs : List Column). worths_at cs g) (sym (take_more columns i [] inside))

pub fits_next : (columns : List Column) (i g : ℕ) → i < length columns → (kept_at (get_or columns i []) g ≡ TooGreat → ⊥) → FitsAt (take i columns) g → FitsAt (take (i + 1) columns) g
fits_next columns i g inside fits so_far =
    subst (λ (cs : List Column). FitsAt cs g) (sym (take_more columns i [] inside)) (All-push (λ c. kept_at c g ≡ TooGreat → ⊥) (take i columns) (get_or columns i []) so_far fits)
