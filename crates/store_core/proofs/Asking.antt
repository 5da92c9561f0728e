-- A query over a running store.
use Rattle.std.proofs.Common.{◌≡◌, ◌≤◌, ℕ, Bool, true, false, cond, List, [], ◌∷◌, refl, sym, ◌∙◌, ap, subst, map, arith}
use Rattle.std.specs.Prelude.{nat_lt, Option, Some, None, slice_get}
use Rattle.std.specs.List.Sorted.{IsPermutation}
use Rattle.std.specs.Option.{option_map_or}
use Rattle.std.proofs.lemmas.List.Sorted.{IsPermutation-refl, IsPermutation-sym, IsPermutation-trans}
use Rattle.common_laws.proofs.BagLaws.{bag_map, bag_refl}
use Rattle.col_value.specs.declared.row.Asked.{Asked}
use Rattle.row_history.specs.History.{visible}
use Rattle.query_laws.specs.Laws.{ArePermuted}
use Rattle.query_laws.proofs.AnyOrder.{output_permuted}
use Rattle.query_laws.proofs.Great.{fails_the_same}
use Rattle.sql_bound.specs.declared.query.FromItem.{FromItem}
use Rattle.std.proofs.lemmas.Bool.Decides.{nat_tests}
use Rattle.col_disk.specs.declared.disk.Disk.{Ghosts}
use Rattle.col_value.specs.declared.value.Value.{Value}
use Rattle.col_value.specs.declared.wide.Wide.{Wide}
use Rattle.sql_tree.specs.declared.query.At.{At}
use Rattle.sql_tree.specs.declared.query.Query.{Query}
use Rattle.sql_tree.specs.declared.refusal.Refusal.{Refusal}
use Rattle.sql_bound.specs.declared.query.BoundQuery.{BoundQuery}
use Rattle.sql_bound.specs.Outputs.{output, IsSumTooGreat}
use Rattle.sql_bound.specs.Printed.{IsPrinted}
use Rattle.sql_binding.specs.Queries.{columns_of, over_groups, over_rows}
use Rattle.sql_binding.specs.Sight.{sight}
use Rattle.sql_binding.specs.Uses.{is_grouped}
use Rattle.col_value.specs.declared.column.Column.{Column}
use Rattle.db_model.specs.Database.{Database, Table}
use Rattle.db_model.specs.State.{State, Changes, own_changes, pending_deletes, pending_rows}
use Rattle.db_model.specs.Views.{bound_in, inputs, source_tables}
use Rattle.db_model.specs.Refusing.{epoch_refusal}
use Rattle.db_model.specs.Printing.{IsListing}
use Rattle.db_model.specs.Sound.{IsSoundSession}
use Rattle.state_laws.proofs.Events.{own_is_sound}
use Rattle.alike_laws.proofs.Changes.{Alike, changes_turned, deletes_alike, pending_alike}
use Rattle.alike_laws.proofs.Permutes.{seen_permuted}
use Rattle.alike_laws.proofs.Sound.{session_alike}
use Rattle.store_query.specs.Reading.{item_rows, rows_of, source_rows, AreOver, IsKeptEpoch, CanRead}
use Rattle.store_core.specs.Running.{Running, IsState}
use Rattle.store_core.specs.Sessions.{own_of}
use Rattle.store_core.specs.Asking.{IsAsked}
use Rattle.store_core.proofs.Sessions.{own_alike}

-- ---- the epoch

not_below : (n m : ℕ) → nat_lt n m ≡ false → m ≤ n
not_below n m is = grind (arith, nat_tests)

pub epoch_kept : (d : Database) (at : At) → epoch_refusal d.ahm d.last at ≡ None → IsKeptEpoch d at
epoch_kept d At.View is = tt
epoch_kept d At.Latest is = tt
epoch_kept d (At.Epoch n) is = old (nat_lt n d.ahm) refl is
  where
    young : (b : Bool) → nat_lt d.last n ≡ b → cond b (Some (Refusal.EpochInFuture n d.last)) None ≡ None → n ≤ d.last
    young true is refused = absurd (cc)
    young false is none = not_below d.last n is

    old : (b : Bool) → nat_lt n d.ahm ≡ b → cond b (Some (Refusal.EpochTooOld n d.ahm)) (cond (nat_lt d.last n) (Some (Refusal.EpochInFuture n d.last)) None) ≡ None → (d.ahm ≤ n) × (n ≤ d.last)
    old true is refused = absurd (cc)
    old false is rest = (not_below n d.ahm is, young (nat_lt d.last n) refl rest)

-- ---- what is read

pub can_read : {D : Type 0} (disk : Ghosts D) (r : Running) (now : D) (state : State) (at : At) (q : Query) (b : BoundQuery) (changes : List Changes) → changes ≡ own_of r → AreOver 0 state.database.tables (bound_in state q).sources → IsState disk r now state → IsAsked state at q b
    → CanRead disk r.seen now changes at b state.database
can_read disk r now state at q b changes own over here asked = record {
  stands = here.database;
  over = subst (λ (t : BoundQuery). AreOver 0 state.database.tables t.sources) (sym asked.tree) over;
  epoch = epoch_kept state.database at asked.epoch;
  session =
      subst (IsSoundSession state.database) (sym own)
      (session_alike state.database (own_changes state) (own_of r) (changes_turned (own_of r) (own_changes state) (own_alike disk r now state here)) (own_is_sound state here.sound));
}

-- the rows of a FROM item, for a session and for one whose changes are alike
table_permuted : (at : At) (d : Database) (cs es : List Changes) (t : Table) → Alike cs es → IsPermutation (rows_of at d cs t) (rows_of at d es t)
table_permuted At.View d cs es t alike =
    let gone : List Changes → List (List Value) = λ changes. map (λ a. a.row) (pending_deletes t.name changes) in
    seen_permuted (gone cs) (gone es) (visible d.last t.rows) (visible d.last t.rows) (pending_rows t.name cs) (pending_rows t.name es)
    (bag_map (λ (a : Asked). a.row) (pending_deletes t.name cs) (pending_deletes t.name es) (deletes_alike t.name cs es alike)) (bag_refl (visible d.last t.rows)) (pending_alike t.name cs es alike)
table_permuted At.Latest d cs es t alike = IsPermutation-refl (visible d.last t.rows)
table_permuted (At.Epoch n) d cs es t alike = IsPermutation-refl (visible n t.rows)

item_permuted : (at : At) (d : Database) (cs es : List Changes) (o : Option Table) → Alike cs es → IsPermutation (option_map_or (rows_of at d cs) o []) (option_map_or (rows_of at d es) o [])
item_permuted at d cs es None alike = IsPermutation-refl []
item_permuted at d cs es (Some t) alike = table_permuted at d cs es t alike

items_permuted : (at : At) (d : Database) (cs es : List Changes) (fs : List FromItem) → Alike cs es → ArePermuted (map (item_rows at d cs) fs) (map (item_rows at d es) fs)
items_permuted at d cs es [] alike = tt
items_permuted at d cs es (f ∷ fs) alike = (item_permuted at d cs es (slice_get d.tables f.table) alike, items_permuted at d cs es fs alike)

pub rows_same : {D : Type 0} (disk : Ghosts D) (r : Running) (now : D) (state : State) (at : At) (q : Query) (b : BoundQuery) (changes : List Changes) → changes ≡ own_of r → source_rows at state.database (own_changes state) (bound_in state q) ≡ inputs at state q → IsState disk r now state → IsAsked state at q b
    → ArePermuted (source_rows at state.database changes b) (inputs at state q)
rows_same disk r now state at q b changes own rows here asked =
    subst (ArePermuted (source_rows at state.database changes b)) (ap (λ (t : BoundQuery). source_rows at state.database (own_changes state) t) asked.tree ∙ rows)
    (items_permuted at state.database changes (own_changes state) b.sources (subst (λ (cs : List Changes). Alike cs (own_changes state)) (sym own) (own_alike disk r now state here)))

either_limit : (b : Bool) (x y : BoundQuery) (l : Option ℕ) → x.limit ≡ l → y.limit ≡ l → (cond b x y).limit ≡ l
either_limit true x y l one other = one
either_limit false x y l one other = other

abbrev placed_columns : State → Query → List (ℕ × List Column)
placed_columns state q = map (λ e. (e.0, e.1.columns)) (source_tables state.database.tables q)

limit_is : (state : State) (q : Query) → (bound_in state q).limit ≡ q.limit
limit_is state q =
    let seen = sight q.sources (columns_of (placed_columns state q)) in
    either_limit (is_grouped q) (over_groups (placed_columns state q) seen q) (over_rows (placed_columns state q) seen q) q.limit refl refl

-- the printed list of rows is that of the same rows in another order
printed_permuted : (b : BoundQuery) (l : Option ℕ) (rows others : List (List (List Value))) (listed : List (List Wide)) → ArePermuted rows others → IsPrinted b.order l (output b rows) listed → IsPrinted b.order l (output b others) listed
printed_permuted b l rows others listed same printed = record {
  sorted = printed.sorted;
  same = IsPermutation-trans (output b others) (output b rows) printed.sorted (IsPermutation-sym (output b rows) (output b others) (output_permuted b rows others same)) printed.same;
  ascending = printed.ascending;
  front = printed.front;
}

pub listed_so : (state : State) (at : At) (q : Query) (b : BoundQuery) (rows : List (List (List Value))) (listed : List (List Wide)) → b ≡ bound_in state q → ArePermuted rows (inputs at state q) → IsPrinted b.order b.limit (output b rows) listed → IsListing state at q listed
listed_so state at q b rows listed tree same printed =
    subst (λ (l : Option ℕ). IsPrinted (bound_in state q).order l (output (bound_in state q) (inputs at state q)) listed) (limit_is state q)
    (subst (λ (t : BoundQuery). IsPrinted t.order t.limit (output t (inputs at state q)) listed) tree (printed_permuted b b.limit rows (inputs at state q) listed same printed))

pub too_great : (state : State) (at : At) (q : Query) (b : BoundQuery) (rows : List (List (List Value))) → b ≡ bound_in state q → ArePermuted rows (inputs at state q) → IsSumTooGreat b rows → IsSumTooGreat (bound_in state q) (inputs at state q)
too_great state at q b rows tree same great = subst (λ (t : BoundQuery). IsSumTooGreat t (inputs at state q)) tree (fails_the_same b rows (inputs at state q) same great)

other_way : (inputs others : List (List (List Value))) → ArePermuted inputs others → ArePermuted others inputs
other_way [] [] same = tt
other_way [] (ys ∷ others) same = absurd same
other_way (xs ∷ inputs) [] same = absurd same
other_way (xs ∷ inputs) (ys ∷ others) (here, more) = (IsPermutation-sym xs ys here, other_way inputs others more)

pub not_too_great : (state : State) (at : At) (q : Query) (b : BoundQuery) (rows : List (List (List Value))) → b ≡ bound_in state q → ArePermuted rows (inputs at state q) → (IsSumTooGreat b rows → ⊥) → IsSumTooGreat (bound_in state q) (inputs at state q) → ⊥
not_too_great state at q b rows tree same none great =
    none (fails_the_same b (inputs at state q) rows (other_way rows (inputs at state q) same) (subst (λ (t : BoundQuery). IsSumTooGreat t (inputs at state q)) (sym tree) great))
