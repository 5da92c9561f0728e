-- A query over states that are alike is refused for the same cause, and prints the same.
use Rattle.std.proofs.Common.{◌≡◌, ℕ, ◌+◌, ◌-◌, ◌≤◌, ◌++◌, nat_lt, Bool, true, false, cond, List, [], ◌∷◌, map, refl, sym, ap, ap₂, ◌∙◌, arith, subst, inl, inr}
use Rattle.std.specs.Prelude.{Option, Some, None, find, bytes_eq, slice_index_or, option_map}
use Rattle.std.specs.List.{AllZip, enumerate_from, flat_map}
use Rattle.std.specs.List.Sorted.{IsPermutation}
use Rattle.std.proofs.lemmas.List.Sorted.{IsPermutation-sym}
use Rattle.std.specs.Option.{option_map_or}
use Rattle.std.proofs.lemmas.Bool.Decides.{nat_tests}
use Rattle.common_laws.specs.Bags.{SameBag}
use Rattle.common_laws.proofs.BagLaws.{bag_map}
use Rattle.col_value.specs.declared.column.Column.{Column}
use Rattle.col_value.specs.declared.row.Asked.{Asked}
use Rattle.col_value.specs.declared.value.Value.{Value}
use Rattle.col_value.specs.declared.wide.Wide.{Wide}
use Rattle.row_history.specs.History.{retained, visible}
use Rattle.row_history.proofs.Histories.{bag_visible, visible_retained}
use Rattle.sql_tree.specs.declared.query.At.{At}
use Rattle.sql_tree.specs.declared.query.Query.{Query}
use Rattle.sql_tree.specs.declared.query.Source.{Source}
use Rattle.sql_tree.specs.declared.refusal.Refusal.{Refusal}
use Rattle.sql_bound.specs.declared.query.BoundQuery.{BoundQuery}
use Rattle.sql_bound.specs.Outputs.{output}
use Rattle.sql_bound.specs.Printed.{IsPrinted}
use Rattle.sql_binding.specs.Firsts.{first_of}
use Rattle.sql_binding.specs.Queries.{bound_query, columns_of, over_groups, over_rows, query_refusal}
use Rattle.sql_binding.specs.Sight.{sight}
use Rattle.sql_binding.specs.Uses.{is_grouped}
use Rattle.query_laws.specs.Laws.{ArePermuted, FailsTheSame, PrintsTheSame}
use Rattle.db_model.specs.Alike.{AreAlikeChanges, AreAlikeStates, IsAlikeTable}
use Rattle.db_model.specs.Answers.{listing_text}
use Rattle.db_model.specs.Database.{Table}
use Rattle.db_model.specs.Refusals.{SumRefuses, query_refusal_in}
use Rattle.db_model.specs.Refusing.{epoch_refusal}
use Rattle.db_model.specs.State.{State, own_changes, pending_deletes, pending_rows}
use Rattle.db_model.specs.Views.{bound_in, columns_found, inputs, rows_read, source_tables, table_found}
use Rattle.alike_laws.proofs.Changes.{changes_at, deletes_alike, pending_alike}
use Rattle.alike_laws.proofs.Permutes.{rows_permuted, seen_permuted}
use Rattle.one_text.specs.OneText.{QueriesHaveOneCause, QueriesHaveOneText}

abbrev Found : Type 0
Found = ℕ × Table

-- ---- the changes of a session

pub own_alike : (a b : State) → AreAlikeStates a b → AllZip AreAlikeChanges (own_changes a) (own_changes b)
own_alike a b alike =
    subst (λ (n : ℕ). AllZip AreAlikeChanges (own_changes a) (slice_index_or b.sessions (n - 1) [])) alike.current (changes_at a.sessions b.sessions (a.current - 1) alike.sessions)

-- ---- the tables of a query

module _ (mark : ℕ) where
  -- tables found at one place
  pub record AreAlikeFound (e f : Found) : Type 0 where
    pub place : e.0 ≡ f.0
    pub table : IsAlikeTable mark e.1 f.1

  pub BothFound : Option Found → Option Found → Type 0
  BothFound None None = Unit {0}
  BothFound None (Some f) = ⊥
  BothFound (Some e) None = ⊥
  BothFound (Some e) (Some f) = AreAlikeFound e f

  find_alike : (name : List ℕ) (n : ℕ) (ts us : List Table) → AllZip (IsAlikeTable mark) ts us → BothFound (find (λ e. bytes_eq e.1.name name) (enumerate_from n ts)) (find (λ e. bytes_eq e.1.name name) (enumerate_from n us))
  unfolding BothFound
  find_alike name n [] [] alike = tt
  find_alike name n [] (u ∷ us) alike = absurd alike
  find_alike name n (t ∷ ts) [] alike = absurd alike
  find_alike name n (t ∷ ts) (u ∷ us) (here, more) = by (bytes_eq t.name name) (bytes_eq u.name name) (ap (λ (m : List ℕ). bytes_eq m name) here.name) (find_alike name (n + 1) ts us more)
    where
      rest_of : List Table → Option Found
      rest_of vs = find (λ e. bytes_eq e.1.name name) (enumerate_from (n + 1) vs)

      by : (b d : Bool) → b ≡ d → BothFound (rest_of ts) (rest_of us) → BothFound (cond b (Some (n, t)) (rest_of ts)) (cond d (Some (n, u)) (rest_of us))
      by true true is rest = record { place = refl; table = here }
      by true false is rest = absurd (cc)
      by false true is rest = absurd (cc)
      by false false is rest = rest

  sources_alike : (ts us : List Table) → AllZip (IsAlikeTable mark) ts us → (sources : List Source)
      → AllZip AreAlikeFound (flat_map (λ (s : Source). option_map_or (λ e. e ∷ []) (table_found s.table ts) []) sources) (flat_map (λ (s : Source). option_map_or (λ e. e ∷ []) (table_found s.table us) []) sources)
  unfolding BothFound
  sources_alike ts us alike [] = tt
  sources_alike ts us alike (s ∷ sources) = by (table_found s.table ts) (table_found s.table us) (find_alike s.table 0 ts us alike) (sources_alike ts us alike sources)
    where
      rest_of : List Table → List Found
      rest_of vs = flat_map (λ (s : Source). option_map_or (λ e. e ∷ []) (table_found s.table vs) []) sources

      by : (x y : Option Found) → BothFound x y → AllZip AreAlikeFound (rest_of ts) (rest_of us) → AllZip AreAlikeFound (option_map_or (λ e. e ∷ []) x [] ++ rest_of ts) (option_map_or (λ e. e ∷ []) y [] ++ rest_of us)
      by None None both rest = rest
      by None (Some f) both rest = absurd both
      by (Some e) None both rest = absurd both
      by (Some e) (Some f) both rest = (both, rest)

  columns_alike : (ts us : List Table) → AllZip (IsAlikeTable mark) ts us → (name : List ℕ) → columns_found ts name ≡ columns_found us name
  unfolding BothFound
  columns_alike ts us alike name = by (table_found name ts) (table_found name us) (find_alike name 0 ts us alike)
    where
      by : (x y : Option Found) → BothFound x y → option_map (λ e. e.1.columns) x ≡ option_map (λ e. e.1.columns) y
      by None None both = refl
      by None (Some f) both = absurd both
      by (Some e) None both = absurd both
      by (Some e) (Some f) both = ap (λ (cs : List Column). Some cs) both.table.columns

  source_columns_alike : (ts us : List Table) → AllZip (IsAlikeTable mark) ts us → (sources : List Source) → map (λ (s : Source). columns_found ts s.table) sources ≡ map (λ (s : Source). columns_found us s.table) sources
  source_columns_alike ts us alike [] = refl
  source_columns_alike ts us alike (s ∷ sources) =
      ap₂ (λ (x : Option (List Column)) (xs : List (Option (List Column))). x ∷ xs) (columns_alike ts us alike s.table) (source_columns_alike ts us alike sources)

  bound_alike : (es fs : List Found) → AllZip AreAlikeFound es fs → ◌≡◌ {A = List (ℕ × List Column)} (map (λ e. (e.0, e.1.columns)) es) (map (λ e. (e.0, e.1.columns)) fs)
  bound_alike [] [] alike = refl
  bound_alike [] (f ∷ fs) alike = absurd alike
  bound_alike (e ∷ es) [] alike = absurd alike
  bound_alike (e ∷ es) (f ∷ fs) (here, more) =
      ap₂ (λ (x : ℕ × List Column) (xs : List (ℕ × List Column)). x ∷ xs) (ap₂ (λ (n : ℕ) (cs : List Column). (n, cs)) here.place here.table.columns) (bound_alike es fs more)

  inputs_permuted : (read other : Table → List (List Value)) → ((t u : Table) → IsAlikeTable mark t u → IsPermutation (read t) (other u)) → (es fs : List Found) → AllZip AreAlikeFound es fs
      → ArePermuted (map (λ e. read e.1) es) (map (λ e. other e.1) fs)
  inputs_permuted read other each [] [] alike = tt
  inputs_permuted read other each [] (f ∷ fs) alike = absurd alike
  inputs_permuted read other each (e ∷ es) [] alike = absurd alike
  inputs_permuted read other each (e ∷ es) (f ∷ fs) (here, more) = (each e.1 f.1 here.table, inputs_permuted read other each es fs more)

  visible_alike : (epoch : ℕ) (t u : Table) → mark ≤ epoch → IsAlikeTable mark t u → SameBag (visible epoch t.rows) (visible epoch u.rows)
  visible_alike epoch t u le alike =
      subst (λ (rows : List (List Value)). SameBag rows (visible epoch u.rows)) (visible_retained mark epoch t.rows le)
      (subst (SameBag (visible epoch (retained mark t.rows))) (visible_retained mark epoch u.rows le) (bag_visible epoch (retained mark t.rows) (retained mark u.rows) alike.rows))

-- ---- what a query reads of states that are alike

-- the epoch that is asked for isn't before the mark
not_before : (ahm last n : ℕ) → epoch_refusal ahm last (At.Epoch n) ≡ None → ahm ≤ n
not_before ahm last n none = by (nat_lt n ahm) refl none
  where
    by : (b : Bool) → nat_lt n ahm ≡ b → cond b (Some (Refusal.EpochTooOld n ahm)) (cond (nat_lt last n) (Some (Refusal.EpochInFuture n last)) None) ≡ None → ahm ≤ n
    by true is at = absurd (cc)
    by false is at = grind (arith, nat_tests)

read_alike : (at : At) (a b : State) (t u : Table) → AreAlikeStates a b → a.database.ahm ≤ a.database.last → epoch_refusal a.database.ahm a.database.last at ≡ None → IsAlikeTable a.database.ahm t u
    → IsPermutation (rows_read at a t) (rows_read at b u)
read_alike At.View a b t u alike mark none same =
    let seen : SameBag (visible a.database.last t.rows) (visible b.database.last u.rows) =
    subst (λ (n : ℕ). SameBag (visible a.database.last t.rows) (visible n u.rows)) alike.database.last (visible_alike a.database.ahm a.database.last t u mark same) in
    let gone : SameBag (pending_deletes t.name (own_changes a)) (pending_deletes u.name (own_changes b)) =
    subst (λ (n : List ℕ). SameBag (pending_deletes t.name (own_changes a)) (pending_deletes n (own_changes b))) same.name (deletes_alike t.name (own_changes a) (own_changes b) (own_alike a b alike)) in
    let more : SameBag (pending_rows t.name (own_changes a)) (pending_rows u.name (own_changes b)) =
    subst (λ (n : List ℕ). SameBag (pending_rows t.name (own_changes a)) (pending_rows n (own_changes b))) same.name (pending_alike t.name (own_changes a) (own_changes b) (own_alike a b alike)) in
    seen_permuted (map (λ (x : Asked). x.row) (pending_deletes t.name (own_changes a))) (map (λ (x : Asked). x.row) (pending_deletes u.name (own_changes b))) (visible a.database.last t.rows) (visible b.database.last u.rows)
    (pending_rows t.name (own_changes a)) (pending_rows u.name (own_changes b))
    (bag_map (λ (x : Asked). x.row) (pending_deletes t.name (own_changes a)) (pending_deletes u.name (own_changes b)) gone) seen more
read_alike At.Latest a b t u alike mark none same =
    rows_permuted (visible a.database.last t.rows) (visible b.database.last u.rows)
    (subst (λ (n : ℕ). SameBag (visible a.database.last t.rows) (visible n u.rows)) alike.database.last (visible_alike a.database.ahm a.database.last t u mark same))
read_alike (At.Epoch n) a b t u alike mark none same =
    rows_permuted (visible n t.rows) (visible n u.rows) (visible_alike a.database.ahm n t u (not_before a.database.ahm a.database.last n none) same)

pub inputs_alike : (at : At) (a b : State) (q : Query) → AreAlikeStates a b → a.database.ahm ≤ a.database.last → epoch_refusal a.database.ahm a.database.last at ≡ None → ArePermuted (inputs at a q) (inputs at b q)
inputs_alike at a b q alike mark none =
    inputs_permuted a.database.ahm (rows_read at a) (rows_read at b) (λ t u same. read_alike at a b t u alike mark none same) (source_tables a.database.tables q) (source_tables b.database.tables q)
    (sources_alike a.database.ahm a.database.tables b.database.tables alike.database.tables q.sources)

pub bound_same : (a b : State) (q : Query) → AreAlikeStates a b → bound_in a q ≡ bound_in b q
bound_same a b q alike =
    ap (λ (ts : List (ℕ × List Column)). bound_query ts q)
    (bound_alike a.database.ahm (source_tables a.database.tables q) (source_tables b.database.tables q) (sources_alike a.database.ahm a.database.tables b.database.tables alike.database.tables q.sources))

pub refusal_same : (a b : State) (q : Query) → AreAlikeStates a b → query_refusal_in a q ≡ query_refusal_in b q
refusal_same a b q alike =
    ap (λ (columns : List (Option (List Column))). query_refusal columns q) (source_columns_alike a.database.ahm a.database.tables b.database.tables alike.database.tables q.sources)

other_way : (inputs others : List (List (List Value))) → ArePermuted inputs others → ArePermuted others inputs
other_way [] [] same = tt
other_way [] (ys ∷ others) same = absurd same
other_way (xs ∷ inputs) [] same = absurd same
other_way (xs ∷ inputs) (ys ∷ others) (here, more) = (IsPermutation-sym xs ys here, other_way inputs others more)

-- ---- the laws

limit_kept : (tables : List (ℕ × List Column)) (q : Query) → (bound_query tables q).limit ≡ q.limit
limit_kept tables q = by (is_grouped q)
  where
    by : (b : Bool) → (cond b (over_groups tables (sight q.sources (columns_of tables)) q) (over_rows tables (sight q.sources (columns_of tables)) q)).limit ≡ q.limit
    by true = refl
    by false = refl

-- what is listed is printed to the tree's own limit
listed_is : (a : State) (q : Query) (rows : List (List (List Value))) (listed : List (List Wide)) → IsPrinted (bound_in a q).order q.limit (output (bound_in a q) rows) listed
    → IsPrinted (bound_in a q).order (bound_in a q).limit (output (bound_in a q) rows) listed
listed_is a q rows listed is =
    subst (λ (n : Option ℕ). IsPrinted (bound_in a q).order n (output (bound_in a q) rows) listed) (sym (limit_kept (map (λ e. (e.0, e.1.columns)) (source_tables a.database.tables q)) q)) is

pub query_printed : ((q : BoundQuery) → PrintsTheSame q) → QueriesHaveOneText
query_printed law a b files at q p r alike mark none (xs, xs_list, p_is) (ys, ys_list, r_is) =
    let other : IsPrinted (bound_in a q).order (bound_in a q).limit (output (bound_in a q) (inputs at b q)) ys =
    subst (λ (tree : BoundQuery). IsPrinted tree.order tree.limit (output tree (inputs at b q)) ys) (sym (bound_same a b q alike)) (listed_is b q (inputs at b q) ys ys_list) in
    p_is ∙ ap (λ (rows : List (List Wide)). listing_text rows) (law (bound_in a q) (inputs at a q) (inputs at b q) xs ys (inputs_alike at a b q alike mark none) (listed_is a q (inputs at a q) xs xs_list) other) ∙ sym r_is

pub first_none : (x y : Option Refusal) → first_of x y ≡ None → y ≡ None
first_none None y none = none
first_none (Some r) y none = absurd (cc)

sums : ((q : BoundQuery) → FailsTheSame q) → (before : Option Refusal) (q : BoundQuery) (rows others : List (List (List Value))) → (before ≡ None → ArePermuted rows others) → (why also : Option Refusal)
    → SumRefuses before q rows why → SumRefuses before q others also → why ≡ also
sums law (Some refusal) q rows others same why also first second = first ∙ sym second
sums law None q rows others same why also (inl (great, why_is)) (inl (big, also_is)) = why_is ∙ sym also_is
sums law None q rows others same why also (inl (great, why_is)) (inr (small, also_is)) = absurd (small (law q rows others (same refl) great))
sums law None q rows others same why also (inr (small, why_is)) (inl (great, also_is)) = absurd (small (law q others rows (other_way rows others (same refl)) great))
sums law None q rows others same why also (inr (small, why_is)) (inr (little, also_is)) = why_is ∙ sym also_is

pub query_refused : ((q : BoundQuery) → FailsTheSame q) → QueriesHaveOneCause
query_refused law a b files at q why also alike mark first second =
    let before : first_of (query_refusal_in b q) (epoch_refusal b.database.ahm b.database.last at) ≡ first_of (query_refusal_in a q) (epoch_refusal a.database.ahm a.database.last at) =
    ap (λ (x : Option Refusal). first_of x (epoch_refusal b.database.ahm b.database.last at)) (sym (refusal_same a b q alike))
    ∙ ap₂ (λ (m n : ℕ). first_of (query_refusal_in a q) (epoch_refusal m n at)) (sym alike.database.ahm) (sym alike.database.last) in
    let here : SumRefuses (first_of (query_refusal_in a q) (epoch_refusal a.database.ahm a.database.last at)) (bound_in a q) (inputs at b q) also =
    subst (λ (tree : BoundQuery). SumRefuses (first_of (query_refusal_in a q) (epoch_refusal a.database.ahm a.database.last at)) tree (inputs at b q) also) (sym (bound_same a b q alike))
    (subst (λ (x : Option Refusal). SumRefuses x (bound_in b q) (inputs at b q) also) before second) in
    sums law (first_of (query_refusal_in a q) (epoch_refusal a.database.ahm a.database.last at)) (bound_in a q) (inputs at a q) (inputs at b q)
    (λ none. inputs_alike at a b q alike mark (first_none (query_refusal_in a q) (epoch_refusal a.database.ahm a.database.last at) none)) why also first here
