-- Candidates of a block, and blocks that have none.
use Rattle.std.proofs.Common.{◌≡◌, ℕ, ◌+◌, ◌-◌, ◌*◌, ◌≤◌, ◌<◌, Bool, true, false, List, length, map, drop, get_or, min, refl, sym, ap, ap₂, ◌∙◌, subst, arith}
use Rattle.std.specs.Prelude.{Option, Some, None, IfSome, IsSomeAnd, is_none, slice_get}
use Rattle.std.specs.List.{All, Any, list_all}
use Rattle.std.specs.Ordering.{is_le}
use Rattle.std.proofs.lemmas.Option.{slice_get-get_or}
use Rattle.std.proofs.lemmas.List.{get_or-drop, get_or-map, get_or-take, get_or_default, length-drop, length-map, length-take}
use Rattle.std.proofs.lemmas.List.Folds.{list_all_at}
use Rattle.common_laws.specs.Maps.{Contents}
use Rattle.common_laws.proofs.Truths.{and_true}
use Rattle.catalog_types.specs.declared.catalogue.Container.{Container}
use Rattle.col_file.specs.Read.{is_between}
use Rattle.col_value.specs.Order.{value_cmp}
use Rattle.col_value.specs.declared.row.Asked.{Asked}
use Rattle.col_value.specs.declared.value.Value.{Value}
use Rattle.col_value.specs.declared.value.Value.TheVariants as value
use Rattle.pos_index.specs.declared.index.Entry.{Entry}
use Rattle.pos_index.specs.declared.index.PosIndex.{PosIndex}
use Rattle.pos_index.specs.Index.{blocks}
use Rattle.ros_container.specs.Encodings.{Written}
use Rattle.ros_container.specs.Held.{HoldsContainer}
use Rattle.ros_container.specs.Rows.{column_values, stored_values}
use Rattle.container_blocks.specs.Blocks.{AreEpochs, HasIndex, IsIndexOf, rows_in}
use Rattle.container_blocks.proofs.OneBlock.{lie_between}
use Rattle.write_store.specs.declared.held.Inserted.{Inserted}
use Rattle.wanted_rows.specs.Wanted.{asked_in}
use Rattle.wanted_rows.specs.Picked.{blank}
use Rattle.wanted_rows.proofs.Steps.{picks_past}
use Rattle.proj_store.specs.Blocks.{HasIndexes, PicksOn, in_list}
use Rattle.proj_store.specs.Candidates.{AreCandidates, HaveRows, MissesBlock, MissesEntry, MissesOne, Narrows, candidate, candidates, row_of}
use Rattle.ros_container.proofs.Long.{container_long}
use Rattle.proj_store.proofs.BlockRows.{block_room, no_index}
use Rattle.proj_store.proofs.Candidacy.{candidate_at, candidates_long}
use Rattle.proj_store.proofs.Narrowing.{column_is}

-- ---- the rows of a block stand in those of the container

block_long : (b : ℕ) (rows : List Asked) → length (rows_in b rows) ≡ min 1024 (length rows - 1024 * b)
block_long b rows = omega (arith, length-take 1024 (drop (1024 * b) rows), length-drop (1024 * b) rows)

row_stands : (b i : ℕ) (rows : List Asked) → i < length (rows_in b rows) → get_or (rows_in b rows) i blank ≡ get_or rows (1024 * b + i) blank
row_stands b i rows lt =
    get_or-take 1024 (drop (1024 * b) rows) i blank (omega (arith, lt, length-take 1024 (drop (1024 * b) rows))) ∙ get_or-drop (1024 * b) rows i blank

pub block_within : (holds : Option Contents) (es : List Written) (k : Container) (b n : ℕ) → n ≡ min 1024 (k.rows - 1024 * b) → (m : Contents) → holds ≡ Some m → (rows : List Asked) → HoldsContainer m es k rows → n ≤ length (rows_in b rows)
block_within holds es k b n long m told rows holding = omega (arith, long, block_long b rows, container_long m es k rows holding)

-- ---- candidates

none_told : (o : Option ℕ) → is_none o ≡ true → o ≡ None
none_told None e = refl
none_told (Some x) e = absurd (cc)

none_tells : (o : Option ℕ) → o ≡ None → is_none o ≡ true
none_tells None e = refl
none_tells (Some x) e = absurd (cc)

there_by : (alive : Bool) (ins : ℕ) (columns : List (List Value)) (i : ℕ) (P : Inserted → Type 0) → (alive ≡ true → P (record { ins = ins; row = row_of columns i })) → IfSome (candidate alive ins columns i) P
there_by true ins columns i P f = f refl
there_by false ins columns i P f = tt

gone_by : (alive : Bool) (ins : ℕ) (columns : List (List Value)) (i : ℕ) → candidate alive ins columns i ≡ None → alive ≡ false
gone_by true ins columns i e = absurd (cc)
gone_by false ins columns i e = refl

abbrev make : List Value → ℕ → Asked
make row ins = record { row = row; ins = ins }

ins_here : (i : ℕ) (xs : List Asked) (stamps : List ℕ) → stamps ≡ map (λ a. a.ins) xs → i < length xs → get_or stamps i 0 ≡ (get_or xs i blank).ins
ins_here i xs stamps is lt = ap (λ (ns : List ℕ). get_or ns i 0) is ∙ get_or-map (λ a. a.ins) xs i blank 0 lt

candidates_stand : (holds : Option Contents) (es : List Written) (k : Container) (deletes : List (Option ℕ)) (b : ℕ) (need : Asked → ℕ) (first last : List Bool) (stamps : List ℕ) (columns : List (List Value))
    → b < blocks k.rows → length last ≡ min 1024 (k.rows - 1024 * b) → length first ≡ length last
    → ((i : ℕ) → i < length first → get_or first i false ≡ is_none (in_list deletes (1024 * b + i)))
    → Narrows holds es k b need first last → (Any (λ a. a ≡ true) last → AreEpochs holds es k b stamps) → HaveRows holds es k b last columns
    → AreCandidates holds es k (in_list deletes) b need (candidates last stamps columns)
candidates_stand holds es k deletes b need first last stamps columns lt last_long long live narrows epochs have m told rows holding =
    let some = candidates last stamps columns in
    let all : length rows ≡ k.rows = container_long m es k rows holding in
    let as_many : length some ≡ length last = candidates_long 0 last stamps columns in
    let here : length (rows_in b rows) ≡ length some = omega (arith, block_long b rows, all, last_long, as_many) in
    let each : (i : ℕ) → get_or some i None ≡ candidate (get_or last i false) (get_or stamps i 0) columns i = λ i. candidate_at some last stamps columns i refl in
    record {
      within = omega (arith, last_long, as_many, all, block_room b k.rows lt);
      there = λ i less.
          subst (λ (o : Option Inserted). IfSome o (λ r. (asked_in r ≡ get_or rows (1024 * b + i) blank) × (in_list deletes (1024 * b + i) ≡ None))) (sym (each i))
          (there_by (get_or last i false) (get_or stamps i 0) columns i (λ r. (asked_in r ≡ get_or rows (1024 * b + i) blank) × (in_list deletes (1024 * b + i) ≡ None))
          (λ e. (
            ap₂ make (have m told rows holding i (omega (arith, less, as_many)) e)
                (ins_here i (rows_in b rows) stamps (epochs (i, true, omega (arith, less, as_many), get_or_default last i true false (omega (arith, less, as_many)) ∙ e, refl) m told rows holding) (omega (arith, less, here)))
                ∙ row_stands b i rows (omega (arith, less, here)),
            none_told (in_list deletes (1024 * b + i)) (sym (live i (omega (arith, less, as_many, long))) ∙ narrows.only i (omega (arith, less, as_many, long)) e),
          )));
      rest = λ i less gone live_here.
          ap need (sym (row_stands b i rows (omega (arith, less, here))))
          ∙ narrows.gone m told rows holding i (omega (arith, less, as_many, long)) (live i (omega (arith, less, as_many, long)) ∙ none_tells (in_list deletes (1024 * b + i)) live_here)
          (gone_by (get_or last i false) (get_or stamps i 0) columns i (sym (each i) ∙ gone));
    }

-- the same of lists that one call hands to the next
pub candidates_made : (holds now : Option Contents) (es : List Written) (k : Container) (deletes : List (Option ℕ)) (b : ℕ) (need : Asked → ℕ) (alive first last end seen : List Bool) (stamps : List ℕ) (columns read : List (List Value))
    → b < blocks k.rows → now ≡ holds → first ≡ alive → end ≡ last → seen ≡ last → read ≡ columns → length alive ≡ min 1024 (k.rows - 1024 * b) → length last ≡ length first
    → ((i : ℕ) → i < length alive → get_or alive i false ≡ is_none (in_list deletes (1024 * b + i)))
    → Narrows holds es k b need first last → (Any (λ a. a ≡ true) seen → AreEpochs now es k b stamps) → HaveRows holds es k b last columns
    → AreCandidates holds es k (in_list deletes) b need (candidates end stamps read)
candidates_made holds now es k deletes b need alive first last end seen stamps columns read lt kept first_is end_is seen_is read_is long same live narrows epochs have =
    let as_long : length last ≡ length alive = same ∙ ap length first_is in
    let found : AreCandidates holds es k (in_list deletes) b need (candidates last stamps columns) =
    candidates_stand holds es k deletes b need alive last stamps columns lt (as_long ∙ long) (sym as_long) live (subst (λ (xs : List Bool). Narrows holds es k b need xs last) first_is narrows)
    (λ some. subst (λ (h : Option Contents). AreEpochs h es k b stamps) kept (epochs (subst (Any (λ a. a ≡ true)) (sym seen_is) some))) have in
    subst (λ (xs : List Bool). AreCandidates holds es k (in_list deletes) b need (candidates xs stamps read)) (sym end_is)
    (subst (λ (cs : List (List Value)). AreCandidates holds es k (in_list deletes) b need (candidates last stamps cs)) (sym read_is) found)

-- ---- blocks that an index passes over

all_here : {X : Type 0} (p : X → Bool) (xs : List X) (i : ℕ) (d : X) → i < length xs → list_all p xs ≡ true → p (get_or xs i d) ≡ true
all_here {X} p xs i d lt all = by (p (get_or xs i d)) refl
  where
    by : (b : Bool) → p (get_or xs i d) ≡ b → b ≡ true
    by true e = refl
    by false e = let no_all : list_all p xs ≡ false = list_all_at p xs i d lt e in absurd (cc)

missed_by : (o : Option Entry) (column : ℕ) (need : Asked → ℕ) (q : Asked) (vs : List Value) (j : ℕ) → IsSomeAnd o (MissesEntry column need) → IfSome o (λ e. list_all (is_between e) vs ≡ true) → j < length vs → get_or vs j value.Null ≡ get_or q.row column value.Null → need q ≡ 0
missed_by None column need q vs j misses between lt is = absurd misses
missed_by (Some e) column need q vs j misses between lt is =
    let one : is_between e (get_or q.row column value.Null) ≡ true = ap (is_between e) (sym is) ∙ all_here (is_between e) vs j value.Null lt between in
    let two = and_true (is_le (value_cmp e.least (get_or q.row column value.Null))) (is_le (value_cmp (get_or q.row column value.Null) e.greatest)) one in
    misses q two.0 two.1

index_misses : (ats : List PosIndex) (i b : ℕ) (need : Asked → ℕ) → i < length ats → IsSomeAnd (slice_get ats i) (MissesBlock b i need) → MissesBlock b i need (get_or ats i no_index)
index_misses ats i b need lt misses = subst (λ (o : Option PosIndex). IsSomeAnd o (MissesBlock b i need)) (slice_get-get_or ats i no_index lt) misses

pub misses_on : (holds : Option Contents) (es : List Written) (k : Container) (mark : ℕ → Option ℕ) (ats : List PosIndex) (columns b : ℕ) (places : List ℕ) (need : Asked → ℕ) → columns ≡ length es → length ats ≡ columns + 1 → All (IsIndexOf k.rows) ats → b < blocks k.rows
    → HasIndexes es k holds ats → MissesOne ats columns b need → PicksOn holds es k mark b places places need need
misses_on holds es k mark ats columns b places need same many fit lt held (i, own, misses) m told rows holding start was =
    picks_past (1024 * b) (1024 * (b + 1)) mark rows places start need was (omega arith)
    (λ p from less in_rows.
    let at = get_or ats i no_index in
    let xs = rows_in b rows in
    let room : i < length ats = omega (arith, own, many) in
    let i_own : i < length es = omega (arith, own, same) in
    let j = p - 1024 * b in
    let in_block : j < length xs = omega (arith, from, less, in_rows, block_long b rows) in
    let place : 1024 * b + j ≡ p = omega (arith, from) in
    let is : get_or xs j blank ≡ get_or rows p blank = row_stands b j rows in_block ∙ ap (λ (n : ℕ). get_or rows n blank) place in
    let index : HasIndex es k i at (Some m) = subst (HasIndex es k i at) told (held i no_index room) in
    let between = lie_between m es k i b at rows (omega (arith, i_own)) (fit i no_index room) index holding lt in
    let vs_are : stored_values (length es) i xs ≡ column_values i xs = column_is (length es) i xs i_own in
    missed_by (slice_get at.entries b) i need (get_or rows p blank) (stored_values (length es) i xs) j (index_misses ats i b need room misses) between
    (omega (arith, in_block, ap length vs_are, length-map xs (λ a. get_or a.row i value.Null)))
    (ap (λ (vs : List Value). get_or vs j value.Null) vs_are ∙ get_or-map (λ a. get_or a.row i value.Null) xs j blank value.Null in_block ∙ ap (λ (a : Asked). get_or a.row i value.Null) is))
