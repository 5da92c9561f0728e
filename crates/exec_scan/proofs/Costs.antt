-- How many blocks a scan reads.
use Rattle.catalog_types.specs.Blank.{blank_container as blank}
use Rattle.std.proofs.Common.{◌≡◌, ℕ, zero, suc, ◌+◌, ◌-◌, ◌*◌, ◌≤◌, ◌<◌, ◌⊎◌, inl, inr, Bool, false, cond, List, [], ◌∷◌, length, drop, get_or, refl, sym, ap, ap₂, ◌∙◌, arith, subst, mul-le-mul_right}
use Rattle.std.specs.Prelude.{Option, Some, None, ◌||◌, not, IsSomeAnd, MatchOption}
use Rattle.std.specs.List.{All, AllZip, range_with_len, slice_get}
use Rattle.std.specs.Option.{option_map_or}
use Rattle.std.proofs.lemmas.List.Elements.{All-head, All-tail}
use Rattle.std.proofs.lemmas.List.Sums.{sum_by-cons}
use Rattle.catalog_types.specs.declared.catalogue.Container.{Container}
use Rattle.catalog_types.specs.declared.catalogue.Projection.{Projection}
use Rattle.col_file.specs.Column.{IsFile}
use Rattle.col_value.specs.declared.value.Value.{Value}
use Rattle.common_laws.specs.Maps.{Contents}
use Rattle.pos_index.specs.Index.{blocks, index_spelling}
use Rattle.pos_index.specs.declared.index.Entry.{Entry}
use Rattle.pos_index.specs.declared.index.PosIndex.{PosIndex}
use Rattle.pos_index.proofs.Reading.{one_spelling}
use Rattle.ros_container.specs.Encodings.{Written, written_of, default_at}
use Rattle.ros_container.specs.Files.{index_of, place_of}
use Rattle.row_bounds.specs.Bounds.{misses}
use Rattle.row_bounds.specs.declared.bound.Bound.{Bound}
use Rattle.stored_rows.specs.Stored.{Beside, Projected}
use Rattle.container_blocks.specs.Blocks.{HasIndex, IsIndexOf, IsIndexOfOne}
use Rattle.container_blocks.proofs.Indexes.{the_file}
use Rattle.container_blocks.proofs.OneBlock.{in_entries}
use Rattle.exec_scan.specs.Counting.{HasIndexes, block_cost, containers_cost, cost_left, needed_blocks}
use Rattle.exec_scan.specs.Opened.{HasOpened, HoldsNeeded, IsNeeded, IsOpening, Opening}
use Rattle.exec_scan.specs.Passing.{is_passed}
use Rattle.exec_scan.specs.Scanning.{HasOpenedAt}
use Rattle.exec_scan.proofs.Handed.{at_some}
use Rattle.exec_scan.proofs.Stepping.{at_place}

-- ---- two indexes that a disk holds of a column miss the same bounds in each block

abbrev missed_by : Bound → ℕ → PosIndex → Bool
missed_by b block at = option_map_or (λ e. misses b e.least e.greatest) (slice_get at.entries block) false

ends_of : (v : Value) (es : List Entry) (block : ℕ) (b : Bound) → All (λ e. (e.least ≡ v) × (e.greatest ≡ v)) es → block < length es → option_map_or (λ e. misses b e.least e.greatest) (slice_get es block) false ≡ misses b v v
ends_of v [] block b all lt = absurd (omega (arith, lt))
ends_of v (e ∷ es) zero b all lt = let one = All-head (λ (x : Entry). (x.least ≡ v) × (x.greatest ≡ v)) e es all in ap₂ (λ (l g : Value). misses b l g) one.0 one.1
ends_of v (e ∷ es) (suc block) b all lt = ends_of v es block b (All-tail (λ (x : Entry). (x.least ≡ v) × (x.greatest ≡ v)) e es all) (omega (arith, lt))

the_default : (es : List Written) (k : Container) (i : ℕ) (at : PosIndex) (holds : Option Contents) → place_of (length es) k i ≡ None → HasIndex es k i at holds → IsIndexOfOne (default_at es i) at
the_default es k i at holds is has = subst (λ (o : Option ℕ). MatchOption o (IsIndexOfOne (default_at es i) at) (λ place. IsFile (index_of k.base place) (index_spelling at) holds)) is has

one_entry : (es : List Written) (k : Container) (m : Contents) (i : ℕ) (x y : PosIndex) (b : Bound) (block : ℕ) → block < blocks k.rows → IsIndexOf k.rows x → IsIndexOf k.rows y → HasIndex es k i x (Some m) → HasIndex es k i y (Some m)
    → missed_by b block x ≡ missed_by b block y
one_entry es k m i x y b block lt is_x is_y has_x has_y = by (place_of (length es) k i) refl
  where
    by : (o : Option ℕ) → place_of (length es) k i ≡ o → missed_by b block x ≡ missed_by b block y
    by None told =
        let one_x = ends_of (default_at es i) x.entries block b (the_default es k i x (Some m) told has_x) (in_entries k.rows block x is_x lt) in
        let one_y = ends_of (default_at es i) y.entries block b (the_default es k i y (Some m) told has_y) (in_entries k.rows block y is_y lt) in
        one_x ∙ sym one_y
    by (Some place) told =
        let file_x = the_file es k i place x (Some m) told has_x m refl in
        let file_y = the_file es k i place y (Some m) told has_y m refl in
        let same : index_spelling x ≡ index_spelling y = cc in
        ap (missed_by b block) (one_spelling x y is_x.is_index is_y.is_index is_x.fits is_y.fits same)

abbrev missed_of : Bound → ℕ → Option PosIndex → Bool
missed_of b block o = option_map_or (missed_by b block) o false

one_missed : (es : List Written) (k : Container) (m : Contents) (o : Option ℕ) (x y : Option PosIndex) (b : Bound) (block : ℕ) → block < blocks k.rows → IsNeeded k.rows o x → IsNeeded k.rows o y → HoldsNeeded es k (Some m) o x → HoldsNeeded es k (Some m) o y
    → missed_of b block x ≡ missed_of b block y
one_missed es k m None None None b block lt is_x is_y has_x has_y = refl
one_missed es k m None (Some x) y b block lt is_x is_y has_x has_y = absurd is_x
one_missed es k m None None (Some y) b block lt is_x is_y has_x has_y = absurd is_y
one_missed es k m (Some i) None y b block lt is_x is_y has_x has_y = absurd is_x
one_missed es k m (Some i) (Some x) None b block lt is_x is_y has_x has_y = absurd is_y
one_missed es k m (Some i) (Some x) (Some y) b block lt is_x is_y has_x has_y = one_entry es k m i x y b block lt is_x is_y has_x has_y

same_missed : (es : List Written) (k : Container) (m : Contents) (ps : List (Option ℕ)) (xs ys : List (Option PosIndex)) (c : ℕ) (b : Bound) (block : ℕ) → block < blocks k.rows → AllZip (IsNeeded k.rows) ps xs → AllZip (IsNeeded k.rows) ps ys
    → AllZip (HoldsNeeded es k (Some m)) ps xs → AllZip (HoldsNeeded es k (Some m)) ps ys → missed_of b block (get_or xs c None) ≡ missed_of b block (get_or ys c None)
same_missed es k m [] [] [] c b block lt is_x is_y has_x has_y = refl
same_missed es k m [] (x ∷ xs) ys c b block lt is_x is_y has_x has_y = absurd is_x
same_missed es k m [] [] (y ∷ ys) c b block lt is_x is_y has_x has_y = absurd is_y
same_missed es k m (o ∷ ps) [] ys c b block lt is_x is_y has_x has_y = absurd is_x
same_missed es k m (o ∷ ps) (x ∷ xs) [] c b block lt is_x is_y has_x has_y = absurd is_y
same_missed es k m (o ∷ ps) (x ∷ xs) (y ∷ ys) zero b block lt is_x is_y has_x has_y = one_missed es k m o x y b block lt is_x.0 is_y.0 has_x.0 has_y.0
same_missed es k m (o ∷ ps) (x ∷ xs) (y ∷ ys) (suc c) b block lt is_x is_y has_x has_y = same_missed es k m ps xs ys c b block lt is_x.1 is_y.1 has_x.1 has_y.1

-- so they pass over the same blocks
same_passed : (es : List Written) (k : Container) (m : Contents) (ps : List (Option ℕ)) (xs ys : List (Option PosIndex)) (w : List Bound) (block : ℕ) → block < blocks k.rows → AllZip (IsNeeded k.rows) ps xs → AllZip (IsNeeded k.rows) ps ys
    → AllZip (HoldsNeeded es k (Some m)) ps xs → AllZip (HoldsNeeded es k (Some m)) ps ys → is_passed w xs block ≡ is_passed w ys block
same_passed es k m ps xs ys [] block lt is_x is_y has_x has_y = refl
same_passed es k m ps xs ys (b ∷ w) block lt is_x is_y has_x has_y =
    ap₂ (λ (p q : Bool). p || q) (same_missed es k m ps xs ys b.column b block lt is_x is_y has_x has_y) (same_passed es k m ps xs ys w block lt is_x is_y has_x has_y)

-- ---- a block that isn't passed over is one of those that are needed

abbrev one_if : Bool → ℕ
one_if b = cond b 1 0

needed_more : (w : List Bound) (xs : List (Option PosIndex)) (n b c : ℕ) → b ≤ c → c < b + n → is_passed w xs c ≡ false → 1 + needed_blocks w xs (c + 1) (b + n - (c + 1)) ≤ needed_blocks w xs b n
needed_more w xs zero b c from lt needs = absurd (omega (arith, from, lt))
needed_more w xs (suc n) b c from lt needs = by (λ up within. needed_more w xs n (b + 1) c up within needs) (grind arith)
  where
    step : needed_blocks w xs b (suc n) ≡ one_if (not (is_passed w xs b)) + needed_blocks w xs (b + 1) n
    step = sum_by-cons (λ j. one_if (not (is_passed w xs j))) b (range_with_len (b + 1) n)

    by : (b + 1 ≤ c → c < (b + 1) + n → 1 + needed_blocks w xs (c + 1) ((b + 1) + n - (c + 1)) ≤ needed_blocks w xs (b + 1) n) → (b ≡ c) ⊎ (b < c) → 1 + needed_blocks w xs (c + 1) (b + suc n - (c + 1)) ≤ needed_blocks w xs b (suc n)
    by more (inl same) =
        let here : one_if (not (is_passed w xs b)) ≡ 1 = ap (λ (v : Bool). one_if (not v)) (ap (is_passed w xs) same ∙ needs) in
        let first : c + 1 ≡ b + 1 = omega (arith, same) in
        let count : b + suc n - (c + 1) ≡ n = omega (arith, same) in
        let rest : needed_blocks w xs (c + 1) (b + suc n - (c + 1)) ≡ needed_blocks w xs (b + 1) n = ap₂ (λ (f r : ℕ). needed_blocks w xs f r) first count in
        omega (arith, step, here, rest)
    by more (inr less) =
        let within : c < (b + 1) + n = omega (arith, lt) in
        let found = more (omega (arith, less)) within in
        let count : b + suc n - (c + 1) ≡ (b + 1) + n - (c + 1) = omega arith in
        let rest : needed_blocks w xs (c + 1) (b + suc n - (c + 1)) ≡ needed_blocks w xs (c + 1) ((b + 1) + n - (c + 1)) = ap (needed_blocks w xs (c + 1)) count in
        omega (arith, step, found, rest)

-- ---- what is left

here_indexes : (m : Contents) (p : Projection) (ps : List (Option ℕ)) (ks : List Container) (all : List (List (Option PosIndex))) (i : ℕ) → i < length ks → AllZip (HasIndexes m p ps) ks all → HasIndexes m p ps (get_or ks i blank) (get_or all i [])
here_indexes m p ps [] all i lt have = absurd (omega (arith, lt))
here_indexes m p ps (k ∷ ks) [] i lt have = absurd have
here_indexes m p ps (k ∷ ks) (x ∷ all) zero lt have = have.0
here_indexes m p ps (k ∷ ks) (x ∷ all) (suc i) lt have = here_indexes m p ps ks all i (omega (arith, lt)) have.1

costs_split : (m : Contents) (p : Projection) (n : ℕ) (w : List Bound) (ps : List (Option ℕ)) (ks : List Container) (all : List (List (Option PosIndex))) (i b : ℕ) → i < length ks → AllZip (HasIndexes m p ps) ks all
    → containers_cost n w ps b (drop i ks) (drop i all) ≡ needed_blocks w (get_or all i []) b (blocks (get_or ks i blank).rows - b) * block_cost n (get_or ks i blank) ps + containers_cost n w ps 0 (drop (i + 1) ks) (drop (i + 1) all)
costs_split m p n w ps [] all i b lt have = absurd (omega (arith, lt))
costs_split m p n w ps (k ∷ ks) [] i b lt have = absurd have
costs_split m p n w ps (k ∷ ks) (x ∷ all) zero b lt have = refl
costs_split m p n w ps (k ∷ ks) (x ∷ all) (suc i) b lt have =
    let up : suc i + 1 ≡ suc (i + 1) = omega arith in
    costs_split m p n w ps ks all i b (omega (arith, lt)) have.1
    ∙ ap (λ (j : ℕ). needed_blocks w (get_or all i []) b (blocks (get_or ks i blank).rows - b) * block_cost n (get_or ks i blank) ps + containers_cost n w ps 0 (drop j (k ∷ ks)) (drop j (x ∷ all))) (sym up)

-- behind the last block of a container
pub done_costs : (m : Contents) (p : Projection) (all : List (List (Option PosIndex))) (e : ℕ) (ps : List (Option ℕ)) (w : List Bound) (st : Bool) (i b : ℕ) (o ended : Option Opening) (t : ℕ) → i < length p.containers → AllZip (HasIndexes m p ps) p.containers all
    → cost_left p all (at_place e ps w st (i + 1) 0 ended t) ≤ cost_left p all (at_place e ps w st i b o t)
done_costs m p all e ps w st i b o ended t lt have = omega (arith, costs_split m p (length p.columns) w ps p.containers all i b lt have)

held_here : (es : List Written) (k : Container) (columns : ℕ) (ps : List (Option ℕ)) (holds : Option Contents) (opened : Opening) (q : Option Beside) → IsSomeAnd q (λ b. HasOpened es k columns b ps holds opened) → AllZip (HoldsNeeded es k holds) ps opened.indexes
held_here es k columns ps holds opened None has = absurd has
held_here es k columns ps holds opened (Some b) has = has.held

-- a block of it that isn't passed over
pub block_costs : (m : Contents) (p : Projected) (all : List (List (Option PosIndex))) (e : ℕ) (ps : List (Option ℕ)) (w : List Bound) (st : Bool) (i b c : ℕ) (o : Option Opening) (opened : Opening) (t before after : ℕ)
    → i < length p.entry.containers → AllZip (HasIndexes m p.entry ps) p.entry.containers all → HasOpenedAt p i ps (Some m) opened → IsSomeAnd (slice_get p.entry.containers i) (λ k. IsOpening k.rows ps opened)
    → b ≤ c → c < blocks (get_or p.entry.containers i blank).rows → is_passed w opened.indexes c ≡ false → after ≤ before + block_cost (length p.entry.columns) (get_or p.entry.containers i blank) ps
    → after + cost_left p.entry all (at_place e ps w st i (c + 1) (Some opened) t) ≤ before + cost_left p.entry all (at_place e ps w st i b o t)
block_costs m p all e ps w st i b c o opened t before after lt have has opening from below needs le =
    let es = written_of p.entry in
    let n = length p.entry.columns in
    let ks = p.entry.containers in
    let k = get_or ks i blank in
    let xs = get_or all i [] in
    let cost = block_cost n k ps in
    let here = here_indexes m p.entry ps ks all i lt have in
    let own : IsOpening k.rows ps opened = at_some (λ x. IsOpening x.rows ps opened) ks i blank opening in
    let held = held_here es k n ps (Some m) opened (slice_get p.beside i) (at_some (λ x. IsSomeAnd (slice_get p.beside i) (λ d. HasOpened es x n d ps (Some m) opened)) ks i blank has) in
    let open_no : is_passed w xs c ≡ false = same_passed es k m ps xs opened.indexes w c below here.needed own.needed here.held held ∙ needs in
    let rest = needed_blocks w xs (c + 1) (blocks k.rows - (c + 1)) in
    let count : blocks k.rows - (c + 1) ≡ b + (blocks k.rows - b) - (c + 1) = omega (arith, from, below) in
    let more = needed_more w xs (blocks k.rows - b) b c from (omega (arith, from, below)) open_no in
    let one : 1 + rest ≤ needed_blocks w xs b (blocks k.rows - b) = omega (arith, more, ap (needed_blocks w xs (c + 1)) count) in
    let times : (1 + rest) * cost ≤ needed_blocks w xs b (blocks k.rows - b) * cost = mul-le-mul_right cost one in
    let parts : (1 + rest) * cost ≡ cost + rest * cost = omega arith in
    omega (arith, times, parts, le, costs_split m p.entry n w ps ks all i b lt have, costs_split m p.entry n w ps ks all i (c + 1) lt have)

-- the same, by what was read
pub block_spends : (m : Contents) (h : Option Contents) (p : Projected) (all : List (List (Option PosIndex))) (e : ℕ) (ps qs : List (Option ℕ)) (w : List Bound) (st : Bool) (i b c : ℕ) (o : Option Opening) (opened : Opening) (t before after : ℕ) (shape : Projection) (ks : List Container)
    → h ≡ Some m → shape ≡ p.entry → ks ≡ shape.containers → qs ≡ ps → i < length p.entry.containers → AllZip (HasIndexes m p.entry ps) p.entry.containers all → HasOpenedAt p i ps h opened → IsSomeAnd (slice_get p.entry.containers i) (λ k. IsOpening k.rows ps opened)
    → b ≤ c → c < blocks (get_or ks i blank).rows → is_passed w opened.indexes c ≡ false → after ≤ before + block_cost (length shape.columns) (get_or ks i blank) qs
    → after + cost_left p.entry all (at_place e ps w st i (c + 1) (Some opened) t) ≤ before + cost_left p.entry all (at_place e ps w st i b o t)
block_spends m h p all e ps qs w st i b c o opened t before after shape ks told same are are_ps lt have has opening from below needs le =
    let ks_are : ks ≡ p.entry.containers = are ∙ ap (λ (x : Projection). x.containers) same in
    let entry : get_or ks i blank ≡ get_or p.entry.containers i blank = ap (λ (xs : List Container). get_or xs i blank) ks_are in
    block_costs m p all e ps w st i b c o opened t before after lt have (subst (λ (x : Option Contents). HasOpenedAt p i ps x opened) told has) opening from (subst (λ (k : Container). c < blocks k.rows) entry below) needs
    (subst (λ (xs : List (Option ℕ)). after ≤ before + block_cost (length p.entry.columns) (get_or p.entry.containers i blank) xs) are_ps
    (subst (λ (k : Container). after ≤ before + block_cost (length p.entry.columns) k qs) entry (subst (λ (x : Projection). after ≤ before + block_cost (length x.columns) (get_or ks i blank) qs) same le)))
