-- A step of a scan.
use Rattle.catalog_types.specs.Blank.{blank_container as blank}
use Rattle.std.proofs.Common.{◌≡◌, ◌⊎◌, inl, inr, Bool, false, ℕ, zero, suc, ◌+◌, ◌-◌, ◌*◌, ◌≤◌, ◌<◌, ◌++◌, min, List, [], ◌∷◌, length, map, take, drop, get_or, refl, sym, ap, ap₂, ◌∙◌, arith, subst}
use Rattle.std.specs.Prelude.{Option, Some, None, IsSomeAnd, slice_range, sum_by}
use Rattle.std.specs.List.{All, slice_get}
use Rattle.std.specs.Option.{IfSome, option_map_or}
use Rattle.std.proofs.lemmas.List.{append_assoc, append-nil, length-drop}
use Rattle.std.proofs.lemmas.List.Elements.{All-append, All-cons, All-head, All-nil, All-tail}
use Rattle.std.proofs.lemmas.List.Folds.{drop_split}
use Rattle.std.proofs.lemmas.List.Sums.{sum_by-cons}
use Rattle.common_laws.specs.Maps.{Contents}
use Rattle.catalog_types.specs.declared.catalogue.Container.{Container}
use Rattle.catalog_types.specs.declared.catalogue.Projection.{Projection}
use Rattle.col_disk.specs.declared.disk.StoreFault.{StoreFault}
use Rattle.col_disk.specs.declared.disk.StoreFault.TheVariants.{Disk, Damaged, Memory}
use Rattle.col_value.specs.declared.row.Asked.{Asked}
use Rattle.col_value.specs.declared.row.Stamped.{Stamped}
use Rattle.pos_index.specs.Index.{blocks}
use Rattle.row_history.specs.History.{stamped}
use Rattle.ros_container.specs.Encodings.{Written, written_of}
use Rattle.ros_container.specs.Held.{BlamesContainer, HoldsContainer}
use Rattle.ros_container.proofs.Blames.{blamed_holds_none}
use Rattle.stored_rows.specs.Held.{stamped_from}
use Rattle.stored_rows.specs.Stored.{Beside, mark_in, Projected, StoresRows}
use Rattle.write_store.specs.declared.held.Held.{Held}
use Rattle.write_store.specs.Memory.{stamp}
use Rattle.container_blocks.specs.Blocks.{rows_in}
use Rattle.row_bounds.specs.Bounds.{within}
use Rattle.row_bounds.specs.declared.bound.Bound.{Bound}
use Rattle.query_cover.specs.Seen.{placed}
use Rattle.exec_scan.specs.Batches.{Shown}
use Rattle.exec_scan.specs.Opened.{HasOpened, IsOpening, Opening}
use Rattle.exec_scan.specs.Passing.{AreOut, IsPassed}
use Rattle.exec_scan.specs.Reading.{OfBlock, ShowsRows}
use Rattle.col_disk.specs.Faults.{IsUnblamed}
use Rattle.exec_scan.specs.Scanning.{AreLeft, AreOwn, BlamesContainerAt, Gives, HasOpenedAt, IsScanOf, Place, rows_passed, steps_left}
use Rattle.exec_scan.proofs.Handed.{at_some, some_at}
use Rattle.ros_container.proofs.Long.{container_long}
use Rattle.exec_scan.proofs.Passed.{Between, own_encodings, passed_out, shows, shows_later, ShowsAll}

abbrev pub at_place : ℕ → List (Option ℕ) → List Bound → Bool → ℕ → ℕ → Option Opening → ℕ → Place
at_place e ps w st i b o t = record { epoch = e; places = ps; bounds = w; stamps = st; container = i; block = b; opened = o; taken = t }

-- ---- the container at a place

-- the rows from a container on: its own, and those behind it
record StoresAt (m : Contents) (es : List Written) (ks : List Container) (bs : List Beside) (i : ℕ) (saved : List Stamped) : Type 0 where
  entry : Container
  kept : Beside
  at : slice_get ks i ≡ Some entry
  beside_at : slice_get bs i ≡ Some kept
  asked : List Asked
  held : HoldsContainer m es entry asked
  more : List Stamped
  rest : StoresRows m es (drop (suc i) ks) (drop (suc i) bs) more
  all : saved ≡ stamped_from 0 (mark_in kept) asked ++ more

stores_at : (m : Contents) (es : List Written) (ks : List Container) (bs : List Beside) (i : ℕ) (saved : List Stamped) → i < length ks → StoresRows m es (drop i ks) (drop i bs) saved → StoresAt m es ks bs i saved
stores_at m es [] bs i saved lt is = absurd (omega (arith, lt))
stores_at m es (k ∷ ks) [] zero saved lt is = absurd is
stores_at m es (k ∷ ks) (b ∷ bs) zero saved lt (here, more, vector, (asked, held, are), behind, all) = record {
  entry = k;
  kept = b;
  at = refl;
  beside_at = refl;
  asked = asked;
  held = held;
  more = more;
  rest = behind;
  all = all ∙ ap (λ (xs : List Stamped). xs ++ more) are;
}
stores_at m es (k ∷ ks) [] (suc i) saved lt is =
    let s = stores_at m es ks [] i saved (omega (arith, lt)) (none i is) in
    absurd (cc)
  where
    none : (j : ℕ) → StoresRows m es (drop j ks) [] saved → StoresRows m es (drop j ks) (drop j []) saved
    none zero is = is
    none (suc j) is = is
stores_at m es (k ∷ ks) (b ∷ bs) (suc i) saved lt is =
    let s = stores_at m es ks bs i saved (omega (arith, lt)) is in
    record { entry = s.entry; kept = s.kept; at = s.at; beside_at = s.beside_at; asked = s.asked; held = s.held; more = s.more; rest = s.rest; all = s.all }

pub got : {X : Type 0} (xs : List X) (i : ℕ) (x d : X) → slice_get xs i ≡ Some x → get_or xs i d ≡ x
got [] i x d is = absurd (cc)
got (y ∷ xs) zero x d is = cc
got (y ∷ xs) (suc i) x d is = got xs i x d is

at_one : {X : Type 0} (P : X → Type 0) (o : Option X) (x : X) → o ≡ Some x → IsSomeAnd o P → P x
at_one P o x is has = subst (λ (q : Option _). IsSomeAnd q P) is has

one_at : {X : Type 0} (P : X → Type 0) (o : Option X) (x : X) → o ≡ Some x → P x → IsSomeAnd o P
one_at P o x is has = subst (λ (q : Option _). IsSomeAnd q P) (sym is) has

opened_here : (p : Projected) (i : ℕ) (ps : List (Option ℕ)) (holds : Option Contents) (opened : Opening) (k : Container) (b : Beside) → slice_get p.entry.containers i ≡ Some k → slice_get p.beside i ≡ Some b
    → HasOpenedAt p i ps holds opened → HasOpened (written_of p.entry) k (length p.entry.columns) b ps holds opened
opened_here p i ps holds opened k b at beside_at has =
    at_one (λ x. HasOpened (written_of p.entry) k (length p.entry.columns) x ps holds opened) (slice_get p.beside i) b beside_at
    (at_one (λ c. IsSomeAnd (slice_get p.beside i) (λ x. HasOpened (written_of p.entry) c (length p.entry.columns) x ps holds opened)) (slice_get p.entry.containers i) k at has)

-- ---- a file that is blamed

unblamed_of : (es : List Written) (k : Container) (m : Contents) (holds : Option Contents) (fault : StoreFault) (asked : List Asked) → holds ≡ Some m → HoldsContainer m es k asked → BlamesContainer es k holds fault → IsUnblamed fault
unblamed_of es k m holds (Damaged q) asked told held blames = blamed_holds_none es k holds (Damaged q) blames m told asked held
unblamed_of es k m holds Disk asked told held blames = tt
unblamed_of es k m holds Memory asked told held blames = tt

pub unblamed_at : (m : Contents) (holds : Option Contents) (p : Projected) (e : ℕ) (ps : List (Option ℕ)) (w : List Bound) (st : Bool) (i b : ℕ) (o : Option Opening) (t : ℕ) (left : List Stamped) (fault : StoreFault) → holds ≡ Some m → i < length p.entry.containers
    → AreLeft m p (at_place e ps w st i b o t) left → BlamesContainerAt p.entry i holds fault → IsUnblamed fault
unblamed_at m holds p e ps w st i b o t left fault told lt are blames =
    let s = stores_at m (written_of p.entry) p.entry.containers p.beside i are.saved lt are.stored in
    unblamed_of (written_of p.entry) s.entry m holds fault s.asked told s.held (at_one (λ k. BlamesContainer (written_of p.entry) k holds fault) (slice_get p.entry.containers i) s.entry s.at blames)

-- ---- how many rows were handed over

pub passed_none : (p : Projection) (e : ℕ) (ps : List (Option ℕ)) (w : List Bound) (st : Bool) (i : ℕ) (o : Option Opening) (t : ℕ) → rows_passed p (at_place e ps w st i 0 o t) ≡ 0
passed_none p e ps w st i o t = by (slice_get p.containers i)
  where
    by : (q : Option Container) → option_map_or (λ k. min (1024 * 0) k.rows) q 0 ≡ 0
    by None = refl
    by (Some k) = omega arith

passed_at : (p : Projection) (e : ℕ) (ps : List (Option ℕ)) (w : List Bound) (st : Bool) (i b : ℕ) (o : Option Opening) (t : ℕ) (k : Container) → slice_get p.containers i ≡ Some k → rows_passed p (at_place e ps w st i b o t) ≡ min (1024 * b) k.rows
passed_at p e ps w st i b o t k at = ap (λ (q : Option Container). option_map_or (λ x. min (1024 * b) x.rows) q 0) at

drop_front : (n : ℕ) (xs ys : List Stamped) → n ≤ length xs → drop n (xs ++ ys) ≡ drop n xs ++ ys
drop_front zero xs ys le = refl
drop_front (suc n) [] ys le = absurd (omega (arith, le))
drop_front (suc n) (x ∷ xs) ys le = drop_front n xs ys (omega (arith, le))

drop_whole : (xs ys : List Stamped) → drop (length xs) xs ++ ys ≡ ys
drop_whole [] ys = refl
drop_whole (x ∷ xs) ys = drop_whole xs ys

stamped_long : (mark : ℕ → Option ℕ) (at : ℕ) (rows : List Asked) → length (stamped_from at mark rows) ≡ length rows
stamped_long mark at [] = refl
stamped_long mark at (a ∷ rows) = ap suc (stamped_long mark (at + 1) rows)

drop_stamped : (mark : ℕ → Option ℕ) (n at : ℕ) (rows : List Asked) → drop n (stamped_from at mark rows) ≡ stamped_from (at + n) mark (drop n rows)
drop_stamped mark zero at rows = let same : at ≡ at + 0 = omega arith in ap (λ (x : ℕ). stamped_from x mark rows) same
drop_stamped mark (suc n) at [] = refl
drop_stamped mark (suc n) at (a ∷ rows) = let far : (at + 1) + n ≡ at + suc n = omega arith in drop_stamped mark n (at + 1) rows ∙ ap (λ (x : ℕ). stamped_from x mark (drop n rows)) far

take_stamped : (mark : ℕ → Option ℕ) (n at : ℕ) (rows : List Asked) → take n (stamped_from at mark rows) ≡ stamped_from at mark (take n rows)
take_stamped mark zero at rows = refl
take_stamped mark (suc n) at [] = refl
take_stamped mark (suc n) at (a ∷ rows) = ap (λ (xs : List Stamped). stamped (mark at) a ∷ xs) (take_stamped mark n (at + 1) rows)

take_min : (n : ℕ) (rows : List Asked) → take (min n (length rows)) rows ≡ take n rows
take_min zero rows = ap (λ (x : ℕ). take x rows) (let none : min 0 (length rows) ≡ 0 = omega arith in none)
take_min (suc n) [] = ap (λ (x : ℕ). take x []) (let none : min (suc n) 0 ≡ 0 = omega arith in none)
take_min (suc n) (a ∷ rows) =
    let up : min (suc n) (suc (length rows)) ≡ suc (min n (length rows)) = omega arith in
    ap (λ (x : ℕ). take x (a ∷ rows)) up ∙ ap (λ (xs : List Asked). a ∷ xs) (take_min n rows)

-- the rows of a block are the next ones of its container
next_rows : (mark : ℕ → Option ℕ) (asked : List Asked) (rows b : ℕ) → length asked ≡ rows → b < blocks rows
    → drop (min (1024 * b) rows) (stamped_from 0 mark asked) ≡ stamped_from (1024 * b) mark (rows_in b asked) ++ drop (min (1024 * (b + 1)) rows) (stamped_from 0 mark asked)
next_rows mark asked rows b long lt =
    let here = stamped_from 0 mark asked in
    let from : min (1024 * b) rows ≡ 1024 * b = omega (arith, lt) in
    let upto = min (1024 * (b + 1)) rows in
    let le : 1024 * b ≤ upto = omega (arith, lt) in
    let j : upto - 1024 * b ≡ min 1024 (length (drop (1024 * b) asked)) = omega (arith, lt, long, length-drop (1024 * b) asked) in
    let zero_on : 0 + 1024 * b ≡ 1024 * b = omega arith in
    ap (λ (n : ℕ). drop n here) from ∙ drop_split here (1024 * b) upto le
    ∙ ap (λ (xs : List Stamped). take (upto - 1024 * b) xs ++ drop upto here) (drop_stamped mark (1024 * b) 0 asked ∙ ap (λ (x : ℕ). stamped_from x mark (drop (1024 * b) asked)) zero_on)
    ∙ ap (λ (xs : List Stamped). xs ++ drop upto here) (take_stamped mark (upto - 1024 * b) (1024 * b) (drop (1024 * b) asked))
    ∙ ap (λ (xs : List Asked). stamped_from (1024 * b) mark xs ++ drop upto here) (ap (λ (n : ℕ). take n (drop (1024 * b) asked)) j ∙ take_min 1024 (drop (1024 * b) asked))

-- ---- blocks that are passed over

drop_past : {X : Type 0} (n : ℕ) (xs : List X) → length xs ≤ n → drop n xs ≡ []
drop_past zero [] le = refl
drop_past zero (x ∷ xs) le = absurd (omega (arith, le))
drop_past (suc n) [] le = refl
drop_past (suc n) (x ∷ xs) le = drop_past n xs (omega (arith, le))

-- these are the rows of blocks that are passed over, up to some others
record Skipped (w : List Bound) (ps : List (Option ℕ)) (all rest : List Stamped) : Type 0 where
  passed : List Stamped
  are : all ≡ passed ++ rest
  out : All (λ a. within w (placed ps a.row) ≡ false) passed

out_stamped : (w : List Bound) (ps : List (Option ℕ)) (mark : ℕ → Option ℕ) (at : ℕ) (rows : List Asked) → AreOut w ps rows → All (λ a. within w (placed ps a.row) ≡ false) (stamped_from at mark rows)
out_stamped w ps mark at [] out = All-nil (λ (a : Stamped). within w (placed ps a.row) ≡ false)
out_stamped w ps mark at (a ∷ rows) out =
    All-cons (λ (x : Stamped). within w (placed ps x.row) ≡ false) (stamped (mark at) a) (stamped_from (at + 1) mark rows) (All-head (λ (x : Asked). within w (placed ps x.row) ≡ false) a rows out)
    (out_stamped w ps mark (at + 1) rows (All-tail (λ (x : Asked). within w (placed ps x.row) ≡ false) a rows out))

skipped : (w : List Bound) (ps : List (Option ℕ)) (mark : ℕ → Option ℕ) (asked : List Asked) (rows n b c : ℕ) → length asked ≡ rows → b + n ≡ c → c ≤ blocks rows → ((j : ℕ) → b ≤ j → j < c → AreOut w ps (rows_in j asked))
    → Skipped w ps (drop (min (1024 * b) rows) (stamped_from 0 mark asked)) (drop (min (1024 * c) rows) (stamped_from 0 mark asked))
skipped w ps mark asked rows zero b c long upto le out =
    let same : b ≡ c = omega (arith, upto) in
    record {
      passed = [];
      are = ap (λ (n : ℕ). drop (min (1024 * n) rows) (stamped_from 0 mark asked)) same;
      out = All-nil (λ (a : Stamped). within w (placed ps a.row) ≡ false);
    }
skipped w ps mark asked rows (suc n) b c long upto le out =
    let lt : b < blocks rows = omega (arith, upto, le) in
    let here = stamped_from (1024 * b) mark (rows_in b asked) in
    let more = skipped w ps mark asked rows n (b + 1) c long (omega (arith, upto)) le (λ j from below. out j (omega (arith, from)) below) in
    record {
      passed = here ++ more.passed;
      are =
          next_rows mark asked rows b long lt ∙ ap (λ (xs : List Stamped). here ++ xs) more.are
          ∙ sym (append_assoc here more.passed (drop (min (1024 * c) rows) (stamped_from 0 mark asked)));
      out = All-append (λ (a : Stamped). within w (placed ps a.row) ≡ false) here more.passed (out_stamped w ps mark (1024 * b) (rows_in b asked) (out b (omega arith) (omega (arith, upto)))) more.out;
    }

record SkippedRest (w : List Bound) (ps : List (Option ℕ)) (all : List Stamped) : Type 0 where
  passed : List Stamped
  are : all ≡ passed
  out : All (λ a. within w (placed ps a.row) ≡ false) passed

-- from a block on all are passed over
skipped_rest : (w : List Bound) (ps : List (Option ℕ)) (mark : ℕ → Option ℕ) (asked : List Asked) (rows b : ℕ) → length asked ≡ rows → ((j : ℕ) → b ≤ j → j < blocks rows → AreOut w ps (rows_in j asked))
    → SkippedRest w ps (drop (min (1024 * b) rows) (stamped_from 0 mark asked))
skipped_rest w ps mark asked rows b long out = by (grind arith)
  where
    here : List Stamped
    here = stamped_from 0 mark asked

    by : (b ≤ blocks rows) ⊎ (blocks rows < b) → SkippedRest w ps (drop (min (1024 * b) rows) here)
    by (inl le) =
        let skip = skipped w ps mark asked rows (blocks rows - b) b (blocks rows) long (omega (arith, le)) (omega arith) out in
        let none : drop (min (1024 * blocks rows) rows) here ≡ [] = drop_past (min (1024 * blocks rows) rows) here (omega (arith, long, stamped_long mark 0 asked)) in
        record {
          passed = skip.passed;
          are = skip.are ∙ ap (λ (xs : List Stamped). skip.passed ++ xs) none ∙ append-nil skip.passed;
          out = skip.out;
        }
    by (inr past) = record {
      passed = [];
      are = drop_past (min (1024 * b) rows) here (omega (arith, past, long, stamped_long mark 0 asked));
      out = All-nil (λ (a : Stamped). within w (placed ps a.row) ≡ false);
    }

-- ---- behind the last block

pub done_gives : Between → (m : Contents) (holds : Option Contents) (p : Projected) (e : ℕ) (ps : List (Option ℕ)) (w : List Bound) (st : Bool) (i b c : ℕ) (o none : Option Opening) (opened : Opening) (t : ℕ) (shown : Shown) (shape : Projection) (ks : List Container) (left : List Stamped)
    → holds ≡ Some m → shape ≡ p.entry → ks ≡ shape.containers → i < length p.entry.containers → blocks (get_or ks i blank).rows ≤ c → none ≡ None → shown.rows ≡ [] → shown.inserted ≡ []
    → AreOwn p.entry ps → HasOpenedAt p i ps holds opened → IsSomeAnd (slice_get p.entry.containers i) (λ k. IsOpening k.rows ps opened) → ((j : ℕ) → b ≤ j → j < c → IsPassed w opened.indexes j)
    → AreLeft m p (at_place e ps w st i b o t) left → Gives m p (at_place e ps w st i b o t) (at_place e ps w st (i + 1) 0 none t) left (Some shown)
done_gives between m holds p e ps w st i b c o none opened t shown shape ks left told same are_ks lt past is_none no_row no_epoch owned has opening misses are =
    let s = stores_at m (written_of p.entry) p.entry.containers p.beside i are.saved lt are.stored in
    let ks_are : ks ≡ p.entry.containers = are_ks ∙ ap (λ (x : Projection). x.containers) same in
    let entry : get_or ks i blank ≡ s.entry = ap (λ (xs : List Container). get_or xs i blank) ks_are ∙ got p.entry.containers i s.entry blank s.at in
    let mark = mark_in s.kept in
    let here = stamped_from 0 mark s.asked in
    let long = container_long m (written_of p.entry) s.entry s.asked s.held in
    let many : length here ≡ s.entry.rows = stamped_long mark 0 s.asked ∙ long in
    let behind : blocks s.entry.rows ≤ c = subst (λ (k : Container). blocks k.rows ≤ c) entry past in
    let skip = skipped_rest w ps mark s.asked s.entry.rows b long
    (λ j from below. passed_out between m (written_of p.entry) s.entry holds ps opened s.asked w j told s.held (own_encodings p.entry ps owned)
    (opened_here p i ps holds opened s.entry s.kept s.at s.beside_at has) (at_one (λ k. IsOpening k.rows ps opened) (slice_get p.entry.containers i) s.entry s.at opening) below (misses j from (omega (arith, below, behind)))) in
    let first : min (1024 * b) s.entry.rows ≤ length here = omega (arith, many) in
    let next : suc i ≡ i + 1 = omega arith in
    let rest : left ≡ skip.passed ++ (s.more ++ drop t p.unsaved) =
    are.left ∙ ap₂ (λ (n : ℕ) (xs : List Stamped). drop n xs ++ drop t p.unsaved) (passed_at p.entry e ps w st i b o t s.entry s.at) s.all
    ∙ ap (λ (xs : List Stamped). xs ++ drop t p.unsaved) (drop_front (min (1024 * b) s.entry.rows) here s.more first)
    ∙ append_assoc (drop (min (1024 * b) s.entry.rows) here) s.more (drop t p.unsaved)
    ∙ ap (λ (xs : List Stamped). xs ++ (s.more ++ drop t p.unsaved)) skip.are in (
      skip.passed,
      s.more ++ drop t p.unsaved,
      rest,
      shows (at_place e ps w st i b o t) [] skip.passed skip.passed shown (sym (append-nil skip.passed)) skip.out (record { rows = no_row; inserted = λ stamps. no_epoch }),
      record {
        saved = s.more;
        stored = subst (λ (n : ℕ). StoresRows m (written_of p.entry) (drop n p.entry.containers) (drop n p.beside) s.more) next s.rest;
        at_hand = subst (λ (q : Option Opening). IfSome q (HasOpenedAt p (i + 1) ps (Some m))) (sym is_none) tt;
        left = ap (λ (n : ℕ). drop n s.more ++ drop t p.unsaved) (sym (passed_none p.entry e ps w st (i + 1) none t));
      },
    )

-- ---- a block

pub block_gives : Between → (m : Contents) (holds : Option Contents) (p : Projected) (e : ℕ) (ps : List (Option ℕ)) (w : List Bound) (st : Bool) (i b c : ℕ) (o : Option Opening) (opened : Opening) (t : ℕ) (shown : Shown) (shape : Projection) (ks : List Container)
    (left : List Stamped) → holds ≡ Some m → shape ≡ p.entry → ks ≡ shape.containers → i < length p.entry.containers → b ≤ c → c < blocks (get_or ks i blank).rows
    → AreOwn p.entry ps → HasOpenedAt p i ps holds opened → IsSomeAnd (slice_get p.entry.containers i) (λ k. IsOpening k.rows ps opened) → ((j : ℕ) → b ≤ j → j < c → IsPassed w opened.indexes j)
    → ((bes : Beside) → HasOpened (written_of shape) (get_or ks i blank) (length shape.columns) bes ps holds opened → OfBlock (ShowsRows e ps w st (mark_in bes) (1024 * c) shown) holds (written_of shape) (get_or ks i blank) c)
    → AreLeft m p (at_place e ps w st i b o t) left → Gives m p (at_place e ps w st i b o t) (at_place e ps w st i (c + 1) (Some opened) t) left (Some shown)
block_gives between m holds p e ps w st i b c o opened t shown shape ks left told same are_ks lt from below owned has opening misses found are =
    let s = stores_at m (written_of p.entry) p.entry.containers p.beside i are.saved lt are.stored in
    let ks_are : ks ≡ p.entry.containers = are_ks ∙ ap (λ (x : Projection). x.containers) same in
    let entry : get_or ks i blank ≡ s.entry = ap (λ (xs : List Container). get_or xs i blank) ks_are ∙ got p.entry.containers i s.entry blank s.at in
    let mark = mark_in s.kept in
    let here = stamped_from 0 mark s.asked in
    let long = container_long m (written_of p.entry) s.entry s.asked s.held in
    let within : c < blocks s.entry.rows = subst (λ (k : Container). c < blocks k.rows) entry below in
    let own : HasOpened (written_of p.entry) s.entry (length p.entry.columns) s.kept ps holds opened = opened_here p i ps holds opened s.entry s.kept s.at s.beside_at has in
    let shape_own : HasOpened (written_of shape) (get_or ks i blank) (length shape.columns) s.kept ps holds opened =
    subst (λ (k : Container). HasOpened (written_of shape) k (length shape.columns) s.kept ps holds opened) (sym entry)
    (subst (λ (x : Projection). HasOpened (written_of x) s.entry (length x.columns) s.kept ps holds opened) (sym same) own) in
    let shape_held : HoldsContainer m (written_of shape) (get_or ks i blank) s.asked =
    subst (λ (k : Container). HoldsContainer m (written_of shape) k s.asked) (sym entry) (subst (λ (x : Projection). HoldsContainer m (written_of x) s.entry s.asked) (sym same) s.held) in
    let skip = skipped w ps mark s.asked s.entry.rows (c - b) b c long (omega (arith, from)) (omega (arith, within))
    (λ j first upto. passed_out between m (written_of p.entry) s.entry holds ps opened s.asked w j told s.held (own_encodings p.entry ps owned) own
    (at_one (λ k. IsOpening k.rows ps opened) (slice_get p.entry.containers i) s.entry s.at opening) (omega (arith, upto, within)) (misses j first upto)) in
    let came = stamped_from (1024 * c) mark (rows_in c s.asked) in
    let next = skip.passed ++ came in
    let upto = min (1024 * (c + 1)) s.entry.rows in
    let many : length here ≡ s.entry.rows = stamped_long mark 0 s.asked ∙ long in
    let first : min (1024 * b) s.entry.rows ≤ length here = omega (arith, many) in
    let later : upto ≤ length here = omega (arith, many) in
    let rest = drop upto here ++ (s.more ++ drop t p.unsaved) in
    let split : left ≡ next ++ rest =
    are.left ∙ ap₂ (λ (n : ℕ) (xs : List Stamped). drop n xs ++ drop t p.unsaved) (passed_at p.entry e ps w st i b o t s.entry s.at) s.all
    ∙ ap (λ (xs : List Stamped). xs ++ drop t p.unsaved) (drop_front (min (1024 * b) s.entry.rows) here s.more first)
    ∙ append_assoc (drop (min (1024 * b) s.entry.rows) here) s.more (drop t p.unsaved)
    ∙ ap (λ (xs : List Stamped). xs ++ (s.more ++ drop t p.unsaved)) (skip.are ∙ ap (λ (xs : List Stamped). skip.passed ++ xs) (next_rows mark s.asked s.entry.rows c long within) ∙ sym (append_assoc skip.passed came (drop upto here)))
    ∙ append_assoc next (drop upto here) (s.more ++ drop t p.unsaved) in (
      next,
      rest,
      split,
      shows_later (at_place e ps w st i b o t) skip.passed came shown skip.out (found s.kept shape_own m told s.asked shape_held),
      record {
        saved = are.saved;
        stored = are.stored;
        at_hand = subst (λ (h : Option Contents). HasOpenedAt p i ps h opened) told has;
        left =
            sym
            (ap₂ (λ (n : ℕ) (xs : List Stamped). drop n xs ++ drop t p.unsaved) (passed_at p.entry e ps w st i (c + 1) (Some opened) t s.entry s.at) s.all
            ∙ ap (λ (xs : List Stamped). xs ++ drop t p.unsaved) (drop_front upto here s.more later)
            ∙ append_assoc (drop upto here) s.more (drop t p.unsaved));
      },
    )

pub block_unblamed : (m : Contents) (holds : Option Contents) (p : Projected) (e : ℕ) (ps : List (Option ℕ)) (w : List Bound) (st : Bool) (i b : ℕ) (o : Option Opening) (opened : Opening) (t : ℕ) (shape : Projection) (ks : List Container)
    (left : List Stamped) (fault : StoreFault) → holds ≡ Some m → shape ≡ p.entry → ks ≡ shape.containers → i < length p.entry.containers → HasOpenedAt p i ps holds opened
    → ((bes : Beside) → HasOpened (written_of shape) (get_or ks i blank) (length shape.columns) bes ps holds opened → BlamesContainer (written_of shape) (get_or ks i blank) holds fault)
    → AreLeft m p (at_place e ps w st i b o t) left → IsUnblamed fault
block_unblamed m holds p e ps w st i b o opened t shape ks left fault told same are_ks lt has blames are =
    let s = stores_at m (written_of p.entry) p.entry.containers p.beside i are.saved lt are.stored in
    let ks_are : ks ≡ p.entry.containers = are_ks ∙ ap (λ (x : Projection). x.containers) same in
    let entry : get_or ks i blank ≡ s.entry = ap (λ (xs : List Container). get_or xs i blank) ks_are ∙ got p.entry.containers i s.entry blank s.at in
    let own : HasOpened (written_of p.entry) s.entry (length p.entry.columns) s.kept ps holds opened = opened_here p i ps holds opened s.entry s.kept s.at s.beside_at has in
    let shape_own : HasOpened (written_of shape) (get_or ks i blank) (length shape.columns) s.kept ps holds opened =
    subst (λ (k : Container). HasOpened (written_of shape) k (length shape.columns) s.kept ps holds opened) (sym entry)
    (subst (λ (x : Projection). HasOpened (written_of x) s.entry (length x.columns) s.kept ps holds opened) (sym same) own) in
    let shape_held : HoldsContainer m (written_of shape) (get_or ks i blank) s.asked =
    subst (λ (k : Container). HoldsContainer m (written_of shape) k s.asked) (sym entry) (subst (λ (x : Projection). HoldsContainer m (written_of x) s.entry s.asked) (sym same) s.held) in
    unblamed_of (written_of shape) (get_or ks i blank) m holds fault s.asked told shape_held (blames s.kept shape_own)

-- what was at hand before is at hand now
pub handed : (p : Projected) (i : ℕ) (ps qs : List (Option ℕ)) (o q : Option Opening) (m : Contents) (holds : Option Contents) (opened : Opening) → q ≡ o → qs ≡ ps → holds ≡ Some m → IfSome o (HasOpenedAt p i ps (Some m))
    → (IfSome q (HasOpenedAt p i qs holds) → HasOpenedAt p i qs holds opened) → HasOpenedAt p i ps holds opened
handed p i ps qs o q m holds opened same are told was on =
    subst (λ (xs : List (Option ℕ)). HasOpenedAt p i xs holds opened) are
    (on (subst (λ (x : Option Opening). IfSome x (HasOpenedAt p i qs holds)) (sym same)
    (subst (λ (xs : List (Option ℕ)). IfSome o (HasOpenedAt p i xs holds)) (sym are) (subst (λ (h : Option Contents). IfSome o (HasOpenedAt p i ps h)) (sym told) was))))

-- ---- how many steps are left

sum_at : (f : Container → ℕ) (ks : List Container) (i : ℕ) (d : Container) → i < length ks → sum_by f (drop i ks) ≡ f (get_or ks i d) + sum_by f (drop (i + 1) ks)
sum_at f [] i d lt = absurd (omega (arith, lt))
sum_at f (k ∷ ks) zero d lt = sum_by-cons f k ks
sum_at f (k ∷ ks) (suc i) d lt =
    let up : suc i + 1 ≡ suc (i + 1) = omega arith in
    sum_at f ks i d (omega (arith, lt)) ∙ ap (λ (n : ℕ). f (get_or ks i d) + sum_by f (drop n (k ∷ ks))) (sym up)

pub done_fewer : (p : Projection) (u e : ℕ) (ps : List (Option ℕ)) (w : List Bound) (st : Bool) (i b : ℕ) (o none : Option Opening) (t : ℕ) (shape : Projection) (ks : List Container) → shape ≡ p → ks ≡ shape.containers → i < length p.containers
    → IsScanOf p (at_place e ps w st i b o t) → steps_left p u (at_place e ps w st (i + 1) 0 none t) < steps_left p u (at_place e ps w st i b o t)
done_fewer p u e ps w st i b o ended t shape ks same are lt is =
    let k = get_or p.containers i blank in
    let sum = sum_at (λ x. blocks x.rows + 1) p.containers i blank lt in
    let at_most : b ≤ blocks k.rows = by o refl in
    omega (arith, sum, at_most)
  where
    by : (q : Option Opening) → o ≡ q → b ≤ blocks (get_or p.containers i blank).rows
    by None none_is = let zero_is : b ≡ 0 = is.closed none_is in omega (arith, zero_is)
    by (Some x) some_is =
        let there = subst (λ (q : Option Opening). IfSome q (λ y. IsSomeAnd (slice_get p.containers i) (λ k. IsOpening k.rows ps y × (b ≤ blocks k.rows)))) some_is is.opening in
        (at_some (λ k. IsOpening k.rows ps x × (b ≤ blocks k.rows)) p.containers i blank there).1

pub next_fewer : (p : Projection) (u e : ℕ) (ps : List (Option ℕ)) (w : List Bound) (st : Bool) (i b c : ℕ) (o : Option Opening) (opened : Opening) (t : ℕ) (shape : Projection) (ks : List Container) → shape ≡ p → ks ≡ shape.containers → i < length p.containers
    → b ≤ c → c < blocks (get_or ks i blank).rows → steps_left p u (at_place e ps w st i (c + 1) (Some opened) t) < steps_left p u (at_place e ps w st i b o t)
next_fewer p u e ps w st i b c o opened t shape ks same are lt from below =
    let ks_are : ks ≡ p.containers = are ∙ ap (λ (x : Projection). x.containers) same in
    let k = get_or p.containers i blank in
    let sum = sum_at (λ x. blocks x.rows + 1) p.containers i blank lt in
    let here : c < blocks k.rows = subst (λ (xs : List Container). c < blocks (get_or xs i blank).rows) ks_are below in
    omega (arith, sum, from, here)

pub next_scan : (p : Projection) (e : ℕ) (ps : List (Option ℕ)) (w : List Bound) (st : Bool) (i b c : ℕ) (o : Option Opening) (opened : Opening) (t : ℕ) (shape : Projection) (ks : List Container) → shape ≡ p → ks ≡ shape.containers → i < length p.containers
    → c < blocks (get_or ks i blank).rows → IsSomeAnd (slice_get p.containers i) (λ k. IsOpening k.rows ps opened) → IsScanOf p (at_place e ps w st i b o t) → IsScanOf p (at_place e ps w st i (c + 1) (Some opened) t)
next_scan p e ps w st i b c o opened t shape ks same are lt below opening is =
    let ks_are : ks ≡ p.containers = are ∙ ap (λ (x : Projection). x.containers) same in
    let k = get_or p.containers i blank in
    let here : c < blocks k.rows = subst (λ (xs : List Container). c < blocks (get_or xs i blank).rows) ks_are below in
    record {
      own = is.own;
      opening = some_at (λ x. IsOpening x.rows ps opened × (c + 1 ≤ blocks x.rows)) p.containers i blank lt
          (at_some (λ x. IsOpening x.rows ps opened) p.containers i blank opening, omega (arith, here));
      closed = λ none. absurd (cc);
    }

-- behind the last block of a container none is at hand
pub done_scan : (p : Projection) (e : ℕ) (ps : List (Option ℕ)) (w : List Bound) (st : Bool) (i b : ℕ) (o n : Option Opening) (t : ℕ) → n ≡ None → IsScanOf p (at_place e ps w st i b o t) → IsScanOf p (at_place e ps w st (i + 1) 0 n t)
done_scan p e ps w st i b o n t none is = record {
  own = is.own;
  opening = subst (λ (x : Option Opening). IfSome x (λ y. IsSomeAnd (slice_get p.containers (i + 1)) (λ k. IsOpening k.rows ps y × (0 ≤ blocks k.rows)))) (sym none) tt;
  closed = λ closed. refl;
}

pub opening_here : (p shape : Projection) (ks : List Container) (i : ℕ) (ps qs : List (Option ℕ)) (opened : Opening) → shape ≡ p → ks ≡ shape.containers → qs ≡ ps → IsSomeAnd (slice_get p.containers i) (λ k. IsOpening k.rows ps opened)
    → IsOpening (get_or ks i blank).rows qs opened
opening_here p shape ks i ps qs opened same are are_ps opening =
    let ks_are : ks ≡ p.containers = are ∙ ap (λ (x : Projection). x.containers) same in
    subst (λ (xs : List (Option ℕ)). IsOpening (get_or ks i blank).rows xs opened) (sym are_ps)
    (subst (λ (xs : List Container). IsOpening (get_or xs i blank).rows ps opened) (sym ks_are) (at_some (λ k. IsOpening k.rows ps opened) p.containers i blank opening))

-- ---- rows in memory

slice_mapped : (xs : List Held) (a b : ℕ) → slice_range (map stamp xs) a b ≡ map stamp (slice_range xs a b)
slice_mapped xs a b = ap (take (b - a)) (dropped a xs) ∙ taken (b - a) (drop a xs)
  where
    dropped : (n : ℕ) (ys : List Held) → drop n (map stamp ys) ≡ map stamp (drop n ys)
    dropped zero ys = refl
    dropped (suc n) [] = refl
    dropped (suc n) (y ∷ ys) = dropped n ys

    taken : (n : ℕ) (ys : List Held) → take n (map stamp ys) ≡ map stamp (take n ys)
    taken zero ys = refl
    taken (suc n) [] = refl
    taken (suc n) (y ∷ ys) = ap (λ (zs : List Stamped). stamp y ∷ zs) (taken n ys)

nothing_saved : (m : Contents) (es : List Written) (bs : List Beside) (saved : List Stamped) → StoresRows m es [] bs saved → saved ≡ []
nothing_saved m es [] saved is = is
nothing_saved m es (b ∷ bs) saved is = absurd is

abbrev no_rows : List Stamped
no_rows = []

drop_none : (n : ℕ) → drop n no_rows ≡ no_rows
drop_none zero = refl
drop_none (suc n) = refl

-- behind the last container no row of one is left
memory_left : (m : Contents) (p : Projected) (s : Place) (left : List Stamped) → length p.entry.containers ≤ s.container → AreLeft m p s left → left ≡ drop s.taken p.unsaved
memory_left m p s left past are =
    let none : are.saved ≡ [] = nothing_saved m (written_of p.entry) (drop s.container p.beside) are.saved
    (subst (λ (ks : List Container). StoresRows m (written_of p.entry) ks (drop s.container p.beside) are.saved) (drop_past s.container p.entry.containers past) are.stored) in
    are.left ∙ ap (λ (xs : List Stamped). drop (rows_passed p.entry s) xs ++ drop s.taken p.unsaved) none ∙ ap (λ (xs : List Stamped). xs ++ drop s.taken p.unsaved) (drop_none (rows_passed p.entry s))

pub memory_gives : (m : Contents) (p : Projected) (e : ℕ) (ps : List (Option ℕ)) (w : List Bound) (st : Bool) (i b : ℕ) (o : Option Opening) (t upto : ℕ) (rows : List Held) (shown : Shown) (left : List Stamped)
    → map stamp rows ≡ p.unsaved → length p.entry.containers ≤ i → t ≤ upto → ShowsAll e ps st shown (map stamp (slice_range rows t upto))
    → AreLeft m p (at_place e ps w st i b o t) left → Gives m p (at_place e ps w st i b o t) (at_place e ps w st i b o upto) left (Some shown)
memory_gives m p e ps w st i b o t upto rows shown left stamps past le is are =
    let all = memory_left m p (at_place e ps w st i b o t) left past are in
    let next = slice_range p.unsaved t upto in
    let seen : map stamp (slice_range rows t upto) ≡ next = sym (slice_mapped rows t upto) ∙ ap (λ (xs : List Stamped). slice_range xs t upto) stamps in
    let none : are.saved ≡ [] = nothing_saved m (written_of p.entry) (drop i p.beside) are.saved
    (subst (λ (ks : List Container). StoresRows m (written_of p.entry) ks (drop i p.beside) are.saved) (drop_past i p.entry.containers past) are.stored) in
    let n = rows_passed p.entry (at_place e ps w st i b o upto) in (
      next,
      drop upto p.unsaved,
      all ∙ drop_split p.unsaved t upto le,
      shows (at_place e ps w st i b o t) next [] next shown refl (All-nil (λ (a : Stamped). within w (placed ps a.row) ≡ false)) (subst (λ (xs : List Stamped). ShowsAll e ps st shown xs) seen is),
      record {
        saved = are.saved;
        stored = are.stored;
        at_hand = are.at_hand;
        left = sym (ap (λ (xs : List Stamped). drop n xs ++ drop upto p.unsaved) none ∙ ap (λ (xs : List Stamped). xs ++ drop upto p.unsaved) (drop_none n));
      },
    )

pub none_left : (m : Contents) (p : Projected) (s : Place) (left : List Stamped) → length p.entry.containers ≤ s.container → length p.unsaved ≤ s.taken → AreLeft m p s left → left ≡ []
none_left m p s left past spent are = memory_left m p s left past are ∙ drop_past s.taken p.unsaved spent
