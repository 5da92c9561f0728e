-- The tables of two databases, compared place by place.
use Rattle.std.proofs.Common.{◌≡◌, ◌≤◌, ◌<◌, ◌++◌, ◌+◌, inl, inr, ℕ, zero, suc, Bool, true, false, cond, List, [], ◌∷◌, drop, filter, map, length, Option, Some, None, refl, sym, ap, ◌∙◌, subst, arith}
use Rattle.std.specs.Prelude.{bytes_eq, nat_le, nat_lt, IfNone, IfSome, IsSomeAnd}
use Rattle.std.specs.List.{slice_get, All, AllZip}
use Rattle.std.specs.Option.{option_map_or}
use Rattle.std.specs.Ordering.{is_eq, is_lt, nat_cmp}
use Rattle.std.specs.Cmp.Lexicographic.{slice_cmp}
use Rattle.std.proofs.lemmas.Bool.Decides.{nat_tests}
use Rattle.std.proofs.lemmas.List.Elements.{All-cons, All-filter, All-head, All-nil, All-tail, All-weaker}
use Rattle.std.proofs.lemmas.Option.{same_Some}
use Rattle.common_laws.specs.Bags.{SameBag}
use Rattle.common_laws.proofs.BagLaws.{bag_append, bag_filter, bag_map, bag_refl, bag_sym, bag_trans, count_append}
use Rattle.col_value.specs.declared.row.Stamped.{Stamped}
use Rattle.row_history.specs.History.{cut_delete, cut_row, cut_rows, is_retained, retained}
use Rattle.row_history.proofs.Histories.{retained_cut}
use Rattle.bag_difference.specs.Differences.{count_of, stamped_cmp, IsLeastDifference}
use Rattle.db_model.specs.Database.{Database, Table, table_named}
use Rattle.db_model.specs.Epochs.{cut}
use Rattle.db_model.specs.Sound.{HasEpochs, IsSoundDatabase, IsSoundTable}
use Rattle.bag_difference.proofs.Orders.{all_of_bag}
use Rattle.store_core.proofs.Purging.{found_of}
use Rattle.catch_laws.proofs.Committed.{rows_cut}
use Rattle.catch_model.specs.Caught.{history, later_mark, rows_of}
use Rattle.catch_model.specs.Refused.{IsAhead, IsOlder, IsOlderIn}
use Rattle.catch_model.specs.declared.fault.LinkFault.{LinkFault}
use Rattle.catch_model.specs.declared.fault.LinkFault.TheVariants as link
use Rattle.catch_files.specs.Parting.{IsShort}
use Rattle.catch_rows.specs.Sharing.{SharesRows}
use Rattle.catch_tables.specs.Told.{AreToldBy, History, IsLeastIn, IsToldBy, IsUpTo}
use Rattle.buddy_link.specs.Linking.{DifferAt, Ends, EndsAt, IsToldAt, SameAt}
use Rattle.buddy_link.proofs.Named.{none_from, AreNamedAlike, AreRising}

-- ---- the table at one place

cut_alike : (mark epoch : ℕ) (ys rows : List Stamped) → mark ≤ epoch → SameBag ys (retained mark rows) → SameBag (cut_rows epoch ys) (retained mark (cut_rows epoch rows))
cut_alike mark epoch ys rows le same =
    subst (SameBag (cut_rows epoch ys)) (sym (retained_cut mark epoch rows le))
    (bag_map (cut_row epoch) (filtered ys) (filtered (retained mark rows)) (bag_filter (λ s. nat_le s.ins epoch) ys (retained mark rows) same))
  where
    filtered : List Stamped → List Stamped
    filtered xs = filter (λ s. nat_le s.ins epoch) xs

named_told : (mark epoch : ℕ) (name : List ℕ) (common ys : List Stamped) (h : History) (p : Option Table) → All (IsUpTo epoch) common → h.name ≡ name → h.rows ≡ ys → IsSomeAnd p (λ u. u.name ≡ name) → IsSomeAnd p (λ u. SameBag (common ++ ys) (retained mark u.rows)) → IsSomeAnd p (IsToldBy mark epoch h)
named_told mark epoch name common ys h None early called has named rows = absurd named
named_told mark epoch name common ys h (Some u) early called has named rows = record { name = called ∙ sym named; common = common; early = early; rows = subst (λ (zs : List Stamped). SameBag (common ++ zs) (retained mark u.rows)) (sym has) rows }

same_told : (mark epoch : ℕ) (xs ys : List Stamped) (o p : Option Table) → mark ≤ epoch → IsSomeAnd o (λ t. SameBag xs (retained mark t.rows)) → IsSomeAnd p (λ u. SameBag ys (retained mark u.rows)) → SameBag xs (cut_rows epoch ys)
    → IsSomeAnd o (λ t. IsSomeAnd p (λ u. SameBag (retained mark t.rows) (retained mark (cut_rows epoch u.rows))))
same_told mark epoch xs ys None p le behind ahead same = absurd behind
same_told mark epoch xs ys (Some t) None le behind ahead same = absurd ahead
same_told mark epoch xs ys (Some t) (Some u) le behind ahead same =
    bag_trans (retained mark t.rows) xs (retained mark (cut_rows epoch u.rows)) (bag_sym xs (retained mark t.rows) behind)
    (bag_trans xs (cut_rows epoch ys) (retained mark (cut_rows epoch u.rows)) same (cut_alike mark epoch ys u.rows le ahead))

least_alike : (xs us ys vs : List Stamped) (row : Stamped) → SameBag xs us → SameBag ys vs → IsLeastIn xs ys row → IsLeastIn us vs row
least_alike xs us ys vs row one two (first, second, is) = (
  first,
  second,
  record {
    first = is.first ∙ one.counts (λ x. is_eq (stamped_cmp x row));
    second = is.second ∙ two.counts (λ x. is_eq (stamped_cmp x row));
    differ = is.differ;
    least = λ s less. sym (one.counts (λ x. is_eq (stamped_cmp x s))) ∙ is.least s less ∙ two.counts (λ x. is_eq (stamped_cmp x s));
  },
)

differ_told : (mark epoch : ℕ) (name : List ℕ) (row : Stamped) (xs ys : List Stamped) (o p : Option Table) → mark ≤ epoch → IsSomeAnd p (λ u. u.name ≡ name) → IsSomeAnd o (λ t. SameBag xs (retained mark t.rows)) → IsSomeAnd p (λ u. SameBag ys (retained mark u.rows)) → IsLeastIn xs (cut_rows epoch ys) row
    → IsSomeAnd o (λ t. IsSomeAnd p (λ u. (name ≡ u.name) × IsLeastIn (retained mark t.rows) (retained mark (cut_rows epoch u.rows)) row))
differ_told mark epoch name row xs ys None p le named behind ahead least = absurd behind
differ_told mark epoch name row xs ys (Some t) None le named behind ahead least = absurd ahead
differ_told mark epoch name row xs ys (Some t) (Some u) le named behind ahead least =
    (sym named, least_alike xs (retained mark t.rows) (cut_rows epoch ys) (retained mark (cut_rows epoch u.rows)) row behind (cut_alike mark epoch ys u.rows le ahead) least)

-- what was read of the table at a place, behind and ahead, and its name
pub record IsReadAt (mark place : ℕ) (name : List ℕ) (xs ys : List Stamped) (a b : Database) : Type 0 where
  pub named : IsSomeAnd (slice_get b.tables place) (λ u. u.name ≡ name)
  pub sound : All (IsSoundTable a) a.tables
  pub shares : IsSomeAnd (slice_get a.tables place) (λ t. IsSomeAnd (slice_get b.tables place) (λ u. SharesRows mark t.rows u.rows xs ys))

-- the same with what both have in common, of which nothing is later than the newest epoch behind
record HaveCommon (mark epoch : ℕ) (xs ys : List Stamped) (o p : Option Table) : Type 0 where
  pub common : List Stamped
  pub early : All (IsUpTo epoch) common
  pub behind : IsSomeAnd o (λ t. SameBag (common ++ xs) (retained mark t.rows))
  pub ahead : IsSomeAnd p (λ u. SameBag (common ++ ys) (retained mark u.rows))

all_front : {X : Type 0} (P : X → Type 0) (xs ys : List X) → All P (xs ++ ys) → All P xs
all_front P [] ys all = All-nil P
all_front P (x ∷ xs) ys all = All-cons P x xs (All-head P x (xs ++ ys) all) (all_front P xs ys (All-tail P x (xs ++ ys) all))

is_early : (epoch : ℕ) (s : Stamped) → HasEpochs epoch s → IsUpTo epoch s
is_early epoch s has = (has.inserted, by s.ins s.del has.deleted)
  where
    by : (n : ℕ) (o : Option ℕ) → IfSome o (λ e. (n < e) × (e ≤ epoch)) → IfSome o (λ d. d ≤ epoch)
    by n None is = tt
    by n (Some e) (lt, le) = le

all_at : {X : Type 0} (P : X → Type 0) (xs : List X) (i : ℕ) (x : X) → All P xs → slice_get xs i ≡ Some x → P x
all_at P [] i x all at = absurd (cc)
all_at P (y ∷ xs) zero x all at = subst P (same_Some y x at) (All-head P y xs all)
all_at P (y ∷ xs) (suc i) x all at = all_at P xs i x (All-tail P y xs all) at

have_common : (mark epoch place : ℕ) (xs ys : List Stamped) (a : Database) (o p : Option Table) → a.last ≡ epoch → All (IsSoundTable a) a.tables → slice_get a.tables place ≡ o → IsSomeAnd o (λ t. IsSomeAnd p (λ u. SharesRows mark t.rows u.rows xs ys)) → HaveCommon mark epoch xs ys o p
have_common mark epoch place xs ys a None p last sound at shares = absurd shares
have_common mark epoch place xs ys a (Some t) None last sound at shares = absurd shares
have_common mark epoch place xs ys a (Some t) (Some u) last sound at shares =
    let own : IsSoundTable a t = all_at (IsSoundTable a) a.tables place t sound at in
    let epochs : All (HasEpochs epoch) t.rows = subst (λ (n : ℕ). All (HasEpochs n) t.rows) last own.epochs in
    let told : All (HasEpochs epoch) (shares.common ++ xs) =
    all_of_bag (HasEpochs epoch) (retained mark t.rows) (shares.common ++ xs) (bag_sym (shares.common ++ xs) (retained mark t.rows) shares.first) (All-filter (is_retained mark) (HasEpochs epoch) t.rows epochs) in
    record {
      common = shares.common;
      early = All-weaker (HasEpochs epoch) (IsUpTo epoch) (is_early epoch) shares.common (all_front (HasEpochs epoch) shares.common xs told);
      behind = shares.first;
      ahead = shares.second;
    }

cut_del : (epoch : ℕ) (o : Option ℕ) → IfSome o (λ d. d ≤ epoch) → cut_delete epoch o ≡ o
cut_del epoch None le = refl
cut_del epoch (Some d) le = ap (λ (b : Bool). cond b (Some d) None) (within d le)
  where
    within : (n : ℕ) → n ≤ epoch → nat_le n epoch ≡ true
    within n le = grind (arith, nat_tests)

-- a cut leaves what was there by then
cut_early : (epoch : ℕ) (common ys : List Stamped) → All (IsUpTo epoch) common → cut_rows epoch (common ++ ys) ≡ common ++ cut_rows epoch ys
cut_early epoch [] ys early = refl
cut_early epoch (s ∷ common) ys early =
    let (ins, del) = All-head (IsUpTo epoch) s common early in
    let kept : nat_le s.ins epoch ≡ true = within s.ins ins in
    ap (λ (b : Bool). map (cut_row epoch) (cond b (s ∷ filter (λ x. nat_le x.ins epoch) (common ++ ys)) (filter (λ x. nat_le x.ins epoch) (common ++ ys)))) kept
    ∙ ap (λ (d : Option ℕ). with_del d s ∷ cut_rows epoch (common ++ ys)) (cut_del epoch s.del del) ∙ ap (λ (xs : List Stamped). s ∷ xs) (cut_early epoch common ys (All-tail (IsUpTo epoch) s common early))
  where
    within : (n : ℕ) → n ≤ epoch → nat_le n epoch ≡ true
    within n le = grind (arith, nat_tests)

    with_del : Option ℕ → Stamped → Stamped
    with_del d x = record { row = x.row; ins = x.ins; del = d }

same_more : (epoch : ℕ) (common xs ys : List Stamped) → All (IsUpTo epoch) common → SameBag xs (cut_rows epoch ys) → SameBag (common ++ xs) (cut_rows epoch (common ++ ys))
same_more epoch common xs ys early same = subst (SameBag (common ++ xs)) (sym (cut_early epoch common ys early)) (bag_append common xs common (cut_rows epoch ys) (bag_refl common) same)

more_of : (common xs : List Stamped) (s : Stamped) → count_of s (common ++ xs) ≡ count_of s common + count_of s xs
more_of common xs s = count_append (λ x. is_eq (stamped_cmp x s)) common xs

least_more : (epoch : ℕ) (common xs ys : List Stamped) (row : Stamped) → All (IsUpTo epoch) common → IsLeastIn xs (cut_rows epoch ys) row → IsLeastIn (common ++ xs) (cut_rows epoch (common ++ ys)) row
least_more epoch common xs ys row early (first, second, is) =
    let here = count_of row common in
    subst (λ (zs : List Stamped). IsLeastIn (common ++ xs) zs row) (sym (cut_early epoch common ys early)) (
      here + first,
      here + second,
      record {
        first = ap (λ (n : ℕ). here + n) is.first ∙ sym (more_of common xs row);
        second = ap (λ (n : ℕ). here + n) is.second ∙ sym (more_of common (cut_rows epoch ys) row);
        differ = λ same. is.differ (taken here first second same);
        least = λ s less. more_of common xs s ∙ ap (λ (n : ℕ). count_of s common + n) (is.least s less) ∙ sym (more_of common (cut_rows epoch ys) s);
      },
    )
  where
    taken : (n x y : ℕ) → n + x ≡ n + y → x ≡ y
    taken n x y same = omega (arith, same)

pub told_at : (mark epoch place : ℕ) (name : List ℕ) (xs ys : List Stamped) (h : History) (a b : Database) → h.name ≡ name → h.rows ≡ ys → a.last ≡ epoch → mark ≤ epoch → IsReadAt mark place name xs ys a b → SameBag xs (cut_rows epoch ys) → IsToldAt mark epoch place h a b
told_at mark epoch place name xs ys h a b called has last le read same =
    let both = have_common mark epoch place xs ys a (slice_get a.tables place) (slice_get b.tables place) last read.sound refl read.shares in
    record {
      told = named_told mark epoch name both.common ys h (slice_get b.tables place) both.early called has read.named both.ahead;
      same = same_told mark epoch (both.common ++ xs) (both.common ++ ys) (slice_get a.tables place) (slice_get b.tables place) le both.behind both.ahead (same_more epoch both.common xs ys both.early same);
    }

pub differ_at : (mark epoch place : ℕ) (name : List ℕ) (row : Stamped) (xs ys : List Stamped) (a b : Database) → a.last ≡ epoch → mark ≤ epoch → IsReadAt mark place name xs ys a b → IsLeastIn xs (cut_rows epoch ys) row → DifferAt mark epoch place name row a b
differ_at mark epoch place name row xs ys a b last le read least =
    let both = have_common mark epoch place xs ys a (slice_get a.tables place) (slice_get b.tables place) last read.sound refl read.shares in
    differ_told mark epoch name row (both.common ++ xs) (both.common ++ ys) (slice_get a.tables place) (slice_get b.tables place) le read.named both.behind both.ahead (least_more epoch both.common xs ys row both.early least)

pub short_at : (mark epoch place : ℕ) (a b : Database) (fault : LinkFault) → IsShort fault → EndsAt mark epoch place a b fault
short_at mark epoch place a b (link.SchemaDiffers name) short = absurd short
short_at mark epoch place a b (link.NotBehind behind later) short = absurd short
short_at mark epoch place a b (link.HistoryGone from ahm) short = absurd short
short_at mark epoch place a b (link.Differs table row) short = absurd short
short_at mark epoch place a b (link.Gap n) short = absurd short
short_at mark epoch place a b (link.TooMany n) short = absurd short
short_at mark epoch place a b link.NumbersSpent short = absurd short
short_at mark epoch place a b link.BehindDisk short = tt
short_at mark epoch place a b link.AheadDisk short = tt
short_at mark epoch place a b (link.Damaged name) short = absurd short
short_at mark epoch place a b link.Memory short = tt

pub none_is : {X : Type 0} (o : Option X) (P : Type 0) → o ≡ None → IfNone o P → P
none_is None P is told = told
none_is (Some x) P is told = absurd (cc)

pub some_is : {X : Type 0} (o : Option X) (x : X) (P : X → Type 0) → o ≡ Some x → IfSome o P → P x
some_is None x P is told = absurd (cc)
some_is (Some y) x P is told = subst P (same_Some y x is) told

-- ---- the tables at the first places

pub record AreToldTo (mark epoch : ℕ) (hs : List History) (a b : Database) : Type 0 where
  pub told : (i : ℕ) (h : History) → slice_get hs i ≡ Some h → IsSomeAnd (slice_get b.tables i) (IsToldBy mark epoch h)
  pub same : (i : ℕ) → i < length hs → SameAt mark epoch i a b

pub none_told : (mark epoch : ℕ) (a b : Database) → AreToldTo mark epoch [] a b
none_told mark epoch a b = record { told = λ i h at. absurd (cc); same = λ i lt. absurd (omega (arith, lt)) }

at_more : {X : Type 0} (P : ℕ → X → Type 0) (xs : List X) (x : X) → ((i : ℕ) (y : X) → slice_get xs i ≡ Some y → P i y) → P (length xs) x → (i : ℕ) (y : X) → slice_get (xs ++ x ∷ []) i ≡ Some y → P i y
at_more P [] x each last zero y at = subst (P 0) (same_Some x y at) last
at_more P [] x each last (suc i) y at = absurd (cc)
at_more P (z ∷ xs) x each last zero y at = each zero y at
at_more P (z ∷ xs) x each last (suc i) y at = at_more (λ j w. P (suc j) w) xs x (λ j w is. each (suc j) w is) last i y at

pub one_longer : {X : Type 0} (xs : List X) (x : X) → length (xs ++ x ∷ []) ≡ length xs + 1
one_longer [] x = refl
one_longer (y ∷ xs) x = let rest = one_longer xs x in omega (arith, rest)

pub told_more : (mark epoch place : ℕ) (hs : List History) (h : History) (a b : Database) → place ≡ length hs → AreToldTo mark epoch hs a b → IsToldAt mark epoch place h a b → AreToldTo mark epoch (hs ++ h ∷ []) a b
told_more mark epoch place hs h a b at all one = record {
  told = at_more (λ i g. IsSomeAnd (slice_get b.tables i) (IsToldBy mark epoch g)) hs h all.told (subst (λ (k : ℕ). IsSomeAnd (slice_get b.tables k) (IsToldBy mark epoch h)) at one.told);
  same = λ i lt. by i lt (nat_lt i (length hs)) refl;
}
  where
    by : (i : ℕ) → i < length (hs ++ h ∷ []) → (x : Bool) → nat_lt i (length hs) ≡ x → SameAt mark epoch i a b
    by i lt true is = all.same i (grind (arith, nat_tests))
    by i lt false is =
        let long = one_longer hs h in
        let less : i < length hs + 1 = omega (arith, lt, long) in
        let last : place ≡ i = last_one i (length hs) less is at in
        subst (λ (k : ℕ). SameAt mark epoch k a b) last one.same
      where
        last_one : (j n : ℕ) → j < n + 1 → nat_lt j n ≡ false → place ≡ n → place ≡ j
        last_one j n less off is = let same : j ≡ n = grind (arith, nat_tests) in is ∙ sym same

all_told : (mark epoch : ℕ) (hs : List History) (us : List Table) → length hs ≡ length us → ((i : ℕ) (h : History) → slice_get hs i ≡ Some h → IsSomeAnd (slice_get us i) (IsToldBy mark epoch h)) → AllZip (IsToldBy mark epoch) hs us
all_told mark epoch [] [] same each = tt
all_told mark epoch [] (u ∷ us) same each = absurd (cc)
all_told mark epoch (h ∷ hs) [] same each = absurd (cc)
all_told mark epoch (h ∷ hs) (u ∷ us) same each = (each zero h refl, all_told mark epoch hs us (omega (arith, same)) (λ i g at. each (suc i) g at))

pub are_told : (mark epoch : ℕ) (hs : List History) (a b : Database) → length hs ≡ length b.tables → AreToldTo mark epoch hs a b → AreToldBy mark epoch hs b
are_told mark epoch hs a b same all = all_told mark epoch hs b.tables same all.told

-- ---- by their names

abbrev rows_named : List ℕ → List Table → List Stamped
rows_named name ts = option_map_or (λ t. t.rows) (table_named name ts) []

abbrev SameIn : ℕ → ℕ → List Stamped → List Stamped → Type 0
SameIn mark epoch xs ys = SameBag (retained mark xs) (retained mark (cut_rows epoch ys))

older_in : (mark epoch place : ℕ) (name : List ℕ) (ts us : List Table) → AreNamedAlike ts us → ((i : ℕ) → i < place → i < length us → IsSomeAnd (slice_get ts i) (λ t. IsSomeAnd (slice_get us i) (λ u. SameIn mark epoch t.rows u.rows))) → All (λ v. bytes_eq v.name name ≡ false) (drop place us)
    → SameIn mark epoch (rows_named name ts) (rows_named name us)
older_in mark epoch place name [] [] alike each none = bag_refl []
older_in mark epoch place name [] (u ∷ us) alike each none = absurd alike
older_in mark epoch place name (t ∷ ts) [] alike each none = absurd alike
older_in mark epoch zero name (t ∷ ts) (u ∷ us) (here, more) each none =
    skipped t u ts us (ap (λ (n : List ℕ). bytes_eq n name) here ∙ off) off (older_in mark epoch zero name ts us more (λ i lt within. absurd (omega (arith, lt))) (All-tail (λ v. bytes_eq v.name name ≡ false) u us none))
  where
    off : bytes_eq u.name name ≡ false
    off = All-head (λ v. bytes_eq v.name name ≡ false) u us none

    skipped : (x y : Table) (xs ys : List Table) → bytes_eq x.name name ≡ false → bytes_eq y.name name ≡ false → SameIn mark epoch (rows_named name xs) (rows_named name ys) → SameIn mark epoch (rows_named name (x ∷ xs)) (rows_named name (y ∷ ys))
    skipped x y xs ys one two rest =
        subst (λ (b : Bool). SameIn mark epoch (option_map_or (λ v. v.rows) (cond b (Some x) (table_named name xs)) []) (rows_named name (y ∷ ys))) (sym one)
        (subst (λ (b : Bool). SameIn mark epoch (rows_named name xs) (option_map_or (λ v. v.rows) (cond b (Some y) (table_named name ys)) [])) (sym two) rest)
older_in mark epoch (suc place) name (t ∷ ts) (u ∷ us) (here, more) each none =
    subst (λ (b : Bool). SameIn mark epoch (option_map_or (λ v. v.rows) (cond b (Some t) (table_named name ts)) []) (rows_named name (u ∷ us))) (ap (λ (n : List ℕ). bytes_eq n name) (sym here))
    (by (bytes_eq u.name name) (each zero (omega arith) (omega arith)) (older_in mark epoch place name ts us more (λ i lt within. each (suc i) (omega (arith, lt)) (omega (arith, within))) none))
  where
    by : (b : Bool) → SameIn mark epoch t.rows u.rows → SameIn mark epoch (rows_named name ts) (rows_named name us)
        → SameIn mark epoch (option_map_or (λ v. v.rows) (cond b (Some t) (table_named name ts)) []) (option_map_or (λ v. v.rows) (cond b (Some u) (table_named name us)) [])
    by true one rest = one
    by false one rest = rest

-- the same of the tables of two databases, whose mark is the later one
pub older_named : (mark epoch place : ℕ) (name : List ℕ) (a b : Database) → mark ≡ later_mark a b → AreNamedAlike a.tables b.tables → ((i : ℕ) → i < place → SameAt mark epoch i a b) → All (λ v. bytes_eq v.name name ≡ false) (drop place b.tables) → IsOlderIn a b epoch name
older_named mark epoch place name a b is alike each none =
    subst (λ (k : ℕ). SameBag (history k name a) (history k name (cut epoch b))) is
    (subst (λ (rows : List Stamped). SameBag (history mark name a) (retained mark rows)) (sym (rows_cut epoch name b)) (older_in mark epoch place name a.tables b.tables alike (λ i lt within. each i lt) none))

pub all_older : (mark epoch : ℕ) (hs : List History) (a b : Database) → mark ≡ later_mark a b → AreNamedAlike a.tables b.tables → length hs ≡ length b.tables → AreToldTo mark epoch hs a b → IsOlder a b epoch
all_older mark epoch hs a b is alike same all = λ name.
    older_named mark epoch (length hs) name a b is alike all.same
    (subst (λ (us : List Table). All (λ v. bytes_eq v.name name ≡ false) us) (sym (ap (λ (k : ℕ). drop k b.tables) same ∙ nothing b.tables)) (All-nil _))
  where
    nothing : (us : List Table) → drop (length us) us ≡ []
    nothing [] = refl
    nothing (u ∷ us) = nothing us

-- ---- where they differ

rows_at : (d : Database) (i : ℕ) (u : Table) (name : List ℕ) → IsSoundDatabase d → slice_get d.tables i ≡ Some u → u.name ≡ name → rows_of name d ≡ u.rows
rows_at d i u name sound at is = ap (λ (o : Option Table). option_map_or (λ (t : Table). t.rows) o []) (found_of d i u name sound at is)

name_at : (ts us : List Table) (i : ℕ) (t u : Table) → AreNamedAlike ts us → slice_get ts i ≡ Some t → slice_get us i ≡ Some u → t.name ≡ u.name
name_at [] us i t u alike one two = absurd (cc)
name_at (x ∷ ts) [] i t u alike one two = absurd alike
name_at (x ∷ ts) (y ∷ us) zero t u (here, more) one two = ap (λ (v : Table). v.name) (sym (same_Some x t one)) ∙ here ∙ ap (λ (v : Table). v.name) (same_Some y u two)
name_at (x ∷ ts) (y ∷ us) (suc i) t u (here, more) one two = name_at ts us i t u more one two

pub record AreCompared (mark epoch : ℕ) (a b : Database) : Type 0 where
  pub is : mark ≡ later_mark a b
  pub behind : IsSoundDatabase a
  pub ahead : IsSoundDatabase b
  pub alike : AreNamedAlike a.tables b.tables
  pub rising : AreRising b.tables

refused_at : (mark epoch place : ℕ) (table : List ℕ) (row : Stamped) (hs : List History) (a b : Database) (o p : Option Table) → AreCompared mark epoch a b → IsAhead a b epoch → place ≡ length hs → AreToldTo mark epoch hs a b → slice_get a.tables place ≡ o → slice_get b.tables place ≡ p
    → IsSomeAnd o (λ t. IsSomeAnd p (λ u. (table ≡ u.name) × IsLeastIn (retained mark t.rows) (retained mark (cut_rows epoch u.rows)) row)) → Ends a b epoch (link.Differs table row)
refused_at mark epoch place table row hs a b None p pair ahead at all one two differ = absurd differ
refused_at mark epoch place table row hs a b (Some t) None pair ahead at all one two differ = absurd differ
refused_at mark epoch place table row hs a b (Some t) (Some u) pair ahead at all one two (named, (first, second, is)) =
    inl (
      ahead,
      record { bad = bad; least = least },
      (
        first,
        second,
        subst (λ (xs : List Stamped). IsLeastDifference xs (history (later_mark a b) table (cut epoch b)) row first second) (sym xs_are)
            (subst (λ (ys : List Stamped). IsLeastDifference (retained mark t.rows) ys row first second) (sym ys_are) is),
      ),
    )
  where
    xs_are : history (later_mark a b) table a ≡ retained mark t.rows
    xs_are = ap (λ (k : ℕ). history k table a) (sym pair.is) ∙ ap (retained mark) (rows_at a place t table pair.behind one (name_at a.tables b.tables place t u pair.alike one two ∙ sym named))

    ys_are : history (later_mark a b) table (cut epoch b) ≡ retained mark (cut_rows epoch u.rows)
    ys_are = ap (λ (k : ℕ). history k table (cut epoch b)) (sym pair.is) ∙ ap (retained mark) (rows_cut epoch table b ∙ ap (cut_rows epoch) (rows_at b place u table pair.ahead two (sym named)))

    bad : IsOlderIn a b epoch table → ⊥
    bad same =
        let alike : SameBag (retained mark t.rows) (retained mark (cut_rows epoch u.rows)) =
        subst (λ (xs : List Stamped). SameBag xs (retained mark (cut_rows epoch u.rows))) xs_are (subst (SameBag (history (later_mark a b) table a)) ys_are same) in
        is.differ (is.first ∙ alike.counts (λ x. is_eq (stamped_cmp x row)) ∙ sym is.second)

    least : (other : List ℕ) → is_lt (slice_cmp nat_cmp other table) ≡ true → IsOlderIn a b epoch other
    least other less =
        older_named mark epoch place other a b pair.is pair.alike (λ i lt. all.same i (subst (λ (k : ℕ). i < k) at lt))
        (none_from place other b.tables u pair.rising two (subst (λ (n : List ℕ). is_lt (slice_cmp nat_cmp other n) ≡ true) named less))

pub ends_at : (mark epoch place : ℕ) (hs : List History) (a b : Database) (fault : LinkFault) → AreCompared mark epoch a b → IsAhead a b epoch → place ≡ length hs → AreToldTo mark epoch hs a b → EndsAt mark epoch place a b fault → Ends a b epoch fault
ends_at mark epoch place hs a b (link.SchemaDiffers name) pair ahead at all none = absurd none
ends_at mark epoch place hs a b (link.NotBehind behind later) pair ahead at all none = absurd none
ends_at mark epoch place hs a b (link.HistoryGone from ahm) pair ahead at all none = absurd none
ends_at mark epoch place hs a b (link.Differs table row) pair ahead at all differ = refused_at mark epoch place table row hs a b (slice_get a.tables place) (slice_get b.tables place) pair ahead at all refl refl differ
ends_at mark epoch place hs a b (link.Gap n) pair ahead at all none = absurd none
ends_at mark epoch place hs a b (link.TooMany n) pair ahead at all none = absurd none
ends_at mark epoch place hs a b link.NumbersSpent pair ahead at all none = absurd none
ends_at mark epoch place hs a b link.BehindDisk pair ahead at all ok = inr tt
ends_at mark epoch place hs a b link.AheadDisk pair ahead at all ok = inr tt
ends_at mark epoch place hs a b (link.Damaged name) pair ahead at all none = absurd none
ends_at mark epoch place hs a b link.Memory pair ahead at all ok = inr tt
