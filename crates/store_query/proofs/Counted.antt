-- How many blocks are read for the FROM items of a query.
use Rattle.std.proofs.Common.{◌≡◌, ℕ, zero, suc, ◌+◌, ◌-◌, ◌*◌, ◌<◌, ◌≤◌, ◌++◌, ◌⊎◌, inl, inr, Bool, true, false, cond, List, [], ◌∷◌, length, take, drop, get_or, Option, Some, refl, sym, ap, ◌∙◌, arith, subst, mul-le-mul_right}
use Rattle.std.specs.Prelude.{◌||◌, Contains, not, sum}
use Rattle.std.specs.List.{All, AllZip, list_any, range_with_len}
use Rattle.std.proofs.lemmas.List.{take-append-drop, take_more}
use Rattle.std.proofs.lemmas.List.Elements.{All-head, All-tail}
use Rattle.std.proofs.lemmas.List.Sums.{sum_by-append, sum_by-cons}
use Rattle.common_laws.specs.Maps.{Contents}
use Rattle.catalog_types.specs.declared.catalogue.Container.{Container}
use Rattle.col_value.specs.declared.value.Value.{Value}
use Rattle.pos_index.specs.Index.{blocks}
use Rattle.pos_index.specs.declared.index.PosIndex.{PosIndex}
use Rattle.sql_bound.specs.declared.query.FromItem.{FromItem}
use Rattle.sql_bound.specs.declared.query.BoundQuery.{BoundQuery}
use Rattle.row_bounds.specs.Setting.{IsSet}
use Rattle.row_bounds.specs.declared.bound.Bound.{Bound}
use Rattle.stored_rows.specs.Stored.{Projected}
use Rattle.folder_model.specs.Projections.{ordinals}
use Rattle.exec_scan.specs.Counting.{block_cost, containers_cost, cost_left, needed_blocks, scan_cost, HaveIndexes, Indexes, Spends, SpendsUpto}
use Rattle.exec_scan.specs.Passing.{is_missed, is_passed}
use Rattle.exec_scan.specs.Scanning.{IsAtHand, Place, start}
use Rattle.store_commit.specs.Seen.{Seen}
use Rattle.store_query.specs.Counting.{ReadsEach, ReadsOf}
use Rattle.store_query.specs.Placing.{ArePlacesOf}
use Rattle.store_query.specs.Taking.{IsTaken}
use Rattle.store_query.proofs.Gathered.{Asks}

-- ---- more bounds, no more blocks

-- some bounds are all among others
abbrev pub AreAmong : List Bound → List Bound → Type 0
AreAmong all some = All (Contains all) some

any_here : (p : Bound → Bool) (bs : List Bound) (b : Bound) (k : ℕ) → k < length bs → get_or bs k b ≡ b → p b ≡ true → list_any p bs ≡ true
any_here p [] b k lt is holds = absurd (omega (arith, lt))
any_here p (c ∷ bs) b zero lt is holds = let here : p c ≡ true = ap p is ∙ holds in ap (λ (v : Bool). (v || list_any p bs)) here
any_here p (c ∷ bs) b (suc k) lt is holds = by (p c) refl (any_here p bs b k (omega (arith, lt)) is holds)
  where
    by : (v : Bool) → p c ≡ v → list_any p bs ≡ true → list_any p (c ∷ bs) ≡ true
    by true here later = ap (λ (w : Bool). (w || list_any p bs)) here
    by false here later = ap (λ (w : Bool). (w || list_any p bs)) here ∙ later

any_among : (p : Bound → Bool) (all some : List Bound) → AreAmong all some → list_any p some ≡ true → list_any p all ≡ true
any_among p all [] among holds = absurd cc
any_among p all (b ∷ some) among holds = by (p b) refl (any_among p all some (All-tail (Contains all) b some among))
  where
    here : Contains all b
    here = All-head (Contains all) b some among

    by : (v : Bool) → p b ≡ v → (list_any p some ≡ true → list_any p all ≡ true) → list_any p all ≡ true
    by true is later = any_here p all b here.0 here.1 here.2 is
    by false is later = later (sym (ap (λ (w : Bool). (w || list_any p some)) is) ∙ holds)

abbrev one_if : Bool → ℕ
one_if b = cond b 1 0

one_fewer : (all some : List Bound) (xs : List (Option PosIndex)) (b : ℕ) → AreAmong all some → one_if (not (is_passed all xs b)) ≤ one_if (not (is_passed some xs b))
one_fewer all some xs b among = by (is_passed some xs b) refl
  where
    by : (v : Bool) → is_passed some xs b ≡ v → one_if (not (is_passed all xs b)) ≤ one_if (not (is_passed some xs b))
    by true is =
        let both : is_passed all xs b ≡ true = any_among (is_missed xs b) all some among is in
        let none : one_if (not (is_passed all xs b)) ≡ 0 = ap (λ (v : Bool). one_if (not v)) both in
        omega (arith, none)
    by false is =
        let one : one_if (not (is_passed some xs b)) ≡ 1 = ap (λ (v : Bool). one_if (not v)) is in
        omega (arith, one, at_most (not (is_passed all xs b)))
      where
        at_most : (v : Bool) → one_if v ≤ 1
        at_most true = omega arith
        at_most false = omega arith

blocks_fewer : (all some : List Bound) (xs : List (Option PosIndex)) (first n : ℕ) → AreAmong all some → needed_blocks all xs first n ≤ needed_blocks some xs first n
blocks_fewer all some xs first zero among = omega arith
blocks_fewer all some xs first (suc n) among =
    omega (
      arith,
      sum_by-cons (λ j. one_if (not (is_passed all xs j))) first (range_with_len (first + 1) n),
      sum_by-cons (λ j. one_if (not (is_passed some xs j))) first (range_with_len (first + 1) n),
      one_fewer all some xs first among,
      blocks_fewer all some xs (first + 1) n among,
    )

containers_fewer : (columns : ℕ) (all some : List Bound) (places : List (Option ℕ)) (first : ℕ) (ks : List Container) (indexes : Indexes) → AreAmong all some
    → containers_cost columns all places first ks indexes ≤ containers_cost columns some places first ks indexes
containers_fewer columns all some places first [] indexes among = omega arith
containers_fewer columns all some places first (k ∷ ks) [] among = omega arith
containers_fewer columns all some places first (k ∷ ks) (x ∷ xs) among =
    let here : needed_blocks all x first (blocks k.rows - first) * block_cost columns k places ≤ needed_blocks some x first (blocks k.rows - first) * block_cost columns k places =
    mul-le-mul_right (block_cost columns k places) (blocks_fewer all some x first (blocks k.rows - first) among) in
    omega (arith, here, containers_fewer columns all some places 0 ks xs among)

-- ---- a scan, step by step

-- so far a scan has read no more than what is left of it at first without what is left now
abbrev pub SpentUpto : Contents → Projected → List (Option ℕ) → Place → ℕ → Place → ℕ → Type 0
SpentUpto m p places begun before s after = (indexes : Indexes) → HaveIndexes m p.entry places indexes → after + cost_left p.entry indexes s ≤ before + cost_left p.entry indexes begun

pub spent_more : (m : Contents) (holds : Option Contents) (p : Projected) (epoch : ℕ) (places : List (Option ℕ)) (bounds : List Bound) (begun s new : Place) (before mid after : ℕ) → holds ≡ Some m → Asks epoch places bounds s → IsAtHand holds p s
    → Spends holds p s new mid after → SpentUpto m p places begun before s mid → SpentUpto m p places begun before new after
spent_more m holds p epoch places bounds begun s new before mid after told asks at_hand spends was = λ indexes have.
    let here : HaveIndexes m p.entry s.places indexes = subst (λ (ps : List (Option ℕ)). HaveIndexes m p.entry ps indexes) (sym asks.places_are) have in
    let hand : IsAtHand (Some m) p s = subst (λ (h : Option Contents). IsAtHand h p s) told at_hand in
    omega (arith, spends m told hand indexes here, was indexes have)

pub spent_upto : (m : Contents) (holds : Option Contents) (p : Projected) (epoch : ℕ) (places : List (Option ℕ)) (bounds : List Bound) (begun s : Place) (before mid after : ℕ) (indexes : Indexes) → holds ≡ Some m → Asks epoch places bounds s
    → IsAtHand holds p s → SpendsUpto holds p s mid after → SpentUpto m p places begun before s mid → HaveIndexes m p.entry places indexes → after ≤ before + cost_left p.entry indexes begun
spent_upto m holds p epoch places bounds begun s before mid after indexes told asks at_hand spends was have =
    let here : HaveIndexes m p.entry s.places indexes = subst (λ (ps : List (Option ℕ)). HaveIndexes m p.entry ps indexes) (sym asks.places_are) have in
    let hand : IsAtHand (Some m) p s = subst (λ (h : Option Contents). IsAtHand h p s) told at_hand in
    omega (arith, spends m told hand indexes here, was indexes have)

pub spent_all : (m : Contents) (p : Projected) (places : List (Option ℕ)) (begun s : Place) (before after : ℕ) (indexes : Indexes) → SpentUpto m p places begun before s after → HaveIndexes m p.entry places indexes → after ≤ before + cost_left p.entry indexes begun
spent_all m p places begun s before after indexes was have = omega (arith, was indexes have)

-- ---- FROM items

sum_cons : (n : ℕ) (ns : List ℕ) → sum (n ∷ ns) ≡ n + sum ns
sum_cons n ns = sum_by-cons (λ (k : ℕ). k) n ns

sum_both : (ns ms : List ℕ) → sum (ns ++ ms) ≡ sum ns + sum ms
sum_both ns ms = sum_by-append (λ (k : ℕ). k) ns ms

-- nothing is read
none_read : (m : Contents) (s : Seen) (q : BoundQuery) (items : List FromItem) → (ns : List ℕ) × AllZip (ReadsOf m s q) items ns × (sum ns ≡ 0)
none_read m s q [] = ([], tt, refl)
none_read m s q (f ∷ items) = let more = none_read m s q items in (0 ∷ more.0, (inl refl, more.1), omega (arith, sum_cons 0 more.0, more.2))

pub reads_none : (m : Contents) (s : Seen) (q : BoundQuery) (items : List FromItem) (before after : ℕ) → after ≡ before → ReadsEach m s q items before after
reads_none m s q items before after is = let none = none_read m s q items in record { reads = none.0; each = none.1; most = omega (arith, is) }

-- a scan of the projection that is read for an item, within all bounds that conditions set
pub reads_one : (m : Contents) (s : Seen) (q : BoundQuery) (f : FromItem) (p : Projected) (epoch : ℕ) (places : List (Option ℕ)) (bounds : List Bound) (before after : ℕ) → IsTaken s q f p → ArePlacesOf q f.first f.columns (ordinals p.entry) places
    → ((b : Bound) → IsSet q.keep f.first f.columns b → Contains bounds b) → SpendsUpto (Some m) p (start epoch places bounds false) before after → ReadsEach m s q (f ∷ []) before after
reads_one m s q f p epoch places bounds before after taken used set spends = record {
  reads = (after - before) ∷ [];
  each = (
    inr
        (record {
          read = p;
          taken = taken;
          places = places;
          used = used;
          most = λ some indexes are have.
              let within : AreAmong bounds some = λ k d lt. set (get_or some k d) (are k d lt) in
              let fewer : scan_cost p.entry bounds places indexes ≤ scan_cost p.entry some places indexes = containers_fewer (length p.entry.columns) bounds some places 0 p.entry.containers indexes within in
              let upto : after ≤ before + scan_cost p.entry bounds places indexes = spends m refl tt indexes have in
              omega (arith, fewer, upto);
        }),
    tt,
  );
  most = let one : sum ((after - before) ∷ []) ≡ (after - before) + 0 = sum_cons (after - before) [] in omega (arith, one);
}

zip_both : (R : FromItem → ℕ → Type 0) (fs gs : List FromItem) (ns ms : List ℕ) → AllZip R fs ns → AllZip R gs ms → AllZip R (fs ++ gs) (ns ++ ms)
zip_both R [] gs [] ms some more = more
zip_both R [] gs (n ∷ ns) ms some more = absurd some
zip_both R (f ∷ fs) gs [] ms some more = absurd some
zip_both R (f ∷ fs) gs (n ∷ ns) ms some more = (some.0, zip_both R fs gs ns ms some.1 more)

-- some items, and then others
pub reads_both : (m : Contents) (s : Seen) (q : BoundQuery) (fs gs : List FromItem) (before mid after : ℕ) → ReadsEach m s q fs before mid → ReadsEach m s q gs mid after → ReadsEach m s q (fs ++ gs) before after
reads_both m s q fs gs before mid after some more = record {
  reads = some.reads ++ more.reads;
  each = zip_both (ReadsOf m s q) fs gs some.reads more.reads some.each more.each;
  most = omega (arith, some.most, more.most, sum_both some.reads more.reads);
}

-- the others were read before the first one
pub reads_first : (m : Contents) (s : Seen) (q : BoundQuery) (f : FromItem) (others : List FromItem) (before mid after : ℕ) → ReadsEach m s q others before mid → ReadsEach m s q (f ∷ []) mid after → ReadsEach m s q (f ∷ others) before after
reads_first m s q f others before mid after more one = record {
  reads = one.reads ++ more.reads;
  each = zip_both (ReadsOf m s q) (f ∷ []) others one.reads more.reads one.each more.each;
  most = omega (arith, more.most, one.most, sum_both one.reads more.reads);
}

-- and none of the others
pub reads_upto : (m : Contents) (s : Seen) (q : BoundQuery) (items : List FromItem) (i before after : ℕ) → ReadsEach m s q (take i items) before after → ReadsEach m s q items before after
reads_upto m s q items i before after some =
    subst (λ (fs : List FromItem). ReadsEach m s q fs before after) (take-append-drop i items)
    (reads_both m s q (take i items) (drop i items) before after after some (reads_none m s q (drop i items) after after refl))

-- one item more
pub reads_more : (m : Contents) (s : Seen) (q : BoundQuery) (items : List FromItem) (i : ℕ) (d : FromItem) (before mid after : ℕ) → i < length items → ReadsEach m s q (take i items) before mid → ReadsEach m s q (get_or items i d ∷ []) mid after
    → ReadsEach m s q (take (i + 1) items) before after
reads_more m s q items i d before mid after lt was one =
    subst (λ (fs : List FromItem). ReadsEach m s q fs before after) (sym (take_more items i d lt)) (reads_both m s q (take i items) (get_or items i d ∷ []) before mid after was one)
