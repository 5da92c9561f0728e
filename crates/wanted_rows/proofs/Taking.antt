-- Rows that are picked are taken.
use Rattle.std.proofs.Common.{◌≡◌, ◌+◌, ◌<◌, ◌≤◌, ◌∷◌, ◌++◌, [], ℕ, zero, suc, Bool, true, false, cond, List, length, map, get_or, refl, sym, ap, ap₂, ◌∙◌, subst, arith}
use Rattle.std.specs.Prelude.{Option, Some, None, ◌==◌, ◌||◌, count_by}
use Rattle.std.specs.List.{All}
use Rattle.std.proofs.lemmas.Bool.Decides.{nat_tests}
use Rattle.std.proofs.lemmas.List.{map-append}
use Rattle.std.proofs.lemmas.List.Elements.{All-append, All-head, All-tail}
use Rattle.common_laws.specs.Bags.{SameBag}
use Rattle.common_laws.proofs.BagLaws.{bag_refl, count_cons, count_append}
use Rattle.col_value.specs.declared.row.Asked.{Asked}
use Rattle.col_value.specs.declared.row.Stamped.{Stamped}
use Rattle.row_history.specs.History.{stamped, Takes}
use Rattle.stored_rows.specs.Held.{stamped_from}
use Rattle.wanted_rows.specs.Wanted.{is_same}
use Rattle.write_store.specs.Memory.{is_in}
use Rattle.wanted_rows.specs.Picked.{blank, at_places, Rise, IsUndeleted, Picks}
use Rattle.wanted_rows.specs.Taking.{asked_of, NoneWanted, Took}

abbrev hit : {X : Type 0} → (X → Bool) → X → ℕ
hit p x = cond (p x) 1 0

stamp_ext : (k : ℕ) (f g : ℕ → Option ℕ) (rows : List Asked) → ((i : ℕ) → k ≤ i → f i ≡ g i) → stamped_from k f rows ≡ stamped_from k g rows
stamp_ext k f g [] same = refl
stamp_ext k f g (a ∷ rows) same =
    ap₂ (λ (d : Option ℕ) (ss : List Stamped). stamped d a ∷ ss) (same k (omega arith)) (stamp_ext (k + 1) f g rows (λ i le. same i (omega (arith, le))))

-- one place is marked
one_marked : (epoch k j n : ℕ) (mark now : ℕ → Option ℕ) (rows : List Asked) (p : Stamped → Bool) → j < length rows → n ≡ k + j → mark n ≡ None → ((i : ℕ) → now i ≡ cond (n == i) (Some epoch) (mark i))
    → hit p (stamped (Some epoch) (get_or rows j blank)) + count_by p (stamped_from k mark rows)
    ≡ hit p (stamped None (get_or rows j blank)) + count_by p (stamped_from k now rows)
one_marked epoch k j n mark now [] p lt is live marked = absurd (omega (arith, lt))
one_marked epoch k zero n mark now (r ∷ rows) p lt is live marked =
    let at : n ≡ k = omega (arith, is) in
    let itself : (n == k) ≡ true = grind (arith, nat_tests) in
    let now_here : now k ≡ Some epoch = marked k ∙ ap (λ (b : Bool). cond b (Some epoch) (mark k)) itself in
    let was_here : mark k ≡ None = sym (ap mark at) ∙ live in
    let rest : stamped_from (k + 1) mark rows ≡ stamped_from (k + 1) now rows =
    stamp_ext (k + 1) mark now rows (λ i le.
    let other : (n == i) ≡ false = grind (arith, nat_tests) in
    sym (marked i ∙ ap (λ (b : Bool). cond b (Some epoch) (mark i)) other)) in
    omega (
      arith,
      count_cons p (stamped (mark k) r) (stamped_from (k + 1) mark rows),
      count_cons p (stamped (now k) r) (stamped_from (k + 1) now rows),
      ap (count_by p) rest,
      ap (λ (d : Option ℕ). hit p (stamped d r)) now_here,
      ap (λ (d : Option ℕ). hit p (stamped d r)) was_here,
    )
one_marked epoch k (suc j) n mark now (r ∷ rows) p lt is live marked =
    let other : (n == k) ≡ false = grind (arith, nat_tests) in
    let same : now k ≡ mark k = marked k ∙ ap (λ (b : Bool). cond b (Some epoch) (mark k)) other in
    omega (
      arith,
      count_cons p (stamped (mark k) r) (stamped_from (k + 1) mark rows),
      count_cons p (stamped (now k) r) (stamped_from (k + 1) now rows),
      ap (λ (d : Option ℕ). hit p (stamped d r)) same,
      one_marked epoch (k + 1) j n mark now rows p (omega (arith, lt)) (omega (arith, is)) live marked,
    )

cond_both : {X : Type 0} (a b : Bool) (x y : X) → cond (a || b) x y ≡ cond b x (cond a x y)
cond_both true true x y = refl
cond_both true false x y = refl
cond_both false b x y = refl

live_still : (epoch p : ℕ) (mark : ℕ → Option ℕ) (rows : List Asked) (ps : List ℕ) → All (λ q. p < q) ps → All (IsUndeleted mark rows) ps → All (IsUndeleted (λ i. cond (p == i) (Some epoch) (mark i)) rows) ps
live_still epoch p mark rows ps later live i d lt =
    let q = get_or ps i d in
    let less : p < q = later i d lt in
    let other : (p == q) ≡ false = grind (arith, nat_tests) in
    record { here = (live i d lt).here; live = ap (λ (b : Bool). cond b (Some epoch) (mark q)) other ∙ (live i d lt).live }

-- the rows at places that are marked are taken
places_take : (epoch : ℕ) (rows : List Asked) (places : List ℕ) (mark now : ℕ → Option ℕ) → Rise places → All (IsUndeleted mark rows) places
    → ((i : ℕ) → now i ≡ cond (is_in i places) (Some epoch) (mark i))
    → Takes epoch (at_places rows places) (stamped_from 0 mark rows) (stamped_from 0 now rows)
places_take epoch rows [] mark now rise live marked =
    subst (λ (ss : List Stamped). SameBag ss (stamped_from 0 now rows)) (stamp_ext 0 now mark rows (λ i le. marked i)) (bag_refl (stamped_from 0 now rows))
places_take epoch rows (p ∷ ps) mark now rise live marked =
    let mid : ℕ → Option ℕ = λ i. cond (p == i) (Some epoch) (mark i) in
    let head = All-head (IsUndeleted mark rows) p ps live in
    let rec : Takes epoch (at_places rows ps) (stamped_from 0 mid rows) (stamped_from 0 now rows) =
    places_take epoch rows ps mid now rise.1 (live_still epoch p mark rows ps rise.0 (All-tail (IsUndeleted mark rows) p ps live)) (λ i. marked i ∙ cond_both (p == i) (is_in i ps) (Some epoch) (mark i)) in
    let a = get_or rows p blank in
    let taken = at_places rows ps in
    record {
      counts = λ t. omega (
        arith,
        count_cons t (stamped (Some epoch) a) (map (stamped (Some epoch)) taken ++ stamped_from 0 mark rows),
        count_cons t (stamped None a) (map (stamped None) taken ++ stamped_from 0 now rows),
        count_append t (map (stamped (Some epoch)) taken) (stamped_from 0 mark rows),
        count_append t (map (stamped None) taken) (stamped_from 0 now rows),
        count_append t (map (stamped (Some epoch)) taken) (stamped_from 0 mid rows),
        rec.counts t,
        one_marked epoch 0 p p mark mid rows t head.here (omega arith) head.live (λ i. refl),
      );
    }

-- what stands at a place of stamped rows
stamp_at : (k j : ℕ) (mark : ℕ → Option ℕ) (rows : List Asked) (d : Stamped) → j < length rows → get_or (stamped_from k mark rows) j d ≡ stamped (mark (k + j)) (get_or rows j blank)
stamp_at k j mark [] d lt = absurd (omega (arith, lt))
stamp_at k zero mark (r ∷ rows) d lt =
    let at : k ≡ k + 0 = omega arith in
    ap (λ (n : ℕ). stamped (mark n) r) at
stamp_at k (suc j) mark (r ∷ rows) d lt =
    let at : (k + 1) + j ≡ k + suc j = omega arith in
    stamp_at (k + 1) j mark rows d (omega (arith, lt)) ∙ ap (λ (n : ℕ). stamped (mark n) (get_or rows j blank)) at

stamp_long : (k : ℕ) (mark : ℕ → Option ℕ) (rows : List Asked) → length (stamped_from k mark rows) ≡ length rows
stamp_long k mark [] = refl
stamp_long k mark (r ∷ rows) = omega (arith, stamp_long (k + 1) mark rows)

plus_none : (j : ℕ) → 0 + j ≡ j
plus_none j = omega arith

out_and_live : (b : Bool) (epoch : ℕ) (o : Option ℕ) → cond b (Some epoch) o ≡ None → (b ≡ false) × (o ≡ None)
out_and_live true epoch o e = absurd (cc)
out_and_live false epoch o e = (refl, e)

none_left : (epoch : ℕ) (mark now : ℕ → Option ℕ) (rows : List Asked) (places : List ℕ) (need left : Asked → ℕ) → Picks mark rows places need left
    → ((i : ℕ) → now i ≡ cond (is_in i places) (Some epoch) (mark i)) → NoneWanted left (stamped_from 0 now rows)
none_left epoch mark now rows places need left picks marked j d lt =
    let in_rows : j < length rows = omega (arith, lt, stamp_long 0 now rows) in
    let is : get_or (stamped_from 0 now rows) j d ≡ stamped (now j) (get_or rows j blank) = stamp_at 0 j now rows d in_rows ∙ ap (λ (n : ℕ). stamped (now n) (get_or rows j blank)) (plus_none j) in
    λ live.
    let split = out_and_live (is_in j places) epoch (mark j) (sym (marked j) ∙ (sym (ap (λ (s : Stamped). s.del) is) ∙ live)) in
    ap (λ (s : Stamped). left (asked_of s)) is ∙ picks.none j in_rows in_rows split.1 split.0

-- of the stamped rows of a list, those that were picked are taken
pub picks_took : (epoch : ℕ) (mark now : ℕ → Option ℕ) (rows : List Asked) (places : List ℕ) (need left : Asked → ℕ) → Picks mark rows places need left
    → ((i : ℕ) → now i ≡ cond (is_in i places) (Some epoch) (mark i)) → Took epoch (stamped_from 0 mark rows) (stamped_from 0 now rows) need left
picks_took epoch mark now rows places need left picks marked = record {
  asked = at_places rows places;
  taken = picks.taken;
  takes = places_take epoch rows places mark now picks.rise picks.live marked;
  none = none_left epoch mark now rows places need left picks marked;
}

-- ---- one list after another

none_wanted_less : (f g : Asked → ℕ) (rows : List Stamped) → ((q : Asked) → g q ≤ f q) → NoneWanted f rows → NoneWanted g rows
none_wanted_less f g rows le all j d lt live = let zero_f = all j d lt live in omega (arith, zero_f, le (asked_of (get_or rows j d)))

pub took_append : (epoch : ℕ) (old new olds news : List Stamped) (need mid left : Asked → ℕ) → Took epoch old new need mid → Took epoch olds news mid left → Took epoch (old ++ olds) (new ++ news) need left
took_append epoch old new olds news need mid left first second =
    let a = first.asked in
    let b = second.asked in
    let joined : (del : Option ℕ) → map (stamped del) (first.asked ++ second.asked) ≡ map (stamped del) a ++ map (stamped del) b =
    λ del. map-append (stamped del) a b in
    record {
      asked = first.asked ++ second.asked;
      taken = λ q. omega (arith, first.taken q, second.taken q, count_append (λ x. is_same x q) first.asked second.asked);
      takes = record {
        counts = λ t. omega (
          arith,
          count_append t (map (stamped (Some epoch)) (first.asked ++ second.asked)) (old ++ olds),
          count_append t (map (stamped None) (first.asked ++ second.asked)) (new ++ news),
          ap (count_by t) (joined (Some epoch)),
          ap (count_by t) (joined None),
          count_append t (map (stamped (Some epoch)) a) (map (stamped (Some epoch)) b),
          count_append t (map (stamped None) a) (map (stamped None) b),
          count_append t old olds,
          count_append t new news,
          count_append t (map (stamped (Some epoch)) a) old,
          count_append t (map (stamped None) a) new,
          count_append t (map (stamped (Some epoch)) b) olds,
          count_append t (map (stamped None) b) news,
          first.takes.counts t,
          second.takes.counts t,
        );
      };
      none = All-append (λ s. s.del ≡ None → left (asked_of s) ≡ 0) new news
          (none_wanted_less mid left new (λ q. omega (arith, second.taken q)) first.none) second.none;
    }

pub took_none : (epoch : ℕ) (need : Asked → ℕ) → Took epoch [] [] need need
took_none epoch need = record {
  asked = [];
  taken = λ q. omega arith;
  takes = bag_refl [];
  none = λ j d lt. absurd (omega (arith, lt));
}
