-- Where all that is wanted is there, all of it is taken.
use Rattle.std.proofs.Common.{◌≡◌, ◌+◌, ◌<◌, ◌≤◌, ◌∷◌, [], ℕ, zero, suc, Bool, true, false, cond, List, map, refl, ap, subst, arith}
use Rattle.std.specs.Prelude.{Option, Some, None, is_none, ◌&&◌, count_by}
use Rattle.std.proofs.lemmas.List.Elements.{All-head, All-tail}
use Rattle.common_laws.specs.Bags.{SameBag}
use Rattle.common_laws.proofs.BagLaws.{bag_refl, bag_sym, bag_trans, bag_append, bag_map, count_cons, count_append}
use Rattle.col_value.specs.declared.row.Asked.{Asked}
use Rattle.col_value.specs.declared.row.Stamped.{Stamped}
use Rattle.row_history.specs.History.{stamped, Takes, Within}
use Rattle.wanted_rows.specs.Wanted.{is_same, one_of, tally}
use Rattle.wanted_rows.specs.Taking.{asked_of, NoneWanted, Took}
use Rattle.wanted_rows.proofs.Counting.{same_exact, same_itself}

abbrev as_one : Bool → ℕ
as_one b = cond b 1 0

-- ---- lists in which each key stands as often are one bag

one_out : (q : Asked) (ys : List Asked) → 1 ≤ tally q ys → (rest : List Asked) × SameBag ys (q ∷ rest)
one_out q [] le = absurd (omega (arith, le))
one_out q (y ∷ ys) le = by (is_same y q) refl (λ more. one_out q ys more)
  where
    by : (b : Bool) → is_same y q ≡ b → (1 ≤ tally q ys → (rest : List Asked) × SameBag ys (q ∷ rest)) → (rest : List Asked) × SameBag (y ∷ ys) (q ∷ rest)
    by true is rec = (ys, subst (λ (x : Asked). SameBag (y ∷ ys) (x ∷ ys)) (same_exact y q is) (bag_refl (y ∷ ys)))
    by false is rec =
        let counted : tally q (y ∷ ys) ≡ one_of y q + tally q ys = count_cons (λ a. is_same a q) y ys in
        let none : one_of y q ≡ 0 = ap as_one is in
        let found = rec (omega (arith, le, counted, none)) in
        let rest = found.0 in
        (y ∷ rest, record { counts = λ p. omega (arith, found.1.counts p, count_cons p y ys, count_cons p q (y ∷ rest), count_cons p y rest, count_cons p q rest) })

pub bag_of_tally : (xs ys : List Asked) → ((q : Asked) → tally q xs ≡ tally q ys) → SameBag xs ys
bag_of_tally [] [] same = bag_refl []
bag_of_tally [] (y ∷ ys) same =
    let counted : tally y (y ∷ ys) ≡ one_of y y + tally y ys = count_cons (λ a. is_same a y) y ys in
    let one : one_of y y ≡ 1 = ap as_one (same_itself y) in
    let nought : 0 ≡ tally y (y ∷ ys) = same y in
    absurd (omega (arith, nought, counted, one))
bag_of_tally (x ∷ xs) ys same =
    let counted : tally x (x ∷ xs) ≡ one_of x x + tally x xs = count_cons (λ a. is_same a x) x xs in
    let one : one_of x x ≡ 1 = ap as_one (same_itself x) in
    let found = one_out x ys (omega (arith, counted, one, same x)) in
    let rest = found.0 in
    let rec = bag_of_tally xs rest (λ q. omega (arith, same q, found.1.counts (λ a. is_same a q), count_cons (λ a. is_same a q) x xs, count_cons (λ a. is_same a q) x rest)) in
    record { counts = λ p. omega (arith, rec.counts p, found.1.counts p, count_cons p x xs, count_cons p x rest) }

-- ---- undeleted rows of a key

abbrev is_live : Asked → Stamped → Bool
is_live q s = is_none s.del && is_same (asked_of s) q

live_some : (epoch : ℕ) (q : Asked) (keys : List Asked) → count_by (is_live q) (map (stamped (Some epoch)) keys) ≡ 0
live_some epoch q [] = refl
live_some epoch q (k ∷ keys) =
    omega (arith, count_cons (is_live q) (stamped (Some epoch) k) (map (stamped (Some epoch)) keys), live_some epoch q keys)

live_none : (q : Asked) (keys : List Asked) → count_by (is_live q) (map (stamped None) keys) ≡ tally q keys
live_none q [] = refl
live_none q (k ∷ keys) =
    omega (arith, count_cons (is_live q) (stamped None k) (map (stamped None) keys), count_cons (λ a. is_same a q) k keys, live_none q keys)

both : (a b : Bool) → (a && b) ≡ true → (a ≡ true) × (b ≡ true)
both true b is = (refl, is)
both false b is = absurd (cc)

is_none_told : (o : Option ℕ) → is_none o ≡ true → o ≡ None
is_none_told None e = refl
is_none_told (Some x) e = absurd (cc)

none_there : (left : Asked → ℕ) (q : Asked) (rows : List Stamped) → NoneWanted left rows → 0 < left q → count_by (is_live q) rows ≡ 0
none_there left q [] none lt = refl
none_there left q (s ∷ rows) none lt = by (is_live q s) refl (none_there left q rows (All-tail (λ s. s.del ≡ None → left (asked_of s) ≡ 0) s rows none) lt)
  where
    by : (b : Bool) → is_live q s ≡ b → count_by (is_live q) rows ≡ 0 → count_by (is_live q) (s ∷ rows) ≡ 0
    by true is rec =
        let told = both (is_none s.del) (is_same (asked_of s) q) is in
        let same : left (asked_of s) ≡ left q = ap left (same_exact (asked_of s) q told.1) in
        let nought : left (asked_of s) ≡ 0 = All-head (λ s. s.del ≡ None → left (asked_of s) ≡ 0) s rows none (is_none_told s.del told.0) in
        absurd (omega (arith, same, nought, lt))
    by false is rec =
        let no : as_one (is_live q s) ≡ 0 = ap as_one is in
        omega (arith, count_cons (is_live q) s rows, rec, no)

nothing_left : (epoch : ℕ) (old new : List Stamped) (wanted : List Asked) (left : Asked → ℕ) → Took epoch old new (λ q. tally q wanted) left
    → Within wanted old → (q : Asked) → left q ≡ 0
nothing_left epoch old new wanted left took (rest, within) q = by (left q) refl
  where
    by : (n : ℕ) → left q ≡ n → left q ≡ 0
    by zero is = is
    by (suc n) is =
        let lt : 0 < left q = omega (arith, is) in
        absurd (omega (
          arith,
          is,
          took.taken q,
          took.takes.counts (is_live q),
          within.counts (is_live q),
          count_append (is_live q) (map (stamped (Some epoch)) took.asked) old,
          count_append (is_live q) (map (stamped None) took.asked) new,
          count_append (is_live q) (map (stamped None) wanted) rest,
          live_some epoch q took.asked,
          live_none q took.asked,
          live_none q wanted,
          none_there left q new took.none lt,
        ))

-- where all that is wanted is among the undeleted rows, it is taken
pub took_takes : (epoch : ℕ) (old new : List Stamped) (wanted : List Asked) (left : Asked → ℕ) → Took epoch old new (λ q. tally q wanted) left
    → Within wanted old → Takes epoch wanted old new
took_takes epoch old new wanted left took within =
    let same : SameBag wanted took.asked = bag_of_tally wanted took.asked (λ q. omega (arith, took.taken q, nothing_left epoch old new wanted left took within q)) in
    let stamped_same : (del : Option ℕ) → SameBag (map (stamped del) wanted) (map (stamped del) took.asked) =
    λ del. bag_map (stamped del) _ _ same in
    bag_trans _ _ _ (bag_append (map (stamped (Some epoch)) wanted) old (map (stamped (Some epoch)) took.asked) old (stamped_same (Some epoch)) (bag_refl old))
    (bag_trans _ _ _ took.takes
    (bag_sym _ _ (bag_append (map (stamped None) wanted) new (map (stamped None) took.asked) new (stamped_same None) (bag_refl new))))

-- whether or not it is, what is taken lies within what is wanted
pub took_within : (epoch : ℕ) (old new : List Stamped) (wanted : List Asked) (left : Asked → ℕ) (took : Took epoch old new (λ q. tally q wanted) left) → (q : Asked) → tally q took.asked ≤ tally q wanted
took_within epoch old new wanted left took q = omega (arith, took.taken q)
