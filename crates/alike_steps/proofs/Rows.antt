-- The rows that a statement finds in alike tables, beside alike changes, are one bag.
use Rattle.std.proofs.Common.{◌≡◌, ℕ, ◌+◌, ◌-◌, ◌≤◌, not, Bool, true, false, cond, List, [], ◌∷◌, map, filter, refl, sym, ap, ap₂, ◌∙◌, arith, subst}
use Rattle.std.specs.Prelude.{Option, Some, None, count_by, nat_le, nat_lt, ◌&&◌, ◌==◌}
use Rattle.std.specs.Option.{option_map_or}
use Rattle.std.specs.Ordering.{is_eq}
use Rattle.std.proofs.lemmas.Bool.Decides.{nat_tests}
use Rattle.std.proofs.lemmas.Cmp.{tied_itself}
use Rattle.common_laws.specs.Bags.{SameBag}
use Rattle.common_laws.proofs.BagLaws.{bag_append, bag_filter, bag_map, bag_of_permutation, count_cons}
use Rattle.col_value.specs.declared.row.Asked.{Asked}
use Rattle.col_value.specs.declared.row.Stamped.{Stamped}
use Rattle.col_value.specs.declared.value.Value.{Value}
use Rattle.col_value.specs.Laws.{row_exact, row_total, tie_told}
use Rattle.col_value.specs.Order.{row_cmp}
use Rattle.row_history.specs.History.{is_retained, is_visible, retained}
use Rattle.row_history.proofs.Histories.{filter_twice}
use Rattle.sql_bound.specs.declared.expr.Expr.{Expr}
use Rattle.sql_bound.specs.Outputs.{is_kept}
use Rattle.db_model.specs.Alike.{IsAlikeTable}
use Rattle.db_model.specs.Database.{Table}
use Rattle.db_model.specs.Events.{matched_rows}
use Rattle.db_model.specs.State.{Changes, pending_deletes, pending_rows}
use Rattle.db_model.specs.Views.{asked_of, committed_view, is_same_asked, less, less_one}
use Rattle.alike_laws.proofs.Changes.{Alike, deletes_alike, pending_alike}
use Rattle.alike_laws.proofs.Permutes.{counts_permute}

abbrev one_if : Bool → ℕ
one_if b = cond b 1 0

-- ---- rows with their insert epochs, and what is taken out of them

abbrev make : List Value → ℕ → Asked
make row ins = record { row = row; ins = ins }

same_parts : (a b : Asked) → is_same_asked a b ≡ true → a ≡ b
same_parts a b is = by (a.ins == b.ins) refl (is_eq (row_cmp a.row b.row)) refl is
  where
    by : (x : Bool) → (a.ins == b.ins) ≡ x → (y : Bool) → is_eq (row_cmp a.row b.row) ≡ y → (x && y) ≡ true → a ≡ b
    by true first true second both = ap₂ make (row_exact a.row b.row (tie_told (row_cmp a.row b.row) second)) (grind (arith, first))
    by true first false second both = absurd (cc)
    by false first y second both = absurd (cc)

part_itself : (a : Asked) → is_same_asked a a ≡ true
part_itself a = both (a.ins == a.ins) (is_eq (row_cmp a.row a.row)) (grind arith) (ap is_eq (tied_itself row_total a.row))
  where
    both : (x y : Bool) → x ≡ true → y ≡ true → (x && y) ≡ true
    both true true first second = refl
    both true false first second = second
    both false y first second = first

-- how often a row stands among some
abbrev often : Asked → List Asked → ℕ
often q rows = count_by (λ a. is_same_asked a q) rows

one_less : (q g : Asked) (rows : List Asked) → often q (less_one g rows) ≡ often q rows - one_if (is_same_asked g q)
one_less q g [] = omega arith
one_less q g (row ∷ rows) = by (is_same_asked row g) refl (one_less q g rows) (count_cons (λ r. is_same_asked r q) row rows) (count_cons (λ r. is_same_asked r q) row (less_one g rows))
  where
    apart : (b c : Bool) → is_same_asked row q ≡ b → is_same_asked g q ≡ c → is_same_asked row g ≡ false → (one_if b + (often q rows - one_if c)) ≡ (one_if b + often q rows) - one_if c
    apart true true here there is =
        let one : row ≡ g = same_parts row q here ∙ sym (same_parts g q there) in
        let never : true ≡ false = sym (part_itself row) ∙ ap (is_same_asked row) one ∙ is in
        absurd (cc)
    apart true false here there is = omega arith
    apart false c here there is = omega arith

    by : (b : Bool) → is_same_asked row g ≡ b → often q (less_one g rows) ≡ often q rows - one_if (is_same_asked g q) → often q (row ∷ rows) ≡ one_if (is_same_asked row q) + often q rows
        → often q (row ∷ less_one g rows) ≡ one_if (is_same_asked row q) + often q (less_one g rows) → often q (cond b rows (row ∷ less_one g rows)) ≡ often q (row ∷ rows) - one_if (is_same_asked g q)
    by true is more at less =
        let one : one_if (is_same_asked row q) ≡ one_if (is_same_asked g q) = ap (λ (r : Asked). one_if (is_same_asked r q)) (same_parts row g is) in
        omega (arith, at, one)
    by false is more at less =
        let split = apart (is_same_asked row q) (is_same_asked g q) refl refl is in
        omega (arith, more, at, less, split)

all_less : (q : Asked) (gone rows : List Asked) → often q (less gone rows) ≡ often q rows - often q gone
all_less q [] rows = let none : often q [] ≡ 0 = refl in omega (arith, none)
all_less q (g ∷ gone) rows = omega (arith, all_less q gone (less_one g rows), one_less q g rows, count_cons (λ r. is_same_asked r q) g gone)

-- of one bag another is taken
less_bag : (gone out rows others : List Asked) → SameBag gone out → SameBag rows others → SameBag (less gone rows) (less out others)
less_bag gone out rows others fewer seen =
    bag_of_permutation (less gone rows) (less out others)
    (counts_permute is_same_asked same_parts part_itself (less gone rows) (less out others) (λ q.
    let test : Asked → Bool = λ row. is_same_asked row q in
    omega (arith, all_less q gone rows, all_less q out others, fewer.counts test, seen.counts test)))

-- ---- the rows that are seen

-- what is seen at an epoch from the mark on is retained
seen_kept : (mark epoch ins : ℕ) (del : Option ℕ) → mark ≤ epoch → (nat_le ins epoch && not (option_map_or (λ e. nat_le e epoch) del false)) ≡ true → option_map_or (λ e. nat_lt mark e) del true ≡ true
seen_kept mark epoch ins None le is = refl
seen_kept mark epoch ins (Some d) le is = by (nat_le ins epoch) (nat_le d epoch) refl is
  where
    by : (a b : Bool) → nat_le d epoch ≡ b → (a && not b) ≡ true → nat_lt mark d ≡ true
    by true true later none = absurd (cc)
    by true false later seen = grind (arith, nat_tests)
    by false b later none = absurd (cc)

seen_retained : (mark epoch : ℕ) (rows : List Stamped) → mark ≤ epoch → filter (is_visible epoch) (retained mark rows) ≡ filter (is_visible epoch) rows
seen_retained mark epoch rows le = filter_twice (is_visible epoch) (is_retained mark) (λ s. seen_kept mark epoch s.ins s.del le) rows

seen_bag : (mark epoch : ℕ) (rows others : List Stamped) → mark ≤ epoch → SameBag (retained mark rows) (retained mark others) → SameBag (filter (is_visible epoch) rows) (filter (is_visible epoch) others)
seen_bag mark epoch rows others le same =
    subst (λ (xs : List Stamped). SameBag xs (filter (is_visible epoch) others)) (seen_retained mark epoch rows le)
    (subst (SameBag (filter (is_visible epoch) (retained mark rows))) (seen_retained mark epoch others le) (bag_filter (is_visible epoch) (retained mark rows) (retained mark others) same))

-- the committed rows that a session sees of alike tables
pub view_bag : (mark last : ℕ) (cs es : List Changes) (t u : Table) → mark ≤ last → Alike cs es → IsAlikeTable mark t u → SameBag (committed_view last cs t) (committed_view last es u)
view_bag mark last cs es t u le alike same =
    less_bag (pending_deletes t.name cs) (pending_deletes u.name es) (map asked_of (filter (is_visible last) t.rows)) (map asked_of (filter (is_visible last) u.rows))
    (subst (λ (n : List ℕ). SameBag (pending_deletes t.name cs) (pending_deletes n es)) same.name (deletes_alike t.name cs es alike))
    (bag_map asked_of (filter (is_visible last) t.rows) (filter (is_visible last) u.rows) (seen_bag mark last t.rows u.rows le same.rows))

-- the pending ones
pub pending_bag : (mark : ℕ) (cs es : List Changes) (t u : Table) → Alike cs es → IsAlikeTable mark t u → SameBag (pending_rows t.name cs) (pending_rows u.name es)
pending_bag mark cs es t u alike same = subst (λ (n : List ℕ). SameBag (pending_rows t.name cs) (pending_rows n es)) same.name (pending_alike t.name cs es alike)

-- and those on which a condition is true
pub matched_bag : (keep : List Expr) (mark last : ℕ) (cs es : List Changes) (t u : Table) → mark ≤ last → Alike cs es → IsAlikeTable mark t u → SameBag (matched_rows keep cs last t) (matched_rows keep es last u)
matched_bag keep mark last cs es t u le alike same =
    let rows : List Asked → List (List Value) = λ xs. map (λ a. a.row) xs in
    bag_append (filter (is_kept keep) (rows (committed_view last cs t))) (filter (is_kept keep) (pending_rows t.name cs)) (filter (is_kept keep) (rows (committed_view last es u))) (filter (is_kept keep) (pending_rows u.name es))
    (bag_filter (is_kept keep) (rows (committed_view last cs t)) (rows (committed_view last es u)) (bag_map (λ a. a.row) (committed_view last cs t) (committed_view last es u) (view_bag mark last cs es t u le alike same)))
    (bag_filter (is_kept keep) (pending_rows t.name cs) (pending_rows u.name es) (pending_bag mark cs es t u alike same))
