-- A commit's deletes, in a table and in its projections.
use Rattle.std.proofs.Common.{◌≡◌, ℕ, ◌+◌, ◌<◌, ◌++◌, Bool, true, false, cond, List, [], ◌∷◌, map, Option, Some, None, refl, sym, ap, ap₂, ◌∙◌, arith, subst}
use Rattle.std.specs.Prelude.{nat_lt, count_by, ◌==◌, ◌&&◌, ◌||◌, is_none}
use Rattle.std.specs.List.{list_any}
use Rattle.std.proofs.lemmas.Cmp.{tied_itself}
use Rattle.std.specs.Ordering.{is_eq}
use Rattle.std.proofs.lemmas.Bool.Decides.{nat_tests}
use Rattle.std.proofs.lemmas.List.{map-append}
use Rattle.std.proofs.lemmas.List.Elements.{filter-append}
use Rattle.common_laws.specs.Bags.{SameBag}
use Rattle.common_laws.proofs.Truths.{and_true}
use Rattle.common_laws.proofs.BagLaws.{bag_refl, bag_sym, bag_trans, bag_append, bag_cancel, bag_map, bag_filter, count_cons, count_append}
use Rattle.col_value.specs.declared.row.Asked.{Asked}
use Rattle.col_value.specs.declared.row.Stamped.{Stamped}
use Rattle.col_value.specs.declared.value.Value.{Value}
use Rattle.col_value.specs.Laws.{tie_told, row_exact, row_total}
use Rattle.col_value.specs.Order.{row_cmp}
use Rattle.row_history.specs.History.{is_retained, retained, on_columns, asked_on, stamped, is_asked, mark_one, mark_all, Within, Takes}
use Rattle.row_history.proofs.Histories.{map_mapped}

kept_none : (mark : ℕ) (asked : List Asked) → retained mark (map (stamped None) asked) ≡ map (stamped None) asked
kept_none mark [] = refl
kept_none mark (a ∷ asked) = ap (λ (ss : List Stamped). stamped None a ∷ ss) (kept_none mark asked)

kept_some : (mark epoch : ℕ) (asked : List Asked) → mark < epoch → retained mark (map (stamped (Some epoch)) asked) ≡ map (stamped (Some epoch)) asked
kept_some mark epoch [] lt = refl
kept_some mark epoch (a ∷ asked) lt =
    let test : nat_lt mark epoch ≡ true = grind (arith, nat_tests) in
    ap (λ (b : Bool). cond b (stamped (Some epoch) a ∷ retained mark (map (stamped (Some epoch)) asked)) (retained mark (map (stamped (Some epoch)) asked))) test
    ∙ ap (λ (ss : List Stamped). stamped (Some epoch) a ∷ ss) (kept_some mark epoch asked lt)

-- from the mark on the same rows are taken
pub takes_retained : (mark epoch : ℕ) (asked : List Asked) (old new : List Stamped) → mark < epoch → Takes epoch asked old new → Takes epoch asked (retained mark old) (retained mark new)
takes_retained mark epoch asked old new lt takes =
    let left : retained mark (map (stamped (Some epoch)) asked ++ old) ≡ map (stamped (Some epoch)) asked ++ retained mark old =
    filter-append (is_retained mark) (map (stamped (Some epoch)) asked) old ∙ ap (λ (ss : List Stamped). ss ++ retained mark old) (kept_some mark epoch asked lt) in
    let right : retained mark (map (stamped None) asked ++ new) ≡ map (stamped None) asked ++ retained mark new =
    filter-append (is_retained mark) (map (stamped None) asked) new ∙ ap (λ (ss : List Stamped). ss ++ retained mark new) (kept_none mark asked) in
    subst (λ (xs : List Stamped). SameBag xs (map (stamped None) asked ++ retained mark new)) left
    (subst (SameBag (retained mark (map (stamped (Some epoch)) asked ++ old))) right (bag_filter (is_retained mark) _ _ takes))

columns_taken : (columns : List ℕ) (del : Option ℕ) (asked : List Asked) (rows : List Stamped)
    → map (on_columns columns) (map (stamped del) asked ++ rows) ≡ map (stamped del) (map (asked_on columns) asked) ++ map (on_columns columns) rows
columns_taken columns del asked rows =
    map-append (on_columns columns) (map (stamped del) asked) rows
    ∙ ap (λ (ss : List Stamped). ss ++ map (on_columns columns) rows) (map_mapped (on_columns columns) (stamped del) asked ∙ sym (map_mapped (stamped del) (asked_on columns) asked))

-- a projection and its table that took the same rows, each with its columns, are alike still
pub taken_alike : (columns : List ℕ) (mark epoch : ℕ) (asked : List Asked) (stored stored_now rows rows_now : List Stamped) → mark < epoch
    → SameBag (retained mark stored) (map (on_columns columns) (retained mark rows))
    → Takes epoch (map (asked_on columns) asked) stored stored_now → Takes epoch asked rows rows_now
    → SameBag (retained mark stored_now) (map (on_columns columns) (retained mark rows_now))
taken_alike columns mark epoch asked stored stored_now rows rows_now lt bag narrow wide =
    let narrow_kept = takes_retained mark epoch (map (asked_on columns) asked) stored stored_now lt narrow in
    let wide_kept = takes_retained mark epoch asked rows rows_now lt wide in
    let told : SameBag (map (stamped (Some epoch)) (map (asked_on columns) asked) ++ map (on_columns columns) (retained mark rows)) (map (stamped None) (map (asked_on columns) asked) ++ map (on_columns columns) (retained mark rows_now)) =
    subst (λ (xs : List Stamped). SameBag xs (map (stamped None) (map (asked_on columns) asked) ++ map (on_columns columns) (retained mark rows_now))) (columns_taken columns (Some epoch) asked (retained mark rows))
    (subst (SameBag (map (on_columns columns) (map (stamped (Some epoch)) asked ++ retained mark rows))) (columns_taken columns None asked (retained mark rows_now)) (bag_map (on_columns columns) _ _ wide_kept)) in
    bag_cancel (map (stamped None) (map (asked_on columns) asked)) (retained mark stored_now) (map (on_columns columns) (retained mark rows_now))
    (bag_trans _ _ _ (bag_sym _ _ narrow_kept)
    (bag_trans _ _ _ (bag_append (map (stamped (Some epoch)) (map (asked_on columns) asked)) (retained mark stored) (map (stamped (Some epoch)) (map (asked_on columns) asked)) (map (on_columns columns) (retained mark rows)) (bag_refl (map (stamped (Some epoch)) (map (asked_on columns) asked))) bag) told))

-- a test holds of some element of both of two equal bags, or of none
any_counted : {X : Type 0} (p : X → Bool) (xs ys : List X) → SameBag xs ys → list_any p xs ≡ list_any p ys
any_counted p xs ys same = positive xs ∙ ap (nat_lt 0) (same.counts p) ∙ sym (positive ys)
  where
    more : (b t : Bool) (n m : ℕ) → n ≡ cond b 1 0 + m → t ≡ nat_lt 0 m → (b || t) ≡ nat_lt 0 n
    more true t n m e h = grind (arith, nat_tests)
    more false t n m e h = let same : n ≡ m = omega arith in h ∙ ap (nat_lt 0) (sym same)

    positive : (zs : List _) → list_any p zs ≡ nat_lt 0 (count_by p zs)
    positive [] = refl
    positive (z ∷ zs) = more (p z) (list_any p zs) (count_by p (z ∷ zs)) (count_by p zs) (count_cons p z zs) (positive zs)

swapped : {X : Type 0} (x y : X) (xs : List X) → SameBag (x ∷ y ∷ xs) (y ∷ x ∷ xs)
swapped x y xs = record { counts = λ p. omega (arith, count_cons p x (y ∷ xs), count_cons p y xs, count_cons p y (x ∷ xs), count_cons p x xs) }

behind : {X : Type 0} (x : X) (xs ys : List X) → SameBag xs ys → SameBag (x ∷ xs) (x ∷ ys)
behind x xs ys same = record { counts = λ p. omega (arith, count_cons p x xs, count_cons p x ys, same.counts p) }

-- what is asked for is the row, undeleted
asked_is : (a : Asked) (s : Stamped) → is_asked a s ≡ true → s ≡ stamped None a
asked_is a s is = by s.del refl
  where
    rest : (is_none s.del ≡ true) × (((s.ins == a.ins) && is_eq (row_cmp s.row a.row)) ≡ true)
    rest = and_true (is_none s.del) ((s.ins == a.ins) && is_eq (row_cmp s.row a.row)) is

    ins_and_row : ((s.ins == a.ins) ≡ true) × (is_eq (row_cmp s.row a.row) ≡ true)
    ins_and_row = and_true (s.ins == a.ins) (is_eq (row_cmp s.row a.row)) rest.1

    make : List Value → ℕ → Option ℕ → Stamped
    make row ins del = record { row = row; ins = ins; del = del }

    by : (o : Option ℕ) → s.del ≡ o → s ≡ stamped None a
    by (Some d) is_del = let t : is_none (Some d) ≡ true = sym (ap is_none is_del) ∙ rest.0 in absurd (cc)
    by None is_del =
        let same_ins : s.ins ≡ a.ins = let t = ins_and_row.0 in grind (arith, nat_tests) in
        let same_row : s.row ≡ a.row = row_exact s.row a.row (tie_told (row_cmp s.row a.row) ins_and_row.1) in
        ap (λ (r : List Value). make r s.ins s.del) same_row ∙ ap₂ (λ (n : ℕ) (d : Option ℕ). make a.row n d) same_ins is_del

middle : {X : Type 0} (x : X) (xs ys : List X) → SameBag (x ∷ (xs ++ ys)) (xs ++ x ∷ ys)
middle x xs ys = record { counts = λ p. omega (arith, count_cons p x (xs ++ ys), count_append p xs ys, count_append p xs (x ∷ ys), count_cons p x ys) }

-- where an undeleted row is there, one is deleted
pub one_taken : (epoch : ℕ) (a : Asked) (rows : List Stamped) → list_any (is_asked a) rows ≡ true → SameBag (stamped (Some epoch) a ∷ rows) (stamped None a ∷ mark_one epoch a rows)
one_taken epoch a [] has = absurd (cc)
one_taken epoch a (s ∷ rows) has = by (is_asked a s) refl has (λ h. one_taken epoch a rows h)
  where
    by : (b : Bool) → is_asked a s ≡ b → (b || list_any (is_asked a) rows) ≡ true → (list_any (is_asked a) rows ≡ true → SameBag (stamped (Some epoch) a ∷ rows) (stamped None a ∷ mark_one epoch a rows))
        → SameBag (stamped (Some epoch) a ∷ s ∷ rows) (stamped None a ∷ cond b ((record s { del = Some epoch }) ∷ rows) (s ∷ mark_one epoch a rows))
    by true is h rec =
        subst (λ (t : Stamped). SameBag (stamped (Some epoch) a ∷ t ∷ rows) (stamped None a ∷ (record t { del = Some epoch }) ∷ rows)) (sym (asked_is a s is))
        (swapped (stamped (Some epoch) a) (stamped None a) rows)
    by false is h rec =
        bag_trans _ _ _ (swapped (stamped (Some epoch) a) s rows)
        (bag_trans _ _ _ (behind s (stamped (Some epoch) a ∷ rows) (stamped None a ∷ mark_one epoch a rows) (rec h)) (swapped s (stamped None a) (mark_one epoch a rows)))

is_itself : (a : Asked) → is_asked a (stamped None a) ≡ true
is_itself a =
    let ins : (a.ins == a.ins) ≡ true = grind (arith, nat_tests) in
    let row : is_eq (row_cmp a.row a.row) ≡ true = ap is_eq (tied_itself row_total a.row) in
    ap₂ (λ (x y : Bool). x && y) ins row

-- the model's marking takes them
pub mark_takes : (epoch : ℕ) (asked : List Asked) (rows : List Stamped) → Within asked rows → Takes epoch asked rows (mark_all epoch asked rows)
mark_takes epoch [] rows within = bag_refl rows
mark_takes epoch (a ∷ more) rows (rest, within) =
    let x : Stamped = stamped (Some epoch) a in
    let y : Stamped = stamped None a in
    let behind_y : List Stamped = map (stamped None) more ++ rest in
    let next : List Stamped = mark_one epoch a rows in
    let here : list_any (is_asked a) (y ∷ behind_y) ≡ true = ap (λ (b : Bool). b || list_any (is_asked a) behind_y) (is_itself a) in
    let has : list_any (is_asked a) rows ≡ true = any_counted (is_asked a) rows (y ∷ behind_y) within ∙ here in
    let one : SameBag (x ∷ rows) (y ∷ next) = one_taken epoch a rows has in
    let both : SameBag (y ∷ next) (y ∷ x ∷ behind_y) =
    bag_trans _ _ _ (bag_sym _ _ one) (bag_trans _ _ _ (behind x rows (y ∷ behind_y) within) (swapped x y behind_y)) in
    let left : SameBag next (x ∷ behind_y) = bag_cancel (y ∷ []) next (x ∷ behind_y) both in
    let later = mark_takes epoch more next (x ∷ rest, bag_trans _ _ _ left (middle x (map (stamped None) more) rest)) in
    let new : List Stamped = mark_all epoch more next in
    bag_trans _ _ _ (middle x (map (stamped (Some epoch)) more) rows)
    (bag_trans _ _ _ (bag_append (map (stamped (Some epoch)) more) (x ∷ rows) (map (stamped (Some epoch)) more) (y ∷ next) (bag_refl (map (stamped (Some epoch)) more)) one)
    (bag_trans _ _ _ (bag_sym _ _ (middle y (map (stamped (Some epoch)) more) next)) (behind y (map (stamped (Some epoch)) more ++ next) (map (stamped None) more ++ new) later)))
