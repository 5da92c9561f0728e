-- The committed rows that a session sees lie, with its pending deletes, within the undeleted rows of the table.
use Rattle.std.proofs.Common.{◌≡◌, ℕ, ◌+◌, ◌≤◌, ◌<◌, ◌++◌, Bool, true, false, not, cond, List, [], ◌∷◌, map, filter, Option, Some, None, refl, sym, ap, ap₂, ◌∙◌, subst, arith}
use Rattle.std.specs.Prelude.{count_by, ◌&&◌, ◌==◌, nat_le, is_none}
use Rattle.std.specs.List.{All}
use Rattle.std.specs.Option.{IfSome, option_map_or}
use Rattle.std.specs.Ordering.{is_eq}
use Rattle.std.proofs.lemmas.Bool.Decides.{nat_tests}
use Rattle.std.proofs.lemmas.Cmp.{tied_itself}
use Rattle.std.proofs.lemmas.List.{append_assoc, map-append}
use Rattle.std.proofs.lemmas.List.Elements.{All-head, All-tail}
use Rattle.common_laws.specs.Bags.{SameBag}
use Rattle.common_laws.proofs.BagLaws.{bag_append, bag_cancel, bag_filter, bag_map, bag_refl, bag_sym, bag_trans, count_append, count_cons}
use Rattle.col_value.specs.declared.row.Asked.{Asked}
use Rattle.col_value.specs.declared.row.Stamped.{Stamped}
use Rattle.col_value.specs.declared.value.Value.{Value}
use Rattle.col_value.specs.Laws.{tie_told, row_exact, row_total}
use Rattle.col_value.specs.Order.{row_cmp}
use Rattle.row_history.specs.History.{Within, is_visible, stamped}
use Rattle.db_model.specs.Sound.{HasEpochs}
use Rattle.db_model.specs.Views.{asked_of, is_same_asked, less, less_one}

abbrev one_if : Bool → ℕ
one_if b = cond b 1 0

-- ---- undeleted rows

abbrev is_left : Stamped → Bool
is_left s = is_none s.del

-- the rows that are visible at the newest epoch are the undeleted ones
shown_is_left : (last : ℕ) (s : Stamped) → HasEpochs last s → is_visible last s ≡ is_left s
shown_is_left last s has = by s.del refl
  where
    come : nat_le s.ins last ≡ true
    come = let le = has.inserted in grind (arith, nat_tests, le)

    gone : (d : ℕ) → s.del ≡ Some d → nat_le d last ≡ true
    gone d at =
        let (after, closed) = subst (λ (o : Option ℕ). IfSome o (λ e. (s.ins < e) × (e ≤ last))) at has.deleted in
        grind (arith, nat_tests, closed)

    by : (o : Option ℕ) → s.del ≡ o → (nat_le s.ins last && not (option_map_or (λ e. nat_le e last) s.del false)) ≡ is_none s.del
    by None at =
        ap (λ (b : Bool). b && not (option_map_or (λ e. nat_le e last) s.del false)) come
        ∙ ap (λ (o : Option ℕ). not (option_map_or (λ e. nat_le e last) o false)) at ∙ sym (ap is_none at)
    by (Some d) at =
        ap (λ (b : Bool). b && not (option_map_or (λ e. nat_le e last) s.del false)) come
        ∙ ap (λ (o : Option ℕ). not (option_map_or (λ e. nat_le e last) o false)) at ∙ ap not (gone d at) ∙ sym (ap is_none at)

shown_are_left : (last : ℕ) (rows : List Stamped) → All (HasEpochs last) rows → filter (is_visible last) rows ≡ filter is_left rows
shown_are_left last [] all = refl
shown_are_left last (s ∷ rows) all =
    ap₂ (λ (b : Bool) (xs : List Stamped). cond b (s ∷ xs) xs) (shown_is_left last s (All-head (HasEpochs last) s rows all)) (shown_are_left last rows (All-tail (HasEpochs last) s rows all))

-- the rows that are asked for are undeleted
asked_are_left : (deletes : List Asked) (rest : List Stamped) → filter is_left (map (stamped None) deletes ++ rest) ≡ map (stamped None) deletes ++ filter is_left rest
asked_are_left [] rest = refl
asked_are_left (a ∷ deletes) rest = ap (λ (xs : List Stamped). stamped None a ∷ xs) (asked_are_left deletes rest)

asked_again : (deletes : List Asked) (rest : List Stamped) → map asked_of (map (stamped None) deletes ++ rest) ≡ deletes ++ map asked_of rest
asked_again [] rest = refl
asked_again (a ∷ deletes) rest = ap (λ (xs : List Asked). a ∷ xs) (asked_again deletes rest)

abbrev make : List Value → ℕ → Option ℕ → Stamped
make row ins del = record { row = row; ins = ins; del = del }

stamped_again : (rows : List Stamped) → map (stamped None) (map asked_of (filter is_left rows)) ≡ filter is_left rows
stamped_again [] = refl
stamped_again (s ∷ rows) = by s.del refl (stamped_again rows)
  where
    by : (o : Option ℕ) → s.del ≡ o → map (stamped None) (map asked_of (filter is_left rows)) ≡ filter is_left rows
        → map (stamped None) (map asked_of (cond (is_none s.del) (s ∷ filter is_left rows) (filter is_left rows))) ≡ cond (is_none s.del) (s ∷ filter is_left rows) (filter is_left rows)
    by None at rest =
        let same : stamped None (asked_of s) ≡ s = ap (λ (o : Option ℕ). make s.row s.ins o) (sym at) in
        subst (λ (b : Bool). map (stamped None) (map asked_of (cond b (s ∷ filter is_left rows) (filter is_left rows))) ≡ cond b (s ∷ filter is_left rows) (filter is_left rows)) (sym (ap is_none at))
        (ap₂ (λ (x : Stamped) (xs : List Stamped). x ∷ xs) same rest)
    by (Some d) at rest =
        subst (λ (b : Bool). map (stamped None) (map asked_of (cond b (s ∷ filter is_left rows) (filter is_left rows))) ≡ cond b (s ∷ filter is_left rows) (filter is_left rows)) (sym (ap is_none at)) rest

-- ---- rows without those that are deleted

row_same : (v w : List Value) → is_eq (row_cmp v w) ≡ true → v ≡ w
row_same v w same = row_exact v w (tie_told (row_cmp v w) same)

same_parts : (a b : Asked) → is_same_asked a b ≡ true → a ≡ b
same_parts a b is = by (a.ins == b.ins) refl (is_eq (row_cmp a.row b.row)) refl is
  where
    joined : List Value → ℕ → Asked
    joined row ins = record { row = row; ins = ins }

    by : (x : Bool) → (a.ins == b.ins) ≡ x → (y : Bool) → is_eq (row_cmp a.row b.row) ≡ y → (x && y) ≡ true → a ≡ b
    by true first true second both = ap₂ joined (row_same a.row b.row second) (grind (arith, nat_tests, first))
    by true first false second both = absurd (cc)
    by false first y second both = absurd (cc)

part_itself : (a : Asked) → is_same_asked a a ≡ true
part_itself a =
    let ins : (a.ins == a.ins) ≡ true = grind (arith, nat_tests) in
    let row : is_eq (row_cmp a.row a.row) ≡ true = ap is_eq (tied_itself row_total a.row) in
    ap₂ (λ (x y : Bool). x && y) ins row

one_out : (g : Asked) (rows : List Asked) → 1 ≤ count_by (λ a. is_same_asked a g) rows → SameBag rows (g ∷ less_one g rows)
one_out g [] some = absurd (omega (arith, some))
one_out g (a ∷ rows) some = by (is_same_asked a g) refl (one_out g rows) (count_cons (λ x. is_same_asked x g) a rows)
  where
    by : (b : Bool) → is_same_asked a g ≡ b → (1 ≤ count_by (λ x. is_same_asked x g) rows → SameBag rows (g ∷ less_one g rows)) → count_by (λ x. is_same_asked x g) (a ∷ rows) ≡ cond b 1 0 + count_by (λ x. is_same_asked x g) rows
        → SameBag (a ∷ rows) (g ∷ cond b rows (a ∷ less_one g rows))
    by true is more at = subst (λ (x : Asked). SameBag (a ∷ rows) (x ∷ rows)) (same_parts a g is) (bag_refl (a ∷ rows))
    by false is more at =
        let bag = more (omega (arith, some, at)) in
        record {
          counts = λ p.
              omega (arith, count_cons p a rows, count_cons p g (a ∷ less_one g rows), count_cons p a (less_one g rows), count_cons p g (less_one g rows), bag.counts p);
        }

-- where rows are the gone ones and some others, the others are left
others_left : (gone rows rest : List Asked) → SameBag rows (gone ++ rest) → SameBag (less gone rows) rest
others_left [] rows rest bag = bag
others_left (g ∷ gone) rows rest bag =
    let own : is_same_asked g g ≡ true = part_itself g in
    let here : one_if (is_same_asked g g) ≡ one_if true = ap one_if own in
    let some : 1 ≤ count_by (λ a. is_same_asked a g) rows = omega (arith, bag.counts (λ a. is_same_asked a g), count_cons (λ a. is_same_asked a g) g (gone ++ rest), here) in
    let out = one_out g rows some in
    let behind : SameBag (less_one g rows) (gone ++ rest) = bag_cancel (g ∷ []) (less_one g rows) (gone ++ rest) (bag_trans (g ∷ less_one g rows) rows (g ∷ (gone ++ rest)) (bag_sym rows (g ∷ less_one g rows) out) bag) in
    others_left gone (less_one g rows) rest behind

-- ---- what joins the deletes

-- those that pass a test and those that don't
parted : {X : Type 0} (p : X → Bool) (xs : List X) → SameBag xs (filter p xs ++ filter (λ x. not (p x)) xs)
parted {X} p xs = record { counts = λ q. halves q xs ∙ sym (count_append q (filter p xs) (filter (λ x. not (p x)) xs)) }
  where
    halves : (q : X → Bool) (ys : List X) → count_by q ys ≡ count_by q (filter p ys) + count_by q (filter (λ x. not (p x)) ys)
    halves q [] = refl
    halves q (y ∷ ys) = by (p y) (halves q ys)
      where
        by : (b : Bool) → count_by q ys ≡ count_by q (filter p ys) + count_by q (filter (λ x. not (p x)) ys)
            → count_by q (y ∷ ys) ≡ count_by q (cond b (y ∷ filter p ys) (filter p ys)) + count_by q (cond (not b) (y ∷ filter (λ x. not (p x)) ys) (filter (λ x. not (p x)) ys))
        by true rest = omega (arith, rest, count_cons q y ys, count_cons q y (filter p ys))
        by false rest = omega (arith, rest, count_cons q y ys, count_cons q y (filter (λ x. not (p x)) ys))

-- the deletes, with those that pass of the rows that are seen, lie within the undeleted rows
pub marks_within : (last : ℕ) (deletes : List Asked) (table : List Stamped) (p : Asked → Bool) → All (HasEpochs last) table → Within deletes table
    → Within (deletes ++ filter p (less deletes (map asked_of (filter (is_visible last) table)))) table
marks_within last deletes table p epochs (rest, bag) =
    let shown = map asked_of (filter (is_visible last) table) in
    let left = filter is_left table in
    let view = less deletes shown in
    let kept = filter p view in
    let others = filter (λ a. not (p a)) view in
    let gone = filter (λ s. not (is_left s)) table in
    let same : shown ≡ map asked_of left = ap (map asked_of) (shown_are_left last table epochs) in
    let apart : SameBag left (map (stamped None) deletes ++ filter is_left rest) =
    subst (SameBag left) (asked_are_left deletes rest) (bag_filter is_left table (map (stamped None) deletes ++ rest) bag) in
    let seen : SameBag shown (deletes ++ map asked_of (filter is_left rest)) =
    subst (λ (xs : List Asked). SameBag xs (deletes ++ map asked_of (filter is_left rest))) (sym same)
    (subst (SameBag (map asked_of left)) (asked_again deletes (filter is_left rest)) (bag_map asked_of left (map (stamped None) deletes ++ filter is_left rest) apart)) in
    let viewed : SameBag view (map asked_of (filter is_left rest)) = others_left deletes shown (map asked_of (filter is_left rest)) seen in
    let split : SameBag (map asked_of (filter is_left rest)) (kept ++ others) =
    bag_trans (map asked_of (filter is_left rest)) view (kept ++ others) (bag_sym view (map asked_of (filter is_left rest)) viewed) (parted p view) in
    let whole : SameBag shown ((deletes ++ kept) ++ others) =
    subst (SameBag shown) (sym (append_assoc deletes kept others))
    (bag_trans shown (deletes ++ map asked_of (filter is_left rest)) (deletes ++ (kept ++ others)) seen
    (bag_append deletes (map asked_of (filter is_left rest)) deletes (kept ++ others) (bag_refl deletes) split)) in
    let again : map (stamped None) shown ≡ left = ap (map (stamped None)) same ∙ stamped_again table in
    let marked : SameBag left (map (stamped None) (deletes ++ kept) ++ map (stamped None) others) =
    subst (λ (xs : List Stamped). SameBag xs (map (stamped None) (deletes ++ kept) ++ map (stamped None) others)) again
    (subst (SameBag (map (stamped None) shown)) (map-append (stamped None) (deletes ++ kept) others) (bag_map (stamped None) shown ((deletes ++ kept) ++ others) whole)) in (
      map (stamped None) others ++ gone,
      bag_trans table (left ++ gone) (map (stamped None) (deletes ++ kept) ++ (map (stamped None) others ++ gone)) (parted is_left table)
          (subst (SameBag (left ++ gone)) (append_assoc (map (stamped None) (deletes ++ kept)) (map (stamped None) others) gone)
          (bag_append left gone (map (stamped None) (deletes ++ kept) ++ map (stamped None) others) gone marked (bag_refl gone))),
    )
