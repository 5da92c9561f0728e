-- Rows by the epochs that inserted and deleted them.
use Rattle.std.proofs.Common.{◌≡◌, ◌+◌, ◌-◌, ◌≤◌, ◌<◌, ◌++◌, not, ℕ, zero, suc, Bool, true, false, cond, List, [], ◌∷◌, map, filter, take, drop, length, get_or, Option, Some, None, refl, sym, ap, ap₂, ◌∙◌, arith, subst}
use Rattle.std.specs.Prelude.{nat_le, nat_lt, ◌==◌, Result, Ok, Err, IfOk, Vec}
use Rattle.std.specs.declared.alloc.AllocError.{AllocError}
use Rattle.std.specs.declared.alloc.Global.{Global}
use Rattle.std.specs.List.{All, AllWithin, AllZip}
use Rattle.std.specs.List.Sorted.{IsNonDecreasingBy, IsPermutation}
use Rattle.std.specs.Option.{option_map_or}
use Rattle.std.proofs.lemmas.Bool.Decides.{nat_tests}
use Rattle.std.proofs.lemmas.List.{get_or-drop, length-drop, take_more}
use Rattle.std.proofs.lemmas.List.Elements.{All-cons, All-filter, All-head, All-nil, All-tail}
use Rattle.std.proofs.lemmas.List.Sorted.{All-permutation}
use Rattle.common_laws.specs.Bags.{SameBag}
use Rattle.common_laws.proofs.BagLaws.{bag_filter, bag_map, bag_of_permutation, bag_refl, bag_sym, bag_trans}
use Rattle.col_value.specs.declared.row.Asked.{Asked}
use Rattle.col_value.specs.declared.row.Stamped.{Stamped}
use Rattle.col_value.specs.declared.value.Value.{Value}
use Rattle.col_value.specs.Order.{IsRow}
use Rattle.catch_model.specs.Added.{asked_of, deleted_in, inserted_in, is_deleted_in, is_inserted_in}
use Rattle.row_history.proofs.Histories.{filter_mapped, filter_twice, map_mapped}
use Rattle.catch_tables.specs.Keyed.{by_delete, by_insert, delete_of, is_deleted_after, of_epoch, own_delete, own_insert, row_of, AreChangesOf, AreInOrder, AreRows, AreInserts, AreDeletes, Changed}
use Rattle.catch_tables.specs.Told.{History}
use Rattle.catch_tables.specs.declared.epochs.Keyed.{Keyed}

-- ---- what is collected

inserts_same : (after n : ℕ) (rows : List Stamped) (ks : List Keyed) → after < n → map by_insert ks ≡ map own_insert (filter (λ s. nat_lt after s.ins) rows) → map row_of (of_epoch n ks) ≡ inserted_in n rows
inserts_same after n rows ks lt is =
    sym (map_mapped (λ (p : Stamped × ℕ). p.0.row) by_insert (filter (λ k. k.epoch == n) ks))
    ∙ ap (map (λ (p : Stamped × ℕ). p.0.row)) (sym (filter_mapped (λ (p : Stamped × ℕ). p.1 == n) by_insert ks) ∙ ap (filter (λ (p : Stamped × ℕ). p.1 == n)) is ∙ filter_mapped (λ (p : Stamped × ℕ). p.1 == n) own_insert (filter (λ s. nat_lt after s.ins) rows))
    ∙ map_mapped (λ (p : Stamped × ℕ). p.0.row) own_insert (filter (λ s. s.ins == n) (filter (λ s. nat_lt after s.ins) rows))
    ∙ ap (map (λ (s : Stamped). s.row)) (filter_twice (is_inserted_in n) (λ s. nat_lt after s.ins) (λ s here. later s.ins here) rows)
  where
    later : (m : ℕ) → (m == n) ≡ true → nat_lt after m ≡ true
    later m here = let same : m ≡ n = grind (arith, nat_tests) in grind (arith, nat_tests)

inserts_are : (after : ℕ) (rows : List Stamped) (ks : List Keyed) → map by_insert ks ≡ map own_insert (filter (λ s. nat_lt after s.ins) rows) → AreInserts after rows ks
inserts_are after rows ks is n lt = subst (λ (xs : List (List Value)). SameBag xs (inserted_in n rows)) (sym (inserts_same after n rows ks lt is)) (bag_refl (inserted_in n rows))

deletes_same : (after n : ℕ) (rows : List Stamped) (ks : List Keyed) → after < n → map by_delete ks ≡ map own_delete (filter (is_deleted_after after) rows) → map delete_of (of_epoch n ks) ≡ deleted_in n rows
deletes_same after n rows ks lt is =
    sym (map_mapped (λ (p : Stamped × Option ℕ). asked_of p.0) by_delete (filter (λ k. k.epoch == n) ks))
    ∙ ap (map (λ (p : Stamped × Option ℕ). asked_of p.0)) (sym (filter_mapped (λ (p : Stamped × Option ℕ). option_map_or (λ e. e == n) p.1 false) by_delete ks) ∙ ap (filter (λ (p : Stamped × Option ℕ). option_map_or (λ e. e == n) p.1 false)) is ∙ filter_mapped (λ (p : Stamped × Option ℕ). option_map_or (λ e. e == n) p.1 false) own_delete (filter (is_deleted_after after) rows))
    ∙ map_mapped (λ (p : Stamped × Option ℕ). asked_of p.0) own_delete (filter (is_deleted_in n) (filter (is_deleted_after after) rows))
    ∙ ap (map asked_of) (filter_twice (is_deleted_in n) (is_deleted_after after) (λ s here. later s.del here) rows)
  where
    later : (o : Option ℕ) → option_map_or (λ e. e == n) o false ≡ true → option_map_or (nat_lt after) o false ≡ true
    later None here = here
    later (Some m) here = let same : m ≡ n = grind (arith, nat_tests) in grind (arith, nat_tests)

deletes_are : (after : ℕ) (rows : List Stamped) (ks : List Keyed) → map by_delete ks ≡ map own_delete (filter (is_deleted_after after) rows) → AreDeletes after rows ks
deletes_are after rows ks is n lt = subst (λ (xs : List Asked). SameBag xs (deleted_in n rows)) (sym (deletes_same after n rows ks lt is)) (bag_refl (deleted_in n rows))

all_into : {X Y : Type 0} (P : Y → Type 0) (f : X → Y) (xs : List X) → All (λ x. P (f x)) xs → All P (map f xs)
all_into P f [] all = All-nil P
all_into P f (x ∷ xs) all = All-cons P (f x) (map f xs) (All-head (λ y. P (f y)) x xs all) (all_into P f xs (All-tail (λ y. P (f y)) x xs all))

all_outof : {X Y : Type 0} (P : Y → Type 0) (f : X → Y) (xs : List X) → All P (map f xs) → All (λ x. P (f x)) xs
all_outof P f [] all = All-nil (λ x. P (f x))
all_outof P f (x ∷ xs) all = All-cons (λ y. P (f y)) x xs (All-head P (f x) (map f xs) all) (all_outof P f xs (All-tail P (f x) (map f xs) all))

rows_are : (after : ℕ) (rows : List Stamped) (ks : List Keyed) → All (λ s. IsRow s.row) rows → map by_insert ks ≡ map own_insert (filter (λ s. nat_lt after s.ins) rows) → AreRows ks
rows_are after rows ks all is =
    all_outof (λ (p : Stamped × ℕ). IsRow p.0.row) by_insert ks
    (subst (λ (ps : List (Stamped × ℕ)). All (λ p. IsRow p.0.row) ps) (sym is) (all_into (λ (p : Stamped × ℕ). IsRow p.0.row) own_insert (filter (λ s. nat_lt after s.ins) rows) (All-filter (λ s. nat_lt after s.ins) (λ s. IsRow s.row) rows all)))

-- ---- in another order

pub inserts_sorted : (after : ℕ) (rows : List Stamped) (ks sorted : List Keyed) → map by_insert ks ≡ map own_insert (filter (λ s. nat_lt after s.ins) rows) → IsPermutation ks sorted → AreInserts after rows sorted
inserts_sorted after rows ks sorted is same n lt =
    bag_trans (map row_of (of_epoch n sorted)) (map row_of (of_epoch n ks)) (inserted_in n rows)
    (bag_map row_of (of_epoch n sorted) (of_epoch n ks) (bag_filter (λ k. k.epoch == n) sorted ks (bag_sym ks sorted (bag_of_permutation ks sorted same)))) (inserts_are after rows ks is n lt)

pub deletes_sorted : (after : ℕ) (rows : List Stamped) (ks sorted : List Keyed) → map by_delete ks ≡ map own_delete (filter (is_deleted_after after) rows) → IsPermutation ks sorted → AreDeletes after rows sorted
deletes_sorted after rows ks sorted is same n lt =
    bag_trans (map delete_of (of_epoch n sorted)) (map delete_of (of_epoch n ks)) (deleted_in n rows)
    (bag_map delete_of (of_epoch n sorted) (of_epoch n ks) (bag_filter (λ k. k.epoch == n) sorted ks (bag_sym ks sorted (bag_of_permutation ks sorted same)))) (deletes_are after rows ks is n lt)

pub rows_sorted : (after : ℕ) (rows : List Stamped) (ks sorted : List Keyed) → All (λ s. IsRow s.row) rows → map by_insert ks ≡ map own_insert (filter (λ s. nat_lt after s.ins) rows) → IsPermutation ks sorted → AreRows sorted
rows_sorted after rows ks sorted all is same = All-permutation (λ k. IsRow (row_of k)) ks sorted same (rows_are after rows ks all is)

-- the same of an answer
pub inserts_of : (after : ℕ) (rows : List Stamped) (ks : List Keyed) (result : Result (Vec Keyed Global) AllocError) → map by_insert ks ≡ map own_insert (filter (λ s. nat_lt after s.ins) rows) → IfOk result (λ v. IsPermutation ks v.items) → IfOk result (λ v. AreInserts after rows v.items)
inserts_of after rows ks (Ok v) is same = inserts_sorted after rows ks v.items is same
inserts_of after rows ks (Err e) is same = tt

pub rows_of : (after : ℕ) (rows : List Stamped) (ks : List Keyed) (result : Result (Vec Keyed Global) AllocError) → All (λ s. IsRow s.row) rows → map by_insert ks ≡ map own_insert (filter (λ s. nat_lt after s.ins) rows) → IfOk result (λ v. IsPermutation ks v.items) → IfOk result (λ v. AreRows v.items)
rows_of after rows ks (Ok v) all is same = rows_sorted after rows ks v.items all is same
rows_of after rows ks (Err e) all is same = tt

pub rows_of_epoch : (n : ℕ) (ks : List Keyed) → AreRows ks → AreRows (of_epoch n ks)
rows_of_epoch n ks all = All-filter (λ k. k.epoch == n) (λ k. IsRow (row_of k)) ks all

-- ---- table by table

zip_push : {X Y : Type 0} (R : X → Y → Type 0) (xs : List X) (ys : List Y) (x : X) (y : Y) → AllZip R xs ys → R x y → AllZip R (xs ++ x ∷ []) (ys ++ y ∷ [])
zip_push R [] [] x y all one = (one, tt)
zip_push R [] (v ∷ ys) x y all one = absurd all
zip_push R (u ∷ xs) [] x y all one = absurd all
zip_push R (u ∷ xs) (v ∷ ys) x y (here, more) one = (here, zip_push R xs ys x y more one)

pub more_ordered : (after : ℕ) (tables : List History) (i : ℕ) (told : History) (out new : List Changed) (o : Changed) → i < length tables → told ≡ get_or tables i told → new ≡ out ++ o ∷ [] → AllZip (AreChangesOf after) (take i tables) out → AreChangesOf after told o → AllZip (AreChangesOf after) (take (i + 1) tables) new
more_ordered after tables i told out new o lt at pushed all one =
    subst (λ (cs : List Changed). AllZip (AreChangesOf after) (take (i + 1) tables) cs) (sym pushed)
    (subst (λ (hs : List History). AllZip (AreChangesOf after) hs (out ++ o ∷ [])) (sym (take_more tables i told lt ∙ ap (λ (h : History). take i tables ++ h ∷ []) (sym at)))
    (zip_push (AreChangesOf after) (take i tables) out told o all one))

-- ---- cut in two

all_pass : {X : Type 0} (p : X → Bool) (xs : List X) → ((k : ℕ) (d : X) → k < length xs → p (get_or xs k d) ≡ false) → (filter p xs ≡ []) × (filter (λ x. not (p x)) xs ≡ xs)
all_pass p [] none = (refl, refl)
all_pass {X} p (x ∷ xs) none =
    let here : p x ≡ false = none 0 x (omega arith) in
    let rest = all_pass p xs (λ k d lt. none (suc k) d (omega (arith, lt))) in (
      ap (λ (b : Bool). cond b (x ∷ filter p xs) (filter p xs)) here ∙ rest.0,
      ap (λ (b : Bool). cond (not b) (x ∷ filter (λ y. not (p y)) xs) (filter (λ y. not (p y)) xs)) here ∙ ap (λ (ys : List X). x ∷ ys) rest.1,
    )

-- at the place between those that pass and those that don't
pub parted : {X : Type 0} (p : X → Bool) (xs : List X) (j : ℕ) → AllWithin (λ y. p y ≡ true) xs 0 j → AllWithin (λ y. p y ≡ false) xs j (length xs) → j ≤ length xs → (take j xs ≡ filter p xs) × (drop j xs ≡ filter (λ x. not (p x)) xs)
parted p [] zero some none le = (refl, refl)
parted p [] (suc j) some none le = absurd (omega (arith, le))
parted p (x ∷ xs) zero some none le = let all = all_pass p (x ∷ xs) (λ k d lt. none k d (omega arith) lt) in (sym all.0, sym all.1)
parted {X} p (x ∷ xs) (suc j) some none le =
    let here : p x ≡ true = some 0 x (omega arith) (omega arith) in
    let rest = parted p xs j (λ k d lo hi. some (suc k) d (omega arith) (omega (arith, hi))) (λ k d lo hi. none (suc k) d (omega (arith, lo)) (omega (arith, hi))) (omega (arith, le)) in (
      ap (λ (ys : List X). x ∷ ys) rest.0 ∙ sym (ap (λ (b : Bool). cond b (x ∷ filter p xs) (filter p xs)) here),
      rest.1 ∙ sym (ap (λ (b : Bool). cond (not b) (x ∷ filter (λ y. not (p y)) xs) (filter (λ y. not (p y)) xs)) here),
    )

pub order_behind : (j : ℕ) (ks : List Keyed) → AreInOrder ks → AreInOrder (drop j ks)
order_behind j ks up i k d le lt =
    let long = length-drop j ks in
    subst (λ (a : Keyed). a.epoch ≤ (get_or (drop j ks) k d).epoch) (sym (get_or-drop j ks i d))
    (subst (λ (b : Keyed). (get_or ks (j + i) d).epoch ≤ b.epoch) (sym (get_or-drop j ks k d)) (up (j + i) (j + k) d (omega (arith, le)) (within (length ks) (length (drop j ks)) long lt)))
  where
    within : (a b : ℕ) → b ≡ a - j → k < b → j + k < a
    within a b is below = omega (arith, is, below)

-- from an epoch on and up to it
pub of_one_epoch : (n : ℕ) (ks : List Keyed) → filter (λ k. nat_le k.epoch n) (filter (λ k. not (nat_lt k.epoch n)) ks) ≡ of_epoch n ks
of_one_epoch n [] = refl
of_one_epoch n (k ∷ ks) = by (nat_lt k.epoch n) (nat_le k.epoch n) (k.epoch == n) refl refl refl (of_one_epoch n ks)
  where
    later : List Keyed
    later = filter (λ x. not (nat_lt x.epoch n)) ks

    by : (a b c : Bool) → nat_lt k.epoch n ≡ a → nat_le k.epoch n ≡ b → (k.epoch == n) ≡ c → filter (λ x. nat_le x.epoch n) later ≡ of_epoch n ks
        → filter (λ x. nat_le x.epoch n) (cond (not a) (k ∷ later) later) ≡ cond c (k ∷ of_epoch n ks) (of_epoch n ks)
    by true b false one two three rest = rest
    by true b true one two three rest = absurd (grind (arith, nat_tests))
    by false true true one two three rest =
        ap (λ (x : Bool). cond x (k ∷ filter (λ y. nat_le y.epoch n) later) (filter (λ y. nat_le y.epoch n) later)) two ∙ ap (λ (ys : List Keyed). k ∷ ys) rest
    by false false false one two three rest = ap (λ (x : Bool). cond x (k ∷ filter (λ y. nat_le y.epoch n) later) (filter (λ y. nat_le y.epoch n) later)) two ∙ rest
    by false true false one two three rest = absurd (grind (arith, nat_tests))
    by false false true one two three rest = absurd (grind (arith, nat_tests))
