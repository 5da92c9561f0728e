-- What tables tell from a mark on is what the database ahead did after it.
use Rattle.std.proofs.Common.{◌≡◌, ◌≤◌, ◌<◌, ◌++◌, ◌||◌, ℕ, Bool, not, true, false, cond, inl, List, [], ◌∷◌, map, filter, length, Option, Some, None, refl, sym, ap, ap₂, ◌∙◌, arith, subst}
use Rattle.std.specs.Prelude.{nat_lt, ◌==◌}
use Rattle.std.specs.List.{list_any, All, AllZip}
use Rattle.std.specs.Option.{option_map_or, IfSome}
use Rattle.std.proofs.lemmas.Bool.Decides.{nat_tests}
use Rattle.std.proofs.lemmas.List.{length-map}
use Rattle.std.proofs.lemmas.List.Elements.{All-head, All-tail, All-weaker}
use Rattle.common_laws.specs.Bags.{SameBag}
use Rattle.common_laws.proofs.BagLaws.{bag_filter, bag_length, bag_map, bag_trans}
use Rattle.col_value.specs.declared.row.Asked.{Asked}
use Rattle.col_value.specs.declared.row.Stamped.{Stamped}
use Rattle.col_value.specs.declared.value.Value.{Value}
use Rattle.row_history.specs.History.{is_retained, retained}
use Rattle.row_history.proofs.Histories.{filter_twice}
use Rattle.db_model.specs.Database.{Database, Table}
use Rattle.db_model.specs.Sound.{HasEpochs, IsSoundDatabase, IsSoundTable}
use Rattle.catch_model.specs.Added.{asked_of, deleted_in, has_change, has_too_many, inserted_in, is_changed_in, is_deleted_in, is_inserted_in}
use Rattle.catch_model.specs.Refused.{is_gap, IsAhead, IsLeastEpoch, IsOlder, NoEpoch}
use Rattle.catch_model.specs.declared.fault.LinkFault.TheVariants.{Gap, TooMany}
use Rattle.catch_laws.proofs.Epochs.{IsLater}
use Rattle.catch_tables.specs.Keyed.{delete_of, has_change_in, has_more_in, of_epoch, row_of, AreChangesOf, Changed}
use Rattle.catch_tables.specs.Told.{AreToldBy, History, IsToldBy, IsUpTo}
use Rattle.buddy_link.specs.Linking.{Ends}
use Rattle.buddy_link.specs.Replaying.{IsOrderedOf}

pub inserted_retained : (mark n : ℕ) (rows : List Stamped) → mark < n → All IsLater rows → inserted_in n (retained mark rows) ≡ inserted_in n rows
inserted_retained mark n [] lt later = refl
inserted_retained mark n (s ∷ rows) lt later = by s.del (s.ins == n) (is_retained mark s) refl refl refl (All-head IsLater s rows later) (inserted_retained mark n rows lt (All-tail IsLater s rows later))
  where
    by : (o : Option ℕ) (x y : Bool) → s.del ≡ o → (s.ins == n) ≡ x → option_map_or (λ e. nat_lt mark e) s.del true ≡ y → IfSome s.del (λ d. s.ins < d) → inserted_in n (retained mark rows) ≡ inserted_in n rows
        → inserted_in n (cond y (s ∷ retained mark rows) (retained mark rows)) ≡ map (λ r. r.row) (cond x (s ∷ filter (is_inserted_in n) rows) (filter (is_inserted_in n) rows))
    by o true true del ins kept is rest =
        ap (λ (b : Bool). map (λ (r : Stamped). r.row) (cond b (s ∷ filter (is_inserted_in n) (retained mark rows)) (filter (is_inserted_in n) (retained mark rows)))) ins ∙ ap (λ (xs : List (List Value)). s.row ∷ xs) rest
    by o false true del ins kept is rest = ap (λ (b : Bool). map (λ (r : Stamped). r.row) (cond b (s ∷ filter (is_inserted_in n) (retained mark rows)) (filter (is_inserted_in n) (retained mark rows)))) ins ∙ rest
    by o false false del ins kept is rest = rest
    by None true false del ins kept is rest = let none : option_map_or (λ e. nat_lt mark e) None true ≡ false = ap (λ (p : Option ℕ). option_map_or (λ e. nat_lt mark e) p true) (sym del) ∙ kept in absurd (cc)
    by (Some d) true false del ins kept is rest =
        let gone : nat_lt mark d ≡ false = ap (λ (p : Option ℕ). option_map_or (λ e. nat_lt mark e) p true) (sym del) ∙ kept in
        let after : s.ins < d = subst (λ (p : Option ℕ). IfSome p (λ e. s.ins < e)) del is in
        absurd (impossible s.ins d ins gone after)
      where
        impossible : (m e : ℕ) → (m == n) ≡ true → nat_lt mark e ≡ false → m < e → ⊥
        impossible m e same low high = grind (arith, nat_tests)

pub deleted_retained : (mark n : ℕ) (rows : List Stamped) → mark < n → deleted_in n (retained mark rows) ≡ deleted_in n rows
deleted_retained mark n rows lt = ap (map asked_of) (filter_twice (is_deleted_in n) (is_retained mark) (λ s here. by s.del here) rows)
  where
    by : (o : Option ℕ) → option_map_or (λ e. e == n) o false ≡ true → option_map_or (λ e. nat_lt mark e) o true ≡ true
    by None here = refl
    by (Some d) here = later d here
      where
        later : (m : ℕ) → (m == n) ≡ true → nat_lt mark m ≡ true
        later m same = grind (arith, nat_tests)

-- rows of which nothing is later than an epoch were inserted and deleted in none that is later
none_inserted : (after n : ℕ) (common ys : List Stamped) → after < n → All (IsUpTo after) common → inserted_in n (common ++ ys) ≡ inserted_in n ys
none_inserted after n [] ys lt early = refl
none_inserted after n (s ∷ common) ys lt early =
    ap (λ (b : Bool). map (λ (r : Stamped). r.row) (cond b (s ∷ filter (is_inserted_in n) (common ++ ys)) (filter (is_inserted_in n) (common ++ ys)))) (other s.ins (All-head (IsUpTo after) s common early).0)
    ∙ none_inserted after n common ys lt (All-tail (IsUpTo after) s common early)
  where
    other : (m : ℕ) → m ≤ after → (m == n) ≡ false
    other m le = grind (arith, nat_tests)

none_deleted : (after n : ℕ) (common ys : List Stamped) → after < n → All (IsUpTo after) common → deleted_in n (common ++ ys) ≡ deleted_in n ys
none_deleted after n [] ys lt early = refl
none_deleted after n (s ∷ common) ys lt early =
    ap (λ (b : Bool). map asked_of (cond b (s ∷ filter (is_deleted_in n) (common ++ ys)) (filter (is_deleted_in n) (common ++ ys)))) (other s.del (All-head (IsUpTo after) s common early).1)
    ∙ none_deleted after n common ys lt (All-tail (IsUpTo after) s common early)
  where
    later : (m : ℕ) → m ≤ after → (m == n) ≡ false
    later m le = grind (arith, nat_tests)

    other : (o : Option ℕ) → IfSome o (λ d. d ≤ after) → option_map_or (λ e. e == n) o false ≡ false
    other None le = refl
    other (Some d) le = later d le

ordered_of : (mark after : ℕ) (h : History) (t : Table) (c : Changed) → mark ≤ after → All IsLater t.rows → IsToldBy mark after h t → AreChangesOf after h c → IsOrderedOf after t c
ordered_of mark after h t c le later told are = record {
  name = are.name ∙ told.name;
  inserts = λ n lt.
      subst (SameBag (map row_of (of_epoch n c.inserts))) (inserted_retained mark n t.rows (above n lt) later)
      (bag_trans (map row_of (of_epoch n c.inserts)) (inserted_in n h.rows) (inserted_in n (retained mark t.rows)) (are.inserts n lt)
      (subst (λ (xs : List (List Value)). SameBag xs (inserted_in n (retained mark t.rows))) (none_inserted after n told.common h.rows lt told.early)
      (bag_map (λ (s : Stamped). s.row) (filter (is_inserted_in n) (told.common ++ h.rows)) (filter (is_inserted_in n) (retained mark t.rows)) (bag_filter (is_inserted_in n) (told.common ++ h.rows) (retained mark t.rows) told.rows))));
  deletes = λ n lt.
      subst (SameBag (map delete_of (of_epoch n c.deletes))) (deleted_retained mark n t.rows (above n lt))
      (bag_trans (map delete_of (of_epoch n c.deletes)) (deleted_in n h.rows) (deleted_in n (retained mark t.rows)) (are.deletes n lt)
      (subst (λ (xs : List Asked). SameBag xs (deleted_in n (retained mark t.rows))) (none_deleted after n told.common h.rows lt told.early)
      (bag_map asked_of (filter (is_deleted_in n) (told.common ++ h.rows)) (filter (is_deleted_in n) (retained mark t.rows)) (bag_filter (is_deleted_in n) (told.common ++ h.rows) (retained mark t.rows) told.rows))));
}
  where
    above : (n : ℕ) → after < n → mark < n
    above n lt = omega (arith, le, lt)

rows_are_later : (d : Database) (t : Table) → IsSoundTable d t → All IsLater t.rows
rows_are_later d t sound = All-weaker (HasEpochs d.last) IsLater (λ s has. by s.ins s.del has.deleted) t.rows sound.epochs
  where
    by : (n : ℕ) (o : Option ℕ) → IfSome o (λ e. (n < e) × (e ≤ d.last)) → IfSome o (λ e. n < e)
    by n None has = tt
    by n (Some e) (lt, le) = lt

pub all_ordered : (mark after : ℕ) (d : Database) → mark ≤ after → (ts : List Table) (hs : List History) (cs : List Changed) → All (IsSoundTable d) ts → AllZip (IsToldBy mark after) hs ts → AllZip (AreChangesOf after) hs cs → AllZip (IsOrderedOf after) ts cs
all_ordered mark after d le [] [] [] sound told are = tt
all_ordered mark after d le [] [] (c ∷ cs) sound told are = absurd are
all_ordered mark after d le [] (h ∷ hs) cs sound told are = absurd told
all_ordered mark after d le (t ∷ ts) [] cs sound told are = absurd told
all_ordered mark after d le (t ∷ ts) (h ∷ hs) [] sound told are = absurd are
all_ordered mark after d le (t ∷ ts) (h ∷ hs) (c ∷ cs) sound (here, more) (one, rest) =
    (ordered_of mark after h t c le (rows_are_later d t (All-head (IsSoundTable d) t ts sound)) here one, all_ordered mark after d le ts hs cs (All-tail (IsSoundTable d) t ts sound) more rest)

-- ---- what an epoch changed, and how much

any_either : {X : Type 0} (p q : X → Bool) (xs : List X) → list_any (λ x. p x || q x) xs ≡ nat_lt 0 (length (filter p xs)) || nat_lt 0 (length (filter q xs))
any_either p q [] = refl
any_either p q (x ∷ xs) = by (p x) (q x) (any_either p q xs)
  where
    some : {Y : Type 0} (y : Y) (ys : List Y) → nat_lt 0 (length (y ∷ ys)) ≡ true
    some y ys = grind (arith, nat_tests)

    late : (b c : Bool) → c ≡ true → b || c ≡ true
    late true c is = refl
    late false c is = is

    by : (b c : Bool) → list_any (λ y. p y || q y) xs ≡ nat_lt 0 (length (filter p xs)) || nat_lt 0 (length (filter q xs))
        → (b || c) || list_any (λ y. p y || q y) xs ≡ nat_lt 0 (length (cond b (x ∷ filter p xs) (filter p xs))) || nat_lt 0 (length (cond c (x ∷ filter q xs) (filter q xs)))
    by true c rest = sym (ap (λ (y : Bool). y || nat_lt 0 (length (cond c (x ∷ filter q xs) (filter q xs)))) (some x (filter p xs)))
    by false true rest = sym (late (nat_lt 0 (length (filter p xs))) (nat_lt 0 (length (x ∷ filter q xs))) (some x (filter q xs)))
    by false false rest = rest

many_inserted : (after k : ℕ) (t : Table) (c : Changed) → after < k → IsOrderedOf after t c → length (of_epoch k c.inserts) ≡ length (inserted_in k t.rows)
many_inserted after k t c lt ordered = sym (length-map (of_epoch k c.inserts) row_of) ∙ bag_length (map row_of (of_epoch k c.inserts)) (inserted_in k t.rows) (ordered.inserts k lt)

many_deleted : (after k : ℕ) (t : Table) (c : Changed) → after < k → IsOrderedOf after t c → length (of_epoch k c.deletes) ≡ length (deleted_in k t.rows)
many_deleted after k t c lt ordered = sym (length-map (of_epoch k c.deletes) delete_of) ∙ bag_length (map delete_of (of_epoch k c.deletes)) (deleted_in k t.rows) (ordered.deletes k lt)

change_in : (after k : ℕ) (t : Table) (c : Changed) → after < k → IsOrderedOf after t c → has_change_in k c ≡ is_changed_in k t
change_in after k t c lt ordered =
    ap₂ (λ (m n : ℕ). nat_lt 0 m || nat_lt 0 n) (many_inserted after k t c lt ordered ∙ length-map (filter (is_inserted_in k) t.rows) (λ r. r.row)) (many_deleted after k t c lt ordered ∙ length-map (filter (is_deleted_in k) t.rows) asked_of)
    ∙ sym (any_either (is_inserted_in k) (is_deleted_in k) t.rows)

more_in : (after k : ℕ) (t : Table) (c : Changed) → after < k → IsOrderedOf after t c → has_more_in k c ≡ nat_lt 16777216 (length (inserted_in k t.rows))
more_in after k t c lt ordered = ap (nat_lt 16777216) (many_inserted after k t c lt ordered)

any_zipped : {X Y : Type 0} (R : X → Y → Type 0) (p : X → Bool) (q : Y → Bool) → ((x : X) (y : Y) → R x y → q y ≡ p x) → (xs : List X) (ys : List Y) → AllZip R xs ys → list_any q ys ≡ list_any p xs
any_zipped R p q same [] [] all = refl
any_zipped R p q same [] (y ∷ ys) all = absurd all
any_zipped R p q same (x ∷ xs) [] all = absurd all
any_zipped R p q same (x ∷ xs) (y ∷ ys) (here, more) = ap₂ (λ (b c : Bool). b || c) (same x y here) (any_zipped R p q same xs ys more)

-- for each epoch after one, the ordered tables tell whether the database ahead has a change in it, and whether it has too many
pub record TellEpochs (after : ℕ) (b : Database) (cs : List Changed) : Type 0 where
  pub change : (k : ℕ) → after < k → list_any (has_change_in k) cs ≡ has_change b k
  pub many : (k : ℕ) → after < k → list_any (has_more_in k) cs ≡ has_too_many b k

pub epochs_told : (mark after : ℕ) (b : Database) (hs : List History) (cs : List Changed) → IsSoundDatabase b → mark ≤ after → AreToldBy mark after hs b → AllZip (AreChangesOf after) hs cs → TellEpochs after b cs
epochs_told mark after b hs cs sound le told are = record {
  change = λ k lt. any_zipped (IsOrderedOf after) (is_changed_in k) (has_change_in k) (λ t c one. change_in after k t c lt one) b.tables cs ordered;
  many = λ k lt. any_zipped (IsOrderedOf after) (λ t. nat_lt 16777216 (length (inserted_in k t.rows))) (has_more_in k) (λ t c one. more_in after k t c lt one) b.tables cs ordered;
}
  where
    ordered : AllZip (IsOrderedOf after) b.tables cs
    ordered = all_ordered mark after b le b.tables hs cs sound.tables told are

none_alike : (p q : ℕ → Bool) (after last : ℕ) → ((k : ℕ) → after < k → p k ≡ q k) → NoEpoch p after last → NoEpoch q after last
none_alike p q after last same none = λ n lt le. sym (same n lt) ∙ none n lt le

least_alike : (p q : ℕ → Bool) (after last n : ℕ) → ((k : ℕ) → after < k → p k ≡ q k) → IsLeastEpoch p after last n → IsLeastEpoch q after last n
least_alike p q after last n same least = record {
  later = least.later;
  closed = least.closed;
  such = sym (same n least.later) ∙ least.such;
  least = λ k lt below. sym (same k lt) ∙ least.least k lt below;
}

pub no_gaps : (after last : ℕ) (b : Database) (cs : List Changed) → TellEpochs after b cs → NoEpoch (λ k. not (list_any (has_change_in k) cs)) after last → NoEpoch (is_gap b) after last
no_gaps after last b cs tell none = none_alike (λ k. not (list_any (has_change_in k) cs)) (is_gap b) after last (λ k lt. ap not (tell.change k lt)) none

pub none_too_many : (after last : ℕ) (b : Database) (cs : List Changed) → TellEpochs after b cs → NoEpoch (λ k. list_any (has_more_in k) cs) after last → NoEpoch (has_too_many b) after last
none_too_many after last b cs tell none = none_alike (λ k. list_any (has_more_in k) cs) (has_too_many b) after last tell.many none

pub ends_in_gap : (after last n : ℕ) (a b : Database) (cs : List Changed) → TellEpochs after b cs → last ≡ b.last → IsAhead a b after → IsOlder a b after → IsLeastEpoch (λ k. not (list_any (has_change_in k) cs)) after last n → Ends a b after (Gap n)
ends_in_gap after last n a b cs tell is ahead older least =
    inl (ahead, older, subst (λ (l : ℕ). IsLeastEpoch (is_gap b) after l n) is (least_alike (λ k. not (list_any (has_change_in k) cs)) (is_gap b) after last n (λ k lt. ap not (tell.change k lt)) least))

pub ends_in_many : (after last n : ℕ) (a b : Database) (cs : List Changed) → TellEpochs after b cs → last ≡ b.last → IsAhead a b after → IsOlder a b after → NoEpoch (λ k. not (list_any (has_change_in k) cs)) after last → IsLeastEpoch (λ k. list_any (has_more_in k) cs) after last n
    → Ends a b after (TooMany n)
ends_in_many after last n a b cs tell is ahead older none least =
    inl (ahead, older, subst (λ (l : ℕ). NoEpoch (is_gap b) after l) is (no_gaps after last b cs tell none), subst (λ (l : ℕ). IsLeastEpoch (has_too_many b) after l n) is (least_alike (λ k. list_any (has_more_in k) cs) (has_too_many b) after last n tell.many least))
