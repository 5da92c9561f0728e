-- One row more, or less, of those that are wanted.
use Rattle.std.proofs.Common.{◌≡◌, ◌+◌, ◌≤◌, ℕ, zero, suc, Bool, true, false, cond, List, [], ◌∷◌, ◌++◌, length, reverse, slice_get, not, refl, sym, ap, ◌∙◌, subst, arith}
use Rattle.std.specs.Prelude.{unwrap_or, Option, Some, None, ◌&&◌, ◌||◌, nat_le, nat_lt}
use Rattle.std.specs.List.{list_any, position_or_len}
use Rattle.std.specs.Map.{keys_of, lookup}
use Rattle.std.specs.Option.{option_map}
use Rattle.std.specs.Ordering.{eq_by_cmp, is_eq}
use Rattle.std.proofs.lemmas.Bool.Decides.{nat_tests}
use Rattle.std.proofs.lemmas.Cmp.{tied_itself}
use Rattle.std.proofs.lemmas.List.{reverse-append}
use Rattle.common_laws.proofs.BagLaws.{count_cons, count_append}
use Rattle.indexmap.specs.IndexMap.{insert_entry, set_value_at}
use Rattle.col_value.specs.Laws.{tie_told}
use Rattle.col_value.specs.declared.row.Asked.{Asked}
use Rattle.write_store.specs.Order.{inserted_exact, inserted_total}
use Rattle.write_store.specs.declared.held.Inserted.{Inserted}
use Rattle.wanted_rows.specs.Wanted.{inserted_cmp, is_same, one_of, count_in, tally, total, asked_in, inserted, Adds, SetsAt, Tries, Needed, need_in}

pub key_exact : (a b : Inserted) → is_eq (inserted_cmp a b) ≡ true → a ≡ b
key_exact a b is = inserted_exact a b (tie_told (inserted_cmp a b) is)

pub same_exact : (a b : Asked) → is_same a b ≡ true → a ≡ b
same_exact a b is = ap asked_in (key_exact (inserted a) (inserted b) is)

pub same_itself : (a : Asked) → is_same a a ≡ true
same_itself a = ap is_eq (tied_itself inserted_total (inserted a))

-- ---- how often a row is counted

-- the count at a row
abbrev pub count_at : List (Inserted × ℕ) → Inserted → Option ℕ
count_at es k = lookup (λ x. is_eq (inserted_cmp k x)) es

-- a map of counts in which a row has another count
abbrev pub IsUpdated : List (Inserted × ℕ) → List (Inserted × ℕ) → Inserted → ℕ → Type 0
IsUpdated m n k v = (q : Inserted) → count_at n q ≡ cond (is_eq (inserted_cmp k q)) (Some v) (count_at m q)

cond_count : (b : Bool) (v : ℕ) (o : Option ℕ) → unwrap_or (cond b (Some v) o) 0 ≡ cond b v (unwrap_or o 0)
cond_count true v o = refl
cond_count false v o = refl

updated : (m n : List (Inserted × ℕ)) (k : Inserted) (v : ℕ) → IsUpdated m n k v → (q : Asked) → count_in n q ≡ cond (is_same (asked_in k) q) v (count_in m q)
updated m n k v h q = ap (λ (o : Option ℕ). unwrap_or o 0) (h (inserted q)) ∙ cond_count (is_same (asked_in k) q) v (count_at m (inserted q))

more_at : (a : Asked) (f g : Asked → ℕ) (v : ℕ) → v ≡ f a + 1 → ((q : Asked) → g q ≡ cond (is_same a q) v (f q)) → Adds a f g
more_at a f g v is h q = by (is_same a q) refl (h q)
  where
    by : (b : Bool) → is_same a q ≡ b → g q ≡ cond b v (f q) → g q ≡ cond b 1 0 + f q
    by true e eq = let same : f a ≡ f q = ap f (same_exact a q e) in omega (arith, eq, is, same)
    by false e eq = omega (arith, eq)

pub less_at : (a : Asked) (f g : Asked → ℕ) (v : ℕ) → f a ≡ v + 1 → ((q : Asked) → g q ≡ cond (is_same a q) v (f q)) → Adds a g f
less_at a f g v is h q = by (is_same a q) refl (h q)
  where
    by : (b : Bool) → is_same a q ≡ b → g q ≡ cond b v (f q) → f q ≡ cond b 1 0 + g q
    by true e eq = let same : f a ≡ f q = ap f (same_exact a q e) in omega (arith, eq, is, same)
    by false e eq = omega (arith, eq)

total_set : (m : List (Inserted × ℕ)) (place n : ℕ) (k : Inserted) (was : ℕ) → slice_get m place ≡ Some (k, was) → total (set_value_at m place n) + was ≡ total m + n
total_set [] place n k was at = absurd (cc)
total_set (e ∷ es) zero n k was at =
    let same : e.1 ≡ was = ap (λ (o : Option (Inserted × ℕ)). unwrap_or (option_map (λ e. e.1) o) 0) at in
    omega (arith, same)
total_set (e ∷ es) (suc place) n k was at = omega (arith, total_set es place n k was at)

-- the count at a place is another one
pub sets_at : (m : List (Inserted × ℕ)) (place n : ℕ) → ((k : Inserted) (was : ℕ) → slice_get m place ≡ Some (k, was) → IsUpdated m (set_value_at m place n) k n) → SetsAt place n m (set_value_at m place n)
sets_at m place n h = record {
  each = λ k was at. updated m (set_value_at m place n) k n (h k was at);
  all = total_set m place n;
}

-- a row that isn't counted yet is counted once
pub one_new : (m n : List (Inserted × ℕ)) (k : Inserted) → IsUpdated m n k 1 → count_at m k ≡ None → Adds (asked_in k) (count_in m) (count_in n)
one_new m n k h none = more_at (asked_in k) (count_in m) (count_in n) 1 (ap (λ (o : Option ℕ). unwrap_or o 0 + 1) (sym none)) (updated m n k 1 h)

-- of two counts for a row the later one stands
last_stands : (b : Bool) (v w x : ℕ) → cond b v (cond b w x) ≡ cond b v x
last_stands true v w x = refl
last_stands false v w x = refl

-- a row that is counted is counted once more: its count is one first, and then what it was and one more
pub one_more : (m l n : List (Inserted × ℕ)) (k : Inserted) (was place : ℕ) → count_at m k ≡ Some was → IsUpdated m l k 1 → slice_get l place ≡ Some (k, 1) → SetsAt place (was + 1) l n → Adds (asked_in k) (count_in m) (count_in n)
one_more m l n k was place had first at sets =
    more_at (asked_in k) (count_in m) (count_in n) (was + 1) (ap (λ (o : Option ℕ). unwrap_or o 0 + 1) (sym had))
    (λ q. sets.each k 1 at q ∙ ap (cond (is_same (asked_in k) q) (was + 1)) (updated m l k 1 first q) ∙ last_stands (is_same (asked_in k) q) (was + 1) 1 (count_in m q))

-- the entry that is put for a row stands at the place that is told
pub put_at : (es : List (Inserted × ℕ)) (k : Inserted) (v : ℕ) → slice_get (insert_entry (eq_by_cmp inserted_cmp) es k v) (position_or_len (eq_by_cmp inserted_cmp k) (keys_of es)) ≡ Some (k, v)
put_at [] k v = refl
put_at (e ∷ es) k v = by (is_eq (inserted_cmp k e.0)) refl (put_at es k v)
  where
    by : (b : Bool) → is_eq (inserted_cmp k e.0) ≡ b → slice_get (insert_entry (eq_by_cmp inserted_cmp) es k v) (position_or_len (eq_by_cmp inserted_cmp k) (keys_of es)) ≡ Some (k, v)
        → slice_get (cond b ((e.0, v) ∷ es) (e ∷ insert_entry (eq_by_cmp inserted_cmp) es k v)) (cond (not b) (1 + position_or_len (eq_by_cmp inserted_cmp k) (keys_of es)) 0) ≡ Some (k, v)
    by true is rec = ap (λ (x : Inserted). Some (x, v)) (sym (key_exact k e.0 is))
    by false is rec =
        let place = position_or_len (eq_by_cmp inserted_cmp k) (keys_of es) in
        let next : suc place ≡ 1 + place = omega arith in
        subst (λ (i : ℕ). slice_get (e ∷ insert_entry (eq_by_cmp inserted_cmp) es k v) i ≡ Some (k, v)) next rec

-- and its count takes the place of the one that was there
pub total_put : (es : List (Inserted × ℕ)) (k : Inserted) (v : ℕ) → total (insert_entry (eq_by_cmp inserted_cmp) es k v) + unwrap_or (count_at es k) 0 ≡ total es + v
total_put [] k v = omega arith
total_put (e ∷ es) k v = by (is_eq (inserted_cmp k e.0)) (total_put es k v)
  where
    by : (b : Bool) → total (insert_entry (eq_by_cmp inserted_cmp) es k v) + unwrap_or (count_at es k) 0 ≡ total es + v
        → total (cond b ((e.0, v) ∷ es) (e ∷ insert_entry (eq_by_cmp inserted_cmp) es k v)) + unwrap_or (cond b (Some e.1) (count_at es k)) 0 ≡ (e.1 + total es) + v
    by true rec = omega arith
    by false rec = omega (arith, rec)

pub count_within : (es : List (Inserted × ℕ)) (q : Asked) → count_in es q ≤ total es
count_within [] q = omega arith
count_within (e ∷ es) q = by (is_eq (inserted_cmp (inserted q) e.0)) (count_within es q)
  where
    by : (b : Bool) → count_in es q ≤ total es → unwrap_or (cond b (Some e.1) (count_at es (inserted q))) 0 ≤ e.1 + total es
    by true rec = omega arith
    by false rec = omega (arith, rec)

pub none_counted : (es : List (Inserted × ℕ)) (q : Asked) → length es ≡ 0 → count_in es q ≡ 0
none_counted [] q none = refl
none_counted (e ∷ es) q none = absurd (omega (arith, none))

-- ---- rows of epochs

-- an epoch from the least to the greatest
abbrev pub is_between : ℕ → ℕ → ℕ → Bool
is_between least greatest n = nat_le least n && nat_le n greatest

none_before : (a b : Bool) → (a || b) ≡ false → a ≡ false
none_before true b e = cc
none_before false b e = refl

none_behind : (a b : Bool) → (a || b) ≡ false → b ≡ false
none_behind true b e = cc
none_behind false b e = e

in_range : (least greatest n : ℕ) → least ≤ n → n ≤ greatest → is_between least greatest n ≡ true
in_range least greatest n from upto = by (nat_le least n) (nat_le n greatest) refl refl
  where
    by : (a b : Bool) → nat_le least n ≡ a → nat_le n greatest ≡ b → (a && b) ≡ true
    by true true x y = refl
    by false b x y = absurd (grind (arith, nat_tests))
    by true false x y = absurd (grind (arith, nat_tests))

-- a row of one of these epochs is counted
abbrev pub is_counted : ℕ → ℕ → Inserted × ℕ → Bool
is_counted least greatest e = nat_lt 0 e.1 && is_between least greatest e.0.ins

pub none_between : (least greatest : ℕ) (es : List (Inserted × ℕ)) → list_any (is_counted least greatest) es ≡ false → (q : Asked) → least ≤ q.ins → q.ins ≤ greatest → count_in es q ≡ 0
none_between least greatest [] none q from upto = refl
none_between least greatest (e ∷ es) none q from upto = by (is_same q (asked_in e.0)) refl (λ rest. none_between least greatest es rest q from upto)
  where
    nought : (n : ℕ) (b : Bool) → b ≡ true → (nat_lt 0 n && b) ≡ false → n ≡ 0
    nought n b is none = within (nat_lt 0 n) refl none
      where
        within : (t : Bool) → nat_lt 0 n ≡ t → (t && b) ≡ false → n ≡ 0
        within true e none = absurd (cc)
        within false e none = grind (arith, nat_tests)

    by : (b : Bool) → is_same q (asked_in e.0) ≡ b → (list_any (is_counted least greatest) es ≡ false → count_in es q ≡ 0) → unwrap_or (cond b (Some e.1) (count_at es (inserted q))) 0 ≡ 0
    by true is rest =
        let same : q.ins ≡ e.0.ins = ap (λ (a : Asked). a.ins) (same_exact q (asked_in e.0) is) in
        nought e.1 (is_between least greatest e.0.ins) (in_range least greatest e.0.ins (omega (arith, same, from)) (omega (arith, same, upto)))
        (none_before (is_counted least greatest e) (list_any (is_counted least greatest) es) none)
    by false is rest = rest (none_behind (is_counted least greatest e) (list_any (is_counted least greatest) es) none)

-- and of the rows that stand one by one
pub none_standing : (least greatest : ℕ) (rows : List Asked) → list_any (λ a. is_between least greatest a.ins) rows ≡ false → (q : Asked) → least ≤ q.ins → q.ins ≤ greatest → tally q rows ≡ 0
none_standing least greatest [] none q from upto = refl
none_standing least greatest (a ∷ rows) none q from upto = by (is_same a q) refl (λ rest. none_standing least greatest rows rest q from upto)
  where
    by : (b : Bool) → is_same a q ≡ b → (list_any (λ a. is_between least greatest a.ins) rows ≡ false → tally q rows ≡ 0) → tally q (a ∷ rows) ≡ 0
    by true is rec =
        let same : a.ins ≡ q.ins = ap (λ (x : Asked). x.ins) (same_exact a q is) in
        let in_it : is_between least greatest a.ins ≡ true = in_range least greatest a.ins (omega (arith, same, from)) (omega (arith, same, upto)) in
        let out : is_between least greatest a.ins ≡ false = none_before (is_between least greatest a.ins) (list_any (λ a. is_between least greatest a.ins) rows) none in
        absurd (cc)
    by false is rec =
        let no : one_of a q ≡ 0 = ap (λ (b : Bool). cond b 1 0) is in
        omega (arith, no, count_cons (λ x. is_same x q) a rows, rec (none_behind (is_between least greatest a.ins) (list_any (λ a. is_between least greatest a.ins) rows) none))

-- ---- rows that stand one by one

-- the last row goes
pub last_goes : (a : Asked) (rest rows : List Asked) (q : Asked) → rows ≡ rest ++ a ∷ [] → tally q rows ≡ one_of a q + tally q rest
last_goes a rest rows q is = ap (tally q) is ∙ omega (arith, count_append (λ x. is_same x q) rest (a ∷ []), count_cons (λ x. is_same x q) a [])

-- rows stand as often in the other order
pub turned : (q : Asked) (rows : List Asked) → tally q (reverse rows) ≡ tally q rows
turned q [] = refl
turned q (a ∷ rows) =
    ap (tally q) (reverse-append (a ∷ []) rows) ∙ omega (arith, turned q rows, count_append (λ x. is_same x q) (reverse rows) (a ∷ []), count_cons (λ x. is_same x q) a rows, count_cons (λ x. is_same x q) a [])

none_stands : (q : Asked) (rows : List Asked) → length rows ≡ 0 → tally q rows ≡ 0
none_stands q [] none = refl
none_stands q (a ∷ rows) none = absurd (omega (arith, none))

-- nothing is wanted where nothing is left
pub none_left : (needs : Needed) (left : ℕ) → length needs.rows + total needs.counts ≤ left → left ≡ 0 → (q : Asked) → need_in needs q ≡ 0
none_left needs left all none q = omega (arith, all, none, none_stands q needs.rows (omega (arith, all, none)), count_within needs.counts q)

-- what is taken only makes less
pub fewer_taken : (taken : Bool) (a : Asked) (old new : Asked → ℕ) → Tries taken a old new → (q : Asked) → new q ≤ old q
fewer_taken true a old new tries q = omega (arith, tries.took q)
fewer_taken false a old new tries q = omega (arith, tries.same q)
