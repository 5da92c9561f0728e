-- The index and the blocks of a column that isn't stored.
use Rattle.std.proofs.Common.{◌≡◌, ◌+◌, ◌*◌, ◌<◌, ◌≤◌, ℕ, zero, suc, true, List, [], ◌∷◌, ◌++◌, length, refl, sym, ◌∙◌, ap, subst, arith}
use Rattle.std.specs.Prelude.{◌==◌, ◌^◌, nat_lt, not, replicate}
use Rattle.std.specs.List.{All, AllByRecursion}
use Rattle.std.specs.Ordering.{is_le}
use Rattle.std.proofs.lemmas.Bool.{and_from}
use Rattle.std.proofs.lemmas.Bool.Decides.{nat_tests}
use Rattle.std.proofs.lemmas.Cmp.{tied_itself}
use Rattle.std.proofs.lemmas.List.Elements.{All-nil, All-cons, All-head}
use Rattle.col_value.specs.Laws.{value_total}
use Rattle.col_value.specs.declared.value.Value.{Value}
use Rattle.value_bytes.specs.Spelling.{IsSpelled}
use Rattle.block_codec.specs.Held.{picked}
use Rattle.pos_index.specs.declared.index.Entry.{Entry}
use Rattle.pos_index.specs.declared.index.PosIndex.{PosIndex}
use Rattle.pos_index.specs.Index.{blocks, are_entries, starts_at_zero, FitsEntry}
use Rattle.container_blocks.specs.Blocks.{IsIndexOf}
use Rattle.container_blocks.specs.Parts.{entry_of_one, entries_of_one}

entries_long : (v : Value) (b n : ℕ) → length (entries_of_one v b n) ≡ n
entries_long v b zero = refl
entries_long v b (suc n) = ap suc (entries_long v (suc b) n)

-- one entry more, behind the others
one_more : (v : Value) (b n : ℕ) → entries_of_one v b n ++ entry_of_one v (b + n) ∷ [] ≡ entries_of_one v b (suc n)
one_more v b zero = let same : b + zero ≡ b = omega arith in ap (λ (x : ℕ). entry_of_one v x ∷ []) same
one_more v b (suc n) =
    let same : b + suc n ≡ suc b + n = omega arith in
    ap (λ (xs : List Entry). entry_of_one v b ∷ xs) (ap (λ (x : ℕ). entries_of_one v (suc b) n ++ entry_of_one v x ∷ []) same ∙ one_more v (suc b) n)

pub entries_more : (v : Value) (n : ℕ) → entries_of_one v 0 n ++ entry_of_one v n ∷ [] ≡ entries_of_one v 0 (n + 1)
entries_more v n =
    let from : 0 + n ≡ n = omega arith in
    let up : suc n ≡ n + 1 = omega arith in
    ap (λ (x : ℕ). entries_of_one v 0 n ++ entry_of_one v x ∷ []) (sym from) ∙ one_more v 0 n ∙ ap (entries_of_one v 0) up

-- they are entries of blocks one after the other
entries_follow : (v : Value) (b n first : ℕ) → first ≡ 1024 * b → are_entries first b (entries_of_one v b n) ≡ true
entries_follow v b zero first at = refl
entries_follow v b (suc n) first at =
    let here : (1024 * b == first) ≡ true = grind (arith, nat_tests) in
    let place : not (nat_lt b b) ≡ true = grind (arith, nat_tests) in
    let up : b + 1 ≡ suc b = omega arith in
    and_from _ _ (and_from _ _ here (and_from _ _ place (ap is_le (tied_itself value_total v)))) (subst (λ (x : ℕ). are_entries (first + 1024) x (entries_of_one v (suc b) n) ≡ true) (sym up) (entries_follow v (suc b) n (first + 1024) (omega arith)))

starts : (v : Value) (n : ℕ) → starts_at_zero (entries_of_one v 0 n) ≡ true
starts v zero = refl
starts v (suc n) = refl

entries_fit : (v : Value) (b n : ℕ) → IsSpelled v → 1024 * (b + n) < 2 ^ 64 + 1024 → AllByRecursion FitsEntry (entries_of_one v b n)
entries_fit v b zero spelled low = tt
entries_fit v b (suc n) spelled low = ((omega arith, (omega arith, (spelled, spelled))), entries_fit v (suc b) n spelled (omega arith))

pub entries_one : (v : Value) (b n : ℕ) → All (λ e. (e.least ≡ v) × (e.greatest ≡ v)) (entries_of_one v b n)
entries_one v b zero = All-nil (λ (e : Entry). (e.least ≡ v) × (e.greatest ≡ v))
entries_one v b (suc n) = All-cons (λ (e : Entry). (e.least ≡ v) × (e.greatest ≡ v)) (entry_of_one v b) (entries_of_one v (suc b) n) (refl, refl) (entries_one v (suc b) n)

pub is_index_of_one : (v : Value) (rows : ℕ) (at : PosIndex) → 1 ≤ rows → rows < 2 ^ 64 → IsSpelled v → at.rows ≡ rows → at.entries ≡ entries_of_one v 0 (blocks rows) → IsIndexOf rows at
is_index_of_one v rows at some fits spelled of_rows are =
    let es = entries_of_one v 0 (blocks rows) in
    let much : nat_lt 0 at.rows ≡ true = grind (arith, nat_tests) in
    let many : length at.entries ≡ blocks at.rows = ap length are ∙ entries_long v 0 (blocks rows) ∙ sym (ap blocks of_rows) in
    let long : (length at.entries == blocks at.rows) ≡ true = grind (arith, nat_tests) in
    let starting : starts_at_zero at.entries ≡ true = ap starts_at_zero are ∙ starts v (blocks rows) in
    let following : are_entries 0 0 at.entries ≡ true = ap (are_entries 0 0) are ∙ entries_follow v 0 (blocks rows) 0 (omega arith) in
    record {
      is_index = and_from _ _ much (and_from _ _ long (and_from _ _ starting following));
      fits = record {
        rows = omega (arith, of_rows);
        entries = subst (AllByRecursion FitsEntry) (sym are) (entries_fit v 0 (blocks rows) spelled (omega arith));
      };
      of_rows = of_rows;
    }

pub is_of_one : (v : Value) (rows : ℕ) (es : List Entry) → es ≡ entries_of_one v 0 (blocks rows) → All (λ e. (e.least ≡ v) × (e.greatest ≡ v)) es
is_of_one v rows es are = subst (All (λ e. (e.least ≡ v) × (e.greatest ≡ v))) (sym are) (entries_one v 0 (blocks rows))

-- one word at so many places
pub picked_one : (v : Value) (count : ℕ) → picked (v ∷ []) (replicate count 0) ≡ replicate count v
picked_one v zero = refl
picked_one v (suc count) = ap (λ (vs : List Value). v ∷ vs) (picked_one v count)

-- what holds of the only value of a list
pub first_of_one : (P : Value → Type 0) (v : Value) (vs : List Value) → vs ≡ v ∷ [] → All P vs → P v
first_of_one P v vs is all = All-head P v [] (subst (All P) is all)
