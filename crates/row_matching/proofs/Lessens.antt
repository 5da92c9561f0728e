-- Rows without those that are deleted.
use Rattle.std.proofs.Common.{◌≡◌, ℕ, ◌+◌, ◌≤◌, ◌++◌, Bool, true, false, cond, List, [], ◌∷◌, refl, ap, ap₂, arith, subst}
use Rattle.std.specs.Prelude.{count_by, ◌&&◌, ◌==◌}
use Rattle.std.specs.Ordering.{is_eq}
use Rattle.common_laws.specs.Bags.{SameBag}
use Rattle.common_laws.proofs.BagLaws.{bag_cancel, bag_refl, bag_sym, bag_trans, count_cons}
use Rattle.col_value.specs.declared.row.Asked.{Asked}
use Rattle.col_value.specs.declared.value.Value.{Value}
use Rattle.col_value.specs.Order.{row_cmp}
use Rattle.db_model.specs.Views.{is_same_asked, less, less_one}
use Rattle.wanted_rows.proofs.Counting.{same_exact, same_itself}

abbrev one_if : Bool → ℕ
one_if b = cond b 1 0

-- where rows are the gone ones and some others, in whatever order, these are the others
abbrev pub IsLess : List Asked → List Asked → List Asked → Type 0
IsLess gone rows less = (rest : List Asked) → SameBag rows (gone ++ rest) → SameBag less rest

-- ---- the same in the words of a database

abbrev make : List Value → ℕ → Asked
make row ins = record { row = row; ins = ins }

row_same : (v w : List Value) → is_eq (row_cmp v w) ≡ true → v ≡ w
row_same v w same = ap (λ (x : Asked). x.row) (same_exact (make v 0) (make w 0) same)

same_parts : (a b : Asked) → is_same_asked a b ≡ true → a ≡ b
same_parts a b is = by (a.ins == b.ins) refl (is_eq (row_cmp a.row b.row)) refl is
  where
    by : (x : Bool) → (a.ins == b.ins) ≡ x → (y : Bool) → is_eq (row_cmp a.row b.row) ≡ y → (x && y) ≡ true → a ≡ b
    by true first true second both = ap₂ make (row_same a.row b.row second) (grind (arith, first))
    by true first false second both = absurd (cc)
    by false first y second both = absurd (cc)

part_itself : (a : Asked) → is_same_asked a a ≡ true
part_itself a = both (a.ins == a.ins) (is_eq (row_cmp a.row a.row)) (grind arith) (same_itself (record { row = a.row; ins = 0 }))
  where
    both : (x y : Bool) → x ≡ true → y ≡ true → (x && y) ≡ true
    both true true first second = refl
    both true false first second = second
    both false y first second = first

one_out : (g : Asked) (rows : List Asked) → 1 ≤ count_by (λ a. is_same_asked a g) rows → SameBag rows (g ∷ less_one g rows)
one_out g [] some = absurd (omega (arith, some))
one_out g (a ∷ rows) some = by (is_same_asked a g) refl (one_out g rows) (count_cons (λ x. is_same_asked x g) a rows)
  where
    by : (b : Bool) → is_same_asked a g ≡ b → (1 ≤ count_by (λ x. is_same_asked x g) rows → SameBag rows (g ∷ less_one g rows)) → count_by (λ x. is_same_asked x g) (a ∷ rows) ≡ cond b 1 0 + count_by (λ x. is_same_asked x g) rows
        → SameBag (a ∷ rows) (g ∷ cond b rows (a ∷ less_one g rows))
    by true is more at = subst (λ (x : Asked). SameBag (a ∷ rows) (x ∷ rows)) (same_parts a g is) (bag_refl (a ∷ rows))
    by false is more at =
        let bag = more (omega (arith, some, at)) in
        record {
          counts = λ p.
              omega (arith, count_cons p a rows, count_cons p g (a ∷ less_one g rows), count_cons p a (less_one g rows), count_cons p g (less_one g rows), bag.counts p);
        }

pub less_is_less : (gone rows : List Asked) → IsLess gone rows (less gone rows)
less_is_less [] rows = λ rest bag. bag
less_is_less (g ∷ gone) rows = λ rest bag.
    let own : is_same_asked g g ≡ true = part_itself g in
    let here : one_if (is_same_asked g g) ≡ one_if true = ap one_if own in
    let some : 1 ≤ count_by (λ a. is_same_asked a g) rows = omega (arith, bag.counts (λ a. is_same_asked a g), count_cons (λ a. is_same_asked a g) g (gone ++ rest), here) in
    let out = one_out g rows some in
    let behind : SameBag (less_one g rows) (gone ++ rest) = bag_cancel (g ∷ []) (less_one g rows) (gone ++ rest) (bag_trans (g ∷ less_one g rows) rows (g ∷ (gone ++ rest)) (bag_sym rows (g ∷ less_one g rows) out) bag) in
    less_is_less gone (less_one g rows) rest behind
