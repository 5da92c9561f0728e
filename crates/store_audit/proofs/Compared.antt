-- What two projections hold, in the columns of the second.
use Rattle.std.proofs.Common.{◌≡◌, ◌<◌, ℕ, List, [], ◌∷◌, length, map, refl, sym, ap, ap₂, ◌∙◌, arith, subst}
use Rattle.std.specs.Prelude.{Option, Some, None, IfSome, IfNone, slice_index_or}
use Rattle.std.specs.Ordering.{is_eq}
use Rattle.std.specs.List.{All, range_with_len}
use Rattle.std.proofs.lemmas.List.{ext_get_or, length-map}
use Rattle.std.proofs.lemmas.List.Elements.{All-head, All-tail}
use Rattle.std.proofs.lemmas.List.FromFn.{get_or-map-range_with_len, length-range_with_len}
use Rattle.common_laws.specs.Bags.{SameBag}
use Rattle.common_laws.specs.Maps.{Contents}
use Rattle.col_disk.specs.Faults.{IsUnblamed}
use Rattle.col_disk.specs.declared.disk.StoreFault.{StoreFault}
use Rattle.col_disk.specs.declared.disk.StoreFault.TheVariants.{Damaged}
use Rattle.catalog_types.specs.declared.catalogue.Projection.{Projection}
use Rattle.catalog_types.specs.declared.catalogue.Table.{Table}
use Rattle.col_value.specs.declared.row.Stamped.{Stamped}
use Rattle.col_value.specs.declared.value.Value.{Value}
use Rattle.col_value.specs.declared.value.Value.TheVariants as value
use Rattle.col_value.specs.Order.{projected}
use Rattle.row_history.specs.History.{on_columns}
use Rattle.ros_container.specs.Encodings.{written_of}
use Rattle.bag_difference.specs.Differences.{stamped_cmp}
use Rattle.audit_model.specs.Rows.{judged_in}
use Rattle.audit_model.specs.Pairs.{in_columns, pair, IsSamePairIn}
use Rattle.audit_model.specs.declared.verdict.Verdict.{Verdict}
use Rattle.audit_model.specs.declared.verdict.Verdict.TheVariants.{Yes, File, BadRow, Differ}
use Rattle.audit_model.proofs.Yes.{HeldOnce}
use Rattle.store_audit.specs.Passes.{AreBoth, HasBoth, JudgesPair, Tells}

pub at_some : {X : Type 0} (P : X → Type 0) (o : Option X) (x : X) → o ≡ Some x → IfSome o P → P x
at_some P o x is holds = subst (λ (q : Option _). IfSome q P) is holds

-- ---- all columns of a row

abbrev stamp : Stamped → List Value → Stamped
stamp s row = record s { row = row }

whole_row : (row : List Value) (n : ℕ) → length row ≡ n → projected row (range_with_len 0 n) ≡ row
whole_row row n long =
    ext_get_or value.Null (projected row (range_with_len 0 n)) row (wide ∙ sym long) (λ i lt.
    let below : i < n = omega (arith, lt, wide) in
    get_or-map-range_with_len (λ c. slice_index_or row c value.Null) 0 n i i value.Null below (omega arith))
  where
    wide : length (projected row (range_with_len 0 n)) ≡ n
    wide = length-map (range_with_len 0 n) (λ c. slice_index_or row c value.Null) ∙ length-range_with_len 0 n

whole_rows : (n : ℕ) (rows : List Stamped) → All (λ s. length s.row ≡ n) rows → map (on_columns (range_with_len 0 n)) rows ≡ rows
whole_rows n [] all = refl
whole_rows n (s ∷ rows) all =
    ap₂ (λ (x : Stamped) (xs : List Stamped). x ∷ xs) (ap (stamp s) (whole_row s.row n (All-head (λ x. length x.row ≡ n) s rows all)))
    (whole_rows n rows (All-tail (λ x. length x.row ≡ n) s rows all))

-- ---- one pair

-- what is found is what is judged
second_is : (m : Contents) (epoch mark : ℕ) (p q : Projection) (xs ys : List Stamped) → AreBoth m epoch mark p q xs ys → (both : HasBoth m epoch mark p q) → ys ≡ judged_in epoch mark both.other
second_is m epoch mark p q xs ys are both = (are both.one both.other both.first both.second).1 ∙ whole_rows (length q.columns) (judged_in epoch mark both.other) both.wide

first_is : (m : Contents) (epoch mark : ℕ) (p q : Projection) (xs ys : List Stamped) → AreBoth m epoch mark p q xs ys → (both : HasBoth m epoch mark p q) → xs ≡ in_columns p q (judged_in epoch mark both.one)
first_is m epoch mark p q xs ys are both = (are both.one both.other both.first both.second).0

judged_same : (holds : Option Contents) (epoch mark : ℕ) (t : Table) (p q : Projection) (xs ys : List Stamped) → ((m : Contents) → holds ≡ Some m → AreBoth m epoch mark p q xs ys) → SameBag xs ys
    → JudgesPair holds epoch mark (pair t p q) None
judged_same holds epoch mark t p q xs ys found bag m told both =
    let one = first_is m epoch mark p q xs ys (found m told) both in
    let other = second_is m epoch mark p q xs ys (found m told) both in (
      judged_in epoch mark both.one,
      judged_in epoch mark both.other,
      (both.one, both.first, refl),
      (both.other, both.second, refl),
      subst (λ (zs : List Stamped). SameBag zs (judged_in epoch mark both.other)) one (subst (SameBag xs) other bag),
    )

tells_bags : (t : Table) (p q : Projection) (xs ys : List Stamped) (verdict : Verdict) → Tells t p q xs ys verdict → SameBag xs ys → ⊥
tells_bags t p q xs ys (Yes last ahm) told bag = told
tells_bags t p q xs ys (File name) told bag = told
tells_bags t p q xs ys (BadRow table projection base pos) told bag = told
tells_bags t p q xs ys (Differ table first second a b row) (d, of_table, of_first, of_second) bag = d.differ (d.first ∙ bag.counts (λ x. is_eq (stamped_cmp x row)) ∙ sym d.second)

judged_apart : HeldOnce → (holds : Option Contents) (epoch mark : ℕ) (t : Table) (p q : Projection) (xs ys : List Stamped) (verdict : Verdict) → ((m : Contents) → holds ≡ Some m → AreBoth m epoch mark p q xs ys)
    → Tells t p q xs ys verdict → JudgesPair holds epoch mark (pair t p q) (Some verdict)
judged_apart once holds epoch mark t p q xs ys verdict found tells m told both = record {
  xs = judged_in epoch mark both.one;
  ys = judged_in epoch mark both.other;
  one = (both.one, both.first, refl);
  other = (both.other, both.second, refl);
  told = subst (λ (zs : List Stamped). Tells t p q zs (judged_in epoch mark both.other) verdict) one (subst (λ (zs : List Stamped). Tells t p q xs zs verdict) other tells);
  differ = never;
}
  where
    one : xs ≡ in_columns p q (judged_in epoch mark both.one)
    one = first_is m epoch mark p q xs ys (found m told) both

    other : ys ≡ judged_in epoch mark both.other
    other = second_is m epoch mark p q xs ys (found m told) both

    never : IsSamePairIn m epoch mark (pair t p q) → ⊥
    never (us, vs, (a, first, us_are), (b, second, vs_are), bag) =
        let same_one : a ≡ both.one = once m (written_of p) p.containers a both.one first both.first in
        let same_other : b ≡ both.other = once m (written_of q) q.containers b both.other second both.second in
        let us_is : us ≡ judged_in epoch mark both.one = us_are ∙ ap (judged_in epoch mark) same_one in
        let vs_is : vs ≡ judged_in epoch mark both.other = vs_are ∙ ap (judged_in epoch mark) same_other in
        let back : SameBag (in_columns p q (judged_in epoch mark both.one)) (judged_in epoch mark both.other) =
        subst (λ (zs : List Stamped). SameBag (in_columns p q zs) (judged_in epoch mark both.other)) us_is (subst (SameBag (in_columns p q us)) vs_is bag) in
        tells_bags t p q xs ys verdict tells (subst (λ (zs : List Stamped). SameBag zs ys) (sym one) (subst (SameBag (in_columns p q (judged_in epoch mark both.one))) (sym other) back))

pub judged_compared : HeldOnce → (holds : Option Contents) (epoch mark : ℕ) (t : Table) (p q : Projection) (xs ys : List Stamped) (o : Option Verdict) → ((m : Contents) → holds ≡ Some m → AreBoth m epoch mark p q xs ys)
    → IfNone o (SameBag xs ys) → IfSome o (Tells t p q xs ys) → JudgesPair holds epoch mark (pair t p q) o
judged_compared once holds epoch mark t p q xs ys None found same told = judged_same holds epoch mark t p q xs ys found same
judged_compared once holds epoch mark t p q xs ys (Some verdict) found same told = judged_apart once holds epoch mark t p q xs ys verdict found told

pub blamed_never : (fault : StoreFault) (file : ℕ) → fault ≡ Damaged file → IsUnblamed fault → ⊥
blamed_never fault file is unblamed = subst IsUnblamed is unblamed
