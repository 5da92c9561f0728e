-- The super projection of least name of a table, and the projections beside it.
use Rattle.std.proofs.Common.{◌≡◌, ◌<◌, ℕ, List, [], ◌∷◌, length, map, Bool, true, false, cond, refl, sym, ap, ap₂, ◌∙◌, arith, subst}
use Rattle.std.specs.Prelude.{◌==◌, ◌&&◌, ◌||◌, find, slice_index_or, bytes_eq, Some}
use Rattle.std.specs.Ordering.{nat_cmp}
use Rattle.std.specs.Cmp.Lexicographic.{slice_cmp}
use Rattle.std.specs.declared.cmp.Ordering.TheVariants.{Less, Equal}
use Rattle.std.specs.List.{All, Any, list_all, list_any, range_with_len}
use Rattle.std.proofs.lemmas.Bool.{eq-eqb}
use Rattle.std.proofs.lemmas.Cmp.{nat_list_cmp_total, tied_itself}
use Rattle.std.proofs.lemmas.Slice.Eq.{bytes_eq-Decides}
use Rattle.std.proofs.lemmas.List.Elements.{All-nil, All-cons}
use Rattle.std.proofs.lemmas.List.Folds.{list_any-from_Any}
use Rattle.std.proofs.lemmas.List.FromFn.{length-range_with_len, get_or-range_with_len}
use Rattle.std.proofs.lemmas.List.Sums.{AllPass-from_list_all, list_all-from_AllPass}
use Rattle.common_laws.proofs.Truths.{and_true}
use Rattle.catalog_types.specs.declared.catalogue.ProjColumn.{ProjColumn}
use Rattle.catalog_types.specs.declared.catalogue.Projection.{Projection}
use Rattle.catalog_types.specs.declared.catalogue.Table.{Table}
use Rattle.catalog_types.specs.Lists.{Pairwise}
use Rattle.catalog_types.specs.Names.{IsBelow}
use Rattle.catalog_types.specs.Parts.{IsFreshSuper}
use Rattle.folder_model.specs.Projections.{ordinals}
use Rattle.audit_model.specs.Pairs.{is_super, super_of}
use Rattle.audit_model.proofs.Columns.{has}
use Rattle.audit_model.proofs.Lists.{found_has, found_passes}

abbrev has_ordinal : List ProjColumn → ℕ → Bool
has_ordinal ks i = list_any (λ k. k.ordinal == i) ks

same_has : (ks : List ProjColumn) (i : ℕ) → has (map (λ k. k.ordinal) ks) i ≡ has_ordinal ks i
same_has [] i = refl
same_has (k ∷ ks) i = ap (λ (b : Bool). (k.ordinal == i) || b) (same_has ks i)

-- ---- a super projection is found

there_tested : (ks : List ProjColumn) (i : ℕ) → Any (λ k. k.ordinal ≡ i) ks → has_ordinal ks i ≡ true
there_tested ks i (n, k, lt, at, is) = list_any-from_Any (λ (x : ProjColumn). x.ordinal == i) ks (n, k, lt, at, eq-eqb k.ordinal i is)

fresh_tested : (t : Table) (p : Projection) → IsFreshSuper t p → is_super t p ≡ true
fresh_tested t p is = both p.fresh (list_all (has_ordinal p.columns) (range_with_len 0 (length t.columns))) is.fresh (list_all-from_AllPass (has_ordinal p.columns) (range_with_len 0 (length t.columns)) (λ i d lt.
    let below : i < length t.columns = omega (arith, lt, length-range_with_len 0 (length t.columns)) in
    let at : slice_index_or (range_with_len 0 (length t.columns)) i d ≡ i = get_or-range_with_len 0 (length t.columns) i d below ∙ omega arith in
    ap (has_ordinal p.columns) at ∙ there_tested p.columns i (is.columns i below)))
  where
    both : (a b : Bool) → a ≡ true → b ≡ true → (a && b) ≡ true
    both a b first second = ap₂ (λ (x y : Bool). x && y) first second

find_some : {X : Type 0} (p : X → Bool) (xs : List X) → list_any p xs ≡ true → (x : X) × (find p xs ≡ Some x)
find_some p [] any = absurd cc
find_some {X} p (x ∷ xs) any = by (p x) any (find_some p xs)
  where
    by : (b : Bool) → (b || list_any p xs) ≡ true → (list_any p xs ≡ true → (y : X) × (find p xs ≡ Some y)) → (y : X) × (cond b (Some x) (find p xs) ≡ Some y)
    by true told later = (x, refl)
    by false told later = later told

pub super_there : (t : Table) → Any (IsFreshSuper t) t.projections → (s : Projection) × (super_of t ≡ Some s)
super_there t (k, p, lt, at, super) = find_some (is_super t) t.projections (list_any-from_Any (is_super t) t.projections (k, p, lt, at, fresh_tested t p super))

-- ---- what it is

pub super_fresh : (t : Table) (s : Projection) → super_of t ≡ Some s → s.fresh ≡ true
super_fresh t s found = (and_true s.fresh (list_all (has_ordinal s.columns) (range_with_len 0 (length t.columns))) (found_passes (is_super t) t.projections s found)).0

pub super_has : (t : Table) (s : Projection) → super_of t ≡ Some s → (i : ℕ) → i < length t.columns → has (ordinals s) i ≡ true
super_has t s found i lt =
    let all = AllPass-from_list_all (has_ordinal s.columns) (range_with_len 0 (length t.columns)) (and_true s.fresh (list_all (has_ordinal s.columns) (range_with_len 0 (length t.columns))) (found_passes (is_super t) t.projections s found)).1 in
    let long : i < length (range_with_len 0 (length t.columns)) = omega (arith, lt, length-range_with_len 0 (length t.columns)) in
    let at : slice_index_or (range_with_len 0 (length t.columns)) i i ≡ i = get_or-range_with_len 0 (length t.columns) i i lt ∙ omega arith in
    same_has s.columns i ∙ sym (ap (has_ordinal s.columns) at) ∙ all i i long

-- ---- names tell projections apart

named_same : (a b : List ℕ) → bytes_eq a b ≡ true → a ≡ b
named_same a b told = (bytes_eq-Decides a b).0 told

not_below : (a b : List ℕ) → IsBelow a b → a ≡ b → ⊥
not_below a b below same =
    let tied : slice_cmp nat_cmp a a ≡ Equal = tied_itself nat_list_cmp_total a in
    let less : slice_cmp nat_cmp a a ≡ Less = subst (λ (x : List ℕ). slice_cmp nat_cmp a x ≡ Less) (sym same) below in
    let never : Less ≡ Equal = sym less ∙ tied in cc

others_above : (p : Projection) (ps : List Projection) (s : Projection) → All (λ q. IsBelow p.name q.name) ps → p ≡ s → All (λ q. bytes_eq q.name s.name ≡ true → q ≡ s) ps
others_above p ps s below same k d lt told =
    let q = slice_index_or ps k d in
    let named : q.name ≡ s.name = named_same q.name s.name told in
    absurd (not_below p.name q.name (below k d lt) (ap (λ (x : Projection). x.name) same ∙ sym named))

pub one_of_name : (p : Projection → Bool) (ps : List Projection) (s : Projection) → Pairwise (λ q r. IsBelow q.name r.name) ps → find p ps ≡ Some s → All (λ q. bytes_eq q.name s.name ≡ true → q ≡ s) ps
one_of_name p [] s order found = All-nil (λ q. bytes_eq q.name s.name ≡ true → q ≡ s)
one_of_name p (x ∷ ps) s order found = by (p x) found (one_of_name p ps s order.1)
  where
    by : (b : Bool) → cond b (Some x) (find p ps) ≡ Some s → (find p ps ≡ Some s → All (λ q. bytes_eq q.name s.name ≡ true → q ≡ s) ps) → All (λ q. bytes_eq q.name s.name ≡ true → q ≡ s) (x ∷ ps)
    by true is later =
        let same : x ≡ s = cc in
        All-cons (λ q. bytes_eq q.name s.name ≡ true → q ≡ s) x ps (λ _. same) (others_above x ps s order.0 same)
    by false is later =
        All-cons (λ q. bytes_eq q.name s.name ≡ true → q ≡ s) x ps
        (λ told. absurd (not_below x.name s.name (found_has (λ q. IsBelow x.name q.name) p ps s is order.0) (named_same x.name s.name told)))
        (later is)
