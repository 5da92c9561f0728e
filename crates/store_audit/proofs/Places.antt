-- Places of columns.
use Rattle.std.proofs.Common.{◌≡◌, ◌<◌, ◌≤◌, ◌++◌, ◌+◌, ℕ, zero, suc, List, [], ◌∷◌, length, map, take, sym, ap, ◌∙◌, arith, subst}
use Rattle.std.specs.Prelude.{slice_index_or}
use Rattle.std.specs.List.{All, range_with_len}
use Rattle.std.proofs.lemmas.List.{take_all}
use Rattle.std.proofs.lemmas.List.FromFn.{length-range_with_len, get_or-range_with_len}
use Rattle.catalog_types.specs.declared.catalogue.ProjColumn.{ProjColumn}
use Rattle.catalog_types.specs.declared.catalogue.Projection.{Projection}
use Rattle.folder_model.specs.Projections.{ordinals}
use Rattle.row_history.proofs.Histories.{map_mapped}
use Rattle.audit_model.specs.Pairs.{place_in, places_among}

range_push : (from n : ℕ) → range_with_len from (suc n) ≡ range_with_len from n ++ (from + n) ∷ []
range_push from zero = let here : from ≡ from + 0 = omega arith in ap (λ (k : ℕ). k ∷ []) here
range_push from (suc n) =
    let here : from + 1 + n ≡ from + suc n = omega arith in
    ap (λ (ks : List ℕ). from ∷ ks) (range_push (from + 1) n ∙ ap (λ (k : ℕ). range_with_len (from + 1) n ++ k ∷ []) here)

pub one_more : (n : ℕ) → range_with_len 0 (n + 1) ≡ range_with_len 0 n ++ n ∷ []
one_more n =
    let long : n + 1 ≡ suc n = omega arith in
    let here : 0 + n ≡ n = omega arith in
    ap (range_with_len 0) long ∙ range_push 0 n ∙ ap (λ (k : ℕ). range_with_len 0 n ++ k ∷ []) here

pub all_below : (n : ℕ) → All (λ c. c < n) (range_with_len 0 n)
all_below n = λ k d lt.
    let below : k < n = omega (arith, lt, length-range_with_len 0 n) in
    let is : slice_index_or (range_with_len 0 n) k d ≡ k = get_or-range_with_len 0 n k d below ∙ omega arith in
    subst (λ (c : ℕ). c < n) (sym is) below

-- the places of all columns
pub all_among : (p q : Projection) (columns others : List ProjColumn) (i : ℕ) (places : List ℕ) → columns ≡ p.columns → others ≡ q.columns → length others ≤ i
    → places ≡ map (λ k. place_in (map (λ c. c.ordinal) columns) k.ordinal) (take i others) → places ≡ places_among p q
all_among p q columns others i places own other past is =
    is ∙ ap (map (λ (k : ProjColumn). place_in (map (λ c. c.ordinal) columns) k.ordinal)) (take_all i others past ∙ other)
    ∙ ap (λ (cs : List ProjColumn). map (λ k. place_in (map (λ c. c.ordinal) cs) k.ordinal) q.columns) own ∙ sym (map_mapped (place_in (ordinals p)) (λ (k : ProjColumn). k.ordinal) q.columns)
