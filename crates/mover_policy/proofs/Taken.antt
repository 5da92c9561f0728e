-- The first projection that is behind.
use Rattle.std.proofs.Common.{◌≡◌, ℕ, zero, suc, ◌<◌, ◌≤◌, ◌+◌, ◌++◌, arith, Bool, true, false, cond, List, [], ◌∷◌, length, drop, get_or, Option, Some, None, refl, sym, ap, ◌∙◌}
use Rattle.std.specs.Prelude.{◌&&◌, is_some, option_map, option_and_then, IsSomeAnd}
use Rattle.std.specs.Option.{option_map_or}
use Rattle.std.specs.List.{slice_get}
use Rattle.std.specs.declared.cmp.Ordering.{Ordering}
use Rattle.std.specs.Ordering.{nat_cmp, on, then_cmp}
use Rattle.std.specs.Cmp.Lexicographic.{slice_cmp, nat_list_cmp_total}
use Rattle.std.specs.Cmp.{IsTotalOrder, nat_cmp_total, on_total, then_total}
use Rattle.std.proofs.lemmas.List.{drop_more}
use Rattle.std.proofs.lemmas.List.Concat.{flat_map-cons}
use Rattle.catalog_types.specs.declared.catalogue.Projection.{Projection}
use Rattle.catalog_types.specs.declared.catalogue.Table as kept
use Rattle.db_model.specs.Database.{Shape, is_behind}
use Rattle.db_model.specs.Mover.{moves_first}
use Rattle.folder_model.specs.Projections.{shape_of}
use Rattle.mover_policy.specs.First.{all_projections, behind_in, first_in, is_first, projection_at, shape_at}
use Rattle.mover_policy.specs.declared.first.Place.{Place}
use Rattle.mover_policy.specs.Taking.{first_from}
use Rattle.mover_policy.proofs.Least.{least_from, all_found}

abbrev cmp : Shape → Shape → Ordering
cmp = then_cmp (on (λ x. x.lge) nat_cmp) (on (λ x. x.name) (slice_cmp nat_cmp))

cmp_total : IsTotalOrder cmp
cmp_total = then_total (on_total (λ x. x.lge) nat_cmp_total) (on_total (λ x. x.name) nat_list_cmp_total)

from_is : (best : Option Shape) (ss : List Shape) → first_from best ss ≡ least_from cmp cmp_total best ss
from_is best [] = refl
from_is best (s ∷ ss) = from_is (cond (option_map_or (λ b. moves_first s b) best true) (Some s) best) ss

pub first_is : (ss : List Shape) → first_from None ss ≡ first_in ss
first_is ss = from_is None ss ∙ all_found cmp cmp_total ss

pub from_append : (best : Option Shape) (xs ys : List Shape) → first_from best (xs ++ ys) ≡ first_from (first_from best xs) ys
from_append best [] ys = refl
from_append best (x ∷ xs) ys = from_append (cond (option_map_or (λ b. moves_first x b) best true) (Some x) best) xs ys

pub behind_append : (last : ℕ) (ps qs : List Projection) → behind_in last (ps ++ qs) ≡ behind_in last ps ++ behind_in last qs
behind_append last [] qs = refl
behind_append last (p ∷ ps) qs = by (is_behind last (shape_of p)) (behind_append last ps qs)
  where
    by : (b : Bool) → behind_in last (ps ++ qs) ≡ behind_in last ps ++ behind_in last qs
        → cond b (shape_of p ∷ behind_in last (ps ++ qs)) (behind_in last (ps ++ qs)) ≡ cond b (shape_of p ∷ behind_in last ps) (behind_in last ps) ++ behind_in last qs
    by true rest = ap (λ (ss : List Shape). shape_of p ∷ ss) rest
    by false rest = rest

-- one projection more, taken or not
pub one_more : (last : ℕ) (best now : Option Projection) (p : Projection) (ps : List Projection) (taken : Bool) → taken ≡ (is_behind last (shape_of p) && is_first p best) → now ≡ cond taken (Some p) best
    → first_from (option_map shape_of now) (behind_in last ps) ≡ first_from (option_map shape_of best) (behind_in last (p ∷ ps))
one_more last best now p ps taken told is = ap (λ (o : Option Projection). first_from (option_map shape_of o) (behind_in last ps)) (is ∙ ap (λ (b : Bool). cond b (Some p) best) told) ∙ by (is_behind last (shape_of p))
  where
    shaped : (b : Bool) → option_map shape_of (cond b (Some p) best) ≡ cond b (Some (shape_of p)) (option_map shape_of best)
    shaped true = refl
    shaped false = refl

    first : (o : Option Projection) → is_first p o ≡ option_map_or (λ b. moves_first (shape_of p) b) (option_map shape_of o) true
    first None = refl
    first (Some b) = refl

    by : (b : Bool) → first_from (option_map shape_of (cond (b && is_first p best) (Some p) best)) (behind_in last ps) ≡ first_from (option_map shape_of best) (cond b (shape_of p ∷ behind_in last ps) (behind_in last ps))
    by true = ap (λ (o : Option Shape). first_from o (behind_in last ps)) (shaped (is_first p best) ∙ ap (λ (b : Bool). cond b (Some (shape_of p)) (option_map shape_of best)) (first best))
    by false = refl

-- ---- by places

abbrev pub place_of : ℕ → ℕ → Place
place_of i j = record { table = i; place = j }

there_at : (ps : List Projection) (j : ℕ) (p : Projection) → j < length ps → p ≡ get_or ps j p → slice_get ps j ≡ Some p
there_at [] j p lt is = absurd (omega (arith, lt))
there_at (x ∷ ps) zero p lt is = ap (λ (y : Projection). Some y) (sym is)
there_at (x ∷ ps) (suc j) p lt is = there_at ps j p (omega (arith, lt)) is

-- the projection at a place of the table at hand
pub at_place : (tables : List kept.Table) (at : Place) (ps : List Projection) (p : Projection) → IsSomeAnd (slice_get tables at.table) (λ t. t.projections ≡ ps) → at.place < length ps → p ≡ get_or ps at.place p → projection_at tables at ≡ Some p
at_place tables at ps p own lt is = by (slice_get tables at.table) own
  where
    by : (o : Option kept.Table) → IsSomeAnd o (λ t. t.projections ≡ ps) → option_and_then (λ t. slice_get t.projections at.place) o ≡ Some p
    by None off = absurd off
    by (Some t) same = ap (λ (qs : List Projection). slice_get qs at.place) same ∙ there_at ps at.place p lt is

pub step : (tables : List kept.Table) (last : ℕ) (ps : List Projection) (at : Place) (best now : Option Place) (p : Projection) (taken : Bool) → IsSomeAnd (slice_get tables at.table) (λ t. t.projections ≡ ps) → at.place < length ps → p ≡ get_or ps at.place p
    → taken ≡ (is_behind last (shape_of p) && is_first p (option_and_then (projection_at tables) best)) → now ≡ cond taken (Some at) best
    → first_from (shape_at tables now) (behind_in last (drop (at.place + 1) ps)) ≡ first_from (shape_at tables best) (behind_in last (drop at.place ps))
step tables last ps at best now p taken own lt is told new =
    one_more last (option_and_then (projection_at tables) best) (option_and_then (projection_at tables) now) p (drop (at.place + 1) ps) taken told (ap (option_and_then (projection_at tables)) new ∙ by taken)
    ∙ ap (λ (qs : List Projection). first_from (shape_at tables best) (behind_in last qs)) (sym front)
  where
    front : drop at.place ps ≡ p ∷ drop (at.place + 1) ps
    front = drop_more ps at.place p lt ∙ ap (λ (x : Projection). x ∷ drop (at.place + 1) ps) (sym is)

    by : (b : Bool) → option_and_then (projection_at tables) (cond b (Some at) best) ≡ cond b (Some p) (option_and_then (projection_at tables) best)
    by true = at_place tables at ps p own lt is
    by false = refl

pub still_there : (tables : List kept.Table) (at : Place) (ps : List Projection) (p : Projection) → IsSomeAnd (slice_get tables at.table) (λ t. t.projections ≡ ps) → at.place < length ps → p ≡ get_or ps at.place p → is_some (projection_at tables at) ≡ true
still_there tables at ps p own lt is = ap (λ (o : Option Projection). is_some o) (at_place tables at ps p own lt is)

-- ---- table after table

pub next_table : (tables : List kept.Table) (last i : ℕ) (t : kept.Table) (best now : Option Shape) → i < length tables → t ≡ get_or tables i t → now ≡ first_from best (behind_in last t.projections)
    → first_from now (behind_in last (all_projections (drop (i + 1) tables))) ≡ first_from best (behind_in last (all_projections (drop i tables)))
next_table tables last i t best now lt is new =
    ap (λ (b : Option Shape). first_from b (behind_in last (all_projections (drop (i + 1) tables)))) new
    ∙ sym (from_append best (behind_in last t.projections) (behind_in last (all_projections (drop (i + 1) tables))))
    ∙ ap (first_from best) (sym (behind_append last t.projections (all_projections (drop (i + 1) tables))))
    ∙ ap (λ (ps : List Projection). first_from best (behind_in last ps)) (sym (flat_map-cons (λ (u : kept.Table). u.projections) t (drop (i + 1) tables)))
    ∙ ap (λ (ts : List kept.Table). first_from best (behind_in last (all_projections ts))) (sym (drop_more tables i t lt ∙ ap (λ (x : kept.Table). x ∷ drop (i + 1) tables) (sym is)))

-- behind the last table the first of all was found
pub all_tables : (tables : List kept.Table) (last i : ℕ) (best : Option Place) → length tables ≤ i → first_from (shape_at tables best) (behind_in last (all_projections (drop i tables))) ≡ first_from None (behind_in last (all_projections tables))
    → shape_at tables best ≡ first_in (behind_in last (all_projections tables))
all_tables tables last i best past is =
    ap (λ (ts : List kept.Table). first_from (shape_at tables best) (behind_in last (all_projections ts))) (sym (drop_all tables i past)) ∙ is ∙ first_is (behind_in last (all_projections tables))
  where
    drop_all : {X : Type 0} (xs : List X) (k : ℕ) → length xs ≤ k → drop k xs ≡ []
    drop_all [] zero le = refl
    drop_all [] (suc k) le = refl
    drop_all (x ∷ xs) zero le = absurd (omega (arith, le))
    drop_all (x ∷ xs) (suc k) le = drop_all xs k (omega (arith, le))
