-- Which of some projections that are due for a merge has the least name.
use Rattle.std.proofs.Common.{◌≡◌, ◌<◌, ◌+◌, ◌++◌, ℕ, Bool, true, false, cond, List, [], ◌∷◌, length, take, get_or, refl, sym, ◌∙◌, ap, subst}
use Rattle.std.specs.Prelude.{Option, Some, None, option_and_then, IsSomeAnd}
use Rattle.std.specs.Bool.{OnTrue, OnFalse}
use Rattle.std.specs.List.{All, slice_get}
use Rattle.std.specs.declared.cmp.Ordering.{Ordering}
use Rattle.std.specs.declared.cmp.Ordering.TheVariants.{Less, Equal, Greater}
use Rattle.std.specs.Ordering.{is_lt, nat_cmp}
use Rattle.std.specs.Cmp.{tied_itself}
use Rattle.std.specs.Cmp.Lexicographic.{slice_cmp, nat_list_cmp_total}
use Rattle.std.proofs.lemmas.List.{append_assoc, take_more}
use Rattle.std.proofs.lemmas.List.Elements.{All-append, All-cons, All-nil, All-weaker}
use Rattle.catalog_types.specs.declared.catalogue.Projection.{Projection}
use Rattle.catalog_types.specs.declared.catalogue.Table as kept
use Rattle.mover_policy.specs.declared.first.Place.{Place}
use Rattle.mover_policy.specs.declared.merging.Merge.{Merge}
use Rattle.mover_policy.specs.First.{all_projections, projection_at}
use Rattle.mover_policy.specs.Merging.{comes_first, is_named_first, IsBest, IsDue, IsFirstDue, IsLowest, IsNext}
use Rattle.mover_policy.proofs.Taken.{at_place}

abbrev cmp : List ℕ → List ℕ → Ordering
cmp = slice_cmp nat_cmp

lt_less : (o : Ordering) → is_lt o ≡ true → o ≡ Less
lt_less Less is = refl
lt_less Equal is = absurd (cc)
lt_less Greater is = absurd (cc)

-- what doesn't come before a name doesn't come before a lesser one
still_first : (q p b : List ℕ) → is_lt (cmp p b) ≡ true → is_lt (cmp q b) ≡ false → is_lt (cmp q p) ≡ false
still_first q p b lower other = by (is_lt (cmp q p)) refl
  where
    by : (k : Bool) → is_lt (cmp q p) ≡ k → is_lt (cmp q p) ≡ false
    by false is = is
    by true is =
        let both : is_lt (cmp q b) ≡ true = ap is_lt (nat_list_cmp_total.trans q p b (lt_less (cmp q p) is) (lt_less (cmp p b) lower)) in
        absurd (cc)

-- ---- one projection more, taken or not

abbrev NotBefore : Projection → Projection → Type 0
NotBefore best p = IsDue p → is_named_first p best ≡ false

abbrev NotDue : Projection → Type 0
NotDue p = IsDue p → ⊥

one_more : (tables : List kept.Table) (seen : List Projection) (best now : Option Place) (at : Place) (p : Projection) (taken : Bool) → projection_at tables at ≡ Some p
    → OnTrue taken (IsDue p × (comes_first p (option_and_then (projection_at tables) best) ≡ true)) → OnFalse taken (IsDue p → comes_first p (option_and_then (projection_at tables) best) ≡ false)
    → now ≡ cond taken (Some at) best → IsBest tables seen best → IsBest tables (seen ++ p ∷ []) now
one_more tables seen None now at p true there (due, first) other is best =
    subst (IsBest tables (seen ++ p ∷ [])) (sym is) (record {
      projection = p;
      there = there;
      due = due;
      first =
          All-append (NotBefore p) seen (p ∷ []) (All-weaker NotDue (NotBefore p) (λ q none here. absurd (none here)) seen best)
          (All-cons (NotBefore p) p [] (λ here. ap is_lt (tied_itself nat_list_cmp_total p.name)) (All-nil (NotBefore p)));
    })
one_more tables seen (Some b) now at p true there (due, first) other is best =
    let lower : is_named_first p best.projection ≡ true = ap (comes_first p) (sym best.there) ∙ first in
    subst (IsBest tables (seen ++ p ∷ [])) (sym is) (record {
      projection = p;
      there = there;
      due = due;
      first =
          All-append (NotBefore p) seen (p ∷ [])
          (All-weaker (NotBefore best.projection) (NotBefore p) (λ q late here. still_first q.name p.name best.projection.name lower (late here)) seen best.first)
          (All-cons (NotBefore p) p [] (λ here. ap is_lt (tied_itself nat_list_cmp_total p.name)) (All-nil (NotBefore p)));
    })
one_more tables seen None now at p false there told other is best =
    subst (IsBest tables (seen ++ p ∷ [])) (sym is)
    (All-append NotDue seen (p ∷ []) best (All-cons NotDue p [] (λ here. never (other here)) (All-nil NotDue)))
  where
    never : true ≡ false → ⊥
    never is = absurd (cc)
one_more tables seen (Some b) now at p false there told other is best =
    subst (IsBest tables (seen ++ p ∷ [])) (sym is) (record {
      projection = best.projection;
      there = best.there;
      due = best.due;
      first =
          All-append (NotBefore best.projection) seen (p ∷ []) best.first
          (All-cons (NotBefore best.projection) p [] (λ here. ap (comes_first p) (sym best.there) ∙ other here) (All-nil (NotBefore best.projection)));
    })

pub step : (tables : List kept.Table) (seen ps : List Projection) (at : Place) (best now : Option Place) (p : Projection) (taken : Bool) → IsSomeAnd (slice_get tables at.table) (λ t. t.projections ≡ ps) → at.place < length ps → p ≡ get_or ps at.place p
    → OnTrue taken (IsDue p × (comes_first p (option_and_then (projection_at tables) best) ≡ true)) → OnFalse taken (IsDue p → comes_first p (option_and_then (projection_at tables) best) ≡ false)
    → now ≡ cond taken (Some at) best → IsBest tables (seen ++ take at.place ps) best → IsBest tables (seen ++ take (at.place + 1) ps) now
step tables seen ps at best now p taken own lt is told other new before =
    subst (λ (qs : List Projection). IsBest tables qs now) (append_assoc seen (take at.place ps) (p ∷ []) ∙ ap (λ (qs : List Projection). seen ++ qs) (sym front))
    (one_more tables (seen ++ take at.place ps) best now at p taken (at_place tables at ps p own lt is) told other new before)
  where
    front : take (at.place + 1) ps ≡ take at.place ps ++ p ∷ []
    front = take_more ps at.place p lt ∙ ap (λ (x : Projection). take at.place ps ++ x ∷ []) (sym is)

-- ---- the merge

pub next_is : (tables : List kept.Table) (m : Merge) (p : Projection) → IsFirstDue tables (all_projections tables) m.at → Some p ≡ projection_at tables m.at → IsLowest p.containers m.level → IsNext tables m
next_is tables m p first there lowest = record { first = first; level = subst (λ (q : Projection). IsLowest q.containers m.level) same lowest }
  where
    same : p ≡ first.projection
    same = let both : Some p ≡ Some first.projection = there ∙ first.there in cc
