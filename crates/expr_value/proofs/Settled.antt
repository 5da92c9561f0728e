-- A comparison with NULL, and a part that settles a chain.
use Rattle.std.proofs.Common.{◌≡◌, ◌++◌, Bool, true, false, List, ◌∷◌, map, fold, Option, Some, None, refl, ap, ◌∙◌}
use Rattle.std.proofs.lemmas.List.{map-append}
use Rattle.std.proofs.lemmas.List.Sums.{fold-append}
use Rattle.std.proofs.lemmas.List.Folds.{fold_stays}
use Rattle.col_value.specs.declared.wide.Wide.{Wide}
use Rattle.col_value.specs.declared.wide.Wide.TheVariants as wide
use Rattle.sql_bound.specs.Values.{truth_in, truth, both_hold, one_holds}
use Rattle.expr_value.specs.Laws.{NullJoinsNothing, FalseSettles, TrueSettles}

pub joins_nothing : NullJoinsNothing
joins_nothing c wide.Null = (refl, refl)
joins_nothing c (wide.Bool b) = (refl, refl)
joins_nothing c (wide.Int n) = (refl, refl)
joins_nothing c (wide.Date d) = (refl, refl)
joins_nothing c (wide.Text t) = (refl, refl)

false_behind : (a : Option Bool) → both_hold a (Some false) ≡ Some false
false_behind None = refl
false_behind (Some true) = refl
false_behind (Some false) = refl

true_behind : (a : Option Bool) → one_holds a (Some true) ≡ Some true
true_behind None = refl
true_behind (Some true) = refl
true_behind (Some false) = refl

-- a part that stops a chain, among others
settles : (f : Option Bool → Option Bool → Option Bool) (z stop : Option Bool) → ((b : Option Bool) → f stop b ≡ stop) → ((a : Option Bool) → f a stop ≡ stop) → (w : Wide) → truth_in w ≡ stop → (before behind : List Wide) → fold f z (map truth_in (before ++ w ∷ behind)) ≡ stop
settles f z stop stays stops w is before behind =
    ap (fold f z) (map-append truth_in before (w ∷ behind)) ∙ fold-append f z (map truth_in before) (map truth_in (w ∷ behind))
    ∙ ap (λ (b : Option Bool). fold f b (map truth_in behind)) (ap (f (fold f z (map truth_in before))) is ∙ stops (fold f z (map truth_in before)))
    ∙ fold_stays f stop stays (map truth_in behind)

pub false_settles : FalseSettles
false_settles before behind = ap truth (settles both_hold (Some true) (Some false) (λ b. refl) false_behind (wide.Bool false) refl before behind)

pub true_settles : TrueSettles
true_settles before behind = ap truth (settles one_holds (Some false) (Some true) (λ b. refl) true_behind (wide.Bool true) refl before behind)
