use Rattle.std.proofs.Common.{◌+◌, ◌≤◌, ℤ, pos, ◌+ℤ◌, ◌*ℤ◌, Option, Some, true, false, List, map, take, subst, refl, sym, ap, ◌∙◌, arith, rules}
use Rattle.std.proofs.lemmas.List.{take_all}
use Rattle.sql_bound.specs.declared.expr.Expr.{Expr}
use Rattle.sql_bound.specs.Bounds.{bound_of_value, measure, result_bound}
use Rattle.sql_bound.specs.Values.{value_of, number, number_in, truth_in, of_both, both_hold, one_holds}
use Rattle.expr_value.specs.Terms.{term_value, measure_of_term, multiplied, wrapped}
use Rattle.expr_value.proofs.Bounded.{IsScope, bounds_in}
use Rattle.expr_value.proofs.Narrow.{chain_narrow, sum_narrow, product_narrow, neg_fits, term_fits, sum_fits, product_fits}
use Rattle.expr_value.proofs.Steps.{fold_step, fold_done, wrapped_left, wrapped_fits, wrapped_one}
use Rattle.expr_value.proofs.value.+value.Goals as goal

-- a narrow part has a value that fits
pub value_of-negated-requires : goal.value_of-negated-requires
value_of-negated-requires t c =
    let s = c.args.sight.now in
    let scope : IsScope s = record { rows = c.requires.rows; keys = c.requires.keys } in
    let value = c.value_of.ensures ∙ ap (value_of s) c.get.ensures in
    omega (arith, ap bound_of_value value, neg_fits s scope c.args.e.now c.in-Neg.part c.in-Neg.is c.requires.narrow)

pub term_value-negated-requires : goal.term_value-negated-requires
term_value-negated-requires t c =
    let s = c.args.sight.now in
    let scope : IsScope s = record { rows = c.requires.rows; keys = c.requires.keys } in
    omega (arith, ap bound_of_value c.value_of-part.ensures, term_fits s scope c.args.term.now c.requires.narrow)

-- each part of a narrow chain is narrow
pub sum-loop-term-init : goal.sum-loop-term-init
sum-loop-term-init t c = record {
  narrow = sum_narrow (measure_of_term (bounds_in c.args.sight.now)) c.args.terms.now c.requires.narrow;
  so_far = refl;
}

pub product-loop-part-init : goal.product-loop-part-init
product-loop-part-init t c = record {
  narrow = product_narrow (measure (bounds_in c.args.sight.now)) c.args.parts.now c.requires.narrow;
  so_far = wrapped_one;
}

pub all_hold-loop-part-init : goal.all_hold-loop-part-init
all_hold-loop-part-init t c = record {
  narrow = chain_narrow (measure (bounds_in c.args.sight.now)) c.args.parts.now c.requires.narrow;
  so_far = refl;
}

pub some_hold-loop-part-init : goal.some_hold-loop-part-init
some_hold-loop-part-init t c = record {
  narrow = chain_narrow (measure (bounds_in c.args.sight.now)) c.args.parts.now c.requires.narrow;
  so_far = refl;
}

-- one more part
pub sum-plus-so_far-requires : goal.sum-plus-so_far-requires
sum-plus-so_far-requires t c =
    let s = c.args.sight.now in
    let scope : IsScope s = record { rows = c.requires.rows; keys = c.requires.keys } in
    let step =
    fold_step (of_both ◌+ℤ◌) number_in (term_value s) (Some (pos 0)) c.args.terms.now c.loop-term.term-index c.term-item.result
    c.loop-term.so_far c.number.result c.loop-term-test.true c.term-item.is c.loop-term.invariant.so_far
    (c.number.ensures ∙ ap number_in c.term_value.ensures) in
    subst (λ (o : Option ℤ). bound_of_value (number o) ≤ result_bound) (sym step)
    (sum_fits s scope c.args.terms.now c.requires.narrow (c.loop-term.term-index + 1))

pub sum-loop-term-preserved : goal.sum-loop-term-preserved
sum-loop-term-preserved t c = record {
  narrow = c.loop-term.invariant.narrow;
  so_far =
      c.plus-so_far.ensures
      ∙ fold_step (of_both ◌+ℤ◌) number_in (term_value c.args.sight.now) (Some (pos 0)) c.args.terms.now c.loop-term.term-index
      c.term-item.result c.loop-term.so_far c.number.result c.loop-term-test.true c.term-item.is c.loop-term.invariant.so_far
      (c.number.ensures ∙ ap number_in c.term_value.ensures);
}

pub product-loop-part-preserved : goal.product-loop-part-preserved
product-loop-part-preserved t c =
    let s = c.args.sight.now in
    let before : Option ℤ = multiplied (map (value_of s) (take c.loop-part.part-index c.args.parts.now)) in
    let step =
    fold_step (of_both ◌*ℤ◌) number_in (value_of s) (Some (pos 1)) c.args.parts.now c.loop-part.part-index c.part-item.result
    before c.number.result c.loop-part-test.true c.part-item.is refl (c.number.ensures ∙ ap number_in c.value_of.ensures) in
    record {
      narrow = c.loop-part.invariant.narrow;
      so_far =
          c.times-so_far.ensures ∙ ap (λ (o : Option ℤ). wrapped (of_both ◌*ℤ◌ o c.number.result)) c.loop-part.invariant.so_far
          ∙ wrapped_left before c.number.result ∙ ap wrapped step;
    }

pub product-returns : goal.product-returns
product-returns t c =
    let s = c.args.sight.now in
    let scope : IsScope s = record { rows = c.requires.rows; keys = c.requires.keys } in
    c.loop-part.invariant.so_far
    ∙ ap (λ (xs : List Expr). wrapped (multiplied (map (value_of s) xs))) (take_all c.loop-part.part-index c.args.parts.now c.loop-part-test.false)
    ∙ wrapped_fits (multiplied (map (value_of s) c.args.parts.now)) (product_fits s scope c.args.parts.now c.requires.narrow)

pub all_hold-loop-part-preserved : goal.all_hold-loop-part-preserved
all_hold-loop-part-preserved t c = record {
  narrow = c.loop-part.invariant.narrow;
  so_far =
      c.both_hold-so_far.ensures
      ∙ fold_step both_hold truth_in (value_of c.args.sight.now) (Some true) c.args.parts.now c.loop-part.part-index c.part-item.result
      c.loop-part.so_far c.truth.result c.loop-part-test.true c.part-item.is c.loop-part.invariant.so_far
      (c.truth.ensures ∙ ap truth_in c.value_of.ensures);
}

pub some_hold-loop-part-preserved : goal.some_hold-loop-part-preserved
some_hold-loop-part-preserved t c = record {
  narrow = c.loop-part.invariant.narrow;
  so_far =
      c.one_holds-so_far.ensures
      ∙ fold_step one_holds truth_in (value_of c.args.sight.now) (Some false) c.args.parts.now c.loop-part.part-index c.part-item.result
      c.loop-part.so_far c.truth.result c.loop-part-test.true c.part-item.is c.loop-part.invariant.so_far
      (c.truth.ensures ∙ ap truth_in c.value_of.ensures);
}

-- a false part settles an AND, and a true one an OR
pub all_hold-returns-then-is : goal.all_hold-returns-then-is
all_hold-returns-then-is t c =
    let s = c.args.sight.now in
    let stop = c.is.ensures.0 (search rules) in
    let step =
    fold_step both_hold truth_in (value_of s) (Some true) c.args.parts.now c.loop-part.part-index c.part-item.result
    c.loop-part.so_far c.truth.result c.loop-part-test.true c.part-item.is c.loop-part.invariant.so_far
    (c.truth.ensures ∙ ap truth_in c.value_of.ensures) in
    stop ∙ fold_done both_hold truth_in (value_of s) (Some true) (Some false) (λ a. refl) c.args.parts.now (c.loop-part.part-index + 1)
    (sym step ∙ sym c.both_hold-so_far.ensures ∙ stop)

pub some_hold-returns-then-is : goal.some_hold-returns-then-is
some_hold-returns-then-is t c =
    let s = c.args.sight.now in
    let stop = c.is.ensures.0 (search rules) in
    let step =
    fold_step one_holds truth_in (value_of s) (Some false) c.args.parts.now c.loop-part.part-index c.part-item.result
    c.loop-part.so_far c.truth.result c.loop-part-test.true c.part-item.is c.loop-part.invariant.so_far
    (c.truth.ensures ∙ ap truth_in c.value_of.ensures) in
    stop ∙ fold_done one_holds truth_in (value_of s) (Some false) (Some true) (λ a. refl) c.args.parts.now (c.loop-part.part-index + 1)
    (sym step ∙ sym c.one_holds-so_far.ensures ∙ stop)
