use Rattle.std.proofs.Common.{sym, ap, ◌∙◌, List, arith}
use Rattle.std.proofs.lemmas.Grind.{common_steps}
use Rattle.sql_tree.specs.declared.tree.Term.{Term}
use Rattle.sql_tree.specs.declared.tree.Tree.{Tree}
use Rattle.sql_binding.specs.Firsts.{first_given}
use Rattle.sql_binding.specs.Uses.{uses}
use Rattle.name_binder.specs.Looks.{named_in, term_uses}
use Rattle.name_binder.proofs.Walks.{in_sum, in_product, in_and, in_or, in_both, in_aggregate}
use Rattle.name_binder.proofs.view.View.+walk.Goals as goal

pub first_in-returns-in-Sum : goal.first_in-returns-in-Sum
first_in-returns-in-Sum t c =
    let f = named_in c.args.self c.args.inside in
    c.first_in_terms.ensures
    ∙ (ap (λ (ts : List Term). first_given (λ (t : Term). first_given f (term_uses t)) ts) c.as_slice.ensures
    ∙ (sym (in_sum f c.in-Sum.terms) ∙ ap (λ (t : Tree). first_given f (uses t)) (sym c.in-Sum.is)))

pub first_in-returns-in-Product : goal.first_in-returns-in-Product
first_in-returns-in-Product t c =
    let f = named_in c.args.self c.args.inside in
    c.first_in_trees.ensures
    ∙ (ap (λ (ts : List Tree). first_given (λ (t : Tree). first_given f (uses t)) ts) c.as_slice-in-Product.ensures
    ∙ (sym (in_product f c.in-Product.parts) ∙ ap (λ (t : Tree). first_given f (uses t)) (sym c.in-Product.is)))

pub first_in-returns-in-And : goal.first_in-returns-in-And
first_in-returns-in-And t c =
    let f = named_in c.args.self c.args.inside in
    c.first_in_trees-in-And.ensures
    ∙ (ap (λ (ts : List Tree). first_given (λ (t : Tree). first_given f (uses t)) ts) c.as_slice-in-And.ensures
    ∙ (sym (in_and f c.in-And.parts) ∙ ap (λ (t : Tree). first_given f (uses t)) (sym c.in-And.is)))

pub first_in-returns-in-Or : goal.first_in-returns-in-Or
first_in-returns-in-Or t c =
    let f = named_in c.args.self c.args.inside in
    c.first_in_trees-in-Or.ensures
    ∙ (ap (λ (ts : List Tree). first_given (λ (t : Tree). first_given f (uses t)) ts) c.as_slice-in-Or.ensures
    ∙ (sym (in_or f c.in-Or.parts) ∙ ap (λ (t : Tree). first_given f (uses t)) (sym c.in-Or.is)))

pub first_in-returns-in-Some : goal.first_in-returns-in-Some
first_in-returns-in-Some t c =
    let f = named_in c.args.self c.args.inside in
    let e = in_both f c.in-Compare.left c.in-Compare.field-1 c.in-Compare.right in
    let h = c.in-Some.ensures in
    let i = c.in-Compare.is in
    grind (arith, common_steps, e, h, i)

pub first_in-returns-in-None : goal.first_in-returns-in-None
first_in-returns-in-None t c =
    let f = named_in c.args.self c.args.inside in
    let e = in_both f c.in-Compare.left c.in-Compare.field-1 c.in-Compare.right in
    let h = c.in-None.ensures in
    let i = c.in-Compare.is in
    grind (arith, common_steps, e, h, i)

pub first_in-returns-in-Agg : goal.first_in-returns-in-Agg
first_in-returns-in-Agg t c =
    let f = named_in c.args.self c.args.inside in
    c.first_in_arg.ensures
    ∙ (sym (in_aggregate c.args.self c.args.inside c.in-Agg.field-0 c.in-Agg.arg)
    ∙ ap (λ (u : Tree). first_given f (uses u)) (sym c.in-Agg.is))
