use Rattle.std.proofs.Common.{◌≡◌, sym, ap₂, ◌∙◌, subst, ℕ, List, Option, None, rules}
use Rattle.std.specs.Prelude.{option_map}
use Rattle.std.specs.Result.{IfErr, OnOk}
use Rattle.sql_tree.specs.declared.query.SortKey.{SortKey}
use Rattle.sql_tree.specs.declared.refusal.Refusal.{Refusal}
use Rattle.sql_binding.specs.Firsts.{first_given}
use Rattle.sql_binding.specs.Outputs.{output_names, twice_named}
use Rattle.sql_binding.specs.Queries.{ambiguous_name, twice_search}
use Rattle.name_binder.specs.Looks.{first_before_order}
use Rattle.name_binder.specs.Refusing.{RefusesBy}
use Rattle.name_binder.proofs.Parts.{twice_before_order, refused_before, behind_order}
use Rattle.name_binder.proofs.names.check_twice.Goals as goal

pub returns-in_err-check_before_order-clause-refused : goal.returns-in_err-check_before_order-clause-refused
returns-in_err-check_before_order-clause-refused c =
    let seen = c.args.seen.now in
    let q = c.args.query.now in
    let h = refused_before Refusal.Ambiguous (first_before_order (twice_search seen q) q) (first_given (λ (k : SortKey). twice_named (output_names seen q.items) k.key) q.order) (ambiguous_name seen q) _
    (twice_before_order seen q) c.in_err-check_before_order.ensures.refused in
    search rules

pub returns-clause-ok : goal.returns-clause-ok
returns-clause-ok c =
    let seen = c.args.seen.now in
    let q = c.args.query.now in
    let key = c.in_ok-key.ensures ∙ ap₂ (λ (os : List (Option (List ℕ))) (ks : List SortKey). first_given (λ (k : SortKey). twice_named os k.key) ks) c.requires c.as_slice.ensures in
    let same = behind_order (first_before_order (twice_search seen q) q) _ (ambiguous_name seen q) _ (twice_before_order seen q) c.in_ok-check_before_order.ensures.ok key in
    subst (λ (n : Option (List ℕ)). OnOk c.check_key.result (n ≡ None)) (sym same) c.check_key.ensures.ok

pub returns-clause-refused : goal.returns-clause-refused
returns-clause-refused c =
    let seen = c.args.seen.now in
    let q = c.args.query.now in
    let key = c.in_ok-key.ensures ∙ ap₂ (λ (os : List (Option (List ℕ))) (ks : List SortKey). first_given (λ (k : SortKey). twice_named os k.key) ks) c.requires c.as_slice.ensures in
    let same = behind_order (first_before_order (twice_search seen q) q) _ (ambiguous_name seen q) _ (twice_before_order seen q) c.in_ok-check_before_order.ensures.ok key in
    subst (λ (n : Option (List ℕ)). IfErr c.check_key.result (RefusesBy (option_map Refusal.Ambiguous n))) (sym same) c.check_key.ensures.refused
