use Rattle.std.proofs.Common.{◌≡◌, ◌∙◌, sym, ap, rules, List, ℕ, Option, None, false, option_map, Bor}
use Rattle.sql_tree.specs.declared.query.WindowKey.{WindowKey}
use Rattle.sql_binding.specs.Firsts.{first_given}
use Rattle.sql_binding.specs.Uses.{used_outside}
use Rattle.name_binder.specs.Looks.{named_in}
use Rattle.name_binder.proofs.Walks.{window_to_keys}
use Rattle.name_binder.proofs.view.View.first_in_window.Goals as goal

pub returns : goal.returns
returns c =
    let f = named_in c.args.self false in
    let none : c.first_in_condition.result ≡ None = search rules in
    let neither : c.first_in_group.result ≡ None = search rules in
    let bare = λ (o : Option (Bor (List ℕ))). option_map (λ (n : Bor (List ℕ)). n.now) o in
    c.first_in_keys.ensures ∙ ap (first_given (λ (k : WindowKey). f (used_outside k.column))) c.as_slice-2.ensures
    ∙ window_to_keys f c.args.window.now (sym c.first_in_condition.ensures ∙ ap bare none)
    (ap (first_given (λ r. f (used_outside r))) (sym c.as_slice.ensures) ∙ sym c.first_in_group.ensures ∙ ap bare neither)
