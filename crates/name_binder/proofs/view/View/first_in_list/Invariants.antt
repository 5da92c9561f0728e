use Rattle.std.proofs.Common.{◌≡◌, drop, false}
use Rattle.sql_binding.specs.Firsts.{first_given}
use Rattle.sql_binding.specs.Uses.{item_uses}
use Rattle.name_binder.specs.Looks.{named_in}
use Rattle.name_binder.proofs.view.View.first_in_list.Given as goal

abbrev pub invariant-loop-item : goal.invariant-loop-item
invariant-loop-item l = first_given (λ i. first_given (named_in l.self false) (item_uses i.tree)) (drop l.item-index l.items) ≡ first_given (λ i. first_given (named_in l.self false) (item_uses i.tree)) l.items
