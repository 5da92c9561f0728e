use Rattle.std.proofs.Common.{rules}
use Rattle.std.proofs.lemmas.List.MinMax.{ranks_by}
use Rattle.std.proofs.lemmas.Fn.{always_returns_same}
use Rattle.std.specs.Ordering.{is_lt}
use Rattle.container_draft.specs.declared.leading.Led.{Led}
use Rattle.container_draft.specs.Leads.{led_cmp}
use Rattle.container_draft.proofs.ByLeads.{led_total}
use Rattle.container_draft.proofs.leading.by_leads.Goals as goal

pub returns-clause-ascending : goal.returns-clause-ascending
returns-clause-ascending c =
    c.in_ok-sort_by.ensures.sorted (λ x y. is_lt (led_cmp c.args.shape.now c.args.rows.now x y)) (ranks_by (led_total c.args.shape.now c.args.rows.now) (λ (l : Led). l)) (always_returns_same _ _ _ (λ a r g h. search rules))
