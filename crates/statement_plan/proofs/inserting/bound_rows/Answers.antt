use Rattle.std.proofs.Common.{sym, ◌∙◌, ap}
use Rattle.std.specs.Prelude.{Some, option_map}
use Rattle.sql_tree.specs.declared.refusal.Refusal.{Refusal}
use Rattle.statement_plan.proofs.Joining.{refused_rows}
use Rattle.statement_plan.proofs.inserting.bound_rows.Goals as goal

pub returns-in-Err-Refused-clause-refused : goal.returns-in-Err-Refused-clause-refused
returns-in-Err-Refused-clause-refused c =
    refused_rows (option_map (λ t. t.1) c.args.found.now) c.args.other c.args.insert.now c.in-Err-Refused.refusal
    (rw c.in-Err-Refused.field-0-is at c.in-Err-Refused.ensures.refused)
    ∙ ap (λ (told : Refusal). Some told) (sym c.in_order.ensures)
