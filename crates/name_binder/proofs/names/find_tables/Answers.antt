use Rattle.std.proofs.Common.{sym, ap, ◌∙◌, ℕ, List, Some}
use Rattle.col_value.specs.declared.column.Column.{Column}
use Rattle.name_binder.proofs.Theres.{found_all}
use Rattle.name_binder.proofs.names.find_tables.Goals as goal

pub returns-clause-all : goal.returns-clause-all
returns-clause-all c =
    (found_all c.args.found.now c.args.query.now c.requires c.in_ok-check_tables.ensures.ok).all
    ∙ ap (λ (ts : List (ℕ × List Column)). Some ts) (sym c.in_ok-tables_found.ensures)
