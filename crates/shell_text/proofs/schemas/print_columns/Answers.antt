use Rattle.std.proofs.Common.{◌++◌, ◌∙◌, ap, codes, map, List, ℕ}
use Rattle.std.proofs.lemmas.Result.{on_ok_weaker}
use Rattle.col_value.specs.declared.column.Column.{Column}
use Rattle.shell_text.specs.Schemas.{column_text, joined}
use Rattle.shell_text.proofs.Texts.{five_texts}
use Rattle.shell_text.proofs.schemas.print_columns.Goals as goal

pub returns : goal.returns
returns c = on_ok_weaker c.put-4.result
    (λ h. five_texts c.args.out.now.items c.put.new.out.items c.put-2.new.out.items c.put-3.new.out.items c.print_joined.new.out.items c.put-4.new.out.items
    (codes "CREATE TABLE ") c.args.table.now.name (codes " (\n    ") (joined (codes ",\n    ") (map column_text c.args.table.now.columns)) (codes "\n);\n")
    c.in_ok-put.ensures (c.in_ok-put-2.ensures ∙ ap (λ (t : List ℕ). c.put.new.out.items ++ t) c.as_slice-2.ensures) c.in_ok-put-3.ensures
    (c.in_ok-print_joined.ensures ∙ ap (λ (texts : List (List ℕ)). c.put-3.new.out.items ++ joined (codes ",\n    ") texts)
    (c.as_slice-3.ensures.value ∙ c.in_ok-columns.ensures ∙ ap (λ (columns : List Column). map column_text columns) c.as_slice.ensures))
    h) c.put-4.ensures
