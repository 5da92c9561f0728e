use Rattle.std.proofs.Common.{◌++◌, ◌∙◌, ap, ap₂, codes, map, List, ℕ}
use Rattle.std.proofs.lemmas.Result.{on_ok_weaker}
use Rattle.col_value.specs.declared.column.Column.{Column}
use Rattle.catalog_types.specs.declared.catalogue.ProjColumn.{ProjColumn}
use Rattle.shell_text.specs.Schemas.{comma, joined, part_text}
use Rattle.shell_text.proofs.Texts.{five_texts}
use Rattle.shell_text.proofs.schemas.print_parts.Goals as goal

pub returns : goal.returns
returns c = on_ok_weaker c.put-4.result
    (λ h. five_texts c.args.out.now.items c.put.new.out.items c.put-2.new.out.items c.put-3.new.out.items c.print_joined.new.out.items c.put-4.new.out.items
    (codes "CREATE PROJECTION ") c.args.projection.now.name (codes " (") (joined comma (map (part_text c.args.table.now.columns) c.args.projection.now.columns)) (codes ") AS SELECT ")
    c.in_ok-put.ensures (c.in_ok-put-2.ensures ∙ ap (λ (t : List ℕ). c.put.new.out.items ++ t) c.as_slice-3.ensures) c.in_ok-put-3.ensures
    (c.in_ok-print_joined.ensures ∙ ap (λ (texts : List (List ℕ)). c.put-3.new.out.items ++ joined comma texts)
    (c.as_slice-4.ensures.value ∙ c.in_ok-parts.ensures ∙ ap₂ (λ (columns : List Column) (parts : List ProjColumn). map (part_text columns) parts) c.as_slice.ensures c.as_slice-2.ensures))
    h) c.put-4.ensures
