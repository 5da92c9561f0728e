use Rattle.std.proofs.Common.{◌++◌, ◌∙◌, ap, codes, List, ℕ}
use Rattle.std.proofs.lemmas.Result.{on_ok_weaker}
use Rattle.shell_text.proofs.Texts.{three_texts}
use Rattle.shell_text.proofs.schemas.print_drop.Goals as goal

pub returns : goal.returns
returns c = on_ok_weaker c.put-3.result
    (λ h. three_texts c.args.out.now.items c.put.new.out.items c.put-2.new.out.items c.put-3.new.out.items (codes "DROP PROJECTION ") c.args.table.now.name (codes "_super;\n") c.in_ok-put.ensures (c.in_ok-put-2.ensures ∙ ap (λ (t : List ℕ). c.put.new.out.items ++ t) c.as_slice.ensures) h) c.put-3.ensures
