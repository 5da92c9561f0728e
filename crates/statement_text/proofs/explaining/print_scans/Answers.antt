use Rattle.std.proofs.Common.{◌∙◌, ◌++◌, ℕ, List, map, rules, ap}
use Rattle.statement_text.specs.Explained.{scan_over, shapes_of}
use Rattle.statement_text.proofs.Scans.{blank, one_more, scans_all}
use Rattle.statement_text.proofs.explaining.print_scans.Goals as goal

pub loop-i-preserved : goal.loop-i-preserved
loop-i-preserved c =
    one_more c.args.query.now (map shapes_of c.args.tables.now) c.args.sources.now c.args.query.now.sources c.loop-i.i c.index-sources-i.result blank c.args.out.now.items c.loop-i.out.items _ c.item_name.result.now c.chosen_name.result.now c.loop-i.invariant
    (search rules) (search rules) (search rules) (search rules) (search rules) (search rules)

pub returns : goal.returns
returns c = c.loop-i.invariant ∙ ap (λ (t : List ℕ). c.args.out.now.items ++ t) (scans_all (scan_over c.args.query.now (map shapes_of c.args.tables.now)) c.args.sources.now c.args.query.now.sources c.loop-i.i (search rules))
