use Rattle.std.proofs.Common.{◌≡◌, ◌++◌, ◌∷◌, [], ap, map, ◌∙◌, length, ◌<◌, rules}
use Rattle.std.proofs.lemmas.List.{length-map, map-append}
use Rattle.exec_group.specs.Columns.{padded}
use Rattle.exec_group.specs.Counted.{counts_as}
use Rattle.exec_group.specs.declared.accumulator.Accumulator.TheVariants.{Rows}
use Rattle.exec_group.proofs.Counting.{pad_more_counts}
use Rattle.exec_group.proofs.kept.pad_counts.Goals as goal

pub loop-counts-preserved : goal.loop-counts-preserved
loop-counts-preserved c =
    let more : c.push.new.self.items ≡ c.loop-counts.counts.items ++ 0 ∷ [] = search rules in
    let left : length c.loop-counts.counts.items < c.args.count = search rules in
    pad_more_counts c.args.count c.loop-counts.counts.items c.push.new.self.items more left ∙ c.loop-counts.invariant
