use Rattle.std.proofs.Common.{◌≡◌, ◌<◌, ◌++◌, ◌∷◌, [], rules, List, length, get_or}
use Rattle.col_value.specs.declared.value.Value.{Value}
use Rattle.row_matching.proofs.Copied.{moved_on}
use Rattle.row_matching.proofs.matching.Matched.rows.Goals as goal

pub loop-row-preserved : goal.loop-row-preserved
loop-row-preserved c =
    let rows = c.args.self.now.pending.items in
    let within : c.loop-row.row-index < length rows = search rules in
    let row : c.row-item.result ≡ get_or rows c.loop-row.row-index c.row-item.result = search rules in
    let more : c.push-in-loop-row.new.self.items ≡ c.loop-row.out.items ++ c.row-item.result ∷ [] = search rules in
    record {
      rows = moved_on rows c.loop-row.row-index c.row-item.result c.loop-row.out.items c.push-in-loop-row.new.self.items _ within row more c.loop-row.invariant.rows;
      valid = search rules;
    }
