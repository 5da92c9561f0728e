use Rattle.std.proofs.Common.{◌≡◌, List, arith, length, rules}
use Rattle.col_value.specs.declared.value.Value.{Value}
use Rattle.query_laws.proofs.Sequences.{all_next}
use Rattle.query_run.proofs.Finding.{all_seen}
use Rattle.query_run.proofs.columned.all_have.Goals as goal

pub loop-row-preserved : goal.loop-row-preserved
loop-row-preserved c =
    let here : length c.row-item.result ≡ c.args.width = search rules in
    all_next (λ (r : List Value). length r ≡ c.args.width) c.args.rows.now c.loop-row.row-index c.row-item.result c.loop-row-test.true c.row-item.is c.loop-row.invariant here

pub returns : goal.returns
returns c = λ yes. all_seen (λ (r : List Value). length r ≡ c.args.width) c.args.rows.now c.loop-row.row-index (omega (arith, c.loop-row-test.false)) c.loop-row.invariant
