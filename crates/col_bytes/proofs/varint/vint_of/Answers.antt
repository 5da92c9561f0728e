use Rattle.std.proofs.Common.{◌<◌, ◌^◌, arith, rules}
use Rattle.col_bytes.specs.Spellings.{vint}
use Rattle.col_bytes.specs.Fronts.{vint_at}
use Rattle.col_bytes.proofs.Codecs.{reads_by}
use Rattle.col_bytes.proofs.Vints.{vint_codec}
use Rattle.col_bytes.proofs.varint.vint_of.Goals as goal

pub overflow_sub-result : goal.overflow_sub-result
overflow_sub-result c = (reads_by vint (λ n. n < 2 ^ 64) vint_at vint_codec c.args.bytes.now c.in_ok-n.n c.in_ok-n.rest.now (λ i. omega (arith, c.type_inv.bytes i)) (search rules)).0

pub returns : goal.returns
returns c = (reads_by vint (λ n. n < 2 ^ 64) vint_at vint_codec c.args.bytes.now c.in_ok-n.n c.in_ok-n.rest.now (λ i. omega (arith, c.type_inv.bytes i)) (search rules)).1
