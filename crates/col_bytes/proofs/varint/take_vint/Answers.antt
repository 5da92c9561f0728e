use Rattle.std.proofs.Common.{◌<◌, ◌^◌, arith}
use Rattle.col_bytes.specs.Spellings.{vint}
use Rattle.col_bytes.specs.Fronts.{vint_at}
use Rattle.col_bytes.proofs.Codecs.{reads_found, reads_none}
use Rattle.col_bytes.proofs.Vints.{vint_codec}
use Rattle.col_bytes.proofs.varint.take_vint.Goals as goal

pub returns-clause-found : goal.returns-clause-found
returns-clause-found c = reads_found vint (λ n. n < 2 ^ 64) vint_at vint_codec c.args.bytes.now c.vint_of.result (λ i. omega (arith, c.type_inv.bytes i)) c.vint_of.ensures

pub returns-clause-none : goal.returns-clause-none
returns-clause-none c = reads_none vint (λ n. n < 2 ^ 64) vint_at vint_codec c.args.bytes.now c.vint_of.result c.vint_of.ensures
