use Rattle.std.proofs.Common.{arith}
use Rattle.block_codec.specs.Blocks.{IsOneBlock}
use Rattle.block_codec.proofs.Answered.{values_found, values_none}
use Rattle.enc_plain.specs.Plain.{plain, plain_of}
use Rattle.enc_plain.proofs.Reading.{plain_reader}
use Rattle.enc_plain.proofs.plain.PlainBlockCodec.decode.Goals as goal

pub returns-clause-found : goal.returns-clause-found
returns-clause-found c = values_found plain IsOneBlock plain_of plain_reader c.args.bytes.now c.values_of.result c.told.result (λ i. omega (arith, c.type_inv.bytes i)) c.values_of.ensures c.told.ensures

pub returns-clause-none : goal.returns-clause-none
returns-clause-none c = values_none plain IsOneBlock plain_of plain_reader c.args.bytes.now c.values_of.result c.told.result c.values_of.ensures c.told.ensures
