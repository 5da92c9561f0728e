use Rattle.enc_plain.proofs.Reading.{plain_one}
use Rattle.enc_plain.proofs.plain.PlainBlockCodec.laws.Goals as goal

pub returns-clause-one_list : goal.returns-clause-one_list
returns-clause-one_list c = plain_one
