use Rattle.col_bytes.proofs.Vints.{vint_codec}
use Rattle.col_bytes.proofs.Widths.{be4_codec, be8_codec}
use Rattle.col_bytes.proofs.Texts.{text_codec}
use Rattle.col_bytes.proofs.laws.read_again.Goals as goal

pub returns : goal.returns
returns c = record { vint = vint_codec.again; be8 = be8_codec.again; be4 = be4_codec.again; text = text_codec.again }
