use Rattle.std.proofs.Common.{◌<◌, ◌^◌, length}
use Rattle.std.specs.Prelude.{FitsSigned}
use Rattle.std.specs.Int.{w64}
use Rattle.col_bytes.specs.Spellings.{vint, be8, be4, text}
use Rattle.col_bytes.specs.Fronts.{vint_at, be8_at, be4_at, text_at}
use Rattle.col_bytes.proofs.Codecs as codecs
use Rattle.col_bytes.proofs.Vints.{vint_codec}
use Rattle.col_bytes.proofs.Widths.{be4_codec, be8_codec}
use Rattle.col_bytes.proofs.Texts.{text_codec}
use Rattle.col_bytes.proofs.laws.one_form.Goals as goal

pub returns : goal.returns
returns c = record {
  vint = codecs.one_form vint (λ n. n < 2 ^ 64) vint_at vint_codec;
  be8 = codecs.one_form be8 (FitsSigned w64) be8_at be8_codec;
  be4 = codecs.one_form be4 (λ n. n < 2 ^ 32) be4_at be4_codec;
  text = codecs.one_form text (λ t. length t < 2 ^ 64) text_at text_codec;
}
