use Rattle.std.proofs.Common.{◌<◌, ◌^◌, arith, length, ℕ, List, Bor}
use Rattle.col_bytes.specs.Spellings.{text}
use Rattle.col_bytes.specs.Fronts.{text_at}
use Rattle.col_bytes.proofs.Codecs.{seen_found, seen_none}
use Rattle.col_bytes.proofs.Texts.{text_codec}
use Rattle.col_bytes.proofs.text.take_text.Goals as goal

pub returns-clause-found : goal.returns-clause-found
returns-clause-found c = seen_found text (λ t. length t < 2 ^ 64) text_at text_codec c.args.bytes.now (λ (b : Bor (List ℕ)). b.now) c.text_of.result (λ i. omega (arith, c.type_inv.bytes i)) c.text_of.ensures

pub returns-clause-none : goal.returns-clause-none
returns-clause-none c = seen_none text (λ t. length t < 2 ^ 64) text_at text_codec c.args.bytes.now (λ (b : Bor (List ℕ)). b.now) c.text_of.result c.text_of.ensures
