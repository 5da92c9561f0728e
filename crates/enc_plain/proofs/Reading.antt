-- The block that is read is the block that was spelled.
use Rattle.std.proofs.Common.{◌≡◌, List}
use Rattle.std.proofs.lemmas.List.Elements.{All-from_recursion, recursion_from_All}
use Rattle.col_bytes.specs.Spellings.{counted}
use Rattle.col_bytes.proofs.Whole.{IsReader, whole_reader, refit_reader, one_spelled}
use Rattle.col_value.specs.declared.value.Value.{Value}
use Rattle.value_bytes.specs.Spelling.{spelling, IsSpelled}
use Rattle.value_bytes.specs.Fronts.{value_at}
use Rattle.value_bytes.proofs.Values.{value_codec}
use Rattle.block_codec.specs.Blocks.{IsOneBlock}
use Rattle.block_codec.specs.Fronts.{few_at}
use Rattle.block_codec.proofs.Few.{AreFew, few_codec}
use Rattle.enc_plain.specs.Plain.{plain, plain_of}

pub plain_reader : IsReader plain IsOneBlock plain_of
plain_reader = refit_reader plain (AreFew IsSpelled) IsOneBlock plain_of
    (whole_reader 4 (counted spelling) (AreFew IsSpelled) (few_at value_at) (few_codec spelling IsSpelled value_at value_codec))
    (λ vs fit. record { some = fit.long.some; few = fit.long.few; values = All-from_recursion IsSpelled vs fit.each })
    (λ vs is. record { long = record { some = is.some; few = is.few }; each = recursion_from_All IsSpelled vs is.values })

pub plain_one : (vs ws : List Value) → IsOneBlock vs → IsOneBlock ws → plain vs ≡ plain ws → vs ≡ ws
plain_one = one_spelled plain IsOneBlock plain_of plain_reader
