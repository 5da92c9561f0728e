-- The PLAIN block.
use Rattle.std.specs.Prelude.{ℕ, List, ◌∷◌, Option}
use Rattle.col_bytes.specs.Spellings.{counted}
use Rattle.col_bytes.specs.Parts.{whole}
use Rattle.col_value.specs.declared.value.Value.{Value}
use Rattle.value_bytes.specs.Spelling.{spelling}
use Rattle.value_bytes.specs.Fronts.{value_at}
use Rattle.block_codec.specs.Fronts.{few_at}

-- the tag 04, how many values, and each of them
abbrev pub plain : List Value → List ℕ
plain vs = 4 ∷ counted spelling vs

-- the values of the block that all of the bytes are
abbrev pub plain_of : List ℕ → Option (List Value)
plain_of = whole 4 (few_at value_at)
