-- What a column may have, it may have a front and a rest of.
use Rattle.std.proofs.Common.{ℕ, List, take, drop, inl, inr}
use Rattle.std.proofs.lemmas.List.Elements.{All-take, All-drop}
use Rattle.col_value.specs.declared.kinds.Encoding.{Encoding}
use Rattle.col_value.specs.declared.kinds.Encoding.TheVariants as encoding
use Rattle.col_value.specs.declared.value.Value.{Value}
use Rattle.enc_delta.specs.DateDelta.{IsDated}
use Rattle.enc_delta.specs.Delta.{IsNumeric}
use Rattle.block_choice.specs.Choice.{TakesAll}

pub front_taken : (e : Encoding) (n : ℕ) (vs : List Value) → TakesAll e vs → TakesAll e (take n vs)
front_taken encoding.Auto n vs taken = tt
front_taken encoding.Rle n vs taken = tt
front_taken encoding.DeltaVal n vs (inl numbers) = inl (All-take IsNumeric n vs numbers)
front_taken encoding.DeltaVal n vs (inr dates) = inr (All-take IsDated n vs dates)
front_taken encoding.BlockDict n vs taken = tt
front_taken encoding.Plain n vs taken = tt

pub rest_taken : (e : Encoding) (n : ℕ) (vs : List Value) → TakesAll e vs → TakesAll e (drop n vs)
rest_taken encoding.Auto n vs taken = tt
rest_taken encoding.Rle n vs taken = tt
rest_taken encoding.DeltaVal n vs (inl numbers) = inl (All-drop IsNumeric n vs numbers)
rest_taken encoding.DeltaVal n vs (inr dates) = inr (All-drop IsDated n vs dates)
rest_taken encoding.BlockDict n vs taken = tt
rest_taken encoding.Plain n vs taken = tt
