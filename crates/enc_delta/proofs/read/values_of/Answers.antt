use Rattle.enc_delta.proofs.Lows.{values_low}
use Rattle.enc_delta.proofs.read.values_of.Goals as goal

pub is_base-requires-clause-low : goal.is_base-requires-clause-low
is_base-requires-clause-low c = rw c.as_slice.ensures.value (values_low _ _ _ _ _ c.in_ok-numbers.ensures)
