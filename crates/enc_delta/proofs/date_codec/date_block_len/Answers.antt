use Rattle.std.proofs.Common.{ℕ, subst, sym}
use Rattle.std.specs.List.{All}
use Rattle.enc_delta.specs.DateDelta.{IsSince}
use Rattle.enc_delta.proofs.FirstDay.{each_since}
use Rattle.enc_delta.proofs.date_codec.date_block_len.Goals as goal

pub day_deltas_len-requires-clause-values : goal.day_deltas_len-requires-clause-values
day_deltas_len-requires-clause-values c = subst (λ (b : ℕ). All (IsSince b) c.args.values.now) (sym c.day_base.ensures) (each_since c.args.values.now c.requires)
