use Rattle.std.proofs.Common.{ℕ, subst, sym}
use Rattle.std.specs.List.{All}
use Rattle.enc_delta.specs.DateDelta.{IsSince}
use Rattle.enc_delta.proofs.FirstDay.{each_since}
use Rattle.enc_delta.proofs.date_codec.DateDeltaBlockCodec.encode.Goals as goal

pub put_day_deltas-requires : goal.put_day_deltas-requires
put_day_deltas-requires c = subst (λ (b : ℕ). All (IsSince b) c.args.values.now) (sym c.day_base-base.ensures) (each_since c.args.values.now c.requires)
