use Rattle.std.proofs.Common.{◌≡◌, ◌-◌, map}
use Rattle.col_bytes.specs.Parts.{many}
use Rattle.col_bytes.proofs.ReadOn.{with_front}
use Rattle.block_codec.specs.Held.{day_value}
use Rattle.enc_delta.specs.DateFronts.{since_at}
use Rattle.enc_delta.proofs.day_read.read_dates.Given as goal

abbrev pub invariant-loop : goal.invariant-loop
invariant-loop l = with_front (map day_value l.days.items) (many (since_at l.base) (l.count - l.counter) l.rest) ≡ many (since_at l.base) l.count l.bytes
