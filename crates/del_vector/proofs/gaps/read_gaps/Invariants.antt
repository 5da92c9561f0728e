use Rattle.std.proofs.Common.{◌≡◌, ◌-◌}
use Rattle.col_bytes.specs.Parts.{many}
use Rattle.col_bytes.proofs.ReadOn.{with_front}
use Rattle.del_vector.specs.Fronts.{gap_at}
use Rattle.del_vector.proofs.gaps.read_gaps.Given as goal

abbrev pub invariant-loop : goal.invariant-loop
invariant-loop l = with_front l.gaps.items (many gap_at (l.count - l.counter) l.rest) ≡ many gap_at l.count l.bytes
