use Rattle.std.proofs.Common.{map}
use Rattle.block_codec.specs.Held.{day_value}
use Rattle.exec_scan.proofs.Narrowing.{StayUpto}
use Rattle.exec_scan.proofs.ruling.rule_out_days.Given as goal

abbrev pub invariant-loop-i : goal.invariant-loop-i
invariant-loop-i l = StayUpto l.bound (map day_value l.days) l.i l.fn.alive l.alive
