use Rattle.std.proofs.Common.{◌≡◌, ◌-◌, ◌^◌, ◌<◌}
use Rattle.container_draft.specs.Ranks.{head_from}
use Rattle.container_draft.proofs.ranks.head.Given as goal

abbrev pub invariant-loop-i : goal.invariant-loop-i
invariant-loop-i l = record {
  digits : head_from (7 - l.i) l.head l.rest ≡ head_from 7 0 l.text;
  few : l.head < 256 ^ l.i;
}
