use Rattle.std.proofs.Common.{◌≡◌, ◌+◌, ◌-◌, ◌≤◌, length, map, take}
use Rattle.std.specs.Vec.{vec_len, vec_capacity}
use Rattle.container_draft.specs.Led.{place_of}
use Rattle.container_draft.proofs.leading.places_of.Given as goal

abbrev pub invariant-loop-led : goal.invariant-loop-led
invariant-loop-led l = record {
  room : vec_len l.out + (length l.leds - l.led-index) ≤ vec_capacity l.out;
  places : l.out.items ≡ map place_of (take l.led-index l.leds);
}
