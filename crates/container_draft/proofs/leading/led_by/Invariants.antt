use Rattle.std.proofs.Common.{◌≡◌, ◌+◌, ◌-◌, ◌≤◌, length, map, take}
use Rattle.std.specs.Vec.{vec_len, vec_capacity}
use Rattle.std.specs.List.{All}
use Rattle.container_draft.specs.Leads.{IsLed}
use Rattle.container_draft.specs.Led.{place_of}
use Rattle.container_draft.proofs.leading.led_by.Given as goal

abbrev pub invariant-loop-place : goal.invariant-loop-place
invariant-loop-place l = record {
  room : vec_len l.out + (length l.places - l.place-index) ≤ vec_capacity l.out;
  places : map place_of l.out.items ≡ take l.place-index l.places;
  led : All (IsLed l.keys l.rows) l.out.items;
}
