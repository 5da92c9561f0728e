use Rattle.std.proofs.Common.{◌≡◌, ◌+◌, ◌-◌, ◌≤◌, length, take}
use Rattle.std.specs.Vec.{vec_len, vec_capacity}
use Rattle.sql_bound.specs.Outputs.{keys_of}
use Rattle.exec_group.specs.Codes.{AreNoted}
use Rattle.exec_group.specs.Columns.{row_of}
use Rattle.exec_group.specs.Groups.{AreEntered}
use Rattle.exec_group.proofs.held_keys.Keys.enter_coded.Given as goal

abbrev pub invariant-loop-place : goal.invariant-loop-place
invariant-loop-place g l = record {
  entered : AreEntered (λ p. keys_of l.keys (row_of l.columns p)) (take l.place-index l.places) l.fn.self l.self l.out.items;
  noted : AreNoted (λ p. keys_of l.keys (row_of l.columns p)) (g.C.Codes.code l.codes) l.noted.items l.self;
  long : length l.noted.items ≡ g.C.Codes.size l.codes;
  room : vec_len l.out + (length l.places - l.place-index) ≤ vec_capacity l.out;
}
