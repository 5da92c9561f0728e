use Rattle.std.proofs.Common.{take}
use Rattle.literal_sets.proofs.Ors.{HaveKeys}
use Rattle.literal_sets.proofs.set.keys_of.Given as goal

abbrev pub invariant-loop-part : goal.invariant-loop-part
invariant-loop-part l = HaveKeys (take l.part-index l.parts) l.column l.keys
