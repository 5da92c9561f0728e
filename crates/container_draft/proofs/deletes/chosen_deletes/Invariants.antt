use Rattle.std.proofs.Common.{◌≡◌, take}
use Rattle.merge_rows.specs.Inputs.{chosen}
use Rattle.container_draft.specs.Reading.{deletes_in}
use Rattle.container_draft.proofs.deletes.chosen_deletes.Given as goal

abbrev pub invariant-loop-i : goal.invariant-loop-i
invariant-loop-i l = l.out.items ≡ deletes_in (chosen (take l.i l.inputs) (take l.i l.p.stored.entry.containers)) (chosen (take l.i l.inputs) (take l.i l.p.stored.beside))
