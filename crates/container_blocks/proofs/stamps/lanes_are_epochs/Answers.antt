use Rattle.ros_container.specs.Rows.{IsEpochOf}
use Rattle.container_blocks.proofs.Picked.{all_numbers, all_picked}
use Rattle.container_blocks.proofs.stamps.lanes_are_epochs.Goals as goal

pub returns-in-Some : goal.returns-in-Some
returns-in-Some c = record {
  yes = λ on. all_picked (IsEpochOf c.args.entry.now) c.in-Some.words.now c.in-Some.field-0-1.now c.args.values.now c.in-Some.ensures.picked c.in-Some.ensures.within (c.words_are_epochs.ensures.yes on);
}

pub returns-in-Some-numbers : goal.returns-in-Some-numbers
returns-in-Some-numbers c = record {
  yes = λ on. all_numbers (IsEpochOf c.args.entry.now) c.in-Some-numbers.numbers.now c.args.values.now c.in-Some-numbers.ensures (c.numbers_are_epochs.ensures.yes on);
}
