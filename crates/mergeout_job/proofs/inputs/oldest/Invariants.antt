use Rattle.std.proofs.Common.{◌≡◌, ◌++◌, drop}
use Rattle.mergeout_job.specs.Oldest.{oldest}
use Rattle.mergeout_job.proofs.inputs.oldest.Given as goal

abbrev pub invariant-loop-container : goal.invariant-loop-container
invariant-loop-container l = l.out.items ++ oldest l.left l.level (drop l.container-index l.containers) ≡ oldest l.count l.level l.containers
