use Rattle.std.proofs.Common.{◌≡◌, rules}
use Rattle.std.specs.Prelude.{None}
use Rattle.del_vector.specs.Marks.{epoch_at, with_mark}
use Rattle.moveout_job.proofs.Joined.{put_unmarked, put_within}
use Rattle.moveout_job.proofs.marks.put_mark.Goals as goal

pub returns-in_ok-reserve-in-None-clause-epochs : goal.returns-in_ok-reserve-in-None-clause-epochs
returns-in_ok-reserve-in-None-clause-epochs c =
    let none : epoch_at c.args.vector.now.marks c.args.mark.position ≡ None = search rules in
    let is : c.add.new.self.marks ≡ with_mark c.args.mark c.args.vector.now.marks = search rules in
    λ i. put_unmarked c.args.vector.now.marks c.add.new.self.marks c.args.mark i none is

pub returns-in_ok-reserve-in-None-clause-within : goal.returns-in_ok-reserve-in-None-clause-within
returns-in_ok-reserve-in-None-clause-within c =
    let is : c.add.new.self.marks ≡ with_mark c.args.mark c.args.vector.now.marks = search rules in
    λ n lt all. put_within n c.args.vector.now.marks c.add.new.self.marks c.args.mark is lt all
