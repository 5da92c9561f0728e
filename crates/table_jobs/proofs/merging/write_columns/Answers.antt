use Rattle.std.proofs.Common.{◌≡◌, ℕ, ◌+◌, refl, ◌∙◌, ap, subst, arith}
use Rattle.col_disk.specs.Moved.{Moved, NoName}
use Rattle.col_disk.proofs.Moving.{moved_join, moved_none}
use Rattle.ros_container.specs.Encodings.{written_of}
use Rattle.container_writer.specs.Writing.{DataFrom}
use Rattle.container_draft.specs.Draft.{Drafted}
use Rattle.table_jobs.proofs.Writing.{column_moved, drafts_more}
use Rattle.table_jobs.proofs.merging.write_columns.Goals as goal

pub loop-init : goal.loop-init
loop-init g c = record {
  done = c.requires.begun;
  base = refl;
  merge = refl;
  level = refl;
  draft = λ m told draft. (m, told, draft);
  moved = moved_none g.D.Disk c.args.disk.now;
  count = omega arith;
}

pub returns-in-Err-clause-moved : goal.returns-in-Err-clause-moved
returns-in-Err-clause-moved g c =
    let base = c.loop.job.draft.base in
    let one : Moved g.D.Disk (DataFrom base) NoName c.loop.disk c.advance.new.disk = column_moved g.D.Disk base c.loop.job.draft.done c.advance.ensures.moved in
    moved_join g.D.Disk c.loop.invariant.moved (subst (λ (n : ℕ). Moved g.D.Disk (DataFrom n) NoName c.loop.disk c.advance.new.disk) c.loop.invariant.base one)

pub loop-preserved : goal.loop-preserved
loop-preserved g c =
    let base = c.loop.job.draft.base in
    let one : Moved g.D.Disk (DataFrom base) NoName c.loop.disk c.advance.new.disk = column_moved g.D.Disk base c.loop.job.draft.done c.advance.ensures.moved in
    let step = c.in-Ok.ensures.done in
    let more : c.advance.new.self.draft.done ≡ 1 + c.loop.job.draft.done = ap (λ (d : Drafted). d.done) step in
    let before = c.loop.invariant.done in
    record {
      done = omega (arith, more, before);
      base = ap (λ (d : Drafted). d.base) step ∙ c.loop.invariant.base;
      merge = c.advance.ensures.merge ∙ c.loop.invariant.merge;
      level = c.advance.ensures.level ∙ c.loop.invariant.level;
      draft = drafts_more g.D.Disk (written_of c.args.p.now.stored.entry) c.args.job.now.draft c.loop.job.draft c.advance.new.self.draft one c.in-Ok.ensures.draft c.loop.invariant.draft;
      moved = moved_join g.D.Disk c.loop.invariant.moved (subst (λ (n : ℕ). Moved g.D.Disk (DataFrom n) NoName c.loop.disk c.advance.new.disk) c.loop.invariant.base one);
      count = omega (arith, c.loop.invariant.count, c.advance.ensures.cause.later);
    }
