use Rattle.std.proofs.Common.{◌≡◌, ℕ, ◌+◌, refl, ◌∙◌, ap, subst, arith}
use Rattle.col_disk.specs.Moved.{Moved, NoName}
use Rattle.col_disk.proofs.Moving.{moved_join, moved_none}
use Rattle.ros_container.specs.Encodings.{written_of}
use Rattle.container_writer.specs.Writing.{DataFrom}
use Rattle.container_draft.specs.Draft.{Drafted}
use Rattle.table_jobs.proofs.Writing.{column_moved, drafts_more}
use Rattle.table_jobs.proofs.refreshing.write_columns.Goals as goal

pub loop-init : goal.loop-init
loop-init g c = record {
  done = c.requires.begun;
  base = refl;
  rows = refl;
  places = refl;
  mark = refl;
  via = refl;
  draft = λ m told draft. (m, told, draft);
  moved = moved_none g.D.Disk c.args.disk.now;
  count = omega arith;
}

pub returns-in-Err-clause-moved : goal.returns-in-Err-clause-moved
returns-in-Err-clause-moved g c =
    let base = c.loop.job.draft.base in
    let one : Moved g.D.Disk (DataFrom base) NoName c.loop.disk c.advance.new.disk = column_moved g.D.Disk base c.loop.job.draft.done c.advance.ensures.moved in
    moved_join g.D.Disk c.loop.invariant.moved (subst (λ (n : ℕ). Moved g.D.Disk (DataFrom n) NoName c.loop.disk c.advance.new.disk) c.loop.invariant.base one)

pub loop-preserved : goal.loop-preserved
loop-preserved g c =
    let base = c.loop.job.draft.base in
    let one : Moved g.D.Disk (DataFrom base) NoName c.loop.disk c.advance.new.disk = column_moved g.D.Disk base c.loop.job.draft.done c.advance.ensures.moved in
    let step = c.in-Ok.ensures.done in
    let more : c.advance.new.self.draft.done ≡ 1 + c.loop.job.draft.done = ap (λ (d : Drafted). d.done) step in
    let before = c.loop.invariant.done in
    record {
      done = omega (arith, more, before);
      base = ap (λ (d : Drafted). d.base) step ∙ c.loop.invariant.base;
      rows = ap (λ (d : Drafted). d.rows) step ∙ c.loop.invariant.rows;
      places = ap (λ (d : Drafted). d.places) step ∙ c.loop.invariant.places;
      mark = c.advance.ensures.mark ∙ c.loop.invariant.mark;
      via = c.advance.ensures.via ∙ c.loop.invariant.via;
      draft = drafts_more g.D.Disk (written_of c.args.shape.now) c.args.job.now.draft c.loop.job.draft c.advance.new.self.draft one c.in-Ok.ensures.draft c.loop.invariant.draft;
      moved = moved_join g.D.Disk c.loop.invariant.moved (subst (λ (n : ℕ). Moved g.D.Disk (DataFrom n) NoName c.loop.disk c.advance.new.disk) c.loop.invariant.base one);
      count = omega (arith, c.loop.invariant.count, c.advance.ensures.cause.later);
    }
